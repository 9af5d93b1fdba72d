-- A body asks at most one thing.
use Rattle.std.proofs.Common.{◌≡◌, ℕ, ◌/◌, ◌%◌, codes, List, Option, Some, None, true, get_or, option_and_then, IsSomeAnd, [], ◌∷◌, refl, ap, sym, ◌∙◌, arith}
use Rattle.serde_json.specs.Data.{Data, null, boolean, number, string, array, object, Items, no_items, item}
use Rattle.serde_json.specs.Find.{get, as_number, as_str, as_u64}
use Rattle.http_messages.specs.Table.{below_limit}
use Rattle.numbers.specs.Texts.{spid_text}
use Rattle.numbers.proofs.DigitLemmas.{digits_of-injective}
use Rattle.model.specs.Commands.{Command, VersionCommand, RegisterCarrier, RegisterRoutingNumber, Disconnect, Release, SetWindows}
use Rattle.model.specs.Windows.{Windows}
use Rattle.model.specs.History.{CommandRequest}
use Rattle.requests.specs.Calls.{RequestCall, MomentCall}
use Rattle.http_messages.specs.declared.paths.Route.{Route}
use Rattle.http_messages.specs.declared.paths.Route.TheVariants.{Carriers, Clock, RoutingNumbers, Codes, OldProviderCreate as OldProviderPath, NewProviderCreate as NewProviderPath, OnVersion as VersionPaths, OnBlock as BlockPaths, Acknowledge, Query, Windows as WindowsPath, Version, Number, Downloads}
use Rattle.http_messages.specs.declared.paths.VersionPath.{VersionPath}
use Rattle.http_messages.specs.declared.paths.VersionPath.TheVariants.{Activate as ActivatePath, PutInConflict as PutInConflictPath, RemoveFromConflict as RemoveFromConflictPath, Cancel as CancelPath, OldProviderCancellationAcknowledge as OldAcknowledgePath, NewProviderCancellationAcknowledge as NewAcknowledgePath, Disconnect as DisconnectPath, ModifyRouting as ModifyPath}
use Rattle.http_messages.specs.declared.paths.BlockPath.{BlockPath}
use Rattle.http_messages.specs.declared.paths.BlockPath.TheVariants.{Assign as AssignPath, Donate as DonatePath, Release as ReleasePath}
use Rattle.json_api.specs.Forms.{ApiCall, RegisterCall, UriQuery, items, AreLineTexts, HasBlock, HasUsed, HasBlockCommand, HasRelease, HasVersionCommand, text, whole, HasSpid, HasTn, HasLrn, HasCode, HasCic, HasWindows, HasCommand, HasCommandCall, HasValues, HasForm, is_left_out, flag}

pub same_said : {A : Type 0} (given : Option A) (a b : A) → given ≡ Some a → given ≡ Some b → a ≡ b
same_said given a b e f = cc

same_spid_text : (m n : ℕ) → spid_text m ≡ spid_text n → m ≡ n
same_spid_text m n e =
    let a : m / 16777216 ≡ n / 16777216 = ap (λ (t : List ℕ). get_or t 0 0) e in
    let b : m / 65536 % 256 ≡ n / 65536 % 256 = ap (λ (t : List ℕ). get_or t 1 0) e in
    let c : m / 256 % 256 ≡ n / 256 % 256 = ap (λ (t : List ℕ). get_or t 2 0) e in
    let d : m % 256 ≡ n % 256 = ap (λ (t : List ℕ). get_or t 3 0) e in
    omega (arith, a, b, c, d)

same_spid : (key : List ℕ) (d : Data) (m n : ℕ) → HasSpid key d m → HasSpid key d n → m ≡ n
same_spid key d m n h k = same_spid_text m n (same_said (text key d) _ _ h.said k.said)

same_tn : (d : Data) (m n : ℕ) → HasTn d m → HasTn d n → m ≡ n
same_tn d m n h k =
    digits_of-injective 10 m n h.valid.0 k.valid.0 (same_said (text (codes "tn") d) _ _ h.said
    k.said)

same_code : (d : Data) (m n : ℕ) → HasCode d m → HasCode d n → m ≡ n
same_code d m n h k =
    digits_of-injective 6 m n h.valid.0 k.valid.0 (same_said (text (codes "code") d) _ _ h.said
    k.said)

same_lrn : (d : Data) (m n : ℕ) → HasLrn d m → HasLrn d n → m ≡ n
same_lrn d m n h k =
    digits_of-injective 10 m n h.valid k.valid (same_said (text (codes "lrn") d) _ _ h.said k.said)

left_out_text : (o : Option Data) (t : List ℕ) → is_left_out o ≡ true
    → ¬ (option_and_then as_str o ≡ Some t)
left_out_text None t h e = cc
left_out_text (Some null) t h e = cc
left_out_text (Some (boolean b)) t h e = cc
left_out_text (Some (number n)) t h e = cc
left_out_text (Some (string s)) t h e = cc
left_out_text (Some (array ds)) t h e = cc
left_out_text (Some (object ms)) t h e = cc

no_cic : (d : Data) (t : List ℕ) → is_left_out (get (codes "cic") d) ≡ true
    → ¬ (text (codes "cic") d ≡ Some t)
unfolding text
no_cic d t h e = left_out_text (get (codes "cic") d) t h e

same_cic : (d : Data) (b c : Option ℕ) → HasCic d b → HasCic d c → b ≡ c
same_cic d None None h k = refl
same_cic d None (Some n) h k = absurd (no_cic d _ h k.said)
same_cic d (Some m) None h k = absurd (no_cic d _ k h.said)
same_cic d (Some m) (Some n) h k =
    ap Some (digits_of-injective 4 m n h.valid k.valid (same_said (text (codes "cic") d) _ _ h.said
    k.said))

left_out_whole : (o : Option Data) (n : ℕ) → is_left_out o ≡ true
    → ¬ (option_and_then below_limit (option_and_then as_u64 (option_and_then as_number o))
    ≡ Some n)
left_out_whole None n h e = cc
left_out_whole (Some null) n h e = cc
left_out_whole (Some (boolean b)) n h e = cc
left_out_whole (Some (number m)) n h e = cc
left_out_whole (Some (string s)) n h e = cc
left_out_whole (Some (array ds)) n h e = cc
left_out_whole (Some (object ms)) n h e = cc

no_release : (d : Data) (n : ℕ) → is_left_out (get (codes "release") d) ≡ true
    → ¬ (whole (codes "release") d ≡ Some n)
unfolding whole
no_release d n h e = left_out_whole (get (codes "release") d) n h e

same_release : (d : Data) (b c : Option ℕ) → HasRelease d b → HasRelease d c → b ≡ c
same_release d None None h k = refl
same_release d None (Some n) h k = absurd (no_release d n h k)
same_release d (Some m) None h k = absurd (no_release d m k h)
same_release d (Some m) (Some n) h k = ap Some (same_said (whole (codes "release") d) m n h k)

same_version_command : (path : VersionPath) (d : Data) (b c : VersionCommand)
    → HasVersionCommand path d b → HasVersionCommand path d c → b ≡ c
same_version_command ActivatePath d b c x y = x ∙ sym y
same_version_command PutInConflictPath d b c x y = x ∙ sym y
same_version_command RemoveFromConflictPath d b c x y = x ∙ sym y
same_version_command CancelPath d b c x y = x ∙ sym y
same_version_command OldAcknowledgePath d b c x y = x ∙ sym y
same_version_command NewAcknowledgePath d b c x y = x ∙ sym y
same_version_command DisconnectPath d b c x y = x.2 ∙ ap Disconnect (same_release d x.0 y.0 x.1 y.1)
    ∙ sym y.2
same_version_command ModifyPath d b c x y =
    x.4 ∙ rw (same_lrn d x.0 y.0 x.2 y.2, same_cic d x.1 y.1 x.3 y.3) (sym y.4)

same_block : (d : Data) (m n : ℕ) → HasBlock d m → HasBlock d n → m ≡ n
same_block d m n h k =
    digits_of-injective 7 m n h.valid.0 k.valid.0 (same_said (text (codes "block") d) _ _ h.said
    k.said)

same_lines : (is : Items) (ms ns : List ℕ) → AreLineTexts is ms → AreLineTexts is ns → ms ≡ ns
same_lines no_items [] [] h k = refl
same_lines no_items [] (n ∷ ns) h k = absurd k
same_lines no_items (m ∷ ms) ns h k = absurd h
same_lines (item d ds) [] ns h k = absurd h
same_lines (item d ds) (m ∷ ms) [] h k = absurd k
same_lines (item d ds) (m ∷ ms) (n ∷ ns) h k =
    rw (
      digits_of-injective 3 m n h.0.valid k.0.valid (same_said (as_str d) _ _ h.0.said k.0.said),
      same_lines ds ms ns h.1 k.1,
    ) refl

same_lines_of : (o : Option Items) (ms ns : List ℕ) → IsSomeAnd o (λ is. AreLineTexts is ms)
    → IsSomeAnd o (λ is. AreLineTexts is ns) → ms ≡ ns
same_lines_of None ms ns h k = absurd h
same_lines_of (Some is) ms ns h k = same_lines is ms ns h k

same_used : (d : Data) (ms ns : List ℕ) → HasUsed d ms → HasUsed d ns → ms ≡ ns
same_used d ms ns h k = same_lines_of (items (codes "used") d) ms ns h k

same_block_command : (path : BlockPath) (d : Data) (b c : Command) → HasBlockCommand path d b
    → HasBlockCommand path d c → b ≡ c
same_block_command AssignPath d b c x y =
    x.8 ∙ rw (
      same_block d x.0 y.0 x.4 y.4,
      same_spid (codes "holder") d x.1 y.1 x.5 y.5,
      same_lrn d x.2 y.2 x.6 y.6,
      same_cic d x.3 y.3 x.7 y.7,
    ) (sym y.8)
same_block_command DonatePath d b c x y =
    x.8 ∙ rw (
      same_block d x.0 y.0 x.4 y.4,
      same_used d x.1 y.1 x.5 y.5,
      same_lrn d x.2 y.2 x.6 y.6,
      same_cic d x.3 y.3 x.7 y.7,
    ) (sym y.8)
same_block_command ReleasePath d b c x y = x.2 ∙ ap Release (same_block d x.0 y.0 x.1 y.1) ∙ sym y.2

same_windows : (d : Data) (v w : Windows) → HasWindows d v → HasWindows d w → v ≡ w
same_windows d v w h k = λ i. record {
  initial_concurrence = same_said _ _ _ h.initial_concurrence k.initial_concurrence i;
  final_concurrence = same_said _ _ _ h.final_concurrence k.final_concurrence i;
  conflict_restriction = same_said _ _ _ h.conflict_restriction k.conflict_restriction i;
  conflict_resolution = same_said _ _ _ h.conflict_resolution k.conflict_resolution i;
  conflict_expiration = same_said _ _ _ h.conflict_expiration k.conflict_expiration i;
  cancellation_initial = same_said _ _ _ h.cancellation_initial k.cancellation_initial i;
  cancellation_final = same_said _ _ _ h.cancellation_final k.cancellation_final i;
  pending_retention = same_said _ _ _ h.pending_retention k.pending_retention i;
  broadcast = same_said _ _ _ h.broadcast k.broadcast i;
}

same_command : (route : Route) (d : Data) (b c : Command) → HasCommand route d b
    → HasCommand route d c → b ≡ c
same_command Carriers d b c x y =
    x.2 ∙ ap RegisterCarrier (same_spid (codes "spid") d x.0 y.0 x.1 y.1) ∙ sym y.2
same_command RoutingNumbers d b c x y = x.2 ∙ ap RegisterRoutingNumber (same_lrn d x.0 y.0 x.1 y.1)
    ∙ sym y.2
same_command Codes d b c x y = x.4 ∙ rw (
  same_code d x.0 y.0 x.2 y.2,
  same_spid (codes "spid") d x.1 y.1 x.3 y.3,
) (sym y.4)
same_command OldProviderPath d b c x y =
    x.7 ∙ rw (
      same_tn d x.0 y.0 x.5.number y.5.number,
      same_spid (codes "old") d x.1 y.1 x.5.old y.5.old,
      same_spid (codes "new") d x.2 y.2 x.5.new y.5.new,
      same_said (whole (codes "due") d) x.3 y.3 x.5.minute y.5.minute,
      same_said (flag (codes "authorized") d) x.4 y.4 x.6 y.6,
    ) (sym y.7)
same_command NewProviderPath d b c x y =
    x.9 ∙ rw (
      same_tn d x.0 y.0 x.6.number y.6.number,
      same_spid (codes "old") d x.1 y.1 x.6.old y.6.old,
      same_spid (codes "new") d x.2 y.2 x.6.new y.6.new,
      same_said (whole (codes "due") d) x.3 y.3 x.6.minute y.6.minute,
      same_lrn d x.4 y.4 x.7 y.7,
      same_cic d x.5 y.5 x.8 y.8,
    ) (sym y.9)
same_command (VersionPaths path) d b c x y =
    x.4 ∙ rw (
      same_said (whole (codes "id") d) x.0 y.0 x.2 y.2,
      same_version_command path d x.1 y.1 x.3 y.3,
    ) (sym y.4)
same_command (BlockPaths path) d b c x y = same_block_command path d b c x y
same_command WindowsPath d b c x y = x.2 ∙ ap SetWindows (same_windows d x.0 y.0 x.1 y.1) ∙ sym y.2
same_command Acknowledge d b c x y = absurd x
same_command Query d b c x y = absurd x
same_command Clock d b c x y = absurd x
same_command (Version id) d b c x y = absurd x
same_command (Number tn) d b c x y = absurd x
same_command (Downloads count) d b c x y = absurd x

same_command_call : (route : Route) (d : Data) (a b : ApiCall) → HasCommandCall route d a
    → HasCommandCall route d b
    → a ≡ b
same_command_call route d a b x y =
    x.2 ∙ ap (λ (c : Command). RegisterCall (RequestCall (CommandRequest c)))
    (same_command route d x.0 y.0 x.1 y.1)
    ∙ sym y.2

same_values : (route : Route) (d : Data) (a b : ApiCall) → HasValues route d a → HasValues route d b
    → a ≡ b
same_values Acknowledge d a b x y = x.4 ∙ rw (
  same_said (whole (codes "id") d) x.0 y.0 x.2 y.2,
  same_said (whole (codes "attempt") d) x.1 y.1 x.3 y.3,
) (sym y.4)
same_values Query d a b x y = x.2 ∙ ap UriQuery (same_said (text (codes "uri") d) x.0 y.0 x.1 y.1)
    ∙ sym y.2
same_values Clock d a b x y =
    x.2 ∙ ap (λ (m : ℕ). RegisterCall (MomentCall m)) (same_said (whole (codes "minute") d) x.0 y.0 x.1 y.1)
    ∙ sym y.2
same_values (Version id) d a b x y = absurd x
same_values (Number tn) d a b x y = absurd x
same_values (Downloads count) d a b x y = absurd x
same_values Carriers d a b x y = same_command_call Carriers d a b x y
same_values RoutingNumbers d a b x y = same_command_call RoutingNumbers d a b x y
same_values Codes d a b x y = same_command_call Codes d a b x y
same_values OldProviderPath d a b x y = same_command_call OldProviderPath d a b x y
same_values NewProviderPath d a b x y = same_command_call NewProviderPath d a b x y
same_values (VersionPaths path) d a b x y = same_command_call (VersionPaths path) d a b x y
same_values (BlockPaths path) d a b x y = same_command_call (BlockPaths path) d a b x y
same_values WindowsPath d a b x y = same_command_call WindowsPath d a b x y

pub same_form : (route : Route) (d : Data) (a b : ApiCall) → HasForm route d a → HasForm route d b
    → a ≡ b
same_form route d a b h k = same_values route d a b h.values k.values
