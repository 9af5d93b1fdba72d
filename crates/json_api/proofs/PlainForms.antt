-- Bodies that are written plainly have their routes' forms.
use Rattle.std.proofs.Common.{◌≡◌, ℕ, ◌<◌, ◌&&◌, Bool, true, Some, None, List, [], ◌∷◌, ◌++◌, codes, refl, ap, sym, subst, ◌∙◌, arith}
use Rattle.numbers.specs.Digits.{IsLrn}
use Rattle.numbers.specs.Texts.{lrn_text}
use Rattle.std.specs.Borrow.{Bor}
use Rattle.std.specs.Str.{IsUtf8, bytes_eq}
use Rattle.std.specs.List.{list_any}
use Rattle.serde_json.specs.Data.{Data}
use Rattle.serde_json.specs.Find.{get}
use Rattle.model.specs.Commands.{VersionCommand, NewProviderCreate, OldProviderCreate, OnVersion}
use Rattle.model.specs.History.{CommandRequest, AcknowledgementRequest}
use Rattle.numbers.specs.declared.lrn.Lrn.{Lrn}
use Rattle.requests.specs.Calls.{RequestCall}
use Rattle.version.specs.Creates.{command_by}
use Rattle.version.specs.declared.create.Create.{Create}
use Rattle.version.specs.declared.create.Creator.{Creator}
use Rattle.version.specs.declared.create.Creator.TheVariants.{NewProvider, OldProvider}
use Rattle.json.specs.Token.{Token}
use Rattle.json.specs.Print.{escape_byte, token_text}
use Rattle.json.proofs.Printed.Utf8.{IsUtf8-are_ascii}
use Rattle.http_messages.specs.Table.{below_limit}
use Rattle.http_messages.specs.declared.paths.Route.TheVariants.{Acknowledge, NewProviderCreate as NewProviderPath, OldProviderCreate as OldProviderPath, Query, OnVersion as VersionPaths}
use Rattle.http_messages.specs.declared.paths.VersionPath.{VersionPath}
use Rattle.http_messages.specs.declared.paths.VersionPath.TheVariants.{Activate as ActivatePath, PutInConflict as PutInConflictPath, RemoveFromConflict as RemoveFromConflictPath, Cancel as CancelPath, OldProviderCancellationAcknowledge as OldAcknowledgePath, NewProviderCancellationAcknowledge as NewAcknowledgePath, Disconnect as DisconnectPath, ModifyRouting as ModifyPath}
use Rattle.json_api.specs.Flat.{flat_data}
use Rattle.json_api.specs.Forms.{ApiCall, HasVersionCommand, IsTextOf, RegisterCall, UriQuery, flag, json_of, text, version_keys, whole}
use Rattle.json_api.specs.Plain.{ArePortTexts, IsAsked, IsPort, IsValueAfter}
use Rattle.json_api.specs.declared.flat.Member.{Member}
use Rattle.json_api.specs.declared.flat.Scalar.{Scalar}
use Rattle.json_api.specs.declared.flat.Scalar.TheVariants.{Flag, Text, Whole}
use Rattle.json_api.proofs.ScanLemmas.{IsAfter, before_first, with_comma, with_member, whole as whole_body}

-- ---- one member after another

abbrev with_key : Bor (List ℕ) → List ℕ → Scalar → Member
with_key r k s = record { key = record r { now = k }; value = s }

module _ (r : Bor (List ℕ)) (body k bytes rest : List ℕ) (s : Scalar) (utf8 : IsUtf8 k) where
  first_member : IsValueAfter bytes (123 ∷ token_text (Token.key k)) s rest → body ≡ bytes
      → IsAfter body rest (with_key r k s ∷ [])
  first_member then same =
      with_member body (token_text (Token.key k) ++ then.0) rest [] (with_key r k s)
      (before_first body (token_text (Token.key k) ++ then.0) (same ∙ then.1))
      (record {
        before = [];
        between = [];
        token = then.2.0;
        gaps = (tt, tt);
        named = utf8;
        valued = then.2.1;
        bytes_are = ap (λ l. token_text (Token.key k) ++ l) then.2.2;
      })

  next_member : IsValueAfter bytes (44 ∷ token_text (Token.key k)) s rest → (ms : List Member)
      → IsAfter body bytes ms → IsAfter body rest (ms ++ with_key r k s ∷ [])
  next_member then ms is =
      with_member body (token_text (Token.key k) ++ then.0) rest ms (with_key r k s)
      (with_comma body (token_text (Token.key k) ++ then.0) bytes ms is then.1)
      (record {
        before = [];
        between = [];
        token = then.2.0;
        gaps = (tt, tt);
        named = utf8;
        valued = then.2.1;
        bytes_are = ap (λ l. token_text (Token.key k) ++ l) then.2.2;
      })

below : (n : ℕ) → n < 1099511627776 → below_limit n ≡ Some n
below n less = grind arith

-- ---- the bodies

pub query_asked : (uri : Bor (List ℕ)) (body rest : List ℕ)
    → IsValueAfter body (codes "{\"uri\":") (Text uri) rest → rest ≡ codes "}"
    → IsAsked Query body (UriQuery uri.now)
unfolding text escape_byte
query_asked uri body rest then ends = record {
  value = flat_data (with_key uri (codes "uri") (Text uri) ∷ []);
  json = whole_body body rest _ (first_member uri body (codes "uri") body rest (Text uri)
      (IsUtf8-are_ascii (codes "uri") refl) then refl) ([], tt, ends);
  form = record { keys = refl; values = (uri.now, refl, refl) };
}

pub acknowledgement_asked : (r : Bor (List ℕ)) (between body rest : List ℕ) (attempt id : ℕ)
    → IsValueAfter body (codes "{\"attempt\":") (Whole attempt) between
    → IsValueAfter between (codes ",\"id\":") (Whole id) rest → rest ≡ codes "}"
    → attempt < 1099511627776 → id < 1099511627776
    → IsAsked Acknowledge body (RegisterCall (RequestCall (AcknowledgementRequest id attempt)))
unfolding whole escape_byte
acknowledgement_asked r between body rest attempt id first second ends few less = record {
  value = flat_data (with_key r (codes "attempt") (Whole attempt)
      ∷ with_key r (codes "id") (Whole id) ∷ []);
  json = whole_body body rest _
      (next_member r body (codes "id") between rest (Whole id)
      (IsUtf8-are_ascii (codes "id") refl) second _
      (first_member r body (codes "attempt") body between (Whole attempt)
      (IsUtf8-are_ascii (codes "attempt") refl) first refl)) ([], tt, ends);
  form = record {
    keys = refl;
    values = (id, attempt, below id less, below attempt few, refl);
  };
}

-- The members of a port follow those before.
module _ (r : Bor (List ℕ)) (body bytes : List ℕ) (new old tn : Bor (List ℕ))
    (texts : ArePortTexts bytes new old tn) (ms : List Member) (is : IsAfter body bytes ms) where
  abbrev with_port : List Member
  with_port = ((ms ++ with_key r (codes "new") (Text new) ∷ [])
      ++ with_key r (codes "old") (Text old) ∷ []) ++ with_key r (codes "tn") (Text tn) ∷ []

  port_read : json_of body ≡ Some (flat_data with_port)
  unfolding escape_byte
  port_read =
      whole_body body (codes "}") _
      (next_member r body (codes "tn") texts.1 (codes "}") (Text tn)
      (IsUtf8-are_ascii (codes "tn") refl) texts.4 _
      (next_member r body (codes "old") texts.0 texts.1 (Text old)
      (IsUtf8-are_ascii (codes "old") refl) texts.3 _
      (next_member r body (codes "new") bytes texts.0 (Text new)
      (IsUtf8-are_ascii (codes "new") refl) texts.2 ms is))) ([], tt, refl)

module _ (r : Bor (List ℕ)) (body bytes : List ℕ) (tn old_provider new_provider due : ℕ)
    (port : IsPort bytes tn old_provider new_provider) (less : due < 1099511627776) where
  pub old_create_asked : (authorized : Bool) (between : List ℕ)
      → IsValueAfter body (codes "{\"authorized\":") (Flag authorized) between
      → IsValueAfter between (codes ",\"due\":") (Whole due) bytes
      → IsAsked OldProviderPath body (RegisterCall (RequestCall (CommandRequest
      (OldProviderCreate tn old_provider new_provider due authorized))))
  unfolding text whole flag escape_byte
  old_create_asked authorized between first second = record {
    value = _;
    json = port_read r body bytes port.0 port.1 port.2 port.3 _
        (next_member r body (codes "due") between bytes (Whole due)
        (IsUtf8-are_ascii (codes "due") refl) second _
        (first_member r body (codes "authorized") body between (Flag authorized)
        (IsUtf8-are_ascii (codes "authorized") refl) first refl));
    form = record {
      keys = refl;
      values = (
        OldProviderCreate tn old_provider new_provider due authorized,
        (
          tn,
          old_provider,
          new_provider,
          due,
          authorized,
          record { number = port.4; old = port.5; new = port.6; minute = below due less },
          refl,
          refl,
        ),
        refl,
      );
    };
  }

  pub new_create_asked : (lrn : ℕ) (routing : Bor (List ℕ)) (between : List ℕ)
      → IsValueAfter body (codes "{\"due\":") (Whole due) between
      → IsValueAfter between (codes ",\"lrn\":") (Text routing) bytes
      → IsTextOf IsLrn lrn_text (Some routing.now) lrn
      → IsAsked NewProviderPath body (RegisterCall (RequestCall (CommandRequest
      (NewProviderCreate tn old_provider new_provider due lrn None))))
  unfolding text whole escape_byte
  new_create_asked lrn routing between first second has = record {
    value = _;
    json = port_read r body bytes port.0 port.1 port.2 port.3 _
        (next_member r body (codes "lrn") between bytes (Text routing)
        (IsUtf8-are_ascii (codes "lrn") refl) second _
        (first_member r body (codes "due") body between (Whole due)
        (IsUtf8-are_ascii (codes "due") refl) first refl));
    form = record {
      keys = refl;
      values = (
        NewProviderCreate tn old_provider new_provider due lrn None,
        (
          tn,
          old_provider,
          new_provider,
          due,
          lrn,
          None,
          record { number = port.4; old = port.5; new = port.6; minute = below due less },
          has,
          refl,
          refl,
        ),
        refl,
      );
    };
  }

module _ (r : Bor (List ℕ)) (body bytes : List ℕ) (due : ℕ) (less : due < 1099511627776)
    (create : Create)
    (port : IsPort bytes create.tn.number create.old_provider.number create.new_provider.number)
    (due_is : create.due.number ≡ due) where
  abbrev asked_by : Creator → ApiCall
  asked_by creator = RegisterCall (RequestCall (CommandRequest (command_by creator create.tn.number
      create.old_provider.number create.new_provider.number create.due.number)))

  below_limit_too : create.due.number < 1099511627776
  below_limit_too = subst (λ n. n < 1099511627776) (sym due_is) less

  pub old_create : (authorized : Bool) (between : List ℕ)
      → create.creator ≡ OldProvider authorized
      → IsValueAfter body (codes "{\"authorized\":") (Flag authorized) between
      → IsValueAfter between (codes ",\"due\":") (Whole due) bytes
      → IsAsked OldProviderPath body (asked_by create.creator)
  old_create authorized between creator first second =
      subst (λ (k : Creator). IsAsked OldProviderPath body (asked_by k)) (sym creator)
      (old_create_asked r body bytes create.tn.number create.old_provider.number
      create.new_provider.number create.due.number port below_limit_too authorized between first
      (subst (λ n. IsValueAfter between (codes ",\"due\":") (Whole n) bytes) (sym due_is) second))

  pub new_create : (lrn : Lrn) (routing : Bor (List ℕ)) (between : List ℕ)
      → create.creator ≡ NewProvider (record { lrn = lrn; cic = None })
      → IsValueAfter body (codes "{\"due\":") (Whole due) between
      → IsValueAfter between (codes ",\"lrn\":") (Text routing) bytes
      → IsTextOf IsLrn lrn_text (Some routing.now) lrn.number
      → IsAsked NewProviderPath body (asked_by create.creator)
  new_create lrn routing between creator first second has =
      subst (λ (k : Creator). IsAsked NewProviderPath body (asked_by k)) (sym creator)
      (new_create_asked r body bytes create.tn.number create.old_provider.number
      create.new_provider.number create.due.number port below_limit_too lrn.number routing between
      (subst (λ n. IsValueAfter body (codes "{\"due\":") (Whole n) between) (sym due_is) first)
      second has)

has_id : (path : VersionPath) → list_any (bytes_eq (codes "id")) (version_keys path) ≡ true
has_id ActivatePath = refl
has_id PutInConflictPath = refl
has_id RemoveFromConflictPath = refl
has_id CancelPath = refl
has_id OldAcknowledgePath = refl
has_id NewAcknowledgePath = refl
has_id DisconnectPath = refl
has_id ModifyPath = refl

pub command_asked : (r : Bor (List ℕ)) (path : VersionPath) (body rest : List ℕ) (id : ℕ)
    (command : VersionCommand) → IsValueAfter body (codes "{\"id\":") (Whole id) rest
    → rest ≡ codes "}" → id < 1099511627776
    → ((d : Data) → get (codes "release") d ≡ None → HasVersionCommand path d command)
    → IsAsked (VersionPaths path) body
    (RegisterCall (RequestCall (CommandRequest (OnVersion id command))))
unfolding whole escape_byte
command_asked r path body rest id command then ends less has =
    let d = flat_data (with_key r (codes "id") (Whole id) ∷ []) in
    record {
      value = d;
      json = whole_body body rest _ (first_member r body (codes "id") body rest (Whole id)
          (IsUtf8-are_ascii (codes "id") refl) then refl) ([], tt, ends);
      form = record {
        keys = ap (λ (b : Bool). b && true) (has_id path);
        values = (OnVersion id command, (id, command, below id less, has d refl, refl), refl);
      };
    }
