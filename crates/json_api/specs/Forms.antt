-- The forms of request bodies, and what each asks.
use Rattle.std.specs.Prelude.{◌≡◌, ℕ, ◌&&◌, nat_le, List, [], ◌∷◌, codes, Bool, true, false, if◌then◌else◌, Option, Some, None, option_and_then, IsSomeAnd, ⊤}
use Rattle.std.specs.List.{list_any}
use Rattle.std.specs.Str.{is_utf8, bytes_eq}
use Rattle.serde_json.specs.Data.{Data, null, boolean, number, string, array, object, Items, no_items, item, Members, no_members, member}
use Rattle.serde_json.specs.Read.{read}
use Rattle.serde_json.specs.Find.{get, as_number, as_u64, as_str, as_bool, as_array}
use Rattle.numbers.specs.Digits.{IsTn, IsCode, IsLrn, IsCic, IsBlock, IsLine}
use Rattle.numbers.specs.Spids.{IsSpid}
use Rattle.numbers.specs.Texts.{tn_text, code_text, lrn_text, cic_text, spid_text, block_text, line_text}
use Rattle.model.specs.Commands.{Command, VersionCommand, RegisterCarrier, RegisterRoutingNumber, OpenCode, OldProviderCreate, NewProviderCreate, OnVersion, Activate, PutInConflict, RemoveFromConflict, Cancel, OldProviderCancellationAcknowledge, NewProviderCancellationAcknowledge, Disconnect, ModifyRouting, Donate, Assign, Release, SetWindows}
use Rattle.model.specs.Windows.{Windows}
use Rattle.model.specs.History.{CommandRequest, AcknowledgementRequest}
use Rattle.requests.specs.Calls.{ModelCall, RequestCall, MomentCall, called_of}
use Rattle.http_messages.specs.Table.{below_limit}
use Rattle.http_messages.specs.declared.paths.Route.{Route}
use Rattle.http_messages.specs.declared.paths.Route.TheVariants.{Carriers, Clock, RoutingNumbers, Codes, OldProviderCreate as OldProviderPath, NewProviderCreate as NewProviderPath, OnVersion as VersionPaths, OnBlock as BlockPaths, Acknowledge, Query, Windows as WindowsPath, Version, Number, Downloads}
use Rattle.http_messages.specs.declared.paths.VersionPath.{VersionPath}
use Rattle.http_messages.specs.declared.paths.VersionPath.TheVariants.{Activate as ActivatePath, PutInConflict as PutInConflictPath, RemoveFromConflict as RemoveFromConflictPath, Cancel as CancelPath, OldProviderCancellationAcknowledge as OldAcknowledgePath, NewProviderCancellationAcknowledge as NewAcknowledgePath, Disconnect as DisconnectPath, ModifyRouting as ModifyPath}
use Rattle.http_messages.specs.declared.paths.BlockPath.{BlockPath}
use Rattle.http_messages.specs.declared.paths.BlockPath.TheVariants.{Assign as AssignPath, Donate as DonatePath, Release as ReleasePath}
use Rattle.json_api.specs.declared.forms.ApiCall.{ApiCall as ApiCallImpl}
use Rattle.json_api.specs.declared.forms.ApiCall.TheVariants.{Call as CallImpl, Uri as UriImpl}

-- What a message asks: a call of the register, or the routing for the number of a URI.
pub data ApiCall : Type 0 where
  RegisterCall : (called : ModelCall) → ApiCall
  UriQuery : (uri : List ℕ) → ApiCall

-- The model of what a body asks.
abbrev pub api_call_model : ApiCallImpl → ApiCall
api_call_model (CallImpl call) = RegisterCall (called_of call)
api_call_model (UriImpl uri) = UriQuery uri.now

-- The JSON value of the bytes, if they are JSON.
abbrev pub json_of : List ℕ → Option Data
json_of body = if is_utf8 body then read body else None

-- ---- objects and their keys

abbrev pub only_members : List (List ℕ) → Members → Bool
only_members allowed no_members = true
only_members allowed (member k d ms) = list_any (bytes_eq k) allowed && only_members allowed ms

-- Whether a value is an object without keys other than `allowed`.
abbrev pub only_keys : List (List ℕ) → Data → Bool
only_keys allowed null = false
only_keys allowed (boolean b) = false
only_keys allowed (number n) = false
only_keys allowed (string s) = false
only_keys allowed (array ds) = false
only_keys allowed (object ms) = only_members allowed ms

-- The keys of a command on a version.
abbrev pub version_keys : VersionPath → List (List ℕ)
version_keys ActivatePath = codes "id" ∷ []
version_keys PutInConflictPath = codes "id" ∷ []
version_keys RemoveFromConflictPath = codes "id" ∷ []
version_keys CancelPath = codes "id" ∷ []
version_keys OldAcknowledgePath = codes "id" ∷ []
version_keys NewAcknowledgePath = codes "id" ∷ []
version_keys DisconnectPath = codes "id" ∷ codes "release" ∷ []
version_keys ModifyPath = codes "cic" ∷ codes "id" ∷ codes "lrn" ∷ []

-- The keys of a command on a block.
abbrev pub block_keys : BlockPath → List (List ℕ)
block_keys AssignPath = codes "block" ∷ codes "cic" ∷ codes "holder" ∷ codes "lrn" ∷ []
block_keys DonatePath = codes "block" ∷ codes "cic" ∷ codes "lrn" ∷ codes "used" ∷ []
block_keys ReleasePath = codes "block" ∷ []

-- The keys of a route's body.
abbrev pub keys : Route → List (List ℕ)
keys Carriers = codes "spid" ∷ []
keys RoutingNumbers = codes "lrn" ∷ []
keys Codes = codes "code" ∷ codes "spid" ∷ []
keys OldProviderPath = codes "authorized" ∷ codes "due" ∷ codes "new" ∷ codes "old" ∷ codes "tn"
    ∷ []
keys NewProviderPath = codes "cic" ∷ codes "due" ∷ codes "lrn" ∷ codes "new" ∷ codes "old" ∷ codes
    "tn" ∷ []
keys (VersionPaths path) = version_keys path
keys (BlockPaths path) = block_keys path
keys Acknowledge = codes "attempt" ∷ codes "id" ∷ []
keys Query = codes "uri" ∷ []
keys Clock = codes "minute" ∷ []
keys WindowsPath =
    codes "broadcast" ∷ codes "cancellation_final" ∷ codes "cancellation_initial"
    ∷ codes "conflict_expiration" ∷ codes "conflict_resolution" ∷ codes "conflict_restriction"
    ∷ codes "final_concurrence" ∷ codes "initial_concurrence" ∷ codes "pending_retention" ∷ []
keys (Version id) = []
keys (Number tn) = []
keys (Downloads count) = []

-- ---- values under keys

-- The whole number below 2^40 under a key.
unfoldable pub whole : List ℕ → Data → Option ℕ
whole key d =
    option_and_then below_limit (option_and_then as_u64 (option_and_then as_number (get key d)))

-- The text under a key.
unfoldable pub text : List ℕ → Data → Option (List ℕ)
text key d = option_and_then as_str (get key d)

-- The Boolean under a key.
unfoldable pub flag : List ℕ → Data → Option Bool
flag key d = option_and_then as_bool (get key d)

-- The items of the array under a key.
unfoldable pub items : List ℕ → Data → Option Items
items key d = option_and_then as_array (get key d)

-- A number of minutes in the range of windows, 1 to 525,600.
abbrev pub in_range : ℕ → Option ℕ
in_range n = if nat_le 1 n && nat_le n 525600 then Some n else None

unfoldable pub window : List ℕ → Data → Option ℕ
window key d = option_and_then in_range (whole key d)

-- Holds if the text given is the text of a valid number `n`.
pub record IsTextOf (IsOne : ℕ → Type 0) (text_of : ℕ → List ℕ) (given : Option (List ℕ))
    (n : ℕ) : Type 0 where
  pub valid : IsOne n
  pub said : given ≡ Some (text_of n)

abbrev pub HasSpid : List ℕ → Data → ℕ → Type 0
HasSpid key d n = IsTextOf IsSpid spid_text (text key d) n

abbrev pub HasTn : Data → ℕ → Type 0
HasTn d n = IsTextOf IsTn tn_text (text (codes "tn") d) n

abbrev pub HasLrn : Data → ℕ → Type 0
HasLrn d n = IsTextOf IsLrn lrn_text (text (codes "lrn") d) n

abbrev pub HasCode : Data → ℕ → Type 0
HasCode d n = IsTextOf IsCode code_text (text (codes "code") d) n

abbrev pub HasBlock : Data → ℕ → Type 0
HasBlock d n = IsTextOf IsBlock block_text (text (codes "block") d) n

-- Holds if the value is the text of a line.
abbrev pub IsLineText : Data → ℕ → Type 0
IsLineText d line = IsTextOf IsLine line_text (as_str d) line

-- Holds if the values are the texts of these lines, in order.
abbrev pub AreLineTexts : Items → List ℕ → Type 0
AreLineTexts no_items [] = ⊤
AreLineTexts no_items (line ∷ lines) = ⊥
AreLineTexts (item d ds) [] = ⊥
AreLineTexts (item d ds) (line ∷ lines) = IsLineText d line × AreLineTexts ds lines

-- Holds if the value under `used` is an array of the texts of these lines.
abbrev pub HasUsed : Data → List ℕ → Type 0
HasUsed d lines = IsSomeAnd (items (codes "used") d) (λ values. AreLineTexts values lines)

-- Whether a value is missing or null.
abbrev pub is_left_out : Option Data → Bool
is_left_out None = true
is_left_out (Some null) = true
is_left_out (Some (boolean b)) = false
is_left_out (Some (number n)) = false
is_left_out (Some (string s)) = false
is_left_out (Some (array ds)) = false
is_left_out (Some (object ms)) = false

-- Holds if this is the carrier identification code, which may be missing or null.
abbrev pub HasCic : Data → Option ℕ → Type 0
HasCic d None = is_left_out (get (codes "cic") d) ≡ true
HasCic d (Some n) = IsTextOf IsCic cic_text (text (codes "cic") d) n

-- Holds if this is the minute of the release, which may be missing or null.
abbrev pub HasRelease : Data → Option ℕ → Type 0
HasRelease d None = is_left_out (get (codes "release") d) ≡ true
HasRelease d (Some n) = whole (codes "release") d ≡ Some n

-- ---- the forms

-- Holds if these are the number, the providers and the due minute of a create.
pub record HasPort (d : Data) (tn old_provider new_provider due : ℕ) : Type 0 where
  pub number : HasTn d tn
  pub old : HasSpid (codes "old") d old_provider
  pub new : HasSpid (codes "new") d new_provider
  pub minute : whole (codes "due") d ≡ Some due

-- Holds if these are the nine windows, each under its name.
pub record HasWindows (d : Data) (w : Windows) : Type 0 where
  pub initial_concurrence : window (codes "initial_concurrence") d ≡ Some w.initial_concurrence
  pub final_concurrence : window (codes "final_concurrence") d ≡ Some w.final_concurrence
  pub conflict_restriction : window (codes "conflict_restriction") d ≡ Some w.conflict_restriction
  pub conflict_resolution : window (codes "conflict_resolution") d ≡ Some w.conflict_resolution
  pub conflict_expiration : window (codes "conflict_expiration") d ≡ Some w.conflict_expiration
  pub cancellation_initial : window (codes "cancellation_initial") d ≡ Some w.cancellation_initial
  pub cancellation_final : window (codes "cancellation_final") d ≡ Some w.cancellation_final
  pub pending_retention : window (codes "pending_retention") d ≡ Some w.pending_retention
  pub broadcast : window (codes "broadcast") d ≡ Some w.broadcast

-- Holds if this is the command on a version of its path.
abbrev pub HasVersionCommand : VersionPath → Data → VersionCommand → Type 0
HasVersionCommand ActivatePath d command = command ≡ Activate
HasVersionCommand PutInConflictPath d command = command ≡ PutInConflict
HasVersionCommand RemoveFromConflictPath d command = command ≡ RemoveFromConflict
HasVersionCommand CancelPath d command = command ≡ Cancel
HasVersionCommand OldAcknowledgePath d command = command ≡ OldProviderCancellationAcknowledge
HasVersionCommand NewAcknowledgePath d command = command ≡ NewProviderCancellationAcknowledge
HasVersionCommand DisconnectPath d command = (release : Option ℕ) × HasRelease d release
    × (command ≡ Disconnect release)
HasVersionCommand ModifyPath d command = (lrn : ℕ) × (cic : Option ℕ) × HasLrn d lrn × HasCic d cic
    × (command ≡ ModifyRouting lrn cic)

-- Holds if this is the command on a block of its path.
abbrev pub HasBlockCommand : BlockPath → Data → Command → Type 0
HasBlockCommand AssignPath d c =
    (block : ℕ) × (holder : ℕ) × (lrn : ℕ) × (cic : Option ℕ) × HasBlock d block
    × HasSpid (codes "holder") d holder × HasLrn d lrn × HasCic d cic
    × (c ≡ Assign block holder lrn cic)
HasBlockCommand DonatePath d c =
    (block : ℕ) × (used : List ℕ) × (lrn : ℕ) × (cic : Option ℕ) × HasBlock d block × HasUsed d used
    × HasLrn d lrn × HasCic d cic × (c ≡ Donate block used lrn cic)
HasBlockCommand ReleasePath d c = (block : ℕ) × HasBlock d block × (c ≡ Release block)

-- Holds if this is the command of a route.
abbrev pub HasCommand : Route → Data → Command → Type 0
HasCommand Carriers d c = (spid : ℕ) × HasSpid (codes "spid") d spid × (c ≡ RegisterCarrier spid)
HasCommand RoutingNumbers d c = (lrn : ℕ) × HasLrn d lrn × (c ≡ RegisterRoutingNumber lrn)
HasCommand Codes d c = (code : ℕ) × (spid : ℕ) × HasCode d code × HasSpid (codes "spid") d spid
    × (c ≡ OpenCode code spid)
HasCommand OldProviderPath d c =
    (tn : ℕ) × (old_provider : ℕ) × (new_provider : ℕ) × (due : ℕ) × (authorized : Bool)
    × HasPort d tn old_provider new_provider due
    × (flag (codes "authorized") d ≡ Some authorized)
    × (c ≡ OldProviderCreate tn old_provider new_provider due authorized)
HasCommand NewProviderPath d c =
    (tn : ℕ) × (old_provider : ℕ) × (new_provider : ℕ) × (due : ℕ) × (lrn : ℕ) × (cic : Option ℕ)
    × HasPort d tn old_provider new_provider due
    × HasLrn d lrn × HasCic d cic × (c ≡ NewProviderCreate tn old_provider new_provider due lrn cic)
HasCommand (VersionPaths path) d c =
    (id : ℕ) × (command : VersionCommand) × (whole (codes "id") d ≡ Some id)
    × HasVersionCommand path d command × (c ≡ OnVersion id command)
HasCommand (BlockPaths path) d c = HasBlockCommand path d c
HasCommand WindowsPath d c = (w : Windows) × HasWindows d w × (c ≡ SetWindows w)
HasCommand Acknowledge d c = ⊥
HasCommand Query d c = ⊥
HasCommand Clock d c = ⊥
HasCommand (Version id) d c = ⊥
HasCommand (Number tn) d c = ⊥
HasCommand (Downloads count) d c = ⊥

abbrev pub HasCommandCall : Route → Data → ApiCall → Type 0
HasCommandCall route d asked = (c : Command) × HasCommand route d c
    × (asked ≡ RegisterCall (RequestCall (CommandRequest c)))

-- Holds if this is what the values ask on a route. The routes of a version, a telephone number and
-- downloads have no body.
abbrev pub HasValues : Route → Data → ApiCall → Type 0
HasValues Acknowledge d asked = (id : ℕ) × (attempt : ℕ) × (whole (codes "id") d ≡ Some id)
    × (whole (codes "attempt") d ≡ Some attempt)
    × (asked ≡ RegisterCall (RequestCall (AcknowledgementRequest id attempt)))
HasValues Query d asked = (uri : List ℕ) × (text (codes "uri") d ≡ Some uri) × (asked ≡ UriQuery uri)
HasValues Clock d asked = (minute : ℕ) × (whole (codes "minute") d ≡ Some minute)
    × (asked ≡ RegisterCall (MomentCall minute))
HasValues (Version id) d asked = ⊥
HasValues (Number tn) d asked = ⊥
HasValues (Downloads count) d asked = ⊥
HasValues Carriers d asked = HasCommandCall Carriers d asked
HasValues RoutingNumbers d asked = HasCommandCall RoutingNumbers d asked
HasValues Codes d asked = HasCommandCall Codes d asked
HasValues OldProviderPath d asked = HasCommandCall OldProviderPath d asked
HasValues NewProviderPath d asked = HasCommandCall NewProviderPath d asked
HasValues (VersionPaths path) d asked = HasCommandCall (VersionPaths path) d asked
HasValues (BlockPaths path) d asked = HasCommandCall (BlockPaths path) d asked
HasValues WindowsPath d asked = HasCommandCall WindowsPath d asked

-- Holds if the value is an object of the route's form, without other keys, that asks this.
pub record HasForm (route : Route) (d : Data) (asked : ApiCall) : Type 0 where
  pub keys : only_keys (keys route) d ≡ true
  pub values : HasValues route d asked

-- Holds if a body asks at most one thing.
abbrev pub AsksOnce : Type 0
AsksOnce = (route : Route) (d : Data) (b c : ApiCall) → HasForm route d b → HasForm route d c
    → b ≡ c
