-- Stored values as values of rows. A value that is not of its column's type reads as `None`.
use Rattle.std.specs.Prelude.{ℕ, ℤ, ◌+◌, ◌*◌, ◌/◌, ◌%◌, pos, negsuc, nat_lt, nat_le, Bool, true, false, ◌&&◌, if◌then◌else◌, List, [], ◌∷◌, codes, bytes_eq, Option, Some, None, option_map, option_and_then}
use Rattle.std.specs.Ordering.{int_eq}
use Rattle.sqlite.specs.declared.types.Value.{Value}
use Rattle.sqlite.specs.declared.types.Value.TheVariants.{Null, Int, Text}
use Rattle.numbers.specs.Spids.{is_spid_character}
use Rattle.numbers.specs.Texts.{spid_text}
use Rattle.numbers.specs.Subjects.{Subject, Number, Block}
use Rattle.numbers.specs.Routings.{Routing}
use Rattle.model.specs.declared.words.Action.{Action}
use Rattle.model.specs.declared.words.Action.TheVariants.{Create, Delete, Modify}
use Rattle.model.specs.declared.words.Side.{Side}
use Rattle.model.specs.declared.words.Side.TheVariants.{OldProvider, NewProvider}
use Rattle.model.specs.Changes.{action_of}
use Rattle.model.specs.Statuses.{Send, Create as CreateSend, Delete as DeleteSend, Modify as ModifySend, Status, Pending, Conflict, CancelPending, Sending, Active, PartialFailure, Failed, DisconnectPending, Old, Canceled}

-- A whole number that a column can hold.
abbrev pub number_in : Value → Option ℕ
number_in (Int (pos n)) = if nat_lt n 9223372036854775808 then Some n else None
number_in _ = None

abbrev pub below : ℕ → ℕ → Option ℕ
below limit n = if nat_lt n limit then Some n else None

abbrev pub minute_in : Value → Option ℕ
minute_in v = option_and_then (below 1099511627776) (number_in v)

abbrev pub lrn_in : Value → Option ℕ
lrn_in v = option_and_then (below 10000000000) (number_in v)

-- A code: the first six digits of a telephone number.
abbrev pub code_from : ℕ → Option ℕ
code_from n = if nat_lt n 1000000 && (nat_le 2 (n / 100000) && nat_le 2 (n / 100 % 10)) then Some n
    else None

abbrev pub code_in : Value → Option ℕ
code_in v = option_and_then code_from (number_in v)

-- A block: the first seven digits of a telephone number.
abbrev pub block_from : ℕ → Option ℕ
block_from n = if nat_lt n 10000000 && (nat_le 2 (n / 1000000) && nat_le 2 (n / 1000 % 10))
    then Some n else None

abbrev pub block_in : Value → Option ℕ
block_in v = option_and_then block_from (number_in v)

abbrev pub cic_in : Value → Option ℕ
cic_in v = option_and_then (below 10000) (number_in v)

-- A window of a minute to a year.
abbrev pub window_from : ℕ → Option ℕ
window_from n = if nat_lt 0 n && nat_le n 525600 then Some n else None

abbrev pub window_in : Value → Option ℕ
window_in v = option_and_then window_from (number_in v)

-- The number of a set of windows: 1 to 1,000.
abbrev pub set_from : ℕ → Option ℕ
set_from n = if nat_lt 0 n && nat_le n 1000 then Some n else None

abbrev pub set_number_in : Value → Option ℕ
set_number_in v = option_and_then set_from (number_in v)

abbrev pub bool_from : ℕ → Option Bool
bool_from n = if nat_lt n 1 then Some false else (if nat_lt n 2 then Some true else None)

abbrev pub bool_in : Value → Option Bool
bool_in v = option_and_then bool_from (number_in v)

-- A subject: a block has seven digits, a number ten.
abbrev pub subject_from : ℕ → Option Subject
subject_from n =
    if nat_lt n 10000000
    then (if nat_le 2 (n / 1000000) && nat_le 2 (n / 1000 % 10) then Some (Block n) else None)
    else (if nat_lt n 10000000000 && (nat_le 2 (n / 1000000000) && nat_le 2 (n / 1000000 % 10))
    then Some (Number n) else None)

abbrev pub subject_in : Value → Option Subject
subject_in v = option_and_then subject_from (number_in v)

abbrev pub spid_from : List ℕ → Option ℕ
spid_from (a ∷ b ∷ c ∷ d ∷ []) =
    if is_spid_character a && (is_spid_character b && (is_spid_character c && is_spid_character d))
    then Some (a * 16777216 + b * 65536 + c * 256 + d) else None
spid_from _ = None

abbrev pub spid_in : Value → Option ℕ
spid_in (Text t) = spid_from t
spid_in _ = None

-- `None` for NULL, otherwise a value.
abbrev pub or_null_in : {X : Type 0} → (Value → Option X) → Value → Option (Option X)
or_null_in read Null = Some None
or_null_in read v = option_map Some (read v)

abbrev pub is_word : List ℕ → Value → Bool
is_word w (Text t) = bytes_eq t w
is_word w _ = false

abbrev pub action_in : Value → Option Action
action_in v = if is_word (codes "create") v then Some Create else (if is_word (codes "delete") v
    then Some Delete else (if is_word (codes "modify") v then Some Modify else None))

-- What a version sends. A modify is read as one to the version's own routing, because the routing
-- that it sends is in another table.
abbrev pub send_in : (own : Option Routing) → Value → Option Send
send_in own v = if is_word (codes "create") v then Some CreateSend
    else (if is_word (codes "delete") v then Some DeleteSend else (if is_word (codes "modify") v
    then option_map ModifySend own else None))

abbrev pub side_in : Value → Option Side
side_in v = if is_word (codes "old") v then Some OldProvider else (if is_word (codes "new") v
    then Some NewProvider else None)

abbrev pub subject_number : Subject → ℕ
subject_number (Number n) = n
subject_number (Block n) = n

abbrev pub is_int : ℤ → Value → Bool
is_int n (Int m) = int_eq m n
is_int n _ = false

-- The number of the only row of its table.
abbrev pub only_in : Value → Option ℕ
only_in v = if is_int (pos 0) v then Some 0 else None

-- Whether the row is found by its subject in a column. The column has the subject if so, and
-- otherwise -1 - id, which is neither a subject nor another row's value.
abbrev pub found_in : (id : ℕ) → Subject → Value → Option Bool
found_in id s v =
    if is_int (negsuc id) v then Some false else (
    if is_int (pos (subject_number s)) v then Some true else None)

-- A status by its name, and by what it sends, when it is released, or who cancelled it.
abbrev pub status_in : (own : Option Routing) → (status sends release by : Value) → Option Status
status_in own status sends release by =
    if is_word (codes "pending") status then Some Pending else (
    if is_word (codes "conflict") status then Some Conflict else (
    if is_word (codes "cancel-pending") status then option_map CancelPending (side_in by) else (
    if is_word (codes "sending") status then option_map Sending (send_in own sends) else (
    if is_word (codes "active") status then Some Active else (
    if is_word (codes "partial-failure") status then Some PartialFailure else (
    if is_word (codes "failed") status then Some Failed else (
    if is_word (codes "disconnect-pending") status
    then option_map DisconnectPending (minute_in release) else (
    if is_word (codes "old") status then Some Old else (
    if is_word (codes "canceled") status then Some Canceled else None)))))))))

abbrev pub routed : ℕ → Option ℕ → Routing
routed l c = record { lrn = l; cic = c }

-- The routing, if there is a routing number.
abbrev pub routing_in : (lrn cic : Value) → Option (Option Routing)
routing_in Null cic = Some None
routing_in lrn cic =
    option_and_then (λ l. option_map (λ c. Some (routed l c)) (or_null_in cic_in cic)) (lrn_in lrn)

-- ---- values as stored

abbrev pub number_value : ℕ → Value
number_value n = Int (pos n)

abbrev pub spid_value : ℕ → Value
spid_value n = Text (spid_text n)

abbrev pub bool_value : Bool → Value
bool_value false = Int (pos 0)
bool_value true = Int (pos 1)

abbrev pub subject_value : Subject → Value
subject_value s = Int (pos (subject_number s))

abbrev pub lrn_value : Option Routing → Value
lrn_value None = Null
lrn_value (Some r) = Int (pos r.lrn)

abbrev pub cic_of : Option ℕ → Value
cic_of None = Null
cic_of (Some n) = Int (pos n)

abbrev pub cic_value : Option Routing → Value
cic_value None = Null
cic_value (Some r) = cic_of r.cic

abbrev pub status_word : Status → List ℕ
status_word Pending = codes "pending"
status_word Conflict = codes "conflict"
status_word (CancelPending by) = codes "cancel-pending"
status_word (Sending action) = codes "sending"
status_word Active = codes "active"
status_word PartialFailure = codes "partial-failure"
status_word Failed = codes "failed"
status_word (DisconnectPending release) = codes "disconnect-pending"
status_word Old = codes "old"
status_word Canceled = codes "canceled"

abbrev pub action_word : Action → List ℕ
action_word Create = codes "create"
action_word Delete = codes "delete"
action_word Modify = codes "modify"

abbrev pub sends_word : Status → List ℕ
sends_word (Sending action) = action_word (action_of action)
sends_word _ = codes "none"

abbrev pub release_value : Status → Value
release_value (DisconnectPending release) = Int (pos release)
release_value _ = Null

abbrev pub side_word : Side → List ℕ
side_word OldProvider = codes "old"
side_word NewProvider = codes "new"

abbrev pub by_value : Status → Value
by_value (CancelPending side) = Text (side_word side)
by_value _ = Null

-- The value of a subject column: the subject if the row is found by it, otherwise -1 - id.
abbrev pub found_value : (id : ℕ) → Option Subject → Value
found_value id None = Int (negsuc id)
found_value id (Some s) = subject_value s
