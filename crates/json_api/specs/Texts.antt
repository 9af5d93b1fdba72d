-- The bodies of replies, byte for byte.
use Rattle.std.specs.Prelude.{ℕ, List, [], ◌∷◌, ◌++◌, codes, decimal, Option, Some, None, option_map, option_and_then}
use Rattle.std.specs.List.{flat_map}
use Rattle.numbers.specs.Texts.{block_text, code_text, lrn_text, cic_text, spid_text, subject_text}
use Rattle.numbers.specs.Routings.{Routing}
use Rattle.model.specs.Statuses.{Status, Pending, Conflict, CancelPending, Sending, Active, PartialFailure, Failed, DisconnectPending, Old, Canceled}
use Rattle.model.specs.State.{View, InForce, Download, Phase, Initial, Final, Ended}
use Rattle.model.specs.declared.words.Action.{Action}
use Rattle.model.specs.declared.words.Action.TheVariants.{Create, Delete, Modify}
use Rattle.model.specs.Machine.{Answer, Closed, Opened}
use Rattle.telnp.specs.Answer.{Uri, answer_text}

-- ---- the values of members

-- A carrier identification code in quotes, or null.
abbrev pub cic_value : Option ℕ → List ℕ
cic_value None = codes "null"
cic_value (Some cic) = codes "\"" ++ cic_text cic ++ codes "\""

-- An LRN in quotes, or null.
abbrev pub lrn_value : Option ℕ → List ℕ
lrn_value None = codes "null"
lrn_value (Some lrn) = codes "\"" ++ lrn_text lrn ++ codes "\""

-- A minute or an id, or null.
abbrev pub number_value : Option ℕ → List ℕ
number_value None = codes "null"
number_value (Some number) = decimal number

abbrev pub phase_value : Option Phase → List ℕ
phase_value None = codes "null"
phase_value (Some Initial) = codes "\"initial\""
phase_value (Some Final) = codes "\"final\""
phase_value (Some Ended) = codes "\"ended\""

abbrev pub status_word : Status → List ℕ
status_word Pending = codes "pending"
status_word Conflict = codes "conflict"
status_word (CancelPending by) = codes "cancel-pending"
status_word (Sending action) = codes "sending"
status_word Active = codes "active"
status_word PartialFailure = codes "partial-failure"
status_word Failed = codes "failed"
status_word (DisconnectPending release) = codes "disconnect-pending"
status_word Old = codes "old"
status_word Canceled = codes "canceled"

-- The parts of a routing, if there is one.
abbrev pub cic_in : Option Routing → Option ℕ
cic_in routing = option_and_then (λ (r : Routing). r.cic) routing

abbrev pub lrn_in : Option Routing → Option ℕ
lrn_in routing = option_map (λ (r : Routing). r.lrn) routing

-- ---- a version, whose members are in the order of their names

-- The members `attempt` to `id`.
abbrev pub counts_text : View → List ℕ
counts_text v =
    codes "{\"attempt\":" ++ decimal v.attempt ++ codes ",\"cic\":" ++ cic_value (cic_in v.routing)
    ++ codes ",\"due\":" ++ decimal v.due ++ codes ",\"id\":" ++ decimal v.id

-- The members `lrn` to `old`.
abbrev pub parties_text : View → List ℕ
parties_text v =
    codes ",\"lrn\":" ++ lrn_value (lrn_in v.routing) ++ codes ",\"new\":\"" ++ spid_text
    v.new_provider
    ++ codes "\",\"old\":\"" ++ spid_text v.old_provider ++ codes "\""

-- The members `phase` to `since`.
abbrev pub times_text : View → List ℕ
times_text v =
    codes ",\"phase\":" ++ phase_value v.phase ++ codes ",\"release\":" ++ number_value v.release
    ++ codes ",\"since\":" ++ decimal v.since

-- The members `status` and `subject`.
abbrev pub state_text : View → List ℕ
state_text v = codes ",\"status\":\"" ++ status_word v.status ++ codes "\",\"subject\":\""
    ++ subject_text v.subject ++ codes "\"}"

unfoldable pub view_text : View → List ℕ
view_text v = counts_text v ++ parties_text v ++ times_text v ++ state_text v

-- ---- lists

-- The texts of the items, with a comma between two.
abbrev pub listed : {A : Type 0} → (A → List ℕ) → List A → List ℕ
listed text [] = []
listed text (x ∷ xs) = text x ++ flat_map (λ y. codes "," ++ text y) xs

-- ---- the rows in force

abbrev pub row_text : InForce → List ℕ
row_text r =
    codes "{\"cic\":" ++ cic_value (cic_in r.routing) ++ codes ",\"lrn\":" ++ lrn_value
    (lrn_in r.routing)
    ++ codes ",\"subject\":\"" ++ subject_text r.subject ++ codes "\"}"

-- A registered carrier and its starting rows.
unfoldable pub registered_text : ℕ → List InForce → List ℕ
registered_text spid rows = codes "{\"rows\":[" ++ listed row_text rows ++ codes "],\"spid\":\""
    ++ spid_text spid ++ codes "\"}"

-- ---- downloads, whose members are in the order of their names

abbrev pub action_word : Action → List ℕ
action_word Create = codes "create"
action_word Delete = codes "delete"
action_word Modify = codes "modify"

-- The members `action` to `id`.
abbrev pub sent_text : Download → List ℕ
sent_text d =
    codes "{\"action\":\"" ++ action_word d.action ++ codes "\",\"attempt\":" ++ decimal d.attempt
    ++ codes ",\"cic\":" ++ cic_value (cic_in d.routing) ++ codes ",\"id\":" ++ decimal d.id

-- The members `lrn` to `subject`.
abbrev pub placed_text : Download → List ℕ
placed_text d =
    codes ",\"lrn\":" ++ lrn_value (lrn_in d.routing) ++ codes ",\"minute\":" ++ decimal d.minute
    ++ codes ",\"subject\":\"" ++ subject_text d.subject ++ codes "\"}"

abbrev pub download_text : Download → List ℕ
download_text d = sent_text d ++ placed_text d

-- A carrier's first downloads.
unfoldable pub downloads_text : List Download → List ℕ
downloads_text downloads = codes "{\"downloads\":[" ++ listed download_text downloads ++ codes "]}"

-- ---- routing numbers and codes

-- An LRN and the carrier that registered it.
unfoldable pub routing_number_text : (lrn spid : ℕ) → List ℕ
routing_number_text lrn spid =
    codes "{\"lrn\":\"" ++ lrn_text lrn ++ codes "\",\"spid\":\"" ++ spid_text spid ++ codes "\"}"

-- A code and its holder.
unfoldable pub opened_code_text : (code spid : ℕ) → List ℕ
opened_code_text code spid =
    codes "{\"code\":\"" ++ code_text code ++ codes "\",\"spid\":\"" ++ spid_text spid ++ codes
    "\"}"

-- ---- a donation

-- The donated block and the ids of its new versions.
unfoldable pub donated_text : (block : ℕ) → (ids : List ℕ) → List ℕ
donated_text block ids = codes "{\"block\":\"" ++ block_text block ++ codes "\",\"ids\":[" ++ listed
    decimal ids ++ codes "]}"

-- ---- the ids of a number's versions

unfoldable pub ids_text : (in_force opened : Option ℕ) → List ℕ
ids_text in_force opened = codes "{\"in_force\":" ++ number_value in_force ++ codes ",\"open\":"
    ++ number_value opened ++ codes "}"

-- ---- the clock

-- The present minute.
unfoldable pub now_text : ℕ → List ℕ
now_text now = codes "{\"now\":" ++ decimal now ++ codes "}"

-- The present minute and the number of the present windows.
unfoldable pub windows_set_text : (now number : ℕ) → List ℕ
windows_set_text now number =
    codes "{\"now\":" ++ decimal now ++ codes ",\"set\":" ++ decimal number ++ codes "}"

-- ---- a query

-- The URI in the response to a query, by the register's answer on its number. If the number's code
-- is not opened, it is the text itself.
abbrev pub looked_up : Uri → Answer → List ℕ
looked_up uri Closed = uri.text
looked_up uri (Opened routing) = answer_text uri routing

-- A URI in quotes. No byte of a `tel` URI has to be escaped.
unfoldable pub uri_text : List ℕ → List ℕ
uri_text uri = codes "{\"uri\":\"" ++ uri ++ codes "\"}"
