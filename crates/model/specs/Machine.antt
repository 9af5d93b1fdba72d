-- The history machine: its answers, and its next states.
use Rattle.std.specs.Prelude.{ℕ, Bool, suc, zero, List, [], ◌∷◌, map, take, length, Option, Some, None, is_some, option_map, option_and_then, if◌then◌else◌, ◌≡◌, ◌≤◌, ⊤}
use Rattle.numbers.specs.Digits.{code_of}
use Rattle.numbers.specs.Subjects.{subject_eq, subject_lt, Subject, Number, Block}
use Rattle.numbers.specs.Routings.{Routing}
use Rattle.model.specs.Commands.{Command, RegisterCarrier, RegisterRoutingNumber, OpenCode, OldProviderCreate, NewProviderCreate, OnVersion, Donate, Assign, Release, SetWindows}
use Rattle.model.specs.Windows.{Windows}
use Rattle.model.specs.Versions.{Version, version_in_force, open_version, last_version}
use Rattle.model.specs.History.{Entry, CommandRequest, AcknowledgementRequest, code_holder, subjects_made_by, lacks_old_create, lacks_new_create, HasValues}
use Rattle.model.specs.State.{State, Download, InForce, View, set_now, record_now, version_of_id, routing_of, all_in_force, queue, view_of, next_of}
use Rattle.model.specs.Refusals.{Input, ClockMoment, RequestFrom, QuestionFrom, Knows, Fetch, ShowVersion, Query, AllInForce, Waiting, Ids, second_of, refusal}

-- The answer to a query: the code is not opened, or the routing of calls to the number.
pub data Answer : Type 0 where
  Closed : Answer
  Opened : (routing : Option Routing) → Answer

-- The machine's answer to an input.
pub data Reply : Type 0 where
  Refused : (number : ℕ) → Reply
  Moved : (now : ℕ) → Reply
  Registered : (spid : ℕ) (rows : List InForce) → Reply
  LrnAdded : (lrn spid : ℕ) → Reply
  CodeOpened : (code spid : ℕ) → Reply
  WindowsSet : (now number : ℕ) → Reply
  Shown : (view : Option View) → Reply
  Donated : (block : ℕ) (ids : List ℕ) → Reply
  Known : Reply
  Fetched : (downloads : List Download) → Reply
  Answered : (answer : Answer) → Reply
  Rows : (rows : List InForce) → Reply
  Awaited : (subjects : List Subject) → Reply
  Found : (in_force opened : Option ℕ) → Reply

-- ---- the next state

-- The state after an input that is not refused. A request becomes the newest entry of the history,
-- a clock moment sets the minute, and a question changes nothing.
abbrev pub accepted : State → Input → State
accepted st (ClockMoment m) = record st { now = m }
accepted st (RequestFrom caller request) = record st {
  history = record { minute = st.now; caller = caller; request = request } ∷ st.history;
}
accepted st (QuestionFrom caller q) = st

abbrev pub unless_refused : Option ℕ → State → State → State
unless_refused None then_state st = then_state
unless_refused (Some k) then_state st = st

-- The machine's state after an input.
unfoldable pub next : State → Input → State
next st input = unless_refused (refusal st input) (accepted st input) st

-- ---- the answer

-- The view of the version with this id.
abbrev pub shown : State → ℕ → Reply
shown st id = Shown (option_map (view_of st) (version_of_id st id))

-- The view of the version with the id, if an id was found.
abbrev pub shown_found : State → Option ℕ → Reply
shown_found st id = Shown (option_map (view_of st) (option_and_then (version_of_id st) id))

-- The id of the version that a create makes or completes: that of the version whose second create
-- it is, or else the next id.
abbrev pub id_of_create : State → (tn : ℕ) → (lacks : Version → Bool) → ℕ
id_of_create st tn lacks =
    elim (second_of st tn lacks) [ Some v ↦ v.id | None ↦ next_of st ]

-- `many` ids, from `id` on.
abbrev pub ids_from : ℕ → ℕ → List ℕ
ids_from id zero = []
ids_from id (suc many) = id ∷ ids_from (suc id) many

-- The answer to a command that is not refused. `st` is the state before the command, `new` the
-- state after it.
abbrev pub reply_of : State → State → ℕ → Command → Reply
reply_of st new caller (RegisterCarrier spid) = Registered spid (all_in_force st)
reply_of st new caller (RegisterRoutingNumber lrn) = LrnAdded lrn caller
reply_of st new caller (OpenCode code spid) = CodeOpened code spid
reply_of st new caller (SetWindows windows) = WindowsSet st.now (set_now new).number
reply_of st new caller (Donate block used lrn cic) =
    Donated block (ids_from (next_of st)
    (length (subjects_made_by (CommandRequest (Donate block used lrn cic)) (record_now st))))
reply_of st new caller (Assign block holder lrn cic) = shown new (next_of st)
reply_of st new caller (Release block) =
    shown_found new (option_map (λ (v : Version). v.id)
    (last_version (record_now st (Block block))))
reply_of st new caller (OnVersion id c) = shown new id
reply_of st new caller (OldProviderCreate tn old_provider new_provider due authorized) =
    shown new (id_of_create st tn (lacks_old_create old_provider new_provider))
reply_of st new caller (NewProviderCreate tn old_provider new_provider due lrn cic) =
    shown new (id_of_create st tn (lacks_new_create old_provider new_provider))

-- The ascending list with s inserted, unless it already has s.
abbrev pub with_subject : Subject → List Subject → List Subject
with_subject s [] = s ∷ []
with_subject s (t ∷ ts) = if subject_lt s t then s ∷ t ∷ ts else (if subject_eq s t then t ∷ ts
    else t ∷ with_subject s ts)

-- The subjects, ascending, without duplicates.
abbrev pub distinct_subjects : List Subject → List Subject
distinct_subjects [] = []
distinct_subjects (s ∷ ss) = with_subject s (distinct_subjects ss)

-- The answer to an input that is not refused. `st` is the state before the input, `new` the state
-- after it.
abbrev pub answer_of : State → State → Input → Reply
answer_of st new (ClockMoment m) = Moved m
answer_of st new (RequestFrom caller (CommandRequest c)) = reply_of st new caller c
answer_of st new (RequestFrom caller (AcknowledgementRequest id attempt)) = shown new id
answer_of st new (QuestionFrom caller Knows) = Known
answer_of st new (QuestionFrom caller (Fetch n)) = Fetched (take n (queue st caller))
answer_of st new (QuestionFrom caller (ShowVersion id)) = shown st id
answer_of st new (QuestionFrom caller (Query tn)) =
    Answered (if is_some (code_holder (code_of tn) st.history) then Opened (routing_of st tn)
    else Closed)
answer_of st new (QuestionFrom caller AllInForce) = Rows (all_in_force st)
answer_of st new (QuestionFrom caller Waiting) =
    Awaited (distinct_subjects (map (λ (d : Download). d.subject) (queue st caller)))
answer_of st new (QuestionFrom caller (Ids tn)) =
    Found (option_map (λ (v : Version). v.id) (version_in_force (record_now st (Number tn))))
    (option_map (λ (v : Version). v.id) (open_version (Number tn) (record_now st (Number tn))))

abbrev pub refused_or : Option ℕ → Reply → Reply
refused_or (Some k) reply = Refused k
refused_or None reply = reply

-- The machine's answer to an input.
unfoldable pub out : State → Input → Reply
out st input = refused_or (refusal st input) (answer_of st (accepted st input) input)

-- ---- runs

-- The state after a list of inputs.
abbrev pub state_after : State → List Input → State
state_after st [] = st
state_after st (i ∷ is) = state_after (next st i) is

-- The answers to a list of inputs.
abbrev pub answers_to : State → List Input → List Reply
answers_to st [] = []
answers_to st (i ∷ is) = out st i ∷ answers_to (next st i) is

-- Holds if each entry was accepted at its place in the history, with values of their types. No
-- minute is less than an earlier one.
abbrev pub IsHistory : Windows → List Entry → ℕ → Type 0
IsHistory w [] now = ⊤
IsHistory w (e ∷ h) now =
    (e.minute ≤ now) × HasValues e.request
    × (refusal (record { windows = w; history = h; now = e.minute })
    (RequestFrom e.caller e.request)
    ≡ None) × IsHistory w h e.minute

-- Holds if some run leads from the first state to this one.
abbrev pub HasHistory : State → Type 0
HasHistory st = IsHistory st.windows st.history st.now
