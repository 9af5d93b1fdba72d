-- The inputs of the register, and the refusal of each: the least number whose test holds.
use Rattle.std.specs.Prelude.{ℕ, ◌+◌, Bool, true, false, not, ◌&&◌, ◌||◌, ◌==◌, nat_lt, nat_le, List, [], ◌∷◌, ◌++◌, map, filter, find, length, Option, Some, None, is_some, is_none, option_map, if◌then◌else◌}
use Rattle.std.specs.List.{list_any}
use Rattle.numbers.specs.Digits.{code_of, block_of, block_code_of}
use Rattle.numbers.specs.Subjects.{subject_eq, Subject, Number, Block}
use Rattle.model.specs.Commands.{Command, RegisterCarrier, RegisterRoutingNumber, OpenCode, OldProviderCreate, NewProviderCreate, OnVersion, Donate, Assign, Release, SetWindows}
use Rattle.model.specs.Versions.{Version, in_force, is_open, version_in_force, open_version, last_version}
use Rattle.model.specs.Conditions.{limit, holds_of, is_the, is_active, takes_block, has_no_room, is_past, is_another_due, is_late_conflict, has_no_attempt_left}
use Rattle.model.specs.History.{Request, CommandRequest, AcknowledgementRequest, carriers, lrn_owner, code_holder, donor_of, used_numbers, lacks_old_create, lacks_new_create, subjects_made_by}
use Rattle.model.specs.OnVersion.{version_tests, is_number}
use Rattle.model.specs.State.{State, SubjectVersion, Download, Server, InPool, record_now, is_carrier, all_versions, version_of_id, serving, is_served_by, queue, is_before, set_now, next_of}

-- A caller's question. It is about the caller: whether it is known, its first n downloads, or the
-- subjects of its pending ones. Or it asks for a version, a number's routing, a number's ids, or
-- all rows in force.
pub data Question : Type 0 where
  Knows : Question
  Fetch : (n : ℕ) → Question
  ShowVersion : (id : ℕ) → Question
  Query : (tn : ℕ) → Question
  AllInForce : Question
  Waiting : Question
  Ids : (tn : ℕ) → Question

-- The machine's input: a clock moment, a caller's request, or a caller's question. `AllInForce` and
-- `Ids` do not depend on the caller.
pub data Input : Type 0 where
  ClockMoment : (minute : ℕ) → Input
  RequestFrom : (caller : ℕ) (request : Request) → Input
  QuestionFrom : (caller : ℕ) (question : Question) → Input

-- The administrator, whose SPID is the four letters `NPAC`, as a number.
abbrev pub npac : ℕ
npac = 0x4E504143

-- ---- parts of the tests

-- Whether one of these carriers is not registered.
abbrev pub one_is_unknown : State → List ℕ → Bool
one_is_unknown st spids = list_any (λ s. not (is_carrier st s)) spids

-- Whether the caller is neither a registered carrier nor the administrator.
abbrev pub is_stranger : State → ℕ → Bool
is_stranger st caller = not (is_carrier st caller) && not (caller == npac)

-- Whether the carrier registered the routing number.
abbrev pub owns : State → (lrn carrier : ℕ) → Bool
owns st lrn carrier = is_the carrier (lrn_owner lrn st.history)

-- Whether the number is in the pool, where nobody serves it.
abbrev pub is_in_pool : Server → Bool
is_in_pool InPool = true
is_in_pool _ = false

-- The version whose second create this is.
abbrev pub second_of : State → (tn : ℕ) → (lacks : Version → Bool) → Option Version
second_of st tn lacks = find lacks (record_now st (Number tn)).versions

-- Whether the number has no room for a first create, by its open version, its version in force, and
-- its block's version in force.
abbrev pub number_is_busy : State → ℕ → Bool
number_is_busy st n =
    has_no_room (option_map (λ (v : Version). v.status)
    (open_version (Number n) (record_now st (Number n))))
    (option_map (λ (v : Version). v.status) (version_in_force (record_now st (Number n))))
    (option_map (λ (v : Version). v.status) (version_in_force (record_now st (Block (block_of n)))))

-- Whether the subject has an open version.
abbrev pub has_open : State → Subject → Bool
has_open st s = is_some (open_version s (record_now st s))

-- Whether the subject is a number of the block.
abbrev pub is_in_block : ℕ → Subject → Bool
is_in_block b (Number n) = block_of n == b
is_in_block b (Block c) = false

-- The numbers of a block that are named as used or have a version in force.
abbrev pub contaminated_numbers : State → ℕ → List ℕ → List Subject
contaminated_numbers st block used =
    used_numbers block used
    ++ filter (λ s. is_in_block block s && not
    (list_any (subject_eq s) (used_numbers block used)))
    (map (λ (e : SubjectVersion). e.subject) (filter (λ e. in_force e.version) (all_versions st)))

-- Whether a number of the block is being ported: it has an open version and none in force.
abbrev pub has_open_port : State → ℕ → Bool
has_open_port st block =
    list_any (λ (e : SubjectVersion). is_in_block block e.subject && is_open e.subject e.version
    && is_none (version_in_force (record_now st e.subject))) (all_versions st)

-- Whether this many more versions would pass the last id.
abbrev pub ids_run_out : State → ℕ → Bool
ids_run_out st versions = nat_lt limit (next_of st + versions)

-- ---- tests of a command

-- The tests of each command with their numbers. A command has no other refusals. The first test
-- that holds has the least number of those that hold. Numbers ascend, except 7 of a modify, which
-- comes after 10: test 7 holds only of a number's version, and test 10 does not hold of one.
--
--  1  the caller, or a carrier that is named, is not registered
--  2  the caller is not the administrator
--  3  the code is not opened
--  4  the carrier is registered already, or is the administrator
--  5  the code is opened already
--  6  the routing number is registered already
--  7  the carrier that is to be routed to did not register the routing number
--  8  the number is in the pool
--  9  the old provider does not serve the number, or is the new provider
-- 10  no such version, or a block's; the block is not donated, or to be released and never assigned
-- 11  the caller is not the provider that may do this
-- 12  there is no room for a first create; a disconnect or a modify finds an open version
-- 13  the version's status does not allow it
-- 14  the due minute of a first create, or the release minute of a disconnect, is past
-- 15  a second create has another due minute
-- 16  an activation lacks a create that it needs, or a removal from conflict one of the two
-- 17  a pending version is activated before its due minute
-- 18  the old provider has put the version in conflict before
-- 19  a conflict is too near to the due minute
-- 20  the new provider removes a conflict before it may
-- 21  a failed protective version is cancelled
-- 22  more than a hundred numbers of the block are in use
-- 23  a number of the block is being ported
-- 24  the block is donated already, or assigned already
-- 28  a hundred carriers, a thousand sets of windows, or an id or an attempt past the last
module _ (st : State) (caller : ℕ) where
  abbrev pub own_tests : Command → List (ℕ × Bool)
  own_tests (RegisterCarrier spid) =
      (2, not (caller == npac)) ∷ (4, is_carrier st spid || (spid == npac))
      ∷ (28, nat_le 100 (length (carriers st.history))) ∷ []
  own_tests (RegisterRoutingNumber lrn) =
      (1, not (is_carrier st caller)) ∷ (6, is_some (lrn_owner lrn st.history)) ∷ []
  own_tests (OpenCode code spid) =
      (1, not (is_carrier st spid)) ∷ (2, not (caller == npac))
      ∷ (5, is_some (code_holder code st.history)) ∷ []
  own_tests (SetWindows windows) =
      (2, not (caller == npac)) ∷ (28, nat_le 1000 (set_now st).number) ∷ []
  own_tests (OldProviderCreate tn old_provider new_provider due authorized) =
      let second = second_of st tn (lacks_old_create old_provider new_provider) in
      (1, one_is_unknown st (old_provider ∷ new_provider ∷ caller ∷ []))
      ∷ (3, is_none (code_holder (code_of tn) st.history))
      ∷ (8, is_in_pool (serving st tn))
      ∷ (9, not (is_served_by old_provider (serving st tn)) || (old_provider == new_provider))
      ∷ (11, not (caller == old_provider))
      ∷ (12, is_none second && number_is_busy st tn)
      ∷ (14, is_none second && is_past st.now due)
      ∷ (15, holds_of (λ (v : Version). is_another_due due v.due) second)
      ∷ (18, not authorized && holds_of (λ (v : Version). v.spent) second)
      ∷ (19, not authorized && is_late_conflict (set_now st).windows st.now due)
      ∷ (28, is_none second && ids_run_out st 1) ∷ []
  own_tests (NewProviderCreate tn old_provider new_provider due lrn cic) =
      let second = second_of st tn (lacks_new_create old_provider new_provider) in
      (1, one_is_unknown st (old_provider ∷ new_provider ∷ caller ∷ []))
      ∷ (3, is_none (code_holder (code_of tn) st.history))
      ∷ (7, not (owns st lrn new_provider))
      ∷ (8, is_in_pool (serving st tn))
      ∷ (9, not (is_served_by old_provider (serving st tn)) || (old_provider == new_provider))
      ∷ (11, not (caller == new_provider))
      ∷ (12, is_none second && number_is_busy st tn)
      ∷ (14, is_none second && is_past st.now due)
      ∷ (15, holds_of (λ (v : Version). is_another_due due v.due) second)
      ∷ (28, is_none second && ids_run_out st 1) ∷ []
  own_tests (OnVersion id c) =
      let found = version_of_id st id in
      (1, not (is_carrier st caller))
      ∷ (10, not (holds_of (λ (e : SubjectVersion). is_number e.subject) found))
      ∷ version_tests (set_now st).windows st.now caller (has_open st) (owns st) c found
  own_tests (Donate block used lrn cic) =
      let holder = code_holder (block_code_of block) st.history in
      (1, not (is_carrier st caller)) ∷ (3, is_none holder) ∷ (7, not (owns st lrn caller))
      ∷ (11, not (is_the caller holder))
      ∷ (22, nat_lt 100 (length (contaminated_numbers st block used)))
      ∷ (23, has_open_port st block) ∷ (24, is_some (donor_of block st.history))
      ∷ (
        28,
        ids_run_out st (length (subjects_made_by (CommandRequest (Donate block used lrn cic))
            (record_now st))),
      ) ∷ []
  own_tests (Assign block holder lrn cic) =
      let last = last_version (record_now st (Block block)) in
      (1, not (is_carrier st holder)) ∷ (2, not (caller == npac))
      ∷ (3, is_none (code_holder (block_code_of block) st.history))
      ∷ (7, not (owns st lrn holder)) ∷ (10, is_none (donor_of block st.history))
      ∷ (23, has_open_port st block)
      ∷ (24, holds_of (λ (v : Version). takes_block v.status) last)
      ∷ (28, ids_run_out st 1) ∷ []
  own_tests (Release block) =
      let last = last_version (record_now st (Block block)) in
      (1, is_stranger st caller)
      ∷ (3, is_none (code_holder (block_code_of block) st.history))
      ∷ (10, is_none (donor_of block st.history) || is_none last)
      ∷ (
        11,
        not (caller == npac) && holds_of (λ (v : Version). not (caller == v.new_provider)) last,
      )
      ∷ (13, holds_of (λ (v : Version). not (is_active v.status)) last)
      ∷ (23, has_open_port st block)
      ∷ (28, holds_of (λ (v : Version). has_no_attempt_left v.attempt) last) ∷ []

-- ---- tests of an acknowledgement, a question and a clock moment

-- Test 10 of an acknowledgement or a question: no version has the id.
abbrev pub no_version : State → ℕ → Bool
no_version st id = is_none (version_of_id st id)

abbrev pub is_download : ℕ → ℕ → Download → Bool
is_download id attempt d = (d.id == id) && (d.attempt == attempt)

-- Whether the queue does not have this download.
abbrev pub is_not_among : List Download → ℕ → ℕ → Bool
is_not_among downloads id attempt = not (list_any (is_download id attempt) downloads)

-- Whether the queue has this download and an earlier one of its subject.
abbrev pub is_preceded : List Download → ℕ → ℕ → Bool
is_preceded downloads id attempt =
    list_any (λ d. is_download id attempt d && list_any (λ e. subject_eq e.subject d.subject
    && is_before e d) downloads) downloads

-- Test 25: no such download is pending for the caller.
abbrev pub not_queued : State → ℕ → ℕ → ℕ → Bool
not_queued st caller id attempt = is_not_among (queue st caller) id attempt

-- Test 26: an earlier download of the same subject is pending for the caller.
abbrev pub out_of_order : State → ℕ → ℕ → ℕ → Bool
out_of_order st caller id attempt = is_preceded (queue st caller) id attempt

-- Test 27: the clock would go back.
abbrev pub clock_back : State → ℕ → Bool
clock_back st m = nat_lt m st.now

-- The tests of an input, with their numbers.
unfoldable pub tests : State → Input → List (ℕ × Bool)
tests st (ClockMoment m) = (27, clock_back st m) ∷ []
tests st (RequestFrom caller (CommandRequest c)) = own_tests st caller c
tests st (RequestFrom caller (AcknowledgementRequest id attempt)) =
    (1, not (is_carrier st caller)) ∷ (10, no_version st id)
    ∷ (25, not_queued st caller id attempt) ∷ (26, out_of_order st caller id attempt) ∷ []
tests st (QuestionFrom caller Knows) = (1, is_stranger st caller) ∷ []
tests st (QuestionFrom caller (Fetch n)) = (1, not (is_carrier st caller)) ∷ []
tests st (QuestionFrom caller (ShowVersion id)) =
    (1, is_stranger st caller) ∷ (10, no_version st id) ∷ []
tests st (QuestionFrom caller (Query tn)) = (1, is_stranger st caller) ∷ []
tests st (QuestionFrom caller AllInForce) = []
tests st (QuestionFrom caller Waiting) = (1, not (is_carrier st caller)) ∷ []
tests st (QuestionFrom caller (Ids tn)) = []

-- Whether the test with this number holds, if there is one.
abbrev pub holds_at : ℕ → List (ℕ × Bool) → Bool
holds_at number [] = false
holds_at number (t ∷ ts) = if t.0 == number then t.1 else holds_at number ts

-- The number of the first test that holds.
abbrev pub first_refusal : List (ℕ × Bool) → Option ℕ
first_refusal [] = None
first_refusal (t ∷ ts) = if t.1 then Some t.0 else first_refusal ts

-- The refusal of an input, if it is refused.
abbrev pub refusal : State → Input → Option ℕ
refusal st input = first_refusal (tests st input)
