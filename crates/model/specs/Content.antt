-- What a store contains, and which content represents a state.
use Rattle.std.specs.Prelude.{ℕ, suc, zero, Bool, true, false, ◌&&◌, ◌||◌, ◌==◌, List, [], ◌∷◌, find, Option, Some, None, is_some, option_map, option_and_then, if◌then◌else◌, ◌≡◌, ◌<◌}
use Rattle.std.specs.Ordering.{nat_cmp, ordering_then}
use Rattle.std.specs.declared.cmp.Ordering.{Ordering}
use Rattle.std.specs.FinMap.{FinMap, get, empty}
use Rattle.numbers.specs.Subjects.{subject_eq, Subject, Block}
use Rattle.numbers.specs.Routings.{Routing}
use Rattle.model.specs.declared.words.Action.{Action}
use Rattle.model.specs.Statuses.{Status}
use Rattle.model.specs.Windows.{Windows, AreWindows, WindowSet}
use Rattle.model.specs.Versions.{Broadcast, Version, Record, is_among, in_force, is_open, is_open_broadcast, last_version, version_with, waiters}
use Rattle.model.specs.Judge.{has_expired, judge, caught_up}
use Rattle.model.specs.History.{Entry, set_of_number, replay, carriers, lrn_owner, code_holder, donor_of}
use Rattle.model.specs.State.{State, set_now, record_now, next_of}
use Rattle.model.specs.Conditions.{limit}
use Rattle.model.specs.Machine.{IsHistory, HasHistory}

-- ---- rows

-- The row of a donated block: its donor, and the id of the newest version that was made of it.
pub record BlockRow : Type 0 where
  pub donor : ℕ
  pub last : Option ℕ

-- The row of a version. `held` is the number of its set of windows, which was present when it
-- entered its status. `deadline` is the minute when its timer expires. `holds` is the subject while
-- the version is in force, and `opens` while it is open.
pub record VersionRow : Type 0 where
  pub subject : Subject
  pub old_provider : ℕ
  pub new_provider : ℕ
  pub due : ℕ
  pub routing : Option Routing
  pub old_at : Option ℕ
  pub new_at : Option ℕ
  pub status : Status
  pub since : ℕ
  pub held : ℕ
  pub attempt : ℕ
  pub spent : Bool
  pub protective : Bool
  pub deadline : Option ℕ
  pub holds : Option Subject
  pub opens : Option Subject

-- The row of a broadcast. `any` says whether somebody acknowledged it.
pub record BroadcastRow : Type 0 where
  pub minute : ℕ
  pub subject : Subject
  pub action : Action
  pub routing : Option Routing
  pub is_open : Bool
  pub any : Bool

-- The clock's row: the minute, the id of the next version, and the present set of windows.
pub record ClockRow : Type 0 where
  pub minute : ℕ
  pub next_id : ℕ
  pub present : WindowSet

-- The key of a broadcast: its version's id, and its attempt.
pub record BroadcastKey : Type 0 where
  pub id : ℕ
  pub attempt : ℕ

-- The key of a download that is pending for a carrier.
pub record WaitKey : Type 0 where
  pub carrier : ℕ
  pub minute : ℕ
  pub id : ℕ
  pub attempt : ℕ

abbrev pub broadcast_key : (id attempt : ℕ) → BroadcastKey
broadcast_key id attempt = record { id = id; attempt = attempt }

abbrev pub wait_key : (carrier minute id attempt : ℕ) → WaitKey
wait_key carrier minute id attempt = record {
  carrier = carrier;
  minute = minute;
  id = id;
  attempt = attempt;
}

abbrev pub broadcast_cmp : BroadcastKey → BroadcastKey → Ordering
broadcast_cmp a b = ordering_then (nat_cmp a.id b.id) (nat_cmp a.attempt b.attempt)

abbrev pub wait_cmp : WaitKey → WaitKey → Ordering
wait_cmp a b =
    ordering_then (nat_cmp a.carrier b.carrier)
    (ordering_then (nat_cmp a.minute b.minute) (ordering_then (nat_cmp a.id b.id)
    (nat_cmp a.attempt b.attempt)))

-- What a store contains: eight finite maps, and the clock's row if it was written.
pub record Content : Type 0 where
  pub carriers : FinMap nat_cmp (Unit {0})
  pub lrns : FinMap nat_cmp ℕ
  pub codes : FinMap nat_cmp ℕ
  pub blocks : FinMap nat_cmp BlockRow
  pub versions : FinMap nat_cmp VersionRow
  pub broadcasts : FinMap broadcast_cmp BroadcastRow
  pub waits : FinMap wait_cmp Subject
  pub sets : FinMap nat_cmp Windows
  pub clock : Option ClockRow

-- ---- what is stored of a record

-- The least number below n that passes the test.
unfoldable pub least_below : (ℕ → Bool) → ℕ → Option ℕ
least_below test zero = None
least_below test (suc n) = elim (least_below test n) [
  | Some m ↦ Some m
  | None ↦ (if test n then Some n else None)
]

-- The earliest minute when the timer of a status has expired, if there is one, by the fields of a
-- version or of its row.
abbrev pub deadline_of : Windows → (due : ℕ) → (old_at new_at : Option ℕ) → (since : ℕ) → Status
    → Option ℕ
deadline_of w due old_at new_at since status =
    least_below (λ j. has_expired w j due old_at new_at since status) limit

abbrev pub deadline : Version → Option ℕ
deadline v = deadline_of v.held.windows v.due v.old_at v.new_at v.since v.status

abbrev pub subject_if : Bool → Subject → Option Subject
subject_if b s = if b then Some s else None

-- The row of a version of s.
abbrev pub row_of : Subject → Version → VersionRow
row_of s v = record {
  subject = s;
  old_provider = v.old_provider;
  new_provider = v.new_provider;
  due = v.due;
  routing = v.routing;
  old_at = v.old_at;
  new_at = v.new_at;
  status = v.status;
  since = v.since;
  held = v.held.number;
  attempt = v.attempt;
  spent = v.spent;
  protective = v.protective;
  deadline = deadline v;
  holds = subject_if (in_force v) s;
  opens = subject_if (is_open s v) s;
}

abbrev pub broadcast_with : ℕ → ℕ → Record → Option Broadcast
broadcast_with id attempt r =
    option_and_then (λ (v : Version). find (λ b. b.attempt == attempt) v.broadcasts)
    (version_with id r)

abbrev pub is_nonempty : List ℕ → Bool
is_nonempty [] = false
is_nonempty (c ∷ cs) = true

-- The row of a broadcast, which is stored while it is open or pending for some carrier.
abbrev pub stored_broadcast : Subject → Broadcast → Option BroadcastRow
stored_broadcast s b =
    if is_open_broadcast b || is_nonempty (waiters b)
    then Some (record {
      minute = b.minute;
      subject = s;
      action = b.action;
      routing = b.routing;
      is_open = is_open_broadcast b;
      any = is_nonempty b.acknowledged;
    })
    else None

-- The row of a download: its subject, which is stored while the download is pending for the
-- carrier.
abbrev pub stored_wait : Subject → ℕ → ℕ → Broadcast → Option Subject
stored_wait s carrier minute b = if (b.minute == minute) && is_among carrier (waiters b) then Some s
    else None

-- The row, if it is of the subject.
abbrev pub of_subject : {R : Type 0} → Subject → (R → Subject) → Option R → Option R
of_subject s subject None = None
of_subject s subject (Some row) = if subject_eq (subject row) s then Some row else None

-- Holds if the rows of subject s are those of record r.
pub record RowsMatch (c : Content) (s : Subject) (r : Record) : Type 0 where
  pub versions : (id : ℕ) → of_subject s (λ (v : VersionRow). v.subject) (get c.versions id)
      ≡ option_map (row_of s) (version_with id r)
  pub broadcasts : (id attempt : ℕ) →
      of_subject s (λ (b : BroadcastRow). b.subject) (get c.broadcasts (broadcast_key id attempt))
      ≡ option_and_then (stored_broadcast s) (broadcast_with id attempt r)
  pub waits : (carrier minute id attempt : ℕ) →
      of_subject s (λ t. t) (get c.waits (wait_key carrier minute id attempt))
      ≡ option_and_then (stored_wait s carrier minute) (broadcast_with id attempt r)

-- The record, judged at each of these minutes, the last of the list first.
abbrev pub judged_at : WindowSet → List ℕ → Record → Record
judged_at present [] r = r
judged_at present (j ∷ js) r = judge present j (judged_at present js r)

-- Holds if a run of the machine that begins with these windows makes the record of the subject. The
-- record may have been judged at some minutes since, with this set as the present one.
pub record IsReachableRecord (w : Windows) (present : WindowSet) (s : Subject)
    (r : Record) : Type 0 where
  pub entries : List Entry
  pub until : ℕ
  pub are_entries : IsHistory w entries until
  pub minutes : List ℕ
  pub is : r ≡ judged_at present minutes (replay w s entries until)

-- Holds if the rows of s match an earlier record that becomes r by judging each minute from 0 to
-- now. A run leads to that record. A version that changes on the way takes the present set of
-- windows, since everything due earlier was settled before that set was made.
pub record RowsCatchUp (w : Windows) (present : WindowSet) (c : Content) (now : ℕ) (s : Subject)
    (r : Record) : Type 0 where
  pub kept : Record
  pub rows_match : RowsMatch c s kept
  pub reached : IsReachableRecord w present s kept
  pub catches_up : caught_up present now kept ≡ r

-- The row of a block, if it is donated: its donor, and the newest version that was made of it.
abbrev pub stored_block : State → ℕ → Option BlockRow
stored_block st b = option_map (λ donor. record {
  donor = donor;
  last = option_map (λ (v : Version). v.id) (last_version (record_now st (Block b)));
}) (donor_of b st.history)

-- Holds if the clock's row is that of the state. Without a row the state is the first.
abbrev pub ClockRowMatches : Option ClockRow → State → Type 0
ClockRowMatches None st = (st.history ≡ []) × (st.now ≡ 0)
ClockRowMatches (Some row) st = row ≡ record {
  minute = st.now;
  next_id = next_of st;
  present = set_now st;
}

-- The windows of the set with this number, if there is one. They are written with the clock's row.
abbrev pub stored_set : Option ClockRow → State → ℕ → Option Windows
stored_set None st number = None
stored_set (Some row) st number =
    option_map (λ (set : WindowSet). set.windows) (set_of_number number st.windows st.history)

-- Holds if the content represents the state. The rows of a subject may lag: the state has their
-- record as judged up to now. The rows of the registry may not lag.
pub record Represents (c : Content) (st : State) : Type 0 where
  pub windows : AreWindows st.windows
  pub before_limit : st.now < limit
  pub history : HasHistory st
  pub clock : ClockRowMatches c.clock st
  pub sets : (k : ℕ) → get c.sets k ≡ stored_set c.clock st k
  pub carriers : (k : ℕ) → is_some (get c.carriers k) ≡ is_among k (carriers st.history)
  pub lrns : (k : ℕ) → get c.lrns k ≡ lrn_owner k st.history
  pub codes : (k : ℕ) → get c.codes k ≡ code_holder k st.history
  pub blocks : (k : ℕ) → get c.blocks k ≡ stored_block st k
  pub subjects : (s : Subject) → RowsCatchUp st.windows (set_now st) c st.now s (record_now st s)

-- The content before anything is written.
abbrev pub empty_content : Content
empty_content = record {
  carriers = empty;
  lrns = empty;
  codes = empty;
  blocks = empty;
  versions = empty;
  broadcasts = empty;
  waits = empty;
  sets = empty;
  clock = None;
}

-- Holds if the rows of s are the same in both contents.
pub record SameRows (s : Subject) (old new : Content) : Type 0 where
  pub versions : (id : ℕ) → of_subject s (λ (v : VersionRow). v.subject) (get new.versions id)
      ≡ of_subject s (λ (v : VersionRow). v.subject) (get old.versions id)
  pub broadcasts : (id attempt : ℕ) →
      of_subject s (λ (b : BroadcastRow). b.subject) (get new.broadcasts (broadcast_key id attempt))
      ≡ of_subject s (λ (b : BroadcastRow). b.subject)
      (get old.broadcasts (broadcast_key id attempt))
  pub waits : (carrier minute id attempt : ℕ) →
      of_subject s (λ t. t) (get new.waits (wait_key carrier minute id attempt))
      ≡ of_subject s (λ t. t) (get old.waits (wait_key carrier minute id attempt))
