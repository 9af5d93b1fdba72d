-- What minutes do to the record of a subject.
use Rattle.std.specs.Prelude.{ℕ, suc, zero, ◌+◌, ◌-◌, Bool, false, ◌&&◌, nat_le, max, List, Option, is_some, unwrap_or, if◌then◌else◌}
use Rattle.model.specs.Statuses.{Delete}
use Rattle.model.specs.Statuses.{Status, Pending, Conflict, CancelPending, Sending, Active, PartialFailure, Failed, DisconnectPending, Old, Canceled}
use Rattle.model.specs.declared.words.Side.TheVariants.{OldProvider, NewProvider}
use Rattle.model.specs.Windows.{Windows, WindowSet, has_age}
use Rattle.model.specs.Versions.{Version, Record}
use Rattle.model.specs.Changes.{with_status, next_attempt, closed_with, outcome_at_end, changed_at}

-- The minute when the retention of a pending version begins: the latest of its due minute, the
-- minute when it entered the status, and the minute of the new provider's create.
abbrev pub retained_from : (due since : ℕ) → (new_at : Option ℕ) → ℕ
retained_from due since new_at = max due (max since (unwrap_or new_at 0))

-- Whether the timer of a status has expired at minute j, by the other fields of a version or of its
-- row.
abbrev pub has_expired : Windows → (j due : ℕ) → (old_at new_at : Option ℕ) → (since : ℕ) → Status
    → Bool
has_expired w j due old_at new_at since Pending =
    if is_some new_at
    then has_age w.pending_retention (retained_from due since new_at) j
    else is_some old_at && has_age (w.initial_concurrence + w.final_concurrence) since j
has_expired w j due old_at new_at since Conflict = has_age w.conflict_expiration since j
has_expired w j due old_at new_at since (CancelPending by) =
    has_age (w.cancellation_initial + w.cancellation_final) since j
has_expired w j due old_at new_at since (DisconnectPending release) = nat_le release j
has_expired w j due old_at new_at since (Sending action) = has_age w.broadcast since j
has_expired w j due old_at new_at since Active = false
has_expired w j due old_at new_at since PartialFailure = false
has_expired w j due old_at new_at since Failed = false
has_expired w j due old_at new_at since Old = false
has_expired w j due old_at new_at since Canceled = false

-- Whether the timer of the version has expired at minute j, by the windows that were present when
-- it entered its status.
abbrev pub is_expired : ℕ → Version → Status → Bool
is_expired j v status = has_expired v.held.windows j v.due v.old_at v.new_at v.since status

-- `present` is the present set of windows, which judges a version that changes from then on.
module _ (present : WindowSet) where
  -- The version after its timer expired at minute j. If the old provider cancelled it, the new
  -- provider's acknowledgement is missing and it becomes conflict.
  abbrev pub version_on_expiry : List ℕ → ℕ → Version → Status → Version
  version_on_expiry all_carriers j v Pending = with_status present Canceled j v
  version_on_expiry all_carriers j v Conflict = with_status present Canceled j v
  version_on_expiry all_carriers j v (CancelPending OldProvider) = with_status present Conflict j v
  version_on_expiry all_carriers j v (CancelPending NewProvider) = with_status present Canceled j v
  version_on_expiry all_carriers j v (DisconnectPending release) =
      next_attempt present Delete all_carriers j v
  version_on_expiry all_carriers j v (Sending action) =
      closed_with present action (outcome_at_end v.broadcasts) j v
  version_on_expiry all_carriers j v Active = v
  version_on_expiry all_carriers j v PartialFailure = v
  version_on_expiry all_carriers j v Failed = v
  version_on_expiry all_carriers j v Old = v
  version_on_expiry all_carriers j v Canceled = v

  -- One version, judged at minute j.
  unfoldable pub judged_version : List ℕ → ℕ → Version → Version
  judged_version all_carriers j v = if is_expired j v v.status
      then version_on_expiry all_carriers j v v.status else v

  -- A subject's record, judged at minute j.
  unfoldable pub judge : ℕ → Record → Record
  judge j r = record r { versions = changed_at present j (judged_version r.carriers j) r.versions }

  -- The record, judged at each of the next n minutes after `from`, in order.
  unfoldable pub judged_for : ℕ → ℕ → Record → Record
  judged_for from zero r = r
  judged_for from (suc n) r = judge (suc (from + n)) (judged_for from n r)

  -- The record, judged at each minute after `from`, up to `until`.
  abbrev pub judged : ℕ → ℕ → Record → Record
  judged from until r = judged_for from (until - from) r

  -- The record, judged at each minute from 0 up to `until`.
  abbrev pub caught_up : ℕ → Record → Record
  caught_up until r = judged 0 until (judge 0 r)
