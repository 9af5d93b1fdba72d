-- What the numbers of a packed row mean.
use Rattle.std.specs.Prelude.{ℕ, ◌/◌, ◌%◌, ◌^◌, nat_lt, Option, Some, None, if◌then◌else◌}
use Rattle.numbers.specs.Digits.{number_in}
use Rattle.numbers.specs.Routings.{Routing}
use Rattle.numbers.specs.Subjects.{Subject, Number, Block}
use Rattle.model.specs.Content.{VersionRow, subject_if}
use Rattle.model.specs.Statuses.{Create, Delete, Modify, Status, Pending, Conflict, CancelPending, Sending, Active, PartialFailure, Failed, DisconnectPending, Old, Canceled}
use Rattle.model.specs.declared.words.Side.TheVariants.{OldProvider, NewProvider}
use Rattle.store.specs.declared.packed.Kind.{Kind}
use Rattle.store.specs.declared.packed.Kind.TheVariants.{Pending as KindPending, Conflict as KindConflict, CancelledByOld, CancelledByNew, SendingCreate, SendingDelete, SendingModify, Active as KindActive, PartialFailure as KindPartialFailure, Failed as KindFailed, DisconnectPending as KindDisconnectPending, Old as KindOld, Canceled as KindCanceled}
use Rattle.store.specs.declared.packed.PackedRow.TheInside.{Inside}
use Rattle.store.specs.ShortNumbers.{short_of, wide_of, is_odd}

-- The minute of a number, unless the number is that of a missing minute.
abbrev pub minute_at : ℕ → Option ℕ
minute_at n = if nat_lt n (2 ^ 40) then Some n else None

abbrev pub cic_at : ℕ → Option ℕ
cic_at n = if nat_lt n 10000 then Some n else None

-- The routing of a number, unless the number is that of a missing routing.
abbrev pub routing_at : ℕ → Option Routing
routing_at n = if nat_lt (n / 16384) 10000000000
    then Some (record { lrn = n / 16384; cic = cic_at (n % 16384) })
    else None

-- The number of the block with this line, or the block itself if no number has the line.
abbrev pub subject_in : (block line : ℕ) → Subject
subject_in block line = if nat_lt line 1000 then Number (number_in block line) else Block block

-- A missing routing or minute, which no row has, makes the status `Old`.
abbrev pub modified : Option Routing → Status
modified None = Old
modified (Some routing) = Sending (Modify routing)

abbrev pub released : Option ℕ → Status
released None = Old
released (Some minute) = DisconnectPending minute

-- The status of this kind with this routing or minute.
abbrev pub status_at : Kind → ℕ → Status
status_at KindPending detail = Pending
status_at KindConflict detail = Conflict
status_at CancelledByOld detail = CancelPending OldProvider
status_at CancelledByNew detail = CancelPending NewProvider
status_at SendingCreate detail = Sending Create
status_at SendingDelete detail = Sending Delete
status_at SendingModify detail = modified (routing_at detail)
status_at KindActive detail = Active
status_at KindPartialFailure detail = PartialFailure
status_at KindFailed detail = Failed
status_at KindDisconnectPending detail = released (minute_at detail)
status_at KindOld detail = Old
status_at KindCanceled detail = Canceled

-- The row that is packed.
abbrev pub row_in : Inside → VersionRow
row_in p = record {
  subject = subject_in p.block.number p.line;
  old_provider = p.old_provider.number;
  new_provider = p.new_provider.number;
  due = short_of p.due.number;
  routing = routing_at (short_of p.routing);
  old_at = minute_at (short_of p.old_at);
  new_at = minute_at (short_of p.new_at);
  status = status_at p.kind (short_of p.detail);
  since = short_of p.since.number;
  held = p.held;
  attempt = wide_of p.attempt;
  spent = is_odd p.truths.number;
  protective = is_odd (p.truths.number / 2);
  deadline = minute_at (short_of p.deadline);
  holds = subject_if (is_odd (p.truths.number / 4)) (subject_in p.block.number p.line);
  opens = subject_if (is_odd (p.truths.number / 8)) (subject_in p.block.number p.line);
}
