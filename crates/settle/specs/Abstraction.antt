-- The models of a store's rows and keys.
use Rattle.std.specs.Prelude.{ℕ, option_map}
use Rattle.numbers.specs.Abstraction.{subject_of, routing_of, minute_of}
use Rattle.numbers.specs.declared.block_id.BlockId.{BlockId}
use Rattle.numbers.specs.declared.code_id.CodeId.{CodeId}
use Rattle.numbers.specs.declared.lrn.Lrn.{Lrn}
use Rattle.numbers.specs.declared.spid.Spid.{Spid}
use Rattle.model.specs.Abstraction.{status_of}
use Rattle.model.specs.Content.{BlockRow, VersionRow, ClockRow, BroadcastKey, WaitKey, subject_if, broadcast_key, wait_key}
use Rattle.version.specs.Abstraction.{set_of}
pub use Rattle.delivery.specs.Broadcasts.{row_of as broadcast_row_of}
use Rattle.settle.specs.declared.rows.VersionRow.TheInside.{Inside}
use Rattle.settle.specs.declared.rows.BlockRow.{BlockRow as BlockRowImpl}
use Rattle.settle.specs.declared.rows.ClockRow.{ClockRow as ClockRowImpl}
use Rattle.settle.specs.declared.rows.BroadcastKey.{BroadcastKey as BroadcastKeyImpl}
use Rattle.settle.specs.declared.rows.WaitKey.{WaitKey as WaitKeyImpl}

-- The model of a version's row.
abbrev pub version_row_of : Inside → VersionRow
version_row_of r = record {
  subject = subject_of r.version.subject;
  old_provider = r.version.old_provider.number;
  new_provider = r.version.new_provider.number;
  due = r.version.due.number;
  routing = option_map routing_of r.version.routing;
  old_at = option_map minute_of r.version.old_at;
  new_at = option_map minute_of r.version.new_at;
  status = status_of r.version.status;
  since = r.version.since.number;
  held = r.version.held;
  attempt = r.version.attempt;
  spent = r.version.is_conflict_spent;
  protective = r.version.is_protective;
  deadline = option_map minute_of r.deadline;
  holds = subject_if r.is_in_force (subject_of r.version.subject);
  opens = subject_if r.is_open (subject_of r.version.subject);
}

abbrev pub spid_of : Spid → ℕ
spid_of c = c.number

abbrev pub lrn_of : Lrn → ℕ
lrn_of l = l.number

abbrev pub code_of : CodeId → ℕ
code_of c = c.number

abbrev pub block_of : BlockId → ℕ
block_of b = b.number

abbrev pub block_row_of : BlockRowImpl → BlockRow
block_row_of r = record { donor = r.donor.number; last = r.last }

abbrev pub clock_row_of : ClockRowImpl → ClockRow
clock_row_of r = record {
  minute = r.minute.number;
  next_id = r.next_id;
  present = set_of r.present;
}

abbrev pub broadcast_key_of : BroadcastKeyImpl → BroadcastKey
broadcast_key_of k = broadcast_key k.id k.attempt

abbrev pub wait_key_of : WaitKeyImpl → WaitKey
wait_key_of k = wait_key k.carrier.number k.minute.number k.id k.attempt
