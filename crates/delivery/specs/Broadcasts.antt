-- The models of broadcasts.
use Rattle.std.specs.Prelude.{ℕ, Bool, true, false, List, [], Option, option_map}
use Rattle.numbers.specs.Subjects.{Subject}
use Rattle.numbers.specs.Routings.{Routing}
use Rattle.numbers.specs.Abstraction.{subject_of, routing_of}
use Rattle.delivery.specs.declared.broadcast.Broadcast.{Broadcast as BroadcastImpl}
use Rattle.model.specs.declared.words.Action.{Action}
use Rattle.model.specs.declared.words.Outcome.{Outcome}
use Rattle.model.specs.declared.words.Outcome.TheVariants.{Open, AllAcknowledged, SomeAcknowledged, NoneAcknowledged}
use Rattle.model.specs.Versions.{Broadcast, is_open_broadcast, with_number}
use Rattle.model.specs.Content.{BroadcastRow, is_nonempty}

-- The row of a broadcast of the code.
abbrev pub row_of : BroadcastImpl → BroadcastRow
row_of b = record {
  minute = b.minute.number;
  subject = subject_of b.subject;
  action = b.action;
  routing = option_map routing_of b.routing;
  is_open = b.is_open;
  any = b.is_acknowledged;
}

-- The row of a broadcast of the subject.
abbrev pub broadcast_row : Subject → Broadcast → BroadcastRow
broadcast_row s b = record {
  minute = b.minute;
  subject = s;
  action = b.action;
  routing = b.routing;
  is_open = is_open_broadcast b;
  any = is_nonempty b.acknowledged;
}

-- A new broadcast, to every registered carrier.
abbrev pub new_broadcast : (attempt minute : ℕ) → Action → Option Routing → (all_carriers : List ℕ)
    → Broadcast
new_broadcast attempt minute action routing all_carriers = record {
  attempt = attempt;
  minute = minute;
  action = action;
  routing = routing;
  recipients = all_carriers;
  acknowledged = [];
  outcome = Open;
}

-- The outcome after an acknowledgement: the last recipient's closes an open broadcast.
abbrev pub outcome_after : (is_last : Bool) → Outcome → Outcome
outcome_after true Open = AllAcknowledged
outcome_after false Open = Open
outcome_after is_last AllAcknowledged = AllAcknowledged
outcome_after is_last SomeAcknowledged = SomeAcknowledged
outcome_after is_last NoneAcknowledged = NoneAcknowledged

-- The broadcast after an acknowledgement by carrier c.
abbrev pub after_acknowledgement : (c : ℕ) → (is_last : Bool) → Broadcast → Broadcast
after_acknowledgement c is_last b = record b {
  acknowledged = with_number c b.acknowledged;
  outcome = outcome_after is_last b.outcome;
}

-- The outcome of a broadcast that is pending for some carrier: partly acknowledged once its window
-- has ended.
abbrev pub outcome_while_pending : (is_open : Bool) → Outcome
outcome_while_pending true = Open
outcome_while_pending false = SomeAcknowledged
