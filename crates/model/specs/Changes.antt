-- How a subscription version passes from one status to another.
use Rattle.std.specs.Prelude.{ℕ, ◌+◌, Bool, true, false, not, ◌&&◌, ◌==◌, List, [], ◌∷◌, map, Option, Some, None, if◌then◌else◌}
use Rattle.numbers.specs.Routings.{Routing}
use Rattle.model.specs.declared.words.Action.{Action}
use Rattle.model.specs.declared.words.Action.TheVariants.{Create as CreateAction, Delete as DeleteAction, Modify as ModifyAction}
use Rattle.model.specs.Statuses.{Send, Create, Delete, Modify, Status, Pending, Conflict, CancelPending, Sending, Active, PartialFailure, Failed, DisconnectPending, Old, Canceled}
use Rattle.model.specs.Windows.{WindowSet}
use Rattle.model.specs.declared.words.Outcome.{Outcome}
use Rattle.model.specs.declared.words.Outcome.TheVariants.{Open, AllAcknowledged, SomeAcknowledged, NoneAcknowledged}
use Rattle.model.specs.Versions.{Broadcast, Version, with_number, is_open_broadcast, unacknowledged, in_force}

-- ---- sending and closing

-- What the broadcast of a send does to a carrier's copy.
abbrev pub action_of : Send → Action
action_of Create = CreateAction
action_of Delete = DeleteAction
action_of (Modify routing) = ModifyAction

-- Whether a broadcast with this action carries a routing.
abbrev pub carries_routing : Action → Bool
carries_routing CreateAction = true
carries_routing ModifyAction = true
carries_routing DeleteAction = false

-- The routing that a send carries.
abbrev pub routing_sent : Send → Version → Option Routing
routing_sent Create v = v.routing
routing_sent Delete v = None
routing_sent (Modify routing) v = Some routing

-- The status of a version after its broadcast closed with this outcome.
abbrev pub status_after : Send → Outcome → Status
status_after Create AllAcknowledged = Active
status_after Create SomeAcknowledged = PartialFailure
status_after Create NoneAcknowledged = Failed
status_after Delete AllAcknowledged = Old
status_after Delete SomeAcknowledged = Old
status_after Delete NoneAcknowledged = Active
status_after (Modify routing) AllAcknowledged = Active
status_after (Modify routing) SomeAcknowledged = PartialFailure
status_after (Modify routing) NoneAcknowledged = Active
status_after action Open = Sending action

-- The version's routing after its broadcast closed. A modify that somebody acknowledged leaves the
-- routing that it carried.
abbrev pub routing_after : Send → Outcome → Option Routing → Option Routing
routing_after (Modify put) AllAcknowledged routing = Some put
routing_after (Modify put) SomeAcknowledged routing = Some put
routing_after (Modify put) NoneAcknowledged routing = routing
routing_after (Modify put) Open routing = routing
routing_after Create outcome routing = routing
routing_after Delete outcome routing = routing

-- The broadcasts, with the newest one changed.
abbrev pub on_newest : (Broadcast → Broadcast) → List Broadcast → List Broadcast
on_newest f [] = []
on_newest f (b ∷ bs) = f b ∷ bs

-- The outcome of the newest broadcast at the end of its window: some acknowledged it, or nobody
-- did.
abbrev pub outcome_at_end : List Broadcast → Outcome
outcome_at_end [] = NoneAcknowledged
outcome_at_end (b ∷ bs) = some_or_nobody b.acknowledged
  where
    some_or_nobody : List ℕ → Outcome
    some_or_nobody [] = NoneAcknowledged
    some_or_nobody (c ∷ cs) = SomeAcknowledged

-- ---- acknowledging

abbrev pub is_empty : List ℕ → Bool
is_empty [] = true
is_empty (c ∷ cs) = false

-- Whether all recipients of the newest broadcast have acknowledged it.
abbrev pub nobody_is_missing : List Broadcast → Bool
nobody_is_missing [] = false
nobody_is_missing (b ∷ bs) = is_empty (unacknowledged b)

-- The broadcast with the acknowledgement of carrier c, if it is of this attempt.
abbrev pub acknowledged_broadcast : ℕ → ℕ → Broadcast → Broadcast
acknowledged_broadcast c attempt b = if b.attempt == attempt then record b {
  acknowledged =
      with_number c b.acknowledged;
} else b

-- The broadcast after carrier c registered. While it is open, c is one of its recipients.
abbrev pub joined_broadcast : ℕ → Broadcast → Broadcast
joined_broadcast c b = if is_open_broadcast b then record b {
  recipients =
      with_number c b.recipients;
} else b

abbrev pub joined_by : ℕ → Version → Version
joined_by c v = record v { broadcasts = map (joined_broadcast c) v.broadcasts }

-- ---- changes of a version's status, with the present set of windows

module _ (present : WindowSet) where
  -- The version entering a status at a minute. From then on it holds the present set of windows.
  abbrev pub with_status : Status → ℕ → Version → Version
  with_status status minute v = record v { status = status; since = minute; held = present }

  -- The version sending its next attempt, to all registered carriers.
  abbrev pub next_attempt : Send → List ℕ → ℕ → Version → Version
  next_attempt action all_carriers minute v = record (with_status (Sending action) minute v) {
    attempt = v.attempt + 1;
    broadcasts = record {
      attempt = v.attempt + 1;
      minute = minute;
      action = action_of action;
      routing = routing_sent action v;
      recipients = all_carriers;
      acknowledged = [];
      outcome = Open;
    } ∷ v.broadcasts;
  }

  -- The version after its newest broadcast closed with this outcome.
  abbrev pub closed_with : Send → Outcome → ℕ → Version → Version
  closed_with action outcome minute v =
      record (with_status (status_after action outcome) minute v) {
        routing = routing_after action outcome v.routing;
        broadcasts = on_newest (λ b. record b { outcome = outcome }) v.broadcasts;
      }

  -- The version after the last recipient acknowledged its newest broadcast. An open broadcast
  -- closes; a partial failure becomes active.
  abbrev pub completed : Status → ℕ → Version → Version
  completed (Sending action) minute v = closed_with action AllAcknowledged minute v
  completed PartialFailure minute v = with_status Active minute v
  completed Pending minute v = v
  completed Conflict minute v = v
  completed (CancelPending by) minute v = v
  completed Active minute v = v
  completed Failed minute v = v
  completed (DisconnectPending release) minute v = v
  completed Old minute v = v
  completed Canceled minute v = v

  -- The version after carrier c acknowledged one of its attempts.
  abbrev pub acknowledged_by : ℕ → ℕ → ℕ → Version → Version
  acknowledged_by c attempt minute v =
      let answered = record v {
        broadcasts = map (acknowledged_broadcast c attempt) v.broadcasts;
      } in
      if nobody_is_missing answered.broadcasts then completed v.status minute answered else answered

  -- The version after a later one took over, if one did: old, if it was in force.
  abbrev pub retired : Bool → ℕ → Version → Version
  retired takes_over minute v = if takes_over && in_force v then with_status Old minute v else v

  -- The versions of a subject, newest first, each changed. When one comes into force, every earlier
  -- one in force becomes old.
  abbrev pub changed_at : ℕ → (Version → Version) → List Version → List Version
  changed_at minute change [] = []
  changed_at minute change (v ∷ vs) =
      change v ∷ map (retired (not (in_force v) && in_force (change v)) minute)
      (changed_at minute change vs)

-- The change, applied only to the version with this id.
abbrev pub of_id : ℕ → (Version → Version) → Version → Version
of_id id change v = if v.id == id then change v else v
