-- The statuses of a subscription version.
use Rattle.std.specs.Prelude.{ℕ, Option, Some, None}
use Rattle.numbers.specs.Routings.{Routing}
use Rattle.model.specs.declared.words.Side.{Side}

-- What a version sends. A modify carries a routing, which may become the version's only when the
-- broadcast closes.
pub data Send : Type 0 where
  Create : Send
  Delete : Send
  Modify : (routing : Routing) → Send

-- The status of a version. A cancel-pending one was cancelled by one side, and a sending one sends
-- a create, a delete or a modify. A disconnect-pending one waits for its release minute.
pub data Status : Type 0 where
  Pending : Status
  Conflict : Status
  CancelPending : (by : Side) → Status
  Sending : (send : Send) → Status
  Active : Status
  PartialFailure : Status
  Failed : Status
  DisconnectPending : (release : ℕ) → Status
  Old : Status
  Canceled : Status

-- What a version with this status sends, if anything.
abbrev pub sent_by : Status → Option Send
sent_by Pending = None
sent_by Conflict = None
sent_by (CancelPending by) = None
sent_by (Sending send) = Some send
sent_by Active = None
sent_by PartialFailure = None
sent_by Failed = None
sent_by (DisconnectPending release) = None
sent_by Old = None
sent_by Canceled = None
