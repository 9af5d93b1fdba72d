-- What a connection waits for, and how long.
use Rattle.std.specs.Prelude.{◌≡◌, ◌*◌, ℕ, length, nat_eq, if◌then◌else◌}
use Rattle.std.specs.Duration.{as_nanos}
use Rattle.std.specs.declared.time.Duration.{Duration}
use Rattle.hub.specs.Connections.{ConnectionModel}
use Rattle.hub.specs.declared.limits.Limits.{Limits}
use Rattle.hub.specs.declared.limits.Wait.{Wait}
use Rattle.hub.specs.declared.limits.Wait.TheVariants.{Idle, Message, Sending, Discarding}
use Rattle.hub.specs.declared.member.Member.{Member}
use Rattle.hub.specs.declared.member.Stage.{Stage}
use Rattle.hub.specs.declared.member.Stage.TheVariants as stage

-- Holds if the duration has this number of seconds.
abbrev pub HasSeconds : Duration → ℕ → Type 0
HasSeconds duration seconds = as_nanos duration ≡ seconds * 1_000_000_000

-- Holds if these are the limits: two numbers, then seconds.
abbrev pub AreLimits : (at_once group message idle idle_when_full sending discarding : ℕ) → Limits
    → Type 0
AreLimits at_once group message idle idle_when_full sending discarding limits =
    (limits.at_once ≡ at_once) × (limits.group ≡ group) × HasSeconds limits.message message
    × HasSeconds limits.idle idle × HasSeconds limits.idle_when_full idle_when_full
    × HasSeconds limits.sending sending × HasSeconds limits.discarding discarding

abbrev pub limit_of : Limits → Wait → Duration
limit_of limits Idle = limits.idle
limit_of limits Message = limits.message
limit_of limits Sending = limits.sending
limit_of limits Discarding = limits.discarding

-- A connection waits first for its client to take bytes, then for the rest of a message.
abbrev pub talking_wait : ConnectionModel → Wait
talking_wait c =
    if nat_eq (length c.unsent) 0 then (if nat_eq (length c.unread) 0 then Idle else Message)
    else Sending

abbrev pub wait_of : Stage → ConnectionModel → Wait
wait_of stage.Talking c = talking_wait c
wait_of stage.Discarding c = Discarding
wait_of stage.Done c = Discarding

-- When a connection began to wait so.
abbrev pub start_of : {P : Type 0} → Member P → Wait → Duration
start_of member Idle = member.since
start_of member Message = member.since
start_of member Sending = member.sent_at
start_of member Discarding = member.since
