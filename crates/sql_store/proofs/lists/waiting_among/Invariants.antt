use Rattle.std.proofs.Common.{◌≡◌, filter, take}
use Rattle.sql_store.specs.Lists.{is_waiting}
use Rattle.sql_store.proofs.lists.waiting_among.Given as goal

-- The carriers passed that have the broadcast pending are in the list.
abbrev pub invariant-loop-carrier : goal.invariant-loop-carrier
invariant-loop-carrier l =
    l.waiters.items ≡ filter (is_waiting l.waits l.minute.number) (take l.carrier-index l.carriers)
