use Rattle.std.proofs.Common.{rules, ◌≡◌, Some, subst}
use Rattle.std.specs.Prelude.{IfSome}
use Rattle.store.specs.QueueRows.{IsCursor, cursor_in, queue_key_of}
use Rattle.store.proofs.queues.cursor_of.Goals as goal

pub returns-in-Some : goal.returns-in-Some
returns-in-Some c = λ waits are.
    let there : cursor_in c.args.cursors.now.entries c.args.carrier.number
    ≡ Some c.in-Some.cursor.now = search rules in
    subst (λ o. IfSome o (λ k. IsCursor waits c.args.carrier.number (queue_key_of k))) there
    (are c.args.carrier.number)
