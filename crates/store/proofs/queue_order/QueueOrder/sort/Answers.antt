use Rattle.std.proofs.Common.{rules, ◌≡◌, ◌<◌, length, take, subst}
use Rattle.std.specs.Prelude.{get_or}
use Rattle.store.proofs.QueueOrder.{more-sorted, same-sorted, sorted-adds}
use Rattle.store.proofs.queue_order.QueueOrder.sort.Goals as goal

pub loop-key-preserved : goal.loop-key-preserved
loop-key-preserved c =
    let keys = c.args.self.now.recent.items in
    let key = c.key-item.result in
    let i = c.loop-key.key-index in
    let same : c.deref-key-items.result.now ≡ keys = search rules in
    more-sorted c.args.self.now.sorted c.loop-key.self.1.0 c.insert.new.self keys i key
    c.loop-key.invariant (subst (λ ks. i < length ks) same c.loop-key-test.true)
    (subst (λ ks. key ≡ get_or ks i key) same c.key-item.is) c.in_ok-insert.ensures.updates.0

pub returns-in_err-insert-clause-adds : goal.returns-in_err-insert-clause-adds
returns-in_err-insert-clause-adds c =
    let old = c.args.self.now.sorted in
    let keys = c.args.self.now.recent.items in
    let i = c.loop-key.key-index in
    sorted-adds old c.insert.new.self keys i
    (same-sorted old c.loop-key.self.1.0 c.insert.new.self (take i keys) c.loop-key.invariant
    (search rules))
