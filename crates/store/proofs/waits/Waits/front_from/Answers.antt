use Rattle.std.proofs.Common.{rules, ◌≡◌, inl, inr, [], length}
use Rattle.std.specs.Ordering.{on}
use Rattle.std.specs.BTreeMap.Range.{entries_between}
use Rattle.std.specs.declared.ops.Bound.TheVariants.{Included, Unbounded}
use Rattle.store.specs.BroadcastRows.{broadcasts_of}
use Rattle.store.specs.QueueRows.{queue_key_of}
use Rattle.store.specs.WaitRows.{download_cmp, rows_of}
use Rattle.store.proofs.QueueListed.{walked}
use Rattle.store.proofs.QueueOrder.{all-sorted, part-is}
use Rattle.store.proofs.waits.Waits.front_from.Goals as goal

pub returns-then-len-many-clause-found : goal.returns-then-len-many-clause-found
returns-then-len-many-clause-found c =
    let part : c.into_iter-key-iterator.result ≡ entries_between (on queue_key_of download_cmp)
    (Included c.args.start) Unbounded c.sort.new.self.sorted.entries = search rules in
    let full : length c.loop-key.found.items ≡ c.args.many = search rules in
    let is = part-is c.sort.new.self.sorted c.args.start c.into_iter-key-iterator.result part
    (rows_of c.self.inside.rows.entries) c.args.carrier.number c.args.self.now
    (all-sorted (rows_of c.self.inside.rows.entries) c.self.inside.order c.sort.new.self
    c.self.invariant.1 c.sort.ensures.keeps c.in_ok-sort.ensures.sorted)
    c.self.view_is c.range-key-items.ensures.ordered c.requires in
    walked c.args.self.now (broadcasts_of c.args.broadcasts.now) c.args.carrier c.args.many
    c.into_iter-key-iterator.result is.0 is.1 c.loop-key.found.items c.loop-key.key-iterator
    c.loop-key.invariant.0 (inr full) c.loop-key.invariant.1

pub returns-clause-found : goal.returns-clause-found
returns-clause-found c =
    let part : c.into_iter-key-iterator.result ≡ entries_between (on queue_key_of download_cmp)
    (Included c.args.start) Unbounded c.sort.new.self.sorted.entries = search rules in
    let end : c.loop-key.key-iterator ≡ [] = search rules in
    let is = part-is c.sort.new.self.sorted c.args.start c.into_iter-key-iterator.result part
    (rows_of c.self.inside.rows.entries) c.args.carrier.number c.args.self.now
    (all-sorted (rows_of c.self.inside.rows.entries) c.self.inside.order c.sort.new.self
    c.self.invariant.1 c.sort.ensures.keeps c.in_ok-sort.ensures.sorted)
    c.self.view_is c.range-key-items.ensures.ordered c.requires in
    walked c.args.self.now (broadcasts_of c.args.broadcasts.now) c.args.carrier c.args.many
    c.into_iter-key-iterator.result is.0 is.1 c.loop-key.found.items c.loop-key.key-iterator
    c.loop-key.invariant.0 (inl end) c.loop-key.invariant.1
