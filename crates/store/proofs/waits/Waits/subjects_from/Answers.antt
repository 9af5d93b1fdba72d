use Rattle.std.proofs.Common.{rules, ◌≡◌, ◌∷◌, [], Some, sym, ◌∙◌, ap}
use Rattle.std.specs.Ordering.{on}
use Rattle.std.specs.BTreeMap.Range.{entries_between}
use Rattle.std.specs.declared.ops.Bound.TheVariants.{Included, Unbounded}
use Rattle.std.specs.FinMap.{get, empty}
use Rattle.numbers.specs.Abstraction.{subject_of}
use Rattle.store.specs.QueueRows.{queue_key_of, gathered, subjects_of}
use Rattle.store.specs.WaitRows.{download_cmp, rows_of, wait_for}
use Rattle.store.proofs.QueueOrder.{all-sorted, part-is}
use Rattle.store.proofs.SubjectsListed.{gathered-step, subjects-are, if_ok}
use Rattle.store.proofs.waits.Waits.subjects_from.Goals as goal

pub loop-key-preserved-in-Some-get : goal.loop-key-preserved-in-Some-get
loop-key-preserved-in-Some-get c =
    let next : c.loop-key.key-iterator ≡ (c.in-Some.key.now, c.in-Some.field-0-1.now)
    ∷ c.next.new.self = search rules in
    let subject_is : Some (subject_of c.in-Some-get.subject) ≡ get c.args.self.now
    (wait_for (queue_key_of c.in-Some.key.now) c.args.carrier.number) = search rules in
    gathered-step c.args.self.now c.args.carrier.number
    (c.in-Some.key.now, c.in-Some.field-0-1.now) c.next.new.self c.loop-key.subjects
    c.insert.new.self c.in-Some-get.subject subject_is c.in_ok-insert.ensures.updates.0
    ∙ ap (λ es. gathered c.args.self.now c.args.carrier.number es
    (subjects_of c.loop-key.subjects)) (sym next)
    ∙ c.loop-key.invariant

pub returns-clause-found : goal.returns-clause-found
returns-clause-found c =
    let part : c.into_iter-key-iterator.result ≡ entries_between (on queue_key_of download_cmp)
    (Included c.args.start) Unbounded c.sort.new.self.sorted.entries = search rules in
    let end : c.loop-key.key-iterator ≡ [] = search rules in
    let is = part-is c.sort.new.self.sorted c.args.start c.into_iter-key-iterator.result part
    (rows_of c.self.inside.rows.entries) c.args.carrier.number c.args.self.now
    (all-sorted (rows_of c.self.inside.rows.entries) c.self.inside.order c.sort.new.self
    c.self.invariant.1 c.sort.ensures.keeps c.in_ok-sort.ensures.sorted)
    c.self.view_is c.range-key-items.ensures.ordered c.requires in
    let all : subjects_of c.loop-key.subjects ≡ gathered c.args.self.now c.args.carrier.number
    c.into_iter-key-iterator.result empty =
    ap (λ es. gathered c.args.self.now c.args.carrier.number es (subjects_of c.loop-key.subjects))
    (sym end)
    ∙ c.loop-key.invariant in
    if_ok (λ found is_found. subjects-are c.args.self.now c.args.carrier c.loop-key.subjects
    c.into_iter-key-iterator.result is.0 all found.items is_found.0 is_found.1)
    c.ascending.result c.ascending.ensures
