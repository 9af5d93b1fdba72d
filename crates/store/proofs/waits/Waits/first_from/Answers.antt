use Rattle.std.proofs.Common.{rules, ◌≡◌, ◌∷◌, [], false, ap, sym, ◌∙◌, subst}
use Rattle.std.specs.Prelude.{is_some}
use Rattle.std.specs.declared.ops.Bound.TheVariants.{Included, Unbounded}
use Rattle.std.specs.List.Sorted.{IsStrictlySortedBy}
use Rattle.std.specs.Map.{keys_of}
use Rattle.std.specs.Ordering.{on}
use Rattle.std.specs.BTreeMap.Range.{entries_between}
use Rattle.std.specs.FinMap.{FinMap, get}
use Rattle.numbers.specs.Subjects.{Subject}
use Rattle.numbers.specs.Abstraction.{subject_of}
use Rattle.numbers.proofs.Small.{mapped_there}
use Rattle.model.specs.Content.{wait_cmp}
use Rattle.settle.specs.Abstraction.{wait_key_of}
use Rattle.store.specs.QueueRows.{queue_key_of}
use Rattle.store.specs.WaitRows.{download_cmp, rows_of}
use Rattle.store.proofs.QueueListed.{HasAll}
use Rattle.store.proofs.QueueOrder.{all-sorted, part-is, passed, first-is, rest-rises, none-left}
use Rattle.store.proofs.waits.Waits.first_from.Goals as goal

pub loop-key-init : goal.loop-key-init
loop-key-init c =
    let part : c.into_iter-key-iterator.result ≡ entries_between (on queue_key_of download_cmp)
    (Included c.args.start) Unbounded c.sort.new.self.sorted.entries = search rules in
    let none : c.sort.new.self.recent.items ≡ [] = search rules in
    part-is c.sort.new.self.sorted c.args.start c.into_iter-key-iterator.result part
    (rows_of c.self.inside.rows.entries) c.args.carrier.number c.args.self.now
    (all-sorted (rows_of c.self.inside.rows.entries) c.self.inside.order c.sort.new.self
    c.self.invariant.1 c.sort.ensures.keeps none)
    c.self.view_is c.range-key-items.ensures.ordered c.requires

pub returns-then-is_some-clause-own : goal.returns-then-is_some-clause-own
returns-then-is_some-clause-own c =
    let next : c.loop-key.key-iterator ≡ (c.in-Some.key.now, c.in-Some.field-0-1.now)
    ∷ c.next.new.self = search rules in
    first-is c.args.self.now c.args.carrier.number (c.in-Some.key.now, c.in-Some.field-0-1.now)
    c.next.new.self (subst (HasAll c.args.self.now c.args.carrier.number) next
    c.loop-key.invariant.0)
    (subst (λ es. IsStrictlySortedBy (on queue_key_of download_cmp) (keys_of es)) next
    c.loop-key.invariant.1)

pub loop-key-preserved : goal.loop-key-preserved
loop-key-preserved c =
    let next : c.loop-key.key-iterator ≡ (c.in-Some.key.now, c.in-Some.field-0-1.now)
    ∷ c.next.new.self = search rules in
    let none : is_some c.get.result ≡ false = search rules in (
      passed c.args.self.now c.args.carrier.number (c.in-Some.key.now, c.in-Some.field-0-1.now)
          c.next.new.self (subst (HasAll c.args.self.now c.args.carrier.number) next
          c.loop-key.invariant.0)
          (ap (λ k. is_some (get c.args.self.now k)) (sym c.wait_key.ensures)
          ∙ ap is_some (sym (c.get.ensures ∙ ap (λ (m : FinMap wait_cmp Subject).
          get m (wait_key_of c.wait_key.result)) c.self.view_is))
          ∙ mapped_there subject_of c.get.result ∙ none),
      rest-rises (c.in-Some.key.now, c.in-Some.field-0-1.now) c.next.new.self
          (subst (λ es. IsStrictlySortedBy (on queue_key_of download_cmp) (keys_of es)) next
          c.loop-key.invariant.1),
    )

pub returns-clause-own : goal.returns-clause-own
returns-clause-own c =
    let end : c.loop-key.key-iterator ≡ [] = search rules in
    none-left c.args.self.now c.args.carrier.number c.loop-key.key-iterator end
    c.loop-key.invariant.0 (queue_key_of c.loop-key.last)
