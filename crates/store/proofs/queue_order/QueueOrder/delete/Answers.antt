use Rattle.std.proofs.Common.{rules, ◌≡◌, ◌++◌, ◌∷◌, [], ◌-◌, Some, length, ap, sym, ◌∙◌}
use Rattle.std.specs.List.{slice_get}
use Rattle.std.specs.Ordering.{eq_by_cmp}
use Rattle.store.specs.WaitRows.{download_cmp}
use Rattle.store.proofs.QueueOrder.{some-equal, same-key, ending, popped, removed-keeps, removed-adds}
use Rattle.store.proofs.queue_order.QueueOrder.delete.Goals as goal

pub returns-then-eq-clause-keeps : goal.returns-then-eq-clause-keeps
returns-then-eq-clause-keeps c = λ q apart is.
    let recent = c.args.self.now.recent.items in
    let last = some-equal _ c.copied.result c.args.key (sym c.eq.ensures ∙ c.if-eq.true) in
    let count = c.args.self.now.recent.len in
    let long : count ≡ length recent = search rules in
    let there : slice_get recent (count - 1) ≡ Some last.0 =
    ap (λ n. slice_get recent (n - 1)) long
    ∙ ap (λ ks. slice_get ks (length ks - 1)) (sym c.as_slice.ensures.value)
    ∙ sym c.last.ensures.value ∙ sym c.copied.ensures ∙ last.1 in
    let all : recent ≡ c.pop.new.self.items ++ (last.0 ∷ []) =
    ending recent c.pop.new.self.items count c.pop.result last.0 long c.pop.ensures.items there
    (c.pop.ensures.value last.0) in
    popped c.args.self.now.sorted recent c.pop.new.self.items last.0 q all
    (ap (λ d. eq_by_cmp download_cmp d q) (same-key last.0 c.args.key last.2) ∙ apart) is

-- ---- another key

pub returns-clause-keeps : goal.returns-clause-keeps
returns-clause-keeps c = λ q apart is.
    removed-keeps c.sort.new.self.sorted c.remove.new.self c.args.key
    c.sort.new.self.recent.items q c.remove.ensures.updates.0 apart (c.sort.ensures.keeps q is)

pub returns-clause-adds : goal.returns-clause-adds
returns-clause-adds c = λ q is.
    c.sort.ensures.adds q (removed-adds c.sort.new.self.sorted c.remove.new.self c.args.key
    c.sort.new.self.recent.items q c.remove.ensures.updates.0 is)
