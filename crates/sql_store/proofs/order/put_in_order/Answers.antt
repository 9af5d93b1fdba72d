use Rattle.std.proofs.Common.{sym, subst, ◌∙◌}
use Rattle.std.proofs.lemmas.List.Filters.{dedup_is}
use Rattle.std.proofs.lemmas.List.Kept.{Any-dedup, Contains-from_dedup, IsStrictlySortedBy-dedup}
use Rattle.std.proofs.lemmas.List.Sorted.{Contains-permutation, IsPermutation-sym}
use Rattle.std.specs.List.Sorted.{IsStrictlySortedBy}
use Rattle.sqlite_rules.specs.Lists.{Has}
use Rattle.sqlite_rules.proofs.ListLemmas.{any_has, contains_had, has_contained}
use Rattle.numbers.proofs.Small.{tied}
use Rattle.sql_store.proofs.order.put_in_order.Goals as goal

pub returns-clause-rises : goal.returns-clause-rises
returns-clause-rises g c =
    subst (IsStrictlySortedBy g.T.Ord.cmp) (sym (dedup_is _ _ _ c.dedup.ensures.filtered))
    (IsStrictlySortedBy-dedup g.met.T.Ord.total g.met.T.Ord.matches_eq _
    c.sort_unstable.ensures.sorted)

pub returns-clause-only : goal.returns-clause-only
returns-clause-only g c = λ x at.
    let sorted = c.sort_unstable.new.self.items in
    let there =
    Contains-from_dedup g.T.PartialEq.eq sorted x
    (contains_had _ x (subst (λ l. Has l x) (dedup_is _ _ _ c.dedup.ensures.filtered) at)) in
    has_contained c.args.items.now.items x (Contains-permutation sorted c.args.items.now.items x
    (IsPermutation-sym c.args.items.now.items sorted c.sort_unstable.ensures.permutation) there)

pub returns-clause-each : goal.returns-clause-each
returns-clause-each g c = λ x at.
    let sorted = c.sort_unstable.new.self.items in
    let there =
    Contains-permutation c.args.items.now.items sorted x c.sort_unstable.ensures.permutation
    (contains_had c.args.items.now.items x at) in
    let one = any_has _ _ (Any-dedup g.met.T.Eq.laws sorted x there) in (
      one.0,
      subst (λ l. Has l one.0) (sym (dedup_is _ _ _ c.dedup.ensures.filtered)) one.1,
      tied _ (sym (g.met.T.Ord.matches_eq x one.0) ∙ one.2),
    )
