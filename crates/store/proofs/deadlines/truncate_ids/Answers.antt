use Rattle.std.proofs.Common.{rules, ◌≡◌, Some, ap, sym, ◌∙◌, subst, drop, take, true}
use Rattle.std.specs.Ordering.{nat_cmp}
use Rattle.std.specs.BTreeMap as tree
use Rattle.store.specs.DueRows.{has_number, numbers_in}
use Rattle.store.specs.Maps.{IsSet}
use Rattle.store.proofs.DueRows.{ids-here, ids-set, ids-back, first-kept, first-among}
use Rattle.store.proofs.deadlines.truncate_ids.Goals as goal

pub returns-in-Some-clause-kept : goal.returns-in-Some-clause-kept
returns-in-Some-clause-kept c q had rest =
    let old = c.args.ids.now in
    let new = c.get_mut.follows.lender c.truncate.new.self in
    let is : IsSet nat_cmp old new c.args.minute (Some c.truncate.new.self) = search rules in
    let there : tree.get nat_cmp old c.args.minute ≡ Some c.in-Some.own.now = search rules in
    ids-set old new c.args.minute (Some c.truncate.new.self) is q
    (λ same. subst (λ ns. has_number ns q.id ≡ true) (sym c.truncate.ensures.items)
    (first-kept c.in-Some.own.now.items c.args.count q.id
    (ap (λ o. has_number (numbers_in o) q.id) (sym there ∙ ap (tree.get nat_cmp old) same) ∙ had)
    (ap (λ o. has_number (drop c.args.count (numbers_in o)) q.id) (sym there) ∙ rest (sym same))))
    had

pub returns-in-Some-clause-adds : goal.returns-in-Some-clause-adds
returns-in-Some-clause-adds c q has =
    let old = c.args.ids.now in
    let new = c.get_mut.follows.lender c.truncate.new.self in
    let is : IsSet nat_cmp old new c.args.minute (Some c.truncate.new.self) = search rules in
    let there : tree.get nat_cmp old c.args.minute ≡ Some c.in-Some.own.now = search rules in
    ids-back old new c.args.minute (Some c.truncate.new.self) is q
    (λ same among. ap (λ o. has_number (numbers_in o) q.id) (sym (ap (tree.get nat_cmp old) same)
    ∙ there) ∙ first-among c.in-Some.own.now.items c.args.count q.id
    (subst (λ ns. has_number ns q.id ≡ true) c.truncate.ensures.items among)) has

pub returns-in-Some-clause-own : goal.returns-in-Some-clause-own
returns-in-Some-clause-own c =
    let old = c.args.ids.now in
    let new = c.get_mut.follows.lender c.truncate.new.self in
    let is : IsSet nat_cmp old new c.args.minute (Some c.truncate.new.self) = search rules in
    let there : tree.get nat_cmp old c.args.minute ≡ Some c.in-Some.own.now = search rules in
    ids-here old new c.args.minute (Some c.truncate.new.self) is ∙ c.truncate.ensures.items
    ∙ ap (λ o. take c.args.count (numbers_in o)) (sym there)
