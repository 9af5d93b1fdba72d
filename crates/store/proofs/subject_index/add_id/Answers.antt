use Rattle.std.proofs.Common.{rules, ◌≡◌, ℕ, Bool, true, false, cond, Some, None, refl, ap, sym, ◌∙◌, subst}
use Rattle.std.specs.Prelude.{◌==◌}
use Rattle.store.specs.SubjectRows.{has_id, has_id_at, ids_at, IsIdSet}
use Rattle.store.specs.declared.subject_index.Ids.TheVariants.{One}
use Rattle.store.proofs.SubjectIndexes.{ids-set, ids-same}
use Rattle.store.proofs.Steps.{ok-then, err-then}
use Rattle.store.proofs.subject_index.add_id.Goals as goal

first : (b : Bool) → b ≡ cond b true false
first true = refl
first false = refl

pub returns-in-Some-clause-ok : goal.returns-in-Some-clause-ok
returns-in-Some-clause-ok c =
    let new = (c.get_mut.follows.lender c.add.new.self).entries in
    let is : (r : ℕ) → ids_at new r ≡ cond (c.args.key.rank.number == r) (Some c.add.new.self)
    (ids_at c.args.ids.now.entries r) = search rules in
    let there : ids_at c.args.ids.now.entries c.args.key.rank.number ≡ Some c.in-Some.own.now =
    search rules in
    ok-then c.add.result (λ one. ids-set c.args.ids.now.entries new c.args.key
    (Some c.add.new.self) is true
    (subst (λ o. IsIdSet (has_id_at o) (has_id c.add.new.self) c.args.key.id true) (sym there) one))
    c.add.ensures.ok

pub returns-in-Some-clause-err : goal.returns-in-Some-clause-err
returns-in-Some-clause-err c =
    let new = (c.get_mut.follows.lender c.add.new.self).entries in
    let is : (r : ℕ) → ids_at new r ≡ cond (c.args.key.rank.number == r) (Some c.add.new.self)
    (ids_at c.args.ids.now.entries r) = search rules in
    let there : ids_at c.args.ids.now.entries c.args.key.rank.number ≡ Some c.in-Some.own.now =
    search rules in
    err-then c.add.result (λ same. ids-same c.args.ids.now.entries new c.args.key
    (Some c.add.new.self) is (λ q. same q ∙ ap (λ o. has_id_at o q) (sym there)))
    c.add.ensures.err

pub returns-in-Ok-clause-ok : goal.returns-in-Ok-clause-ok
returns-in-Ok-clause-ok c =
    let n = c.args.key.rank.number in
    let is : (r : ℕ) → ids_at c.insert.new.self.entries r ≡ cond (n == r)
    (Some (One c.args.key.id)) (ids_at c.args.ids.now.entries r) =
    subst (λ m. (r : ℕ) → ids_at c.insert.new.self.entries r ≡ cond (n == r)
    (Some (One c.args.key.id)) (ids_at m.entries r))
    c.get_mut.follows.holds-at-none c.in-Ok.ensures.updates.0 in
    let none : ids_at c.args.ids.now.entries n ≡ None = search rules in
    ids-set c.args.ids.now.entries c.insert.new.self.entries c.args.key (Some (One c.args.key.id))
    is true
    (λ q. first (c.args.key.id == q)
    ∙ ap (λ o. cond (c.args.key.id == q) true (has_id_at o q)) (sym none))
