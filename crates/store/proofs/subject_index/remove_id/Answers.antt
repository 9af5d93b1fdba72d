use Rattle.std.proofs.Common.{rules, ◌≡◌, ℕ, Bool, true, false, cond, Option, Some, None, refl, ap, sym, ◌∙◌, subst}
use Rattle.std.specs.Prelude.{◌==◌}
use Rattle.store.specs.SubjectRows.{has_id, has_id_at, ids_at, IsIdSet}
use Rattle.store.proofs.SubjectIndexes.{ids-set}
use Rattle.store.proofs.subject_index.remove_id.Goals as goal

-- Of two writes the last is seen.
twice : {A : Type 0} (b : Bool) (v w : Option A) (o : Option A)
    → cond b w (cond b v o) ≡ cond b w o
twice true v w o = refl
twice false v w o = refl

pub returns-then-remove : goal.returns-then-remove
returns-then-remove c =
    let n = c.args.key.rank.number in
    let mid = (c.get_mut.follows.lender c.remove.new.self).entries in
    let new = c.remove-then-remove.new.self.entries in
    let written : (r : ℕ) → ids_at mid r ≡ cond (n == r) (Some c.remove.new.self)
    (ids_at c.args.ids.now.entries r) = search rules in
    let taken : (r : ℕ) → ids_at new r ≡ cond (n == r) None (ids_at mid r) =
    c.remove-then-remove.ensures.updates.0 in
    let there : ids_at c.args.ids.now.entries n ≡ Some c.in-Some.own.now = search rules in
    ids-set c.args.ids.now.entries new c.args.key None
    (λ r. taken r ∙ ap (cond (n == r) None) (written r)
    ∙ twice (n == r) (Some c.remove.new.self) None (ids_at c.args.ids.now.entries r)) false
    (λ q. c.remove.ensures.none c.if-remove.true q
    ∙ ap (λ o. cond (c.args.key.id == q) false (has_id_at o q)) (sym there))

pub returns-else-remove : goal.returns-else-remove
returns-else-remove c =
    let n = c.args.key.rank.number in
    let new = (c.get_mut.follows.lender c.remove.new.self).entries in
    let is : (r : ℕ) → ids_at new r ≡ cond (n == r) (Some c.remove.new.self)
    (ids_at c.args.ids.now.entries r) = search rules in
    let there : ids_at c.args.ids.now.entries n ≡ Some c.in-Some.own.now = search rules in
    ids-set c.args.ids.now.entries new c.args.key (Some c.remove.new.self) is false
    (subst (λ o. IsIdSet (has_id_at o) (has_id c.remove.new.self) c.args.key.id false) (sym there)
    (c.remove.ensures.others c.if-remove.false))
