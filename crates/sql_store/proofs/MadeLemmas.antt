-- The changes of the content that statements make.
use Rattle.std.proofs.Common.{◌≡◌, [], ◌∷◌, true, false, sym, ap, subst, subst₂, ◌∙◌, true≢false}
use Rattle.sqlite.specs.declared.types.Value.{Value}
use Rattle.sqlite_value.specs.declared.value.ValueRef.{ValueRef}
use Rattle.sqlite.specs.Value.{owned}
use Rattle.sqlite.specs.Values.{bound, bound_value}
use Rattle.sqlite.specs.Order.{Row}
use Rattle.sqlite.specs.Effect.{Database}
use Rattle.sqlite.specs.State.{State}
use Rattle.model.specs.Content.{Content}
use Rattle.sql_rows.specs.Shaped.{AreShaped}
use Rattle.sql_rows.specs.Written.{IsKeyOf, Removed, Replaced}
use Rattle.sql_rows.specs.declared.statement.Table.{Table}
use Rattle.sql_rows.proofs.PutLemmas.{Became}
use Rattle.sql_store.specs.Store.{content_at, AppliesInTransaction, WritesInTransaction}
use Rattle.sql_store.proofs.CallLemmas.{makes}

pub two_bound : (r s : ValueRef) (v w : Value) → bound_value v ≡ v → bound_value w ≡ w → owned r ≡ v
    → owned s ≡ w → bound (r ∷ s ∷ []) ≡ v ∷ w ∷ []
two_bound r s v w plain also one two = ap (λ x. bound_value x ∷ bound_value (owned s) ∷ []) one
    ∙ ap (λ x. bound_value v ∷ bound_value x ∷ []) two ∙ ap (λ x. x ∷ bound_value w ∷ []) plain
    ∙ ap (λ x. v ∷ x ∷ []) also

-- The key and the row, as they are bound.
pub keyed_as : (t : Table) (key given_key row given : Row) → given_key ≡ key → given ≡ row
    → IsKeyOf t key row → IsKeyOf t given_key given
keyed_as t key given_key row given is also keyed =
    subst₂ (IsKeyOf t) (sym is) (sym also) keyed

module _ (a b : State) where
  pub failed : (Did : Database → Database → Type 0) (change : Content → Content)
      → WritesInTransaction a b false Did → AppliesInTransaction a b false change
  failed Did change it = record {
    made = λ bad. absurd (true≢false (sym bad));
    kept = it.kept;
    survives = it.survives;
  }

  pub put_made : (t : Table) (key given_key row given : Row) (change : Content → Content)
      → given_key ≡ key → given ≡ row → WritesInTransaction a b true (Replaced t given_key given)
      → (AreShaped a.now.trees → Replaced t key row a.now b.now
      → Became b.now (change (content_at a))) → AppliesInTransaction a b true change
  put_made t key given_key row given change is also it means =
      makes a b true (Replaced t key row) change
      (subst₂ (λ k r. WritesInTransaction a b true (Replaced t k r))
      is also it) (λ inside did. let m = means inside.shaped did in (m.schema, m.shaped, m.is))

  pub take_made : (t : Table) (key given_key : Row) (change : Content → Content) → given_key ≡ key
      → WritesInTransaction a b true (Removed t given_key)
      → (AreShaped a.now.trees → Removed t key a.now b.now → Became b.now (change (content_at a)))
      → AppliesInTransaction a b true change
  take_made t key given_key change is it means =
      makes a b true (Removed t key) change (subst (λ k. WritesInTransaction a b true (Removed t k))
      is it)
      (λ inside did. let m = means inside.shaped did in (m.schema, m.shaped, m.is))
