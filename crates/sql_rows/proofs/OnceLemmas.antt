-- No two rows have the same key, by the constraints of the database.
use Rattle.std.proofs.Common.{◌≡◌, ◌&&◌, not, ℕ, List, [], ◌∷◌, Bool, true, false, refl, sym, ap, ◌∙◌, true≢false, inl, inr, Some, Less, Equal, Greater}
use Rattle.std.specs.List.{list_any}
use Rattle.std.specs.Ordering.{is_ne}
use Rattle.sqlite.specs.declared.types.Value.{Value}
use Rattle.sqlite.specs.declared.types.Value.TheVariants.{Null, Int, Real, Text, Blob}
use Rattle.sqlite.specs.Order.{Row, value_cmp}
use Rattle.sqlite.specs.Ops.{binary, is_true, from_truth}
use Rattle.sqlite.specs.Tree.{Trees, rowid}
use Rattle.sqlite.specs.View.{IsShaped, is_int}
use Rattle.sqlite_trees.specs.declared.store.Shape.TheVariants.{Table}
use Rattle.sqlite_value.specs.Keys.{plain}
use Rattle.sqlite_schema.specs.declared.schema.Constraint.TheVariants.{Unique}
use Rattle.sqlite_schema.specs.Rules.{Obeys, agree, differ, clashes}
use Rattle.sqlite_rules.specs.Lists.{Has}
use Rattle.sqlite_rules.proofs.PlaceLemmas.{tied_same}
use Rattle.sqlite_rules.proofs.RuleLemmas.{keeps_at}
use Rattle.sql_rows.specs.Tables.{the_schema, carrier_table, wait_table, broadcast_table}
use Rattle.sql_rows.proofs.DeleteLemmas.{int_at}
use Rattle.numbers.proofs.Small.{or_second, or_first}

pub true_of : (b : Bool) → is_true (from_truth (Some b)) ≡ b
true_of true = refl
true_of false = refl

tied_of : (o : _) → is_ne o ≡ false → o ≡ Equal
tied_of Less h = absurd (true≢false h)
tied_of Equal h = refl
tied_of Greater h = absurd (true≢false h)

-- Rowids that do not differ are tied.
no_differ : (a b : Value) → is_int a ≡ true → is_int b ≡ true → differ a b ≡ false
    → value_cmp a b ≡ Equal
unfolding binary
no_differ (Int a) (Int b) x y h = tied_of _ (sym (true_of _) ∙ h)
no_differ (Int a) Null x y h = absurd (true≢false (sym y))
no_differ (Int a) (Real b) x y h = absurd (true≢false (sym y))
no_differ (Int a) (Text b) x y h = absurd (true≢false (sym y))
no_differ (Int a) (Blob b) x y h = absurd (true≢false (sym y))
no_differ Null b x y h = absurd (true≢false (sym x))
no_differ (Real a) b x y h = absurd (true≢false (sym x))
no_differ (Text a) b x y h = absurd (true≢false (sym x))
no_differ (Blob a) b x y h = absurd (true≢false (sym x))

none_does : (p : Row → Bool) (rows : List Row) (r : Row) → list_any p rows ≡ false → Has rows r
    → p r ≡ false
none_does p [] r h at = absurd at
none_does p (x ∷ rows) r h (inl same) = ap p same ∙ or_first (p x) _ h
none_does p (x ∷ rows) r h (inr at) = none_does p rows r (or_second (p x) _ h) at

and_false : (a b : Bool) → (a && b) ≡ false → a ≡ true → b ≡ false
and_false true b h e = h
and_false false b h e = absurd (true≢false (sym e))

not_then : (b : Bool) → (not b && true) ≡ true → b ≡ false
not_then true h = absurd (true≢false (sym h))
not_then false h = refl

-- Rows with the same key that do not clash are the same row.
one_row : (rows : List Row) (places : List ℕ) → IsShaped Table rows → (r s : Row) → Has rows r
    → Has rows s → clashes plain places rows r ≡ false → agree plain places s places r ≡ true
    → s ≡ r
one_row rows places shaped r s at there none same =
    let differs = and_false _ _ (none_does _ rows s none there) same in
    tied_same rows s r shaped.0 there at
    (no_differ (rowid s) (rowid r) (int_at rows s shaped.1 there) (int_at rows r shaped.1 at)
    differs)

module _ (db : Trees) (obeys : Obeys the_schema db) where
  pub wait_once : IsShaped Table (db 10) → (r s : Row) → Has (db 10) r → Has (db 10) s
      → agree plain (1 ∷ 2 ∷ 3 ∷ 4 ∷ []) s (1 ∷ 2 ∷ 3 ∷ 4 ∷ []) r ≡ true → s ≡ r
  wait_once shaped r s at there =
      one_row (db 10) (1 ∷ 2 ∷ 3 ∷ 4 ∷ []) shaped r s at there
      (not_then _ (keeps_at Unique the_schema db wait_table r (obeys.rules Unique)
      (inr (inr (inr (inr (inr (inr (inl refl))))))) at))

  pub broadcast_once : IsShaped Table (db 8) → (r s : Row) → Has (db 8) r → Has (db 8) s
      → agree plain (1 ∷ 2 ∷ []) s (1 ∷ 2 ∷ []) r ≡ true → s ≡ r
  broadcast_once shaped r s at there =
      one_row (db 8) (1 ∷ 2 ∷ []) shaped r s at there
      (not_then _ (keeps_at Unique the_schema db broadcast_table r (obeys.rules Unique)
      (inr (inr (inr (inr (inr (inl refl)))))) at))

  pub carrier_once : IsShaped Table (db 0) → (r s : Row) → Has (db 0) r → Has (db 0) s
      → agree plain (1 ∷ []) s (1 ∷ []) r ≡ true → s ≡ r
  carrier_once shaped r s at there =
      one_row (db 0) (1 ∷ []) shaped r s at there
      (not_then _ (keeps_at Unique the_schema db carrier_table r (obeys.rules Unique) (inl refl)
      at))
