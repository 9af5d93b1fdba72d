-- What is reserved stays until it is used.
use Rattle.std.proofs.Common.{◌≡◌, ◌≢◌, ◌≤◌, ◌<◌, ℕ, Bool, true, List, [], ◌∷◌, length, ap, arith}
use Rattle.std.specs.List.{AllAdjacentBelow}
use Rattle.std.specs.List.Sorted.{IsStrictlySortedBy}
use Rattle.std.specs.declared.cmp.Ordering.TheVariants.{Less}
use Rattle.std.specs.Ordering.{nat_cmp}
use Rattle.std.specs.Cmp.{nat_cmp_total}
use Rattle.std.proofs.lemmas.Cmp.{on_total}
use Rattle.std.proofs.lemmas.Map.Keys.{sorted_from_all_adjacent}
use Rattle.std.proofs.lemmas.Bool.Decides.{nat_tests}
use Rattle.model.specs.Content.{VersionRow}
use Rattle.store.specs.Batch.{IsReserved, AreReserved, AreOthers, AreDistinct, AreAfter, AreAscending}
use Rattle.store.specs.Tables.{content_of, AreIndexed, KeepIndexes}
use Rattle.store.specs.VersionRows.{rows_of}
use Rattle.store.specs.declared.tables.Tables.{Tables}
use Rattle.store.specs.declared.versions.Versions.{Versions}
use Rattle.store.proofs.VersionKeys.{all-kept, indexed-kept, kept-then, stands-in}

-- Holds if the new tables have all places and keys of the old ones.
pub record KeepRoom (old new : Tables) : Type 0 where
  pub places : length old.versions.rows.items ≤ length new.versions.rows.items
  pub keys : KeepIndexes old new

pub room-kept : (t : Tables) → KeepRoom t t
room-kept t = record { places = omega arith; keys = all-kept t }

pub room-then : (a b c : Tables) → KeepRoom a b → KeepRoom b c → KeepRoom a c
room-then a b c p q =
    let first = p.places in
    let later = q.places in
    record { places = omega (arith, first, later); keys = kept-then a b c p.keys q.keys }

pub reserved-later : (v : ℕ × VersionRow) (old new : Tables) → KeepRoom old new → IsReserved v old
    → IsReserved v new
reserved-later v old new keeps was =
    let inside = was.0 in
    let more = keeps.places in
    (omega (arith, inside, more), λ k has. stands-in old new keeps.keys k (was.1 k has))

pub all-later : (vs : List (ℕ × VersionRow)) (old new : Tables) → KeepRoom old new
    → AreReserved vs old → AreReserved vs new
all-later [] old new keeps was = tt
all-later (v ∷ vs) old new keeps was =
    (reserved-later v old new keeps was.0, all-later vs old new keeps was.1)

-- What is reserved for the later rows stays when a row is written.
pub reserved-rest : (vs : List (ℕ × VersionRow)) (old new : Tables) (id : ℕ) (is_only : Bool)
    → ((v : ℕ × VersionRow) → (is_only ≡ true → v.0 ≢ id) → IsReserved v old → IsReserved v new)
    → (is_only ≡ true → AreOthers id vs) → AreReserved vs old → AreReserved vs new
reserved-rest [] old new id is_only keeps others was = tt
reserved-rest (v ∷ vs) old new id is_only keeps others was = (
  keeps v (λ t. (others t).0) was.0,
  reserved-rest vs old new id is_only keeps (λ t. (others t).1) was.1,
)

-- Places without rows change nothing.
pub places-same : (t : Tables) (versions : Versions)
    → rows_of versions ≡ rows_of t.versions
    → content_of (record t { versions = versions }) ≡ content_of t
places-same t versions same = ap (λ m. record (content_of t) { versions = m }) same

pub places-indexed : (t : Tables) (versions : Versions)
    → rows_of versions ≡ rows_of t.versions → AreIndexed t
    → AreIndexed (record t { versions = versions })
places-indexed t versions same =
    indexed-kept t (record t { versions = versions }) same (all-kept t)

-- ---- ids without duplicates

pub others-from : (id n : ℕ) (vs : List (ℕ × VersionRow)) → id ≤ n → AreAfter n vs
    → AreOthers id vs
others-from id n [] small after = tt
others-from id n (v ∷ vs) small after =
    let above = after.0 in (
      (λ same. omega (arith, small, above, same)),
      others-from id v.0 vs (omega (arith, small, above)) after.1,
    )

distinct-after : (n : ℕ) (vs : List (ℕ × VersionRow)) → AreAfter n vs → AreDistinct vs
distinct-after n [] after = tt
distinct-after n (v ∷ vs) after =
    (others-from v.0 v.0 vs (omega arith) after.1, distinct-after v.0 vs after.1)

less-from : (m n : ℕ) → nat_cmp m n ≡ Less → m < n
less-from m n less = grind (arith, nat_tests, less)

-- Rows in order rise.
rises-from : (v : ℕ × VersionRow) (vs : List (ℕ × VersionRow))
    → IsStrictlySortedBy (λ x y. nat_cmp x.0 y.0) (v ∷ vs) → AreAfter v.0 vs
unfolding IsStrictlySortedBy
rises-from v [] sorted = tt
rises-from v (n ∷ vs) sorted = (less-from v.0 n.0 sorted.0.0, rises-from n vs sorted.1)

less-than : (m n : ℕ) → m < n → nat_cmp m n ≡ Less
less-than m n less = grind (arith, nat_tests, less)

-- Rows rise if each is before the next one.
pub ascending-from : (vs : List (ℕ × VersionRow))
    → AllAdjacentBelow (λ x y. x.0 < y.0) vs (length vs) → AreAscending vs
ascending-from [] each = tt
ascending-from (v ∷ vs) each =
    rises-from v vs (sorted_from_all_adjacent (on_total (λ (x : ℕ × VersionRow). x.0)
    nat_cmp_total) (v ∷ vs) v (λ k inside. less-than _ _ (each k v inside)))

pub distinct-from : (vs : List (ℕ × VersionRow)) → AreAscending vs → AreDistinct vs
distinct-from [] rises = tt
distinct-from (v ∷ vs) rises =
    (others-from v.0 v.0 vs (omega arith) rises, distinct-after v.0 vs rises)
