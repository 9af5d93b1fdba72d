-- The items of a query's answer, and the map that its table reads as.
use Rattle.std.proofs.Common.{◌≡◌, Bool, true, List, Option, Some}
use Rattle.std.specs.declared.cmp.Ordering.{Ordering}
use Rattle.std.specs.Ordering.{eq_by_cmp}
use Rattle.std.specs.Cmp.{IsTotalOrder}
use Rattle.std.specs.FinMap.{FinMap, get}
use Rattle.sqlite.specs.Order.{Row}
use Rattle.sqlite_rules.specs.Lists.{Has}
use Rattle.sql_rows.specs.Content.{content_of}
use Rattle.sql_rows.specs.Once.{AreKeysUnique}
use Rattle.sql_rows.proofs.Listed.{Lists}
use Rattle.sql_rows.proofs.Lookups.{entry_of, entry_from}

-- Holds if the items are the entries of the map that satisfy P.
pub record Picks {T K V : Type 0} {R : K → K → Ordering} (seen : T → K × V) (m : FinMap R V) (P : K
    → V → Type 0) (items : List T) : Type 0 where
  pub only : (x : T) → Has items x → (get m (seen x).0 ≡ Some (seen x).1) × P (seen x).0 (seen x).1
  pub each : (k : K) (v : V) → get m k ≡ Some v → P k v → (x : T) × Has items x × (seen x ≡ (k, v))

module _ {T K V : Type 0} {R : K → K → Ordering} (o : IsTotalOrder R) (same_key : (a b : K)
    → eq_by_cmp R a b ≡ true → a ≡ b) (read : Row → Option (K × V)) (shown : Row → Row) (seen : T
    → K × V) where
  -- Holds if the test of a row decides P of its entry.
  abbrev pub Says : (Row → Bool) → (K → V → Type 0) → Type 0
  Says p P = (r : Row) (k : K) (v : V) → read (shown r) ≡ Some (k, v) → (p r ≡ true → P k v)
      × (P k v → p r ≡ true)

  pub picks : (p : Row → Bool) (P : K → V → Type 0) (rows : List Row) (items : List T)
      → AreKeysUnique (λ r. read (shown r)) rows → Says p P
      → Lists seen (λ r. read (shown r)) p rows items
      → Picks seen (content_of R (λ r. read (shown r)) rows) P items
  picks p P rows items once says lists = record {
    only = λ x at.
        let r = lists.only x at in (
          entry_of R o read shown same_key rows once r.0 (seen x).0 (seen x).1 r.1 r.3,
          (says r.0 (seen x).0 (seen x).1 r.3).0 r.2,
        );
    each = λ k v got holds.
        let f = entry_from R o read shown same_key rows k v got in
        lists.each f.row (k, v) f.has ((says f.row k v f.reads).1 holds) f.reads;
  }
