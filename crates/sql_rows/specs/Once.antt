-- Uniqueness of keys.
use Rattle.std.specs.Prelude.{◌≡◌, List, Option, Some}
use Rattle.sqlite.specs.Order.{Row}
use Rattle.sqlite.specs.Tree.{Trees}
use Rattle.sqlite_rules.specs.Lists.{Has}
use Rattle.sql_rows.specs.Content.{broadcast_entry, carrier_entry, wait_entry}

-- Holds if rows that read with the same key are the same row.
abbrev pub AreKeysUnique : {K V : Type 0} → (Row → Option (K × V)) → List Row → Type 0
AreKeysUnique {K} {V} entry rows = (r s : Row) (k : K) (a b : V) → Has rows r → Has rows s
    → entry r ≡ Some (k, a) → entry s ≡ Some (k, b) → s ≡ r

-- Holds if keys are unique in the tables whose keys are not rowids.
pub record HasUniqueKeys (db : Trees) : Type 0 where
  pub carriers : AreKeysUnique carrier_entry (db 0)
  pub broadcasts : AreKeysUnique broadcast_entry (db 8)
  pub waits : AreKeysUnique wait_entry (db 10)
