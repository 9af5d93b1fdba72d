-- The numbers of a block that are in use, by the rows of versions.
use Rattle.std.specs.Prelude.{◌≡◌, ◌==◌, ℕ, Bool, List, Option, Some, None, option_and_then}
use Rattle.std.specs.FinMap.{get}
use Rattle.std.specs.List.{list_any}
use Rattle.sqlite_rules.specs.Lists.{Has}
use Rattle.numbers.specs.Digits.{block_of}
use Rattle.numbers.specs.Subjects.{Subject, Number, Block}
use Rattle.numbers.specs.declared.tn.Tn.{Tn}
use Rattle.model.specs.Content.{Content, VersionRow}
use Rattle.version.specs.declared.in_use.NumberInUse.{NumberInUse}
use Rattle.sql_store.specs.declared.blocks.Role.{Role}
use Rattle.sql_store.specs.declared.blocks.Role.TheVariants.{InForce, Open}
use Rattle.sql_rows.specs.declared.statement.Query.{Query}
use Rattle.sql_rows.specs.declared.statement.Query.TheVariants.{InForceAmong, OpenAmong}

abbrev pub number_of_tn : Tn → ℕ
number_of_tn tn = tn.number

-- ---- a number, by a column of its version

abbrev pub query_by : Role → Query
query_by InForce = InForceAmong
query_by Open = OpenAmong

abbrev pub subject_by : Role → VersionRow → Option Subject
subject_by InForce v = v.holds
subject_by Open v = v.opens

abbrev pub number_if : Subject → Option ℕ
number_if (Number n) = Some n
number_if (Block n) = None

abbrev pub number_by : Role → VersionRow → Option ℕ
number_by by v = option_and_then number_if (subject_by by v)

-- Holds if the number has a version in this role: in force, or open.
abbrev pub HasVersionInRole : Content → Role → (number : ℕ) → Type 0
HasVersionInRole c by n = (id : ℕ) × (row : VersionRow) × (get c.versions id ≡ Some row)
    × (subject_by by row ≡ Some (Number n))

-- Holds if these are the numbers of the block with a version in this role.
pub record AreNumbers (c : Content) (by : Role) (block : ℕ) (tns : List Tn) : Type 0 where
  pub each : (n : ℕ) → block_of n ≡ block → HasVersionInRole c by n → (tn : Tn) × Has tns tn
      × (tn.number ≡ n)
  pub only : (tn : Tn) → Has tns tn → (block_of tn.number ≡ block) × HasVersionInRole c by tn.number

-- ---- numbers in use

abbrev pub is_listed : List Tn → Tn → Bool
is_listed tns tn = list_any (λ (t : Tn). t.number == tn.number) tns

abbrev pub number_in_use : (in_force opened : List Tn) → Tn → NumberInUse
number_in_use in_force opened tn = record {
  tn = tn;
  is_in_force = is_listed in_force tn;
  is_open = is_listed opened tn;
}
