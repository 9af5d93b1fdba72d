-- A database whose rows have all been read once.
use Rattle.std.specs.Prelude.{◌≡◌, Bool, true, List, [], Option, Some, None, IsSome}
use Rattle.std.specs.FinMap.{get}
use Rattle.sqlite.specs.Order.{Row}
use Rattle.sqlite.specs.Tree.{Trees}
use Rattle.sqlite_rules.specs.Lists.{Has}
use Rattle.model.specs.Content.{empty_content}
use Rattle.sql_rows.specs.Clocks.{StoredClock}
use Rattle.sql_rows.specs.Content.{block_entry, broadcast_entry, carrier_entry, clock_entry, clocks_in, content_in, lrn_entry, next_entry, set_entry, sets_in, code_entry, wait_entry}
use Rattle.sql_rows.specs.Found.{IsListAnswer}
use Rattle.sql_rows.specs.Versions.{version_entry}
use Rattle.sql_rows.specs.declared.statement.Query.TheVariants.{All}
use Rattle.sql_rows.specs.declared.statement.Table.{Table}

-- Holds if all rows of the table were read, and `blank` implies that there are none.
abbrev pub IsRead : {X : Type 0} → Table → (Row → Option X) → Trees → (blank : Bool) → Type 0
IsRead {X} t read db blank = (xs : List X) × IsListAnswer (All t) read db [] xs
    × (blank ≡ true → xs ≡ [])

-- Holds if each row reads as a key with its value.
abbrev pub EachReads : {X : Type 0} → (Row → Option X) → List Row → Type 0
EachReads {X} entry rows = (r : Row) → Has rows r → (e : X) × (entry r ≡ Some e)

-- Holds if carriers, routing numbers, codes and blocks are readable.
pub record AreRegistryRead (db : Trees) : Type 0 where
  pub carriers : EachReads carrier_entry (db 0)
  pub lrns : EachReads lrn_entry (db 2)
  pub codes : EachReads code_entry (db 3)
  pub blocks : EachReads block_entry (db 4)

-- Holds if versions, broadcasts, pending downloads and the clock are readable.
pub record AreVersionsRead (db : Trees) : Type 0 where
  pub versions : EachReads version_entry (db 18)
  pub broadcasts : EachReads broadcast_entry (db 8)
  pub waits : EachReads wait_entry (db 10)
  pub clock : EachReads clock_entry (db 21)

-- Holds if the routings that versions send and the sets of windows are readable.
pub record AreAddedRead (db : Trees) : Type 0 where
  pub nexts : EachReads next_entry (db 16)
  pub sets : EachReads set_entry (db 17)

pub record IsRegistryBlank (db : Trees) : Type 0 where
  pub carriers : db 0 ≡ []
  pub lrns : db 2 ≡ []
  pub codes : db 3 ≡ []
  pub blocks : db 4 ≡ []

pub record AreVersionsBlank (db : Trees) : Type 0 where
  pub versions : db 18 ≡ []
  pub broadcasts : db 8 ≡ []
  pub waits : db 10 ≡ []
  pub clock : db 21 ≡ []

pub record AreAddedBlank (db : Trees) : Type 0 where
  pub nexts : db 16 ≡ []
  pub sets : db 17 ≡ []

-- Holds if the tables of earlier schemas have no row.
pub record IsMoved (db : Trees) : Type 0 where
  pub versions : db 5 ≡ []
  pub clock : db 12 ≡ []

-- Holds if the tables were read, and `blank` implies that they have no row.
pub record ReadsRegistry (db : Trees) (blank : Bool) : Type 0 where
  pub read : AreRegistryRead db
  pub none : blank ≡ true → IsRegistryBlank db

pub record ReadsVersions (db : Trees) (blank : Bool) : Type 0 where
  pub read : AreVersionsRead db
  pub none : blank ≡ true → AreVersionsBlank db

pub record ReadsAdded (db : Trees) (blank : Bool) : Type 0 where
  pub read : AreAddedRead db
  pub none : blank ≡ true → AreAddedBlank db

-- Holds if the set of windows that the clock's row names is there.
abbrev pub HasPresentSet : Trees → Type 0
HasPresentSet db = (c : StoredClock) → get (clocks_in (db 21)) 0 ≡ Some c
    → IsSome (get (sets_in (db 17)) c.present)

-- Holds if no row of a database is left out of its content, and the present set of windows is
-- there.
pub record IsWhole (db : Trees) : Type 0 where
  pub registry : AreRegistryRead db
  pub versions : AreVersionsRead db
  pub added : AreAddedRead db
  pub moved : IsMoved db
  pub present : HasPresentSet db

-- Holds if a content without the clock's row is empty: no rows are old ones of a lost clock.
abbrev pub IsBegunOrEmpty : Trees → Type 0
IsBegunOrEmpty db = (content_in db).clock ≡ None → content_in db ≡ empty_content

pub record ReadsAll (db : Trees) (blank : Bool) : Type 0 where
  pub whole : IsWhole db
  pub begun : IsBegunOrEmpty db
  pub none : blank ≡ true → content_in db ≡ empty_content
