-- A store that was just opened.
use Rattle.std.specs.Prelude.{◌≡◌}
use Rattle.sqlite.specs.Store.{Ghosts}
use Rattle.sql_store.specs.declared.group.Group.TheVariants.{None}
use Rattle.sql_store.specs.declared.store.SqlStore.{SqlStore}

-- Holds of a store that has counted no failure and is in no group.
abbrev pub IsFresh : {S : Type 0} {g : Ghosts S} → SqlStore S g → Type 0
IsFresh store = (store.failures ≡ 0) × (store.group ≡ None)
