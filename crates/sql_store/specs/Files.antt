-- The refusal of a file, which keeps its rows.
use Rattle.std.specs.Prelude.{◌≢◌, ⊤}
use Rattle.sqlite.specs.Store.{Ghosts}
use Rattle.sqlite.specs.Tree.{Trees}
use Rattle.model.specs.Windows.{Windows}
use Rattle.sql_store.specs.Opened.{HasSameRows, IsRefusedAs}
use Rattle.sql_store.specs.Refusal.{IsLeftUsable, trees_of}
use Rattle.sql_store.specs.declared.file.Unopened.{Unopened}
use Rattle.sql_store.specs.declared.file.Unopened.TheVariants.{Files, Database}
use Rattle.sql_store.specs.declared.file_fault.FileFault.{FileFault}
use Rattle.sql_store.specs.declared.file_fault.FileFault.TheVariants.{WindowsDiffer}

-- Holds if the file's database was refused as one, or the file could not be opened, which is never
-- due to the windows.
abbrev pub IsRefusedAt : {S L : Type 0} → Ghosts S → Windows → Trees → FileFault → Unopened S L
    → Type 0
IsRefusedAt g w db fault (Files left) = fault ≢ WindowsDiffer
IsRefusedAt g w db fault (Database refused) = IsRefusedAs g w db fault refused

-- Holds if the file's database keeps every row, or the file could not be opened.
abbrev pub IsKeptAt : {S L : Type 0} → Ghosts S → Trees → Unopened S L → Type 0
IsKeptAt g db (Files left) = ⊤
IsKeptAt g db (Database refused) = IsLeftUsable g refused → HasSameRows db (trees_of g refused)
