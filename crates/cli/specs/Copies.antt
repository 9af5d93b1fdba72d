-- The paths of a register's file and of its copies.
use Rattle.std.specs.Prelude.{◌≡◌, ℕ, List, ◌++◌, codes, decimal, string_bytes}
use Rattle.cli.specs.declared.copying.RegisterPaths.{RegisterPaths}
use Rattle.cli.specs.declared.snapshot.Snapshot.{Snapshot}

-- Holds if these are the paths of the file at `path` and of its log.
abbrev pub ArePathsOf : (path : List ℕ) → RegisterPaths → Type 0
ArePathsOf path paths =
    (string_bytes paths.file ≡ path) × (string_bytes paths.log ≡ path ++ codes "-wal")

-- The path of the folder with this number for a copy of the file at `db`.
abbrev pub snapshot_folder : (db : List ℕ) → (number : ℕ) → List ℕ
snapshot_folder db number = db ++ (codes ".snapshot-" ++ decimal number)

-- Holds if this is the folder with this number beside the file at `db`, and the copy lies in it.
pub record IsSnapshot (db : List ℕ) (number : ℕ) (snapshot : Snapshot) : Type 0 where
  pub folder : string_bytes snapshot.folder ≡ snapshot_folder db number
  pub copy : ArePathsOf (snapshot_folder db number ++ codes "/register.db") snapshot.copy
