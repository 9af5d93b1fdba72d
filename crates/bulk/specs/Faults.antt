-- The faults that end a run over a file early.
use Rattle.std.specs.Prelude.{◌≡◌, ◌≢◌, ◌⊎◌, ℕ, List, [], Option, Result, Ok, Err, codes}
use Rattle.std.specs.Io.KnownBytes.{Appends}
use Rattle.bulk.specs.declared.fault.BulkFault.{BulkFault}
use Rattle.bulk.specs.declared.fault.FaultKind.{FaultKind}
use Rattle.bulk.specs.declared.fault.FaultKind.TheVariants.{BadHeader, BadFile, UnknownCarrier, Storage, NoMemory, Read, Write}

-- The name that a program reports.
abbrev pub kind_name : FaultKind → List ℕ
kind_name BadHeader = codes "bad_header"
kind_name BadFile = codes "bad_file"
kind_name UnknownCarrier = codes "unknown_carrier"
kind_name Storage = codes "storage"
kind_name NoMemory = codes "no_memory"
kind_name Read = codes "read"
kind_name Write = codes "write"

-- Holds if the device or an allocation failed.
abbrev pub IsUnavailableKind : FaultKind → Type 0
IsUnavailableKind kind = (kind ≡ Storage) ⊎ (kind ≡ NoMemory)

-- Holds if neither the device nor an allocation failed.
abbrev pub IsAvailableKind : FaultKind → Type 0
IsAvailableKind kind = (kind ≢ Storage) × (kind ≢ NoMemory)

-- Holds if the result is no fault of the device or of an allocation. Such a result leaves a usable
-- store usable.
abbrev pub IsAvailable : Result ℕ BulkFault → Type 0
IsAvailable (Ok rows) = Unit {0}
IsAvailable (Err fault) = IsAvailableKind fault.kind

-- Holds if nothing was written and no row counted, provided the device or an allocation failed.
abbrev pub IsUnwritten : Result ℕ BulkFault → (had has : Option (List ℕ)) → Type 0
IsUnwritten (Ok rows) had has = Unit {0}
IsUnwritten (Err fault) had has =
    IsUnavailableKind fault.kind → (fault.rows ≡ 0) × Appends had has []

-- Holds if the result is a fault of this kind.
abbrev pub FailsWith : FaultKind → Result ℕ BulkFault → Type 0
FailsWith kind (Ok rows) = ⊥
FailsWith kind (Err fault) = fault.kind ≡ kind

-- Holds if the reader or an allocation failed.
abbrev pub IsUnread : FaultKind → Type 0
IsUnread kind = (kind ≡ Read) ⊎ (kind ≡ NoMemory)
