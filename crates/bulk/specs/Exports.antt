-- An export: everything in force, ordered by subject.
use Rattle.std.specs.Prelude.{◌≡◌, ℕ, List, [], ◌∷◌, ◌++◌, length, map, codes, Option, Some, None}
use Rattle.std.specs.Prelude.{Result, Ok, Err}
use Rattle.std.specs.Io.KnownBytes.{Appends}
use Rattle.numbers.specs.Routings.{Routing}
use Rattle.numbers.specs.Texts.{subject_text, lrn_text, cic_text}
use Rattle.model.specs.State.{State, InForce, all_in_force}
use Rattle.bulk.specs.Files.{file_text, EndsWithin}
use Rattle.bulk.specs.declared.fault.BulkFault.{BulkFault}
use Rattle.bulk.specs.declared.fault.FaultKind.{FaultKind}
use Rattle.bulk.specs.declared.fault.FaultKind.TheVariants.{BadHeader, BadFile, UnknownCarrier, Storage, NoMemory, Read, Write}

unfoldable pub export_header : List ℕ
export_header = codes "subject,lrn,cic\n"

-- The field of a carrier identification code; `None` leaves it empty.
abbrev pub cic_field : Option ℕ → List ℕ
cic_field None = []
cic_field (Some cic) = cic_text cic

abbrev pub routing_fields : Option Routing → List ℕ
routing_fields None = 44 ∷ []
routing_fields (Some routing) = lrn_text routing.lrn ++ 44 ∷ cic_field routing.cic

-- The line of a subject in force with its routing.
abbrev pub in_force_line : InForce → List ℕ
in_force_line row = subject_text row.subject ++ 44 ∷ (routing_fields row.routing ++ 10 ∷ [])

abbrev pub export_lines : State → List (List ℕ)
export_lines st = map in_force_line (all_in_force st)

-- Holds if a failed export wrote this: its header and the first `rows` rows, and at most a prefix
-- of the next. Nothing is written if the device or an allocation fails.
abbrev pub FailsTo : FaultKind → (rows : ℕ) → State → (had has : Option (List ℕ)) → Type 0
FailsTo Write rows st had has = EndsWithin had has export_header (export_lines st) rows
FailsTo Storage rows st had has = (rows ≡ 0) × Appends had has []
FailsTo NoMemory rows st had has = (rows ≡ 0) × Appends had has []
FailsTo BadHeader rows st had has = ⊥
FailsTo BadFile rows st had has = ⊥
FailsTo UnknownCarrier rows st had has = ⊥
FailsTo Read rows st had has = ⊥

abbrev pub Exports : Result ℕ BulkFault → State → (had has : Option (List ℕ)) → Type 0
Exports (Ok rows) st had has = (rows ≡ length (all_in_force st))
    × Appends had has (file_text export_header (export_lines st))
Exports (Err fault) st had has = FailsTo fault.kind fault.rows st had has
