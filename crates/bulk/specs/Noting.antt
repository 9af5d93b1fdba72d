-- The note that some line of a report has a refusal.
use Rattle.std.specs.Prelude.{◌≡◌, ◌||◌, ℕ, Bool, true, false, List, [], ◌∷◌, codes, decimal, Option}
use Rattle.std.specs.Io.KnownBytes.{Appends}
use Rattle.bulk.specs.Files.{AreSent}
use Rattle.bulk.specs.Report.{report_header, report_line}

-- Holds if the line has a refusal, and no id; or, if not `refused`, `ok` and an id.
abbrev pub IsResultLine : (refused : Bool) → List ℕ → Type 0
IsResultLine true line =
    (row : ℕ) × (subject : List ℕ) × (result : List ℕ) × (line ≡ report_line row subject result [])
IsResultLine false line = (row : ℕ) × (id : ℕ) × (subject : List ℕ)
    × (line ≡ report_line row subject (codes "ok") (decimal id))

-- Holds if the note was so before these lines, and is so after them: it rises with the first
-- refusal.
abbrev pub Notes : List (List ℕ) → (was is : Bool) → Type 0
Notes [] was is = was ≡ is
Notes (line ∷ lines) was is =
    (refused : Bool) × IsResultLine refused line × Notes lines (was || refused) is

-- Holds if a line was made, and noted.
abbrev pub NotesLine : (line : List ℕ) → (was is : Bool) → Type 0
NotesLine line was is = (refused : Bool) × IsResultLine refused line × (is ≡ (was || refused))

-- Holds if lines were sent, and noted.
abbrev pub SendsNoting : (had has : Option (List ℕ)) → (was is : Bool) → Type 0
SendsNoting had has was is = (lines : List (List ℕ)) × AreSent had has lines × Notes lines was is

-- Holds if a report was sent, and `noted` says whether one of its lines has a refusal.
abbrev pub ReportsNoting : (had has : Option (List ℕ)) → (noted : Bool) → Type 0
ReportsNoting had has noted = (behind : Option (List ℕ)) × Appends had behind report_header
    × SendsNoting behind has false noted
