-- What a carrier's copy becomes by the rows and downloads that the carrier receives.
use Rattle.std.specs.Prelude.{ℕ, List, [], ◌∷◌, ◌++◌, fold, find, Option, Some, None, ◌==◌, if◌then◌else◌}
use Rattle.numbers.specs.Subjects.{Subject, subject_eq}
use Rattle.numbers.specs.Routings.{Routing}
use Rattle.model.specs.declared.words.Action.{Action}
use Rattle.model.specs.Changes.{carries_routing}
use Rattle.model.specs.Windows.{Windows}
use Rattle.model.specs.History.{Entry, Request, CommandRequest, AcknowledgementRequest}
use Rattle.model.specs.State.{Download, InForce, registers, all_in_force, queue}
use Rattle.model.specs.Refusals.{is_download}

-- The routing that a download leaves in a copy: a create and a modify leave their own, a delete
-- none.
abbrev pub routing_left : Action → Option Routing → Option Routing
routing_left action routing = if carries_routing action then routing else None

-- The routing of s in a copy after one download.
abbrev pub copy_after_download : Download → (s : Subject) → Option Routing → Option Routing
copy_after_download d s before = if subject_eq d.subject s then routing_left d.action d.routing
    else before

-- The routing of s in a copy that has only these rows. Of two rows of one subject the later counts.
abbrev pub copy_of_rows : List InForce → Subject → Option Routing
copy_of_rows rows s = fold (λ before (r : InForce). if subject_eq r.subject s then r.routing
    else before) None rows

-- ---- what a carrier receives

-- The rows that the carrier's registration returned.
abbrev pub rows_handed : Windows → ℕ → List Entry → List InForce
rows_handed w c [] = []
rows_handed w c (e ∷ h) = if registers c e.request
    then all_in_force (record { windows = w; history = h; now = e.minute }) else rows_handed w c h

-- The pending download that a request of the carrier acknowledges, if it acknowledges one.
abbrev pub acknowledged_of : ℕ → ℕ → Request → List Download → Option Download
acknowledged_of c caller (AcknowledgementRequest id attempt) waiting = if caller == c
    then find (is_download id attempt) waiting else None
acknowledged_of c caller (CommandRequest command) waiting = None

abbrev pub and_then : List Download → Option Download → List Download
and_then ds (Some d) = ds ++ d ∷ []
and_then ds None = ds

-- The downloads that the carrier has acknowledged since its registration, in order.
abbrev pub downloads_handed : Windows → ℕ → List Entry → List Download
downloads_handed w c [] = []
downloads_handed w c (e ∷ h) =
    if registers c e.request
    then []
    else and_then (downloads_handed w c h) (acknowledged_of c e.caller e.request
    (queue (record { windows = w; history = h; now = e.minute }) c))

-- The routing of s in a copy that starts with those rows and takes those downloads.
abbrev pub copy_handed : Windows → ℕ → List Entry → Subject → Option Routing
copy_handed w c h s =
    fold (λ before d. copy_after_download d s before) (copy_of_rows (rows_handed w c h) s)
    (downloads_handed w c h)
