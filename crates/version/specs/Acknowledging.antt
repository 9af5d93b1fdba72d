-- The effect of an acknowledgement on its version.
use Rattle.std.specs.Prelude.{ℕ, Bool, true, false, ◌&&◌, ◌==◌, if◌then◌else◌}
use Rattle.model.specs.Statuses.{Status, Pending, Conflict, CancelPending, Sending, Active, PartialFailure, Failed, DisconnectPending, Old, Canceled}
use Rattle.model.specs.Windows.{WindowSet}
use Rattle.model.specs.Versions.{Version}
use Rattle.model.specs.Changes.{completed}
use Rattle.version.specs.declared.version.Version.{Version as VersionImpl}

-- Whether the acknowledgement is the last one of the version's newest attempt.
abbrev pub completes : VersionImpl → (attempt : ℕ) → (is_last : Bool) → Bool
completes v attempt is_last = is_last && (v.attempt == attempt)

abbrev pub is_sending : Status → Bool
is_sending (Sending action) = true
is_sending Pending = false
is_sending Conflict = false
is_sending (CancelPending by) = false
is_sending Active = false
is_sending PartialFailure = false
is_sending Failed = false
is_sending (DisconnectPending release) = false
is_sending Old = false
is_sending Canceled = false

-- The version after the last acknowledgement of its newest broadcast, or unchanged.
abbrev pub completed_if : WindowSet → Bool → (minute : ℕ) → Version → Version
completed_if present completes minute v = if completes then completed present v.status minute v
    else v
