-- The changes of a command on a version.
use Rattle.std.specs.Prelude.{ℕ, List, Option, Some, None}
use Rattle.numbers.specs.Subjects.{Subject}
use Rattle.model.specs.Statuses.{Send}
use Rattle.model.specs.Versions.{Version}
use Rattle.model.specs.Changes.{routing_sent}
use Rattle.settle.specs.Changes.{Changes}
use Rattle.settle.specs.Sending.{send_changes, version_changes}

-- The rows of the version and, if it sends, of the broadcast that begins.
abbrev pub transition_changes : (id : ℕ) → (minute : ℕ) → Option Send → Subject → Version
    → (all_carriers : List ℕ) → Changes
transition_changes id minute None s v all_carriers = version_changes id s v None
transition_changes id minute (Some action) s v all_carriers =
    send_changes id minute action s v (routing_sent action v) all_carriers
