-- The models of versions, windows and phases.
use Rattle.std.specs.Prelude.{ℕ, ◌≡◌, List, [], Option, option_map}
use Rattle.numbers.specs.Routings.{Routing}
use Rattle.numbers.specs.Abstraction.{minute_of, routing_of}
use Rattle.numbers.specs.declared.minute.Minute.{Minute}
use Rattle.numbers.specs.declared.ported.Routing.{Routing as RoutingImpl}
use Rattle.windows.specs.declared.window.Windows.{Windows as WindowsImpl}
use Rattle.windows.specs.declared.window.WindowSet.{WindowSet as WindowSetImpl}
use Rattle.version.specs.declared.version.Version.{Version as VersionImpl}
use Rattle.version.specs.declared.phase.Phase.{Phase as PhaseImpl}
use Rattle.version.specs.declared.phase.Phase.TheVariants.{Initial as InitialImpl, Final as FinalImpl, Ended as EndedImpl}
use Rattle.model.specs.Windows.{Windows, WindowSet}
use Rattle.model.specs.Abstraction.{status_of}
use Rattle.model.specs.Versions.{Broadcast, Version}
use Rattle.model.specs.State.{Phase, Initial, Final, Ended}

abbrev pub minutes_of : Option Minute → Option ℕ
minutes_of = option_map minute_of

abbrev pub routings_of : Option RoutingImpl → Option Routing
routings_of = option_map routing_of

-- The model of a version with its id, its broadcasts and the windows of the set that it holds,
-- which are kept elsewhere.
abbrev pub version_of : (id : ℕ) → (broadcasts : List Broadcast) → (windows : Windows) → VersionImpl
    → Version
version_of id broadcasts windows v = record {
  id = id;
  old_provider = v.old_provider.number;
  new_provider = v.new_provider.number;
  due = v.due.number;
  routing = routings_of v.routing;
  old_at = minutes_of v.old_at;
  new_at = minutes_of v.new_at;
  status = status_of v.status;
  since = v.since.number;
  held = record { number = v.held; windows = windows };
  attempt = v.attempt;
  spent = v.is_conflict_spent;
  protective = v.is_protective;
  broadcasts = broadcasts;
}

-- The model for uses that need neither the id nor the broadcasts.
abbrev pub model_with_windows : Windows → VersionImpl → Version
model_with_windows windows v = version_of 0 [] windows v

-- The windows for uses that do not need them either.
abbrev pub no_windows : Windows
no_windows = record {
  initial_concurrence = 0;
  final_concurrence = 0;
  conflict_restriction = 0;
  conflict_resolution = 0;
  conflict_expiration = 0;
  cancellation_initial = 0;
  cancellation_final = 0;
  pending_retention = 0;
  broadcast = 0;
}

abbrev pub model_of : VersionImpl → Version
model_of v = model_with_windows no_windows v

-- Holds if the code's version has this model, apart from what is kept elsewhere.
abbrev pub HasModel : VersionImpl → Version → Type 0
HasModel u v = version_of v.id v.broadcasts v.held.windows u ≡ v

-- Holds if the change turns version v into u, with any id, any broadcasts and any windows of the
-- set that v holds. The subject stays.
pub record Becomes (change : Version → Version) (v u : VersionImpl) : Type 0 where
  pub subject : u.subject ≡ v.subject
  pub version : (id : ℕ) (broadcasts : List Broadcast) (windows : Windows)
      → HasModel u (change (version_of id broadcasts windows v))

abbrev pub windows_of : WindowsImpl → Windows
windows_of w = record {
  initial_concurrence = w.initial_concurrence.minutes;
  final_concurrence = w.final_concurrence.minutes;
  conflict_restriction = w.conflict_restriction.minutes;
  conflict_resolution = w.conflict_resolution.minutes;
  conflict_expiration = w.conflict_expiration.minutes;
  cancellation_initial = w.cancellation_initial.minutes;
  cancellation_final = w.cancellation_final.minutes;
  pending_retention = w.pending_retention.minutes;
  broadcast = w.broadcast.minutes;
}

abbrev pub set_of : WindowSetImpl → WindowSet
set_of set = record { number = set.number; windows = windows_of set.windows }

abbrev pub phase_model : PhaseImpl → Phase
phase_model InitialImpl = Initial
phase_model FinalImpl = Final
phase_model EndedImpl = Ended
