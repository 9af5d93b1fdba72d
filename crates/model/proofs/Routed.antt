-- What is in force has a routing.
use Rattle.std.proofs.Common.{◌≡◌, ℕ, ◌⊎◌, inl, inr, Bool, true, false, Option, refl, ap, is_some}
use Rattle.numbers.specs.Routings.{Routing}
use Rattle.model.specs.declared.words.Outcome.{Outcome}
use Rattle.model.specs.declared.words.Outcome.TheVariants.{Open, AllAcknowledged, SomeAcknowledged, NoneAcknowledged}
use Rattle.model.specs.Statuses.{Send, Create, Delete, Modify, Status, Pending, Sending, Active, PartialFailure, Failed, DisconnectPending}
use Rattle.model.specs.Versions.{Version, in_force, in_force_status}
use Rattle.model.specs.Changes.{status_after, routing_after, outcome_at_end}
use Rattle.model.specs.State.{record_now}
use Rattle.model.specs.Laws.{InForceIsRouted}
use Rattle.model.proofs.Moves.{MovesKeep, is_planned}
use Rattle.model.proofs.Lists.{found-among, found_has}
use Rattle.model.proofs.KeptVersions.{versions_kept}
use Rattle.model.specs.Windows.{WindowSet}

-- Whether a version with this status is or was in force, or is or was sent.
abbrev pub needs_routing : Status → Bool
needs_routing (Sending action) = true
needs_routing Active = true
needs_routing PartialFailure = true
needs_routing Failed = true
needs_routing (DisconnectPending release) = true
needs_routing _ = false

-- Holds if a version with the new provider's create, or with a status that needs a routing, has
-- one.
abbrev pub IsRoutedAs : Option ℕ → Option Routing → Status → Type 0
IsRoutedAs new_at routing status = (is_some new_at ≡ true → is_some routing ≡ true)
    × (needs_routing status ≡ true → is_some routing ≡ true)

abbrev pub IsRouted : Version → Type 0
IsRouted v = IsRoutedAs v.new_at v.routing v.status

-- A version with a routing may enter any status.
routed_as : (v : Version) (status : Status) → is_some v.routing ≡ true
    → IsRoutedAs v.new_at v.routing status
routed_as v status is = (λ made. is, λ needs. is)

-- A version that is activated has a routing: it failed, or is pending with the new provider's
-- create.
pub activated_routed : (v : Version) → (v.status ≡ Failed)
    ⊎ ((v.status ≡ Pending) × (is_some v.new_at ≡ true)) → IsRouted v → is_some v.routing ≡ true
activated_routed v (inl failed) is = is.1 (ap needs_routing failed)
activated_routed v (inr pending) is = is.0 pending.1

planned_needs : (status : Status) → is_planned status ≡ true → needs_routing status ≡ true
planned_needs (DisconnectPending release) planned = refl
planned_needs _ planned = cc

force_needs : (status : Status) → in_force_status status ≡ true → needs_routing status ≡ true
force_needs Active now = refl
force_needs PartialFailure now = refl
force_needs (DisconnectPending release) now = refl
force_needs (Sending action) now = refl
force_needs _ now = cc

-- A version has a routing after its broadcast closed.
closed_routed : (action : Send) (outcome : Outcome) (routing : Option Routing)
    → is_some routing ≡ true → is_some (routing_after action outcome routing) ≡ true
closed_routed Create outcome routing is = is
closed_routed Delete outcome routing is = is
closed_routed (Modify put) AllAcknowledged routing is = refl
closed_routed (Modify put) SomeAcknowledged routing is = refl
closed_routed (Modify put) NoneAcknowledged routing is = is
closed_routed (Modify put) Open routing is = is

closed_as : (v : Version) (action : Send) (outcome : Outcome) → is_some v.routing ≡ true
    → IsRoutedAs v.new_at (routing_after action outcome v.routing) (status_after action outcome)
closed_as v action outcome is = (
  λ made. closed_routed action outcome v.routing is,
  λ needs. closed_routed action outcome v.routing is,
)

-- Every move keeps it.
pub routed_kept : (w : WindowSet) → MovesKeep w (λ m cs v. IsRouted v)
routed_kept w = record {
  later = λ m n cs v up is. is;
  joined = λ c m cs v is. is;
  made_old = λ m cs id old_provider new_provider due some. (λ made. cc, λ needs. cc);
  made_new = λ routing m cs id old_provider new_provider due some. (λ made. refl, λ needs. refl);
  made_sent =
      λ routing protective m cs id old_provider new_provider due some.
      (λ made. refl, λ needs. refl);
  old_create = λ m cs v awaits is. is;
  new_create = λ routing m cs v awaits is. (λ made. refl, λ needs. refl);
  pending = λ m cs v from is. (is.0, λ needs. cc);
  conflict = λ spent m cs v from is. (is.0, λ needs. cc);
  cancel_pending = λ by m cs v from is. (is.0, λ needs. cc);
  canceled = λ m cs v from is. (is.0, λ needs. cc);
  active = λ m cs v from is. routed_as v Active (is.1 (planned_needs v.status from));
  planned = λ release m cs v may is. routed_as v (DisconnectPending release)
      (is.1 (ap needs_routing may.0));
  old = λ m cs v force is. (is.0, λ needs. cc);
  activated = λ m cs v may is. routed_as v (Sending Create) (activated_routed v may.0 is);
  disconnected = λ m cs v may is. routed_as v (Sending Delete) (is.1 (ap needs_routing may.0));
  released = λ m cs v from is. routed_as v (Sending Delete) (is.1 (planned_needs v.status from));
  modified = λ routing m cs v may is. routed_as v (Sending (Modify routing))
      (is.1 (ap needs_routing may.0));
  ended = λ action m cs v from is. closed_as v action (outcome_at_end v.broadcasts)
      (is.1 (ap needs_routing from));
  answered = λ c attempt m cs v may is. is;
  closed = λ c attempt action m cs v may is. closed_as v action AllAcknowledged
      (is.1 (ap needs_routing may.1));
  whole = λ c attempt m cs v may is. routed_as v Active (is.1 (ap needs_routing may.1));
}

pub force_is_routed : InForceIsRouted
force_is_routed st is s v found =
    (found_has IsRouted in_force (record_now st s).versions v (versions_kept routed_kept st.windows
    s st.history st.now is.history) found).1
    (force_needs v.status (found-among in_force (record_now st s).versions v found).1)
