-- An entry changes nothing of the subjects that it does not concern.
use Rattle.std.proofs.Common.{◌≡◌, ℕ, Bool, false, ◌&&◌, List, [], ◌∷◌, Option, None, refl, ap, ◌∙◌}
use Rattle.std.specs.Prelude.{◌==◌, if◌then◌else◌}
use Rattle.numbers.specs.Subjects.{Subject}
use Rattle.model.specs.Commands.{RegisterCarrier, OldProviderCreate, NewProviderCreate, OnVersion, Release}
use Rattle.model.specs.Windows.{WindowSet}
use Rattle.model.specs.Versions.{Version, Record}
use Rattle.model.specs.Changes.{of_id, changed_at}
use Rattle.model.specs.Judge.{judged}
use Rattle.model.specs.History.{Request, Entry, CommandRequest, AcknowledgementRequest, Replay, carrier_named, windows_named, set_added, carrier_added, version_after_request, effect, replay_step, subjects_made_by, id_among, next_after}
use Rattle.model.specs.Concerns.{has_id, concerns}
use Rattle.numbers.proofs.Small.{neither}
use Rattle.model.proofs.Lists.{everywhere}
use Rattle.model.proofs.Minutes.{LeavesEach, changed_at-same}

pub of_id-elsewhere : (id : ℕ) (change : Version → Version) (vs : List Version)
    → has_id id vs ≡ false → LeavesEach (of_id id change) vs
of_id-elsewhere id change [] none = tt
of_id-elsewhere id change (v ∷ vs) none =
    let parts : (v.id == id ≡ false) × (has_id id vs ≡ false) =
    neither (v.id == id) (has_id id vs) none in
    (ap (λ b. if b then change v else v) parts.0, of_id-elsewhere id change vs parts.1)

-- A change whose test on the subject fails leaves each version.
leaves_each-guarded : (b : Bool) (test : Version → Bool) (change : Version
    → Version) (vs : List Version) → b ≡ false →
    LeavesEach (λ v. if b && test v then change v else v) vs
leaves_each-guarded b test change vs none =
    everywhere (λ v. ap (λ c. if c && test v then change v else v) none) vs

pub version_after_request-elsewhere : (w : WindowSet) (s : Subject) (caller minute : ℕ)
    (all_carriers : List ℕ)
    (request : Request) (vs : List Version) → concerns request s vs ≡ false →
    LeavesEach (version_after_request w s caller minute all_carriers request) vs
version_after_request-elsewhere w s caller minute all_carriers
    (CommandRequest (RegisterCarrier spid)) vs none = cc
version_after_request-elsewhere w s caller minute all_carriers
    (CommandRequest (OldProviderCreate tn old_provider new_provider due authorized)) vs none =
    leaves_each-guarded _ _ _ vs none
version_after_request-elsewhere w s caller minute all_carriers
    (CommandRequest (NewProviderCreate tn old_provider new_provider due lrn cic)) vs none =
    leaves_each-guarded _ _ _ vs none
version_after_request-elsewhere w s caller minute all_carriers (CommandRequest (OnVersion id c)) vs
    none =
    of_id-elsewhere id _ vs none
version_after_request-elsewhere w s caller minute all_carriers (CommandRequest (Release block)) vs
    none =
    leaves_each-guarded _ _ _ vs none
version_after_request-elsewhere w s caller minute all_carriers (AcknowledgementRequest id attempt)
    vs none =
    of_id-elsewhere id _ vs none
version_after_request-elsewhere w s caller minute all_carriers _ vs none = everywhere (λ v. refl) vs

no_carrier : (request : Request) (s : Subject) (vs : List Version) → concerns request s vs ≡ false
    → carrier_named request ≡ None
no_carrier (CommandRequest (RegisterCarrier spid)) s vs none = cc
no_carrier _ s vs none = refl

-- An entry that neither concerns s nor makes a version of it leaves its record.
pub effect-elsewhere : (w : WindowSet) (s : Subject) (donor : Option ℕ) (e : Entry) (r : Record)
    → concerns e.request s r.versions ≡ false → effect w s None donor e r ≡ r
unfolding effect
effect-elsewhere w s donor e r none =
    ap (λ named. record {
      carriers = carrier_added named r.carriers;
      versions = changed_at w e.minute (version_after_request w s e.caller e.minute r.carriers
          e.request)
          r.versions;
    }) (no_carrier e.request s r.versions none)
    ∙ ap (λ vs. record r { versions = vs })
    (changed_at-same w e.minute (version_after_request w s e.caller e.minute r.carriers e.request)
    r.versions
    (version_after_request-elsewhere w s e.caller e.minute r.carriers e.request r.versions none))

-- The replay of s continues as without such an entry.
pub replay_step-elsewhere : (w : WindowSet) (e : Entry) (donor : Option ℕ) (before : Replay)
    (s : Subject) (m : ℕ) →
    concerns e.request s (before.at s e.minute).versions ≡ false →
    id_among s (next_after before.made) (subjects_made_by e.request (λ t. before.at t e.minute))
    ≡ None →
    (replay_step w e donor before).at s m ≡ judged (set_added (windows_named e.request) w) e.minute
    m
    (before.at s e.minute)
unfolding replay_step
replay_step-elsewhere w e donor before s m none unmade =
    ap (λ made. judged (set_added (windows_named e.request) w) e.minute m
    (effect w s made donor e (before.at s e.minute))) unmade
    ∙ ap (judged (set_added (windows_named e.request) w) e.minute m)
    (effect-elsewhere w s donor e (before.at s e.minute) none)
