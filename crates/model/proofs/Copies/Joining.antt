-- A carrier's registration: it was not registered before, and becomes a recipient of what is open.
use Rattle.std.proofs.Common.{◌≡◌, ℕ, true, false, None, ◌∷◌, List, ap, subst}
use Rattle.std.specs.Prelude.{◌==◌}
use Rattle.std.specs.List.{AllByRecursion}
use Rattle.numbers.specs.Subjects.{Subject}
use Rattle.model.specs.Commands.{RegisterCarrier}
use Rattle.model.specs.Windows.{Windows}
use Rattle.model.specs.Versions.{is_among}
use Rattle.model.specs.Changes.{joined_by, changed_at}
use Rattle.model.specs.History.{Request, CommandRequest, Entry, carriers, effect, replay, subjects_made_by, subjects_made, made_version, with_made, version_after_request, next_after, id_among, donor_of, assigned_block, present_set}
use Rattle.model.specs.State.{State, registers, is_carrier}
use Rattle.model.specs.Refusals.{RequestFrom, refusal, npac}
use Rattle.model.specs.Machine.{IsHistory}
use Rattle.numbers.proofs.Small.{or_first, equal_number}
use Rattle.model.proofs.Accepted.{accepted_command}
use Rattle.model.proofs.Entered.{record-carriers}
use Rattle.model.proofs.Recipients.{IsKnown, known_kept}
use Rattle.model.proofs.Kept.{record_after}
use Rattle.model.proofs.KeptVersions.{versions_kept}

module _ (w : Windows) (c : ℕ) (h : List Entry) (e : Entry) where
  pub was_out : IsHistory w (e ∷ h) e.minute → registers c e.request ≡ true
      → is_among c (carriers h) ≡ false
  was_out is registered = by_cases e.request registered is.2
    where
      st : State
      st = record { windows = w; history = h; now = e.minute }

      by_cases : (request : Request) → registers c request ≡ true
          → refusal st (RequestFrom e.caller request) ≡ None → is_among c (carriers h) ≡ false
      by_cases (CommandRequest (RegisterCarrier spid)) r ok =
          subst (λ k. is_among k (carriers h) ≡ false) (equal_number spid c r)
          (or_first (is_carrier st spid) (spid == npac)
          (accepted_command st e.caller (RegisterCarrier spid) ok 4))
      by_cases _ r ok = cc

  pub versions_joined : (s : Subject) → registers c e.request ≡ true
      → (record_after w s h e).versions
      ≡ changed_at (present_set w h) e.minute (joined_by c) (replay w s h e.minute).versions
  unfolding effect
  versions_joined s registered = by_cases e.request registered
    where
      by_cases : (q : Request) → registers c q ≡ true
          → with_made (id_among s (next_after (subjects_made w h))
          (subjects_made_by q (λ t. replay w t h e.minute)))
          (λ id. made_version (present_set w h) id e.caller e.minute
          (replay w s h e.minute).carriers (donor_of (assigned_block q) h) q)
          (changed_at (present_set w h) e.minute (version_after_request (present_set w h) s e.caller
          e.minute
          (replay w s h e.minute).carriers q) (replay w s h e.minute).versions)
          ≡ changed_at (present_set w h) e.minute (joined_by c) (replay w s h e.minute).versions
      by_cases (CommandRequest (RegisterCarrier spid)) r =
          ap (λ k. changed_at (present_set w h) e.minute (joined_by k)
          (replay w s h e.minute).versions) (equal_number spid c r)
      by_cases _ r = cc

-- What was sent before it went to registered carriers.
pub known_before_it : (w : Windows) (s : Subject) (h : List Entry) (e : Entry)
    → IsHistory w (e ∷ h) e.minute
    → AllByRecursion (IsKnown (carriers h)) (replay w s h e.minute).versions
known_before_it w s h e is =
    subst (λ cs. AllByRecursion (IsKnown cs) (replay w s h e.minute).versions)
    (record-carriers w h s e.minute) (versions_kept known_kept w s h e.minute is.3)
