-- Worked examples of the order of refusals, of limits and of jumps, computed from the definitions.
use Rattle.std.specs.Prelude.{ℕ, zero, suc, ◌+◌, true, List, [], ◌∷◌, ◌++◌, map, Some, None, ◌≡◌, refl}
use Rattle.model.specs.Commands.{RegisterCarrier, OldProviderCreate, Activate, PutInConflict, RemoveFromConflict, Cancel, OldProviderCancellationAcknowledge, NewProviderCancellationAcknowledge, Disconnect, Donate, Release, OnVersion}
use Rattle.model.specs.Statuses.{Pending, Canceled}
use Rattle.model.specs.Judge.{judged_version, judge, judged_for}
use Rattle.model.specs.History.{AcknowledgementRequest, effect, replay_step, replay_of}
use Rattle.model.specs.State.{queue}
use Rattle.model.specs.Refusals.{Input, ClockMoment, RequestFrom, refusal, npac, tests}
use Rattle.model.specs.Machine.{Donated, next, out, state_after, ids_from}
use Rattle.model.proofs.Examples.{a, b, c, n, start, both_creates, standing, does, refused_after, acks, active_at_201, released, waiting_delete, lines_below}

-- ---- that the caller may not precedes that the status does not allow it

-- An active version, and callers that may not.
not_yours_before_wrong_status : map (refusal active_at_201) (does b (OnVersion 1 Activate) ∷ does a
    (OnVersion 1 PutInConflict) ∷ does c (OnVersion 1 RemoveFromConflict) ∷ does c
    (OnVersion 1 Cancel) ∷ does a (OnVersion 1 OldProviderCancellationAcknowledge) ∷ does b
    (OnVersion 1 NewProviderCancellationAcknowledge) ∷ []) ≡ Some 11 ∷ Some 11 ∷ Some 11 ∷ Some 11
    ∷ Some 11 ∷ Some 11 ∷ []
unfolding next replay_of replay_step effect judge judged_for judged_version queue tests out
not_yours_before_wrong_status = refl

-- An active version, and callers that may.
wrong_status_of_active : map (refusal active_at_201) (does a (OnVersion 1 Activate) ∷ does b
    (OnVersion 1 PutInConflict) ∷ does b (OnVersion 1 RemoveFromConflict) ∷ does a
    (OnVersion 1 Cancel) ∷ does b (OnVersion 1 OldProviderCancellationAcknowledge) ∷ does a
    (OnVersion 1 NewProviderCancellationAcknowledge) ∷ []) ≡ Some 13 ∷ Some 13 ∷ Some 13 ∷ Some 13
    ∷ Some 13 ∷ Some 13 ∷ []
unfolding next replay_of replay_step effect judge judged_for judged_version queue tests out
wrong_status_of_active = refl

-- A canceled version, and a block that was released.
disconnect_of_canceled : map (refused_after start (does b (OldProviderCreate n b a 0 true) ∷ does b
    (OnVersion 1 Cancel) ∷ [])) (does b (OnVersion 1 (Disconnect None)) ∷ does a
    (OnVersion 1 (Disconnect None)) ∷ []) ≡ Some 11 ∷ Some 13 ∷ []
unfolding next replay_of replay_step effect judge judged_for judged_version queue tests out
disconnect_of_canceled = refl

release_of_old : map (refusal released) (does a (Release 2025337) ∷ does c (Release 2025337) ∷ [])
    ≡ Some 11 ∷ Some 13 ∷ []
unfolding next replay_of replay_step effect judge judged_for judged_version queue tests out
release_of_old = refl

-- ---- acknowledgements

-- A download that was acknowledged is not pending.
both_again : map (refused_after waiting_delete (acks 1 2 (b ∷ []) ++ acks 2 1 (b ∷ [])))
    (RequestFrom b (AcknowledgementRequest 1 2) ∷ RequestFrom b (AcknowledgementRequest 2 1) ∷ [])
    ≡ Some 25 ∷ Some 25 ∷ []
unfolding next replay_of replay_step effect judge judged_for judged_version queue tests out
both_again = refl

-- ---- limits

-- The ids of a hundred lines.
hundred_ids : out start (does b (Donate 2025337 (lines_below 100) 2025330000 None))
    ≡ Donated 2025337 (ids_from 1 100)
unfolding next replay_of replay_step effect judge judged_for judged_version queue tests out
hundred_ids = refl

-- The registrations of k more carriers.
abbrev pub carriers_from : ℕ → List Input
carriers_from zero = []
carriers_from (suc k) = does npac (RegisterCarrier (1000 + k)) ∷ carriers_from k

-- The hundredth carrier is registered, and the hundred-and-first refused.
hundred_carriers : map (λ k. refused_after start (carriers_from k) (does npac (RegisterCarrier 7)))
    (96 ∷ 97 ∷ []) ≡ None ∷ Some 28 ∷ []
unfolding next replay_of replay_step effect judge judged_for judged_version queue tests out
hundred_carriers = refl

-- ---- jumps, small and large

-- The last minute of both concurrence windows, and the minute of their end.
silent_until : map
    (λ m. standing (state_after start (does b (OldProviderCreate n b a 300 true) ∷ ClockMoment m
    ∷ []))
    1) (119 ∷ 120 ∷ []) ≡ Some (Pending, 0, 0) ∷ Some (Canceled, 120, 0) ∷ []
unfolding next replay_of replay_step effect judge judged_for judged_version queue tests out
silent_until = refl

-- A cancellation and the conflict that it ends in, in steps.
cancel_in_steps : standing
    (state_after start (both_creates 5000 ++ ClockMoment 10 ∷ does b (OnVersion 1 Cancel)
    ∷ ClockMoment 130
    ∷ ClockMoment 1129 ∷ ClockMoment 1130 ∷ [])) 1 ≡ Some (Canceled, 1130, 0)
unfolding next replay_of replay_step effect judge judged_for judged_version queue tests out
cancel_in_steps = refl
