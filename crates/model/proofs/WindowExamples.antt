-- Worked examples of windows that change, computed from the definitions.
use Rattle.std.specs.Prelude.{ℕ, zero, suc, true, List, [], ◌∷◌, ◌++◌, map, Option, Some, None, ◌≡◌, refl, option_map}
use Rattle.model.specs.Commands.{OldProviderCreate, NewProviderCreate, OnVersion, Activate, PutInConflict, RemoveFromConflict, Cancel, SetWindows}
use Rattle.model.specs.Statuses.{Status, Pending, Conflict, CancelPending, Canceled}
use Rattle.model.specs.declared.words.Side.TheVariants.{OldProvider}
use Rattle.model.specs.Windows.{Windows}
use Rattle.model.specs.Judge.{judged_version, judge, judged_for}
use Rattle.model.specs.History.{Entry, CommandRequest, effect, replay_step, replay_of, set_of_number}
use Rattle.model.specs.State.{State, Phase, Initial, Final, Ended, queue, version_of_id, view_of}
use Rattle.model.specs.Refusals.{Input, ClockMoment, refusal, npac, tests}
use Rattle.model.specs.Machine.{WindowsSet, next, out, state_after}
use Rattle.model.proofs.Examples.{w, a, b, n, start, both_creates, standing, does, refused_after}

-- ---- concurrence by the windows at the create

abbrev pub short_concurrence : Windows
short_concurrence = record w { initial_concurrence = 10; final_concurrence = 10 }

-- Another number of the code.
abbrev pub other : ℕ
other = 2025331235

-- The new provider's create for n at 0. At 50 both concurrence windows become 10, and then comes
-- the create for the other number.
abbrev pub two_creates : List Input
two_creates =
    does a (NewProviderCreate n b a 100 2025440000 None) ∷ ClockMoment 50 ∷ does npac
    (SetWindows short_concurrence)
    ∷ does a (NewProviderCreate other b a 60 2025440000 None) ∷ []

answers_the_second_set : out (state_after start (ClockMoment 50 ∷ []))
    (does npac (SetWindows short_concurrence)) ≡ WindowsSet 50 2
unfolding next replay_of replay_step effect judge judged_for judged_version queue tests out
answers_the_second_set = refl

first_concurs_by_the_first : map (λ m. refused_after start (two_creates ++ ClockMoment m ∷ [])
    (does a (OnVersion 1 Activate))) (119 ∷ 120 ∷ []) ≡ Some 16 ∷ None ∷ []
unfolding next replay_of replay_step effect judge judged_for judged_version queue tests out
first_concurs_by_the_first = refl

second_concurs_by_the_second : map (λ m. refused_after start (two_creates ++ ClockMoment m ∷ [])
    (does a (OnVersion 2 Activate))) (69 ∷ 70 ∷ []) ≡ Some 16 ∷ None ∷ []
unfolding next replay_of replay_step effect judge judged_for judged_version queue tests out
second_concurs_by_the_second = refl

-- The phase of one of the two versions at minute m.
abbrev pub phases : ℕ → ℕ → Option (Option Phase)
phases id m = let st : State = state_after start (two_creates ++ ClockMoment m ∷ []) in
    option_map (λ e. (view_of st e).phase) (version_of_id st id)

phases_by_the_first : map (phases 1) (59 ∷ 60 ∷ 119 ∷ 120 ∷ []) ≡ Some (Some Initial) ∷ Some
    (Some Final) ∷ Some (Some Final) ∷ Some (Some Ended) ∷ []
unfolding next replay_of replay_step effect judge judged_for judged_version queue tests out
phases_by_the_first = refl

phases_by_the_second : map (phases 2) (59 ∷ 60 ∷ 69 ∷ 70 ∷ []) ≡ Some (Some Initial) ∷ Some
    (Some Final) ∷ Some (Some Final) ∷ Some (Some Ended) ∷ []
unfolding next replay_of replay_step effect judge judged_for judged_version queue tests out
phases_by_the_second = refl

-- ---- a status that a version enters when its timer expires

-- The old provider cancels at 10 and the new one is silent: conflict at 130.
abbrev pub cancelled_at_10 : List Input
cancelled_at_10 = both_creates 5000 ++ ClockMoment 10 ∷ does b (OnVersion 1 Cancel) ∷ []

abbrev pub short_expiration : Windows
short_expiration = record w { conflict_expiration = 5 }

-- The expiration of conflicts becomes 5 at minute m, and then the clock moves.
abbrev pub shortened_at : ℕ → List ℕ → Option (Status × ℕ × ℕ)
shortened_at m ms =
    standing (state_after start (cancelled_at_10 ++ ClockMoment m ∷ does npac
    (SetWindows short_expiration) ∷ map (λ k. ClockMoment k) ms)) 1

unchanged : map (λ m. standing (state_after start (cancelled_at_10 ++ ClockMoment m ∷ [])) 1)
    (129 ∷ 130 ∷ 1129 ∷ 1130 ∷ []) ≡ Some (CancelPending OldProvider, 10, 0) ∷ Some
    (Conflict, 130, 0) ∷ Some (Conflict, 130, 0) ∷ Some (Canceled, 1130, 0) ∷ []
unfolding next replay_of replay_step effect judge judged_for judged_version queue tests out
unchanged = refl

-- If it changes before the conflict begins, the conflict is judged by the new set. If it changes in
-- that minute or later, the conflict is judged by the first.
shortened_before : map (shortened_at 100) ((134 ∷ []) ∷ (135 ∷ []) ∷ (130 ∷ 134 ∷ 135 ∷ 2000 ∷ [])
    ∷ (2000 ∷ []) ∷ []) ≡ Some (Conflict, 130, 0) ∷ Some (Canceled, 135, 0) ∷ Some
    (Canceled, 135, 0) ∷ Some (Canceled, 135, 0) ∷ []
unfolding next replay_of replay_step effect judge judged_for judged_version queue tests out
shortened_before = refl

shortened_in_its_minute : map (shortened_at 130)
    ((1129 ∷ []) ∷ (1130 ∷ []) ∷ (1129 ∷ 1130 ∷ 2000 ∷ []) ∷ (2000 ∷ []) ∷ [])
    ≡ Some (Conflict, 130, 0) ∷ Some (Canceled, 1130, 0) ∷ Some (Canceled, 1130, 0) ∷ Some
    (Canceled, 1130, 0) ∷ []
unfolding next replay_of replay_step effect judge judged_for judged_version queue tests out
shortened_in_its_minute = refl

shortened_after : map (shortened_at 200) ((1129 ∷ []) ∷ (1130 ∷ []) ∷ (2000 ∷ []) ∷ [])
    ≡ Some (Conflict, 130, 0) ∷ Some (Canceled, 1130, 0) ∷ Some (Canceled, 1130, 0) ∷ []
unfolding next replay_of replay_step effect judge judged_for judged_version queue tests out
shortened_after = refl

-- ---- a later create leaves the set that the version holds

abbrev pub short_retention : Windows
short_retention = record w { pending_retention = 20 }

retained_by_the_first : map
    (λ m. standing (state_after start (does b (OldProviderCreate n b a 100 true) ∷ ClockMoment 50
    ∷ does
    npac (SetWindows short_retention) ∷ does a (NewProviderCreate n b a 100 2025440000 None)
    ∷ ClockMoment m ∷ [])) 1) (120 ∷ 599 ∷ 600 ∷ []) ≡ Some (Pending, 0, 0) ∷ Some (Pending, 0, 0)
    ∷ Some
    (Canceled, 600, 0) ∷ []
unfolding next replay_of replay_step effect judge judged_for judged_version queue tests out
retained_by_the_first = refl

-- ---- conflicts are restricted by the present set, and resolved by the set at the conflict

abbrev pub other_conflicts : Windows
other_conflicts = record w { conflict_restriction = 10; conflict_resolution = 20 }

restricted_by_the_present : map (λ m. refused_after start (both_creates 100 ++ ClockMoment 50 ∷ does
    npac
    (SetWindows other_conflicts) ∷ ClockMoment m ∷ []) (does b (OnVersion 1 PutInConflict)))
    (90 ∷ 91 ∷ []) ≡ None ∷ Some 19 ∷ []
unfolding next replay_of replay_step effect judge judged_for judged_version queue tests out
restricted_by_the_present = refl

resolved_by_the_first : map (λ m. refused_after start (both_creates 100 ++ ClockMoment 50 ∷ does b
    (OnVersion 1 PutInConflict) ∷ does npac (SetWindows other_conflicts) ∷ ClockMoment m ∷ [])
    (does a (OnVersion 1 RemoveFromConflict))) (169 ∷ 170 ∷ []) ≡ Some 20 ∷ None ∷ []
unfolding next replay_of replay_step effect judge judged_for judged_version queue tests out
resolved_by_the_first = refl

resolved_by_the_second : map (λ m. refused_after start (both_creates 100 ++ ClockMoment 50 ∷ does
    npac
    (SetWindows other_conflicts) ∷ does b (OnVersion 1 PutInConflict) ∷ ClockMoment m ∷ [])
    (does a (OnVersion 1 RemoveFromConflict))) (69 ∷ 70 ∷ []) ≡ Some 20 ∷ None ∷ []
unfolding next replay_of replay_step effect judge judged_for judged_version queue tests out
resolved_by_the_second = refl

-- ---- who may set windows, and how often

by_a_carrier : map (λ c. refusal start (does c (SetWindows w))) (a ∷ 7 ∷ npac ∷ []) ≡ Some 2 ∷ Some
    2 ∷ None ∷ []
unfolding next replay_of replay_step effect judge judged_for judged_version queue tests out
by_a_carrier = refl

-- The history with k more sets.
abbrev pub sets_more : ℕ → List Entry
sets_more zero = start.history
sets_more (suc k) = record {
  minute = 0;
  caller = npac;
  request = CommandRequest (SetWindows short_retention);
} ∷ sets_more k

a_thousand_sets : map (λ k. refusal (record start { history = sets_more k })
    (does npac (SetWindows w))) (998 ∷ 999 ∷ []) ≡ None ∷ Some 28 ∷ []
unfolding next replay_of replay_step effect judge judged_for judged_version queue tests out
a_thousand_sets = refl

-- The sets of a history by their numbers.
sets_by_number : map (λ k. option_map (λ set. set.windows.pending_retention)
    (set_of_number k w (sets_more 2))) (0 ∷ 1 ∷ 2 ∷ 3 ∷ 4 ∷ []) ≡ None ∷ Some 500 ∷ Some 20 ∷ Some
    20 ∷ None ∷ []
unfolding next replay_of replay_step effect judge judged_for judged_version queue tests out
sets_by_number = refl
