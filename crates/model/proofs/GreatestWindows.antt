-- Worked examples of the greatest windows, at their last minute and the one before it. Judging
-- every minute would take too long, so each example judges one.
use Rattle.std.specs.Prelude.{ℕ, [], ◌∷◌, map, Some, ◌≡◌, refl}
use Rattle.model.specs.Statuses.{Status, Pending, Conflict, CancelPending, Sending, Active, Failed, DisconnectPending, Canceled}
use Rattle.model.specs.Statuses.{Create, Delete}
use Rattle.model.specs.declared.words.Side.TheVariants.{OldProvider, NewProvider}
use Rattle.model.specs.Windows.{Windows, first_set}
use Rattle.model.specs.Versions.{Version}
use Rattle.model.specs.Judge.{judged_version}
use Rattle.model.specs.History.{blank_version}

abbrev pub greatest : Windows
greatest = record {
  initial_concurrence = 525600;
  final_concurrence = 525600;
  conflict_restriction = 525600;
  conflict_resolution = 525600;
  conflict_expiration = 525600;
  cancellation_initial = 525600;
  cancellation_final = 525600;
  pending_retention = 525600;
  broadcast = 525600;
}

abbrev pub at : ℕ → (Version → Version) → Status
at j f = (judged_version (first_set greatest) [] j
    (f (blank_version (first_set greatest) 1 7 8 100 50))).status

abbrev pub in_status : Status → Version → Version
in_status s v = record v { status = s }

one_create : map (λ j. at j (λ v. record v { old_at = Some 50 })) (1051249 ∷ 1051250 ∷ [])
    ≡ Pending ∷ Canceled ∷ []
unfolding judged_version
one_create = refl

retained : map (λ j. at j (λ v. record v { new_at = Some 60 })) (525699 ∷ 525700 ∷ [])
    ≡ Pending ∷ Canceled ∷ []
unfolding judged_version
retained = refl

expires : map (λ j. at j (in_status Conflict)) (525649 ∷ 525650 ∷ []) ≡ Conflict ∷ Canceled ∷ []
unfolding judged_version
expires = refl

cancelled : map (λ j. at j (in_status (CancelPending OldProvider))) (1051249 ∷ 1051250 ∷ [])
    ≡ CancelPending OldProvider ∷ Conflict ∷ []
unfolding judged_version
cancelled = refl

cancelled_by_new : map (λ j. at j (in_status (CancelPending NewProvider))) (1051249 ∷ 1051250 ∷ [])
    ≡ CancelPending NewProvider ∷ Canceled ∷ []
unfolding judged_version
cancelled_by_new = refl

sends : map (λ j. at j (in_status (Sending Create))) (525649 ∷ 525650 ∷ []) ≡ Sending Create
    ∷ Failed ∷ []
unfolding judged_version
sends = refl

deletes : map (λ j. at j (in_status (Sending Delete))) (525649 ∷ 525650 ∷ []) ≡ Sending Delete
    ∷ Active ∷ []
unfolding judged_version
deletes = refl

released : map (λ j. at j (in_status (DisconnectPending 1000000))) (999999 ∷ 1000000 ∷ [])
    ≡ DisconnectPending 1000000 ∷ Sending Delete ∷ []
unfolding judged_version
released = refl

-- Before it begins, a status has no age.
unborn : map (λ j. at j (in_status Conflict)) (0 ∷ 49 ∷ []) ≡ Conflict ∷ Conflict ∷ []
unfolding judged_version
unborn = refl
