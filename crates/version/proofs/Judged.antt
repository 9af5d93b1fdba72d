-- At the end of a version's status, the code's version is the model's judged one.
use Rattle.std.proofs.Common.{◌≡◌, ℕ, Bool, true, if◌then◌else◌, List, [], ◌∷◌, refl, ap, sym, subst, ◌∙◌}
use Rattle.model.specs.Abstraction.{status_of}
use Rattle.model.specs.Statuses.{Status, Pending, Conflict, CancelPending, Sending, Active, PartialFailure, Failed, DisconnectPending, Old, Canceled}
use Rattle.model.specs.Windows.{WindowSet}
use Rattle.model.specs.Versions.{Broadcast, Version}
use Rattle.model.specs.Changes.{closed_with, outcome_at_end}
use Rattle.model.specs.Content.{is_nonempty}
use Rattle.model.specs.Judge.{version_on_expiry, is_expired, judged_version}
use Rattle.version.specs.declared.version.Version.{Version as VersionImpl}
use Rattle.version.specs.Firing.{fired, outcome_by, is_newest_acknowledged, IsJudged}
use Rattle.version.specs.Abstraction.{version_of, HasModel, Becomes}

-- The flag decides the outcome of the newest broadcast at the end of its window.
pub outcome_seen : (bs : List Broadcast)
    → outcome_at_end bs ≡ outcome_by (is_newest_acknowledged bs)
outcome_seen [] = refl
outcome_seen (b ∷ bs) = by_cases b.acknowledged
  where
    by_cases : (cs : List ℕ) → outcome_at_end (record b { acknowledged = cs } ∷ bs)
        ≡ outcome_by (is_nonempty cs)
    by_cases [] = refl
    by_cases (c ∷ cs) = refl

-- An expired status ends as `fired` says.
pub ended_fired : (w : WindowSet) (all_carriers : List ℕ) (minute : ℕ) (v : Version)
    (status : Status)
    → version_on_expiry w all_carriers minute v status
    ≡ fired w (is_newest_acknowledged v.broadcasts) all_carriers
    minute status v
ended_fired w all_carriers minute v Pending = refl
ended_fired w all_carriers minute v Conflict = refl
ended_fired w all_carriers minute v (CancelPending by) = refl
ended_fired w all_carriers minute v (Sending action) =
    ap (λ o. closed_with w action o minute v) (outcome_seen v.broadcasts)
ended_fired w all_carriers minute v Active = refl
ended_fired w all_carriers minute v PartialFailure = refl
ended_fired w all_carriers minute v Failed = refl
ended_fired w all_carriers minute v (DisconnectPending release) = refl
ended_fired w all_carriers minute v Old = refl
ended_fired w all_carriers minute v Canceled = refl

-- If the minute ends the status, judging is that end.
judged_ends : (w : WindowSet) (all_carriers : List ℕ) (minute : ℕ) (v : Version)
    → is_expired minute v v.status ≡ true → judged_version w all_carriers minute v
    ≡ version_on_expiry w all_carriers
    minute v v.status
unfolding judged_version
judged_ends w all_carriers minute v over =
    ap (λ b. if b then version_on_expiry w all_carriers minute v v.status
    else v) over

pub judged_by : (w : WindowSet) (any : Bool) (minute : ℕ) (v u : VersionImpl)
    → ((all_carriers : List ℕ) → Becomes (fired w any all_carriers minute (status_of v.status)) v u)
    → IsJudged w any minute v u
judged_by w any minute v u becomes = record {
  subject = (becomes []).subject;
  version = λ all_carriers id broadcasts windows acknowledged over.
      let seen : Version = version_of id broadcasts windows v in
      let is_judged : judged_version w all_carriers minute seen ≡ fired w any all_carriers minute
      (status_of v.status) seen =
      judged_ends w all_carriers minute seen over ∙ ended_fired w all_carriers minute seen
      (status_of v.status) ∙ ap (λ b. fired w b all_carriers minute (status_of v.status) seen)
      acknowledged in
      subst (λ (x : Version). HasModel u x) (sym is_judged) ((becomes all_carriers).version id
      broadcasts
      windows);
}
