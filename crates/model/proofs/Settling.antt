-- After a minute is judged, no timer has expired at it, so a version may be judged only at its
-- deadline.
use Rattle.std.proofs.Common.{◌≡◌, ℕ, zero, suc, ◌≤◌, ◌<◌, Bool, true, false, not, ◌&&◌, List, [], ◌∷◌, map, refl, ap, sym, ◌∙◌, arith}
use Rattle.std.specs.Prelude.{if◌then◌else◌}
use Rattle.std.proofs.lemmas.Bool.Decides.{nat_tests}
use Rattle.model.specs.Statuses.{Send}
use Rattle.model.specs.Statuses.{Create, Delete, Modify}
use Rattle.model.specs.Statuses.{Status, Pending, Conflict, CancelPending, Sending, DisconnectPending, Old}
use Rattle.model.specs.declared.words.Side.TheVariants.{OldProvider, NewProvider}
use Rattle.model.specs.Windows.{AreWindows, has_age, WindowSet}
use Rattle.model.specs.Versions.{Broadcast, Version, Record, in_force}
use Rattle.model.specs.Changes.{with_status, changed_at, retired, outcome_at_end, status_after, closed_with}
use Rattle.model.specs.Judge.{is_expired, version_on_expiry, judged_version, judge, judged, caught_up}
use Rattle.model.specs.Laws.{IsQuiet}
use Rattle.model.proofs.Minutes.{judged-trans, judged-quiet, judged-at_end, judge-quiet, IsQuiet-before}

-- A window that has just begun has not ended.
pub newborn : (window j : ℕ) → 1 ≤ window → has_age window j j ≡ false
newborn window j positive = grind (arith, nat_tests)

closed_is_quiet : (j : ℕ) (v : Version) (action : Send) (bs : List Broadcast)
    → is_expired j v (status_after action (outcome_at_end bs)) ≡ false
closed_is_quiet j v Create [] = refl
closed_is_quiet j v Delete [] = refl
closed_is_quiet j v (Modify routing) [] = refl
closed_is_quiet j v Create (b ∷ bs) = by_cases b.acknowledged
  where
    by_cases : (cs : List ℕ)
        → is_expired j v (status_after Create (outcome_at_end (record b {
          acknowledged =
              cs;
        } ∷ bs)))
        ≡ false
    by_cases [] = refl
    by_cases (c ∷ cs) = refl
closed_is_quiet j v Delete (b ∷ bs) = by_cases b.acknowledged
  where
    by_cases : (cs : List ℕ)
        → is_expired j v (status_after Delete (outcome_at_end (record b {
          acknowledged =
              cs;
        } ∷ bs)))
        ≡ false
    by_cases [] = refl
    by_cases (c ∷ cs) = refl
closed_is_quiet j v (Modify routing) (b ∷ bs) = by_cases b.acknowledged
  where
    by_cases : (cs : List ℕ)
        → is_expired j v (status_after (Modify routing) (outcome_at_end (record b {
          acknowledged =
              cs;
        } ∷ bs))) ≡ false
    by_cases [] = refl
    by_cases (c ∷ cs) = refl

-- The status that another one ends in does not end at the same minute.
ended_is_quiet : (w : WindowSet) → AreWindows w.windows
    → (all_carriers : List ℕ) (j : ℕ) (v : Version) (status : Status) → is_expired j v status ≡ true
    →
    is_expired j (version_on_expiry w all_carriers j v status) (version_on_expiry w all_carriers j v
    status).status ≡ false
ended_is_quiet w windows all_carriers j v Pending over = refl
ended_is_quiet w windows all_carriers j v Conflict over = refl
ended_is_quiet w windows all_carriers j v (CancelPending OldProvider) over =
    newborn w.windows.conflict_expiration j windows.conflict_expiration
ended_is_quiet w windows all_carriers j v (CancelPending NewProvider) over = refl
ended_is_quiet w windows all_carriers j v (DisconnectPending release) over =
    newborn w.windows.broadcast j windows.broadcast
ended_is_quiet w windows all_carriers j v (Sending action) over =
    closed_is_quiet j (closed_with w action (outcome_at_end v.broadcasts) j v) action v.broadcasts
ended_is_quiet w windows all_carriers j v _ over = cc

judged_version-is_quiet : (w : WindowSet) → AreWindows w.windows
    → (all_carriers : List ℕ) (j : ℕ) (v : Version) →
    is_expired j (judged_version w all_carriers j v) (judged_version w all_carriers j v).status
    ≡ false
unfolding judged_version
judged_version-is_quiet w windows all_carriers j v = by_cases (is_expired j v v.status) refl
  where
    by_cases : (b : Bool) → is_expired j v v.status ≡ b →
        is_expired j (if b then version_on_expiry w all_carriers j v v.status else v) (if b
        then version_on_expiry w all_carriers j v v.status else v).status ≡ false
    by_cases true e = ended_is_quiet w windows all_carriers j v v.status e
    by_cases false e = e

pub retired_is_quiet : (w : WindowSet) (j : ℕ) (b : Bool) (vs : List Version) → IsQuiet j vs
    → IsQuiet j (map (retired w b j) vs)
retired_is_quiet w j b [] quiet = tt
retired_is_quiet w j b (v ∷ vs) quiet =
    (by_cases (b && in_force v), retired_is_quiet w j b vs quiet.1)
  where
    by_cases : (c : Bool) → is_expired j (if c then with_status w Old j v else v) (if c
        then with_status w Old j v
        else v).status ≡ false
    by_cases true = refl
    by_cases false = quiet.0

pub changed_at-is_quiet : (w : WindowSet) (j : ℕ) (change : Version → Version)
    → ((v : Version) → is_expired j (change v) (change v).status ≡ false) →
    (vs : List Version) → IsQuiet j (changed_at w j change vs)
changed_at-is_quiet w j change each [] = tt
changed_at-is_quiet w j change each (v ∷ vs) = (
  each v,
  retired_is_quiet w j (not (in_force v) && in_force (change v)) (changed_at w j change vs)
      (changed_at-is_quiet w j change each vs),
)

-- After a minute is judged, no timer has expired at it.
pub judge-is_quiet : (w : WindowSet) → AreWindows w.windows → (j : ℕ) (r : Record)
    → IsQuiet j (judge w j r).versions
unfolding judge
judge-is_quiet w windows j r =
    changed_at-is_quiet w j (judged_version w r.carriers j) (judged_version-is_quiet w windows
    r.carriers j) r.versions

-- If no timer expires before d, judging only d first does not change the record of a later minute.
pub judge-at_deadline : (w : WindowSet) → AreWindows w.windows → (d now : ℕ) (r : Record)
    → suc d ≤ now → IsQuiet d r.versions →
    judged w 0 now (judge w (suc d) r) ≡ judged w 0 now r
judge-at_deadline w windows d now r before quiet =
    sym (judged-trans w 0 (suc d) now (judge w (suc d) r) (omega arith) before)
    ∙ ap (judged w (suc d) now) (judged-quiet w 0 (suc d) (judge w (suc d) r) (omega arith)
    (judge-is_quiet w windows (suc d) r)
    ∙ sym (judged-at_end w 0 d r (omega arith) quiet))
    ∙ judged-trans w 0 (suc d) now r (omega arith) before

-- Judging a minute twice is judging it once.
judge-twice : (w : WindowSet) → AreWindows w.windows → (j : ℕ) (r : Record)
    → judge w j (judge w j r) ≡ judge w j r
judge-twice w windows j r = judge-quiet w j (judge w j r) (judge-is_quiet w windows j r)

-- The same, with minute 0 among those that are judged.
pub fired_at_deadline : (w : WindowSet) → AreWindows w.windows → (d now : ℕ) (r : Record) → d ≤ now
    → ((j : ℕ) → j < d → IsQuiet j r.versions) →
    caught_up w now (judge w d r) ≡ caught_up w now r
fired_at_deadline w windows zero now r before quiet =
    ap (judged w 0 now) (judge-twice w windows 0 r)
fired_at_deadline w windows (suc d) now r before quiet =
    let still : IsQuiet d r.versions = quiet d (omega arith) in
    ap (judged w 0 now) (judge-quiet w 0 (judge w (suc d) r)
    (IsQuiet-before 0 (suc d) (judge w (suc d) r).versions (omega arith)
    (judge-is_quiet w windows (suc d) r)))
    ∙ judge-at_deadline w windows d now r before still
    ∙ ap (judged w 0 now)
    (sym (judge-quiet w 0 r (IsQuiet-before 0 d r.versions (omega arith) still)))

-- If no timer has expired now, none had before.
pub caught_up-quiet : (w : WindowSet) (now : ℕ) (r : Record) → IsQuiet now r.versions
    → caught_up w now r ≡ r
caught_up-quiet w now r quiet =
    ap (judged w 0 now) (judge-quiet w 0 r (IsQuiet-before 0 now r.versions (omega arith) quiet))
    ∙ judged-quiet w 0 now r (omega arith) quiet
