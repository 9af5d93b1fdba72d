-- If the deadline of every row is later than now, nothing is due.
use Rattle.std.proofs.Common.{◌≡◌, ℕ, zero, suc, ◌+◌, ◌-◌, ◌<◌, Bool, true, false, not, ◌&&◌, List, [], ◌∷◌, map, Option, Some, None, refl, ap, sym, ◌∙◌, subst}
use Rattle.std.specs.Prelude.{◌==◌, find, option_map, if◌then◌else◌}
use Rattle.std.specs.FinMap.{get}
use Rattle.std.specs.List.{AllByRecursion}
use Rattle.numbers.specs.Subjects.{Subject, subject_eq}
use Rattle.model.specs.Windows.{WindowSet}
use Rattle.model.specs.Versions.{Version, Record, in_force, version_with}
use Rattle.model.specs.Changes.{changed_at, retired}
use Rattle.model.specs.Judge.{is_expired, judged_version, judge, judged_for, caught_up}
use Rattle.model.specs.Laws.{IsQuiet}
use Rattle.model.specs.Due.{NoRowIsDue, NothingIsDue}
use Rattle.model.specs.State.{State, record_now, set_now}
use Rattle.model.specs.Conditions.{limit}
use Rattle.model.specs.Content.{Content, VersionRow, Represents, RowsMatch, row_of, of_subject, deadline}
use Rattle.model.proofs.Deadlines.{IsLeastBelow, least_below_is}
use Rattle.model.specs.Concerns.{has_id}
use Rattle.model.proofs.Lists.{everywhere, each}
pub use Rattle.model.proofs.Ids.{AreApart, given_apart}
use Rattle.model.proofs.Ids.{all_found, mapped-has_id, retired-id, retired-has_id, changed-has_id}
use Rattle.model.proofs.Settling.{caught_up-quiet}
use Rattle.model.proofs.Represented.{settled_shows}
use Rattle.model.proofs.Sound.{judged_version-id}
use Rattle.model.proofs.Entered.{given_now}

-- ---- ids without duplicates

mapped_apart : (f : Version → Version) → ((v : Version) → (f v).id ≡ v.id) → (vs : List Version)
    → AreApart (map f vs) → AreApart vs
mapped_apart f same [] apart = tt
mapped_apart f same (v ∷ vs) apart = (
  sym (mapped-has_id v.id f same vs) ∙ ap (λ k. has_id k (map f vs)) (sym (same v)) ∙ apart.0,
  mapped_apart f same vs apart.1,
)

changed_apart : (w : WindowSet) (minute : ℕ) (change : Version → Version)
    → ((v : Version) → (change v).id ≡ v.id) → (vs : List Version)
    → AreApart (changed_at w minute change vs) → AreApart vs
changed_apart w minute change same [] apart = tt
changed_apart w minute change same (v ∷ vs) apart =
    let b : Bool = not (in_force v) && in_force (change v) in (
      sym (retired-has_id w (not (in_force v) && in_force (change v)) minute v.id
          (changed_at w minute change vs) ∙ changed-has_id w minute v.id change vs
          (everywhere same vs))
          ∙ ap (λ k. has_id k (map (retired w (not (in_force v) && in_force (change v)) minute)
          (changed_at w minute change vs))) (sym (same v)) ∙ apart.0,
      changed_apart w minute change same vs
          (mapped_apart (retired w (not (in_force v) && in_force (change v)) minute)
          (retired-id w (not (in_force v) && in_force (change v)) minute)
          (changed_at w minute change vs) apart.1),
    )

judged_apart : (w : WindowSet) (from n : ℕ) (r : Record) → AreApart (judged_for w from n r).versions
    → AreApart r.versions
unfolding judged_for judge
judged_apart w from zero r apart = apart
judged_apart w from (suc n) r apart =
    judged_apart w from n r (changed_apart w (suc (from + n))
    (judged_version w (judged_for w from n r).carriers (suc (from + n)))
    (judged_version-id w (judged_for w from n r).carriers (suc (from + n)))
    (judged_for w from n r).versions apart)

pub caught_up_apart : (w : WindowSet) (now : ℕ) (r : Record) → AreApart (caught_up w now r).versions
    → AreApart r.versions
unfolding judge
caught_up_apart w now r apart =
    changed_apart w 0 (judged_version w r.carriers 0) (judged_version-id w r.carriers 0) r.versions
    (judged_apart w 0 (now - 0) (judge w 0 r) apart)

-- ---- deadlines

pub not_over : (now : ℕ) (v : Version) → now < limit → ((d : ℕ) → deadline v ≡ Some d → now < d)
    → is_expired now v v.status ≡ false
not_over now v before_limit later =
    by_cases (deadline v) refl (least_below_is (λ j. is_expired j v v.status) limit)
  where
    by_cases : (o : Option ℕ) → deadline v ≡ o
        → IsLeastBelow (λ j. is_expired j v v.status) limit (deadline v)
        → is_expired now v v.status ≡ false
    by_cases None e is = (subst (IsLeastBelow (λ j. is_expired j v v.status) limit) e is) now
        before_limit
    by_cases (Some d) e is = (subst (IsLeastBelow (λ j. is_expired j v v.status) limit) e is).2 now
        (later d e)

-- Versions with ids of their own are quiet if each, found by its id, has a timer that has not
-- expired.
pub quiet_each : (now : ℕ) (vs : List Version)
    → ((v : Version) → find (λ u. u.id == v.id) vs ≡ Some v → is_expired now v v.status ≡ false)
    → AreApart vs → IsQuiet now vs
quiet_each now vs step apart = by_cases vs (each step vs (all_found vs apart))
  where
    by_cases : (us : List Version) → AllByRecursion (λ v. is_expired now v v.status ≡ false) us
        → IsQuiet now us
    by_cases [] all = tt
    by_cases (u ∷ us) all = (all.0, by_cases us all.1)

pub the_row : (row x : VersionRow) → (b : Bool) → (if b then Some row else None) ≡ Some x
    → Some row ≡ Some x
the_row row x true e = e
the_row row x false e = cc

-- Each version of a record that the rows match has its row.
pub shown_row : (c : Content) (s : Subject) (r : Record) → RowsMatch c s r → (id : ℕ) (v : Version)
    → version_with id r ≡ Some v → get c.versions id ≡ Some (row_of s v)
shown_row c s r shows id v found =
    by_cases (get c.versions id) refl (shows.versions id ∙ ap (option_map (row_of s)) found)
  where
    by_cases : (o : Option VersionRow) → get c.versions id ≡ o
        → of_subject s (λ (x : VersionRow). x.subject) (get c.versions id) ≡ Some (row_of s v)
        → o ≡ Some (row_of s v)
    by_cases None e seen = let never : None ≡ Some (row_of s v) =
        sym (ap (of_subject s (λ (x : VersionRow). x.subject)) e) ∙ seen in cc
    by_cases (Some row) e seen =
        the_row row (row_of s v) (subject_eq row.subject s)
        (sym (ap (of_subject s (λ (x : VersionRow). x.subject)) e) ∙ seen)

-- The versions of the record that rows match have ids of their own.
pub kept_apart : (st : State) (c : Content) → (rep : Represents c st) → (s : Subject)
    → AreApart (rep.subjects s).kept.versions
kept_apart st c rep s = caught_up_apart (set_now st) st.now (rep.subjects s).kept
    (subst (λ (r : Record). AreApart r.versions) (sym (rep.subjects s).catches_up)
    (given_apart _ s (record_now st s).versions (given_now st rep.history s)))

-- If that record is quiet, the record as it is now is quiet too.
pub kept_quiet : (st : State) (c : Content) → (rep : Represents c st) → (s : Subject)
    → IsQuiet st.now (rep.subjects s).kept.versions → IsQuiet st.now (record_now st s).versions
kept_quiet st c rep s quiet =
    subst (λ (r : Record). IsQuiet st.now r.versions)
    (sym (caught_up-quiet (set_now st) st.now (rep.subjects s).kept quiet)
    ∙ (rep.subjects s).catches_up) quiet

-- If the deadline of every row is later than now, the rows match each subject's record as it is
-- now.
pub nothing_is_due : (st : State) (c : Content) → Represents c st → NoRowIsDue c st.now
    → NothingIsDue c st
nothing_is_due st c rep none = record {
  rows_match = λ s. settled_shows st.windows (set_now st) c st.now s (record_now st s)
      (rep.subjects s)
      (quiet s);
  quiet = λ s. kept_quiet st c rep s (quiet s);
}
  where
    quiet : (s : Subject) → IsQuiet st.now (rep.subjects s).kept.versions
    quiet s = quiet_each st.now (rep.subjects s).kept.versions
        (λ v found. not_over st.now v rep.before_limit (λ d is. none v.id (row_of s v)
        (shown_row c s (rep.subjects s).kept (rep.subjects s).rows_match v.id v found) d is))
        (kept_apart st c rep s)
