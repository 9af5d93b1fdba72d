-- The lists of the definitions ascend by subject, without duplicates.
use Rattle.std.proofs.Common.{◌≡◌, ℕ, ◌≤◌, inl, inr, Bool, true, false, List, [], ◌∷◌, length, map, Some, refl, ap, sym, ◌∙◌, arith}
use Rattle.std.specs.Prelude.{nat_lt, filter, if◌then◌else◌}
use Rattle.std.proofs.lemmas.Bool.Decides.{nat_tests}
use Rattle.numbers.specs.Subjects.{Subject, subject_eq, subject_key, subject_lt}
use Rattle.numbers.proofs.SubjectKeys.{subject_key-exact}
use Rattle.model.specs.Versions.{Version, in_force, version_with, version_in_force}
use Rattle.model.specs.State.{State, InForce, record_now, all_in_force, made_now}
use Rattle.model.specs.Machine.{with_subject, distinct_subjects}
use Rattle.model.specs.Laws.{IsReachable, AllAbove, AreSubjectsSorted, IsRowInForce, InForceIsListed, SubjectsAreDistinct}
use Rattle.numbers.proofs.Small.{true-false, is_less, less_is}
use Rattle.model.proofs.Lists.{Among, filtered-to, found-among, found-there, contained, contains-among, all_of}
use Rattle.model.proofs.Ids.{same_subject, found_given}
use Rattle.model.proofs.Entered.{subject_eq-refl, given_now}
use Rattle.model.proofs.Shown.{id_found}
use Rattle.model.proofs.Orderly.{no_two_active}
use Rattle.model.proofs.Ascending as ascending
use Rattle.model.proofs.InForceRows.{AreAbove, Rise, listed-row, row-listed, listed-rise}
use Rattle.model.proofs.Copies.Queue.{found_by_id}

-- ---- what is in force

one_only : {A : Type 0} (xs : List A) (a b : A) → length xs ≤ 1 → Among a xs → Among b xs → a ≡ b
one_only [] a b most is there = absurd is
one_only (x ∷ []) a b most (inl e) (inl f) = e ∙ sym f
one_only (x ∷ []) a b most (inr is) there = absurd is
one_only (x ∷ []) a b most (inl e) (inr there) = absurd there
one_only (x ∷ y ∷ ys) a b most is there = absurd (omega (arith, most))

subjects_above : (s : Subject) (rows : List InForce) → AreAbove (subject_key s) rows
    → AllAbove s (map (λ (r : InForce). r.subject) rows)
subjects_above s [] above = tt
subjects_above s (r ∷ rs) above = (
  is_less (subject_key s) (subject_key r.subject) above.0,
  subjects_above s rs above.1,
)

subjects_rise : (rows : List InForce) → Rise rows
    → AreSubjectsSorted (map (λ (r : InForce). r.subject) rows)
subjects_rise [] rise = tt
subjects_rise (r ∷ rs) rise = (subjects_above r.subject rs rise.0, subjects_rise rs rise.1)

module _ (st : State) (is : IsReachable st) where
  one_in_force : (s : Subject) (v u : Version) → Among v (record_now st s).versions
      → Among u (record_now st s).versions → in_force v ≡ true → in_force u ≡ true → v ≡ u
  one_in_force s v u there also force forces =
      one_only (filter in_force (record_now st s).versions) v u (no_two_active st is s).one_in_force
      (filtered-to in_force (record_now st s).versions v there force)
      (filtered-to in_force (record_now st s).versions u also forces)

  -- A version of a record that is in force is the one that is found.
  pub is_in_force : (s : Subject) (v : Version) → Among v (record_now st s).versions
      → in_force v ≡ true → version_in_force (record_now st s) ≡ Some v
  is_in_force s v there force =
      let found = found-there in_force (record_now st s).versions v there force in
      let other = found-among in_force (record_now st s).versions found.0 found.1 in
      found.1 ∙ ap (λ u. Some u) (one_in_force s found.0 v other.0 there other.1 force)

  among_id : (s : Subject) (id : ℕ) (v : Version) → version_with id (record_now st s) ≡ Some v
      → Among v (record_now st s).versions
  among_id s id v found = (found-among _ (record_now st s).versions v found).0

  alone : (s : Subject) (id other : ℕ) (v u : Version) → version_with id (record_now st s) ≡ Some v
      → version_with other (record_now st s) ≡ Some u → in_force v ≡ true → in_force u ≡ true
      → id ≡ other
  alone s id other v u found also force forces =
      sym (id_found id (record_now st s).versions v found) ∙ ap (λ (x : Version). x.id)
      (one_in_force s v u (among_id s id v found) (among_id s other u also) force forces)
      ∙ id_found other (record_now st s).versions u also

  pub rows_rise : Rise (all_in_force st)
  rows_rise = listed-rise (record_now st) 1 (made_now st) alone

  -- A row is that of its subject's version in force.
  pub row_is : (r : InForce) → Among r (all_in_force st) → IsRowInForce st r
  row_is r there =
      let row = listed-row (record_now st) 1 (made_now st) r there in
      let stands : version_in_force (record_now st row.e.subject) ≡ Some row.e.version =
      is_in_force row.e.subject row.e.version (among_id row.e.subject row.id row.e.version
      row.is.found) row.force in
      record {
        version = row.e.version;
        stands = ap (λ (x : InForce). version_in_force (record_now st x.subject)) row.row ∙ stands;
        routing = ap (λ (x : InForce). x.routing) row.row;
      }

  -- Each version in force has its row.
  pub row_there : (s : Subject) (v : Version) → version_in_force (record_now st s) ≡ Some v
      → Among (let r : InForce = record { subject = s; routing = v.routing } in r) (all_in_force st)
  row_there s v stands =
      let among = found-among in_force (record_now st s).versions v stands in
      let found : version_with v.id (record_now st s) ≡ Some v =
      found_by_id st is.history s v among.0 in
      row-listed (record_now st) 1 (made_now st) (record {
        subject = s;
        version =
            v;
      }) v.id
      (found_given (made_now st) s v.id (record_now st s).versions v
      (given_now st is.history s) found) found among.1

pub force_is_listed : InForceIsListed
force_is_listed st is = (
  subjects_rise (all_in_force st) (rows_rise st is),
  all_of (IsRowInForce st) (all_in_force st) (row_is st is),
  (λ s v stands. contained (all_in_force st) (record { subject = s; routing = v.routing })
      (row_there st is s v stands)),
)

-- ---- subjects without duplicates

lt_trans : (a b c : ℕ) → nat_lt a b ≡ true → nat_lt b c ≡ true → nat_lt a c ≡ true
lt_trans a b c p q = grind (arith, nat_tests)

lt_or : (a b : ℕ) → nat_lt a b ≡ false → (a ≡ b → ⊥) → nat_lt b a ≡ true
lt_or a b p differs = by_cases (nat_lt b a) refl
  where
    by_cases : (t : Bool) → nat_lt b a ≡ t → t ≡ true
    by_cases true e = refl
    by_cases false e = let same : a ≡ b = grind (arith, nat_tests) in absurd (differs same)

above_more : (s t : Subject) (ts : List Subject) → subject_lt s t ≡ true → AllAbove t ts
    → AllAbove s ts
above_more s t [] less all = tt
above_more s t (u ∷ us) less all = (
  lt_trans (subject_key s) (subject_key t) (subject_key u) less all.0,
  above_more s t us less all.1,
)

above_with : (a s : Subject) (ts : List Subject) → subject_lt a s ≡ true → AllAbove a ts
    → AllAbove a (with_subject s ts)
above_with a s [] less all = (less, tt)
above_with a s (t ∷ ts) less all =
    by_cases (above_with a s ts less all.1) (subject_lt s t) (subject_eq s t)
  where
    by_cases : AllAbove a (with_subject s ts) → (b c : Bool) → AllAbove a (if b then s ∷ t ∷ ts
        else (if c then t ∷ ts else t ∷ with_subject s ts))
    by_cases later true c = (less, all)
    by_cases later false true = all
    by_cases later false false = (all.0, later)

with-rises : (s : Subject) (ts : List Subject) → AreSubjectsSorted ts
    → AreSubjectsSorted (with_subject s ts)
with-rises s [] rise = (tt, tt)
with-rises s (t ∷ ts) rise =
    by_cases (with-rises s ts rise.1) (subject_lt s t) refl (subject_eq s t) refl
  where
    apart : subject_eq s t ≡ false → subject_key s ≡ subject_key t → ⊥
    apart e same = true-false (subject_eq s t) (ap (subject_eq s) (sym (subject_key-exact s t same))
        ∙ subject_eq-refl s) e

    by_cases : AreSubjectsSorted (with_subject s ts) → (b : Bool) → subject_lt s t ≡ b → (c : Bool)
        → subject_eq s t ≡ c → AreSubjectsSorted (if b then s ∷ t ∷ ts
        else (if c then t ∷ ts else t ∷ with_subject s ts))
    by_cases later true less c e = ((less, above_more s t ts less rise.0), rise)
    by_cases later false less true e = rise
    by_cases later false less false e = (
      above_with t s ts (lt_or (subject_key s) (subject_key t) less (apart e)) rise.0,
      later,
    )

with-from : (s : Subject) (ts : List Subject) (x : Subject) → Among x (with_subject s ts)
    → Among x (s ∷ ts)
with-from s [] x is = is
with-from s (t ∷ ts) x is =
    by_cases (λ there. with-from s ts x there) (subject_lt s t) (subject_eq s t)
    is
  where
    past : Among x (s ∷ ts) → Among x (s ∷ t ∷ ts)
    past (inl e) = inl e
    past (inr there) = inr (inr there)

    by_cases : (Among x (with_subject s ts) → Among x (s ∷ ts)) → (b c : Bool)
        → Among x (if b then s ∷ t ∷ ts else (if c then t ∷ ts else t ∷ with_subject s ts))
        → Among x (s ∷ t ∷ ts)
    by_cases later true c there = there
    by_cases later false true there = inr there
    by_cases later false false (inl e) = inr (inl e)
    by_cases later false false (inr there) = past (later there)

with-to : (s : Subject) (ts : List Subject) (x : Subject) → Among x (s ∷ ts)
    → Among x (with_subject s ts)
with-to s [] x is = is
with-to s (t ∷ ts) x is = by_cases (λ there. with-to s ts x there) (subject_lt s t) (subject_eq s t)
    refl
    is
  where
    by_cases : (Among x (s ∷ ts) → Among x (with_subject s ts)) → (b c : Bool) → subject_eq s t ≡ c
        → Among x (s ∷ t ∷ ts) → Among x (if b then s ∷ t ∷ ts
        else (if c then t ∷ ts else t ∷ with_subject s ts))
    by_cases later true c e there = there
    by_cases later false true e (inl f) = inl (f ∙ sym (same_subject s t e))
    by_cases later false true e (inr there) = there
    by_cases later false false e (inl f) = inr (later (inl f))
    by_cases later false false e (inr (inl f)) = inl f
    by_cases later false false e (inr (inr there)) = inr (later (inr there))

once-rises : (ss : List Subject) → AreSubjectsSorted (distinct_subjects ss)
once-rises [] = tt
once-rises (s ∷ ss) = with-rises s (distinct_subjects ss) (once-rises ss)

once-from : (ss : List Subject) (x : Subject) → Among x (distinct_subjects ss) → Among x ss
once-from [] x is = is
once-from (s ∷ ss) x is =
    by_cases (λ there. once-from ss x there) (with-from s (distinct_subjects ss) x is)
  where
    by_cases : (Among x (distinct_subjects ss) → Among x ss) → Among x (s ∷ distinct_subjects ss)
        → Among x (s ∷ ss)
    by_cases later (inl e) = inl e
    by_cases later (inr there) = inr (later there)

once-to : (ss : List Subject) (x : Subject) → Among x ss → Among x (distinct_subjects ss)
once-to [] x is = is
once-to (s ∷ ss) x (inl e) = with-to s (distinct_subjects ss) x (inl e)
once-to (s ∷ ss) x (inr is) = with-to s (distinct_subjects ss) x (inr (once-to ss x is))

-- Subjects that ascend do so by their keys.
pub subjects-ascend : (ss : List Subject) → AreSubjectsSorted ss → ascending.Rise subject_key ss
subjects-ascend [] rise = tt
subjects-ascend (s ∷ ss) rise = (above ss rise.0, subjects-ascend ss rise.1)
  where
    above : (ts : List Subject) → AllAbove s ts → ascending.AreAbove subject_key (subject_key s) ts
    above [] all = tt
    above (t ∷ ts) all = (less_is (subject_key s) (subject_key t) all.0, above ts all.1)

pub each_is_once : SubjectsAreDistinct
each_is_once ss = (
  once-rises ss,
  (λ s. (
    (λ there. contained ss s (once-from ss s (contains-among (distinct_subjects ss) s there))),
    (λ there. contained (distinct_subjects ss) s (once-to ss s (contains-among ss s there))),
  )),
)
