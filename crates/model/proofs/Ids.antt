-- An id belongs to one version of one subject.
use Rattle.std.proofs.Common.{◌≡◌, ℕ, suc, ◌+◌, ◌≤◌, Bool, true, false, cond, not, ◌&&◌, ◌||◌, List, [], ◌∷◌, ◌++◌, map, length, Some, None, refl, ap, sym, ◌∙◌, subst, arith}
use Rattle.std.specs.Prelude.{◌==◌, ⊤, if◌then◌else◌, find, option_map, option_and_then}
use Rattle.std.proofs.lemmas.Bool.Decides.{nat_tests}
use Rattle.std.specs.List.{AllByRecursion}
use Rattle.numbers.specs.Subjects.{subject_eq, Subject, Number, Block}
use Rattle.model.specs.Statuses.{Old}
use Rattle.model.specs.Versions.{Version, in_force, version_with}
use Rattle.model.specs.Changes.{changed_at, retired, with_status, of_id}
use Rattle.model.specs.History.{id_among, subject_of_id, next_after}
use Rattle.model.specs.State.{State, record_now, version_of_id, made_now}
use Rattle.model.specs.Concerns.{has_id}
use Rattle.model.proofs.Lists.{each}
use Rattle.numbers.proofs.Small.{some_is, equal_number, numbers_turned}
use Rattle.model.proofs.Minutes.{LeavesEach}
use Rattle.model.proofs.Unique.{StatusRespects, StatusesRespect, keeps}
use Rattle.model.specs.Windows.{WindowSet}

pub same_subject : (s t : Subject) → subject_eq s t ≡ true → t ≡ s
same_subject (Number n) (Number m) e = ap (λ k. Number k) (sym (equal_number n m e))
same_subject (Block b) (Block c) e = ap (λ k. Block k) (sym (equal_number b c e))
same_subject (Number n) (Block c) e = cc
same_subject (Block b) (Number m) e = cc

pub subjects_turned : (s t : Subject) → subject_eq s t ≡ subject_eq t s
subjects_turned (Number n) (Number m) = numbers_turned n m
subjects_turned (Block b) (Block c) = numbers_turned b c
subjects_turned (Number n) (Block c) = refl
subjects_turned (Block b) (Number m) = refl

pub other_subject : (s t : Subject) → subject_eq s t ≡ false → subject_eq t s ≡ false
other_subject s t apart = subjects_turned t s ∙ apart

-- ---- the subject of an id

pub given-append : (id from : ℕ) (xs ys : List Subject) (s : Subject)
    → subject_of_id id from xs ≡ Some s → subject_of_id id from (xs ++ ys) ≡ Some s
given-append id from [] ys s given = cc
given-append id from (x ∷ xs) ys s given =
    by_cases (λ e. given-append id (suc from) xs ys s e) (id == from) given
  where
    by_cases : (subject_of_id id (suc from) xs ≡ Some s → subject_of_id id (suc from) (xs ++ ys)
        ≡ Some s)
        → (b : Bool) → (if b then Some x else subject_of_id id (suc from) xs) ≡ Some s
        → (if b then Some x else subject_of_id id (suc from) (xs ++ ys)) ≡ Some s
    by_cases later true e = e
    by_cases later false e = later e

-- No id past the last was given.
pub not_given : (id from : ℕ) (xs : List Subject) → from + length xs ≤ id
    → subject_of_id id from xs ≡ None
not_given id from [] past = refl
not_given id from (x ∷ xs) past =
    let apart : (id == from) ≡ false = grind (arith, nat_tests) in
    ap (λ b. if b then Some x else subject_of_id id (suc from) xs) apart
    ∙ not_given id (suc from) xs (omega arith)

pub given-after : (id from : ℕ) (xs ys : List Subject) → from + length xs ≤ id
    → subject_of_id id from (xs ++ ys) ≡ subject_of_id id (from + length xs) ys
given-after id from [] ys past = ap (λ k. subject_of_id id k ys) (omega arith)
given-after id from (x ∷ xs) ys past =
    let apart : (id == from) ≡ false = grind (arith, nat_tests) in
    ap (λ b. if b then Some x else subject_of_id id (suc from) (xs ++ ys)) apart
    ∙ given-after id (suc from) xs ys (omega arith)
    ∙ ap (λ k. subject_of_id id k ys) (omega arith)

-- The id that s gets among the new ones is not below the first, and belongs to s.
pub id_among-from : (s : Subject) (from id : ℕ) (xs : List Subject) → id_among s from xs ≡ Some id
    → from ≤ id
id_among-from s from id [] e = cc
id_among-from s from id (x ∷ xs) e =
    by_cases (λ f. id_among-from s (suc from) id xs f) (subject_eq s x) e
  where
    by_cases : (id_among s (suc from) xs ≡ Some id → suc from ≤ id) → (b : Bool)
        → (if b then Some from else id_among s (suc from) xs) ≡ Some id → from ≤ id
    by_cases later true f = let k : from ≡ id = some_is from id f in omega arith
    by_cases later false f = let k : suc from ≤ id = later f in omega arith

pub id_among-given : (s : Subject) (from id : ℕ) (xs : List Subject) → id_among s from xs ≡ Some id
    → subject_of_id id from xs ≡ Some s
id_among-given s from id [] e = cc
id_among-given s from id (x ∷ xs) e =
    by_cases (λ g. id_among-given s (suc from) id xs g) (subject_eq s x) refl e
  where
    by_cases : (id_among s (suc from) xs ≡ Some id → subject_of_id id (suc from) xs ≡ Some s)
        → (b : Bool)
        → subject_eq s x ≡ b → (if b then Some from else id_among s (suc from) xs) ≡ Some id
        → (if id == from then Some x else subject_of_id id (suc from) xs) ≡ Some s
    by_cases later true f g =
        let same : from ≡ id = some_is from id g in
        let is : (id == from) ≡ true = grind (arith, nat_tests) in
        ap (λ c. if c then Some x else subject_of_id id (suc from) xs) is
        ∙ ap (λ t. Some t) (same_subject s x f)
    by_cases later false f g =
        let above : suc from ≤ id = id_among-from s (suc from) id xs g in
        let apart : (id == from) ≡ false = grind (arith, nat_tests) in
        ap (λ c. if c then Some x else subject_of_id id (suc from) xs) apart ∙ later g

-- ---- the ids of a record

-- Holds if each version's id was given to s, and no older version has it.
abbrev pub AreGiven : List Subject → Subject → List Version → Type 0
AreGiven made s [] = ⊤
AreGiven made s (v ∷ vs) = (subject_of_id v.id 1 made ≡ Some s) × (has_id v.id vs ≡ false)
    × AreGiven made s vs

pub AreGiven-append : (made new : List Subject) (s : Subject) (vs : List Version)
    → AreGiven made s vs → AreGiven (made ++ new) s vs
AreGiven-append made new s [] given = tt
AreGiven-append made new s (v ∷ vs) given = (
  given-append v.id 1 made new s given.0,
  given.1,
  AreGiven-append made new s vs given.2,
)

-- A new id is not among theirs.
pub fresh : (made : List Subject) (s : Subject) (vs : List Version) (id : ℕ) → AreGiven made s vs
    → next_after made ≤ id → has_id id vs ≡ false
fresh made s [] id given past = refl
fresh made s (v ∷ vs) id given past = by_cases (fresh made s vs id given.2 past) (v.id == id) refl
  where
    by_cases : has_id id vs ≡ false → (b : Bool) → (v.id == id) ≡ b → (b || has_id id vs) ≡ false
    by_cases later true e =
        let same : v.id ≡ id = equal_number v.id id e in
        let no : subject_of_id v.id 1 made ≡ None = not_given v.id 1 made (omega arith) in
        let both : None ≡ Some s = sym no ∙ given.0 in cc
    by_cases later false e = later

-- ---- changes keep ids

abbrev pub KeepsIds : (Version → Version) → List Version → Type 0
KeepsIds change vs = AllByRecursion (λ v. (change v).id ≡ v.id) vs

pub mapped-has_id : (id : ℕ) (f : Version → Version) → ((v : Version) → (f v).id ≡ v.id)
    → (vs : List Version) → has_id id (map f vs) ≡ has_id id vs
mapped-has_id id f same [] = refl
mapped-has_id id f same (v ∷ vs) = ap (λ k. (k == id) || has_id id (map f vs)) (same v)
    ∙ ap (λ c. (v.id == id) || c) (mapped-has_id id f same vs)

pub retired-id : (w : WindowSet) (b : Bool) (minute : ℕ) (v : Version)
    → (retired w b minute v).id ≡ v.id
retired-id w b minute v = by_cases (b && in_force v)
  where
    by_cases : (c : Bool) → (if c then with_status w Old minute v else v).id ≡ v.id
    by_cases true = refl
    by_cases false = refl

pub retired-has_id : (w : WindowSet) (b : Bool) (minute id : ℕ) (vs : List Version)
    → has_id id (map (retired w b minute) vs) ≡ has_id id vs
retired-has_id w b minute id vs = mapped-has_id id (retired w b minute) (retired-id w b minute) vs

pub changed-has_id : (w : WindowSet) (minute id : ℕ) (change : Version
    → Version) (vs : List Version) → KeepsIds change vs → has_id id (changed_at w minute change vs)
    ≡ has_id id vs
changed-has_id w minute id change [] same = refl
changed-has_id w minute id change (v ∷ vs) same =
    ap (λ k. (k == id) || has_id id
    (map (retired w (not (in_force v) && in_force (change v)) minute)
    (changed_at w minute change vs))) same.0
    ∙ ap (λ c. (v.id == id) || c) (retired-has_id w (not (in_force v) && in_force (change v)) minute
    id (changed_at w minute change vs) ∙ changed-has_id w minute id change vs same.1)

retired-AreGiven : (w : WindowSet) (made : List Subject) (s : Subject) (b : Bool) (minute : ℕ)
    (vs : List Version) → AreGiven made s vs → AreGiven made s (map (retired w b minute) vs)
retired-AreGiven w made s b minute [] given = tt
retired-AreGiven w made s b minute (v ∷ vs) given = (
  ap (λ k. subject_of_id k 1 made) (retired-id w b minute v) ∙ given.0,
  ap (λ k. has_id k (map (retired w b minute) vs)) (retired-id w b minute v)
      ∙ retired-has_id w b minute v.id vs ∙ given.1,
  retired-AreGiven w made s b minute vs given.2,
)

pub changed-AreGiven : (w : WindowSet) (made : List Subject) (s : Subject) (minute : ℕ)
    (change : Version → Version) (vs : List Version) → KeepsIds change vs → AreGiven made s vs
    → AreGiven made s (changed_at w minute change vs)
changed-AreGiven w made s minute change [] same given = tt
changed-AreGiven w made s minute change (v ∷ vs) same given = (
  ap (λ k. subject_of_id k 1 made) same.0 ∙ given.0,
  ap (λ k. has_id k (map (retired w (not (in_force v) && in_force (change v)) minute)
      (changed_at w minute change vs))) same.0
      ∙ retired-has_id w (not (in_force v) && in_force (change v)) minute v.id
      (changed_at w minute change vs) ∙ changed-has_id w minute v.id change vs same.1 ∙ given.1,
  retired-AreGiven w made s (not (in_force v) && in_force (change v)) minute
      (changed_at w minute change vs) (changed-AreGiven w made s minute change vs same.1 given.2),
)

-- ---- the version of an id

pub found_given : (made : List Subject) (s : Subject) (id : ℕ) (vs : List Version) (v : Version)
    → AreGiven made s vs → find (λ u. u.id == id) vs ≡ Some v → subject_of_id id 1 made ≡ Some s
found_given made s id [] v given e = cc
found_given made s id (u ∷ us) v given e =
    by_cases (λ g. found_given made s id us v given.2 g) (u.id == id) refl e
  where
    by_cases : (find (λ x. x.id == id) us ≡ Some v → subject_of_id id 1 made ≡ Some s) → (b : Bool)
        → (u.id == id) ≡ b → cond b (Some u) (find (λ x. x.id == id) us) ≡ Some v
        → subject_of_id id 1 made ≡ Some s
    by_cases later true f g = ap (λ k. subject_of_id k 1 made) (sym (equal_number u.id id f))
        ∙ given.0
    by_cases later false f g = later g

-- A version of the record of s is the register's version with its id.
pub version_of_id_is : (st : State) (s : Subject) (id : ℕ) (v : Version)
    → AreGiven (made_now st) s (record_now st s).versions →
    version_with id (record_now st s) ≡ Some v → version_of_id st id ≡ Some (record {
      subject = s;
      version = v;
    })
version_of_id_is st s id v given found =
    ap (λ t. option_and_then (λ u. option_map (λ x. record { subject = u; version = x })
    (version_with id (record_now st u))) t)
    (found_given (made_now st) s id (record_now st s).versions v given found)
    ∙ ap (λ t. option_map (λ x. record { subject = s; version = x }) t) found

-- ---- a change of the version of one id

-- Holds if no two versions have the same id.
abbrev pub AreApart : List Version → Type 0
AreApart [] = ⊤
AreApart (v ∷ vs) = (has_id v.id vs ≡ false) × AreApart vs

pub given_apart : (made : List Subject) (s : Subject) (vs : List Version) → AreGiven made s vs
    → AreApart vs
given_apart made s [] given = tt
given_apart made s (v ∷ vs) given = (given.1, given_apart made s vs given.2)

-- Holds if each version is the one that is found by its id.
abbrev pub AreFound : List Version → List Version → Type 0
AreFound whole vs = AllByRecursion (λ v. find (λ u. u.id == v.id) whole ≡ Some v) vs

found_more : (u : Version) (whole vs : List Version) → has_id u.id vs ≡ false → AreFound whole vs
    → AreFound (u ∷ whole) vs
found_more u whole [] none found = tt
found_more u whole (v ∷ vs) none found =
    by_cases (λ e. found_more u whole vs e found.1) (v.id == u.id) refl none
  where
    turned : (v.id == u.id) ≡ false → (u.id == v.id) ≡ false
    turned e = grind (arith, nat_tests)

    by_cases : (has_id u.id vs ≡ false → AreFound (u ∷ whole) vs) → (b : Bool) → (v.id == u.id) ≡ b
        → (b || has_id u.id vs) ≡ false → AreFound (u ∷ whole) (v ∷ vs)
    by_cases later true e f = cc
    by_cases later false e f = (
      ap (λ b. cond b (Some u) (find (λ x. x.id == v.id) whole)) (turned e) ∙ found.0,
      later f,
    )

pub all_found : (vs : List Version) → AreApart vs → AreFound vs vs
all_found [] apart = tt
all_found (v ∷ vs) apart = (
  ap (λ b. cond b (Some v) (find (λ x. x.id == v.id) vs)) (let same : (v.id == v.id) ≡ true =
      grind (arith, nat_tests) in same),
  found_more v vs vs apart.0 (all_found vs apart.1),
)

-- A reflexive relation holds of each version before and after a change of one id, if it holds of
-- the version with that id.
pub of_id-each : (T : Version → Version → Type 0) → ((v : Version) → T v v)
    → (made : List Subject) (s : Subject) (id : ℕ) (change : Version → Version) (vs : List Version)
    → AreGiven made s vs →
    ((v : Version) → find (λ u. u.id == id) vs ≡ Some v → T v (change v))
    → AllByRecursion (λ v. T v (of_id id change v)) vs
of_id-each T same made s id change vs given step =
    each (λ v found. by_cases v found (v.id == id) refl) vs
    (all_found vs (given_apart made s vs given))
  where
    by_cases : (v : Version) → find (λ u. u.id == v.id) vs ≡ Some v → (b : Bool) → (v.id == id) ≡ b
        → T v (if b then change v else v)
    by_cases v found true e =
        step v (subst (λ k. find (λ (u : Version). u.id == k) vs ≡ Some v) (equal_number v.id id e)
        found)
    by_cases v found false e = same v

pub keeps_each : (s : Subject) (change : Version → Version) (vs : List Version)
    → LeavesEach change vs → StatusesRespect s change vs
keeps_each s change vs all =
    each (λ v same. subst (λ (u : Version). StatusRespects s v.status u.status) (sym same)
    (keeps s v.status)) vs all
