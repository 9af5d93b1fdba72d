-- What rows say of a state if nothing is due.
use Rattle.std.proofs.Common.{◌≡◌, ℕ, false, not, List, [], ◌∷◌, Option, Some, None, refl, ap, sym, ◌∙◌}
use Rattle.std.specs.Prelude.{◌==◌, find, filter, option_map, option_and_then, if◌then◌else◌}
use Rattle.std.specs.FinMap.{get}
use Rattle.numbers.specs.Subjects.{Subject, subject_eq}
use Rattle.model.specs.Versions.{Version, Record, is_among, version_with}
use Rattle.model.specs.History.{subject_of_id}
use Rattle.model.specs.State.{State, record_now, version_of_id, of_its_subject, made_now}
use Rattle.model.specs.Content.{Content, VersionRow, row_of, of_subject, broadcast_with}
use Rattle.model.specs.Due.{NothingIsDue}
pub use Rattle.numbers.proofs.Small.{some_is}
use Rattle.model.proofs.Lists.{found-among}
use Rattle.numbers.proofs.Small.{equal_number}
use Rattle.model.proofs.Entered.{subject_eq-refl}

-- ---- a row of a subject

-- The broadcast is pending for all its recipients while nobody has acknowledged.
pub all_wait : (cs : List ℕ) → filter (λ c. not (is_among c [])) cs ≡ cs
all_wait [] = refl
all_wait (c ∷ cs) = ap (λ xs. c ∷ xs) (all_wait cs)

-- A version that is found by an id has that id.
pub id_found : (id : ℕ) (vs : List Version) (v : Version) → find (λ u. u.id == id) vs ≡ Some v
    → v.id ≡ id
id_found id vs v found =
    equal_number v.id id (found-among (λ (u : Version). u.id == id) vs v found).1

-- A row of the subject, and a row of another.
pub own : {R : Type 0} (s : Subject) (subject : R → Subject) (r : R) → subject r ≡ s
    → of_subject s subject (Some r) ≡ Some r
own s subject r e = ap (λ t. if subject_eq t s then Some r else None) e ∙ ap (λ b. if b then Some r
    else None) (subject_eq-refl s)

pub others : {R : Type 0} (s t : Subject) (subject : R → Subject) (r : R) → subject r ≡ s
    → subject_eq s t ≡ false → of_subject t subject (Some r) ≡ None
others s t subject r e apart = ap (λ u. if subject_eq u t then Some r else None) e ∙ ap (λ b. if b
    then Some r else None) apart

-- ---- what rows say of a state

pub none_mapped : {A B : Type 0} (f : A → B) (o : Option A) → option_map f o ≡ None → o ≡ None
none_mapped f None e = refl
none_mapped f (Some x) e = cc

-- If no row has the id, no version has it.
pub no_row : (st : State) (c : Content) (id : ℕ) → NothingIsDue c st → get c.versions id ≡ None
    → version_of_id st id ≡ None
no_row st c id due none = by_cases (subject_of_id id 1 (made_now st))
  where
    gone : (s : Subject) → version_with id (record_now st s) ≡ None
    gone s = none_mapped (row_of s) (version_with id (record_now st s))
        (sym ((due.rows_match s).versions id) ∙ ap (of_subject s (λ (x : VersionRow). x.subject))
        none)

    by_cases : (o : Option Subject)
        → option_and_then (λ s. of_its_subject s (version_with id (record_now st s))) o ≡ None
    by_cases None = refl
    by_cases (Some s) = ap (of_its_subject s) (gone s)

-- A version with the broadcasts that it had gives the same broadcast.
pub same_broadcast_with : (r after : Record) (k : ℕ)
    → option_map (λ (u : Version). u.broadcasts) (version_with k after)
    ≡ option_map (λ (u : Version). u.broadcasts) (version_with k r) →
    (a : ℕ) → broadcast_with k a after ≡ broadcast_with k a r
same_broadcast_with r after k same a = at (version_with k after) (version_with k r) same
  where
    at : (o p : Option Version) → option_map (λ (u : Version). u.broadcasts) o
        ≡ option_map (λ (u : Version). u.broadcasts) p →
        option_and_then (λ (u : Version). find (λ x. x.attempt == a) u.broadcasts) o
        ≡ option_and_then (λ (u : Version). find (λ x. x.attempt == a) u.broadcasts) p
    at None None f = refl
    at None (Some u) f = cc
    at (Some u) None f = cc
    at (Some u) (Some x) f = ap (λ o. option_and_then (find (λ x. x.attempt == a)) o) f
