-- Subjects settled one after the other.
use Rattle.std.proofs.Common.{◌≡◌, Bool, true, false, ◌||◌, List, [], ◌∷◌, Some, refl, ap, sym, ◌∙◌, subst}
use Rattle.numbers.specs.Subjects.{Subject, subject_eq}
use Rattle.numbers.specs.Abstraction.{subject_of}
use Rattle.numbers.specs.declared.ported.Subject.{Subject as SubjectImpl}
use Rattle.model.specs.Content.{ClockRow, Content, Represents, SameRows}
use Rattle.model.specs.State.{State}
use Rattle.model.proofs.Entered.{subject_eq-refl}
use Rattle.model.proofs.Ids.{same_subject, other_subject}
use Rattle.settle.specs.Settling.{IsSettled, PreservesAtClock, ForStatesAtClock, is_one_of}
use Rattle.settle.proofs.Settled.{rows_joined, stays_settled}
use Rattle.numbers.proofs.Small.{impossible}

-- The subjects before `rest` are settled, and no other subject's rows have changed.
pub record HasSettled (clock : ClockRow) (subjects rest : List SubjectImpl) (old new : Content)
    (st : State) : Type 0 where
  pub represents : Represents new st
  pub clock_row : new.clock ≡ Some clock
  pub others : (t : Subject) → is_one_of subjects t ≡ false → SameRows t old new
  pub among : (t : Subject) → is_one_of rest t ≡ true → is_one_of subjects t ≡ true
  pub settled : (t : Subject) → is_one_of subjects t ≡ true → is_one_of rest t ≡ false
      → IsSettled new st t

abbrev pub SettlesUpTo : ClockRow → (subjects rest : List SubjectImpl) → (old new : Content)
    → Type 0
SettlesUpTo clock subjects rest old new =
    ForStatesAtClock clock old (λ st. HasSettled clock subjects rest old new st)

first_named : (x : SubjectImpl) (rest : List SubjectImpl)
    → is_one_of (x ∷ rest) (subject_of x) ≡ true
first_named x rest =
    ap (λ b. b || is_one_of rest (subject_of x)) (subject_eq-refl (subject_of x))

later_named : (x : SubjectImpl) (rest : List SubjectImpl) (t : Subject)
    → is_one_of rest t ≡ true → is_one_of (x ∷ rest) t ≡ true
later_named x rest t its = by_cases (subject_eq t (subject_of x))
  where
    by_cases : (b : Bool) → (b || is_one_of rest t) ≡ true
    by_cases true = refl
    by_cases false = its

module _ (clock : ClockRow) (subjects rest : List SubjectImpl) (x : SubjectImpl)
    (old mid new : Content) (before : SettlesUpTo clock subjects (x ∷ rest) old mid)
    (kept : PreservesAtClock clock mid new)
    (leaves : (t : Subject) → subject_eq (subject_of x) t ≡ false
    → ForStatesAtClock clock mid (λ st. SameRows t mid new)) where
  -- Subjects outside the list keep their rows when the next one is fired.
  pub next_elsewhere : (t : Subject) → is_one_of subjects t ≡ false
      → ForStatesAtClock clock old (λ st. SameRows t old new)
  next_elsewhere t other st rep is =
      let was = before st rep is in
      rows_joined t old mid new (was.others t other)
      (leaves t (apart (subject_eq (subject_of x) t) refl) st was.represents was.clock_row)
    where
      apart : (b : Bool) → subject_eq (subject_of x) t ≡ b → b ≡ false
      apart false e = refl
      apart true e = impossible (sym ((before st rep is).among t
          (ap (is_one_of (x ∷ rest)) (same_subject (subject_of x) t e) ∙ first_named x rest))
          ∙ other)

  pub next_settled : ForStatesAtClock clock mid (λ st. IsSettled new st (subject_of x))
      → SettlesUpTo clock subjects rest old new
  next_settled settles st rep is =
      let was = before st rep is in
      let still = kept st was.represents was.clock_row in
      record {
        represents = still.0;
        clock_row = still.1;
        others = λ t other. next_elsewhere t other st rep is;
        among = λ t its. was.among t (later_named x rest t its);
        settled = λ t its not. by_cases t its not (subject_eq t (subject_of x)) refl;
      }
    where
      by_cases : (t : Subject) → is_one_of subjects t ≡ true → is_one_of rest t ≡ false → (b : Bool)
          → subject_eq t (subject_of x) ≡ b → IsSettled new st t
      by_cases t its not true e =
          let was = before st rep is in
          subst (IsSettled new st) (same_subject t (subject_of x) e)
          (settles st was.represents was.clock_row)
      by_cases t its not false e =
          let was = before st rep is in
          stays_settled mid new st t (leaves t (other_subject t (subject_of x) e) st
          was.represents was.clock_row)
          (was.settled t its (ap (λ b. b || is_one_of rest t) e ∙ not))

pub all_settled : (clock : ClockRow) (subjects : List SubjectImpl) (old new : Content)
    → SettlesUpTo clock subjects [] old new → (t : Subject) → is_one_of subjects t ≡ true
    → ForStatesAtClock clock old (λ st. IsSettled new st t)
all_settled clock subjects old new settles t its st rep is =
    (settles st rep is).settled t its refl
