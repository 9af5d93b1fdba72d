-- A block and its numbers, settled one after the other.
use Rattle.std.proofs.Common.{◌≡◌, ℕ, inl, inr, Bool, true, false, ◌||◌, List, [], ◌∷◌, Some, None, refl, ap, sym, ◌∙◌, subst}
use Rattle.std.specs.Prelude.{Contains, ◌⊎◌, ◌==◌}
use Rattle.std.specs.List.{list_any}
use Rattle.numbers.specs.Digits.{block_of}
use Rattle.numbers.specs.Subjects.{Subject, Number, Block, subject_eq}
use Rattle.numbers.specs.declared.block_id.BlockId.{BlockId}
use Rattle.numbers.specs.declared.ported.Subject.{Subject as SubjectImpl}
use Rattle.model.specs.State.{State}
use Rattle.model.specs.Refusals.{is_in_block}
use Rattle.model.specs.Content.{ClockRow, Content, Represents, SameRows}
use Rattle.model.proofs.Entered.{subject_eq-refl}
use Rattle.model.proofs.Ids.{same_subject}
use Rattle.model.proofs.Lists.{any_there, contains-among, there_any}
use Rattle.numbers.proofs.Small.{same_number, neither, equal_number, impossible, or_false}
use Rattle.settle.specs.Reads.{AreInBlock, HasRowInForce, IsInBlock, HasOpenRow, Reflects}
use Rattle.settle.specs.Settling.{IsSettled, IsAtRest, FramesRows, Settles, ForStatesAtClock, is_one_of, is_within, those_with_block}
use Rattle.settle.proofs.Among.{all-among}
use Rattle.settle.proofs.Settled.{none-due, stays_settled}
use Rattle.version.specs.declared.in_use.NumberInUse.{NumberInUse}

-- ---- the list

-- Whether the subject is one of these numbers.
abbrev pub is_any_of : List NumberInUse → Subject → Bool
is_any_of numbers s = list_any (λ (n : NumberInUse). subject_eq s (Number n.tn.number)) numbers

listed_is : (numbers : List NumberInUse) (block : BlockId) (t : Subject)
    → is_one_of (those_with_block numbers block) t
    ≡ (is_any_of numbers t || subject_eq t (Block block.number))
listed_is [] block t = or_false (subject_eq t (Block block.number))
listed_is (x ∷ xs) block t = by_cases (subject_eq t (Number x.tn.number)) (listed_is xs block t)
  where
    by_cases : (b : Bool) → is_one_of (those_with_block xs block) t
        ≡ (is_any_of xs t || subject_eq t (Block block.number)) →
        (b || is_one_of (those_with_block xs block) t)
        ≡ ((b || is_any_of xs t) || subject_eq t (Block block.number))
    by_cases true rest = refl
    by_cases false rest = rest

-- ---- a block

module _ (c : Content) (block : ℕ) (numbers : List NumberInUse) (are : AreInBlock c block numbers)
    (st : State) where
  -- Each of the numbers is of the block.
  any_inside : (t : Subject) → is_any_of numbers t ≡ true → is_in_block block t ≡ true
  any_inside t is =
      let x = any_there (λ (n : NumberInUse). subject_eq t (Number n.tn.number)) numbers is in
      ap (is_in_block block) (sym (same_subject t (Number x.0.tn.number) x.2))
      ∙ ap (λ b. b == block) (all-among (IsInBlock c block) numbers are.only x.0 x.1).own
      ∙ same_number block

  listed : (n : ℕ) (x : NumberInUse) → Contains numbers x → x.tn.number ≡ n
      → is_any_of numbers (Number n) ≡ true
  listed n x there is = there_any (λ (y : NumberInUse). subject_eq (Number n) (Number y.tn.number))
      x numbers (contains-among numbers x there)
      (ap (λ k. subject_eq (Number n) (Number k)) is ∙ subject_eq-refl (Number n))

  -- A number of the block that is not among them is settled.
  rest_settled : Represents c st → (t : Subject) → is_in_block block t ≡ true
      → is_any_of numbers t ≡ false → IsSettled c st t
  rest_settled rep (Block b) inside other = cc
  rest_settled rep (Number n) inside other =
      none-due st c rep (Number n) (
        (None, (λ id row found opens. unlisted (inr (id, row, found, opens))), refl),
        (None, (λ id row found holds. unlisted (inl (id, row, found, holds))), refl),
      )
    where
      unlisted : HasRowInForce c (Number n) ⊎ HasOpenRow c (Number n) → ⊥
      unlisted stood =
          let x = are.each n (equal_number (block_of n) block inside) stood in
          let never : true ≡ false = sym (listed n x.0 x.1 x.2) ∙ other in cc

-- The contents before the clock is read, before the numbers are, after both, and at the end.
module _ (clock : ClockRow) (old mid read new : Content) (block : BlockId)
    (numbers : List NumberInUse) (subjects : List SubjectImpl) (is : old.clock ≡ Some clock)
    (same_mid : mid ≡ old) (same_read : read ≡ mid)
    (listed_are : subjects ≡ those_with_block numbers block)
    (are : AreInBlock mid block.number numbers)
    (leaves : (s : Subject) → is_one_of subjects s ≡ false
    → ForStatesAtClock clock read (λ st. SameRows s read new)) where
  -- A property for all listed or all other subjects carries over to the old content.
  of_old : (wanted : Bool) (P : Content → State → Subject → Type 0)
      → ((s : Subject) → is_one_of subjects s ≡ wanted
      → ForStatesAtClock clock read (λ st. P read st s))
      → (s : Subject) → is_one_of (those_with_block numbers block) s ≡ wanted
      → ForStatesAtClock clock old (λ st. P old st s)
  of_old wanted P holds =
      subst (λ xs. (s : Subject) → is_one_of xs s ≡ wanted
      → ForStatesAtClock clock old (λ st. P old st s))
      listed_are
      (subst (λ m. (s : Subject) → is_one_of subjects s ≡ wanted
      → ForStatesAtClock clock m (λ st. P m st s)) (same_read ∙ same_mid) holds)

  inside : AreInBlock old block.number numbers
  inside = subst (λ m. AreInBlock m block.number numbers) same_mid are

  stay : (s : Subject) → is_one_of (those_with_block numbers block) s ≡ false
      → ForStatesAtClock clock old (λ st. SameRows s old new)
  stay = of_old false (λ m st s. SameRows s m new) leaves

  pub within_elsewhere : (s : Subject) → is_within block.number s ≡ false → FramesRows old new s
  within_elsewhere s other st rep written =
      let no = neither (subject_eq s (Block block.number)) (is_in_block block.number s) other in
      stay s (listed_is numbers block s ∙ ap (λ b. b || subject_eq s (Block block.number))
      (unnamed no.1 (is_any_of numbers s) refl) ∙ no.0) st rep is
    where
      unnamed : is_in_block block.number s ≡ false → (b : Bool) → is_any_of numbers s ≡ b
          → is_any_of numbers s ≡ false
      unnamed apart false e = e
      unnamed apart true e =
          impossible (sym (any_inside old block.number numbers inside st s e) ∙ apart)

  -- A number that is not among those that have an open version or one in force.
  pub at_rest_elsewhere : (s : Subject) → subject_eq s (Block block.number) ≡ false
      → IsAtRest old s → FramesRows old new s
  at_rest_elsewhere s other rests st rep written =
      stay s (listed_is numbers block s ∙ ap (λ b. b || subject_eq s (Block block.number))
      (unnamed (is_any_of numbers s) refl) ∙ other) st rep is
    where
      used : (x : NumberInUse) → IsInBlock old block.number x → s ≡ Number x.tn.number → ⊥
      used x its same = by_cases x.is_in_force x.is_open its.is_in_force its.is_open its.in_use
        where
          by_cases : (holds opens : Bool) → Reflects holds (HasRowInForce old (Number x.tn.number))
              → Reflects opens (HasOpenRow old (Number x.tn.number)) → (holds || opens) ≡ true → ⊥
          by_cases true opens held opened in_use =
              rests.1 held.0 held.1 held.2 (held.3 ∙ ap (λ t. Some t) (sym same))
          by_cases false true held opened in_use =
              rests.0 opened.0 opened.1 opened.2 (opened.3 ∙ ap (λ t. Some t) (sym same))
          by_cases false false held opened in_use = cc

      unnamed : (b : Bool) → is_any_of numbers s ≡ b → is_any_of numbers s ≡ false
      unnamed false e = e
      unnamed true e =
          let x = any_there (λ (n : NumberInUse). subject_eq s (Number n.tn.number)) numbers e in
          absurd (used x.0 (all-among (IsInBlock old block.number) numbers inside.only x.0 x.1)
          (sym (same_subject s (Number x.0.tn.number) x.2)))

  pub within_settled : ((s : Subject) → is_one_of subjects s ≡ true
      → ForStatesAtClock clock read (λ st. IsSettled new st s)) → (s : Subject)
      → is_within block.number s ≡ true → Settles old new s
  within_settled settled s its st rep written =
      by_cases (is_one_of (those_with_block numbers block) s) refl
    where
      by_cases : (b : Bool) → is_one_of (those_with_block numbers block) s ≡ b → IsSettled new st s
      by_cases true e = of_old true (λ m st s. IsSettled new st s) settled s e st rep is
      by_cases false e =
          let no = neither (is_any_of numbers s) (subject_eq s (Block block.number))
          (sym (listed_is numbers block s) ∙ e) in
          stays_settled old new st s (stay s e st rep is)
          (rest_settled old block.number numbers inside st rep s
          (sym (ap (λ b. b || is_in_block block.number s) no.1) ∙ its) no.0)
