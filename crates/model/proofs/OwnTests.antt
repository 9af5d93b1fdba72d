-- A command on a version is refused by its own tests, and any refusal has the least number of the
-- tests that hold.
use Rattle.std.proofs.Common.{◌≡◌, ℕ, ◌≤◌, Bool, true, false, not, ◌&&◌, List, [], ◌∷◌, Option, Some, None, refl, ap, sym, ◌∙◌, arith}
use Rattle.std.specs.Prelude.{nat_lt, ◌==◌, if◌then◌else◌}
use Rattle.std.proofs.lemmas.Bool.Decides.{nat_tests}
use Rattle.model.specs.Commands.{VersionCommand, ModifyRouting, Command, OnVersion}
use Rattle.model.specs.Conditions.{holds_of, is_active, has_no_attempt_left}
use Rattle.model.specs.History.{CommandRequest, AcknowledgementRequest}
use Rattle.model.specs.OnVersion.{version_tests, is_number}
use Rattle.model.specs.State.{State, SubjectVersion, is_carrier, version_of_id, set_now}
use Rattle.model.specs.Refusals.{ClockMoment, RequestFrom, QuestionFrom, Question, Knows, tests, own_tests, has_open, owns, first_refusal, holds_at}
use Rattle.model.specs.Laws.{RefusedByOwnTests, FirstRefusalIsLeast}
use Rattle.numbers.proofs.Small.{and_first, and_second, some_is}

pub refused_by_own_tests : RefusedByOwnTests
unfolding tests
refused_by_own_tests st is caller id c = refl

-- ---- tests in the order of their numbers

-- Whether the numbers ascend, from past this one.
abbrev rises : ℕ → List (ℕ × Bool) → Bool
rises past [] = true
rises past (t ∷ ts) = nat_lt past t.0 && rises t.0 ts

past_all : (ts : List (ℕ × Bool)) (past n : ℕ) → rises past ts ≡ true → holds_at n ts ≡ true
    → past ≤ n
past_all [] past n rise holds = cc
past_all (t ∷ ts) past n rise holds =
    by_cases (past_all ts t.0 n (and_second (nat_lt past t.0) (rises t.0 ts) rise)) (t.0 == n) refl
    holds
  where
    below : nat_lt past t.0 ≡ true
    below = and_first (nat_lt past t.0) (rises t.0 ts) rise

    by_cases : (holds_at n ts ≡ true → t.0 ≤ n) → (b : Bool) → (t.0 == n) ≡ b
        → (if b then t.1 else holds_at n ts) ≡ true → past ≤ n
    by_cases later true e is = grind (arith, nat_tests, below)
    by_cases later false e is = let behind : t.0 ≤ n = later is in grind (arith, nat_tests, below)

abbrev Least : List (ℕ × Bool) → Type 0
Least ts = (k n : ℕ) → first_refusal ts ≡ Some k → holds_at n ts ≡ true → k ≤ n

-- The first test that holds has the least number.
least : (ts : List (ℕ × Bool)) (past k n : ℕ) → rises past ts ≡ true
    → first_refusal ts ≡ Some k → holds_at n ts ≡ true → k ≤ n
least [] past k n rise first holds = cc
least (t ∷ ts) past k n rise first holds =
    by_cases (least ts t.0 k n (and_second (nat_lt past t.0) (rises t.0 ts) rise))
    (past_all ts t.0 n (and_second (nat_lt past t.0) (rises t.0 ts) rise)) t.1 (t.0 == n) refl refl
    first holds
  where
    by_cases : (first_refusal ts ≡ Some k → holds_at n ts ≡ true → k ≤ n)
        → (holds_at n ts ≡ true → t.0 ≤ n) → (b c : Bool) → t.1 ≡ b → (t.0 == n) ≡ c
        → (if b then Some t.0 else first_refusal ts) ≡ Some k
        → (if c then t.1 else holds_at n ts) ≡ true → k ≤ n
    by_cases later behind true true e g f is =
        let same : t.0 ≡ k = some_is t.0 k f in grind (arith, nat_tests, same)
    by_cases later behind true false e g f is =
        let same : t.0 ≡ k = some_is t.0 k f in let past_it : t.0 ≤ n = behind is in
        omega (arith, same)
    by_cases later behind false true e g f is = let never : true ≡ false = sym is ∙ e in cc
    by_cases later behind false false e g f is = later f is

-- ---- a modify, whose routing number (7) is tested after 10

module _ (unknown number mine : Bool) (ts : List (ℕ × Bool)) where
  abbrev as_they_stand : List (ℕ × Bool)
  as_they_stand = (1, unknown) ∷ (10, not number) ∷ (7, number && mine) ∷ ts

  abbrev by_number : List (ℕ × Bool)
  by_number = (1, unknown) ∷ (7, number && mine) ∷ (10, not number) ∷ ts

first_by_number : (unknown number mine : Bool) (ts : List (ℕ × Bool)) →
    first_refusal (by_number unknown number mine ts)
    ≡ first_refusal (as_they_stand unknown number mine ts)
first_by_number unknown true mine ts = refl
first_by_number unknown false mine ts = refl

apart : (n : ℕ) → (10 == n) ≡ true → (7 == n) ≡ false
apart n e = grind (arith, nat_tests)

at_by_number : (unknown number mine : Bool) (ts : List (ℕ × Bool)) (n : ℕ) →
    holds_at n (by_number unknown number mine ts)
    ≡ holds_at n (as_they_stand unknown number mine ts)
at_by_number unknown number mine ts n =
    ap (λ x. if 1 == n then unknown else x) (by_cases (10 == n) refl)
  where
    by_cases : (b : Bool) → (10 == n) ≡ b →
        (if 7 == n then number && mine else (if b then not number else holds_at n ts))
        ≡ (if b then not number else (if 7 == n then number && mine else holds_at n ts))
    by_cases true e =
        ap (λ x. if x then number && mine else not number) (apart n e)
    by_cases false e = refl

least_of_modify : (unknown number mine : Bool) (ts : List (ℕ × Bool)) (k n : ℕ) →
    rises 10 ts ≡ true →
    first_refusal (as_they_stand unknown number mine ts) ≡ Some k →
    holds_at n (as_they_stand unknown number mine ts) ≡ true → k ≤ n
least_of_modify unknown number mine ts k n rise first holds =
    least (by_number unknown number mine ts) 0 k n rise
    (first_by_number unknown number mine ts ∙ first) (at_by_number unknown number mine ts n ∙ holds)

-- ---- every input

module _ (st : State) (caller : ℕ) where
  abbrev modify_tests : (lrn : ℕ) → Option ℕ → Option SubjectVersion → List (ℕ × Bool)
  modify_tests lrn cic found =
      (1, not (is_carrier st caller))
      ∷ (10, not (holds_of (λ (e : SubjectVersion). is_number e.subject) found))
      ∷ version_tests (set_now st).windows st.now caller (has_open st) (owns st)
      (ModifyRouting lrn cic) found

  of_modify : (lrn : ℕ) (cic : Option ℕ) (found : Option SubjectVersion)
      → Least (modify_tests lrn cic found)
  of_modify lrn cic None k n =
      least_of_modify (not (is_carrier st caller)) false false
      ((11, false) ∷ (12, false) ∷ (13, false) ∷ (28, false) ∷ []) k n refl
  of_modify lrn cic (Some x) k n =
      least_of_modify (not (is_carrier st caller)) (is_number x.subject)
      (not (owns st lrn x.version.new_provider))
      ((11, not (caller == x.version.new_provider)) ∷ (12, has_open st x.subject)
      ∷ (13, not (is_active x.version.status)) ∷ (28, has_no_attempt_left x.version.attempt) ∷ [])
      k n refl

  of_change : (id : ℕ) (c : VersionCommand) → Least (own_tests st caller (OnVersion id c))
  of_change id (ModifyRouting lrn cic) k n = of_modify lrn cic (version_of_id st id) k n
  of_change id c k n = least (own_tests st caller (OnVersion id c)) 0 k n refl

  of_command : (c : Command) → Least (own_tests st caller c)
  of_command (OnVersion id c) k n = of_change id c k n
  of_command c k n = least (own_tests st caller c) 0 k n refl

of_question : (st : State) (caller : ℕ) (q : Question) → Least (tests st (QuestionFrom caller q))
unfolding tests
of_question st caller Knows k n = least (tests st (QuestionFrom caller Knows)) 0 k n refl
of_question st caller q k n = least (tests st (QuestionFrom caller q)) 0 k n refl

pub least_is_met : FirstRefusalIsLeast
unfolding tests
least_is_met st (RequestFrom caller (CommandRequest c)) k n = of_command st caller c k n
least_is_met st (RequestFrom caller (AcknowledgementRequest id attempt)) k n =
    least (tests st (RequestFrom caller (AcknowledgementRequest id attempt))) 0 k n refl
least_is_met st (ClockMoment m) k n = least (tests st (ClockMoment m)) 0 k n refl
least_is_met st (QuestionFrom caller q) k n = of_question st caller q k n
