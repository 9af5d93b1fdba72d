-- The findings on all subjects, computed from an ordered map of their sides.
use Rattle.std.proofs.Common.{◌≡◌, ℕ, ◌<◌, Bool, true, false, List, [], ◌∷◌, map, Option, Some, None, refl, ap, sym, ◌∙◌, subst, arith}
use Rattle.std.specs.Prelude.{unwrap_or, if◌then◌else◌}
use Rattle.std.specs.BTreeMap.{is_at}
use Rattle.std.specs.List.Sorted.{IsStrictlySortedBy}
use Rattle.std.specs.Map.{keys_of, lookup}
use Rattle.std.specs.Ordering.{nat_cmp, on, is_eq}
use Rattle.std.proofs.lemmas.Bool.Decides.{nat_tests}
use Rattle.numbers.specs.Subjects.{Subject as SubjectModel, subject_eq, subject_key}
use Rattle.numbers.specs.Abstraction.{key_of, subject_of}
use Rattle.numbers.specs.declared.ported.Subject.{Subject}
use Rattle.numbers.proofs.SubjectKeys.{subject_key-exact}
use Rattle.model.proofs.Ascending.{AreAbove, Rise, sorted-rise}
use Rattle.model.proofs.Entered.{subject_eq-refl}
use Rattle.model.proofs.Ids.{same_subject}
use Rattle.model.specs.Laws.{AllAbove, AreSubjectsSorted}
use Rattle.bulk.specs.Findings.{finding_in}
use Rattle.bulk.specs.Sides.{found_in, found_of, no_sides, with_found}
use Rattle.bulk.specs.declared.finding.Finding.{Finding}
use Rattle.bulk.specs.declared.finding.SubjectFinding.{SubjectFinding}
use Rattle.bulk.specs.declared.sides.Sides.{Sides}
use Rattle.numbers.proofs.Small.{is_less}

abbrev Entry : Type 0
Entry = Subject × Sides

level : (a : ℕ) → is_eq (nat_cmp a a) ≡ true
level a = grind (arith, nat_tests)

apart : (a b : ℕ) → a < b → is_eq (nat_cmp b a) ≡ false
apart a b less = grind (arith, nat_tests)

of_level : (a b : ℕ) → is_eq (nat_cmp a b) ≡ true → a ≡ b
of_level a b e = grind (arith, nat_tests)

-- ---- the findings are in the order of the map

rise_above : (s : Subject) (es : List Entry) → AreAbove key_of (key_of s) (keys_of es)
    → AllAbove (subject_of s) (map (λ (f : SubjectFinding). subject_of f.subject) (found_in es))
rise_above s [] above = tt
rise_above s (e ∷ es) above = by_cases (found_of e.1) (rise_above s es above.1)
  where
    by_cases : (o : Option Finding)
        → AllAbove (subject_of s) (map (λ (f : SubjectFinding). subject_of f.subject) (found_in es))
        →
        AllAbove (subject_of s) (map (λ (f : SubjectFinding). subject_of f.subject)
        (with_found e.0 o (found_in es)))
    by_cases None rest = rest
    by_cases (Some finding) rest = (is_less (key_of s) (key_of e.0) above.0, rest)

found_rise : (es : List Entry) → Rise key_of (keys_of es)
    → AreSubjectsSorted (map (λ (f : SubjectFinding). subject_of f.subject) (found_in es))
found_rise [] rise = tt
found_rise (e ∷ es) rise = by_cases (found_of e.1) (found_rise es rise.1)
  where
    by_cases : (o : Option Finding)
        → AreSubjectsSorted (map (λ (f : SubjectFinding). subject_of f.subject) (found_in es))
        → AreSubjectsSorted (map (λ (f : SubjectFinding). subject_of f.subject)
        (with_found e.0 o (found_in es)))
    by_cases None rest = rest
    by_cases (Some finding) rest = (rise_above e.0 es rise.0, rest)

-- ---- the findings are those of the subjects' sides

-- A subject below all of them has no finding.
none_below : (s : Subject) (es : List Entry) → AreAbove key_of (key_of s) (keys_of es)
    → finding_in (found_in es) (subject_of s) ≡ None
none_below s [] above = refl
none_below s (e ∷ es) above =
    by_cases (found_of e.1) (none_below s es above.1) (subject_eq (subject_of e.0) (subject_of s))
    refl
  where
    by_cases : (o : Option Finding) → finding_in (found_in es) (subject_of s) ≡ None → (b : Bool)
        → subject_eq (subject_of e.0) (subject_of s) ≡ b
        → finding_in (with_found e.0 o (found_in es)) (subject_of s) ≡ None
    by_cases None rest b is = rest
    by_cases (Some finding) rest false is =
        ap (λ (t : Bool). if t then Some finding else finding_in (found_in es) (subject_of s)) is
        ∙ rest
    by_cases (Some finding) rest true is =
        let same : key_of s ≡ key_of e.0 =
        ap subject_key (same_subject (subject_of e.0) (subject_of s) is) in
        let less : key_of s < key_of e.0 = above.0 in
        absurd (omega (arith, same, less))

-- The map's test of a key is the test of subjects.
same_test : (s t : Subject) → is_eq (nat_cmp (key_of s) (key_of t)) ≡ subject_eq (subject_of t)
    (subject_of s)
same_test s t = by_cases (subject_eq (subject_of t) (subject_of s)) refl
  where
    by_cases : (b : Bool) → subject_eq (subject_of t) (subject_of s) ≡ b
        → is_eq (nat_cmp (key_of s) (key_of t)) ≡ b
    by_cases true is =
        ap (λ (k : ℕ). is_eq (nat_cmp (key_of s) k))
        (sym (ap subject_key (same_subject (subject_of t) (subject_of s) is))) ∙ level (key_of s)
    by_cases false is = other (is_eq (nat_cmp (key_of s) (key_of t))) refl
      where
        other : (b : Bool) → is_eq (nat_cmp (key_of s) (key_of t)) ≡ b → b ≡ false
        other false e = refl
        other true e =
            let same : subject_of t ≡ subject_of s =
            subject_key-exact (subject_of t) (subject_of s)
            (sym (of_level (key_of s) (key_of t) e)) in
            let x : true ≡ false =
            sym (subject_eq-refl (subject_of s))
            ∙ ap (λ (r : SubjectModel). subject_eq r (subject_of s)) (sym same) ∙ is in cc

abbrev at : Subject → List Entry → Option Sides
at s es = lookup (is_at (on key_of nat_cmp s)) es

found_at : (s : Subject) (es : List Entry) → Rise key_of (keys_of es)
    → finding_in (found_in es) (subject_of s) ≡ found_of (unwrap_or (at s es) no_sides)
found_at s [] rise = refl
found_at s (e ∷ es) rise =
    by_cases (subject_eq (subject_of e.0) (subject_of s)) refl (found_at s es rise.1)
  where
    -- The entry is this subject's.
    here : subject_eq (subject_of e.0) (subject_of s) ≡ true → (o : Option Finding)
        → finding_in (with_found e.0 o (found_in es)) (subject_of s) ≡ o
    here is (Some finding) =
        ap (λ (t : Bool). if t then Some finding else finding_in (found_in es) (subject_of s)) is
    here is None =
        let same : subject_of s ≡ subject_of e.0 =
        same_subject (subject_of e.0) (subject_of s) is in
        none_below s es (subst (λ (k : ℕ). AreAbove key_of k (keys_of es))
        (sym (ap subject_key same)) rise.0)

    -- The entry is another subject's.
    there : subject_eq (subject_of e.0) (subject_of s) ≡ false → (o : Option Finding)
        → finding_in (with_found e.0 o (found_in es)) (subject_of s) ≡ finding_in (found_in es)
        (subject_of s)
    there is (Some finding) =
        ap (λ (t : Bool). if t then Some finding else finding_in (found_in es) (subject_of s)) is
    there is None = refl

    by_cases : (b : Bool) → subject_eq (subject_of e.0) (subject_of s) ≡ b
        → finding_in (found_in es) (subject_of s) ≡ found_of (unwrap_or (at s es) no_sides) →
        finding_in (with_found e.0 (found_of e.1) (found_in es)) (subject_of s)
        ≡ found_of (unwrap_or (at s (e ∷ es)) no_sides)
    by_cases true is rest =
        here is (found_of e.1)
        ∙ sym (ap (λ (t : Bool). found_of (unwrap_or (if t then Some e.1 else at s es) no_sides))
        (same_test s e.0 ∙ is))
    by_cases false is rest =
        there is (found_of e.1) ∙ rest
        ∙ sym (ap (λ (t : Bool). found_of (unwrap_or (if t then Some e.1 else at s es) no_sides))
        (same_test s e.0 ∙ is))

-- The findings from an ordered map are ascending.
pub findings_rise : (es : List Entry) → IsStrictlySortedBy (on key_of nat_cmp) (keys_of es)
    → AreSubjectsSorted (map (λ (f : SubjectFinding). subject_of f.subject) (found_in es))
findings_rise es ordered = found_rise es (sorted-rise key_of (keys_of es) ordered)

pub findings_tell : (es : List Entry) → IsStrictlySortedBy (on key_of nat_cmp) (keys_of es)
    → (s : Subject) → finding_in (found_in es) (subject_of s)
    ≡ found_of (unwrap_or (at s es) no_sides)
findings_tell es ordered s = found_at s es (sorted-rise key_of (keys_of es) ordered)
