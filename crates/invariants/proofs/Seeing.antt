-- The subjects of the versions that were read, a version at a time.
use Rattle.std.proofs.Common.{◌≡◌, ◌∙◌, ◌+◌, ◌<◌, ◌≤◌, inl, inr, ℕ, Bool, true, false, if◌then◌else◌, Option, Some, None, option_map, ap, arith, refl, sym, subst}
use Rattle.std.specs.Prelude.{◌⊎◌, option_and_then}
use Rattle.std.specs.BTreeMap.{BTreeMap}
use Rattle.std.specs.FinMap.{get}
use Rattle.std.proofs.Math.Nat.{eq-or-lt_of_le}
use Rattle.numbers.proofs.Small.{equal_number, impossible, some_is}
use Rattle.numbers.specs.Abstraction.{subject_of}
use Rattle.numbers.specs.Subjects.{Subject, Number, Block, subject_eq}
use Rattle.numbers.specs.declared.ported.Subject.{Subject as SubjectImpl}
use Rattle.model.proofs.Entered.{subject_eq-refl}
use Rattle.model.specs.Content.{Content, VersionRow}
use Rattle.invariants.specs.Flaws.{HaveBoth}
use Rattle.invariants.specs.Seen.{AreSeen, holder_of, is_subject}
use Rattle.invariants.specs.Sound.{HasIn, IsUniqueBelow}

same_subject : (s t : Subject) → subject_eq s t ≡ true → s ≡ t
same_subject (Number n) (Number m) e = ap (λ k. Number k) (equal_number n m e)
same_subject (Block b) (Block c) e = ap (λ k. Block k) (equal_number b c e)
same_subject (Number n) (Block c) e = impossible (sym e)
same_subject (Block b) (Number m) e = impossible (sym e)

nothing_found : {P : Type 0} {A : Type 0} (o : Option A) (x : A) → o ≡ None → o ≡ Some x → P
nothing_found o x none some = cc

module _ (column : VersionRow → Option Subject) (c : Content) where
  pub seen_none : (ids : BTreeMap SubjectImpl ℕ) → ((s : SubjectImpl) → holder_of ids s ≡ None)
      → AreSeen column c 0 ids
  seen_none ids none = record {
    each = λ s id less has. absurd (omega (arith, less));
    only = λ s id e. nothing_found (holder_of ids s) id (none s) e;
    valid = λ id s less has. absurd (omega (arith, less));
  }

  -- No version has the next id.
  pub seen_past : (n : ℕ) (ids : BTreeMap SubjectImpl ℕ) → get c.versions n ≡ None
      → AreSeen column c n ids → AreSeen column c (n + 1) ids
  seen_past n ids none seen = record {
    each = λ s id less has. seen.each s id (below id (subject_of s) less has) has;
    only = λ s id e. let was = seen.only s id e in let w = was.0 in (omega (arith, w), was.1);
    valid = λ id s less has. seen.valid id s (below id s less has) has;
  }
    where
      below : (id : ℕ) (s : Subject) → id < n + 1 → HasIn column c id s → id < n
      below id s less has = by_cases (eq-or-lt_of_le (let l : id ≤ n = omega (arith, less) in l))
        where
          by_cases : (id ≡ n) ⊎ (id < n) → id < n
          by_cases (inl e) =
              nothing_found (get c.versions id) has.0 (ap (get c.versions) e ∙ none) has.1
          by_cases (inr l) = l

  -- The version with the next id has this row.
  module _ (n : ℕ) (row : VersionRow) (found : get c.versions n ≡ Some row) where
    column_is : (s : Subject) → HasIn column c n s → column row ≡ Some s
    column_is s has = ap column (some_is row has.0 (sym found ∙ has.1)) ∙ has.2

    column_at : (id : ℕ) (s : Subject) → id ≡ n → HasIn column c id s → column row ≡ Some s
    column_at id s e has = column_is s (subst (λ k. HasIn column c k s) e has)

    -- It has no subject in the column.
    pub seen_without : (old new : BTreeMap SubjectImpl ℕ) → column row ≡ None
        → ((s : SubjectImpl) → holder_of new s ≡ holder_of old s)
        → AreSeen column c n old → AreSeen column c (n + 1) new
    seen_without old new none same seen = record {
      each = λ s id less has.
          same s ∙ seen.each s id (below id (subject_of s) less has) has;
      only = λ s id e. let was = seen.only s id (sym (same s) ∙ e) in let w = was.0 in
          (omega (arith, w), was.1);
      valid = λ id s less has. seen.valid id s (below id s less has) has;
    }
      where
        below : (id : ℕ) (s : Subject) → id < n + 1 → HasIn column c id s → id < n
        below id s less has = by_cases (eq-or-lt_of_le (let l : id ≤ n = omega (arith, less) in l))
          where
            by_cases : (id ≡ n) ⊎ (id < n) → id < n
            by_cases (inl e) = nothing_found (column row) s none (column_at id s e has)
            by_cases (inr l) = l

    module _ (t : SubjectImpl) (own : column row ≡ Some (subject_of t))
        (old : BTreeMap SubjectImpl ℕ) (seen : AreSeen column c n old) where
      -- Another version had its subject.
      pub seen_twice : (other : ℕ) → holder_of old t ≡ Some other → HaveBoth column c n other
      seen_twice other e = let was = seen.only t other e in
          (was.0, subject_of t, (row, found, own), was.1)

      -- No version had its subject.
      module _ (new : BTreeMap SubjectImpl ℕ) (first : holder_of old t ≡ None)
          (added : (s : SubjectImpl) → holder_of new s
          ≡ if subject_eq (subject_of t) (subject_of s) then Some n else holder_of old s) where
        each_next : (s : SubjectImpl) (id : ℕ) → id < n + 1 → HasIn column c id (subject_of s)
            → holder_of new s ≡ Some id
        each_next s id less has = by_cases (subject_eq (subject_of t) (subject_of s)) refl
            (eq-or-lt_of_le (let l : id ≤ n = omega (arith, less) in l))
          where
            by_cases : (b : Bool) → subject_eq (subject_of t) (subject_of s) ≡ b
                → (id ≡ n) ⊎ (id < n) → holder_of new s ≡ Some id
            by_cases true e (inl is) =
                added s ∙ ap (λ b. if b then Some n else holder_of old s) e ∙ ap Some (sym is)
            by_cases true e (inr l) =
                nothing_found (holder_of old t) id first (seen.each t id l
                (subst (HasIn column c id) (sym (same_subject (subject_of t) (subject_of s) e))
                has))
            by_cases false e (inl is) =
                let both : Some (subject_of t) ≡ Some (subject_of s) =
                sym own ∙ column_at id (subject_of s) is has in
                let same = some_is (subject_of t) (subject_of s) both in
                impossible (sym (subject_eq-refl (subject_of t))
                ∙ ap (subject_eq (subject_of t)) same ∙ e)
            by_cases false e (inr l) =
                added s ∙ ap (λ b. if b then Some n else holder_of old s) e
                ∙ seen.each s id l has

        only_next : (s : SubjectImpl) (id : ℕ) → holder_of new s ≡ Some id
            → (id < n + 1) × HasIn column c id (subject_of s)
        only_next s id e = by_cases (subject_eq (subject_of t) (subject_of s)) refl
          where
            by_cases : (b : Bool) → subject_eq (subject_of t) (subject_of s) ≡ b
                → (id < n + 1) × HasIn column c id (subject_of s)
            by_cases true same =
                let at : Some n ≡ Some id =
                sym (added s ∙ ap (λ b. if b then Some n else holder_of old s) same) ∙ e in
                let is = some_is n id at in
                let own_subject = ap Some (same_subject (subject_of t) (subject_of s) same) in (
                  omega (arith, is),
                  subst (λ k. HasIn column c k (subject_of s)) is
                      (row, found, own ∙ own_subject),
                )
            by_cases false other =
                let was = seen.only s id (sym (added s
                ∙ ap (λ b. if b then Some n else holder_of old s) other) ∙ e) in
                let w = was.0 in
                (omega (arith, w), was.1)

        valid_next : (id : ℕ) (s : Subject) → id < n + 1 → HasIn column c id s
            → (u : SubjectImpl) × (subject_of u ≡ s)
        valid_next id s less has =
            by_cases (eq-or-lt_of_le (let l : id ≤ n = omega (arith, less) in l))
          where
            by_cases : (id ≡ n) ⊎ (id < n) → (u : SubjectImpl) × (subject_of u ≡ s)
            by_cases (inl is) =
                (t, some_is (subject_of t) s (sym own ∙ column_at id s is has))
            by_cases (inr l) = seen.valid id s l has

        pub seen_with : AreSeen column c (n + 1) new
        seen_with = record { each = each_next; only = only_next; valid = valid_next }

    -- A version that was added had its subject.
    pub add_finds : (subject : Option SubjectImpl) → option_map subject_of subject ≡ column row
        → (old : BTreeMap SubjectImpl ℕ) → AreSeen column c n old → (found other : Option ℕ)
        → found ≡ option_and_then (holder_of old) subject → found ≡ other
        → (id : ℕ) → other ≡ Some id → HaveBoth column c n id
    add_finds None own old seen found other is same id some =
        nothing_found found id is (same ∙ some)
    add_finds (Some t) own old seen found other is same id some =
        seen_twice t (sym own) old seen id (sym is ∙ same ∙ some)

    -- It is added, and none had its subject.
    pub add_goes_on : (subject : Option SubjectImpl) → option_map subject_of subject ≡ column row
        → (old new : BTreeMap SubjectImpl ℕ) → AreSeen column c n old
        → (found : Option ℕ) → found ≡ option_and_then (holder_of old) subject → found ≡ None
        → ((s : SubjectImpl) → holder_of new s
        ≡ if is_subject subject s then Some n else holder_of old s)
        → AreSeen column c (n + 1) new
    add_goes_on None own old new seen found is none added =
        seen_without old new (sym own) added seen
    add_goes_on (Some t) own old new seen found is none added =
        seen_with t (sym own) old seen new (sym is ∙ none) added

  -- No subject has two versions.
  pub seen_once : (n m : ℕ) (ids : BTreeMap SubjectImpl ℕ) → m ≤ n → AreSeen column c n ids
      → IsUniqueBelow column c m
  seen_once n m ids most seen = λ id other s less less_other has has_other.
      let l : id < n = omega (arith, most, less) in
      let m : other < n = omega (arith, most, less_other) in
      let t = seen.valid id s l has in
      let one = seen.each t.0 id l (subst (HasIn column c id) (sym t.1) has) in
      let two = seen.each t.0 other m (subst (HasIn column c other) (sym t.1) has_other) in
      some_is id other (sym one ∙ two)
