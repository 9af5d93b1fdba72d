-- The last version of each subject when a version comes into force.
use Rattle.std.proofs.Common.{◌≡◌, ◌≢◌, ℕ, Bool, true, false, cond, List, [], Option, Some, None, refl, ap, sym, ◌∙◌, subst, arith}
use Rattle.std.specs.Prelude.{◌==◌, ◌<◌, ◌/◌, ◌%◌, length, get_or, slice_set, option_map, IfNone}
use Rattle.std.specs.declared.cmp.Ordering.{Ordering}
use Rattle.std.specs.declared.cmp.Ordering.TheVariants.{Less, Equal, Greater}
use Rattle.std.specs.Map.{lookup}
use Rattle.std.specs.Option.{unwrap_or}
use Rattle.std.specs.Ordering.{on, nat_cmp}
use Rattle.std.specs.BTreeMap.{BTreeMap, ContainsKey}
use Rattle.std.specs.FinMap.{FinMap, get}
use Rattle.numbers.specs.Subjects.{Subject, subject_key}
use Rattle.numbers.proofs.Small.{same_number}
use Rattle.model.specs.Content.{VersionRow}
use Rattle.std.proofs.lemmas.Bool.Decides.{nat_tests}
use Rattle.std.proofs.lemmas.List.{get_or-set_same, get_or-set_other}
use Rattle.store.specs.HeldRows.{HaveLast, hint_at}
use Rattle.store.specs.Maps.{Keeps, KeepsOthers}
use Rattle.store.specs.Ranks.{subject_at}
use Rattle.store.specs.Tables.{AreVersionsIndexed, SubjectVersion, subject_version, subject_version_of, subject_version_cmp}
use Rattle.store.specs.declared.keys.Rank.{Rank}
use Rattle.store.specs.declared.keys.SubjectVersion.{SubjectVersion as SubjectVersionImpl}
use Rattle.store.proofs.Maps.{entry-of}
use Rattle.store.proofs.Orders.{subject_version_total, subject_version_exact}
use Rattle.store.proofs.Ranks.{key_ranked}

-- Ranks of one subject are the same.
same-rank : (a b : Rank) → subject_at a ≡ subject_at b → a.number ≡ b.number
same-rank a b e = sym (key_ranked a.number) ∙ ap subject_key e ∙ key_ranked b.number

-- A key that is not another one has its rank.
tied-rank : (k q : SubjectVersionImpl)
    → (r : Ordering) → on subject_version_of subject_version_cmp k q ≡ r
    → (r ≡ Equal) → q.rank.number ≡ k.rank.number
tied-rank k q r is equal =
    same-rank q.rank k.rank (ap (λ (v : SubjectVersion). v.subject)
    (sym (subject_version_exact (subject_version_of k) (subject_version_of q) (is ∙ equal))))

-- The number at a place of a row of ids.
abbrev in_row : Option (List ℕ) → ℕ → ℕ
in_row o p = get_or (unwrap_or o []) p 0

-- A number that notes an id is written at a place of a row of ids.
module _ (old new : List (ℕ × List ℕ)) (row place hint : ℕ) (ids : List ℕ)
    (is : (n : ℕ) → lookup (λ m. n == m) new
    ≡ cond (row == n) (Some (slice_set ids place hint)) (lookup (λ m. n == m) old))
    (inside : place < length ids) (some : hint ≢ 0) where
  pub hint-noted : (rank : ℕ) → row ≡ rank / 16 → place ≡ rank % 16 → hint_at new rank ≢ 0
  hint-noted rank at within none = some (sym (get_or-set_same ids place hint 0 inside)
      ∙ sym (ap (λ o. in_row o place) (is row ∙ ap (λ b. cond b (Some (slice_set ids place hint))
      (lookup (λ m. row == m) old)) (same_number row)))
      ∙ (λ i. in_row (lookup (λ m. at i == m) new) (within i)) ∙ none)

  in-ids : (p : ℕ) → get_or ids p 0 ≢ 0 → get_or (slice_set ids place hint) p 0 ≢ 0
  in-ids p had none = by_cases (place == p) refl
    where
      by_cases : (b : Bool) → (place == p) ≡ b → ⊥
      by_cases true e =
          let same : place ≡ p = grind (arith, nat_tests, e) in
          some (sym (get_or-set_same ids place hint 0 inside)
          ∙ ap (λ j. get_or (slice_set ids place hint) j 0) same ∙ none)
      by_cases false e =
          let other : p ≢ place = grind (arith, nat_tests, e) in
          had (sym (get_or-set_other ids place p hint 0 other) ∙ none)

  in-own : (o : Option (List ℕ)) → ((all : List ℕ) → o ≡ Some all → ids ≡ all) → (p : ℕ)
      → in_row o p ≢ 0 → in_row (Some (slice_set ids place hint)) p ≢ 0
  in-own None own p had none = had refl
  in-own (Some all) own p had none =
      in-ids p (subst (λ xs. get_or xs p 0 ≢ 0) (sym (own all refl)) had) none

  pub hints-stay : ((all : List ℕ) → lookup (λ m. row == m) old ≡ Some all → ids ≡ all)
      → (rank : ℕ) → hint_at old rank ≢ 0 → hint_at new rank ≢ 0
  hints-stay own rank had none = by_cases (row == rank / 16) refl
    where
      by_cases : (b : Bool) → (row == rank / 16) ≡ b → ⊥
      by_cases false e =
          had (sym (ap (λ o. in_row o (rank % 16)) (is (rank / 16)
          ∙ ap (λ b. cond b (Some (slice_set ids place hint))
          (lookup (λ m. rank / 16 == m) old)) e)) ∙ none)
      by_cases true e =
          let same : row ≡ rank / 16 = grind (arith, nat_tests, e) in
          in-own (lookup (λ m. rank / 16 == m) old)
          (subst (λ n. (all : List ℕ) → lookup (λ m. n == m) old ≡ Some all → ids ≡ all) same own)
          (rank % 16) had
          (sym (ap (λ o. in_row o (rank % 16)) (is (rank / 16)
          ∙ ap (λ b. cond b (Some (slice_set ids place hint))
          (lookup (λ m. rank / 16 == m) old)) e)) ∙ none)

-- Keys that are deleted leave the others with their last versions.
pub last-stays : (old new : BTreeMap SubjectVersionImpl (Unit {0})) (last : List (ℕ × List ℕ))
    → Keeps (on subject_version_of subject_version_cmp) new old → HaveLast old last
    → HaveLast new last
last-stays old new last adds have k there = have k (adds k there)

-- A key that is added is the last of its subject.
pub last-added : (old new : BTreeMap SubjectVersionImpl (Unit {0}))
    (last next : List (ℕ × List ℕ)) (key : SubjectVersionImpl)
    → hint_at next key.rank.number ≢ 0
    → ((rank : ℕ) → hint_at last rank ≢ 0 → hint_at next rank ≢ 0)
    → KeepsOthers (on subject_version_of subject_version_cmp) new old (Some key) → HaveLast old last
    → HaveLast new next
last-added old new last next key noted keeps adds have k there =
    by_cases (on subject_version_of subject_version_cmp key k) refl
  where
    other : on subject_version_of subject_version_cmp key k ≢ Equal
        → hint_at next k.rank.number ≢ 0
    other differ = keeps k.rank.number (have k (adds k there differ))

    by_cases : (r : Ordering) → on subject_version_of subject_version_cmp key k ≡ r
        → hint_at next k.rank.number ≢ 0
    by_cases Equal e =
        subst (λ rank. hint_at next rank ≢ 0) (sym (tied-rank key k Equal e refl)) noted
    by_cases Less e = other (λ same. let no : Less ≡ Equal = sym e ∙ same in cc)
    by_cases Greater e = other (λ same. let no : Greater ≡ Equal = sym e ∙ same in cc)

-- A subject without a last version has no key.
pub none-last : (keys : BTreeMap SubjectVersionImpl (Unit {0})) (last : List (ℕ × List ℕ))
    (r : Rank) (s : Subject) → subject_at r ≡ s → hint_at last r.number ≡ 0
    → HaveLast keys last → (k : SubjectVersionImpl) → subject_at k.rank ≡ s
    → ContainsKey (on subject_version_of subject_version_cmp) keys k → ⊥
none-last keys last r s of none have k own there =
    have k there (ap (hint_at last) (same-rank k.rank r (own ∙ sym of)) ∙ none)

-- A subject without a key has no version in force.
pub none-held : (versions : FinMap nat_cmp VersionRow)
    (index : BTreeMap SubjectVersionImpl (Unit {0})) (s : Subject)
    → ((k : SubjectVersionImpl) → subject_at k.rank ≡ s
    → ContainsKey (on subject_version_of subject_version_cmp) index k → ⊥) →
    AreVersionsIndexed subject_version_cmp subject_version_of
    (λ id row. option_map (subject_version id) row.holds) versions index →
    (id : ℕ) (row : VersionRow) → get versions id ≡ Some row → row.holds ≢ Some s
none-held versions index s none indexed id row at has =
    let there = indexed id row (subject_version id s) at (ap (option_map (subject_version id)) has)
    in
    let q = entry-of subject_version_of (λ (u : Unit {0}). u) subject_version_total
    subject_version_exact index (subject_version id s) there.1 in
    none q.0 (ap (λ (v : SubjectVersion). v.subject) q.1) q.2

-- The clause of a result that is `None`.
pub if-none : {V P : Type 0} (o : Option V) → o ≡ None → IfNone o P → P
if-none None e is = is
if-none {V} (Some v) e is = let no : Some v ≡ None = e in cc
