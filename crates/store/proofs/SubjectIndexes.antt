-- Versions added to an index of subjects or deleted from it, and the lines of their numbers.
use Rattle.std.proofs.Common.{◌≡◌, ◌<◌, ℕ, Bool, true, false, cond, List, ◌∷◌, ◌++◌, Option, Some, None, refl, ap, sym, ◌∙◌, subst, take, drop, ◌⊎◌, inl, inr}
use Rattle.std.specs.Prelude.{◌==◌, ◌&&◌, ◌||◌, ◌≢◌, IfSome, IsSome, is_some, option_map, slice_index_or, length, Result, Ok, Err, OnOk, OnErr}
use Rattle.std.specs.declared.cmp.Ordering.TheVariants.{Equal}
use Rattle.std.specs.Map.{lookup}
use Rattle.std.specs.Ordering.{nat_cmp}
use Rattle.std.specs.BTreeMap as tree
use Rattle.std.specs.BTreeMap.{BTreeMap, is_at}
use Rattle.std.specs.Global.{Box, Vec}
use Rattle.std.proofs.lemmas.List.{take-append-drop}
use Rattle.std.proofs.lemmas.List.Folds.{list_any-append, list_any_at}
use Rattle.std.specs.FinMap.{nat_cmp-IsAntisymmetric}
use Rattle.numbers.specs.Digits.{block_of, line_of}
use Rattle.numbers.specs.Subjects.{Number, subject_key}
use Rattle.numbers.specs.declared.line.Line.{Line}
use Rattle.numbers.proofs.SubjectKeys.{subject_key-exact}
use Rattle.numbers.proofs.Small.{same_number, equal_number, number_equal, tied, and_first, and_second, true_both, or_true, or_swapped}
use Rattle.store.specs.HeldRows.{SubjectVersion, subject_version, subject_version_of}
use Rattle.store.specs.Ranks.{subject_at}
use Rattle.store.specs.SubjectRows.{Versions, has_id, has_id_at, ids_at, versions_of, has_line, items_or_none, is_lined, AreLined, IsIdSet, IsKey, is_same_version, HasKey, KeepsKeys}
use Rattle.store.specs.declared.keys.SubjectVersion.{SubjectVersion as SubjectVersionImpl}
use Rattle.store.specs.declared.subject_index.Ids.{Ids}
use Rattle.store.specs.declared.subject_index.Ids.TheVariants.{More}
use Rattle.store.proofs.Listed.{Among}
use Rattle.store.proofs.Ranks.{key_ranked}
use Rattle.store.proofs.SubjectsListed.{found-entry, key-among}

-- ---- one subject's ids

-- An id of the ordered map is among its keys.
pub id-among : (m : Box (BTreeMap ℕ (Unit {0}))) (id : ℕ) → has_id (More m) id ≡ true
    → Among id (tree.keys m.value)
id-among m id has =
    let e =
    found-entry (is_at (nat_cmp id)) m.value.entries (some (tree.get nat_cmp m.value id) has) in
    subst (λ k. Among k (tree.keys m.value)) (sym (nat_cmp-IsAntisymmetric id e.0.0 (tied _ e.2)))
    (key-among e.0 m.value.entries e.1)
  where
    some : (o : Option (Unit {0})) → is_some o ≡ true → IsSome o
    some (Some u) is = refl
    some None is = is

-- ---- the ids of all subjects

module _ (old new : List (ℕ × Ids)) (key : SubjectVersionImpl) (o : Option Ids)
    (is : (r : ℕ) → ids_at new r ≡ cond (key.rank.number == r) o (ids_at old r)) where
  abbrev own : ℕ
  own = subject_key (subject_at key.rank)

  rank : key.rank.number ≡ own
  rank = sym (key_ranked key.rank.number)

  at : (q : SubjectVersion) → versions_of new q
      ≡ has_id_at (cond (own == subject_key q.subject) o (ids_at old (subject_key q.subject))) q.id
  at q = ap (λ x. has_id_at x q.id) (is (subject_key q.subject)
      ∙ ap (λ n. cond (n == subject_key q.subject) o (ids_at old (subject_key q.subject))) rank)

  -- One id of one subject is added or deleted.
  pub ids-set : (b : Bool) → IsIdSet (has_id_at (ids_at old key.rank.number)) (has_id_at o) key.id b
      → IsKey (versions_of old) (versions_of new) (subject_version_of key) b
  ids-set b one q = at q ∙ by_cases (own == subject_key q.subject) refl
    where
      by_cases : (x : Bool) → (own == subject_key q.subject) ≡ x
          → has_id_at (cond x o (ids_at old (subject_key q.subject))) q.id
          ≡ cond (x && (key.id == q.id)) b (versions_of old q)
      by_cases true e =
          one q.id ∙ ap (λ n. cond (key.id == q.id) b (has_id_at (ids_at old n) q.id))
          (rank ∙ equal_number own (subject_key q.subject) e)
      by_cases false e = refl

  -- No id of the subject is added or deleted.
  pub ids-same : ((q : ℕ) → has_id_at o q ≡ has_id_at (ids_at old key.rank.number) q)
      → (q : SubjectVersion) → versions_of new q ≡ versions_of old q
  ids-same same q = at q ∙ by_cases (own == subject_key q.subject) refl
    where
      by_cases : (x : Bool) → (own == subject_key q.subject) ≡ x
          → has_id_at (cond x o (ids_at old (subject_key q.subject))) q.id ≡ versions_of old q
      by_cases true e =
          same q.id ∙ ap (λ n. has_id_at (ids_at old n) q.id)
          (rank ∙ equal_number own (subject_key q.subject) e)
      by_cases false e = refl

-- ---- one key added or deleted

same-version : (k : SubjectVersion) → is_same_version k k ≡ true
same-version k = true_both _ _ (same_number (subject_key k.subject)) (same_number k.id)

version-is : (k q : SubjectVersion) → is_same_version k q ≡ true → k ≡ q
version-is k q e = λ i. record {
  subject = subject_key-exact k.subject q.subject
      (equal_number (subject_key k.subject) (subject_key q.subject) (and_first _ _ e)) i;
  id = equal_number k.id q.id (and_second _ _ e) i;
}

module _ (old new : Versions) (key : SubjectVersionImpl) where
  abbrev k : SubjectVersion
  k = subject_version_of key

  pub added-there : IsKey old new k true → new k ≡ true
  added-there is = is k ∙ ap (λ b. cond b true (old k)) (same-version k)

  pub deleted-gone : IsKey old new k false → new k ≡ false
  deleted-gone is = is k ∙ ap (λ b. cond b false (old k)) (same-version k)

  pub deleted-adds : IsKey old new k false → KeepsKeys new old
  deleted-adds is q has = by_cases (is_same_version k q) (sym (is q) ∙ has)
    where
      by_cases : (b : Bool) → cond b false (old q) ≡ true → old q ≡ true
      by_cases true it = let f : false ≡ true = it in cc
      by_cases false it = it

-- An optional key that is not `k` differs from it.
pub key-other : (o : Option SubjectVersionImpl) (k : SubjectVersion)
    → (option_map subject_version_of o ≡ Some k → ⊥) → IfSome o (λ t. subject_version_of t ≢ k)
key-other None k other = tt
key-other (Some t) k other = λ same. other (ap (λ v. Some v) same)

-- An index has the key that it is said to have.
pub key-there : (index : Versions) (o : Option SubjectVersionImpl) (k : SubjectVersion)
    → HasKey index o → option_map subject_version_of o ≡ Some k → index k ≡ true
key-there index None k has is = let no : None ≡ Some k = is in cc
key-there index (Some t) k has is =
    let same : subject_version_of t ≡ k =
    (let e : Some (subject_version_of t) ≡ Some k = is in cc) in
    ap index (sym same) ∙ has

-- ---- lines

-- The list with a line inserted has this line and those from before.
inserted : (lines : List Line) (place : ℕ) (x : Line) (l : ℕ)
    → has_line (take place lines ++ x ∷ drop place lines) l ≡ ((l == x.number) || has_line lines l)
inserted lines place x l =
    list_any-append (λ (y : Line). l == y.number) (take place lines) (x ∷ drop place lines)
    ∙ or_swapped (has_line (take place lines) l) (l == x.number) (has_line (drop place lines) l)
    ∙ ap (λ b. (l == x.number) || b)
    (sym (list_any-append (λ (y : Line). l == y.number) (take place lines) (drop place lines))
    ∙ ap (λ ys. has_line ys l) (take-append-drop place lines))

pub lines-kept : (lines : List Line) (place : ℕ) (x : Line) (l : ℕ) → has_line lines l ≡ true
    → has_line (take place lines ++ x ∷ drop place lines) l ≡ true
lines-kept lines place x l had = inserted lines place x l
    ∙ ap (λ b. (l == x.number) || b) had ∙ or_true (l == x.number)

-- An index with fewer versions and more lines is lined.
pub lined-kept : (old new : Versions) (before after : List (ℕ × Vec Line)) → KeepsKeys new old
    → ((b l : ℕ) → is_lined before b l ≡ true → is_lined after b l ≡ true)
    → AreLined old before → AreLined new after
lined-kept old new before after fewer keeps lined n id has =
    keeps (block_of n) (line_of n) (lined n id (fewer (subject_version id (Number n)) has))

-- A key of the index was there before, or is the one that was to be added.
pub added-from : {V E : Type 0} (old new : Versions) (key : SubjectVersionImpl) (r : Result V E)
    → OnOk r (IsKey old new (subject_version_of key) true)
    → OnErr r ((q : SubjectVersion) → new q ≡ old q) → (q : SubjectVersion) → new q ≡ true
    → (subject_version_of key ≡ q) ⊎ (old q ≡ true)
added-from old new key (Err x) is same q has = inr (sym (same q) ∙ has)
added-from old new key (Ok v) is same q has =
    by_cases (is_same_version (subject_version_of key) q) refl (sym (is q) ∙ has)
  where
    by_cases : (b : Bool) → is_same_version (subject_version_of key) q ≡ b
        → cond b true (old q) ≡ true → (subject_version_of key ≡ q) ⊎ (old q ≡ true)
    by_cases true e it = inl (version-is (subject_version_of key) q e)
    by_cases false e it = inr it

-- An index with the key's line stays lined when the key is added.
pub lined-added : (old new : Versions) (key : SubjectVersionImpl)
    (before after : List (ℕ × Vec Line))
    → ((q : SubjectVersion) → new q ≡ true → (subject_version_of key ≡ q) ⊎ (old q ≡ true))
    → ((n : ℕ) → subject_at key.rank ≡ Number n → is_lined after (block_of n) (line_of n) ≡ true)
    → ((b l : ℕ) → is_lined before b l ≡ true → is_lined after b l ≡ true)
    → AreLined old before → AreLined new after
lined-added old new key before after from own keeps lined n id has =
    by_cases (from (subject_version id (Number n)) has)
  where
    by_cases : (subject_version_of key ≡ subject_version id (Number n))
        ⊎ (old (subject_version id (Number n)) ≡ true)
        → is_lined after (block_of n) (line_of n) ≡ true
    by_cases (inl same) = own n (ap (λ (v : SubjectVersion). v.subject) same)
    by_cases (inr had) = keeps (block_of n) (line_of n) (lined n id had)

-- The lines of one block with more lines, and those of all others.
pub lined-set : (old new : List (ℕ × Vec Line)) (block : ℕ) (lines : Vec Line)
    → ((r : ℕ) → lookup (λ b. r == b) new
    ≡ cond (block == r) (Some lines) (lookup (λ b. r == b) old))
    → ((l : ℕ) → is_lined old block l ≡ true → has_line lines.items l ≡ true)
    → (b l : ℕ) → is_lined old b l ≡ true → is_lined new b l ≡ true
lined-set old new block lines is keeps b l had =
    ap (λ o. has_line (items_or_none o) l) (is b) ∙ by_cases (block == b) refl
  where
    by_cases : (x : Bool) → (block == b) ≡ x
        → has_line (items_or_none (cond x (Some lines) (lookup (λ c. b == c) old))) l ≡ true
    by_cases true e =
        keeps l (ap (λ n. is_lined old n l) (equal_number block b e) ∙ had)
    by_cases false e = had

-- A line that a search found is in the list.
pub line-found : (lines : List Line) (place : ℕ) (x : Line) → place < length lines
    → nat_cmp (slice_index_or lines place x).number x.number ≡ Equal
    → has_line lines x.number ≡ true
line-found lines place x inside same =
    list_any_at (λ (y : Line). x.number == y.number) lines place x inside
    (number_equal x.number (slice_index_or lines place x).number
    (sym (nat_cmp-IsAntisymmetric (slice_index_or lines place x).number x.number same)))
