-- Deadlines added to their index or deleted from it.
use Rattle.std.proofs.Common.{◌≡◌, ℕ, Bool, true, false, cond, Option, Some, None, refl, ap, sym, ◌∙◌, List, take, drop}
use Rattle.std.specs.Prelude.{◌==◌, ◌||◌, ◌≢◌, IfSome, option_map}
use Rattle.std.specs.Ordering.{nat_cmp, is_eq}
use Rattle.std.specs.Cmp.{nat_cmp_total, eq_by_cmp_equiv}
use Rattle.std.specs.FinMap.{nat_cmp-IsAntisymmetric}
use Rattle.std.specs.BTreeMap as tree
use Rattle.std.specs.BTreeMap.{BTreeMap, is_at}
use Rattle.std.specs.Global.{Vec}
use Rattle.std.proofs.lemmas.List.{take-append-drop}
use Rattle.std.proofs.lemmas.List.Folds.{list_any-append}
use Rattle.numbers.proofs.Small.{tied}
use Rattle.store.specs.DueRows.{Due, DueVersion, due_version_of, has_number, numbers_in, ids_due, due_in, HasDue}
use Rattle.store.specs.Maps.{IsSet}
use Rattle.store.specs.declared.keys.DueVersion.{DueVersion as DueVersionImpl}

-- An optional key that is not `k` differs from it.
pub due-other : (o : Option DueVersionImpl) (k : DueVersion)
    → (option_map due_version_of o ≡ Some k → ⊥) → IfSome o (λ t. due_version_of t ≢ k)
due-other None k other = tt
due-other (Some t) k other = λ same. other (ap (λ v. Some v) same)

-- An index has the key that it is said to have.
pub due-there : (index : Due) (o : Option DueVersionImpl) (k : DueVersion) → HasDue index o
    → option_map due_version_of o ≡ Some k → index k ≡ true
due-there index None k has is = let no : None ≡ Some k = is in cc
due-there index (Some t) k has is =
    let same : due_version_of t ≡ k = (let e : Some (due_version_of t) ≡ Some k = is in cc) in
    ap index (sym same) ∙ has

same_tie : (n : ℕ) → is_eq (nat_cmp n n) ≡ true
same_tie n = (eq_by_cmp_equiv nat_cmp_total).refl n

-- The first ids are among all.
pub first-among : (ids : List ℕ) (count id : ℕ) → has_number (take count ids) id ≡ true
    → has_number ids id ≡ true
first-among ids count id has = ap (λ ns. has_number ns id) (sym (take-append-drop count ids))
    ∙ list_any-append (λ n. id == n) (take count ids) (drop count ids)
    ∙ ap (λ b. b || has_number (drop count ids) id) has

-- An id that is not among the last ones is among the first.
pub first-kept : (ids : List ℕ) (count id : ℕ) → has_number ids id ≡ true
    → has_number (drop count ids) id ≡ false → has_number (take count ids) id ≡ true
first-kept ids count id has none = by_cases (has_number (take count ids) id) (sym (either
    ∙ ap (λ b. has_number (take count ids) id || b) none) ∙ has)
  where
    either : has_number ids id ≡ (has_number (take count ids) id || has_number (drop count ids) id)
    either = ap (λ ns. has_number ns id) (sym (take-append-drop count ids))
        ∙ list_any-append (λ n. id == n) (take count ids) (drop count ids)

    by_cases : (b : Bool) → (b || false) ≡ true → b ≡ true
    by_cases true e = refl
    by_cases false e = e

-- The ids of one minute are set, and those of all others stay.
module _ (old new : BTreeMap ℕ (Vec ℕ)) (minute : ℕ) (ids : Option (Vec ℕ))
    (is : IsSet nat_cmp old new minute ids) where
  pub ids-here : ids_due new minute ≡ numbers_in ids
  ids-here = ap numbers_in (is minute) ∙ by_cases (is_eq (nat_cmp minute minute)) refl
    where
      by_cases : (b : Bool) → is_eq (nat_cmp minute minute) ≡ b
          → numbers_in (cond b ids (tree.get nat_cmp old minute)) ≡ numbers_in ids
      by_cases true e = refl
      by_cases false e = let f : false ≡ true = sym e ∙ same_tie minute in cc

  pub ids-set : (q : DueVersion)
      → (minute ≡ q.minute → has_number (numbers_in ids) q.id ≡ true)
      → (due_in old q ≡ true) → due_in new q ≡ true
  ids-set q own had = ap (λ o. has_number (numbers_in o) q.id) (is q.minute)
      ∙ by_cases (is_at (nat_cmp minute) q.minute) refl
    where
      by_cases : (b : Bool) → is_at (nat_cmp minute) q.minute ≡ b
          → has_number (numbers_in (cond b ids (tree.get nat_cmp old q.minute))) q.id ≡ true
      by_cases true e = own (nat_cmp-IsAntisymmetric minute q.minute (tied _ e))
      by_cases false e = had

  -- A key was there before, if it is of another minute or its minute had it.
  pub ids-back : (q : DueVersion)
      → (minute ≡ q.minute → has_number (numbers_in ids) q.id ≡ true → due_in old q ≡ true)
      → due_in new q ≡ true → due_in old q ≡ true
  ids-back q own has = by_cases (is_at (nat_cmp minute) q.minute) refl
      (sym (ap (λ o. has_number (numbers_in o) q.id) (is q.minute)) ∙ has)
    where
      by_cases : (b : Bool) → is_at (nat_cmp minute) q.minute ≡ b
          → has_number (numbers_in (cond b ids (tree.get nat_cmp old q.minute))) q.id ≡ true
          → due_in old q ≡ true
      by_cases true e there =
          own (nat_cmp-IsAntisymmetric minute q.minute (tied _ e)) there
      by_cases false e there = there
