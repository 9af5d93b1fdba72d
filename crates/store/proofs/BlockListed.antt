-- The numbers of a block in use, as the loops over the indexes gather them.
use Rattle.std.proofs.Common.{◌≡◌, ◌<◌, ◌≤◌, ◌⊎◌, inl, inr, ℕ, Bool, true, false, cond, List, [], ◌∷◌, map, Option, Some, None, refl, ap, sym, ◌∙◌, subst, arith}
use Rattle.std.specs.Prelude.{◌==◌, ◌||◌, ◌&&◌, not, is_some, option_map}
use Rattle.std.specs.declared.cmp.Ordering.TheVariants.{Less}
use Rattle.std.specs.declared.ops.Bound.TheVariants.{Included}
use Rattle.std.specs.List.{AllByRecursion, list_any}
use Rattle.std.specs.List.Sorted.{IsStrictlySortedBy}
use Rattle.std.specs.Ordering.{on, is_eq, is_le, is_lt, nat_cmp, ordering_then, eq_by_cmp}
use Rattle.std.specs.Cmp.{nat_cmp_total, eq_by_cmp_equiv}
use Rattle.std.specs.Map.{lookup, keys_of}
use Rattle.std.specs.BTreeMap as tree
use Rattle.std.specs.BTreeMap.{BTreeMap, is_at}
use Rattle.std.specs.BTreeMap.Range.{entries_between, range_contains}
use Rattle.std.specs.FinMap.{FinMap, get, empty, get-empty, nat_cmp-IsAntisymmetric}
use Rattle.std.proofs.lemmas.Bool.Decides.{nat_tests}
use Rattle.numbers.specs.Digits.{block_of, line_of, number_in}
use Rattle.numbers.specs.Subjects.{Subject, Number, Block, subject_key}
use Rattle.numbers.specs.declared.line.Line.{Line}
use Rattle.numbers.specs.declared.tn.Tn.{Tn}
use Rattle.model.specs.Content.{Content, VersionRow}
use Rattle.version.specs.declared.in_use.NumberInUse.{NumberInUse}
use Rattle.settle.specs.Reads.{HasRowInForce, HasOpenRow, IsOpen, Reflects, IsInBlock, AreInBlock}
use Rattle.settle.specs.declared.rows.NumberedRow.{NumberedRow}
use Rattle.store.specs.Maps.{set, IsSet}
use Rattle.store.specs.SubjectRows.{has_line, is_lined, lines_of}
use Rattle.store.specs.VersionRows.{rows_of}
use Rattle.store.specs.Tables.{content_of, AreIndexed, AreVersionsIndexed, HasVersion, SubjectVersion, subject_version, subject_version_of, subject_version_cmp}
use Rattle.store.specs.BlockRows.{lowest, highest, tn_of, own_number, number_of, number_at, marked_in_force, marked_open, only_in_force, and_open, with_number, marked, marks_of, AreMarks, number_in_use}
use Rattle.store.specs.declared.blocks.Marks.{Marks}
use Rattle.store.specs.declared.tables.Tables.{Tables}
use Rattle.store.specs.declared.keys.SubjectVersion.{SubjectVersion as SubjectVersionImpl}
use Rattle.store.proofs.Maps.{get-map_of, set_map_of, entry-of, get-set}
use Rattle.store.proofs.Orders.{subject_version_total, subject_version_exact}
use Rattle.store.proofs.Listed.{Among, contained, all-places, among-mapped}
use Rattle.store.proofs.SubjectsListed.{all-of, filtered-among, found-entry}
use Rattle.numbers.proofs.Small.{impossible, true-false, or_true, same_number, equal_number, tied, true_both, or_false}

-- ---- what a loop gathers

-- Whether the number is the one that is there.
abbrev is_number : ℕ → Option ℕ → Bool
is_number n None = false
is_number n (Some k) = eq_by_cmp nat_cmp k n

or-assoc : (a b c : Bool) → ((a || b) || c) ≡ (a || (b || c))
or-assoc true b c = refl
or-assoc false b c = refl

module _ (mark : Option Marks → Marks) where
  with-get : (o : Option ℕ) (m : FinMap nat_cmp Marks) (n : ℕ)
      → get (with_number mark o m) n ≡ cond (is_number n o) (Some (mark (get m n))) (get m n)
  with-get None m n = refl
  with-get (Some k) m n = get-set nat_cmp_total nat_cmp-IsAntisymmetric m k (Some (mark (get m k)))
      n ∙ by_cases (eq_by_cmp nat_cmp k n) refl
    where
      by_cases : (b : Bool) → eq_by_cmp nat_cmp k n ≡ b → cond b (Some (mark (get m k))) (get m n)
          ≡ cond b (Some (mark (get m n))) (get m n)
      by_cases true same =
          ap (λ q. Some (mark (get m q))) (nat_cmp-IsAntisymmetric k n (tied (nat_cmp k n) same))
      by_cases false other = refl

  module _ (column : VersionRow → Option Subject) (block : ℕ) (versions : FinMap nat_cmp VersionRow)
      (n : ℕ) where
    abbrev names : SubjectVersionImpl × Unit {0} → Bool
    names e = is_number n (number_at column block (get versions e.0.id))

    -- A property that the mark gives is true of a number if it was so before or the loop met the
    -- number.
    met : (see : Option Marks → Bool) → ((o : Option Marks) → see (Some (mark o)) ≡ true)
        → (es : List (SubjectVersionImpl × Unit {0})) (m : FinMap nat_cmp Marks) →
        see (get (marked mark column block versions es m) n) ≡ (see (get m n) || list_any names es)
    met see says [] m = sym (or_false (see (get m n)))
    met see says (e ∷ es) m =
        met see says es (with_number mark (number_at column block (get versions e.0.id)) m)
        ∙ ap (λ b. b || list_any names es)
        (ap see (with-get (number_at column block (get versions e.0.id)) m n) ∙ by_cases (names e))
        ∙ or-assoc (see (get m n)) (names e) (list_any names es)
      where
        by_cases : (b : Bool) → see (cond b (Some (mark (get m n))) (get m n))
            ≡ (see (get m n) || b)
        by_cases true = says (get m n) ∙ sym (or_true (see (get m n)))
        by_cases false = sym (or_false (see (get m n)))

    -- A property that the mark keeps stays.
    kept : (see : Option Marks → Bool) → ((o : Option Marks) → see (Some (mark o)) ≡ see o)
        → (es : List (SubjectVersionImpl × Unit {0})) (m : FinMap nat_cmp Marks) →
        see (get (marked mark column block versions es m) n) ≡ see (get m n)
    kept see says [] m = refl
    kept see says (e ∷ es) m =
        kept see says es (with_number mark (number_at column block (get versions e.0.id)) m)
        ∙ ap see (with-get (number_at column block (get versions e.0.id)) m n) ∙ by_cases (names e)
      where
        by_cases : (b : Bool) → see (cond b (Some (mark (get m n))) (get m n)) ≡ see (get m n)
        by_cases true = says (get m n)
        by_cases false = refl

    -- A property that the mark never gives stays false.
    never : (see : Option Marks → Bool) → ((o : Option Marks) → see (Some (mark o)) ≡ false)
        → (es : List (SubjectVersionImpl × Unit {0})) (m : FinMap nat_cmp Marks) →
        see (get m n) ≡ false → see (get (marked mark column block versions es m) n) ≡ false
    never see says [] m none = none
    never see says (e ∷ es) m none =
        never see says es (with_number mark (number_at column block (get versions e.0.id)) m)
        (ap see (with-get (number_at column block (get versions e.0.id)) m n) ∙ by_cases (names e))
      where
        by_cases : (b : Bool) → see (cond b (Some (mark (get m n))) (get m n)) ≡ false
        by_cases true = says (get m n)
        by_cases false = none

-- ---- the block's part of an index

from_first : (b n i : ℕ) → block_of n ≡ b
    → is_le (ordering_then (nat_cmp (subject_key (Number (number_in b 0))) (subject_key (Number n)))
    (nat_cmp 0 i)) ≡ true
from_first b n i own = first (subject_key (Number (number_in b 0))) (subject_key (Number n)) i
    (omega (arith, own))
  where
    first : (x y j : ℕ) → x ≤ y → is_le (ordering_then (nat_cmp x y) (nat_cmp 0 j)) ≡ true
    first x y j below = grind (arith, nat_tests)

to_last : (b n i : ℕ) → block_of n ≡ b → i < 18446744073709551616 →
    not (is_lt (ordering_then (nat_cmp (subject_key (Number (number_in b 999)))
    (subject_key (Number n))) (nat_cmp 18446744073709551615 i))) ≡ true
to_last b n i own small = last (subject_key (Number (number_in b 999))) (subject_key (Number n)) i
    (omega (arith, own)) small
  where
    last : (x y j : ℕ) → y ≤ x → j < 18446744073709551616
        → not (is_lt (ordering_then (nat_cmp x y) (nat_cmp 18446744073709551615 j))) ≡ true
    last x y j above fits = grind (arith, nat_tests)

abbrev is_between : (lo hi : SubjectVersionImpl) → SubjectVersionImpl → Bool
is_between lo hi k = range_contains (on subject_version_of subject_version_cmp) (Included lo)
    (Included hi) k

module _ (block : ℕ) (lo hi : SubjectVersionImpl) (low : subject_version_of lo ≡ lowest block)
    (high : subject_version_of hi ≡ highest block) where
  within : (k : SubjectVersionImpl) (n id : ℕ) → subject_version_of k ≡ record {
    subject = Number n;
    id = id;
  } → block_of n ≡ block → id < 18446744073709551616 → is_between lo hi k ≡ true
  within k n id same own small =
      (λ i. is_le (subject_version_cmp (low i) (same i)) && not
      (is_lt (subject_version_cmp (high i) (same i))))
      ∙ true_both _ _ (from_first block n id own) (to_last block n id own small)

  -- ---- the number's rows in the part

  module _ (column : VersionRow → Option Subject) (versions : FinMap nat_cmp VersionRow)
      (index : BTreeMap SubjectVersionImpl (Unit {0}))
      (indexed : AreVersionsIndexed subject_version_cmp subject_version_of
      (λ id row. option_map (subject_version id) (column row)) versions index)
      (part : List (SubjectVersionImpl × Unit {0})) (is_part : part ≡ entries_between
      (on subject_version_of subject_version_cmp) (Included lo) (Included hi) index.entries)
      (n : ℕ) where
    -- Holds if a row has the number in the column.
    abbrev Has : Type 0
    Has = (id : ℕ) × (row : VersionRow) × (get versions id ≡ Some row)
        × (column row ≡ Some (Number n))

    abbrev is_met : SubjectVersionImpl × Unit {0} → Bool
    is_met e = is_number n (number_at column block (get versions e.0.id))

    own-is : (s : Subject) → is_number n (own_number block s) ≡ true → (block_of n ≡ block)
        × (s ≡ Number n)
    own-is (Block b) e = let f : false ≡ true = e in cc
    own-is (Number k) e = by_cases (block_of k == block) refl e
      where
        by_cases : (t : Bool) → (block_of k == block) ≡ t
            → is_number n (cond t (Some k) None) ≡ true
            → (block_of n ≡ block) × (Number k ≡ Number n)
        by_cases true own same =
            let number : k ≡ n = nat_cmp-IsAntisymmetric k n (tied (nat_cmp k n) same) in (
              ap block_of (sym number) ∙ equal_number (block_of k) block own,
              ap (λ q. Number q) number,
            )
        by_cases false own same = let f : false ≡ true = same in cc

    number-is : (id : ℕ) (o : Option VersionRow) → get versions id ≡ o
        → is_number n (number_at column block o) ≡ true → (block_of n ≡ block) × Has
    number-is id None at e = let f : false ≡ true = e in cc
    number-is id (Some row) at e = by_cases (column row) refl e
      where
        by_cases : (o : Option Subject) → column row ≡ o → is_number n (number_of block o) ≡ true
            → (block_of n ≡ block) × Has
        by_cases None has f = let no : false ≡ true = f in cc
        by_cases (Some s) has f = let p = own-is s f in
            (p.0, (id, row, at, has ∙ ap (λ q. Some q) p.1))

    met-from : (es : List (SubjectVersionImpl × Unit {0})) → list_any is_met es ≡ true
        → (block_of n ≡ block) × Has
    met-from [] e = let f : false ≡ true = e in cc
    met-from (x ∷ xs) e = by_cases (met-from xs) (is_met x) refl e
      where
        by_cases : (list_any is_met xs ≡ true → (block_of n ≡ block) × Has) → (t : Bool)
            → is_met x ≡ t
            → (t || list_any is_met xs) ≡ true → (block_of n ≡ block) × Has
        by_cases later true same f = number-is x.0.id (get versions x.0.id) refl same
        by_cases later false other f = later f

    among-met : (es : List (SubjectVersionImpl × Unit {0})) (e : SubjectVersionImpl × Unit {0})
        → Among e es → is_met e ≡ true → list_any is_met es ≡ true
    unfolding Among
    among-met [] e there is = absurd there
    among-met (x ∷ xs) e (inl same) is = ap (λ b. b || list_any is_met xs) (ap is_met same ∙ is)
    among-met (x ∷ xs) e (inr there) is = ap (λ b. is_met x || b) (among-met xs e there is)
        ∙ or_true (is_met x)

    has-met : block_of n ≡ block → Has → list_any is_met part ≡ true
    has-met own has =
        let there : HasVersion index (Number n) has.0 =
        indexed has.0 has.1 (subject_version has.0 (Number n)) has.2
        (ap (option_map (subject_version has.0)) has.3) in
        let q = entry-of subject_version_of (λ (u : Unit {0}). u) subject_version_total
        subject_version_exact index (record { subject = Number n; id = has.0 }) there.1 in
        let e = found-entry (is_at (on subject_version_of subject_version_cmp q.0)) index.entries
        q.2 in
        let same : subject_version_of e.0.0 ≡ record { subject = Number n; id = has.0 } =
        sym (subject_version_exact (subject_version_of q.0) (subject_version_of e.0.0) (tied _ e.2))
        ∙ q.1 in
        let inside : Among e.0 part =
        subst (Among e.0) (sym is_part)
        (filtered-among (λ (d : SubjectVersionImpl × Unit {0}). is_between lo hi d.0) e.0
        index.entries e.1 (within e.0.0 n has.0 same own there.0)) in
        let here : is_met e.0 ≡ true =
        ap (λ (v : SubjectVersion). is_number n (number_at column block (get versions v.id))) same
        ∙ ap (λ o. is_number n (number_at column block o)) has.2
        ∙ ap (λ o. is_number n (number_of block o)) has.3
        ∙ ap (λ b. is_number n (cond b (Some n) None)) (ap (λ b. b == block) own
        ∙ same_number block) ∙ (eq_by_cmp_equiv nat_cmp_total).refl n in
        among-met part e.0 inside here

    -- A number is met if and only if it is of the block and a row has it in the column.
    reflects : (b : Bool) → b ≡ list_any is_met part → Reflects b ((block_of n ≡ block) × Has)
    reflects true is = met-from part (sym is)
    reflects false is = λ p. let f : false ≡ true = is ∙ has-met p.0 p.1 in cc

-- ---- the numbers in force

-- Writing the marks of a number.
marked-one : (mark : Option Marks → Marks) (old new : BTreeMap Tn Marks) (tn : Tn)
    (new_marks : Marks) → new_marks ≡ mark (tree.get (on tn_of nat_cmp) old tn)
    → IsSet (on tn_of nat_cmp) old new tn (Some new_marks)
    → marks_of new ≡ with_number mark (Some (tn_of tn)) (marks_of old)
marked-one mark old new tn new_marks marks written =
    set_map_of tn_of (λ (s : Marks). s) nat_cmp_total nat_cmp-IsAntisymmetric old new tn
    (Some new_marks) written
    ∙ ap (λ s. set (marks_of old) (tn_of tn) (Some s)) (marks
    ∙ ap mark (seen (tree.get (on tn_of nat_cmp) old tn)
    ∙ sym (get-map_of tn_of (λ (s : Marks). s) nat_cmp_total nat_cmp-IsAntisymmetric old tn)))
  where
    seen : (o : Option Marks) → o ≡ option_map (λ (s : Marks). s) o
    seen None = refl
    seen (Some s) = refl

-- A loop step marks the number of its key.
pub marked-step : (mark : Option Marks → Marks) (column : VersionRow
    → Option Subject) (block : ℕ) (versions : FinMap nat_cmp VersionRow) (e : SubjectVersionImpl
    × Unit {0}) (rest : List (SubjectVersionImpl × Unit {0})) (old new : BTreeMap Tn Marks)
    (tn : Tn) (new_marks : Marks) →
    Some (tn_of tn) ≡ number_at column block (get versions e.0.id)
    → new_marks ≡ mark (tree.get (on tn_of nat_cmp) old tn)
    → IsSet (on tn_of nat_cmp) old new tn (Some new_marks) →
    marked mark column block versions rest (marks_of new) ≡ marked mark column block versions
    (e ∷ rest) (marks_of old)
marked-step mark column block versions e rest old new tn new_marks is marks written =
    ap (marked mark column block versions rest) (marked-one mark old new tn new_marks marks written)
    ∙ ap (λ o. marked mark column block versions rest (with_number mark o (marks_of old))) is

-- ---- the open numbers

-- Holds if of the numbers in force the same are marked, and of the open ones those whose lines are
-- not left.
pub record AreMarkedBefore (c : Content) (block : ℕ) (first m : FinMap nat_cmp Marks)
    (left : List Line) : Type 0 where
  pub in_force : (n : ℕ) → marked_in_force (get m n) ≡ marked_in_force (get first n)
  pub in_use : (n : ℕ) → is_some (get m n) ≡ (marked_in_force (get m n) || marked_open (get m n))
  pub opened : (n : ℕ) → marked_open (get m n) ≡ true → (block_of n ≡ block)
      × HasOpenRow c (Number n)
  pub rest : (n : ℕ) → block_of n ≡ block → HasOpenRow c (Number n)
      → (marked_open (get m n) ≡ true) ⊎ (has_line left (line_of n) ≡ true)

-- A number of the block with this line.
number-made : (n block line : ℕ) → block_of n ≡ block → line_of n ≡ line → n ≡ number_in block line
number-made n block line own same = omega (arith, own, same)

-- A number is of the block if it is made of it and a line.
of-block : (n block : ℕ) (line : Line) → n ≡ number_in block line.number → block_of n ≡ block
of-block n block line is = omega (arith, is, line.valid)

module _ (c : Content) (block : ℕ) (first : FinMap nat_cmp Marks) (line : Line)
    (left next : List Line) (is_left : left ≡ line ∷ next) where
  -- A line that is left is this one or is left afterwards.
  later : (l : ℕ) → has_line left l ≡ true → (l ≡ line.number) ⊎ (has_line next l ≡ true)
  later l there = by_cases (l == line.number) refl (sym (ap (λ ls. has_line ls l) is_left) ∙ there)
    where
      by_cases : (b : Bool) → (l == line.number) ≡ b → (b || has_line next l) ≡ true
          → (l ≡ line.number) ⊎ (has_line next l ≡ true)
      by_cases true e it = inl (equal_number l line.number e)
      by_cases false e it = inr it

  -- A line whose number is not open is passed.
  pub line-passed : (m : FinMap nat_cmp Marks)
      → (HasOpenRow c (Number (number_in block line.number)) → ⊥)
      → AreMarkedBefore c block first m left → AreMarkedBefore c block first m next
  line-passed m closed was = record {
    in_force = was.in_force;
    in_use = was.in_use;
    opened = was.opened;
    rest = λ n own has. by_cases n own has (was.rest n own has);
  }
    where
      here : (n : ℕ) → block_of n ≡ block → HasOpenRow c (Number n)
          → (line_of n ≡ line.number) ⊎ (has_line next (line_of n) ≡ true)
          → (marked_open (get m n) ≡ true) ⊎ (has_line next (line_of n) ≡ true)
      here n own has (inl same) =
          absurd (closed (subst (λ k. HasOpenRow c (Number k))
          (number-made n block line.number own same) has))
      here n own has (inr more) = inr more

      by_cases : (n : ℕ) → block_of n ≡ block → HasOpenRow c (Number n)
          → (marked_open (get m n) ≡ true) ⊎ (has_line left (line_of n) ≡ true)
          → (marked_open (get m n) ≡ true) ⊎ (has_line next (line_of n) ≡ true)
      by_cases n own has (inl marks) = inl marks
      by_cases n own has (inr there) = here n own has (later (line_of n) there)

  -- A line whose number is open is marked.
  pub line-marked : (old new : BTreeMap Tn Marks) (tn : Tn) (new_marks : Marks)
      → tn_of tn ≡ number_in block line.number → HasOpenRow c (Number (tn_of tn))
      → new_marks ≡ and_open (tree.get (on tn_of nat_cmp) old tn)
      → IsSet (on tn_of nat_cmp) old new tn (Some new_marks)
      → AreMarkedBefore c block first (marks_of old) left
      → AreMarkedBefore c block first (marks_of new) next
  line-marked old new tn new_marks is has marks written was = record {
    in_force = λ n. ap marked_in_force (at n) ∙ stays n (eq_by_cmp nat_cmp (tn_of tn) n)
        ∙ was.in_force n;
    in_use = λ n. subst (λ o. is_some o ≡ (marked_in_force o || marked_open o)) (sym (at n))
        (used n (eq_by_cmp nat_cmp (tn_of tn) n));
    opened = λ n. subst (λ o. marked_open o ≡ true → (block_of n ≡ block)
        × HasOpenRow c (Number n)) (sym (at n)) (opens n (eq_by_cmp nat_cmp (tn_of tn) n) refl);
    rest = λ n own opened. subst (λ o. (marked_open o ≡ true) ⊎ (has_line next (line_of n) ≡ true))
        (sym (at n)) (more n own (eq_by_cmp nat_cmp (tn_of tn) n) refl (was.rest n own opened));
  }
    where
      known : ℕ → Option Marks
      known n = get (marks_of old) n

      at : (n : ℕ) → get (marks_of new) n
          ≡ cond (eq_by_cmp nat_cmp (tn_of tn) n) (Some (and_open (known n))) (known n)
      at n = ap (λ m. get m n) (marked-one and_open old new tn new_marks marks written)
          ∙ with-get and_open (Some (tn_of tn)) (marks_of old) n

      same : (n : ℕ) → eq_by_cmp nat_cmp (tn_of tn) n ≡ true → tn_of tn ≡ n
      same n e = nat_cmp-IsAntisymmetric (tn_of tn) n (tied _ e)

      stays : (n : ℕ) (b : Bool) → marked_in_force (cond b (Some (and_open (known n))) (known n))
          ≡ marked_in_force (known n)
      stays n true = refl
      stays n false = refl

      used : (n : ℕ) (b : Bool) → is_some (cond b (Some (and_open (known n))) (known n))
          ≡ (marked_in_force (cond b (Some (and_open (known n))) (known n))
          || marked_open (cond b (Some (and_open (known n))) (known n)))
      used n true = sym (or_true (marked_in_force (known n)))
      used n false = was.in_use n

      opens : (n : ℕ) (b : Bool) → eq_by_cmp nat_cmp (tn_of tn) n ≡ b
          → marked_open (cond b (Some (and_open (known n))) (known n)) ≡ true
          → (block_of n ≡ block) × HasOpenRow c (Number n)
      opens n true e it = (
        of-block n block line (sym (same n e) ∙ is),
        subst (λ k. HasOpenRow c (Number k)) (same n e) has,
      )
      opens n false e it = was.opened n it

      unmarked : (n : ℕ) → eq_by_cmp nat_cmp (tn_of tn) n ≡ false → tn_of tn ≡ n → ⊥
      unmarked n e same_tn = true-false (eq_by_cmp nat_cmp (tn_of tn) n)
          (ap (eq_by_cmp nat_cmp (tn_of tn)) (sym same_tn)
          ∙ (eq_by_cmp_equiv nat_cmp_total).refl (tn_of tn)) e

      more : (n : ℕ) → block_of n ≡ block → (b : Bool) → eq_by_cmp nat_cmp (tn_of tn) n ≡ b
          → (marked_open (known n) ≡ true) ⊎ (has_line left (line_of n) ≡ true)
          → (marked_open (cond b (Some (and_open (known n))) (known n)) ≡ true)
          ⊎ (has_line next (line_of n) ≡ true)
      more n own true e it = inl refl
      more n own false e (inl it) = inl it
      more n own false e (inr it) = by_cases (later (line_of n) it)
        where
          by_cases : (line_of n ≡ line.number) ⊎ (has_line next (line_of n) ≡ true)
              → (marked_open (known n) ≡ true) ⊎ (has_line next (line_of n) ≡ true)
          by_cases (inl here) = absurd (unmarked n e
              (is ∙ sym (number-made n block line.number own here)))
          by_cases (inr there) = inr there

-- What a look-up of an open version says.
pub opened-is : (c : Content) (s : Subject) (o : Option NumberedRow) → IsOpen c s o
    → is_some o ≡ true → HasOpenRow c s
opened-is c s None is e = impossible (sym e)
opened-is c s (Some v) is e = (v.id, v.row, is.0, is.1)

pub closed-is : (c : Content) (s : Subject) (o : Option NumberedRow) → IsOpen c s o
    → is_some o ≡ false → HasOpenRow c s → ⊥
closed-is c s None is e has = is has.0 has.1 has.2 has.3
closed-is c s (Some v) is e has = impossible e

-- ---- the marks of all numbers

module _ (t : Tables) (block : ℕ) (indexed : AreIndexed t)
    (low high : SubjectVersionImpl) (is_low : subject_version_of low ≡ lowest block)
    (is_high : subject_version_of high ≡ highest block)
    (in_force : List (SubjectVersionImpl × Unit {0}))
    (are_held : in_force ≡ entries_between (on subject_version_of subject_version_cmp)
    (Included low)
    (Included high) t.holds.keys.entries) (first : FinMap nat_cmp Marks)
    (is_first : first ≡ marked only_in_force (λ row. row.holds) block (rows_of t.versions) in_force
    empty) where
  abbrev any_held : ℕ → Bool
  any_held n = list_any (names only_in_force (λ row. row.holds) block (rows_of t.versions) n)
      in_force

  first-in_force : (n : ℕ) (see : Option Marks → Bool)
      → ((o : Option Marks) → see (Some (only_in_force o)) ≡ true) → see None ≡ false
      → see (get first n) ≡ any_held n
  first-in_force n see says none =
      ap (λ m. see (get m n)) is_first
      ∙ met only_in_force (λ row. row.holds) block (rows_of t.versions) n see says in_force empty
      ∙ ap (λ b. b || any_held n) (ap see (get-empty nat_cmp n) ∙ none)

  none-opened : (n : ℕ) → marked_open (get first n) ≡ false
  none-opened n =
      ap (λ m. marked_open (get m n)) is_first
      ∙ never only_in_force (λ row. row.holds) block (rows_of t.versions) n
      marked_open (λ o. refl) in_force empty (ap marked_open (get-empty nat_cmp n))

  -- Before the loop over the lines no open number is marked.
  pub all-left : AreMarkedBefore (content_of t) block first first
      (lines_of t.opens.lines.entries block)
  all-left = record {
    in_force = λ n. refl;
    in_use = λ n. first-in_force n is_some (λ o. refl) refl ∙ sym (or_false (any_held n))
        ∙ (λ i. sym (first-in_force n marked_in_force (λ o. refl) refl) i
        || sym (none-opened n) i);
    opened = λ n it. true-false (marked_open (get first n)) it (none-opened n);
    rest = λ n own has. inr (subst (λ b. is_lined t.opens.lines.entries b (line_of n) ≡ true) own
        (t.opens.are_lined n has.0 (indexed.1 has.0 has.1 (subject_version has.0 (Number n)) has.2
        (ap (option_map (subject_version has.0)) has.3)).1));
  }

  pub marks-are : (m : FinMap nat_cmp Marks) → AreMarkedBefore (content_of t) block first m []
      → AreMarks (content_of t) block m
  marks-are m all = record {
    in_force = λ n. reflects block low high is_low is_high (λ row. row.holds) (rows_of t.versions)
        t.holds.keys
        indexed.0
        in_force are_held n (marked_in_force (get m n))
        (all.in_force n ∙ first-in_force n marked_in_force (λ o. refl) refl);
    opened = λ n. by_cases n (marked_open (get m n)) (all.opened n)
        (λ p. all.rest n p.0 p.1);
    in_use = all.in_use;
  }
    where
      none : {b : Bool} → (b ≡ true) ⊎ (false ≡ true) → b ≡ true
      none (inl e) = e
      none (inr f) = impossible (sym f)

      by_cases : (n : ℕ) (b : Bool)
          → (b ≡ true → (block_of n ≡ block) × HasOpenRow (content_of t) (Number n))
          → ((block_of n ≡ block) × HasOpenRow (content_of t) (Number n)
          → (b ≡ true) ⊎ (false ≡ true))
          → Reflects b ((block_of n ≡ block) × HasOpenRow (content_of t) (Number n))
      by_cases n true there back = there refl
      by_cases n false there back = λ p. impossible (sym (none (back p)))

-- ---- the list

narrowed : (P Q : Type 0) (b : Bool) → Reflects b (P × Q) → P → Reflects b Q
narrowed P Q true is p = is.1
narrowed P Q false is p = λ q. is (p, q)

sure : (P : Type 0) (b : Bool) → Reflects b P → P → b ≡ true
sure P true is p = refl
sure P false is p = absurd (is p)

own-of : (P Q R : Type 0) (a b : Bool) → (a || b) ≡ true → Reflects a (P × Q) → Reflects b (P × R)
    → P
own-of P Q R true b e one other = one.0
own-of P Q R false true e one other = other.0
own-of P Q R false false e one other = let f : false ≡ true = e in cc

among-in_use : (e : Tn × Marks) (es : List (Tn × Marks)) → Among e es
    → Among (number_in_use e) (map number_in_use es)
unfolding Among
among-in_use e [] is = absurd is
among-in_use e (x ∷ xs) (inl same) = inl (ap number_in_use same)
among-in_use e (x ∷ xs) (inr there) = inr (among-in_use e xs there)

-- The list is in the order of the entries' keys.
sorted-in_use : (es : List (Tn × Marks)) → IsStrictlySortedBy (on tn_of nat_cmp) (keys_of es)
    → IsStrictlySortedBy (on (λ (x : NumberInUse). x.tn.number) nat_cmp) (map number_in_use es)
unfolding IsStrictlySortedBy
sorted-in_use [] sorted = tt
sorted-in_use (e ∷ es) sorted = (above es sorted.0, sorted-in_use es sorted.1)
  where
    above : (xs : List (Tn × Marks)) → AllByRecursion (λ k. nat_cmp (tn_of e.0) (tn_of k) ≡ Less)
        (keys_of xs) → AllByRecursion (λ (x : NumberInUse). nat_cmp (tn_of e.0) x.tn.number ≡ Less)
        (map number_in_use xs)
    above [] all = tt
    above (x ∷ xs) all = (all.0, above xs all.1)

picked : (P : Tn → Type 0) (es : List (Tn × Marks)) (e : Tn × Marks)
    → AllByRecursion P (keys_of es) → Among e es → P e.0
unfolding Among
picked P [] e all there = absurd there
picked P (x ∷ xs) e all (inl same) = subst (λ (y : Tn × Marks). P y.0) same all.0
picked P (x ∷ xs) e all (inr there) = picked P xs e all.1 there

not-at : (a b : ℕ) → nat_cmp a b ≡ Less → is_eq (nat_cmp b a) ≡ false
not-at a b e = grind (arith, nat_tests)

-- A look-up of an entry's key finds its value.
own-value : (es : List (Tn × Marks)) (e : Tn × Marks)
    → IsStrictlySortedBy (on tn_of nat_cmp) (keys_of es) → Among e es
    → lookup (is_at (on tn_of nat_cmp e.0)) es ≡ Some e.1
unfolding Among IsStrictlySortedBy
own-value [] e sorted there = absurd there
own-value (x ∷ xs) e sorted (inl same) =
    ap (λ (y : Tn × Marks). cond (is_at (on tn_of nat_cmp e.0) y.0) (Some y.1)
    (lookup (is_at (on tn_of nat_cmp e.0)) xs)) same
    ∙ ap (λ b. cond b (Some e.1) (lookup (is_at (on tn_of nat_cmp e.0)) xs))
    ((eq_by_cmp_equiv nat_cmp_total).refl (tn_of e.0))
own-value (x ∷ xs) e sorted (inr there) =
    ap (λ b. cond b (Some x.1) (lookup (is_at (on tn_of nat_cmp e.0)) xs))
    (not-at (tn_of x.0) (tn_of e.0) (picked (λ k. nat_cmp (tn_of x.0) (tn_of k) ≡ Less) xs e
    sorted.0 there))
    ∙ own-value xs e sorted.1 there

module _ (c : Content) (block : ℕ) (numbers : BTreeMap Tn Marks)
    (ordered : tree.IsOrdered (on tn_of nat_cmp) numbers)
    (known : AreMarks c block (marks_of numbers)) where
  abbrev at : ℕ → Option Marks
  at n = get (marks_of numbers) n

  in-block-is : (e : Tn × Marks) → Among e numbers.entries → IsInBlock c block (number_in_use e)
  in-block-is e there = record {
    own = own;
    is_in_force = narrowed (block_of (tn_of e.0) ≡ block) (HasRowInForce c (Number (tn_of e.0)))
        e.1.is_in_force in_force own;
    is_open = narrowed (block_of (tn_of e.0) ≡ block) (HasOpenRow c (Number (tn_of e.0)))
        e.1.is_open
        opened own;
    in_use = in_use;
  }
    where
      found : at (tn_of e.0) ≡ Some e.1
      found = get-map_of tn_of (λ (s : Marks). s) nat_cmp_total nat_cmp-IsAntisymmetric numbers
          e.0 ∙ ap (option_map (λ (s : Marks). s)) (own-value numbers.entries e ordered there)

      in_force : Reflects e.1.is_in_force ((block_of (tn_of e.0) ≡ block)
          × HasRowInForce c (Number (tn_of e.0)))
      in_force = subst (λ o. Reflects (marked_in_force o) ((block_of (tn_of e.0) ≡ block)
          × HasRowInForce c (Number (tn_of e.0)))) found (known.in_force (tn_of e.0))

      opened : Reflects e.1.is_open ((block_of (tn_of e.0) ≡ block)
          × HasOpenRow c (Number (tn_of e.0)))
      opened = subst (λ o. Reflects (marked_open o) ((block_of (tn_of e.0) ≡ block)
          × HasOpenRow c (Number (tn_of e.0)))) found (known.opened (tn_of e.0))

      in_use : (e.1.is_in_force || e.1.is_open) ≡ true
      in_use = sym (subst (λ o. is_some o ≡ (marked_in_force o || marked_open o)) found
          (known.in_use (tn_of e.0)))

      own : block_of (tn_of e.0) ≡ block
      own = own-of (block_of (tn_of e.0) ≡ block) (HasRowInForce c (Number (tn_of e.0)))
          (HasOpenRow c (Number (tn_of e.0))) e.1.is_in_force e.1.is_open in_use in_force opened

  pub in-block-are : (found : List NumberInUse) → found ≡ map number_in_use numbers.entries
      → AreInBlock c block found
  in-block-are found is = record {
    each = λ n own used.
        let there : is_some (at n) ≡ true = known.in_use n ∙ stands n own used in
        let q = entry-of tn_of (λ (s : Marks). s) nat_cmp_total nat_cmp-IsAntisymmetric numbers n
        there in
        let e = found-entry (is_at (on tn_of nat_cmp q.0)) numbers.entries q.2 in
        let same : tn_of e.0.0 ≡ n =
        sym (nat_cmp-IsAntisymmetric (tn_of q.0) (tn_of e.0.0) (tied _ e.2)) ∙ q.1 in (
          number_in_use e.0,
          contained (number_in_use e.0) found (subst (Among (number_in_use e.0)) (sym is)
              (among-in_use e.0 numbers.entries e.1)),
          same,
        );
    only = all-places (IsInBlock c block) found (all-of (IsInBlock c block) found (λ x there.
        let e = among-mapped number_in_use x numbers.entries (subst (Among x) is there) in
        subst (IsInBlock c block) e.2 (in-block-is e.0 e.1)));
    rises = subst (IsStrictlySortedBy (on (λ (x : NumberInUse). x.tn.number) nat_cmp)) (sym is)
        (sorted-in_use numbers.entries ordered);
  }
    where
      stands : (n : ℕ) → block_of n ≡ block → HasRowInForce c (Number n) ⊎ HasOpenRow c (Number n)
          → (marked_in_force (at n) || marked_open (at n)) ≡ true
      stands n own (inl holds) =
          ap (λ b. b || marked_open (at n)) (sure ((block_of n ≡ block)
          × HasRowInForce c (Number n))
          (marked_in_force (at n)) (known.in_force n) (own, holds))
      stands n own (inr opens) =
          ap (λ b. marked_in_force (at n) || b) (sure ((block_of n ≡ block)
          × HasOpenRow c (Number n))
          (marked_open (at n)) (known.opened n) (own, opens)) ∙ or_true (marked_in_force (at n))
