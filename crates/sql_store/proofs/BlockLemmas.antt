-- The list of a block's numbers in use.
use Rattle.std.proofs.Common.{◌≡◌, ◌⊎◌, ℕ, ◌+◌, ◌*◌, ◌≤◌, List, [], ◌∷◌, ◌++◌, map, pos, Bool, true, false, Option, Some, inl, inr, Equal, refl, sym, ap, subst, ◌∙◌, true≢false, arith}
use Rattle.std.specs.Prelude.{◌==◌}
use Rattle.std.specs.FinMap.{nat_cmp-IsAntisymmetric}
use Rattle.std.specs.List.{filter_map}
use Rattle.std.specs.List.Sorted.{IsStrictlySortedBy}
use Rattle.std.specs.Ordering.{nat_cmp, on}
use Rattle.sqlite.specs.Tree.{Trees}
use Rattle.sqlite.specs.declared.types.Value.TheVariants.{Int}
use Rattle.sqlite_rules.specs.Lists.{Has}
use Rattle.sqlite_rules.proofs.ListLemmas.{contains_had, some_has}
use Rattle.numbers.specs.Digits.{block_of}
use Rattle.numbers.specs.Subjects.{Subject, Number, Block}
use Rattle.numbers.specs.declared.tn.Tn.{Tn}
use Rattle.model.specs.Content.{Content, VersionRow}
use Rattle.settle.specs.Reads.{AreInBlock, IsInBlock, Reflects}
use Rattle.settle.specs.declared.rows.NumberedRow.{NumberedRow}
use Rattle.numbers.specs.Routings.{Routing}
use Rattle.std.specs.FinMap.{get}
use Rattle.sql_rows.specs.Content.{bare_in, content_in, nexts_in}
use Rattle.sql_rows.specs.Versions.{rerouted}
use Rattle.sql_rows.proofs.Rerouted.{bare-of, whole-of}
use Rattle.sql_rows.specs.Found.{IsListAnswer}
use Rattle.sql_rows.specs.Shaped.{AreShaped}
use Rattle.sql_rows.specs.Versions.{version_in}
use Rattle.sql_rows.proofs.Inversions.{bind_some}
use Rattle.sql_rows.proofs.Listed.{from_mapped, has_mapped}
use Rattle.sql_rows.proofs.Picked.{Picks}
use Rattle.sql_rows.proofs.QueriesListed.{IsAmong, in_force_picked, open_picked, version_seen}
use Rattle.version.specs.declared.in_use.NumberInUse.{NumberInUse}
use Rattle.sql_store.specs.Blocks.{AreNumbers, HasVersionInRole, is_listed, number_by, number_if, number_in_use, number_of_tn, query_by, subject_by}
use Rattle.sql_store.specs.declared.blocks.Role.{Role}
use Rattle.sql_store.specs.declared.blocks.Role.TheVariants.{InForce, Open}
use Rattle.sql_store.proofs.ListLemmas.{all_there, sorted_map}
use Rattle.sql_store.proofs.MappedLemmas.{from_filter_mapped, has_filter_mapped}
use Rattle.sql_store.proofs.WaiterLemmas.{has_any}
use Rattle.numbers.proofs.Small.{equal_number, or_right, number_equal, or_left}

-- ---- numbers of the block by one column

pub standing_picked : (db : Trees) → AreShaped db
    → (standing : Role) (low high : ℕ) (found : List NumberedRow)
    → IsListAnswer (query_by standing) version_in db (Int (pos low) ∷ Int (pos high) ∷ [])
    (map version_seen found)
    → Picks version_seen (bare_in db).versions (λ id v. IsAmong low high (subject_by standing v))
    found
standing_picked db shaped InForce low high found answer =
    in_force_picked db shaped low high found answer
standing_picked db shaped Open low high found answer = open_picked db shaped low high found answer

number_from : (s : Subject) (n : ℕ) → number_if s ≡ Some n → s ≡ Number n
number_from (Number m) n is = let same : m ≡ n = cc in ap Number same
number_from (Block m) n is = absurd cc

low_of : (n block : ℕ) → block_of n ≡ block → block * 1000 ≤ n
low_of n block is = omega arith

high_of : (n block : ℕ) → block_of n ≡ block → n ≤ block * 1000 + 999
high_of n block is = omega arith

block_from : (n block : ℕ) → block * 1000 ≤ n → n ≤ block * 1000 + 999 → block_of n ≡ block
block_from n block low high = omega arith

pub numbers_are : (c : Content) (standing : Role) (block : ℕ) (found : List NumberedRow)
    (tns : List Tn)
    → Picks version_seen c.versions (λ id v. IsAmong (block * 1000) (block * 1000 + 999)
    (subject_by standing v)) found
    → map number_of_tn tns ≡ filter_map (λ (v : NumberedRow). number_by standing v.row) found
    → AreNumbers c standing block tns
numbers_are c standing block found tns picks are = record {
  each = λ n own stands.
      let among : IsAmong (block * 1000) (block * 1000 + 999) (subject_by standing stands.1) =
      subst (IsAmong (block * 1000) (block * 1000 + 999)) (sym stands.3)
      (low_of n block own, high_of n block own) in
      let x = picks.each stands.0 stands.1 stands.2 among in
      let told : number_by standing x.0.row ≡ Some n =
      ap (λ (e : ℕ × VersionRow). number_by standing e.1) x.2 ∙ by_subject standing stands.1 n
      stands.3 in
      let t = from_mapped number_of_tn tns n (subst (λ l. Has l n) (sym are)
      (has_filter_mapped (λ (v : NumberedRow). number_by standing v.row) found x.0 n x.1 told)) in
      (t.0, t.1, sym t.2);
  only = λ tn at.
      let x = from_filter_mapped (λ (v : NumberedRow). number_by standing v.row) found tn.number
      (subst (λ l. Has l tn.number) are (has_mapped number_of_tn tns tn at)) in
      let s = bind_some number_if (subject_by standing x.0.row) tn.number x.2 in
      let subject : subject_by standing x.0.row ≡ Some (Number tn.number) =
      s.1 ∙ ap Some (number_from s.0 tn.number s.2) in
      let it = picks.only x.0 x.1 in
      let among : IsAmong (block * 1000) (block * 1000 + 999) (Some (Number tn.number)) =
      subst (IsAmong (block * 1000) (block * 1000 + 999)) subject it.1 in
      (block_from tn.number block among.0 among.1, (x.0.id, x.0.row, it.0, subject));
}
  where
    by_subject : (standing : Role) (v : VersionRow) (n : ℕ)
        → subject_by standing v ≡ Some (Number n) → number_by standing v ≡ Some n
    by_subject standing v n is = rw is refl

-- The routing that a version sends does not change its subjects.
module _ (db : Trees) (standing : Role) where
  same_subject : (n : Option Routing) (v : VersionRow) → (by : Role)
      → subject_by by (rerouted n v) ≡ subject_by by v
  same_subject n v InForce = refl
  same_subject n v Open = refl

  stands_whole : (n : ℕ) → HasVersionInRole (bare_in db) standing n
      → HasVersionInRole (content_in db) standing n
  stands_whole n s = (
    s.0,
    rerouted (get (nexts_in (db 16)) s.0) s.1,
    whole-of db s.0 s.1 s.2,
    same_subject (get (nexts_in (db 16)) s.0) s.1 standing ∙ s.3,
  )

  stands_bare : (n : ℕ) → HasVersionInRole (content_in db) standing n
      → HasVersionInRole (bare_in db) standing n
  stands_bare n s = let b = bare-of db s.0 s.1 s.2 in (
    s.0,
    b.0,
    b.1,
    sym (same_subject (get (nexts_in (db 16)) s.0) b.0 standing) ∙ ap (subject_by standing) b.2
        ∙ s.3,
  )

  pub numbers_whole : (block : ℕ) (tns : List Tn) → AreNumbers (bare_in db) standing block tns
      → AreNumbers (content_in db) standing block tns
  numbers_whole block tns are = record {
    each = λ n own stands. are.each n own (stands_bare n stands);
    only = λ tn at. let it = are.only tn at in (it.0, stands_whole tn.number it.1);
  }

-- ---- both columns

told_by : (b : Bool) (So : Type 0) → (b ≡ true → So) → (So → b ≡ true) → Reflects b So
told_by true So says back = says refl
told_by false So says back = λ so. true≢false (sym (back so))

module _ (c : Content) (block : ℕ) (standing : Role) (listed : List Tn)
    (are : AreNumbers c standing block listed) where
  listed_there : (tn : Tn) → Has listed tn → is_listed listed tn ≡ true
  listed_there tn at =
      has_any (λ (t : Tn). t.number == tn.number) listed tn at (number_equal tn.number tn.number
      refl)

  listed_told : (tn : Tn) → block_of tn.number ≡ block
      → Reflects (is_listed listed tn) (HasVersionInRole c standing tn.number)
  listed_told tn own = told_by (is_listed listed tn) (HasVersionInRole c standing tn.number)
      (λ e.
      let t = some_has (λ (t : Tn). t.number == tn.number) listed e in
      subst (HasVersionInRole c standing) (equal_number t.0.number tn.number t.2)
      (are.only t.0 t.1).1)
      (λ stands. let t = are.each tn.number own stands in
      has_any (λ (t : Tn). t.number == tn.number) listed t.0 t.1 (number_equal t.0.number tn.number
      t.2))

has_appended : {X : Type 0} (xs ys : List X) (x : X) → Has (xs ++ ys) x → Has xs x ⊎ Has ys x
has_appended [] ys x at = inr at
has_appended (z ∷ zs) ys x (inl same) = inl (inl same)
has_appended (z ∷ zs) ys x (inr at) = elim (has_appended zs ys x at) [
  | inl first ↦ inl (inr first)
  | inr second ↦ inr second
]

has_first : {X : Type 0} (xs ys : List X) (x : X) → Has xs x → Has (xs ++ ys) x
has_first [] ys x at = absurd at
has_first (z ∷ zs) ys x (inl same) = inl same
has_first (z ∷ zs) ys x (inr at) = inr (has_first zs ys x at)

has_second : {X : Type 0} (xs ys : List X) (x : X) → Has ys x → Has (xs ++ ys) x
has_second [] ys x at = at
has_second (z ∷ zs) ys x at = inr (has_second zs ys x at)

pub block_is : (c : Content) (block : ℕ) (in_force opened tns : List Tn)
    → AreNumbers c InForce block in_force → AreNumbers c Open block opened
    → IsStrictlySortedBy (on number_of_tn nat_cmp) tns
    → ((x : Tn) → Has tns x → Has (in_force ++ opened) x) → ((x : Tn) → Has (in_force ++ opened) x
    → (y : Tn) × Has tns y × (on number_of_tn nat_cmp x y ≡ Equal))
    → AreInBlock c block (map (number_in_use in_force opened) tns)
block_is c block in_force opened tns one two rises only each = record {
  each = λ n own stands.
      let x : (y : Tn) × Has tns y × (y.number ≡ n) = elim stands [
        | inl holds ↦ (let t = one.each n own holds in
            the_number n t.0 (has_first in_force opened t.0 t.1) t.2)
        | inr opens ↦ (let t = two.each n own opens in
            the_number n t.0 (has_second in_force opened t.0 t.1) t.2)
      ] in (
        number_in_use in_force opened x.0,
        contains_had _ _ (has_mapped (number_in_use in_force opened) tns x.0 x.1),
        x.2,
      );
  only = all_there (IsInBlock c block) (map (number_in_use in_force opened) tns) (λ u at.
      let t = from_mapped (number_in_use in_force opened) tns u at in
      subst (IsInBlock c block) (sym t.2) (told t.0 (only t.0 t.1)));
  rises = sorted_map (number_in_use in_force opened) (on (λ (x : NumberInUse). x.tn.number) nat_cmp)
      tns rises;
}
  where
    the_number : (n : ℕ) (tn : Tn) → Has (in_force ++ opened) tn → tn.number ≡ n
        → (y : Tn) × Has tns y × (y.number ≡ n)
    the_number n tn at is = let y = each tn at in
        (y.0, y.1, sym (nat_cmp-IsAntisymmetric tn.number y.0.number y.2) ∙ is)

    told : (tn : Tn) → Has (in_force ++ opened) tn
        → IsInBlock c block (number_in_use in_force opened tn)
    told tn at =
        let where_it_is = has_appended in_force opened tn at in
        let own : block_of tn.number ≡ block = elim where_it_is [
          | inl first ↦ (one.only tn first).0
          | inr second ↦ (two.only tn second).0
        ] in
        record {
          own = own;
          is_in_force = listed_told c block InForce in_force one tn own;
          is_open = listed_told c block Open opened two tn own;
          in_use = elim where_it_is [
            | inl first ↦ or_left _ _ (listed_there c block InForce in_force one tn first)
            | inr second ↦ or_right _ _ (listed_there c block Open opened two tn second)
          ];
        }
