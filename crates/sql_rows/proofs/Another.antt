-- The query for a download of a broadcast that is pending for another carrier.
use Rattle.std.proofs.Common.{◌≡◌, ◌≢◌, ℕ, pos, List, [], ◌∷◌, map, filter, Bool, true, false, not, ◌&&◌, Some, None, inl, refl, sym, ap, subst, ◌∙◌, true≢false, take, Less, Equal, Greater}
use Rattle.std.specs.Ordering.{nat_cmp, is_eq, is_ne}
use Rattle.std.specs.FinMap.{get}
use Rattle.std.specs.List.Sorted.{IsPermutation}
use Rattle.std.proofs.lemmas.List.Sorted.{IsPermutation-sym}
use Rattle.std.specs.declared.cmp.Ordering.{Ordering}
use Rattle.sqlite.specs.declared.types.Value.{Value}
use Rattle.sqlite.specs.declared.types.Value.TheVariants.{Int, Text}
use Rattle.sqlite.specs.Order.{Row, column, value_cmp}
use Rattle.sqlite.specs.Ops.{binary, is_true}
use Rattle.sqlite_sql.specs.declared.ops.BinaryOp.TheVariants.{Compare}
use Rattle.sqlite_sql.specs.declared.ops.CompareOp.TheVariants.{Ne}
use Rattle.sqlite.specs.Collation.TheVariants.{Binary}
use Rattle.sqlite.specs.Query.{Query as Asked, IsAnswer, output, Output}
use Rattle.sqlite.specs.Program.{overlay}
use Rattle.sqlite.specs.Tree.{Trees}
use Rattle.sqlite_rules.specs.Lists.{Has}
use Rattle.sqlite_rules.proofs.ListLemmas.{has_filtered}
use Rattle.numbers.specs.Subjects.{Subject}
use Rattle.numbers.specs.declared.spid.Spid.{Spid}
use Rattle.numbers.specs.declared.ported.Subject.{Subject as SubjectImpl}
use Rattle.settle.specs.declared.rows.WaitKey.{WaitKey as WaitKeyImpl}
use Rattle.model.specs.Content.{WaitKey, wait_cmp, wait_key}
use Rattle.model.proofs.KeyOrders.{wait_total}
use Rattle.sql_rows.specs.Content.{content_in, wait_entry, wait_in, wait_shown}
use Rattle.sql_rows.specs.Found.{IsSoleAnswer}
use Rattle.sql_rows.specs.Statements.{query_of, query_test}
use Rattle.sql_rows.specs.Values.{spid_in, spid_value}
use Rattle.sql_rows.specs.declared.statement.Query.TheVariants.{WaitOfAnother}
use Rattle.sql_rows.proofs.DueLemmas.{has_permuted, same_head}
use Rattle.sql_rows.proofs.Inversions.{minute_read, number_read, spid_read, wait_reads}
use Rattle.sql_rows.proofs.KeyTests.{both, equal_numbers, equal_spids, equals, four_of, wait_params}
use Rattle.sql_rows.proofs.Listed.{from_mapped, has_mapped}
use Rattle.sql_rows.proofs.Lookups.{entry_from, none_passes, some_of}
use Rattle.sql_rows.proofs.OnceLemmas.{true_of}
use Rattle.sql_rows.proofs.Orders.{same_number, same_wait}
use Rattle.sql_rows.proofs.QueriesListed.{same_told, wait_seen}
use Rattle.sql_rows.proofs.QueryLemmas.{passes, picked, map_twice}
use Rattle.numbers.proofs.Small.{and_both, true_both}

-- ---- the test

abbrev differs : Value → Value → Bool
differs v w = is_true (binary (Compare Ne Binary) v w)

negated : (o : Ordering) → is_ne o ≡ not (is_eq o)
negated Less = refl
negated Equal = refl
negated Greater = refl

differ_texts : (a b : List ℕ) → differs (Text a) (Text b) ≡ not (equals (Text a) (Text b))
unfolding binary
differ_texts a b =
    true_of _ ∙ negated (value_cmp (Text a) (Text b)) ∙ ap not (sym (true_of _))

different : (m n : ℕ) → m ≢ n → not (is_eq (nat_cmp m n)) ≡ true
different m n other = by_cases (is_eq (nat_cmp m n)) refl
  where
    by_cases : (b : Bool) → is_eq (nat_cmp m n) ≡ b → not b ≡ true
    by_cases true e = absurd (other (same_number m n e))
    by_cases false e = refl

not_same : (m n : ℕ) → not (is_eq (nat_cmp m n)) ≡ true → m ≢ n
not_same m n h same = true≢false (sym h ∙ ap not (same_told m n same))

-- Holds of the downloads of this broadcast that are pending for another carrier.
record IsOfAnother (carrier minute id attempt : ℕ) (k : WaitKey) : Type 0 where
  of : k.id ≡ id
  sent : k.attempt ≡ attempt
  at : k.minute ≡ minute
  other : k.carrier ≢ carrier

module _ (s : Spid) (minute id attempt : ℕ) where
  abbrev params : Row
  params = wait_params s minute id attempt

  abbrev passed : Row → Bool
  passed = passes (query_test WaitOfAnother) params

  tests : (r : Row) (k : WaitKey) (v : Subject) → wait_entry r ≡ Some (k, v)
      → passed r
      ≡ (is_eq (nat_cmp k.id id) && (is_eq (nat_cmp k.attempt attempt)
      && (is_eq (nat_cmp k.minute minute) && not (is_eq (nat_cmp k.carrier s.number)))))
  tests r k v is =
      let reads = wait_reads r (k, v) is in
      let col = spid_read (column r 1) k.carrier reads.carrier in
      ap (λ v. both (equals v (Int (pos id)) ∷ equals (column r 4) (Int (pos attempt)) ∷ equals
      (column r 2) (Int (pos minute)) ∷ differs (column r 1) (spid_value s.number) ∷ []))
      (number_read (column r 3) k.id reads.id)
      ∙ ap (λ v. both (equals (Int (pos k.id)) (Int (pos id)) ∷ equals v (Int (pos attempt))
      ∷ equals (column r 2) (Int (pos minute)) ∷ differs (column r 1) (spid_value s.number) ∷ []))
      (number_read (column r 4) k.attempt reads.attempt)
      ∙ ap (λ v. both (equals (Int (pos k.id)) (Int (pos id)) ∷ equals (Int (pos k.attempt))
      (Int (pos attempt)) ∷ equals v (Int (pos minute)) ∷ differs (column r 1)
      (spid_value s.number) ∷ [])) (minute_read (column r 2) k.minute reads.minute)
      ∙ ap (λ v. both (equals (Int (pos k.id)) (Int (pos id)) ∷ equals (Int (pos k.attempt))
      (Int (pos attempt)) ∷ equals (Int (pos k.minute)) (Int (pos minute)) ∷ differs v
      (spid_value s.number) ∷ [])) col
      ∙ rw (
        equal_numbers k.id id,
        equal_numbers k.attempt attempt,
        equal_numbers k.minute minute,
        differ_texts _ _ ∙ ap not (equal_spids k.carrier s (ap spid_in (sym col) ∙ reads.carrier)),
      ) (four_of (is_eq (nat_cmp k.id id)) (is_eq (nat_cmp k.attempt attempt))
      (is_eq (nat_cmp k.minute minute)) (not (is_eq (nat_cmp k.carrier s.number))))

  said : (r : Row) (k : WaitKey) (v : Subject) → wait_entry r ≡ Some (k, v) → passed r ≡ true
      → IsOfAnother s.number minute id attempt k
  said r k v is h =
      let a = and_both _ _ (sym (tests r k v is) ∙ h) in
      let b = and_both _ _ a.1 in
      let c = and_both _ _ b.1 in
      record {
        of = same_number k.id id a.0;
        sent = same_number k.attempt attempt b.0;
        at = same_number k.minute minute c.0;
        other = not_same k.carrier s.number c.1;
      }

  told : (r : Row) (k : WaitKey) (v : Subject) → wait_entry r ≡ Some (k, v)
      → IsOfAnother s.number minute id attempt k → passed r ≡ true
  told r k v is h = tests r k v is ∙ true_both _ _ (same_told k.id id h.of)
      (true_both _ _ (same_told k.attempt attempt h.sent)
      (true_both _ _ (same_told k.minute minute h.at) (different k.carrier s.number h.other)))

  -- ---- the answer

  abbrev asked : Asked
  asked = query_of WaitOfAnother

  abbrev out : Row → Output
  out r = ([], wait_shown r)

  -- The answer has no row if none passes, or else one that passes.
  data Found (db : Trees) (rows : List Row) : Type 0 where
    nothing : rows ≡ [] → filter passed (db 10) ≡ [] → Found db rows
    one : (r : Row) → Has (db 10) r → passed r ≡ true → rows ≡ wait_shown r ∷ [] → Found db rows

  found : (db : Trees) (rows : List Row) → IsAnswer asked (overlay db []) params rows
      → Found db rows
  found db rows a = by_cases a.ordered a.same a.shown
    where
      picks : List Row
      picks = filter passed (db 10)

      kept : a.kept ≡ map out picks
      kept =
          let staged : a.staged ≡ map (λ r. params ∷ r ∷ []) picks =
          a.grouped ∙ picked passed (λ r. params ∷ r ∷ []) (db 10) in
          a.distinct ∙ ap (map (output asked)) staged ∙ map_twice (output asked)
          (λ r. params ∷ r ∷ []) picks

      none : (xs : List Row) → IsPermutation (map out xs) [] → xs ≡ []
      none [] p = refl
      none (x ∷ xs) p = absurd (has_permuted (map out (x ∷ xs)) [] (out x) p (inl refl))

      by_cases : (ordered : List Output) → IsPermutation a.kept ordered
          → rows ≡ take 1 (map (λ (o : Output). o.1) ordered) → Found db rows
      by_cases [] same shown =
          nothing shown (none picks (subst (λ l. IsPermutation l []) kept same))
      by_cases (o ∷ rest) same shown =
          let p : IsPermutation (map out picks) (o ∷ rest) =
          subst (λ l. IsPermutation l (o ∷ rest)) kept same in
          let at = from_mapped out picks o
          (has_permuted (o ∷ rest) (map out picks) o (IsPermutation-sym _ _ p) (inl refl)) in
          let r = has_filtered passed (db 10) at.0 at.1 in
          one at.0 r.0 r.1 (shown ∙ ap (λ (e : Output). e.1 ∷ []) at.2)

  module _ (db : Trees) where
    -- If there is no answer, each pending download of the broadcast is this carrier's.
    pub no_other : IsSoleAnswer WaitOfAnother wait_in db params None → (k : ℕ) (v : Subject)
        → get (content_in db).waits (wait_key k minute id attempt) ≡ Some v → k ≡ s.number
    no_other h k v got = by_cases (found db h.0 h.1) (is_eq (nat_cmp k s.number)) refl
      where
        by_cases : Found db h.0 → (b : Bool) → is_eq (nat_cmp k s.number) ≡ b → k ≡ s.number
        by_cases answer true e = same_number k s.number e
        by_cases (one r at is shows) false e = absurd (let x = sym h.2 ∙ shows in cc)
        by_cases (nothing shows none) false e =
            let key = wait_key k minute id attempt in
            let f = entry_from wait_cmp wait_total wait_in wait_shown same_wait (db 10) key v got in
            absurd (none_passes passed (db 10) f.row none f.has (told f.row key v f.reads (record {
              of = refl;
              sent = refl;
              at = refl;
              other = not_same k s.number (ap not e);
            })))

    -- An answer is a pending download of the broadcast, and another carrier's.
    pub other_waits : (w : WaitKeyImpl × SubjectImpl)
        → IsSoleAnswer WaitOfAnother wait_in db params (Some (wait_seen w))
        → (w.0.carrier.number ≢ s.number) × ((v : Subject)
        × (get (content_in db).waits (wait_key w.0.carrier.number minute id attempt) ≡ Some v))
    other_waits w h = by_cases (found db h.0 h.1)
      where
        keyed : (k : WaitKey) → IsOfAnother s.number minute id attempt k
            → k ≡ wait_key k.carrier minute id attempt
        keyed k it =
            ap (λ m. wait_key k.carrier m k.id k.attempt) it.at
            ∙ ap (λ m. wait_key k.carrier minute m k.attempt) it.of
            ∙ ap (wait_key k.carrier minute id) it.sent

        by_cases : Found db h.0 → (w.0.carrier.number ≢ s.number) × ((v : Subject)
            × (get (content_in db).waits (wait_key w.0.carrier.number minute id attempt) ≡ Some v))
        by_cases (nothing shows none) = absurd (let x = sym h.2.1 ∙ shows in cc)
        by_cases (one r at is shows) =
            let same : h.2.0 ≡ wait_shown r = same_head _ _ (sym h.2.1 ∙ shows) in
            let reads : wait_entry r ≡ Some (wait_seen w) = ap wait_in (sym same) ∙ h.2.2 in
            let it = said r (wait_seen w).0 (wait_seen w).1 reads is in
            let got = some_of wait_cmp wait_total wait_in wait_shown same_wait (db 10) r
            (wait_seen w).0 (wait_seen w).1 at reads in (
              it.other,
              (got.0, ap (get (content_in db).waits) (sym (keyed (wait_seen w).0 it)) ∙ got.1),
            )
