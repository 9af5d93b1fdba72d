-- The first rows of a carrier's queue, from a query with a limit.
use Rattle.std.proofs.Common.{◌≡◌, ◌⊎◌, inl, inr, ℕ, zero, suc, ◌≤◌, ◌+◌, pos, List, [], ◌∷◌, map, filter, take, drop, length, slice_index_or, Bool, true, false, Some, refl, sym, ap, ap₂, subst, ◌∙◌, true≢false, Less, Equal, Greater, arith}
use Rattle.std.proofs.lemmas.List.{length-map}
use Rattle.std.specs.declared.cmp.Ordering.{Ordering}
use Rattle.std.specs.Ordering.{nat_cmp, int_cmp, is_lt, is_eq, ordering_then, ordering_reverse}
use Rattle.std.specs.Cmp.{IsStrictWeakOrder, nat_cmp_total, tied_itself}
use Rattle.std.specs.FinMap.{get, nat_cmp-IsAntisymmetric}
use Rattle.std.specs.List.Sorted.{IsPermutation, IsSortedBy}
use Rattle.std.proofs.lemmas.List.Sorted.{IsPermutation-sym}
use Rattle.std.proofs.lemmas.Int.{ints}
use Rattle.std.proofs.lemmas.Bool.Decides.{nat_tests}
use Rattle.sqlite.specs.declared.types.Value.TheVariants.{Int}
use Rattle.sqlite.specs.Order.{Row, column, value_cmp}
use Rattle.sqlite.specs.Query.{Query as Asked, output, Output, output_cmp}
use Rattle.sqlite.specs.Tree.{Trees}
use Rattle.sqlite_value.proofs.OrderLemmas.{value_cmp-Int}
use Rattle.sqlite_sql.proofs.QueryLemmas.{key_cmp_total}
use Rattle.sqlite_rules.specs.Lists.{Has}
use Rattle.sqlite_rules.proofs.ListLemmas.{has_filtered, has_kept}
use Rattle.numbers.specs.Subjects.{Subject}
use Rattle.numbers.specs.declared.spid.Spid.{Spid}
use Rattle.model.specs.Content.{WaitKey, wait_key}
use Rattle.sql_rows.specs.Content.{content_in, wait_in, wait_shown, wait_entry}
use Rattle.sql_rows.specs.Found.{IsListAnswer}
use Rattle.sql_rows.specs.Once.{HasUniqueKeys}
use Rattle.sql_rows.specs.Statements.{query_of, query_test}
use Rattle.sql_rows.specs.Values.{spid_in, spid_value}
use Rattle.sql_store.specs.Lists.{WaitRow}
use Rattle.sql_rows.specs.declared.statement.Query.TheVariants.{WaitsFirst}
use Rattle.sql_rows.proofs.DueLemmas.{first_least, has_permuted, ranks_by}
use Rattle.sql_rows.proofs.Inversions.{minute_read, number_read, spid_read, wait_reads}
use Rattle.sql_rows.proofs.KeyTests.{column_passes, equal_spids}
use Rattle.sql_rows.proofs.Listed.{from_mapped, has_mapped, read_as, read_from}
use Rattle.sql_rows.proofs.Lookups.{entry_from, entry_of}
use Rattle.sql_rows.proofs.Orders.{same_number, same_wait}
use Rattle.model.proofs.KeyOrders.{wait_total}
use Rattle.sql_rows.proofs.Picked.{Says}
use Rattle.sql_rows.proofs.QueriesListed.{wait_seen}
use Rattle.sql_rows.proofs.QueryLemmas.{passes, picked, map_twice}
use Rattle.sql_store.specs.Queues.{AreFront, wait_order}
use Rattle.sql_store.proofs.QueueLemmas.{has_dropped, has_taken, taken_or_left}

-- ---- lists

module _ {X : Type 0} where
  take_map : {Y : Type 0} (f : X → Y) (n : ℕ) (xs : List X) → take n (map f xs) ≡ map f (take n xs)
  take_map f zero xs = refl
  take_map f (suc n) [] = refl
  take_map f (suc n) (x ∷ xs) = ap (λ l. f x ∷ l) (take_map f n xs)

  full_if_left : (n : ℕ) (xs : List X) (y : X) → Has (drop n xs) y → length (take n xs) ≡ n
  full_if_left zero xs y at = refl
  full_if_left (suc n) [] y at = absurd at
  full_if_left (suc n) (x ∷ xs) y at = ap suc (full_if_left n xs y at)

  tail_sorted : (lt : X → X → Bool) (x : X) (xs : List X) → IsSortedBy lt (x ∷ xs)
      → IsSortedBy lt xs
  tail_sorted lt x xs up k d low high =
      let next : suc k + 1 ≡ suc (k + 1) = omega arith in
      subst (λ j. lt (slice_index_or (x ∷ xs) j d) (slice_index_or xs k d) ≡ false) next
      (up (suc k) d (omega arith) (omega (arith, high)))

  one_or_all : {P Q : X → Type 0} (xs : List X) → ((x : X) → Has xs x → P x ⊎ Q x)
      → ((x : X) × Has xs x × P x) ⊎ ((x : X) → Has xs x → Q x)
  one_or_all [] each = inr (λ x at. absurd at)
  one_or_all {P} {Q} (x ∷ xs) each = elim (each x (inl refl)) [
    | inl hit ↦ inl (x, inl refl, hit)
    | inr miss ↦ elim (one_or_all xs (λ y at. each y (inr at))) [
      | inl found ↦ inl (found.0, inr found.1, found.2)
      | inr all ↦ inr (λ y at. elim at [
        | inl same ↦ subst Q (sym same) miss
        | inr more ↦ all y more
      ])
    ]
  ]

never_below : (lt : Output → Output → Bool) (o : IsStrictWeakOrder lt) (n : ℕ) (xs : List Output)
    → IsSortedBy lt xs → (x y : Output) → Has (take n xs) x → Has (drop n xs) y → lt y x ≡ false
never_below lt o zero xs up x y first rest = absurd first
never_below lt o (suc n) [] up x y first rest = absurd first
never_below lt o (suc n) (z ∷ zs) up x y (inl same) rest =
    subst (λ x. lt y x ≡ false) (sym same)
    (first_least lt o z zs up y (inr (has_dropped n zs y rest)))
never_below lt o (suc n) (z ∷ zs) up x y (inr first) rest =
    never_below lt o n zs (tail_sorted lt z zs up) x y first rest

-- ---- the order of three numbers

before_or_same : (p q r : Ordering)
    → is_lt (ordering_then (ordering_reverse p) (ordering_then (ordering_reverse q)
    (ordering_then (ordering_reverse r) Equal))) ≡ false
    → ((p ≡ Equal) × (q ≡ Equal) × (r ≡ Equal)) ⊎ (ordering_then p (ordering_then q r) ≡ Less)
before_or_same Less q r h = inr refl
before_or_same Greater q r h = absurd (true≢false h)
before_or_same Equal Less r h = inr refl
before_or_same Equal Greater r h = absurd (true≢false h)
before_or_same Equal Equal Less h = inr refl
before_or_same Equal Equal Greater h = absurd (true≢false h)
before_or_same Equal Equal Equal h = inl (refl, refl, refl)

of_numbers : (m n : ℕ) → int_cmp (pos m) (pos n) ≡ nat_cmp m n
of_numbers m n = grind (arith, ints, nat_tests)

as_numbers : (m n : ℕ) → value_cmp (Int (pos m)) (Int (pos n)) ≡ ordering_reverse (nat_cmp n m)
as_numbers m n = value_cmp-Int (pos m) (pos n) ∙ of_numbers m n ∙ nat_cmp_total.antisymm m n

abbrev front_query : Asked
front_query = query_of WaitsFirst

abbrev lesser : Output → Output → Bool
lesser a b = is_lt (output_cmp front_query a b)

weak : IsStrictWeakOrder lesser
weak = ranks_by (key_cmp_total (map (λ k. k.1) front_query.order) 0) (λ (o : Output). o.0)

abbrev out : Row → Output
out r = (column r 2 ∷ column r 3 ∷ column r 4 ∷ [], wait_shown r)

-- A row that does not sort before another is after it, or has its place.
behind_or_same : (r s : Row) (a b : WaitKey × Subject) → wait_entry r ≡ Some a
    → wait_entry s ≡ Some b → lesser (out s) (out r) ≡ false
    → ((a.0.minute ≡ b.0.minute) × (a.0.id ≡ b.0.id) × (a.0.attempt ≡ b.0.attempt))
    ⊎ (wait_order a.0 b.0 ≡ Less)
behind_or_same r s a b is other h =
    let x = wait_reads r a is in
    let y = wait_reads s b other in
    let first =
    ap₂ value_cmp (minute_read (column s 2) b.0.minute y.minute)
    (minute_read (column r 2) a.0.minute x.minute) ∙ as_numbers b.0.minute a.0.minute in
    let second =
    ap₂ value_cmp (number_read (column s 3) b.0.id y.id) (number_read (column r 3) a.0.id x.id)
    ∙ as_numbers b.0.id a.0.id in
    let third =
    ap₂ value_cmp (number_read (column s 4) b.0.attempt y.attempt)
    (number_read (column r 4) a.0.attempt x.attempt) ∙ as_numbers b.0.attempt a.0.attempt in
    let told : is_lt (ordering_then (ordering_reverse (nat_cmp a.0.minute b.0.minute))
    (ordering_then (ordering_reverse (nat_cmp a.0.id b.0.id))
    (ordering_then (ordering_reverse (nat_cmp a.0.attempt b.0.attempt)) Equal))) ≡ false =
    ap is_lt (sym
    (ap₂ ordering_then first (ap₂ ordering_then second (ap (λ o. ordering_then o Equal) third))))
    ∙ h
    in
    elim (before_or_same (nat_cmp a.0.minute b.0.minute) (nat_cmp a.0.id b.0.id)
    (nat_cmp a.0.attempt b.0.attempt) told) [
      | inl same ↦ inl (
        nat_cmp-IsAntisymmetric _ _ same.0,
        nat_cmp-IsAntisymmetric _ _ same.1,
        nat_cmp-IsAntisymmetric _ _ same.2,
      )
      | inr less ↦ inr less
    ]

same_key : (a b : WaitKey) → a.carrier ≡ b.carrier → a.minute ≡ b.minute → a.id ≡ b.id
    → a.attempt ≡ b.attempt → a ≡ b
same_key a b c m d t i = wait_key (c i) (m i) (d i) (t i)

-- ---- the first pending downloads

module _ (db : Trees) (once : HasUniqueKeys db) (s : Spid) (n : ℕ) where
  abbrev given : Row
  given = spid_value s.number ∷ Int (pos n) ∷ []

  abbrev passing : Row → Bool
  passing = passes (query_test WaitsFirst) given

  says : Says wait_total same_wait wait_in wait_shown wait_seen passing (λ k v. k.carrier
      ≡ s.number)
  says r k v is =
      let reads = wait_reads r (k, v) is in
      let col = spid_read (column r 1) k.carrier reads.carrier in
      let test : passing r ≡ is_eq (nat_cmp k.carrier s.number) =
      column_passes 1 (spid_value s.number) _ r col ∙ equal_spids k.carrier s (ap spid_in (sym col)
      ∙ reads.carrier) in (
        λ e. same_number k.carrier s.number (sym test ∙ e),
        λ e. test ∙ ap (λ m. is_eq (nat_cmp k.carrier m)) (sym e)
            ∙ ap is_eq (tied_itself nat_cmp_total k.carrier),
      )

  pub front_found : (items : List WaitRow)
      → IsListAnswer WaitsFirst wait_in db given (map wait_seen items)
      → AreFront (content_in db) s.number n items
  front_found items h = record { only = only; each = each }
    where
      picks : List Row
      picks = filter passing (db 10)

      kept : h.1.kept ≡ map out picks
      kept =
          let staged : h.1.staged ≡ map (λ r. given ∷ r ∷ []) picks =
          h.1.grouped ∙ picked passing (λ r. given ∷ r ∷ []) (db 10) in
          h.1.distinct ∙ ap (map (output front_query)) staged ∙ map_twice (output front_query)
          (λ r. given ∷ r ∷ []) picks

      same : IsPermutation (map out picks) h.1.ordered
      same = subst (λ l. IsPermutation l h.1.ordered) kept h.1.same

      rows : h.0 ≡ map (λ (o : Output). o.1) (take n h.1.ordered)
      rows = h.1.shown ∙ take_map (λ (o : Output). o.1) n h.1.ordered

      -- The row of an item is among the first.
      from : (x : WaitRow) → Has items x → (r : Row) × Has (db 10) r × (passing r ≡ true)
          × (wait_entry r ≡ Some (wait_seen x)) × Has (take n h.1.ordered) (out r)
      from x at =
          let f = read_from wait_seen wait_in h.0 items h.2 x at in
          let o = from_mapped (λ (o : Output). o.1) (take n h.1.ordered) f.0
          (subst (λ l. Has l f.0) rows f.1) in
          let m = from_mapped out picks o.0 (has_permuted h.1.ordered (map out picks) o.0
          (IsPermutation-sym (map out picks) h.1.ordered same) (has_taken n h.1.ordered o.0 o.1)) in
          let r = has_filtered passing (db 10) m.0 m.1 in (
            m.0,
            r.0,
            r.1,
            ap wait_in (sym (o.2 ∙ ap (λ (o : Output). o.1) m.2)) ∙ f.2,
            subst (Has (take n h.1.ordered)) m.2 o.1,
          )

      only : (x : WaitRow) → Has items x
          → (get (content_in db).waits (wait_seen x).0 ≡ Some (wait_seen x).1)
          × ((wait_seen x).0.carrier ≡ s.number)
      only x at =
          let r = from x at in (
            entry_of _ wait_total wait_in wait_shown same_wait (db 10) once.waits r.0
                (wait_seen x).0 (wait_seen x).1 r.1 r.3,
            (says r.0 (wait_seen x).0 (wait_seen x).1 r.3).0 r.2,
          )

      many : (y : Output) → Has (drop n h.1.ordered) y → n ≤ length items
      many y left =
          let full = full_if_left n h.1.ordered y left in
          let shown = ap length rows ∙ length-map (take n h.1.ordered) (λ (o : Output). o.1) in
          let read = sym (length-map h.0 wait_in) ∙ ap length h.2 ∙ length-map (map wait_seen items)
          Some ∙ length-map items wait_seen in
          omega (arith, full, shown, read)

      same_item : (x : WaitRow) (k : WaitKey) (v : Subject)
          → (get (content_in db).waits (wait_seen x).0 ≡ Some (wait_seen x).1)
          × ((wait_seen x).0.carrier ≡ s.number) → get (content_in db).waits k ≡ Some v
          → k.carrier ≡ s.number
          → ((wait_seen x).0.minute ≡ k.minute) × ((wait_seen x).0.id ≡ k.id)
          × ((wait_seen x).0.attempt ≡ k.attempt) → wait_seen x ≡ (k, v)
      same_item x k v its got holds tied =
          let key = same_key (wait_seen x).0 k (its.1 ∙ sym holds) tied.0 tied.1 tied.2 in
          let both : Some (wait_seen x).1 ≡ Some v = sym its.0 ∙ ap (get (content_in db).waits) key
          ∙ got in
          let value : (wait_seen x).1 ≡ v = cc in
          ap₂ (λ (a : WaitKey) (b : Subject). (a, b)) key value

      each : (k : WaitKey) (v : Subject) → get (content_in db).waits k ≡ Some v
          → k.carrier ≡ s.number
          → ((x : WaitRow) × Has items x × (wait_seen x ≡ (k, v)))
          ⊎ ((n ≤ length items) × ((x : WaitRow) → Has items x
          → wait_order (wait_seen x).0 k ≡ Less))
      each k v got holds =
          let f = entry_from _ wait_total wait_in wait_shown same_wait (db 10) k v got in
          let there =
          has_permuted (map out picks) h.1.ordered (out f.row) same
          (has_mapped out picks f.row (has_kept passing (db 10) f.row f.has
          ((says f.row k v f.reads).1 holds))) in
          elim (taken_or_left n h.1.ordered (out f.row) there) [
            | inl first ↦ inl (read_as wait_seen wait_in h.0 items h.2 (wait_shown f.row) (k, v)
                (subst (λ l. Has l (wait_shown f.row)) (sym rows) (has_mapped (λ (o : Output). o.1)
                (take n h.1.ordered) (out f.row) first)) f.reads)
            | inr left ↦ elim (one_or_all items (λ x at.
                let r = from x at in
                elim (behind_or_same r.0 f.row (wait_seen x) (k, v) r.3 f.reads
                (never_below lesser weak n h.1.ordered h.1.sorted (out r.0) (out f.row) r.4 left)) [
                  | inl tied ↦ inl tied
                  | inr less ↦ inr less
                ])) [
                  | inl one ↦ inl (
                    one.0,
                    one.1,
                    same_item one.0 k v (only one.0 one.1) got holds
                        one.2,
                  )
                  | inr all ↦ inr (many (out f.row) left, all)
                ]
          ]
