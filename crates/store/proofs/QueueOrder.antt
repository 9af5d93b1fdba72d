-- The order of broadcasts when a row changes, its part from a cursor on, and the cursors.
use Rattle.std.proofs.Common.{◌≡◌, inl, inr, ℕ, ◌<◌, Bool, true, false, cond, List, [], ◌∷◌, ◌++◌, length, take, zero, suc, ◌+◌, ◌-◌, Option, Some, None, refl, ap, sym, ◌∙◌, subst, arith}
use Rattle.std.specs.Prelude.{◌==◌, ◌&&◌, ◌||◌, is_some, filter, get_or, IfSome, Result, Ok, Err, OnOk, OnErr}
use Rattle.std.specs.declared.cmp.Ordering.{Ordering}
use Rattle.std.specs.declared.cmp.Ordering.TheVariants.{Less, Equal, Greater}
use Rattle.std.specs.declared.ops.Bound.TheVariants.{Included, Unbounded}
use Rattle.std.specs.List.{AllByRecursion, slice_get}
use Rattle.std.specs.Option.{option_eq, option_to_list}
use Rattle.std.specs.List.Sorted.{IsStrictlySortedBy}
use Rattle.std.specs.Ordering.{on, is_le, is_lt, eq_by_cmp, nat_cmp, ordering_then}
use Rattle.std.specs.Cmp.{tied_itself}
use Rattle.std.specs.Map.{keys_of}
use Rattle.std.specs.BTreeMap as tree
use Rattle.std.specs.BTreeMap.{BTreeMap, is_at}
use Rattle.std.specs.BTreeMap.Range.{entries_between, range_contains}
use Rattle.std.specs.FinMap.{FinMap, get, get-empty, from_entries}
use Rattle.std.proofs.lemmas.Bool.Decides.{nat_tests}
use Rattle.std.proofs.lemmas.List.Folds.{list_any-append, list_any_more}
use Rattle.std.proofs.lemmas.Option.{slice_get_within, get_or_from_slice_get}
use Rattle.std.proofs.lemmas.List.Kept.{IsStrictlySortedBy-filter}
use Rattle.numbers.specs.Subjects.{Subject}
use Rattle.model.specs.Content.{WaitKey, wait_cmp}
use Rattle.delivery.specs.declared.download.DownloadKey.{DownloadKey as DownloadKeyImpl}
use Rattle.settle.specs.Abstraction.{wait_key_of}
use Rattle.settle.specs.declared.rows.WaitKey.{WaitKey as WaitKeyImpl}
use Rattle.numbers.specs.Abstraction.{subject_of}
use Rattle.numbers.specs.declared.ported.Subject.{Subject as SubjectImpl}
use Rattle.store.specs.Batch.{AreNew}
use Rattle.store.specs.About.{has_in}
use Rattle.store.specs.Maps.{set, IsSet, seen_entries}
use Rattle.store.specs.WaitRows.{Download, download_cmp, download_of, wait_for, Waiting, waits_of, rows_of, awaited}
use Rattle.store.specs.QueueRows.{queue_key_of, order_of, Order, has_key, is_among, HasKeysOf, KeepsKeys, KeepsOtherKeys, IsCursor, AreCursors, cursor_in, AreUpTo, AreOf}
use Rattle.store.specs.declared.queue_order.QueueOrder.{QueueOrder as QueueOrderImpl}
use Rattle.store.specs.declared.keys.RowKey.{RowKey as RowKeyImpl}
use Rattle.store.specs.declared.waiting.Waiting.{Waiting as WaitingImpl}
use Rattle.store.proofs.AboutListed.{more-set}
use Rattle.store.proofs.Maps.{entry-of, get-set}
use Rattle.store.proofs.Listed.{Among}
use Rattle.store.proofs.QueueListed.{HasAll}
use Rattle.store.proofs.SubjectsListed.{found-entry, filtered-among}
use Rattle.store.proofs.RowsFlat.{download_total, download_exact, get-waits_of}
use Rattle.store.proofs.RowsChanged.{IsRow}
use Rattle.model.proofs.KeyOrders.{wait_total, wait_exact}
use Rattle.numbers.proofs.Small.{impossible, tied, and_both, true_both, equal_number, number_equal, or_true, or_false}

-- ---- a row changed

-- Without rows, no key is needed.
pub no-keys : (rows : List (RowKeyImpl × WaitingImpl)) (order : Order) → rows ≡ []
    → HasKeysOf (rows_of rows) order
no-keys rows order none d there =
    impossible (sym there ∙ ap (λ es. is_some (get (rows_of es) d)) none
    ∙ ap is_some (get-empty download_cmp d))

module _ (rows : FinMap download_cmp Waiting) (order : Order) (keys : HasKeysOf rows order)
    (d : Download) where
  -- The row of another broadcast has its key.
  other : (new : FinMap download_cmp Waiting) (w : Option Waiting) (q : Download)
      → IsRow rows new d w → eq_by_cmp download_cmp d q ≡ false → is_some (get new q) ≡ true
      → order q ≡ true
  other new w q row t is =
      keys q (sym (ap is_some (row q ∙ ap (λ b. cond b w (get rows q)) t)) ∙ is)

  -- Writing a row and adding its key keeps the keys those of the rows.
  pub keys-added : (new : FinMap download_cmp Waiting) (next : Order) (w : Option Waiting)
      → IsRow rows new d w → next d ≡ true → KeepsKeys order next → HasKeysOf new next
  keys-added new next w row there keeps q is = by_cases (eq_by_cmp download_cmp d q) refl
    where
      by_cases : (b : Bool) → eq_by_cmp download_cmp d q ≡ b → next q ≡ true
      by_cases true t = ap next (sym (download_exact d q (tied _ t))) ∙ there
      by_cases false t = keeps q (other new w q row t is)

  -- Deleting a row and its key leaves the other rows their keys.
  pub keys-removed : (new : FinMap download_cmp Waiting) (next : Order) → IsRow rows new d None
      → KeepsOtherKeys d order next → HasKeysOf new next
  keys-removed new next row keeps q is = by_cases (eq_by_cmp download_cmp d q) refl
    where
      by_cases : (b : Bool) → eq_by_cmp download_cmp d q ≡ b → next q ≡ true
      by_cases true t =
          impossible (sym is ∙ ap is_some (row q ∙ ap (λ b. cond b None (get rows q)) t))
      by_cases false t = keeps q t (other new None q row t is)

  -- A row that is written again has its key.
  pub keys-stay : (new : FinMap download_cmp Waiting) (was now : Waiting)
      → IsRow rows new d (Some now) → get rows d ≡ Some was → HasKeysOf new order
  keys-stay new was now row there =
      keys-added new order (Some now) row (keys d (ap is_some there)) (λ q is. is)

  -- Deleting the key of no row leaves the rows their keys.
  pub keys-kept : (next : Order) → get rows d ≡ None → KeepsOtherKeys d order next
      → HasKeysOf rows next
  keys-kept next none keeps q is = by_cases (eq_by_cmp download_cmp d q) refl
    where
      by_cases : (b : Bool) → eq_by_cmp download_cmp d q ≡ b → next q ≡ true
      by_cases true t =
          impossible (sym is ∙ ap is_some (ap (get rows) (sym (download_exact d q (tied _ t)))
          ∙ none))
      by_cases false t = keeps q t (keys q is)

  -- Adding a key without a row and deleting it leaves the rows their keys.
  pub keys-back : (mid next : Order) → get rows d ≡ None → KeepsKeys order mid
      → KeepsOtherKeys d mid next → HasKeysOf rows next
  keys-back mid next none adds keeps =
      keys-kept next none (λ q apart is. keeps q apart (adds q is))

-- ---- the keys of the order itself

-- An option that equals a value has an equal value.
pub some-equal : {A : Type 0} (eq : A → A → Bool) (o : Option A) (y : A)
    → option_eq eq o (Some y) ≡ true → (x : A) × (o ≡ Some x) × (eq x y ≡ true)
some-equal eq None y e = impossible (sym e)
some-equal eq (Some x) y e = (x, refl, e)

-- Keys with equal fields are the same broadcast's.
pub same-key : (x y : DownloadKeyImpl)
    → ((x.minute.number == y.minute.number) && ((x.id == y.id) && (x.attempt == y.attempt))) ≡ true
    → queue_key_of x ≡ queue_key_of y
same-key x y e =
    let first = and_both _ _ e in
    let second = and_both _ _ first.1 in
    (λ i. record {
      minute = equal_number x.minute.number y.minute.number first.0 i;
      id = equal_number x.id y.id second.0 i;
      attempt = equal_number x.attempt y.attempt second.1 i;
    })

-- The element that is popped is the last.
pub ending : {A : Type 0} (xs front : List A) (n : ℕ) (o : Option A) (x : A) → n ≡ length xs
    → xs ≡ front ++ option_to_list o → slice_get xs (n - 1) ≡ Some x
    → (0 < n → o ≡ Some (get_or xs (n - 1) x)) → xs ≡ front ++ (x ∷ [])
ending xs front n o x long all there last =
    let within : n - 1 < length xs = slice_get_within xs (n - 1) x there in
    all ∙ ap (λ r. front ++ option_to_list r) (last (omega arith)
    ∙ ap (λ y. Some y) (get_or_from_slice_get xs (n - 1) x x there))

-- Deleting the last recent key leaves each key that differs from it.
pub popped : (sorted : BTreeMap DownloadKeyImpl (Unit {0})) (old new : List DownloadKeyImpl)
    (k : DownloadKeyImpl) (d : Download) → old ≡ new ++ (k ∷ [])
    → eq_by_cmp download_cmp (queue_key_of k) d ≡ false
    → (is_some (get (order_of sorted) d) || is_among old d) ≡ true
    → (is_some (get (order_of sorted) d) || is_among new d) ≡ true
popped sorted old new k d more apart is =
    sym (ap (λ b. is_some (get (order_of sorted) d) || b) (ap (λ ks. is_among ks d) more
    ∙ list_any-append (λ x. eq_by_cmp download_cmp (queue_key_of x) d) new (k ∷ [])
    ∙ ap (λ b. is_among new d || (b || false)) apart ∙ or_false (is_among new d)))
    ∙ is

module _ (old new : BTreeMap DownloadKeyImpl (Unit {0})) (key : DownloadKeyImpl)
    (keys : List DownloadKeyImpl) (d : Download)
    (is : IsSet (on queue_key_of download_cmp) old new key None) where
  -- Deleting a sorted key leaves the others.
  pub removed-keeps : eq_by_cmp download_cmp (queue_key_of key) d ≡ false
      → (is_some (get (order_of old) d) || is_among keys d) ≡ true
      → (is_some (get (order_of new) d) || is_among keys d) ≡ true
  removed-keeps apart there =
      ap (λ b. b || is_among keys d) (more-set old new key None is d
      ∙ ap (λ b. cond b false (is_some (get (order_of old) d))) apart)
      ∙ there

  -- Deleting a sorted key adds none.
  pub removed-adds : (is_some (get (order_of new) d) || is_among keys d) ≡ true
      → (is_some (get (order_of old) d) || is_among keys d) ≡ true
  removed-adds there =
      by_cases (eq_by_cmp download_cmp (queue_key_of key) d) (is_some (get (order_of old) d))
      (sym (ap (λ b. b || is_among keys d) (more-set old new key None is d)) ∙ there)
    where
      by_cases : (b c : Bool) → (cond b false c || is_among keys d) ≡ true
          → (c || is_among keys d) ≡ true
      by_cases b true e = refl
      by_cases true false e = e
      by_cases false false e = e

-- Holds if `new` has the keys of `old`, these keys and no others.
abbrev pub AreSorted : (old new : BTreeMap DownloadKeyImpl (Unit {0})) → List DownloadKeyImpl
    → Type 0
AreSorted old new keys = (d : Download) → is_some (get (order_of new) d)
    ≡ (is_some (get (order_of old) d) || is_among keys d)

-- One more key is sorted.
pub more-sorted : (old mid new : BTreeMap DownloadKeyImpl (Unit {0})) (keys : List DownloadKeyImpl)
    (i : ℕ) (k : DownloadKeyImpl) → AreSorted old mid (take i keys) → i < length keys
    → k ≡ get_or keys i k → IsSet (on queue_key_of download_cmp) mid new k (Some tt)
    → AreSorted old new (take (i + 1) keys)
more-sorted old mid new keys i k so_far less at is d =
    more-set mid new k (Some tt) is d
    ∙ by_cases (eq_by_cmp download_cmp (queue_key_of k) d)
    ∙ ap (λ b. is_some (get (order_of old) d) || b)
    (ap (λ x. is_among (take i keys) d || eq_by_cmp download_cmp (queue_key_of x) d) at
    ∙ sym (list_any_more (λ x. eq_by_cmp download_cmp (queue_key_of x) d) keys i k less))
  where
    by_cases : (b : Bool) → cond b true (is_some (get (order_of mid) d))
        ≡ (is_some (get (order_of old) d) || (is_among (take i keys) d || b))
    by_cases true =
        sym (ap (λ b. is_some (get (order_of old) d) || b) (or_true (is_among (take i keys) d))
        ∙ or_true (is_some (get (order_of old) d)))
    by_cases false =
        so_far d ∙ ap (λ b. is_some (get (order_of old) d) || b)
        (sym (or_false (is_among (take i keys) d)))

-- The same if a map has equal entries.
pub same-sorted : (old mid new : BTreeMap DownloadKeyImpl (Unit {0})) (keys : List DownloadKeyImpl)
    → AreSorted old mid keys → new.entries ≡ mid.entries → AreSorted old new keys
same-sorted old mid new keys are same d =
    ap (λ es. is_some (get (from_entries {R = download_cmp} (seen_entries queue_key_of
    (λ (u : Unit {0}). u) es)) d)) same
    ∙ are d

-- A key among the first ones is among all.
among-taken : (i : ℕ) (keys : List DownloadKeyImpl) (d : Download)
    → is_among (take i keys) d ≡ true → is_among keys d ≡ true
among-taken zero keys d is = impossible (sym is)
among-taken (suc i) [] d is = is
among-taken (suc i) (k ∷ keys) d is =
    by_cases (eq_by_cmp download_cmp (queue_key_of k) d) (among-taken i keys d) is
  where
    by_cases : (b : Bool) → (is_among (take i keys) d ≡ true → is_among keys d ≡ true)
        → (b || is_among (take i keys) d) ≡ true → (b || is_among keys d) ≡ true
    by_cases true later e = refl
    by_cases false later e = later e

-- Sorting some keys adds none.
pub sorted-adds : (old new : BTreeMap DownloadKeyImpl (Unit {0})) (keys : List DownloadKeyImpl)
    (i : ℕ) → AreSorted old new (take i keys) → (d : Download)
    → (is_some (get (order_of new) d) || is_among keys d) ≡ true
    → (is_some (get (order_of old) d) || is_among keys d) ≡ true
sorted-adds old new keys i are d is =
    by_cases (is_some (get (order_of old) d)) (is_some (get (order_of new) d)) (are d) is
  where
    by_cases : (b c : Bool) → c ≡ (b || is_among (take i keys) d)
        → (c || is_among keys d) ≡ true → (b || is_among keys d) ≡ true
    by_cases true c e f = refl
    by_cases false true e f = among-taken i keys d (sym e)
    by_cases false false e f = f

-- If each key is sorted, the key of each row is.
pub all-sorted : (rows : FinMap download_cmp Waiting) (old new : QueueOrderImpl)
    → HasKeysOf rows (has_key old) → KeepsKeys (has_key old) (has_key new)
    → new.recent.items ≡ [] → HasKeysOf rows (has_in new.sorted)
all-sorted rows old new keys keeps none d is =
    sym (ap (λ ks. has_in new.sorted d || is_among ks d) none ∙ or_false (has_in new.sorted d))
    ∙ keeps d (keys d is)

-- ---- the part of the order from a cursor on

keys-filtered : {K X : Type 0} (p : K → Bool) (es : List (K × X))
    → keys_of (filter (λ e. p e.0) es) ≡ filter p (keys_of es)
keys-filtered p [] = refl
keys-filtered {K} {X} p (e ∷ es) = by_cases (keys-filtered p es) (p e.0)
  where
    by_cases : keys_of (filter (λ (x : K × X). p x.0) es) ≡ filter p (keys_of es) → (b : Bool)
        → keys_of (cond b (e ∷ filter (λ (x : K × X). p x.0) es) (filter (λ (x : K × X). p x.0) es))
        ≡ cond b (e.0 ∷ filter p (keys_of es)) (filter p (keys_of es))
    by_cases more true = ap (λ ks. e.0 ∷ ks) more
    by_cases more false = more

awaited-there : (c : ℕ) (o : Option Waiting) → is_some (awaited o c) ≡ true → is_some o ≡ true
awaited-there c None e = e
awaited-there c (Some w) e = refl

module _ (order : BTreeMap DownloadKeyImpl (Unit {0})) (start : DownloadKeyImpl)
    (part : List (DownloadKeyImpl × Unit {0})) (is_part : part ≡ entries_between
    (on queue_key_of download_cmp) (Included start) Unbounded order.entries) where
  abbrev inside : DownloadKeyImpl → Bool
  inside k = range_contains (on queue_key_of download_cmp) (Included start) Unbounded k

  part-rises : tree.IsOrdered (on queue_key_of download_cmp) order
      → IsStrictlySortedBy (on queue_key_of download_cmp) (keys_of part)
  part-rises ordered =
      subst (IsStrictlySortedBy (on queue_key_of download_cmp))
      (sym (ap keys_of is_part ∙ keys-filtered inside order.entries))
      (IsStrictlySortedBy-filter (on queue_key_of download_cmp) inside (keys_of order.entries)
      ordered)

  -- Each broadcast that is pending for the carrier is in the part.
  part-whole : (rows : FinMap download_cmp Waiting) (carrier : ℕ)
      → HasKeysOf rows (has_in order) → IsCursor (waits_of rows) carrier (queue_key_of start)
      → HasAll (waits_of rows) carrier part
  part-whole rows carrier keys cursor k mine there =
      let stands : is_some (get (order_of order) (download_of k)) ≡ true =
      keys (download_of k) (awaited-there k.carrier (get rows (download_of k))
      (ap is_some (sym (get-waits_of rows k)) ∙ there)) in
      let q = entry-of queue_key_of (λ (u : Unit {0}). u) download_total download_exact order
      (download_of k) stands in
      let e = found-entry (is_at (on queue_key_of download_cmp q.0)) order.entries q.2 in
      let same : queue_key_of e.0.0 ≡ download_of k =
      sym (download_exact (queue_key_of q.0) (queue_key_of e.0.0) (tied _ e.2)) ∙ q.1 in (
        e.0,
        subst (Among e.0) (sym is_part) (filtered-among (λ (x : DownloadKeyImpl × Unit {0}).
            inside x.0) e.0 order.entries e.1
            (true_both _ _ (ap (λ d. is_le (download_cmp (queue_key_of start) d)) same
            ∙ cursor k mine there) refl)),
        same,
      )

  -- The part rises, and has all that is pending for the carrier.
  pub part-is : (rows : FinMap download_cmp Waiting) (carrier : ℕ) (waits : FinMap wait_cmp Subject)
      → HasKeysOf rows (has_in order) → waits_of rows ≡ waits
      → tree.IsOrdered (on queue_key_of download_cmp) order
      → IsCursor waits carrier (queue_key_of start) → HasAll waits carrier part
      × IsStrictlySortedBy (on queue_key_of download_cmp) (keys_of part)
  part-is rows carrier waits keys view ordered cursor = (
    subst (λ m. HasAll m carrier part) view (part-whole rows carrier keys
        (subst (λ m. IsCursor m carrier (queue_key_of start)) (sym view) cursor)),
    part-rises ordered,
  )

-- ---- a loop from a cursor on

pub not-after-itself : (a : Download) → is_le (download_cmp a a) ≡ true
not-after-itself a = ap is_le (tied_itself download_total a)

pub rest-rises : (x : DownloadKeyImpl × Unit {0}) (rest : List (DownloadKeyImpl × Unit {0}))
    → IsStrictlySortedBy (on queue_key_of download_cmp) (keys_of (x ∷ rest))
    → IsStrictlySortedBy (on queue_key_of download_cmp) (keys_of rest)
unfolding IsStrictlySortedBy
rest-rises x rest rises = rises.1

module _ (waits : FinMap wait_cmp Subject) (carrier : ℕ) (x : DownloadKeyImpl × Unit {0})
    (rest : List (DownloadKeyImpl × Unit {0})) (whole : HasAll waits carrier (x ∷ rest)) where
  -- A broadcast that is not pending for the carrier is passed over.
  pub passed : is_some (get waits (wait_for (queue_key_of x.0) carrier)) ≡ false
      → HasAll waits carrier rest
  unfolding Among
  passed gone k mine there = by_cases (whole k mine there)
    where
      by_cases : (e : DownloadKeyImpl × Unit {0}) × Among e (x ∷ rest)
          × (queue_key_of e.0 ≡ download_of k) → (e : DownloadKeyImpl × Unit {0}) × Among e rest
          × (queue_key_of e.0 ≡ download_of k)
      by_cases (e, inr later, same) = (e, later, same)
      by_cases (e, inl here, same) =
          let at : queue_key_of x.0 ≡ download_of k =
          ap (λ (y : DownloadKeyImpl × Unit {0}). queue_key_of y.0) here ∙ same in
          let is : wait_for (queue_key_of x.0) carrier ≡ k =
          (λ i. wait_for (at i) (sym mine i)) in
          let f : false ≡ true = sym gone ∙ ap (λ z. is_some (get waits z)) is ∙ there in
          cc

  -- No pending download is before the first key of the list.
  pub first-is : IsStrictlySortedBy (on queue_key_of download_cmp) (keys_of (x ∷ rest))
      → IsCursor waits carrier (queue_key_of x.0)
  unfolding Among IsStrictlySortedBy
  first-is ordered k mine there = by_cases (whole k mine there)
    where
      later : (es : List (DownloadKeyImpl × Unit {0})) (e : DownloadKeyImpl × Unit {0})
          → AllByRecursion (λ y. on queue_key_of download_cmp x.0 y ≡ Less) (keys_of es)
          → Among e es → is_le (download_cmp (queue_key_of x.0) (queue_key_of e.0)) ≡ true
      later [] e less is = absurd is
      later (y ∷ ys) e less (inl same) =
          ap (λ (z : DownloadKeyImpl × Unit {0}). is_le (download_cmp (queue_key_of x.0)
          (queue_key_of z.0))) (sym same) ∙ ap is_le less.0
      later (y ∷ ys) e less (inr is) = later ys e less.1 is

      by_cases : (e : DownloadKeyImpl × Unit {0}) × Among e (x ∷ rest)
          × (queue_key_of e.0 ≡ download_of k)
          → is_le (download_cmp (queue_key_of x.0) (download_of k)) ≡ true
      by_cases (e, inl here, same) =
          ap (λ d. is_le (download_cmp (queue_key_of x.0) d))
          (sym (ap (λ (y : DownloadKeyImpl × Unit {0}). queue_key_of y.0) here ∙ same))
          ∙ not-after-itself (queue_key_of x.0)
      by_cases (e, inr is, same) =
          ap (λ d. is_le (download_cmp (queue_key_of x.0) d)) (sym same)
          ∙ later rest e ordered.0 is

-- If the list is empty, no download is pending, so any key will do.
pub none-left : (waits : FinMap wait_cmp Subject) (carrier : ℕ)
    (rest : List (DownloadKeyImpl × Unit {0})) → rest ≡ [] → HasAll waits carrier rest
    → (from : Download) → IsCursor waits carrier from
unfolding Among
none-left waits carrier rest end whole from k mine there =
    let e = whole k mine there in absurd (subst (Among e.0) end e.1)

-- ---- cursors

-- The cursors stay while no download is added.
pub cursors-kept : (cursors : List (ℕ × DownloadKeyImpl)) (old new : FinMap wait_cmp Subject)
    → ((k : WaitKey) → is_some (get new k) ≡ true → is_some (get old k) ≡ true)
    → AreCursors cursors old → AreCursors cursors new
cursors-kept cursors old new fewer are carrier = by_cases (cursor_in cursors carrier) (are carrier)
  where
    by_cases : (o : Option DownloadKeyImpl)
        → IfSome o (λ c. IsCursor old carrier (queue_key_of c))
        → IfSome o (λ c. IsCursor new carrier (queue_key_of c))
    by_cases None is = is
    by_cases (Some c) is = λ k mine there. is k mine (fewer k there)

-- Deleting a download adds none.
pub fewer-taken : (waits : FinMap wait_cmp Subject) (k q : WaitKey)
    → is_some (get (set waits k None) q) ≡ true → is_some (get waits q) ≡ true
fewer-taken waits k q there =
    by_cases (eq_by_cmp wait_cmp k q)
    (sym (ap is_some (get-set wait_total wait_exact waits k None q)) ∙ there)
  where
    by_cases : (b : Bool) → is_some (cond b None (get waits q)) ≡ true
        → is_some (get waits q) ≡ true
    by_cases true is = let f : false ≡ true = is in cc
    by_cases false is = is

-- A download that is put leaves the others.
pub more-put : (waits : FinMap wait_cmp Subject) (k q : WaitKey) (s : Subject)
    → is_some (get waits q) ≡ true → is_some (get (set waits k (Some s)) q) ≡ true
more-put waits k q s there =
    ap is_some (get-set wait_total wait_exact waits k (Some s) q)
    ∙ by_cases (eq_by_cmp wait_cmp k q)
  where
    by_cases : (b : Bool) → is_some (cond b (Some s) (get waits q)) ≡ true
    by_cases true = refl
    by_cases false = there

pub not-after : (a b : Download) → is_lt (download_cmp a b) ≡ false
    → is_le (download_cmp b a) ≡ true
not-after a b e = numbers a.minute a.id a.attempt b.minute b.id b.attempt e
  where
    numbers : (m i n p j q : ℕ)
        → is_lt (ordering_then (nat_cmp m p) (ordering_then (nat_cmp i j) (nat_cmp n q))) ≡ false
        → is_le (ordering_then (nat_cmp p m) (ordering_then (nat_cmp j i) (nat_cmp q n))) ≡ true
    numbers m i n p j q e = grind (arith, nat_tests)

pub less-before : (a b : Download) → is_lt (download_cmp a b) ≡ true
    → is_le (download_cmp a b) ≡ true
less-before a b e = by_cases (download_cmp a b) e
  where
    by_cases : (r : Ordering) → is_lt r ≡ true → is_le r ≡ true
    by_cases Less f = refl
    by_cases Equal f = refl
    by_cases Greater f = f

pub before-both : (a b c : Download) → is_le (download_cmp a b) ≡ true
    → is_le (download_cmp b c) ≡ true → is_le (download_cmp a c) ≡ true
before-both a b c e f =
    numbers a.minute a.id a.attempt b.minute b.id b.attempt c.minute c.id c.attempt e f
  where
    numbers : (m i n p j q s k t : ℕ)
        → is_le (ordering_then (nat_cmp m p) (ordering_then (nat_cmp i j) (nat_cmp n q))) ≡ true
        → is_le (ordering_then (nat_cmp p s) (ordering_then (nat_cmp j k) (nat_cmp q t))) ≡ true
        → is_le (ordering_then (nat_cmp m s) (ordering_then (nat_cmp i k) (nat_cmp n t))) ≡ true
    numbers m i n p j q s k t e f = grind (arith, nat_tests)

-- Holds if one cursor changes.
abbrev pub IsCursorSet : (old new : List (ℕ × DownloadKeyImpl)) → (carrier : ℕ)
    → Option DownloadKeyImpl → Type 0
IsCursorSet old new carrier o = (c : ℕ) → cursor_in new c ≡ cond (carrier == c) o (cursor_in old c)

-- Holds if the cursor is not after the download, nor after the cursor that the carrier had.
abbrev pub IsLower : List (ℕ × DownloadKeyImpl) → WaitKey → DownloadKeyImpl → Type 0
IsLower cursors k c = (is_le (download_cmp (queue_key_of c) (download_of k)) ≡ true)
    × (b : DownloadKeyImpl) × (cursor_in cursors k.carrier ≡ Some b)
    × (is_le (download_cmp (queue_key_of c) (queue_key_of b)) ≡ true)

-- The cursors hold for a new download if that of its carrier is low enough.
pub moved-back : (old new : List (ℕ × DownloadKeyImpl)) (k : WaitKey) (o : Option DownloadKeyImpl)
    (waits : FinMap wait_cmp Subject) (s : Subject) → IsCursorSet old new k.carrier o
    → IfSome o (IsLower old k) → AreCursors old waits → AreCursors new (set waits k (Some s))
moved-back old new k o waits s is low are carrier =
    subst (λ x. IfSome x (λ c. IsCursor (set waits k (Some s)) carrier (queue_key_of c)))
    (sym (is carrier)) (by_cases (k.carrier == carrier) refl)
  where
    was : (q : WaitKey) → is_some (get (set waits k (Some s)) q) ≡ true
        → eq_by_cmp wait_cmp k q ≡ false → is_some (get waits q) ≡ true
    was q there other =
        sym (ap is_some (get-set wait_total wait_exact waits k (Some s) q
        ∙ ap (λ b. cond b (Some s) (get waits q)) other)) ∙ there

    here : (c : DownloadKeyImpl) → IsLower old k c → (q : WaitKey) → q.carrier ≡ carrier
        → k.carrier ≡ carrier → is_some (get waits q) ≡ true
        → is_le (download_cmp (queue_key_of c) (download_of q)) ≡ true
    here c lower q mine own there =
        before-both (queue_key_of c) (queue_key_of lower.1) (download_of q) lower.3
        (subst (λ x. IfSome x (λ y. IsCursor waits k.carrier (queue_key_of y))) lower.2
        (are k.carrier) q (mine ∙ sym own) there)

    mine_too : k.carrier ≡ carrier → (x : Option DownloadKeyImpl) → IfSome x (IsLower old k)
        → IfSome x (λ c. IsCursor (set waits k (Some s)) carrier (queue_key_of c))
    mine_too own None lower = tt
    mine_too own (Some c) lower = λ q mine there. tie q mine there (eq_by_cmp wait_cmp k q) refl
      where
        tie : (q : WaitKey) → q.carrier ≡ carrier
            → is_some (get (set waits k (Some s)) q) ≡ true
            → (b : Bool) → eq_by_cmp wait_cmp k q ≡ b
            → is_le (download_cmp (queue_key_of c) (download_of q)) ≡ true
        tie q mine there true e =
            subst (λ x. is_le (download_cmp (queue_key_of c) (download_of x)) ≡ true)
            (wait_exact k q (tied (wait_cmp k q) e)) lower.0
        tie q mine there false e =
            here c lower q mine own (was q there e)

    others : (k.carrier == carrier) ≡ false → (x : Option DownloadKeyImpl)
        → IfSome x (λ c. IsCursor waits carrier (queue_key_of c))
        → IfSome x (λ c. IsCursor (set waits k (Some s)) carrier (queue_key_of c))
    others strange None from = tt
    others strange (Some c) from = λ q mine there. from q mine (was q there
        (by_tie q mine (eq_by_cmp wait_cmp k q) refl))
      where
        by_tie : (q : WaitKey) → q.carrier ≡ carrier → (b : Bool) → eq_by_cmp wait_cmp k q ≡ b
            → eq_by_cmp wait_cmp k q ≡ false
        by_tie q mine false e = e
        by_tie q mine true e =
            let same : k.carrier ≡ carrier =
            ap (λ (x : WaitKey). x.carrier) (wait_exact k q (tied (wait_cmp k q) e)) ∙ mine in
            let f : true ≡ false = sym (number_equal k.carrier carrier same) ∙ strange in cc

    by_cases : (b : Bool) → (k.carrier == carrier) ≡ b
        → IfSome (cond b o (cursor_in old carrier))
        (λ c. IsCursor (set waits k (Some s)) carrier (queue_key_of c))
    by_cases true e = mine_too (equal_number k.carrier carrier e) o low
    by_cases false e = others e (cursor_in old carrier) (are carrier)

-- The cursors hold after one is moved to a key that no pending download is before.
pub moved : {V E : Type 0} (r : Result V E) (old new : List (ℕ × DownloadKeyImpl)) (carrier : ℕ)
    (c : DownloadKeyImpl) (waits : FinMap wait_cmp Subject)
    → OnOk r (IsCursorSet old new carrier (Some c)) → OnErr r (new ≡ old)
    → IsCursor waits carrier (queue_key_of c) → AreCursors old waits → AreCursors new waits
moved (Err e) old new carrier c waits is same own are =
    subst (λ cs. AreCursors cs waits) (sym same) are
moved (Ok v) old new carrier c waits is same own are =
    λ q. subst (λ x. IfSome x (λ y. IsCursor waits q (queue_key_of y))) (sym (is q))
    (by_cases q (carrier == q) refl)
  where
    by_cases : (q : ℕ) (b : Bool) → (carrier == q) ≡ b
        → IfSome (cond b (Some c) (cursor_in old q)) (λ y. IsCursor waits q (queue_key_of y))
    by_cases q true e =
        subst (λ n. IsCursor waits n (queue_key_of c)) (equal_number carrier q e) own
    by_cases q false e = are q

-- The cursors hold after a put, whether it succeeds or not, if they hold with the new download.
pub cursors-put : {V E : Type 0} (r : Result V E) (cursors : List (ℕ × DownloadKeyImpl))
    (old new : FinMap wait_cmp Subject) (k : WaitKey) (s : Subject)
    → OnOk r (new ≡ set old k (Some s)) → OnErr r (new ≡ old)
    → AreCursors cursors (set old k (Some s)) → AreCursors cursors new
cursors-put (Ok v) cursors old new k s put same are = subst (AreCursors cursors) (sym put) are
cursors-put (Err e) cursors old new k s put same are =
    subst (AreCursors cursors) (sym same)
    (cursors-kept cursors (set old k (Some s)) old (λ q there. more-put old k q s there) are)

-- ---- the latest cursor

-- A cursor that is set to a key up to `latest` leaves all up to it.
pub up-to-set : (old new : List (ℕ × DownloadKeyImpl)) (carrier : ℕ) (o : Option DownloadKeyImpl)
    (latest : Download) → IsCursorSet old new carrier o
    → IfSome o (λ k. is_le (download_cmp (queue_key_of k) latest) ≡ true) → AreUpTo old latest
    → AreUpTo new latest
up-to-set old new carrier o latest is low are c =
    subst (λ x. IfSome x (λ k. is_le (download_cmp (queue_key_of k) latest) ≡ true)) (sym (is c))
    (by_cases (carrier == c))
  where
    by_cases : (b : Bool) → IfSome (cond b o (cursor_in old c))
        (λ k. is_le (download_cmp (queue_key_of k) latest) ≡ true)
    by_cases true = low
    by_cases false = are c

-- The same for an insertion, which may fail.
pub up-to-moved : {V E : Type 0} (r : Result V E) (old new : List (ℕ × DownloadKeyImpl))
    (carrier : ℕ) (k : DownloadKeyImpl) (latest : Download)
    → OnOk r (IsCursorSet old new carrier (Some k)) → OnErr r (new ≡ old)
    → is_le (download_cmp (queue_key_of k) latest) ≡ true → AreUpTo old latest
    → AreUpTo new latest
up-to-moved (Err e) old new carrier k latest is same low are =
    subst (λ cs. AreUpTo cs latest) (sym same) are
up-to-moved (Ok v) old new carrier k latest is same low are =
    up-to-set old new carrier (Some k) latest is low are

-- Cursors up to a key are up to a later one.
pub up-to-later : (cursors : List (ℕ × DownloadKeyImpl)) (latest later : Download)
    → is_le (download_cmp latest later) ≡ true → AreUpTo cursors latest → AreUpTo cursors later
up-to-later cursors latest later low are c = by_cases (cursor_in cursors c) (are c)
  where
    by_cases : (o : Option DownloadKeyImpl)
        → IfSome o (λ k. is_le (download_cmp (queue_key_of k) latest) ≡ true)
        → IfSome o (λ k. is_le (download_cmp (queue_key_of k) later) ≡ true)
    by_cases None is = tt
    by_cases (Some k) is = before-both (queue_key_of k) latest later is low

-- A cursor up to `latest` is not after the cursor that it is moved back from.
pub up-to-at : (cursors : List (ℕ × DownloadKeyImpl)) (carrier : ℕ) (k : DownloadKeyImpl)
    (latest : Download) → cursor_in cursors carrier ≡ Some k → AreUpTo cursors latest
    → is_le (download_cmp (queue_key_of k) latest) ≡ true
up-to-at cursors carrier k latest there are =
    subst (λ o. IfSome o (λ x. is_le (download_cmp (queue_key_of x) latest) ≡ true)) there
    (are carrier)

-- The cursors hold with a new download that is not before the latest one.
pub put-after : (cursors : List (ℕ × DownloadKeyImpl)) (latest : Download) (k : WaitKey)
    (waits : FinMap wait_cmp Subject) (s : Subject)
    → is_le (download_cmp latest (download_of k)) ≡ true → AreUpTo cursors latest
    → AreCursors cursors waits → AreCursors cursors (set waits k (Some s))
put-after cursors latest k waits s after low are carrier =
    by_cases (cursor_in cursors carrier) (low carrier) (are carrier)
  where
    by_cases : (o : Option DownloadKeyImpl)
        → IfSome o (λ c. is_le (download_cmp (queue_key_of c) latest) ≡ true)
        → IfSome o (λ c. IsCursor waits carrier (queue_key_of c))
        → IfSome o (λ c. IsCursor (set waits k (Some s)) carrier (queue_key_of c))
    by_cases None early is = tt
    by_cases (Some c) early is =
        λ q mine there. tie q mine there (eq_by_cmp wait_cmp k q) refl
      where
        tie : (q : WaitKey) → q.carrier ≡ carrier
            → is_some (get (set waits k (Some s)) q) ≡ true
            → (b : Bool) → eq_by_cmp wait_cmp k q ≡ b
            → is_le (download_cmp (queue_key_of c) (download_of q)) ≡ true
        tie q mine there true e =
            subst (λ x. is_le (download_cmp (queue_key_of c) (download_of x)) ≡ true)
            (wait_exact k q (tied (wait_cmp k q) e))
            (before-both (queue_key_of c) latest (download_of k) early after)
        tie q mine there false e =
            is q mine (sym (ap is_some (get-set wait_total wait_exact waits k (Some s) q
            ∙ ap (λ b. cond b (Some s) (get waits q)) e)) ∙ there)

-- The same for all downloads of one broadcast.
pub all-after : (cursors : List (ℕ × DownloadKeyImpl)) (latest d : Download)
    (es : List (WaitKeyImpl × SubjectImpl)) (old new : FinMap wait_cmp Subject)
    → is_le (download_cmp latest d) ≡ true → AreUpTo cursors latest → AreOf d es
    → AreNew es old new → AreCursors cursors old → AreCursors cursors new
all-after cursors latest d [] old new after low of put are =
    subst (AreCursors cursors) (sym put) are
all-after cursors latest d (e ∷ es) old new after low of put are =
    all-after cursors latest d es (set old (wait_key_of e.0) (Some (subject_of e.1))) new after low
    of.1 put.1
    (put-after cursors latest (wait_key_of e.0) old (subject_of e.1)
    (subst (λ x. is_le (download_cmp latest x) ≡ true) (sym of.0) after) low are)
