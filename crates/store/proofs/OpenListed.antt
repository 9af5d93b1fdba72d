-- The open broadcasts, as an ordered map of them lists them.
use Rattle.std.proofs.Common.{◌≡◌, ℕ, Bool, true, false, cond, List, [], ◌∷◌, Option, Some, None, refl, ap, sym, ◌∙◌, subst, ◌&&◌, arith}
use Rattle.std.specs.Prelude.{◌==◌, T, filter}
use Rattle.std.proofs.lemmas.Bool.Decides.{nat_tests}
use Rattle.std.proofs.lemmas.Map.Keys.{IsDistinct-head, IsDistinct-tail}
use Rattle.std.specs.declared.cmp.Ordering.{Ordering}
use Rattle.std.specs.declared.cmp.Ordering.TheVariants.{Less, Equal, Greater}
use Rattle.std.specs.Ordering.{on, is_lt, is_eq, eq_by_cmp}
use Rattle.std.specs.List.{AllByRecursion, IsDistinct}
use Rattle.std.specs.Map.{keys_of}
use Rattle.std.specs.BTreeMap as tree
use Rattle.std.specs.BTreeMap.{BTreeMap}
use Rattle.std.specs.FinMap.{FinMap, get, get-empty, get-entries, from_entries, get-from_entries, entries, entries_sorted, find, is_sorted}
use Rattle.std.specs.FinMap.Entries.{below_all, same_entries}
use Rattle.model.specs.Content.{BroadcastKey, BroadcastRow, broadcast_cmp}
use Rattle.model.proofs.KeyOrders.{broadcast_total, broadcast_exact}
use Rattle.delivery.specs.declared.broadcast.Broadcast.{Broadcast}
use Rattle.settle.specs.Abstraction.{broadcast_key_of, broadcast_row_of}
use Rattle.settle.specs.Changes.{put_rows, same_broadcast}
use Rattle.settle.specs.declared.rows.BroadcastKey.{BroadcastKey as BroadcastKeyImpl}
use Rattle.numbers.proofs.Small.{tied, and_first, and_second, truth}
use Rattle.store.specs.Maps.{map_of, seen_entries, IsSet}
use Rattle.store.specs.BroadcastRows.{broadcast_id_of, packed_row_of, same_id, if_open, AreOpenByKey}
use Rattle.store.specs.declared.keys.BroadcastId.{BroadcastId}
use Rattle.store.specs.declared.packed_broadcast.PackedBroadcast.{PackedBroadcast}
use Rattle.store.proofs.Changed.{broadcast_tied, set_broadcast}
use Rattle.store.proofs.Lists.{entries-map_of}
use Rattle.store.proofs.Maps.{get-map_of, set_map_of}

abbrev Rows : Type 0
Rows = List (BroadcastKey × BroadcastRow)

abbrev pub open_rows : List (BroadcastKey × BroadcastRow) → List (BroadcastKey × BroadcastRow)
open_rows = filter (λ e. e.1.is_open)

abbrev pub rows_in : List (BroadcastId × PackedBroadcast) → List (BroadcastKey × BroadcastRow)
rows_in = seen_entries broadcast_id_of packed_row_of

-- ---- the open rows of a sorted list

below-open : (k : BroadcastKey) (es : Rows) → below_all broadcast_cmp k es ≡ true
    → below_all broadcast_cmp k (open_rows es) ≡ true
below-open k [] is = refl
below-open k (e ∷ es) is =
    by_cases (below-open k es (and_second (is_lt (broadcast_cmp k e.0))
    (below_all broadcast_cmp k es) is)) e.1.is_open
  where
    by_cases : below_all broadcast_cmp k (open_rows es) ≡ true → (b : Bool)
        → below_all broadcast_cmp k (cond b (e ∷ open_rows es) (open_rows es)) ≡ true
    by_cases later true = λ i. (and_first (is_lt (broadcast_cmp k e.0))
        (below_all broadcast_cmp k es) is i) && later i
    by_cases later false = later

sorted-open : (es : Rows) → is_sorted broadcast_cmp es ≡ true
    → is_sorted broadcast_cmp (open_rows es) ≡ true
sorted-open [] is = refl
sorted-open (e ∷ es) is =
    by_cases (below-open e.0 es (and_first (below_all broadcast_cmp e.0 es)
    (is_sorted broadcast_cmp es) is))
    (sorted-open es (and_second (below_all broadcast_cmp e.0 es) (is_sorted broadcast_cmp es) is))
    e.1.is_open
  where
    by_cases : below_all broadcast_cmp e.0 (open_rows es) ≡ true
        → is_sorted broadcast_cmp (open_rows es) ≡ true → (b : Bool)
        → is_sorted broadcast_cmp (cond b (e ∷ open_rows es) (open_rows es)) ≡ true
    by_cases below later true = λ i. below i && later i
    by_cases below later false = later

-- A key below all others ties with none of them.
none-below : (k : BroadcastKey) (es : Rows) → below_all broadcast_cmp k es ≡ true
    → find broadcast_cmp k es ≡ None
none-below k [] is = refl
none-below k (e ∷ es) is = by_cases (broadcast_cmp k e.0) (none-below k es) is
  where
    by_cases : (r : Ordering)
        → (below_all broadcast_cmp k es ≡ true → find broadcast_cmp k es ≡ None)
        → (is_lt r && below_all broadcast_cmp k es) ≡ true
        → cond (is_eq r) (Some e.1) (find broadcast_cmp k es) ≡ None
    by_cases Less later more = later more
    by_cases Equal later more = let no : false ≡ true = more in cc
    by_cases Greater later more = let no : false ≡ true = more in cc

find-open : (q : BroadcastKey) (es : Rows) → is_sorted broadcast_cmp es ≡ true
    → find broadcast_cmp q (open_rows es) ≡ if_open (find broadcast_cmp q es)
find-open q [] is = refl
find-open q (e ∷ es) is =
    split e.1.is_open
    ∙ by_cases (find-open q es (and_second (below_all broadcast_cmp e.0 es)
    (is_sorted broadcast_cmp es) is)) (eq_by_cmp broadcast_cmp q e.0) refl
  where
    split : (b : Bool)
        → find broadcast_cmp q (cond b (e ∷ open_rows es) (open_rows es))
        ≡ cond b (cond (eq_by_cmp broadcast_cmp q e.0) (Some e.1)
        (find broadcast_cmp q (open_rows es))) (find broadcast_cmp q (open_rows es))
    split true = refl
    split false = refl

    either : (b : Bool) (o : Option BroadcastRow) → cond b o o ≡ o
    either true o = refl
    either false o = refl

    none : eq_by_cmp broadcast_cmp q e.0 ≡ true → find broadcast_cmp q es ≡ None
    none t =
        ap (λ k. find broadcast_cmp k es) (broadcast_exact q e.0 (tied (broadcast_cmp q e.0) t))
        ∙ none-below e.0 es (and_first (below_all broadcast_cmp e.0 es)
        (is_sorted broadcast_cmp es) is)

    by_cases : find broadcast_cmp q (open_rows es) ≡ if_open (find broadcast_cmp q es)
        → (t : Bool) → eq_by_cmp broadcast_cmp q e.0 ≡ t
        → cond e.1.is_open (cond t (Some e.1) (find broadcast_cmp q (open_rows es)))
        (find broadcast_cmp q (open_rows es))
        ≡ if_open (cond t (Some e.1) (find broadcast_cmp q es))
    by_cases later true tie =
        ap (cond e.1.is_open (Some e.1)) (later ∙ ap if_open (none tie))
    by_cases later false tie =
        either e.1.is_open (find broadcast_cmp q (open_rows es)) ∙ later

pub open-listed : (m : FinMap broadcast_cmp BroadcastRow)
    (found : BTreeMap BroadcastKeyImpl Broadcast)
    → tree.IsOrdered (on broadcast_key_of broadcast_cmp) found → AreOpenByKey m found
    → seen_entries broadcast_key_of broadcast_row_of found.entries ≡ open_rows (entries m)
open-listed m found ordered is =
    sym (entries-map_of broadcast_key_of broadcast_row_of broadcast_total broadcast_exact found
    ordered)
    ∙ same_entries broadcast_cmp broadcast_total broadcast_exact (entries mapped)
    (open_rows (entries m)) (entries_sorted mapped)
    (subst T (sym (sorted-open (entries m) (truth _ (entries_sorted m)))) tt)
    (λ k. sym (get-entries mapped k)
    ∙ get-map_of broadcast_key_of broadcast_row_of broadcast_total broadcast_exact found (key_at k)
    ∙ is (key_at k) ∙ ap if_open (get-entries m k)
    ∙ sym (find-open k (entries m) (truth _ (entries_sorted m))))
  where
    mapped : FinMap broadcast_cmp BroadcastRow
    mapped = map_of {R = broadcast_cmp} broadcast_key_of broadcast_row_of found

    key_at : BroadcastKey → BroadcastKeyImpl
    key_at k = record { id = k.id; attempt = k.attempt }

-- ---- the open rows of a hash map

swapped : (a b c d : ℕ) → ((a == b) && (c == d)) ≡ ((b == a) && (d == c))
swapped a b c d = grind (arith, nat_tests)

same-swapped : (a b : BroadcastKey) → same_broadcast a b ≡ same_broadcast b a
same-swapped a b = swapped a.id b.id a.attempt b.attempt

-- Rows of other keys change nothing.
others-put : (es : List (BroadcastId × PackedBroadcast)) (k : BroadcastKey)
    (w : Option BroadcastRow)
    → AllByRecursion (λ y. same_broadcast (broadcast_id_of y) k ≡ false) (keys_of es)
    → put_rows same_broadcast (open_rows (rows_in es)) k w ≡ w
others-put [] k w others = refl
others-put (e ∷ es) k w others = by_cases (others-put es k w others.1) (packed_row_of e.1).is_open
  where
    by_cases : put_rows same_broadcast (open_rows (rows_in es)) k w ≡ w → (b : Bool)
        → put_rows same_broadcast (cond b
        ((broadcast_id_of e.0, packed_row_of e.1) ∷ open_rows (rows_in es))
        (open_rows (rows_in es))) k w ≡ w
    by_cases later true =
        ap (λ t. put_rows same_broadcast (open_rows (rows_in es)) k
        (cond t (Some (packed_row_of e.1)) w)) others.0 ∙ later
    by_cases later false = later

all-others : (x : BroadcastId) (ys : List BroadcastId)
    → AllByRecursion (λ y. same_id x y ≡ false) ys
    → AllByRecursion (λ y. same_broadcast (broadcast_id_of y) (broadcast_id_of x) ≡ false) ys
all-others x [] all = tt
all-others x (y ∷ ys) all = (
  same-swapped (broadcast_id_of y) (broadcast_id_of x) ∙ all.0,
  all-others x ys all.1,
)

pub open-found : (es : List (BroadcastId × PackedBroadcast)) → IsDistinct same_id (keys_of es)
    → (k : BroadcastKey) → put_rows same_broadcast (open_rows (rows_in es)) k None
    ≡ if_open (find broadcast_cmp k (rows_in es))
open-found [] distinct k = refl
open-found (e ∷ es) distinct k =
    split (packed_row_of e.1).is_open
    ∙ by_cases (open-found es (IsDistinct-tail same_id e.0 (keys_of es) distinct) k)
    (same_broadcast (broadcast_id_of e.0) k) refl
    ∙ ap (λ t. if_open (cond t (Some (packed_row_of e.1)) (find broadcast_cmp k (rows_in es))))
    (same-swapped (broadcast_id_of e.0) k ∙ sym (broadcast_tied k (broadcast_id_of e.0)))
  where
    rest : Rows
    rest = open_rows (rows_in es)

    split : (b : Bool) → put_rows same_broadcast (cond b
        ((broadcast_id_of e.0, packed_row_of e.1) ∷ rest) rest) k None
        ≡ put_rows same_broadcast rest k (cond b (cond (same_broadcast (broadcast_id_of e.0) k)
        (Some (packed_row_of e.1)) None) None)
    split true = refl
    split false = refl

    either : (b : Bool) (o : Option BroadcastRow) → cond b o o ≡ o
    either true o = refl
    either false o = refl

    others : same_broadcast (broadcast_id_of e.0) k ≡ true
        → AllByRecursion (λ y. same_broadcast (broadcast_id_of y) k ≡ false) (keys_of es)
    others t =
        subst (λ x. AllByRecursion (λ y. same_broadcast (broadcast_id_of y) x ≡ false) (keys_of es))
        (broadcast_exact (broadcast_id_of e.0) k (tied (broadcast_cmp (broadcast_id_of e.0) k)
        (broadcast_tied (broadcast_id_of e.0) k ∙ t)))
        (all-others e.0 (keys_of es) (IsDistinct-head same_id e.0 (keys_of es) distinct))

    by_cases : put_rows same_broadcast rest k None ≡ if_open (find broadcast_cmp k (rows_in es))
        → (s : Bool) → same_broadcast (broadcast_id_of e.0) k ≡ s
        → put_rows same_broadcast rest k (cond (packed_row_of e.1).is_open
        (cond s (Some (packed_row_of e.1)) None) None)
        ≡ if_open (cond s (Some (packed_row_of e.1)) (find broadcast_cmp k (rows_in es)))
    by_cases later true t =
        others-put es k (cond (packed_row_of e.1).is_open (Some (packed_row_of e.1)) None)
        (others t)
    by_cases later false t =
        ap (put_rows same_broadcast rest k) (either (packed_row_of e.1).is_open None) ∙ later

-- ---- one row of the hash map

abbrev in_order : BTreeMap BroadcastKeyImpl Broadcast → FinMap broadcast_cmp BroadcastRow
in_order m = map_of broadcast_key_of broadcast_row_of m

broadcast-put : (old new : BTreeMap BroadcastKeyImpl Broadcast) (key : BroadcastKeyImpl)
    (row : Broadcast) → IsSet (on broadcast_key_of broadcast_cmp) old new key (Some row)
    → (k : BroadcastKey) → get (in_order new) k ≡ cond (same_broadcast (broadcast_key_of key) k)
    (Some (broadcast_row_of row)) (get (in_order old) k)
broadcast-put old new key row put k =
    ap (λ m. get m k) (set_map_of broadcast_key_of broadcast_row_of broadcast_total broadcast_exact
    old new key (Some row) put)
    ∙ set_broadcast (in_order old) (broadcast_key_of key) (Some (broadcast_row_of row)) k

abbrev pub listed_so_far : List (BroadcastId × PackedBroadcast)
    → BTreeMap BroadcastKeyImpl Broadcast
    → BroadcastKey → Option BroadcastRow
listed_so_far rest found k =
    put_rows same_broadcast (open_rows (rows_in rest)) k
    (get (in_order found) k)

pub open-step : (e : BroadcastId × PackedBroadcast) (rest : List (BroadcastId × PackedBroadcast))
    (row : Broadcast) (old new : BTreeMap BroadcastKeyImpl Broadcast) (key : BroadcastKeyImpl)
    → broadcast_row_of row ≡ packed_row_of e.1 → row.is_open ≡ true
    → broadcast_key_of key ≡ broadcast_id_of e.0
    → IsSet (on broadcast_key_of broadcast_cmp) old new key (Some row) → (k : BroadcastKey)
    → listed_so_far rest new k ≡ listed_so_far (e ∷ rest) old k
open-step e rest row old new key unpacked is_open same put k =
    ap (put_rows same_broadcast (open_rows (rows_in rest)) k) (broadcast-put old new key row put k
    ∙ (λ i. cond (same_broadcast (same i) k) (Some (unpacked i))
    (get (in_order old) k)))
    ∙ (λ i. put_rows same_broadcast (cond (sym (opened unpacked is_open) i)
    ((broadcast_id_of e.0, packed_row_of e.1) ∷ open_rows (rows_in rest))
    (open_rows (rows_in rest))) k
    (get (in_order old) k))
  where
    opened : broadcast_row_of row ≡ packed_row_of e.1 → row.is_open ≡ true
        → (packed_row_of e.1).is_open ≡ true
    opened is so = ap (λ (r : BroadcastRow). r.is_open) (sym is) ∙ so

pub closed-step : (e : BroadcastId × PackedBroadcast) (rest : List (BroadcastId × PackedBroadcast))
    (row : Broadcast) (found : BTreeMap BroadcastKeyImpl Broadcast)
    → broadcast_row_of row ≡ packed_row_of e.1 → row.is_open ≡ false → (k : BroadcastKey)
    → listed_so_far rest found k ≡ listed_so_far (e ∷ rest) found k
closed-step e rest row found unpacked closed k =
    λ i. put_rows same_broadcast (cond (sym shut i)
    ((broadcast_id_of e.0, packed_row_of e.1) ∷ open_rows (rows_in rest))
    (open_rows (rows_in rest))) k
    (get (in_order found) k)
  where
    shut : (packed_row_of e.1).is_open ≡ false
    shut = ap (λ (r : BroadcastRow). r.is_open) (sym unpacked) ∙ closed

-- ---- all rows of the hash map

pub none-listed : (es all : List (BroadcastId × PackedBroadcast))
    (found : BTreeMap BroadcastKeyImpl Broadcast) → es ≡ all → found.entries ≡ []
    → (k : BroadcastKey) → listed_so_far es found k
    ≡ put_rows same_broadcast (open_rows (rows_in all)) k None
none-listed es all found same empty k =
    ap (λ rows. listed_so_far rows found k) same
    ∙ ap (put_rows same_broadcast (open_rows (rows_in all)) k)
    (ap (λ rows. get (from_entries {R = broadcast_cmp}
    (seen_entries broadcast_key_of broadcast_row_of rows)) k) empty ∙ get-empty broadcast_cmp k)

pub open-are : (es rest : List (BroadcastId × PackedBroadcast))
    (found : BTreeMap BroadcastKeyImpl Broadcast) → IsDistinct same_id (keys_of es) → rest ≡ []
    → ((k : BroadcastKey) → listed_so_far rest found k
    ≡ put_rows same_broadcast (open_rows (rows_in es)) k None)
    → AreOpenByKey (from_entries (rows_in es)) found
open-are es rest found distinct end listed k =
    sym (get-map_of broadcast_key_of broadcast_row_of broadcast_total broadcast_exact found k)
    ∙ ap (λ rows. listed_so_far rows found (broadcast_key_of k)) (sym end)
    ∙ listed (broadcast_key_of k) ∙ open-found es distinct (broadcast_key_of k)
    ∙ ap if_open (sym (get-from_entries broadcast_total (rows_in es) (broadcast_key_of k)))
