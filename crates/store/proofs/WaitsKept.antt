-- The downloads of the code's rows when one is added or deleted.
use Rattle.std.proofs.Common.{◌≡◌, ℕ, Bool, true, false, cond, List, [], ◌∷◌, Option, Some, None, refl, ap, sym, ◌∙◌, arith}
use Rattle.std.specs.Prelude.{◌==◌, ◌&&◌, Result, Ok, Err, IfOk, OnOk, OnErr, is_some, option_map}
use Rattle.std.specs.List.{list_any}
use Rattle.std.specs.Ordering.{on, eq_by_cmp, is_eq, nat_cmp, ordering_then}
use Rattle.std.specs.Map.{lookup}
use Rattle.std.specs.BTreeMap.{is_at}
use Rattle.std.proofs.lemmas.Bool.Decides.{nat_tests}
use Rattle.std.specs.FinMap.{FinMap, get, empty, get-empty, from_entries, same_map}
use Rattle.numbers.specs.Subjects.{Subject, subject_key}
use Rattle.model.specs.Content.{WaitKey, wait_cmp}
use Rattle.store.specs.Maps.{set, seen_entries}
use Rattle.store.specs.WaitRows.{Download, download_cmp, download_of, row_key_of, row_in, Waiting, waiting_of, rows_of, waits_of, awaited, IsFirst, IsAdded, IsWithout}
use Rattle.store.specs.declared.keys.RowKey.{RowKey as RowKeyImpl}
use Rattle.store.specs.declared.about.Broadcasts.{Broadcasts}
use Rattle.store.specs.About.{about_of, broadcasts_of, has_at}
use Rattle.store.specs.declared.waiting.Waiting.{Waiting as WaitingImpl}
use Rattle.store.proofs.Maps.{get-seen, set_seen, get-set, set-gone}
use Rattle.model.proofs.KeyOrders.{wait_total, wait_exact}
use Rattle.store.proofs.RowsFlat.{download_total, download_exact, get-waits_of}
use Rattle.numbers.proofs.Small.{impossible, tied}
use Rattle.store.proofs.RowsChanged.{IsRow, Agrees, row-changed}

-- ---- no rows

no_row : (rows : List (RowKeyImpl × WaitingImpl)) → rows ≡ [] → (d : Download) (w : Waiting)
    → get (rows_of rows) d ≡ Some w → ⊥
no_row rows none d w at =
    let no : None ≡ Some w = sym (ap (λ es. get (rows_of es) d) none ∙ get-empty download_cmp d)
    ∙ at in
    cc

pub none-agree : (rows : List (RowKeyImpl × WaitingImpl)) (about : List (ℕ × Broadcasts))
    → rows ≡ [] → about ≡ [] → Agrees (rows_of rows) (about_of about)
none-agree rows about none empty_index = (
  λ d w at. absurd (no_row rows none d w at),
  λ s d has. impossible (sym has
      ∙ ap (λ es. has_at (broadcasts_of es (subject_key s)) d) empty_index),
)

pub none-wait : (rows : List (RowKeyImpl × WaitingImpl)) → rows ≡ []
    → waits_of (rows_of rows) ≡ empty
none-wait rows none = same_map wait_total wait_exact (waits_of (rows_of rows)) empty (λ q.
    get-waits_of (rows_of rows) q
    ∙ ap (λ o. awaited o q.carrier)
    (ap (λ es. get (from_entries {R = download_cmp} (seen_entries row_key_of waiting_of es))
    (download_of q)) none ∙ get-empty download_cmp (download_of q)) ∙ sym (get-empty wait_cmp q))

-- ---- look-ups by hash and in queue order agree

-- Whether two keys of the code are the same.
abbrev pub same_key : RowKeyImpl → RowKeyImpl → Bool
same_key a b = (a.minute == b.minute) && ((a.id == b.id) && (a.attempt == b.attempt))

by_numbers : (a b c d e f : ℕ)
    → ((a == b) && ((c == d) && (e == f)))
    ≡ is_eq (ordering_then (nat_cmp a b) (ordering_then (nat_cmp c d) (nat_cmp e f)))
by_numbers a b c d e f = grind (arith, nat_tests)

same-at : (a b : RowKeyImpl) → same_key a b ≡ is_at (on row_key_of download_cmp a) b
same-at a b = by_numbers a.minute b.minute a.id b.id a.attempt b.attempt

pub hash-at : (rows : List (RowKeyImpl × WaitingImpl)) (b : RowKeyImpl)
    → lookup (same_key b) rows ≡ row_in rows b
hash-at [] b = refl
hash-at (e ∷ es) b = λ i. cond (same-at b e.0 i) (Some e.1) (hash-at es b i)

-- Holds if one row is written, or deleted for `None`.
abbrev pub IsPut : (old new : List (RowKeyImpl × WaitingImpl)) → RowKeyImpl → Option WaitingImpl
    → Type 0
IsPut old new key w = (q : RowKeyImpl)
    → lookup (same_key q) new ≡ cond (same_key key q) w (lookup (same_key q) old)

by-order : (old new : List (RowKeyImpl × WaitingImpl)) (b : RowKeyImpl) (w : Option WaitingImpl)
    → IsPut old new b w → (q : RowKeyImpl)
    → row_in new q ≡ cond (is_at (on row_key_of download_cmp b) q) w (row_in old q)
by-order old new b w is q =
    sym (hash-at new q) ∙ is q ∙ (λ i. cond (same-at b q i) w (hash-at old q i))

-- ---- a look-up

pub none-from : {X : Type 0} (o : Option X) → is_some o ≡ false → o ≡ None
none-from None e = refl
none-from (Some x) e = let f : true ≡ false = e in cc

-- The row of a download's broadcast.
pub row-at : (rows : List (RowKeyImpl × WaitingImpl)) (b : RowKeyImpl) (k : WaitKey)
    (w : Option WaitingImpl) → row_key_of b ≡ download_of k → lookup (same_key b) rows ≡ w →
    get (rows_of rows) (download_of k) ≡ option_map waiting_of w
row-at rows b k w e is =
    ap (get (rows_of rows)) (sym e) ∙ get-seen row_key_of waiting_of download_total download_exact
    rows b ∙ ap (option_map waiting_of) (sym (hash-at rows b) ∙ is)

pub wait-at : (rows : List (RowKeyImpl × WaitingImpl)) (b : RowKeyImpl) (k : WaitKey)
    (w : Option WaitingImpl) → row_key_of b ≡ download_of k → lookup (same_key b) rows ≡ w →
    get (waits_of (rows_of rows)) k ≡ awaited (option_map waiting_of w) k.carrier
wait-at rows b k w e is =
    get-waits_of (rows_of rows) k ∙ ap (λ o. awaited o k.carrier) (row-at rows b k w e is)

-- ---- one row of the code

pub row-written : (old new : List (RowKeyImpl × WaitingImpl)) (b : RowKeyImpl) (k : WaitKey)
    (w : Option WaitingImpl) → row_key_of b ≡ download_of k → IsPut old new b w →
    IsRow (rows_of old) (rows_of new) (download_of k) (option_map waiting_of w)
row-written old new b k w e is q =
    ap (λ m. get m q) (set_seen row_key_of waiting_of download_total download_exact old new b w
    (by-order old new b w is))
    ∙ get-set download_total download_exact (rows_of old) (row_key_of b) (option_map waiting_of w) q
    ∙ ap (λ d. cond (eq_by_cmp download_cmp d q) (option_map waiting_of w) (get (rows_of old) q)) e

-- A row that was written is deleted.
pub row-taken : (old mid new : List (RowKeyImpl × WaitingImpl)) (b : RowKeyImpl) (k : WaitKey)
    (w : WaitingImpl) → row_key_of b ≡ download_of k → IsPut old mid b (Some w)
    → IsPut mid new b None → IsRow (rows_of old) (rows_of new) (download_of k) None
row-taken old mid new b k w e put taken =
    set-gone (rows_of old) (rows_of mid) (rows_of new) (download_of k) (Some (waiting_of w))
    (row-written old mid b k (Some w) e put) (row-written mid new b k None e taken)

-- ---- the clauses of a result

pub if-ok-then : {V E : Type 0} {P Q : V → Type 0} (r : Result V E) → ((v : V) → P v → Q v)
    → IfOk r P → IfOk r Q
if-ok-then (Ok v) f p = f v p
if-ok-then (Err e) f p = tt

pub on-ok-from : {V E Q : Type 0} {P : V → Type 0} (r : Result V E) → ((v : V) → P v → Q) → IfOk r P
    → OnOk r Q
on-ok-from (Ok v) f p = f v p
on-ok-from (Err e) f p = tt

-- ---- a carrier added to a row that is there

pub subject-stays : {V E : Type 0} (r : Result V E) (c : ℕ) (s : Subject) (old new : Waiting)
    → IfOk r (λ _. IsAdded c s old new) → OnErr r (new ≡ old) → new.0 ≡ old.0
subject-stays (Ok v) c s old new added refused = added.same ∙ sym added.subject
subject-stays (Err e) c s old new added refused = ap (λ (w : Waiting). w.0) refused

pub added-waits : (old new : FinMap download_cmp Waiting) (k : WaitKey) (s : Subject)
    (was now : Waiting) → get old (download_of k) ≡ Some was
    → IsRow old new (download_of k) (Some now) → IsAdded k.carrier s was now
    → waits_of new ≡ set (waits_of old) k (Some s)
added-waits old new k s was now there row added =
    row-changed old new k (Some now) (Some s) row (λ c. added.each c
    ∙ ap (λ o. cond (c == k.carrier) (Some s) (awaited o c)) (sym there))

-- ---- the first carrier of a row

pub first-waits : (old new : FinMap download_cmp Waiting) (k : WaitKey) (s : Subject)
    (now : Waiting) → get old (download_of k) ≡ None → IsRow old new (download_of k) (Some now)
    → IsFirst k.carrier s now → waits_of new ≡ set (waits_of old) k (Some s)
first-waits old new k s now none row first =
    row-changed old new k (Some now) (Some s) row (λ c. first.each c
    ∙ ap (λ o. cond (c == k.carrier) (Some s) (awaited o c)) (sym none))

-- ---- a carrier removed from a row

pub without-waits : (old new : FinMap download_cmp Waiting) (k : WaitKey) (was now : Waiting)
    → get old (download_of k) ≡ Some was → IsRow old new (download_of k) (Some now)
    → IsWithout k.carrier was now → waits_of new ≡ set (waits_of old) k None
without-waits old new k was now there row without =
    row-changed old new k (Some now) None row (λ c. without.each c
    ∙ ap (λ o. cond (c == k.carrier) None (awaited o c)) (sym there))

-- Removing the last carrier deletes the row.
pub gone-waits : (old new : FinMap download_cmp Waiting) (k : WaitKey) (was now : Waiting)
    → get old (download_of k) ≡ Some was → IsRow old new (download_of k) None
    → IsWithout k.carrier was now → now.1 ≡ [] → waits_of new ≡ set (waits_of old) k None
gone-waits old new k was now there row without nobody = row-changed old new k None None row (λ c.
    sym (ap (λ cs. cond (list_any (λ x. c == x) cs) (Some now.0) None) nobody) ∙ without.each c
    ∙ ap (λ o. cond (c == k.carrier) None (awaited o c)) (sym there))

-- Deleting a download that is not there changes nothing.
pub not-there : (m : FinMap wait_cmp Subject) (k : WaitKey) → get m k ≡ None → m ≡ set m k None
not-there m k none =
    same_map wait_total wait_exact m (set m k None)
    (λ q. sym (get-set wait_total wait_exact m k None q ∙ by_cases q (eq_by_cmp wait_cmp k q) refl))
  where
    by_cases : (q : WaitKey) (b : Bool) → eq_by_cmp wait_cmp k q ≡ b
        → cond b None (get m q) ≡ get m q
    by_cases q true t = sym none ∙ ap (get m) (wait_exact k q (tied _ t))
    by_cases q false t = refl
