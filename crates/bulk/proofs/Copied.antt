-- The rows of a copy.
use Rattle.std.proofs.Common.{◌≡◌, ℕ, List, [], ◌∷◌, ◌++◌, length, Option, Some, inl, inr, sym, subst, arith, append-nil, append_assoc, true, false}
use Rattle.std.specs.Prelude.{◌≢◌, ◌⊎◌, Result, Ok, Err, IfOk, IfErr}
use Rattle.csv.specs.Records.{field_at}
use Rattle.csv.specs.declared.reader.Reader.{Reader}
use Rattle.delivery.specs.declared.mirror.RoutedRow.{RoutedRow}
use Rattle.bulk.specs.Audits.{AreEntries, HasNoEntry, IsEntry, IsNoEntry, IsNotRead, copy_header}
use Rattle.bulk.specs.Faults.{IsUnread}
use Rattle.bulk.specs.Rows.{Row, HasRows, Takes}
use Rattle.bulk.specs.declared.fault.FaultKind.{FaultKind}
use Rattle.bulk.specs.declared.fault.FaultKind.TheVariants.{BadHeader, BadFile}

-- The fields of a row of three fields.
pub three_fields : (xs : List (List ℕ)) (a b c : List ℕ) → length xs ≡ 3 → Some a ≡ field_at xs 0
    → Some b ≡ field_at xs 1 → Some c ≡ field_at xs 2 → xs ≡ a ∷ b ∷ c ∷ []
unfolding field_at
three_fields (a0 ∷ b0 ∷ c0 ∷ []) a b c n pa pb pc = cc
three_fields [] a b c n pa pb pc = absurd (omega (arith, n))
three_fields (x0 ∷ []) a b c n pa pb pc = absurd (omega (arith, n))
three_fields (x0 ∷ x1 ∷ []) a b c n pa pb pc = absurd (omega (arith, n))
three_fields (x0 ∷ x1 ∷ x2 ∷ x3 ∷ xs) a b c n pa pb pc = absurd (omega (arith, n))

pub other_header : (rows more : List Row) (raw : Row) → rows ≡ raw ∷ more → (raw ≡ copy_header → ⊥)
    → (others : List Row) → rows ≢ copy_header ∷ others
other_header rows more raw e other = λ others same. other cc

pub no_header : (rows : List Row) → rows ≡ [] → (others : List Row) → rows ≢ copy_header ∷ others
no_header rows e = λ others same. let x : ⊥ = cc in x

pub no_header_read : {K U : Type 0} (has : List Row → Type 0)
    → (K × ((rows : List Row) → has rows → rows ≡ [])) ⊎ U
    → (K × ((rows : List Row) → has rows → (others : List Row) → rows ≢ copy_header ∷ others)) ⊎ U
no_header_read has (inl (k, none)) = inl (k, λ rows h. no_header rows (none rows h))
no_header_read has (inr u) = inr u

-- ---- the rows after the header

-- Holds if these are the entries of the rows read so far.
pub record Reading {R : Type 0} (rem : R → Option (List ℕ)) (rows : List Row) (reader : Reader R)
    (entries : List RoutedRow) : Type 0 where
  pub left : List Row
  pub has : HasRows rem reader left
  pub forth : (more : List RoutedRow) → AreEntries left more → AreEntries rows (entries ++ more)
  pub bad : HasNoEntry left → HasNoEntry rows

module _ {R : Type 0} (rem : R → Option (List ℕ)) where
  pub begins : (rows : List Row) (reader : Reader R) → HasRows rem reader rows
      → Reading rem rows reader []
  begins rows reader has = record {
    left = rows;
    has = has;
    forth = λ more are. are;
    bad = λ none. none;
  }

  pub reads_entry :
      (rows : List Row) (old new : Reader R) (entries : List RoutedRow) (fields : Row)
      (entry : RoutedRow) → ((left : List Row) → HasRows rem old left
      → Takes rem new true fields left) →
      IsEntry fields entry → Reading rem rows old entries
      → Reading rem rows new (entries ++ entry ∷ [])
  reads_entry rows old new entries fields entry takes is before =
      let taken = takes before.left before.has in
      record {
        left = taken.0;
        has = taken.2;
        forth = λ more are.
            subst (λ (t : List RoutedRow). AreEntries rows t)
            (sym (append_assoc entries (entry ∷ []) more))
            (before.forth (entry ∷ more) (subst (λ (t : List Row). AreEntries t (entry ∷ more))
            (sym taken.1) (is, are)));
        bad = λ none. before.bad (subst HasNoEntry (sym taken.1) (inr none));
      }

  pub reads_bad :
      (rows : List Row) (old new : Reader R) (entries : List RoutedRow) (fields : Row)
      → ((left : List Row) → HasRows rem old left → Takes rem new true fields left) →
      IsNoEntry fields → Reading rem rows old entries → HasNoEntry rows
  reads_bad rows old new entries fields takes none before =
      let taken = takes before.left before.has in
      before.bad (subst HasNoEntry (sym taken.1) (inl none))

  pub reads_end :
      (rows : List Row) (old new : Reader R) (entries : List RoutedRow) (fields : Row)
      → ((left : List Row) → HasRows rem old left → Takes rem new false fields left) →
      Reading rem rows old entries → AreEntries rows entries
  reads_end rows old new entries fields takes before =
      let none = takes before.left before.has in
      subst (λ (t : List RoutedRow). AreEntries rows t) (append-nil entries)
      (before.forth [] (subst (λ (t : List Row). AreEntries t []) (sym none) tt))

-- ---- the faults of a copy

pub unread_not : (kind : FaultKind) (rows : List Row) → IsUnread kind → IsNotRead kind rows
unread_not kind rows (inl e) = subst (λ k. IsNotRead k rows) (sym e) tt
unread_not kind rows (inr e) = subst (λ k. IsNotRead k rows) (sym e) tt

pub header_not : (kind : FaultKind) (Has : List Row → Type 0)
    → ((kind ≡ BadHeader) × ((rows : List Row) → Has rows → (others : List Row)
    → rows ≢ copy_header ∷ others)) ⊎ IsUnread kind →
    (rows : List Row) → Has rows → IsNotRead kind rows
header_not kind Has (inl h) rows has = subst (λ k. IsNotRead k rows) (sym h.0) (h.1 rows has)
header_not kind Has (inr unread) rows has = unread_not kind rows unread

pub entries_not : (kind : FaultKind) (Has Behind : List Row → Type 0)
    → ((rows : List Row) → Has rows → (others : List Row) × (rows ≡ copy_header ∷ others)
    × Behind others) →
    ((kind ≡ BadFile) × ((rows : List Row) → Behind rows → HasNoEntry rows)) ⊎ IsUnread kind
    → (rows : List Row) → Has rows → IsNotRead kind rows
entries_not kind Has Behind header (inl h) rows has =
    let behind = header rows has in
    subst (λ k. IsNotRead k rows) (sym h.0) (behind.0, behind.1, h.1 behind.0 behind.2)
entries_not kind Has Behind header (inr unread) rows has = unread_not kind rows unread

pub copy_read :
    {V : Type 0} (r : Result V FaultKind) (items : V → List RoutedRow) (Has Behind : List Row
    → Type 0) → ((rows : List Row) → Has rows → (others : List Row) × (rows ≡ copy_header ∷ others)
    × Behind others) →
    IfOk r (λ v. (rows : List Row) → Behind rows → AreEntries rows (items v)) →
    IfOk r (λ v. (rows : List Row) → Has rows → (others : List Row) × (rows ≡ copy_header ∷ others)
    × AreEntries others (items v))
copy_read (Ok v) items Has Behind header read = λ rows has. let behind = header rows has in
    (behind.0, behind.1, read behind.0 behind.2)
copy_read (Err kind) items Has Behind header read = tt

pub copy_not_read :
    {V : Type 0} (r : Result V FaultKind) (Has Behind : List Row → Type 0)
    → ((rows : List Row) → Has rows → (others : List Row) × (rows ≡ copy_header ∷ others)
    × Behind others) →
    IfErr r (λ kind. ((kind ≡ BadFile) × ((rows : List Row) → Behind rows → HasNoEntry rows))
    ⊎ IsUnread kind) → IfErr r (λ kind. (rows : List Row) → Has rows → IsNotRead kind rows)
copy_not_read (Ok v) Has Behind header other = tt
copy_not_read (Err kind) Has Behind header other = entries_not kind Has Behind header other
