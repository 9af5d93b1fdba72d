-- The tests of the statements are comparisons of keys.
use Rattle.std.proofs.Common.{◌≡◌, ℕ, pos, negsuc, List, [], ◌∷◌, Bool, true, false, Option, Some, refl, sym, ap, ◌∙◌, arith, true≢false}
use Rattle.std.specs.Prelude.{◌&&◌}
use Rattle.std.specs.Ordering.{nat_cmp, is_eq, int_cmp}
use Rattle.std.specs.Cmp.{nat_cmp_total, eq_by_cmp_equiv, tied_itself}
use Rattle.std.specs.List.{list_all}
use Rattle.std.proofs.lemmas.Int.{ints}
use Rattle.std.proofs.lemmas.Bool.Decides.{nat_tests}
use Rattle.sqlite.specs.declared.types.Value.{Value}
use Rattle.sqlite.specs.declared.types.Value.TheVariants.{Int, Text}
use Rattle.sqlite.specs.Order.{Row, column, value_cmp}
use Rattle.sqlite.specs.Ops.{binary, is_true}
use Rattle.sqlite_sql.specs.declared.ops.BinaryOp.TheVariants.{Compare}
use Rattle.sqlite_sql.specs.declared.ops.CompareOp.TheVariants.{Eq}
use Rattle.sqlite.specs.Collation.TheVariants.{Binary}
use Rattle.sqlite_value.proofs.OrderLemmas.{value_cmp-Int, value_cmp-Text, value_cmp_total}
use Rattle.numbers.specs.Texts.{spid_text}
use Rattle.numbers.specs.declared.spid.Spid.{Spid}
use Rattle.model.specs.Content.{BroadcastKey, WaitKey, broadcast_cmp, wait_cmp, wait_key}
use Rattle.sql_rows.specs.Values.{number_in, spid_in, spid_value}
use Rattle.sql_rows.specs.Versions.{version_entry}
use Rattle.sql_rows.specs.Content.{next_entry, carrier_entry, lrn_entry, code_entry, block_entry, broadcast_entry, wait_entry, set_entry, clock_entry}
use Rattle.sql_rows.specs.Statements.{key_test, column_is}
use Rattle.sql_rows.specs.declared.statement.Table.TheVariants.{Carrier, Lrn, Code, Block, Version, Broadcast, Wait, Clock, NextRouting, WindowSet}
use Rattle.sql_rows.proofs.QueryLemmas.{passes}
use Rattle.sql_rows.proofs.RowLemmas.{Tests}
use Rattle.sql_rows.proofs.Inversions.{number_read, minute_read, spid_read, carrier_key, lrn_key, code_key, block_key, next_key, set_key, clock_key, version_key, broadcast_reads, wait_reads}
use Rattle.sql_rows.proofs.Backs.{spid_back}
use Rattle.sql_rows.proofs.Orders.{broadcast_tie, wait_tie, same_number}
use Rattle.model.proofs.KeyOrders.{broadcast_total, wait_total}
use Rattle.std.proofs.lemmas.Map.Lookups.{exact_bytes}
use Rattle.sql_rows.proofs.OnceLemmas.{true_of}
use Rattle.numbers.proofs.Small.{tied}

abbrev pub equals : Value → Value → Bool
equals v w = is_true (binary (Compare Eq Binary) v w)

same_numbers : (m n : ℕ) → is_eq (int_cmp (pos m) (pos n)) ≡ is_eq (nat_cmp m n)
same_numbers m n = grind (arith, ints, nat_tests)

pub equal_numbers : (m n : ℕ) → equals (Int (pos m)) (Int (pos n)) ≡ is_eq (nat_cmp m n)
unfolding binary
equal_numbers m n = true_of _ ∙ ap is_eq (value_cmp-Int (pos m) (pos n)) ∙ same_numbers m n

pub never_below : (m n : ℕ) → equals (Int (negsuc m)) (Int (pos n)) ≡ false
unfolding binary
never_below m n = true_of _ ∙ ap is_eq (value_cmp-Int (negsuc m) (pos n))

texts : (s t : List ℕ) → equals (Text s) (Text t) ≡ is_eq (value_cmp (Text s) (Text t))
unfolding binary
texts s t = true_of _

same_text : (s t : List ℕ) → is_eq (value_cmp (Text s) (Text t)) ≡ true → s ≡ t
same_text s t h = exact_bytes s t (sym (value_cmp-Text s t) ∙ tied (value_cmp (Text s) (Text t)) h)

-- Texts of providers compare equal as their numbers do.
pub equal_spids : (m : ℕ) (s : Spid) → spid_in (spid_value m) ≡ Some m
    → equals (spid_value m) (spid_value s.number) ≡ is_eq (nat_cmp m s.number)
equal_spids m s valid =
    texts _ _ ∙ by_cases (is_eq (nat_cmp m s.number)) refl
    (is_eq (value_cmp (spid_value m) (spid_value s.number))) refl
  where
    by_cases : (b : Bool) → is_eq (nat_cmp m s.number) ≡ b → (c : Bool)
        → is_eq (value_cmp (spid_value m) (spid_value s.number)) ≡ c → c ≡ b
    by_cases true e c d = let same = same_number m s.number e in
        sym d ∙ ap (λ n. is_eq (value_cmp (spid_value n) (spid_value s.number))) same
        ∙ ap is_eq (tied_itself value_cmp_total (spid_value s.number))
    by_cases false e false d = refl
    by_cases false e true d =
        let same : spid_text m ≡ spid_text s.number = same_text _ _ d in
        let one : m ≡ s.number = (let read : ◌≡◌ {A = Option ℕ} (Some m) (Some s.number) =
        sym valid ∙ ap (λ t. spid_in (Text t)) same ∙ spid_back s in cc) in
        absurd (true≢false (sym (ap is_eq (tied_itself nat_cmp_total s.number))
        ∙ sym (ap (λ n. is_eq (nat_cmp n s.number)) one) ∙ e))

-- ---- the key of each table

-- Whether all of these are true.
abbrev pub both : List Bool → Bool
both = list_all (λ (b : Bool). b)

pub one_of : (b : Bool) → both (b ∷ []) ≡ b
one_of true = refl
one_of false = refl

pub two_of : (b c : Bool) → both (b ∷ c ∷ []) ≡ (b && c)
two_of true c = one_of c
two_of false c = refl

pub four_of : (a b c d : Bool) → both (a ∷ b ∷ c ∷ d ∷ []) ≡ (a && (b && (c && d)))
four_of true true c d = two_of c d
four_of true false c d = refl
four_of false b c d = refl

-- The test of a column compares its value with the parameter.
pub column_passes : (place : ℕ) (w v : Value) (r : Row) → column r place ≡ v
    → passes (column_is place 0 ∷ []) (w ∷ []) r ≡ equals v w
column_passes place w v r is = ap (λ v. both (equals v w ∷ [])) is ∙ one_of (equals v w)

module _ {V : Type 0} (entry : Row → Option (ℕ × V)) (key : (r : Row) (e : ℕ × V) → entry r ≡ Some e
    → number_in (column r 0) ≡ Some e.0) where
  pub number_tests : (n : ℕ)
      → Tests nat_cmp entry n (passes (column_is 0 0 ∷ []) (Int (pos n) ∷ []))
  number_tests n r e is =
      column_passes 0 (Int (pos n)) _ r (number_read (column r 0) e.0 (key r e is))
      ∙ equal_numbers e.0 n ∙ (eq_by_cmp_equiv nat_cmp_total).symm e.0 n

pub carrier_tests : (s : Spid)
    → Tests nat_cmp carrier_entry s.number (passes (key_test Carrier) (spid_value s.number ∷ []))
carrier_tests s r e is =
    let read = carrier_key r e is in
    let col = spid_read (column r 1) e.0 read in
    column_passes 1 (spid_value s.number) _ r col ∙ equal_spids e.0 s (ap spid_in (sym col) ∙ read)
    ∙ (eq_by_cmp_equiv nat_cmp_total).symm e.0 s.number

pub lrn_tests : (n : ℕ) → Tests nat_cmp lrn_entry n (passes (key_test Lrn) (Int (pos n) ∷ []))
lrn_tests = number_tests lrn_entry lrn_key

pub code_tests : (n : ℕ) → Tests nat_cmp code_entry n (passes (key_test Code) (Int (pos n) ∷ []))
code_tests = number_tests code_entry code_key

pub block_tests : (n : ℕ) → Tests nat_cmp block_entry n (passes (key_test Block) (Int (pos n) ∷ []))
block_tests = number_tests block_entry block_key

pub version_tests : (n : ℕ)
    → Tests nat_cmp version_entry n (passes (key_test Version) (Int (pos n) ∷ []))
version_tests = number_tests version_entry version_key

pub next_tests : (n : ℕ)
    → Tests nat_cmp next_entry n (passes (key_test NextRouting) (Int (pos n) ∷ []))
next_tests = number_tests next_entry next_key

pub set_tests : (n : ℕ) → Tests nat_cmp set_entry n (passes (key_test WindowSet) (Int (pos n) ∷ []))
set_tests = number_tests set_entry set_key

pub clock_tests : (n : ℕ) → Tests nat_cmp clock_entry n (passes (key_test Clock) (Int (pos n) ∷ []))
clock_tests = number_tests clock_entry clock_key

pub broadcast_tests : (k : BroadcastKey)
    → Tests broadcast_cmp broadcast_entry k
    (passes (key_test Broadcast) (Int (pos k.id) ∷ Int (pos k.attempt) ∷ []))
broadcast_tests k r e is =
    let reads = broadcast_reads r e is in
    ap (λ v. both (equals v (Int (pos k.id)) ∷ equals (column r 2) (Int (pos k.attempt)) ∷ []))
    (number_read (column r 1) e.0.id reads.id)
    ∙ ap (λ v. both (equals (Int (pos e.0.id)) (Int (pos k.id)) ∷ equals v (Int (pos k.attempt))
    ∷ [])) (number_read (column r 2) e.0.attempt reads.attempt)
    ∙ rw (equal_numbers e.0.id k.id, equal_numbers e.0.attempt k.attempt) (two_of _ _)
    ∙ sym (broadcast_tie e.0 k) ∙ (eq_by_cmp_equiv broadcast_total).symm e.0 k

abbrev pub wait_params : Spid → (minute id attempt : ℕ) → Row
wait_params s minute id attempt =
    spid_value s.number ∷ Int (pos minute) ∷ Int (pos id) ∷ Int (pos attempt) ∷ []

abbrev pub key_with : Spid → (minute id attempt : ℕ) → WaitKey
key_with s minute id attempt = wait_key s.number minute id attempt

pub wait_tests : (s : Spid) (minute id attempt : ℕ)
    → Tests wait_cmp wait_entry (key_with s minute id attempt)
    (passes (key_test Wait) (wait_params s minute id attempt))
wait_tests s minute id attempt r e is =
    let reads = wait_reads r e is in
    let k = key_with s minute id attempt in
    let col = spid_read (column r 1) e.0.carrier reads.carrier in
    ap (λ v. both (equals v (spid_value s.number) ∷ equals (column r 2) (Int (pos minute)) ∷ equals
    (column r 3) (Int (pos id)) ∷ equals (column r 4) (Int (pos attempt)) ∷ [])) col
    ∙ ap (λ v. both (equals (spid_value e.0.carrier) (spid_value s.number) ∷ equals v
    (Int (pos minute)) ∷ equals (column r 3) (Int (pos id)) ∷ equals (column r 4)
    (Int (pos attempt)) ∷ [])) (minute_read (column r 2) e.0.minute reads.minute)
    ∙ ap (λ v. both (equals (spid_value e.0.carrier) (spid_value s.number) ∷ equals
    (Int (pos e.0.minute)) (Int (pos minute)) ∷ equals v (Int (pos id)) ∷ equals (column r 4)
    (Int (pos attempt)) ∷ [])) (number_read (column r 3) e.0.id reads.id)
    ∙ ap (λ v. both (equals (spid_value e.0.carrier) (spid_value s.number) ∷ equals
    (Int (pos e.0.minute)) (Int (pos minute)) ∷ equals (Int (pos e.0.id)) (Int (pos id)) ∷ equals v
    (Int (pos attempt)) ∷ [])) (number_read (column r 4) e.0.attempt reads.attempt)
    ∙ rw (
      equal_spids e.0.carrier s (ap spid_in (sym col) ∙ reads.carrier),
      equal_numbers e.0.minute minute,
      equal_numbers e.0.id id,
      equal_numbers e.0.attempt attempt,
    ) (four_of (is_eq (nat_cmp e.0.carrier s.number)) (is_eq (nat_cmp e.0.minute minute))
    (is_eq (nat_cmp e.0.id id)) (is_eq (nat_cmp e.0.attempt attempt)))
    ∙ sym (wait_tie e.0 k) ∙ (eq_by_cmp_equiv wait_total).symm e.0 k
