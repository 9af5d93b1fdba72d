-- The content listed by each query for a list.
use Rattle.std.proofs.Common.{◌≡◌, ℕ, pos, negsuc, [], ◌∷◌, List, map, Bool, true, false, Option, Some, None, refl, sym, ap, subst, ◌∙◌, true≢false, arith, nat_lt, ◌≤◌, ◌&&◌}
use Rattle.std.specs.Prelude.{if◌then◌else◌}
use Rattle.std.specs.Ordering.{nat_cmp, is_eq, is_ge, is_le}
use Rattle.std.specs.Cmp.{nat_cmp_total, tied_itself}
use Rattle.std.proofs.lemmas.Bool.Decides.{nat_tests}
use Rattle.sqlite.specs.declared.types.Value.{Value}
use Rattle.sqlite.specs.declared.types.Value.TheVariants.{Int}
use Rattle.sqlite.specs.Order.{column}
use Rattle.sqlite.specs.Ops.{binary, is_true}
use Rattle.sqlite_sql.specs.declared.ops.BinaryOp.TheVariants.{Compare}
use Rattle.sqlite_sql.specs.declared.ops.CompareOp.TheVariants.{Ge, Le}
use Rattle.sqlite.specs.Collation.TheVariants.{Binary}
use Rattle.sqlite.specs.Tree.{Trees}
use Rattle.sqlite.specs.Program.{overlay}
use Rattle.numbers.specs.Subjects.{Subject}
use Rattle.numbers.specs.Abstraction.{subject_of}
use Rattle.numbers.specs.declared.spid.Spid.{Spid}
use Rattle.numbers.specs.declared.ported.Subject.{Subject as SubjectImpl}
use Rattle.model.specs.Content.{VersionRow, BroadcastKey, BroadcastRow, WaitKey, subject_if}
use Rattle.settle.specs.Abstraction.{spid_of, broadcast_key_of, broadcast_row_of, wait_key_of}
use Rattle.settle.specs.declared.rows.NumberedRow.{NumberedRow}
use Rattle.settle.specs.declared.rows.BroadcastKey.{BroadcastKey as BroadcastKeyImpl}
use Rattle.settle.specs.declared.rows.WaitKey.{WaitKey as WaitKeyImpl}
use Rattle.delivery.specs.declared.broadcast.Broadcast.{Broadcast as BroadcastImpl}
use Rattle.sql_rows.specs.Shaped.{AreShaped}
use Rattle.sql_rows.specs.Values.{bool_from, found_in, number_in, spid_in, spid_value, subject_in, subject_number, subject_value}
use Rattle.sql_rows.specs.Versions.{version_in, shown_of}
use Rattle.sql_rows.specs.Content.{content_in, bare_in, carrier_in, carrier_shown, broadcast_in, broadcast_shown, wait_in, wait_shown, keyed}
use Rattle.sql_rows.specs.Found.{IsListAnswer}
use Rattle.sql_rows.specs.Once.{HasUniqueKeys}
use Rattle.sql_rows.specs.Statements.{query_test, shown_by}
use Rattle.sql_rows.specs.declared.statement.Table.TheVariants.{Carrier, Broadcast, Wait, Version}
use Rattle.sql_rows.specs.declared.statement.Query.TheVariants.{All, BroadcastsByOpen, WaitsAbout, WaitsFor, WaitsOf, InForceAmong, OpenAmong}
use Rattle.sql_rows.proofs.Backs.{subject_back}
use Rattle.sql_rows.proofs.DueLemmas.{above_numbers, below_numbers, ge_told, le_said, le_told, never_above}
use Rattle.sql_rows.proofs.FoundLemmas.{versions_once}
use Rattle.sql_rows.proofs.Inversions.{bind_some, broadcast_reads, found_read, number_read, reads, spid_read, subject_read, unfound_read, wait_reads}
use Rattle.sql_rows.proofs.KeyTests.{both, column_passes, equal_numbers, equal_spids, equals, two_of}
use Rattle.sql_rows.proofs.Listed.{listed}
use Rattle.sql_rows.proofs.Orders.{same_broadcast, same_number, same_wait}
use Rattle.model.proofs.KeyOrders.{broadcast_total, wait_total}
use Rattle.sql_rows.proofs.Picked.{Picks, Says, picks}
use Rattle.sql_rows.proofs.QueryLemmas.{passes, plain_answer}
use Rattle.numbers.proofs.Small.{and_both, true_both}

abbrev pub carrier_seen : Spid → ℕ × Unit {0}
carrier_seen c = (spid_of c, tt)

abbrev pub wait_seen : WaitKeyImpl × SubjectImpl → WaitKey × Subject
wait_seen w = keyed wait_key_of subject_of w

abbrev pub broadcast_seen : BroadcastKeyImpl × BroadcastImpl → BroadcastKey × BroadcastRow
broadcast_seen b = keyed broadcast_key_of broadcast_row_of b

abbrev pub version_seen : NumberedRow → ℕ × VersionRow
version_seen v = (v.id, v.row)

-- ---- tests

pub same_told : (m n : ℕ) → m ≡ n → is_eq (nat_cmp m n) ≡ true
same_told m n e = ap (λ k. is_eq (nat_cmp m k)) (sym e) ∙ ap is_eq (tied_itself nat_cmp_total m)

number_says : (b : Bool) (m n : ℕ) → b ≡ is_eq (nat_cmp m n) → (b ≡ true → m ≡ n)
    × (m ≡ n → b ≡ true)
number_says b m n is = (λ e. same_number m n (sym is ∙ e), λ e. is ∙ same_told m n e)

for_says : (s : Spid) → Says wait_total same_wait wait_in wait_shown wait_seen
    (passes (query_test WaitsFor) (spid_value s.number ∷ [])) (λ k v. k.carrier ≡ s.number)
for_says s r k v is =
    let reads = wait_reads r (k, v) is in
    let col = spid_read (column r 1) k.carrier reads.carrier in
    number_says _ k.carrier s.number (column_passes 1 (spid_value s.number) _ r col
    ∙ equal_spids k.carrier s (ap spid_in (sym col) ∙ reads.carrier))

of_says : (id attempt : ℕ) → Says wait_total same_wait wait_in wait_shown wait_seen
    (passes (query_test WaitsOf) (Int (pos id) ∷ Int (pos attempt) ∷ [])) (λ k v. (k.id ≡ id)
    × (k.attempt ≡ attempt))
of_says id attempt r k v is =
    let reads = wait_reads r (k, v) is in
    let test : passes (query_test WaitsOf) (Int (pos id) ∷ Int (pos attempt) ∷ []) r
    ≡ (is_eq (nat_cmp k.id id) && is_eq (nat_cmp k.attempt attempt)) =
    ap (λ v. both (equals v (Int (pos id)) ∷ equals (column r 4) (Int (pos attempt)) ∷ []))
    (number_read (column r 3) k.id reads.id)
    ∙ ap (λ v. both (equals (Int (pos k.id)) (Int (pos id)) ∷ equals v (Int (pos attempt)) ∷ []))
    (number_read (column r 4) k.attempt reads.attempt)
    ∙ rw (equal_numbers k.id id, equal_numbers k.attempt attempt) (two_of _ _)
    in (
      λ e. let t = and_both _ _ (sym test ∙ e) in
          (same_number k.id id t.0, same_number k.attempt attempt t.1),
      λ h. test ∙ true_both _ _ (same_told k.id id h.0) (same_told k.attempt attempt h.1),
    )

-- A subject that was read is determined by its number.
same_subject : (v : Value) (t : Subject) (s : SubjectImpl) → subject_in v ≡ Some t
    → subject_number t ≡ subject_number (subject_of s) → t ≡ subject_of s
same_subject v t s is same =
    let own : v ≡ subject_value t = subject_read v t is in
    let read : subject_in (subject_value (subject_of s)) ≡ Some t =
    ap (λ k. subject_in (Int (pos k))) (sym same) ∙ ap subject_in (sym own) ∙ is in
    let one : ◌≡◌ {A = Option Subject} (Some t) (Some (subject_of s)) = sym read ∙ subject_back s in
    cc

about_says : (c : Spid) (s : SubjectImpl) → Says wait_total same_wait wait_in wait_shown wait_seen
    (passes (query_test WaitsAbout) (subject_value (subject_of s) ∷ spid_value c.number ∷ []))
    (λ k v. (k.carrier ≡ c.number) × (v ≡ subject_of s))
about_says c s r k v is =
    let reads = wait_reads r (k, v) is in
    let n = subject_number (subject_of s) in
    let col = spid_read (column r 1) k.carrier reads.carrier in
    let test : passes (query_test WaitsAbout) (subject_value (subject_of s) ∷ spid_value c.number
    ∷ []) r ≡ (is_eq (nat_cmp (subject_number v) n) && is_eq (nat_cmp k.carrier c.number)) =
    ap (λ v. both (equals v (Int (pos n)) ∷ equals (column r 1) (spid_value c.number) ∷ []))
    (subject_read (column r 5) v reads.subject)
    ∙ ap (λ w. both (equals (subject_value v) (Int (pos n)) ∷ equals w (spid_value c.number) ∷ []))
    col
    ∙ rw (
      equal_numbers (subject_number v) n,
      equal_spids k.carrier c (ap spid_in (sym col) ∙ reads.carrier),
    ) (two_of _ _)
    in (
      λ e. let t = and_both _ _ (sym test ∙ e) in (
        same_number k.carrier c.number t.1,
        same_subject (column r 5) v s reads.subject (same_number (subject_number v) n t.0),
      ),
      λ h. test ∙ true_both _ _ (same_told (subject_number v) n (ap subject_number h.1))
          (same_told k.carrier c.number h.0),
    )

bool_told : (n : ℕ) (b : Bool) → bool_from n ≡ Some b → is_eq (nat_cmp n 1) ≡ b
bool_told n b h = by_cases (nat_lt n 1) refl (nat_lt n 2) refl h
  where
    by_cases : (low : Bool) → nat_lt n 1 ≡ low → (high : Bool) → nat_lt n 2 ≡ high
        → (if low then Some false else (if high then Some true else None)) ≡ Some b
        → is_eq (nat_cmp n 1) ≡ b
    by_cases true e high f h = let same : false ≡ b = cc in (let is : is_eq (nat_cmp n 1) ≡ false =
        grind (arith, nat_tests) in is) ∙ same
    by_cases false e true f h = let same : true ≡ b = cc in (let is : is_eq (nat_cmp n 1) ≡ true =
        grind (arith, nat_tests) in is) ∙ same
    by_cases false e false f h = absurd cc

open_says : Says broadcast_total same_broadcast broadcast_in broadcast_shown broadcast_seen
    (passes (query_test BroadcastsByOpen) (Int (pos 1) ∷ [])) (λ k v. v.is_open ≡ true)
open_says r k v is =
    let reads = broadcast_reads r (k, v) is in
    let n = bind_some bool_from (number_in (column r 8)) v.is_open reads.is_open in
    let test : passes (query_test BroadcastsByOpen) (Int (pos 1) ∷ []) r ≡ v.is_open =
    column_passes 8 (Int (pos 1)) _ r (number_read (column r 8) n.0 n.1) ∙ equal_numbers n.0 1
    ∙ bool_told n.0 v.is_open n.2 in
    (λ e. sym test ∙ e, λ e. test ∙ e)

-- ---- lists

module _ (db : Trees) (once : HasUniqueKeys db) where
  pub carriers_picked : (items : List Spid)
      → IsListAnswer (All Carrier) carrier_in db [] (map carrier_seen items)
      → Picks carrier_seen (content_in db).carriers (λ k v. Unit {0}) items
  carriers_picked items h =
      picks nat_cmp_total same_number carrier_in carrier_shown carrier_seen
      (passes (query_test (All Carrier)) []) (λ k v. Unit {0}) (db 0) items once.carriers
      (λ r k v is. (λ e. tt, λ e. refl))
      (listed carrier_seen carrier_in carrier_shown _ (db 0) h.0 items
      (plain_answer 0 (query_test (All Carrier)) (shown_by Carrier) (overlay db []) [] h.0 h.1) h.2)

  pub waits_for_picked : (s : Spid) (items : List (WaitKeyImpl × SubjectImpl))
      → IsListAnswer WaitsFor wait_in db (spid_value s.number ∷ []) (map wait_seen items)
      → Picks wait_seen (content_in db).waits (λ k v. k.carrier ≡ s.number) items
  waits_for_picked s items h =
      picks wait_total same_wait wait_in wait_shown wait_seen _ _ (db 10) items once.waits
      (for_says s)
      (listed wait_seen wait_in wait_shown _ (db 10) h.0 items
      (plain_answer 10 (query_test WaitsFor) (shown_by Wait) (overlay db [])
      (spid_value s.number ∷ []) h.0 h.1) h.2)

  pub waits_of_picked : (id attempt : ℕ) (items : List (WaitKeyImpl × SubjectImpl))
      → IsListAnswer WaitsOf wait_in db (Int (pos id) ∷ Int (pos attempt) ∷ [])
      (map wait_seen items) → Picks wait_seen (content_in db).waits (λ k v. (k.id ≡ id)
      × (k.attempt ≡ attempt)) items
  waits_of_picked id attempt items h =
      picks wait_total same_wait wait_in wait_shown wait_seen _ _ (db 10) items once.waits
      (of_says id attempt)
      (listed wait_seen wait_in wait_shown _ (db 10) h.0 items (plain_answer 10 (query_test WaitsOf)
      (shown_by Wait) (overlay db []) (Int (pos id) ∷ Int (pos attempt) ∷ []) h.0 h.1) h.2)

  pub waits_about_picked : (c : Spid) (s : SubjectImpl) (items : List (WaitKeyImpl × SubjectImpl))
      → IsListAnswer WaitsAbout wait_in db (subject_value (subject_of s) ∷ spid_value c.number ∷ [])
      (map wait_seen items)
      → Picks wait_seen (content_in db).waits (λ k v. (k.carrier ≡ c.number) × (v ≡ subject_of s))
      items
  waits_about_picked c s items h =
      picks wait_total same_wait wait_in wait_shown wait_seen _ _ (db 10) items once.waits
      (about_says c s)
      (listed wait_seen wait_in wait_shown _ (db 10) h.0 items
      (plain_answer 10 (query_test WaitsAbout) (shown_by Wait) (overlay db [])
      (subject_value (subject_of s) ∷ spid_value c.number ∷ []) h.0 h.1) h.2)

  pub broadcasts_picked : (items : List (BroadcastKeyImpl × BroadcastImpl))
      → IsListAnswer BroadcastsByOpen broadcast_in db (Int (pos 1) ∷ []) (map broadcast_seen items)
      → Picks broadcast_seen (content_in db).broadcasts (λ k v. v.is_open ≡ true) items
  broadcasts_picked items h =
      picks broadcast_total same_broadcast broadcast_in broadcast_shown broadcast_seen _ _ (db 8)
      items once.broadcasts open_says
      (listed broadcast_seen broadcast_in broadcast_shown _ (db 8) h.0 items
      (plain_answer 8 (query_test BroadcastsByOpen) (shown_by Broadcast) (overlay db [])
      (Int (pos 1) ∷ []) h.0 h.1) h.2)

-- ---- versions by subject column

ge_said : (m n : ℕ) → is_ge (nat_cmp m n) ≡ true → n ≤ m
ge_said m n h = grind (arith, nat_tests)

-- Whether the value is a number from low to high.
abbrev within : (low high : ℕ) → Value → Bool
within low high v =
    both (is_true (binary (Compare Ge Binary) v (Int (pos low))) ∷ is_true
    (binary (Compare Le Binary) v (Int (pos high))) ∷ [])

unfound_within : (low high id : ℕ) → within low high (Int (negsuc id)) ≡ false
unfound_within low high id =
    ap (λ b. both (b ∷ is_true (binary (Compare Le Binary) (Int (negsuc id)) (Int (pos high)))
    ∷ [])) (never_above id low)

number_within : (low high n : ℕ)
    → within low high (Int (pos n)) ≡ (is_ge (nat_cmp n low) && is_le (nat_cmp n high))
number_within low high n = rw (above_numbers n low, below_numbers n high) (two_of _ _)

-- Holds if there is a subject, from low to high.
abbrev pub IsAmong : (low high : ℕ) → Option Subject → Type 0
IsAmong low high None = ⊥
IsAmong low high (Some t) = (low ≤ subject_number t) × (subject_number t ≤ high)

within_says : (low high id : ℕ) (v : Value) (t : Subject) (b : Bool) → found_in id t v ≡ Some b
    → (within low high v ≡ true → IsAmong low high (subject_if b t))
    × (IsAmong low high (subject_if b t) → within low high v ≡ true)
within_says low high id v t true is =
    let test : within low high v ≡ (is_ge (nat_cmp (subject_number t) low) && is_le
    (nat_cmp (subject_number t) high)) = ap (within low high) (found_read id t v is)
    ∙ number_within low high (subject_number t) in (
      λ e. let both = and_both _ _ (sym test ∙ e) in (
        ge_said (subject_number t) low both.0,
        le_said (subject_number t) high both.1,
      ),
      λ h. test ∙ true_both _ _ (ge_told (subject_number t) low h.0)
          (le_told (subject_number t) high h.1),
    )
within_says low high id v t false is = (
  λ e. absurd (true≢false (sym e ∙ ap (within low high) (unfound_read id t v is)
      ∙ unfound_within low high id)),
  λ h. absurd h,
)

module _ (db : Trees) (shaped : AreShaped db) (low high : ℕ) where
  holds_say : Says nat_cmp_total same_number version_in shown_of version_seen
      (passes (query_test InForceAmong) (Int (pos low) ∷ Int (pos high) ∷ []))
      (λ id v. IsAmong low high v.holds)
  holds_say r id v is =
      let it = reads (shown_of r) (id, v) is in
      let says = within_says low high id (column r 19) v.subject it.is_in_force it.found_in_force in (
        λ e. subst (IsAmong low high) (sym it.holds) (says.0 e),
        λ h. says.1 (subst (IsAmong low high) it.holds h),
      )

  opens_say : Says nat_cmp_total same_number version_in shown_of version_seen
      (passes (query_test OpenAmong) (Int (pos low) ∷ Int (pos high) ∷ []))
      (λ id v. IsAmong low high v.opens)
  opens_say r id v is =
      let it = reads (shown_of r) (id, v) is in
      let says = within_says low high id (column r 20) v.subject it.is_open it.found_open in (
        λ e. subst (IsAmong low high) (sym it.opens) (says.0 e),
        λ h. says.1 (subst (IsAmong low high) it.opens h),
      )

  pub in_force_picked : (items : List NumberedRow)
      → IsListAnswer InForceAmong version_in db (Int (pos low) ∷ Int (pos high) ∷ [])
      (map version_seen items)
      → Picks version_seen (bare_in db).versions (λ id v. IsAmong low high v.holds) items
  in_force_picked items h =
      picks nat_cmp_total same_number version_in shown_of version_seen _ _ (db 18) items
      (versions_once db shaped) holds_say
      (listed version_seen version_in shown_of _ (db 18) h.0 items
      (plain_answer 18 (query_test InForceAmong) (shown_by Version) (overlay db [])
      (Int (pos low) ∷ Int (pos high) ∷ []) h.0 h.1) h.2)

  pub open_picked : (items : List NumberedRow)
      → IsListAnswer OpenAmong version_in db (Int (pos low) ∷ Int (pos high) ∷ [])
      (map version_seen items)
      → Picks version_seen (bare_in db).versions (λ id v. IsAmong low high v.opens) items
  open_picked items h =
      picks nat_cmp_total same_number version_in shown_of version_seen _ _ (db 18) items
      (versions_once db shaped) opens_say
      (listed version_seen version_in shown_of _ (db 18) h.0 items
      (plain_answer 18 (query_test OpenAmong) (shown_by Version) (overlay db [])
      (Int (pos low) ∷ Int (pos high) ∷ []) h.0 h.1) h.2)
