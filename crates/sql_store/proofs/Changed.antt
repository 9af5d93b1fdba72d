-- The content with all rows of a batch written and deleted is the content with its changes.
use Rattle.std.proofs.Common.{◌≡◌, ℕ, List, [], ◌∷◌, map, Option, Some, None, Bool, true, false, cond, ◌&&◌, refl, sym, ap, ◌∙◌, arith, drop, drop-cons, add-one, suc, ◌+◌, ◌<◌, length, get_or}
use Rattle.std.specs.Prelude.{◌==◌, ◌||◌, IsTrue, if◌then◌else◌, is_some, option_map, unwrap_or}
use Rattle.std.specs.declared.cmp.Ordering.{Ordering}
use Rattle.std.specs.Ordering.{nat_cmp, eq_by_cmp, is_eq}
use Rattle.std.specs.Cmp.{IsTotalOrder, nat_cmp_total}
use Rattle.std.specs.FinMap.{FinMap, get, insert, remove, get-insert, get-remove, same_map, nat_cmp-IsAntisymmetric}
use Rattle.std.proofs.lemmas.Bool.Decides.{nat_tests}
use Rattle.numbers.specs.Abstraction.{subject_of}
use Rattle.numbers.specs.declared.block_id.BlockId.{BlockId}
use Rattle.numbers.specs.declared.code_id.CodeId.{CodeId}
use Rattle.numbers.specs.declared.lrn.Lrn.{Lrn}
use Rattle.numbers.specs.declared.spid.Spid.{Spid}
use Rattle.settle.specs.declared.rows.BlockRow.{BlockRow as BlockImpl}
use Rattle.settle.specs.declared.rows.ClockRow.{ClockRow as ClockImpl}
use Rattle.settle.specs.declared.rows.ClockMove.{ClockMove as MoveImpl}
use Rattle.windows.specs.declared.window.WindowSet.{WindowSet as SetImpl}
use Rattle.model.specs.Windows.{WindowSet, Windows}
use Rattle.version.specs.Abstraction.{no_windows, set_of, windows_of}
use Rattle.sql_rows.specs.Clocks.{StoredClock, clock_row, windows_named, with_windows}
use Rattle.model.specs.Content.{Content, ClockRow, BroadcastKey, VersionRow, WaitKey, broadcast_cmp, empty_content, wait_cmp}
use Rattle.settle.specs.Changes.{AppliesChanges, changes_of, clock_after, clock_move_of, put_rows, put_row, delete_rows, same_broadcast, same_wait}
use Rattle.settle.specs.Lists.{items_of}
use Rattle.settle.specs.Abstraction.{spid_of, lrn_of, code_of, block_of, block_row_of, clock_row_of, broadcast_row_of, broadcast_key_of, wait_key_of}
use Rattle.settle.specs.declared.changes.Changes.{Changes}
use Rattle.sql_rows.proofs.Orders.{broadcast_tie, wait_tie}
use Rattle.model.proofs.KeyOrders.{broadcast_total, wait_total}
use Rattle.sql_store.specs.Changes.{all_made, go_by_clock, if_some, singles, lists, with_changes, with_carrier, with_lrn, with_code, with_block, clock_made, with_version, without_version, with_broadcast, without_broadcast, with_wait, without_wait, replaced, rewindowed}
use Rattle.numbers.proofs.Small.{grouped}

-- ---- parts of the content that a change keeps

keeps_all : {X A : Type 0} (part : Content → A) (change : X → Content → Content)
    → ((x : X) (c : Content) → part (change x c) ≡ part c) → (xs : List X) (c : Content)
    → part (all_made change xs c) ≡ part c
keeps_all part change same [] c = refl
keeps_all part change same (x ∷ xs) c = keeps_all part change same xs (change x c) ∙ same x c

if_cond : {X : Type 0} (b : Bool) (x y : X) → cond b x y ≡ (if b then x else y)
if_cond true x y = refl
if_cond false x y = refl

-- Holds if a part does not depend on the clock and the sets of windows.
abbrev pub ClockKeeps : {A : Type 0} → (Content → A) → Type 0
ClockKeeps part = (c : Content) (sets : FinMap nat_cmp Windows) (clock : Option ClockRow)
    → part (record c { sets = sets; clock = clock }) ≡ part c

clock_keeps : {A : Type 0} (part : Content → A) → ClockKeeps part
    → (moved : Option MoveImpl) (set : Option SetImpl) (row : Option ClockImpl) (c : Content)
    → part (clock_made moved set row c) ≡ part c
clock_keeps part same None None row c = refl
clock_keeps part same (Some m) None None c = refl
clock_keeps part same (Some m) None (Some row) c = same c c.sets _
clock_keeps part same (Some m) (Some s) row c = same c _ _
clock_keeps part same None (Some s) (Some row) c = same c _ _
clock_keeps part same None (Some s) None c = same c _ _

-- ---- a table

-- The map with one row written, if there is one.
abbrev put_some : {X K V : Type 0} {R : K → K → Ordering} → (X → K) → (X → V) → Option X
    → FinMap R V → FinMap R V
put_some key value None m = m
put_some key value (Some x) m = insert m (key x) (value x)

module _ {K V : Type 0} (R : K → K → Ordering) (o : IsTotalOrder R) (same : K → K
    → Bool) (ties : (a b : K) → eq_by_cmp R b a ≡ same a b) where
  put_at : (m : FinMap R V) (key : K) (v : V) (k : K)
      → get (insert m key v) k ≡ (if same key k then Some v else get m k)
  put_at m key v k =
      get-insert o m key v k ∙ ap (λ b. cond b (Some v) (get m k)) (ties key k)
      ∙ if_cond _ (Some v) (get m k)

  one_put : {X : Type 0} (key : X → K) (value : X → V) (x : Option X) (m : FinMap R V) (k : K)
      → get (put_some key value x m) k ≡ put_row same (option_map (λ x. (key x, value x)) x) k
      (get m k)
  one_put key value None m k = refl
  one_put key value (Some x) m k = put_at m (key x) (value x) k

  module _ (table : Content → FinMap R V) where
    all_put : {X : Type 0} (key : X → K) (value : X → V) (change : X → Content → Content)
        → ((x : X) (c : Content) → table (change x c) ≡ insert (table c) (key x) (value x))
        → (xs : List X) (c : Content) (k : K) → get (table (all_made change xs c)) k
        ≡ put_rows same (map (λ x. (key x, value x)) xs) k (get (table c) k)
    all_put key value change is [] c k = refl
    all_put key value change is (x ∷ xs) c k =
        all_put key value change is xs (change x c) k
        ∙ ap (put_rows same (map (λ x. (key x, value x)) xs) k) (ap (λ m. get m k) (is x c)
        ∙ put_at (table c) (key x) (value x) k)

    all_taken : {X : Type 0} (key : X → K) (change : X → Content → Content)
        → ((x : X) (c : Content) → table (change x c) ≡ remove (table c) (key x))
        → (xs : List X) (c : Content) (k : K) → get (table (all_made change xs c)) k
        ≡ delete_rows same (map key xs) k (get (table c) k)
    all_taken key change is [] c k = refl
    all_taken key change is (x ∷ xs) c k =
        all_taken key change is xs (change x c) k
        ∙ ap (delete_rows same (map key xs) k) (ap (λ m. get m k) (is x c)
        ∙ get-remove o (table c) (key x) k
        ∙ ap (λ b. cond b None (get (table c) k)) (ties (key x) k)
        ∙ if_cond _ None (get (table c) k))

-- ---- a row deleted and written again is written

module _ {K V : Type 0} (same : K → K → Bool) (k : K) where
  abbrev hit : List (K × V) → Bool
  hit [] = false
  hit (p ∷ ps) = if same p.0 k then true else hit ps

  over : (ps : List (K × V)) (x y : Option V) → hit ps ≡ true
      → put_rows same ps k x ≡ put_rows same ps k y
  over [] x y h = absurd cc
  over (p ∷ ps) x y h = by_cases (same p.0 k) h (λ e. over ps x y e)
    where
      by_cases : (b : Bool) → (if b then true else hit ps) ≡ true
          → (hit ps ≡ true → put_rows same ps k x ≡ put_rows same ps k y)
          → put_rows same ps k (if b then Some p.1 else x) ≡ put_rows same ps k (if b then Some p.1
          else y)
      by_cases true e more = refl
      by_cases false e more = more e

  missed : (ps : List (K × V)) (x : Option V) → hit ps ≡ false
      → delete_rows same (map (λ p. p.0) ps) k x ≡ x
  missed [] x h = refl
  missed (p ∷ ps) x h = by_cases (same p.0 k) h (λ e. missed ps x e)
    where
      by_cases : (b : Bool) → (if b then true else hit ps) ≡ false
          → (hit ps ≡ false → delete_rows same (map (λ p. p.0) ps) k x ≡ x)
          → delete_rows same (map (λ p. p.0) ps) k (if b then None else x) ≡ x
      by_cases true e more = absurd cc
      by_cases false e more = more e

  put_again : (ps : List (K × V)) (x : Option V)
      → put_rows same ps k (delete_rows same (map (λ p. p.0) ps) k x) ≡ put_rows same ps k x
  put_again ps x = by_cases (hit ps) refl
    where
      by_cases : (b : Bool) → hit ps ≡ b
          → put_rows same ps k (delete_rows same (map (λ p. p.0) ps) k x)
          ≡ put_rows same ps k x
      by_cases true e = over ps _ _ e
      by_cases false e = ap (put_rows same ps k) (missed ps x e)

pairs_map : {K V : Type 0} (ps : List (K × V)) → map (λ (p : K × V). (p.0, p.1)) ps ≡ ps
pairs_map [] = refl
pairs_map (p ∷ ps) = ap (λ l. p ∷ l) (pairs_map ps)

-- ---- the keys

number_ties : (a b : ℕ) → eq_by_cmp nat_cmp b a ≡ (a == b)
number_ties a b = grind (arith, nat_tests)

-- The clock's row has the windows of a set that was written, if it names that set.
chosen : (b : Bool) (w : Windows) (o : Option Windows)
    → unwrap_or (if b then Some w else o) no_windows ≡ (if b then w else unwrap_or o no_windows)
chosen true w o = refl
chosen false w o = refl

pub set_alone : (number : ℕ) (w : Windows) (sets : FinMap nat_cmp Windows) (o : Option StoredClock)
    → option_map (with_windows (insert sets number w)) o
    ≡ option_map (rewindowed number w) (option_map (with_windows sets) o)
set_alone number w sets None = refl
set_alone number w sets (Some c) =
    ap (λ v. Some (clock_row c.minute c.next_id c.present v))
    (ap (λ o. unwrap_or o no_windows) (put_at nat_cmp nat_cmp_total ◌==◌ number_ties sets number w
    c.present)
    ∙ chosen (number == c.present) w (get sets c.present))

turned : (a b : ℕ) → is_eq (nat_cmp b a) ≡ (a == b)
turned a b = grind (arith, nat_tests)

broadcast_ties : (a b : BroadcastKey) → eq_by_cmp broadcast_cmp b a ≡ same_broadcast a b
broadcast_ties a b = broadcast_tie b a ∙ ap (λ x. x && is_eq (nat_cmp b.attempt a.attempt))
    (turned a.id b.id) ∙ ap (λ x. (a.id == b.id) && x) (turned a.attempt b.attempt)

wait_ties : (a b : WaitKey) → eq_by_cmp wait_cmp b a ≡ same_wait a b
wait_ties a b =
    wait_tie b a ∙ rw (
      turned a.carrier b.carrier,
      turned a.minute b.minute,
      turned a.id b.id,
      turned a.attempt b.attempt,
    ) (grouped (a.carrier == b.carrier) (a.minute == b.minute) (a.id == b.id)
    (a.attempt == b.attempt))

-- ---- all changes

-- The content without the tables that lists change.
abbrev singly : Content → Content
singly m = record m {
  versions = empty_content.versions;
  broadcasts = empty_content.broadcasts;
  waits = empty_content.waits;
}

lists_keep : (ch : Changes) (c : Content) → singly (lists ch c) ≡ singly c
lists_keep ch c =
    keeps_all singly (λ k. without_wait (wait_key_of k)) (λ k c. refl) (items_of ch.deleted_waits) _
    ∙ keeps_all singly (λ k. without_broadcast (broadcast_key_of k)) (λ k c. refl)
    (items_of ch.deleted_broadcasts) _
    ∙ keeps_all singly (λ e. with_wait (wait_key_of e.0) (subject_of e.1)) (λ e c. refl)
    ch.waits.items _
    ∙ keeps_all singly (λ e. with_broadcast (broadcast_key_of e.0) (broadcast_row_of e.1))
    (λ e c. refl) (items_of ch.broadcasts) _
    ∙ keeps_all singly (λ e. with_version e.0 e.1) (λ e c. refl) (items_of ch.versions) _
    ∙ keeps_all singly (λ e. without_version e.0) (λ e c. refl) (items_of ch.versions) c

-- The content with a row written into each table of the registry, if there is one.
abbrev put_carrier : Option Spid → Content → Content
put_carrier o c = record c { carriers = put_some spid_of (λ _. tt) o c.carriers }

abbrev put_lrn : Option (Lrn × Spid) → Content → Content
put_lrn o c = record c { lrns = put_some (λ e. lrn_of e.0) (λ e. spid_of e.1) o c.lrns }

abbrev put_code : Option (CodeId × Spid) → Content → Content
put_code o c = record c { codes = put_some (λ e. code_of e.0) (λ e. spid_of e.1) o c.codes }

abbrev put_block : Option (BlockId × BlockImpl) → Content → Content
put_block o c = record c {
  blocks = put_some (λ e. block_of e.0) (λ e. block_row_of e.1) o c.blocks;
}

if_some_is : {X : Type 0} (change : X → Content → Content) (put : Option X → Content → Content)
    → ((c : Content) → c ≡ put None c) → ((x : X) (c : Content) → change x c ≡ put (Some x) c)
    → (o : Option X) (c : Content) → if_some change o c ≡ put o c
if_some_is change put none some None c = none c
if_some_is change put none some (Some x) c = some x c

abbrev unit_pair : ℕ → ℕ × Unit {0}
unit_pair k = (k, tt)

module _ (ch : Changes) (row : Option ClockImpl) (c : Content) where
  -- The content before the clock's row and the sets are written.
  abbrev before : Content
  before =
      if_some (λ e. with_block (block_of e.0) (block_row_of e.1)) ch.block
      (if_some (λ e. with_code (code_of e.0) (spid_of e.1)) ch.code
      (if_some (λ e. with_lrn (lrn_of e.0) (spid_of e.1)) ch.lrn
      (if_some (λ k. with_carrier (spid_of k)) ch.carrier c)))

  abbrev registered : Content
  registered = put_block ch.block (put_code ch.code (put_lrn ch.lrn (put_carrier ch.carrier c)))

  before_is : before ≡ registered
  before_is =
      if_some_is (λ e. with_block (block_of e.0) (block_row_of e.1)) put_block (λ c. refl)
      (λ e c. refl) ch.block _
      ∙ ap (put_block ch.block) (if_some_is (λ e. with_code (code_of e.0) (spid_of e.1)) put_code
      (λ c. refl) (λ e c. refl) ch.code _
      ∙ ap (put_code ch.code) (if_some_is (λ e. with_lrn (lrn_of e.0) (spid_of e.1)) put_lrn
      (λ c. refl) (λ e c. refl) ch.lrn _
      ∙ ap (put_lrn ch.lrn) (if_some_is (λ k. with_carrier (spid_of k)) put_carrier (λ c. refl)
      (λ k c. refl) ch.carrier c)))

  -- The tables of the registry.
  abbrev registry : Content → Content
  registry m = record empty_content {
    carriers = m.carriers;
    lrns = m.lrns;
    codes = m.codes;
    blocks = m.blocks;
  }

  registry_made : registry (with_changes ch row c) ≡ registry registered
  registry_made =
      ap registry (lists_keep ch (singles ch row c))
      ∙ clock_keeps registry (λ c sets clock. refl) ch.clock ch.set row before
      ∙ ap registry before_is

  carriers_left : (k : ℕ)
      → get (with_changes ch row c).carriers k ≡ put_row ◌==◌
      (option_map unit_pair (option_map spid_of ch.carrier)) k (get c.carriers k)
  carriers_left k =
      ap (λ (m : Content). get m.carriers k) registry_made
      ∙ one_put nat_cmp nat_cmp_total ◌==◌ number_ties spid_of (λ _. tt) ch.carrier c.carriers k
      ∙ ap (λ o. put_row ◌==◌ o k (get c.carriers k)) (twice ch.carrier)
    where
      twice : (o : Option Spid) → option_map (λ (x : Spid). unit_pair (spid_of x)) o
          ≡ option_map unit_pair (option_map spid_of o)
      twice None = refl
      twice (Some x) = refl

  lrns_left : (k : ℕ)
      → get (with_changes ch row c).lrns k ≡ put_row ◌==◌
      (option_map (λ e. (lrn_of e.0, spid_of e.1))
      ch.lrn) k (get c.lrns k)
  lrns_left k =
      ap (λ (m : Content). get m.lrns k) registry_made
      ∙ one_put nat_cmp nat_cmp_total ◌==◌ number_ties (λ e. lrn_of e.0) (λ e. spid_of e.1) ch.lrn
      c.lrns k

  codes_left : (k : ℕ)
      → get (with_changes ch row c).codes k ≡ put_row ◌==◌
      (option_map (λ e. (code_of e.0, spid_of e.1))
      ch.code) k (get c.codes k)
  codes_left k =
      ap (λ (m : Content). get m.codes k) registry_made
      ∙ one_put nat_cmp nat_cmp_total ◌==◌ number_ties (λ e. code_of e.0) (λ e. spid_of e.1)
      ch.code c.codes k

  blocks_left : (k : ℕ)
      → get (with_changes ch row c).blocks k ≡ put_row ◌==◌
      (option_map (λ e. (block_of e.0, block_row_of e.1)) ch.block) k (get c.blocks k)
  blocks_left k =
      ap (λ (m : Content). get m.blocks k) registry_made
      ∙ one_put nat_cmp nat_cmp_total ◌==◌ number_ties (λ e. block_of e.0) (λ e. block_row_of e.1)
      ch.block c.blocks k

  -- The tables that lists change; no single row is written there.
  abbrev many : Content → Content
  many m = record empty_content {
    versions = m.versions;
    broadcasts = m.broadcasts;
    waits = m.waits;
  }

  singles_keep : many (singles ch row c) ≡ many c
  singles_keep =
      clock_keeps many (λ c sets clock. refl) ch.clock ch.set row before ∙ ap many before_is

  clock_left : (IsTrue (go_by_clock ch) → option_map clock_row_of row ≡ c.clock)
      → ((r : ClockRow) → c.clock ≡ Some r
      → windows_named c.sets r.present.number ≡ r.present.windows)
      → (with_changes ch row c).clock ≡ clock_after (option_map clock_move_of ch.clock)
      (option_map set_of ch.set) c.clock
  clock_left is joins =
      ap (λ (m : Content). m.clock) (lists_keep ch (singles ch row c))
      ∙ by_cases ch.clock ch.set row before (ap (λ (m : Content). m.clock) before_is)
      (ap (λ (m : Content). m.sets) before_is) is
    where
      by_cases : (moved : Option MoveImpl) (set : Option SetImpl) (row : Option ClockImpl)
          (m : Content)
          → m.clock ≡ c.clock → m.sets ≡ c.sets → (IsTrue (is_some moved || is_some set)
          → option_map clock_row_of row ≡ c.clock)
          → (clock_made moved set row m).clock ≡ clock_after (option_map clock_move_of moved)
          (option_map set_of set) c.clock
      by_cases None None row m same sets is = same
      by_cases (Some t) None None m same sets is =
          same ∙ sym (is refl) ∙ ap (option_map (λ (r : ClockRow). record r {
            minute =
                t.minute.number;
            next_id = t.next_id;
          })) (is refl)
      by_cases (Some t) None (Some r) m same sets is =
          ap (λ (s : FinMap nat_cmp Windows). Some (clock_row t.minute.number t.next_id
          r.present.number (windows_named s r.present.number))) sets
          ∙ ap (λ w. Some (clock_row t.minute.number t.next_id r.present.number w))
          (joins (clock_row_of r) (sym (is refl)))
          ∙ ap (option_map (λ (r : ClockRow). record r {
            minute = t.minute.number;
            next_id =
                t.next_id;
          })) (is refl)
      by_cases (Some t) (Some s) row m same sets is = refl
      by_cases None (Some s) (Some r) m same sets is =
          ap (option_map (λ (r : ClockRow). record r { present = set_of s })) (is refl)
      by_cases None (Some s) None m same sets is =
          ap (option_map (rewindowed s.number (windows_of s.windows))) (same ∙ sym (is refl))
          ∙ ap (option_map (λ (r : ClockRow). record r { present = set_of s })) (is refl)

  sets_left : (k : ℕ)
      → get (with_changes ch row c).sets k ≡ put_row ◌==◌
      (option_map (λ (s : WindowSet). (s.number, s.windows)) (option_map set_of ch.set)) k
      (get c.sets k)
  sets_left k =
      ap (λ (m : Content). get m.sets k) (lists_keep ch (singles ch row c))
      ∙ by_cases ch.clock ch.set row before
      ∙ ap (λ (m : Content). put_row ◌==◌ (option_map (λ (s : WindowSet). (s.number, s.windows))
      (option_map set_of ch.set)) k (get m.sets k)) before_is
    where
      at : (s : SetImpl) (m : FinMap nat_cmp Windows)
          → get (insert m s.number (windows_of s.windows)) k ≡ (if s.number == k
          then Some (windows_of s.windows) else get m k)
      at s m = put_at nat_cmp nat_cmp_total ◌==◌ number_ties m s.number (windows_of s.windows) k

      by_cases : (moved : Option MoveImpl) (set : Option SetImpl) (row : Option ClockImpl)
          (m : Content)
          → get (clock_made moved set row m).sets k ≡ put_row ◌==◌
          (option_map (λ (s : WindowSet). (s.number, s.windows)) (option_map set_of set)) k
          (get m.sets k)
      by_cases None None row m = refl
      by_cases (Some t) None None m = refl
      by_cases (Some t) None (Some r) m = refl
      by_cases (Some t) (Some s) row m = at s m.sets
      by_cases None (Some s) (Some r) m = at s m.sets
      by_cases None (Some s) None m = at s m.sets

  versions_left : (k : ℕ) → get (with_changes ch row c).versions k ≡ put_rows ◌==◌
      (items_of ch.versions) k
      (get c.versions k)
  versions_left k =
      let ps = items_of ch.versions in
      ap (λ m. get m k) (keeps_all (λ m. m.versions) (λ k. without_wait (wait_key_of k))
      (λ k c. refl)
      (items_of ch.deleted_waits) _ ∙ keeps_all (λ m. m.versions)
      (λ k. without_broadcast (broadcast_key_of k)) (λ k c. refl) (items_of ch.deleted_broadcasts) _
      ∙ keeps_all (λ m. m.versions) (λ e. with_wait (wait_key_of e.0) (subject_of e.1))
      (λ e c. refl) ch.waits.items _ ∙ keeps_all (λ m. m.versions)
      (λ e. with_broadcast (broadcast_key_of e.0) (broadcast_row_of e.1)) (λ e c. refl)
      (items_of ch.broadcasts) _)
      ∙ all_put nat_cmp nat_cmp_total ◌==◌ number_ties (λ m. m.versions) (λ e. e.0) (λ e. e.1)
      (λ e. with_version e.0 e.1) (λ x c. refl) ps _ k
      ∙ ap (λ l. put_rows ◌==◌ l k
      (get (all_made (λ e. without_version e.0) ps (singles ch row c)).versions k)) (pairs_map ps)
      ∙ ap (put_rows ◌==◌ ps k) (all_taken nat_cmp nat_cmp_total ◌==◌ number_ties (λ m. m.versions)
      (λ e. e.0) (λ e. without_version e.0) (λ x c. refl) ps (singles ch row c) k)
      ∙ put_again ◌==◌ k ps _
      ∙ ap (λ (m : Content). put_rows ◌==◌ ps k (get m.versions k)) singles_keep

  broadcasts_left : (k : BroadcastKey) → get (with_changes ch row c).broadcasts k
      ≡ delete_rows same_broadcast (map broadcast_key_of (items_of ch.deleted_broadcasts)) k
      (put_rows same_broadcast (map (λ e. (broadcast_key_of e.0, broadcast_row_of e.1))
      (items_of ch.broadcasts)) k (get c.broadcasts k))
  broadcasts_left k =
      ap (λ m. get m k) (keeps_all (λ m. m.broadcasts) (λ k. without_wait (wait_key_of k))
      (λ k c. refl)
      (items_of ch.deleted_waits) _)
      ∙ all_taken broadcast_cmp broadcast_total same_broadcast broadcast_ties (λ m. m.broadcasts)
      broadcast_key_of (λ k. without_broadcast (broadcast_key_of k)) (λ x c. refl)
      (items_of ch.deleted_broadcasts) _ k
      ∙ ap (delete_rows same_broadcast (map broadcast_key_of (items_of ch.deleted_broadcasts)) k)
      (ap (λ m. get m k) (keeps_all (λ m. m.broadcasts) (λ e. with_wait (wait_key_of e.0)
      (subject_of e.1)) (λ e c. refl) ch.waits.items _)
      ∙ all_put broadcast_cmp broadcast_total same_broadcast broadcast_ties (λ m. m.broadcasts)
      (λ e. broadcast_key_of e.0) (λ e. broadcast_row_of e.1)
      (λ e. with_broadcast (broadcast_key_of e.0) (broadcast_row_of e.1)) (λ x c. refl)
      (items_of ch.broadcasts) _ k
      ∙ ap (λ m. put_rows same_broadcast (map (λ e. (broadcast_key_of e.0, broadcast_row_of e.1))
      (items_of ch.broadcasts)) k (get m k))
      (keeps_all (λ m. m.broadcasts) (λ e. with_version e.0 e.1) (λ e c. refl)
      (items_of ch.versions) _ ∙ keeps_all (λ m. m.broadcasts) (λ e. without_version e.0)
      (λ e c. refl) (items_of ch.versions) _ ∙ ap (λ (m : Content). m.broadcasts) singles_keep))

  waits_left : (k : WaitKey)
      → get (with_changes ch row c).waits k ≡ delete_rows same_wait
      (map wait_key_of (items_of ch.deleted_waits)) k
      (put_rows same_wait (map (λ e. (wait_key_of e.0, subject_of e.1)) ch.waits.items) k
      (get c.waits k))
  waits_left k =
      all_taken wait_cmp wait_total same_wait wait_ties (λ m. m.waits) wait_key_of
      (λ k. without_wait (wait_key_of k)) (λ x c. refl) (items_of ch.deleted_waits) _ k
      ∙ ap (delete_rows same_wait (map wait_key_of (items_of ch.deleted_waits)) k)
      (ap (λ m. get m k) (keeps_all (λ m. m.waits) (λ k. without_broadcast (broadcast_key_of k))
      (λ k c. refl) (items_of ch.deleted_broadcasts) _)
      ∙ all_put wait_cmp wait_total same_wait wait_ties (λ m. m.waits) (λ e. wait_key_of e.0)
      (λ e. subject_of e.1) (λ e. with_wait (wait_key_of e.0) (subject_of e.1)) (λ x c. refl)
      ch.waits.items _ k
      ∙ ap (λ m. put_rows same_wait (map (λ e. (wait_key_of e.0, subject_of e.1)) ch.waits.items) k
      (get m k)) (keeps_all (λ m. m.waits) (λ e. with_broadcast (broadcast_key_of e.0)
      (broadcast_row_of e.1)) (λ e c. refl) (items_of ch.broadcasts) _ ∙ keeps_all (λ m. m.waits)
      (λ e. with_version e.0 e.1) (λ e c. refl) (items_of ch.versions) _ ∙ keeps_all (λ m. m.waits)
      (λ e. without_version e.0) (λ e c. refl) (items_of ch.versions) _
      ∙ ap (λ (m : Content). m.waits) singles_keep))

  pub changed : (IsTrue (go_by_clock ch) → option_map clock_row_of row ≡ c.clock)
      → ((r : ClockRow) → c.clock ≡ Some r
      → windows_named c.sets r.present.number ≡ r.present.windows)
      → AppliesChanges (changes_of ch) c (with_changes ch row c)
  changed is joins = record {
    carriers = carriers_left;
    lrns = lrns_left;
    codes = codes_left;
    blocks = blocks_left;
    versions = versions_left;
    broadcasts = broadcasts_left;
    waits = waits_left;
    sets = sets_left;
    clock = clock_left is joins;
  }

-- ---- one more of many

pub one_more : {X : Type 0} (change : X → Content → Content) (xs : List X) (i : ℕ) (x : X)
    → i < length xs → x ≡ get_or xs i x → (c : Content)
    → all_made change (drop (i + 1) xs) (change x c) ≡ all_made change (drop i xs) c
one_more change xs i x low item c =
    rw add-one (sym (ap (λ l. all_made change l c) (drop-cons xs i x low)
    ∙ ap (λ y. all_made change (drop (suc i) xs) (change y c)) (sym item)))

-- ---- one version

-- To write the row of one version is to replace it.
pub one_replaced : (p : ℕ × VersionRow) (c : Content)
    → with_version p.0 p.1 c ≡ replaced (p ∷ []) c
one_replaced p c =
    ap (λ m. record c { versions = m }) (same_map nat_cmp_total nat_cmp-IsAntisymmetric _ _ at)
  where
    by_cases : (b : Bool) (o : Option VersionRow)
        → (if b then Some p.1 else o) ≡ (if b then Some p.1 else (if b then None else o))
    by_cases true o = refl
    by_cases false o = refl

    at : (k : ℕ) → get (with_version p.0 p.1 c).versions k ≡ get (replaced (p ∷ []) c).versions k
    at k =
        put_at nat_cmp nat_cmp_total ◌==◌ number_ties c.versions p.0 p.1 k
        ∙ by_cases (p.0 == k) (get c.versions k)
        ∙ ap (λ o. if p.0 == k then Some p.1 else o) (sym (all_taken nat_cmp nat_cmp_total ◌==◌
        number_ties (λ m. m.versions) (λ e. e.0) (λ e. without_version e.0) (λ x c. refl) (p ∷ []) c
        k))
        ∙ sym (put_at nat_cmp nat_cmp_total ◌==◌ number_ties (without_version p.0 c).versions p.0
        p.1 k)
