-- The tables as finite maps. Each row that reads as a key and a value is an entry; the first row
-- with a key counts.
use Rattle.std.specs.Prelude.{◌≡◌, ⊤, ℕ, ◌+◌, None, List, [], ◌∷◌, Some, Option, option_map, option_and_then}
use Rattle.std.specs.declared.cmp.Ordering.{Ordering}
use Rattle.std.specs.Ordering.{nat_cmp}
use Rattle.std.specs.List.{filter_map}
use Rattle.std.specs.FinMap.{FinMap, from_entries, get}
use Rattle.sqlite.specs.Order.{Row, column}
use Rattle.sqlite.specs.Tree.{Trees}
use Rattle.model.specs.Content.{Content, BlockRow, VersionRow, BroadcastRow, BroadcastKey, WaitKey, ClockRow, broadcast_cmp, wait_cmp, broadcast_key, wait_key}
use Rattle.model.specs.Windows.{Windows}
use Rattle.numbers.specs.Subjects.{Subject}
use Rattle.numbers.specs.Routings.{Routing}
use Rattle.sqlite.specs.declared.types.Value.{Value}
use Rattle.sqlite.specs.declared.types.Value.TheVariants.{Null, Text}
use Rattle.sqlite.specs.Values.{or_null}
use Rattle.sql_rows.specs.Values.{number_in, lrn_in, code_in, block_in, only_in, minute_in, spid_in, subject_in, action_in, routing_in, bool_in, or_null_in, window_in, set_number_in, number_value, spid_value, subject_value, bool_value, lrn_value, cic_value, action_word}
use Rattle.settle.specs.declared.rows.NumberedRow.{NumberedRow}
use Rattle.sql_rows.specs.Over.{over}
use Rattle.sql_rows.specs.Versions.{version_entry, rerouted}
use Rattle.sql_rows.specs.Clocks.{StoredClock, clock_row, with_windows}

abbrev pub content_of : {K V : Type 0} (R : K → K → Ordering) → (Row → Option (K × V)) → List Row
    → FinMap R V
content_of R read rows = from_entries (filter_map read rows)

abbrev pub pair : {K V : Type 0} → K → V → K × V
pair k v = (k, v)

-- The model of a row with its key.
abbrev pub keyed : {A B K V : Type 0} → (A → K) → (B → V) → A × B → K × V
keyed key row r = (key r.0, row r.1)

-- ---- rows as a query shows them, and as stored

abbrev pub carrier_in : Row → Option (ℕ × Unit {0})
carrier_in r = option_map (λ k. pair k tt) (spid_in (column r 0))

abbrev pub carrier_shown : Row → Row
carrier_shown r = column r 1 ∷ []

abbrev pub carrier_entry : Row → Option (ℕ × Unit {0})
carrier_entry r = carrier_in (carrier_shown r)

-- A number and its owner, in the tables of routing numbers and of codes.
abbrev pub owner_by : (Value → Option ℕ) → Row → Option (ℕ × ℕ)
owner_by key r =
    option_and_then (λ k. option_map (pair k) (spid_in (column r 1))) (key (column r 0))

abbrev pub lrn_row_in : Row → Option (ℕ × ℕ)
lrn_row_in r = owner_by lrn_in r

abbrev pub code_row_in : Row → Option (ℕ × ℕ)
code_row_in r = owner_by code_in r

abbrev pub owner_shown : Row → Row
owner_shown r = column r 0 ∷ column r 2 ∷ []

abbrev pub lrn_entry : Row → Option (ℕ × ℕ)
lrn_entry r = lrn_row_in (owner_shown r)

abbrev pub code_entry : Row → Option (ℕ × ℕ)
code_entry r = code_row_in (owner_shown r)

abbrev pub block_row : ℕ → Option ℕ → BlockRow
block_row donor last = record { donor = donor; last = last }

abbrev pub block_row_in : Row → Option (ℕ × BlockRow)
block_row_in r =
    option_and_then
    (λ k. option_and_then (λ donor. option_map (λ last. pair k (block_row donor last))
    (or_null_in number_in (column r 2))) (spid_in (column r 1))) (block_in (column r 0))

abbrev pub block_shown : Row → Row
block_shown r = column r 0 ∷ column r 2 ∷ column r 3 ∷ []

abbrev pub block_entry : Row → Option (ℕ × BlockRow)
block_entry r = block_row_in (block_shown r)

-- The routing that a version sends.
abbrev pub next_row_in : Row → Option (ℕ × Routing)
next_row_in r =
    option_and_then (λ id. option_and_then (option_map (pair id))
    (routing_in (column r 1) (column r 2))) (number_in (column r 0))

abbrev pub next_shown : Row → Row
next_shown r = column r 0 ∷ column r 2 ∷ column r 3 ∷ []

abbrev pub next_entry : Row → Option (ℕ × Routing)
next_entry r = next_row_in (next_shown r)

abbrev pub broadcast_in : Row → Option (BroadcastKey × BroadcastRow)
broadcast_in r =
    option_and_then
    (λ id. option_and_then
    (λ attempt. option_and_then
    (λ minute. option_and_then
    (λ subject. option_and_then
    (λ action. option_and_then (λ routing. option_and_then (λ is_open. option_map (λ any.
    pair (broadcast_key id attempt) (record {
      minute = minute;
      subject = subject;
      action = action;
      routing = routing;
      is_open = is_open;
      any = any;
    }))
    (bool_in (column r 8))) (bool_in (column r 7))) (routing_in (column r 5) (column r 6)))
    (action_in (column r 4))) (subject_in (column r 3))) (minute_in (column r 2)))
    (number_in (column r 1))) (number_in (column r 0))

abbrev pub broadcast_shown : Row → Row
broadcast_shown r = column r 1 ∷ column r 2 ∷ column r 3 ∷ column r 4 ∷ column r 5 ∷ column r 6
    ∷ column r 7 ∷ column r 8 ∷ column r 9 ∷ []

abbrev pub broadcast_entry : Row → Option (BroadcastKey × BroadcastRow)
broadcast_entry r = broadcast_in (broadcast_shown r)

abbrev pub wait_in : Row → Option (WaitKey × Subject)
wait_in r =
    option_and_then
    (λ carrier. option_and_then
    (λ minute. option_and_then
    (λ id. option_and_then (λ attempt. option_map (pair (wait_key carrier minute id attempt))
    (subject_in (column r 4))) (number_in (column r 3))) (number_in (column r 2)))
    (minute_in (column r 1))) (spid_in (column r 0))

abbrev pub wait_shown : Row → Row
wait_shown r = column r 1 ∷ column r 2 ∷ column r 3 ∷ column r 4 ∷ column r 5 ∷ []

abbrev pub wait_entry : Row → Option (WaitKey × Subject)
wait_entry r = wait_in (wait_shown r)

-- The nine windows in the columns from `first` on.
abbrev pub windows_in : (first : ℕ) → Row → Option Windows
windows_in first r =
    option_and_then
    (λ a. option_and_then
    (λ b. option_and_then
    (λ c. option_and_then
    (λ d. option_and_then
    (λ e. option_and_then
    (λ f. option_and_then (λ g. option_and_then (λ h. option_map (λ i. record {
      initial_concurrence = a;
      final_concurrence = b;
      conflict_restriction = c;
      conflict_resolution = d;
      conflict_expiration = e;
      cancellation_initial = f;
      cancellation_final = g;
      pending_retention = h;
      broadcast = i;
    }) (window_in (column r (first + 8)))) (window_in (column r (first + 7))))
    (window_in (column r (first + 6))))
    (window_in (column r (first + 5)))) (window_in (column r (first + 4))))
    (window_in (column r (first + 3)))) (window_in (column r (first + 2))))
    (window_in (column r (first + 1)))) (window_in (column r first))

-- A set of windows.
abbrev pub set_in : Row → Option (ℕ × Windows)
set_in r = option_and_then (λ n. option_map (pair n) (windows_in 1 r)) (set_number_in (column r 0))

abbrev pub set_shown : Row → Row
set_shown r =
    column r 0 ∷ column r 2 ∷ column r 3 ∷ column r 4 ∷ column r 5 ∷ column r 6 ∷ column r 7
    ∷ column r 8 ∷ column r 9 ∷ column r 10 ∷ []

abbrev pub set_entry : Row → Option (ℕ × Windows)
set_entry r = set_in (set_shown r)

abbrev pub stored_clock : ℕ → ℕ → ℕ → StoredClock
stored_clock minute next_id present = record {
  minute = minute;
  next_id = next_id;
  present = present;
}

abbrev pub clock_in : Row → Option (ℕ × StoredClock)
clock_in r =
    option_and_then
    (λ k. option_and_then
    (λ minute. option_and_then (λ next_id. option_map (λ n. pair k (stored_clock minute next_id n))
    (set_number_in (column r 3))) (number_in (column r 2))) (minute_in (column r 1)))
    (only_in (column r 0))

abbrev pub clock_shown : Row → Row
clock_shown r = column r 0 ∷ column r 2 ∷ column r 3 ∷ column r 4 ∷ []

abbrev pub clock_entry : Row → Option (ℕ × StoredClock)
clock_entry r = clock_in (clock_shown r)

-- The clock's row in an earlier schema: its windows are set 1.
abbrev pub old_clock_in : Row → Option (ℕ × ClockRow)
old_clock_in r =
    option_and_then
    (λ k. option_and_then
    (λ minute. option_and_then (λ next_id. option_map (λ w. pair k (clock_row minute next_id 1 w))
    (windows_in 3 r)) (number_in (column r 2))) (minute_in (column r 1))) (only_in (column r 0))

abbrev pub old_clock_shown : Row → Row
old_clock_shown r =
    column r 0 ∷ column r 2 ∷ column r 3 ∷ column r 4 ∷ column r 5 ∷ column r 6 ∷ column r 7
    ∷ column r 8 ∷ column r 9 ∷ column r 10 ∷ column r 11 ∷ column r 12 ∷ []

abbrev pub old_clock_entry : Row → Option (ℕ × ClockRow)
old_clock_entry r = old_clock_in (old_clock_shown r)

-- ---- the maps

abbrev pub versions_in : List Row → FinMap nat_cmp VersionRow
versions_in rows = content_of nat_cmp version_entry rows

abbrev pub nexts_in : List Row → FinMap nat_cmp Routing
nexts_in rows = content_of nat_cmp next_entry rows

abbrev pub sets_in : List Row → FinMap nat_cmp Windows
sets_in rows = content_of nat_cmp set_entry rows

abbrev pub clocks_in : List Row → FinMap nat_cmp StoredClock
clocks_in rows = content_of nat_cmp clock_entry rows

-- The clock's row in its table, with the windows of its set. A file whose set is missing still has
-- the row, so it is not a new one.
abbrev pub clock_from : FinMap nat_cmp Windows → FinMap nat_cmp StoredClock → Option ClockRow
clock_from sets clocks = option_map (with_windows sets) (get clocks 0)

-- The content of the tables, each version without the routing that it sends.
abbrev pub bare_in : Trees → Content
bare_in db = record {
  carriers = content_of nat_cmp carrier_entry (db 0);
  lrns = content_of nat_cmp lrn_entry (db 2);
  codes = content_of nat_cmp code_entry (db 3);
  blocks = content_of nat_cmp block_entry (db 4);
  versions = versions_in (db 18);
  broadcasts = content_of broadcast_cmp broadcast_entry (db 8);
  waits = content_of wait_cmp wait_entry (db 10);
  sets = sets_in (db 17);
  clock = clock_from (sets_in (db 17)) (clocks_in (db 21));
}

-- The content of a file, by its trees.
abbrev pub content_in : Trees → Content
content_in db = record (bare_in db) {
  versions = over rerouted (versions_in (db 18)) (nexts_in (db 16));
}

-- Holds if row is the bare one with the routing that it sends, which is in another table.
abbrev pub IsRoutedAs : Trees → (bare row : NumberedRow) → Type 0
IsRoutedAs db bare row =
    (row.id ≡ bare.id) × (row.row ≡ rerouted (get (nexts_in (db 16)) bare.id) bare.row)

abbrev pub IsFoundAs : Trees → (bare row : Option NumberedRow) → Type 0
IsFoundAs db None None = ⊤
IsFoundAs db (Some v) (Some w) = IsRoutedAs db v w
IsFoundAs db None (Some w) = ⊥
IsFoundAs db (Some v) None = ⊥

-- ---- parameters of the statements that insert rows

abbrev pub carrier_params : ℕ → Row
carrier_params carrier = spid_value carrier ∷ []

abbrev pub owner_params : ℕ → ℕ → Row
owner_params number owner = number_value number ∷ spid_value owner ∷ []

abbrev pub block_params : ℕ → BlockRow → Row
block_params block row = number_value block ∷ spid_value row.donor ∷ or_null number_value row.last
    ∷ []

abbrev pub broadcast_params : BroadcastKey → BroadcastRow → Row
broadcast_params k b =
    number_value k.id ∷ number_value k.attempt ∷ number_value b.minute ∷ subject_value b.subject
    ∷ Text (action_word b.action) ∷ lrn_value b.routing ∷ cic_value b.routing
    ∷ bool_value b.is_open ∷ bool_value b.any ∷ []

abbrev pub wait_params : WaitKey → Subject → Row
wait_params k s = spid_value k.carrier ∷ number_value k.minute ∷ number_value k.id ∷ number_value
    k.attempt ∷ subject_value s ∷ []

-- The columns of a download's key.
abbrev pub wait_key_params : WaitKey → Row
wait_key_params k = spid_value k.carrier ∷ number_value k.minute ∷ number_value k.id ∷ number_value
    k.attempt ∷ []

abbrev pub broadcast_key_params : BroadcastKey → Row
broadcast_key_params k = number_value k.id ∷ number_value k.attempt ∷ []

abbrev pub next_params : ℕ → Routing → Row
next_params id r = number_value id ∷ lrn_value (Some r) ∷ cic_value (Some r) ∷ []

abbrev pub set_params : ℕ → Windows → Row
set_params number w =
    number_value number ∷ number_value w.initial_concurrence ∷ number_value w.final_concurrence
    ∷ number_value w.conflict_restriction ∷ number_value w.conflict_resolution
    ∷ number_value w.conflict_expiration ∷ number_value w.cancellation_initial ∷ number_value
    w.cancellation_final ∷ number_value w.pending_retention ∷ number_value w.broadcast ∷ []

abbrev pub clock_params : ℕ → StoredClock → Row
clock_params number c = number_value number ∷ number_value c.minute ∷ number_value c.next_id
    ∷ number_value c.present ∷ []

-- ---- rows as stored: a rowid that the statement gives is the first column, and its own place is
-- NULL

abbrev pub stored : Row → Row
stored [] = []
stored (id ∷ values) = id ∷ Null ∷ values
