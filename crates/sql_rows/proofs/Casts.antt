-- A row is stored as its parameters.
use Rattle.std.proofs.Common.{◌≡◌, ℕ, ℤ, pos, [], ◌∷◌, Bool, true, false, cond, Option, Some, None, refl}
use Rattle.sqlite.specs.declared.types.Value.{Value}
use Rattle.sqlite.specs.declared.types.Value.TheVariants.{Null, Int}
use Rattle.sqlite.specs.Values.{or_null}
use Rattle.sqlite.specs.Ops.{unary}
use Rattle.sqlite.specs.Kind.TheVariants as kind
use Rattle.sqlite.specs.Cast.{cast}
use Rattle.sqlite.specs.Tree.{Trees}
use Rattle.numbers.specs.Subjects.{Subject}
use Rattle.numbers.specs.Routings.{Routing}
use Rattle.model.specs.Content.{BlockRow, VersionRow, BroadcastRow, BroadcastKey, WaitKey}
use Rattle.model.specs.Windows.{Windows}
use Rattle.sql_rows.specs.Clocks.{StoredClock}
use Rattle.model.specs.Statuses.{Status, Pending, Conflict, CancelPending, Sending, Active, PartialFailure, Failed, DisconnectPending, Old, Canceled}
use Rattle.sqlite.specs.Edit.{next_rowid}
use Rattle.sql_rows.specs.Values.{number_value, bool_value, lrn_value, cic_value, cic_of, release_value, by_value, found_value, subject_value}
use Rattle.sql_rows.specs.Versions.{version_params, version_row}
use Rattle.sql_rows.specs.Content.{next_params, carrier_params, owner_params, block_params, broadcast_params, wait_params, set_params, clock_params, stored}
use Rattle.sql_rows.specs.declared.statement.Table.TheVariants.{Carrier, Lrn, Code, Block, Version, Broadcast, Wait, Clock, NextRouting, WindowSet}
use Rattle.sql_rows.specs.Written.{cast_rows}

either : (b : Bool) (x : Value) → cond b x x ≡ x
either true x = refl
either false x = refl

pub cast_null : cast kind.Integer Null ≡ Null
unfolding unary
cast_null = either _ Null

pub cast_int : (n : ℤ) → cast kind.Integer (Int n) ≡ Int n
unfolding unary
cast_int n = either _ (Int n)

cast_number : (o : Option ℕ) → cast kind.Integer (or_null number_value o) ≡ or_null number_value o
cast_number None = cast_null
cast_number (Some n) = cast_int (pos n)

cast_subject : (s : Subject) → cast kind.Integer (subject_value s) ≡ subject_value s
cast_subject s = cast_int _

cast_found : (id : ℕ) (o : Option Subject) → cast kind.Integer (found_value id o) ≡ found_value id o
cast_found id None = cast_int _
cast_found id (Some s) = cast_subject s

cast_bool : (b : Bool) → cast kind.Integer (bool_value b) ≡ bool_value b
cast_bool true = cast_int (pos 1)
cast_bool false = cast_int (pos 0)

cast_lrn : (o : Option Routing) → cast kind.Integer (lrn_value o) ≡ lrn_value o
cast_lrn None = cast_null
cast_lrn (Some r) = cast_int _

cast_cic : (o : Option Routing) → cast kind.Integer (cic_value o) ≡ cic_value o
cast_cic None = cast_null
cast_cic (Some r) = by_cases r.cic
  where
    by_cases : (c : Option ℕ) → cast kind.Integer (cic_of c) ≡ cic_of c
    by_cases None = cast_null
    by_cases (Some n) = cast_int _

cast_release : (s : Status) → cast kind.Integer (release_value s) ≡ release_value s
cast_release Pending = cast_null
cast_release Conflict = cast_null
cast_release (CancelPending by) = cast_null
cast_release (Sending action) = cast_null
cast_release Active = cast_null
cast_release PartialFailure = cast_null
cast_release Failed = cast_null
cast_release (DisconnectPending release) = cast_int _
cast_release Old = cast_null
cast_release Canceled = cast_null

cast_by : (s : Status) → cast kind.Text (by_value s) ≡ by_value s
cast_by Pending = refl
cast_by Conflict = refl
cast_by (CancelPending by) = refl
cast_by (Sending action) = refl
cast_by Active = refl
cast_by PartialFailure = refl
cast_by Failed = refl
cast_by (DisconnectPending release) = refl
cast_by Old = refl
cast_by Canceled = refl

module _ (db : Trees) where
  -- The rowid of the next row of a table without a number.
  abbrev pub next_in : ℕ → Value
  next_in tree = Int (next_rowid (db tree))

  pub carrier_cast : (carrier : ℕ) → cast_rows Carrier (carrier_params carrier) db
      ≡ (next_in 0 ∷ carrier_params carrier) ∷ []
  carrier_cast carrier = rw cast_null refl

  pub lrn_cast : (lrn owner : ℕ) → cast_rows Lrn (owner_params lrn owner) db
      ≡ stored (owner_params lrn owner) ∷ []
  lrn_cast lrn owner = rw (cast_int (pos lrn), cast_null) refl

  pub code_cast : (code owner : ℕ) → cast_rows Code (owner_params code owner) db
      ≡ stored (owner_params code owner) ∷ []
  code_cast code owner = rw (cast_int (pos code), cast_null) refl

  pub block_cast : (block : ℕ) (row : BlockRow) → cast_rows Block (block_params block row) db
      ≡ stored (block_params block row) ∷ []
  block_cast block row = rw (cast_int (pos block), cast_null, cast_number row.last) refl

  pub broadcast_cast : (k : BroadcastKey) (b : BroadcastRow)
      → cast_rows Broadcast (broadcast_params k b) db ≡ (next_in 8 ∷ broadcast_params k b) ∷ []
  broadcast_cast k b = rw (
    cast_null,
    cast_int (pos k.id),
    cast_int (pos k.attempt),
    cast_int (pos b.minute),
    cast_subject b.subject,
    cast_lrn b.routing,
    cast_cic b.routing,
    cast_bool b.is_open,
    cast_bool b.any,
  ) refl

  pub wait_cast : (k : WaitKey) (s : Subject)
      → cast_rows Wait (wait_params k s) db ≡ (next_in 10 ∷ wait_params k s) ∷ []
  wait_cast k s = rw (
    cast_null,
    cast_int (pos k.minute),
    cast_int (pos k.id),
    cast_int (pos k.attempt),
    cast_subject s,
  ) refl

  pub next_cast : (id : ℕ) (r : Routing) → cast_rows NextRouting (next_params id r) db
      ≡ stored (next_params id r) ∷ []
  next_cast id r = rw (cast_int (pos id), cast_null, cast_lrn (Some r), cast_cic (Some r)) refl

  pub set_cast : (number : ℕ) (w : Windows) → cast_rows WindowSet (set_params number w) db
      ≡ stored (set_params number w) ∷ []
  set_cast number w =
      rw (
        cast_int (pos number),
        cast_null,
        cast_int (pos w.initial_concurrence),
        cast_int (pos w.final_concurrence),
        cast_int (pos w.conflict_restriction),
        cast_int (pos w.conflict_resolution),
        cast_int (pos w.conflict_expiration),
        cast_int (pos w.cancellation_initial),
        cast_int (pos w.cancellation_final),
        cast_int (pos w.pending_retention),
        cast_int (pos w.broadcast),
      ) refl

  pub clock_cast : (number : ℕ) (c : StoredClock) → cast_rows Clock (clock_params number c) db
      ≡ stored (clock_params number c) ∷ []
  clock_cast number c = rw (
    cast_int (pos number),
    cast_null,
    cast_int (pos c.minute),
    cast_int (pos c.next_id),
    cast_int (pos c.present),
  ) refl

  pub version_cast : (id : ℕ) (v : VersionRow) → cast_rows Version (version_params id v) db
      ≡ version_row id v ∷ []
  version_cast id v =
      rw (
        cast_int (pos id),
        cast_null,
        cast_int (pos v.due),
        cast_int (pos v.since),
        cast_int (pos v.attempt),
        cast_lrn v.routing,
        cast_cic v.routing,
        cast_number v.old_at,
        cast_number v.new_at,
        cast_release v.status,
        cast_bool v.spent,
        cast_bool v.protective,
        cast_by v.status,
        cast_number v.deadline,
        cast_found id v.holds,
        cast_found id v.opens,
        cast_int (pos v.held),
        cast_subject v.subject,
      ) refl
