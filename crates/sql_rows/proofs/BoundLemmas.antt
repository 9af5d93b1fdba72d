-- Bound parameters are the values given.
use Rattle.std.proofs.Common.{◌≡◌, ℕ, List, [], ◌∷◌, map, Bool, true, false, Option, Some, None, refl, ap, ◌∙◌}
use Rattle.sqlite_value.specs.declared.value.ValueRef.{ValueRef}
use Rattle.sqlite.specs.Value.{owned}
use Rattle.sqlite.specs.Values.{or_null, bound, bound_value}
use Rattle.sqlite.specs.Order.{Row}
use Rattle.numbers.specs.Subjects.{Subject}
use Rattle.numbers.specs.Routings.{Routing}
use Rattle.model.specs.Content.{VersionRow}
use Rattle.model.specs.Statuses.{Status, Pending, Conflict, CancelPending, Sending, Active, PartialFailure, Failed, DisconnectPending, Old, Canceled}
use Rattle.sql_rows.specs.Values.{number_value, bool_value, lrn_value, cic_value, cic_of, release_value, by_value, found_value}
use Rattle.model.specs.Content.{BlockRow, BroadcastKey, BroadcastRow, WaitKey}
use Rattle.model.specs.Windows.{Windows}
use Rattle.sql_rows.specs.Clocks.{StoredClock}
use Rattle.sql_rows.specs.Versions.{version_params}
use Rattle.sql_rows.specs.Content.{block_params, broadcast_params, wait_params, clock_params, set_params, next_params, wait_key_params, broadcast_key_params}

bound_map : (rs : List ValueRef) → bound rs ≡ map bound_value (map owned rs)
bound_map [] = refl
bound_map (r ∷ rs) = ap (λ l. bound_value (owned r) ∷ l) (bound_map rs)

numbers : (o : Option ℕ) → bound_value (or_null number_value o) ≡ or_null number_value o
numbers None = refl
numbers (Some n) = refl

founds : (id : ℕ) (o : Option Subject) → bound_value (found_value id o) ≡ found_value id o
founds id None = refl
founds id (Some s) = refl

bools : (b : Bool) → bound_value (bool_value b) ≡ bool_value b
bools true = refl
bools false = refl

lrns : (o : Option Routing) → bound_value (lrn_value o) ≡ lrn_value o
lrns None = refl
lrns (Some r) = refl

cics : (o : Option Routing) → bound_value (cic_value o) ≡ cic_value o
cics None = refl
cics (Some r) = by_cases r.cic
  where
    by_cases : (c : Option ℕ) → bound_value (cic_of c) ≡ cic_of c
    by_cases None = refl
    by_cases (Some n) = refl

releases : (s : Status) → bound_value (release_value s) ≡ release_value s
releases Pending = refl
releases Conflict = refl
releases (CancelPending by) = refl
releases (Sending action) = refl
releases Active = refl
releases PartialFailure = refl
releases Failed = refl
releases (DisconnectPending release) = refl
releases Old = refl
releases Canceled = refl

sides : (s : Status) → bound_value (by_value s) ≡ by_value s
sides Pending = refl
sides Conflict = refl
sides (CancelPending by) = refl
sides (Sending action) = refl
sides Active = refl
sides PartialFailure = refl
sides Failed = refl
sides (DisconnectPending release) = refl
sides Old = refl
sides Canceled = refl

-- The parameters of each table's statements are bound unchanged.
pub bound_as : (rs : List ValueRef) (row : Row) → map owned rs ≡ row → map bound_value row ≡ row
    → bound rs ≡ row
bound_as rs row is same = bound_map rs ∙ ap (map bound_value) is ∙ same

pub bound_version : (rs : List ValueRef) (id : ℕ) (v : VersionRow)
    → map owned rs ≡ version_params id v → bound rs ≡ version_params id v
bound_version rs id v is =
    bound_as rs _ is (rw (
      lrns v.routing,
      cics v.routing,
      numbers v.old_at,
      numbers v.new_at,
      releases v.status,
      bools v.spent,
      bools v.protective,
      sides v.status,
      numbers v.deadline,
      founds id v.holds,
      founds id v.opens,
    ) refl)

pub bound_block : (rs : List ValueRef) (block : ℕ) (row : BlockRow)
    → map owned rs ≡ block_params block row → bound rs ≡ block_params block row
bound_block rs block row is = bound_as rs _ is (rw (numbers row.last) refl)

pub bound_broadcast : (rs : List ValueRef) (k : BroadcastKey) (b : BroadcastRow)
    → map owned rs ≡ broadcast_params k b → bound rs ≡ broadcast_params k b
bound_broadcast rs k b is =
    bound_as rs _ is (rw (lrns b.routing, cics b.routing, bools b.is_open, bools b.any) refl)

pub bound_set : (rs : List ValueRef) (number : ℕ) (w : Windows) → map owned rs ≡ set_params number w
    → bound rs ≡ set_params number w
bound_set rs number w is = bound_as rs _ is refl

pub bound_next : (rs : List ValueRef) (id : ℕ) (r : Routing) → map owned rs ≡ next_params id r
    → bound rs ≡ next_params id r
bound_next rs id r is = bound_as rs _ is (rw (cics (Some r)) refl)

pub bound_clock : (rs : List ValueRef) (number : ℕ) (c : StoredClock)
    → map owned rs ≡ clock_params number c → bound rs ≡ clock_params number c
bound_clock rs number c is = bound_as rs _ is refl

pub bound_wait : (rs : List ValueRef) (k : WaitKey) (s : Subject) → map owned rs ≡ wait_params k s
    → bound rs ≡ wait_params k s
bound_wait rs k s is = bound_as rs _ is refl

pub bound_wait_key : (rs : List ValueRef) (k : WaitKey) → map owned rs ≡ wait_key_params k
    → bound rs ≡ wait_key_params k
bound_wait_key rs k is = bound_as rs _ is refl

pub bound_broadcast_key : (rs : List ValueRef) (k : BroadcastKey)
    → map owned rs ≡ broadcast_key_params k → bound rs ≡ broadcast_key_params k
bound_broadcast_key rs k is = bound_as rs _ is refl
