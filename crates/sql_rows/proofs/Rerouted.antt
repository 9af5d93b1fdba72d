-- A version's row in two tables: bare, and the routing that it sends.
use Rattle.std.proofs.Common.{◌≡◌, ◌≢◌, ◌≤◌, ◌<◌, ℕ, false, nat_lt, Option, Some, None, refl, ap, sym, subst, ◌∙◌}
use Rattle.std.specs.Prelude.{option_map}
use Rattle.std.specs.Ordering.{nat_cmp, eq_by_cmp}
use Rattle.std.specs.FinMap.{FinMap, get, insert}
use Rattle.numbers.specs.Routings.{Routing}
use Rattle.numbers.specs.Subjects.{Subject}
use Rattle.model.specs.Content.{VersionRow}
use Rattle.model.specs.Statuses.{Create, Delete, Modify, Status, Pending, Conflict, CancelPending, Sending, Active, PartialFailure, Failed, DisconnectPending, Old, Canceled}
use Rattle.sqlite.specs.Tree.{Trees}
use Rattle.settle.specs.Reads.{IsInForce, IsOpen, IsLeastDue}
use Rattle.settle.specs.declared.rows.NumberedRow.{NumberedRow}
use Rattle.sql_rows.specs.Over.{over}
use Rattle.sql_rows.specs.Content.{IsFoundAs, IsRoutedAs, content_in, bare_in, versions_in, nexts_in}
use Rattle.sql_rows.proofs.FoundLemmas.{no_great_id}
use Rattle.sql_rows.proofs.Inversions.{map_some}
use Rattle.sql_rows.specs.Versions.{modified_to, next_of, rerouted_status, rerouted, bare_status, bare}
use Rattle.sql_rows.proofs.Over.{get-over, over-put}

rerouted_as : (own : Option Routing) (s : Status) → rerouted_status (next_of s) (bare_status own s)
    ≡ s
rerouted_as own (Sending Create) = refl
rerouted_as own (Sending Delete) = refl
rerouted_as None (Sending (Modify put)) = refl
rerouted_as (Some own) (Sending (Modify put)) = refl
rerouted_as own Pending = refl
rerouted_as own Conflict = refl
rerouted_as own (CancelPending by) = refl
rerouted_as own Active = refl
rerouted_as own PartialFailure = refl
rerouted_as own Failed = refl
rerouted_as own (DisconnectPending release) = refl
rerouted_as own Old = refl
rerouted_as own Canceled = refl

-- The two together are the row.
pub rerouted-bare : (v : VersionRow) → rerouted (next_of v.status) (bare v) ≡ v
rerouted-bare v = ap (λ s. record v { status = s }) (rerouted_as v.routing v.status)

-- A row put into both tables is put into the combined map.
pub row-put : (rows : FinMap nat_cmp VersionRow) (more next : FinMap nat_cmp Routing) (id : ℕ)
    (v : VersionRow) → get next id ≡ next_of v.status →
    ((j : ℕ) → eq_by_cmp nat_cmp j id ≡ false → get next j ≡ get more j)
    → over rerouted (insert rows id (bare v)) next ≡ insert (over rerouted rows more) id v
row-put rows more next id v put others = over-put rerouted rows more next id (bare v) others
    ∙ ap (λ n. insert (over rerouted rows more) id (rerouted n (bare v))) put
    ∙ ap (insert (over rerouted rows more) id) (rerouted-bare v)

-- A function of a row that ignores the routing it sends has the same value on the bare row.
module _ {B : Type 0} (f : VersionRow → B) (same : (n : Option Routing) (v : VersionRow)
    → f (rerouted n v) ≡ f v) where
  seen : (n : Option Routing) (o : Option VersionRow) → option_map f (option_map (rerouted n) o)
      ≡ option_map f o
  seen n None = refl
  seen n (Some v) = ap Some (same n v)

-- ---- from the tables to the content

module _ (rows : FinMap nat_cmp VersionRow) (more : FinMap nat_cmp Routing) where
  pub stands-over : (id : ℕ) (v : VersionRow) → get rows id ≡ Some v
      → get (over rerouted rows more) id ≡ Some (rerouted (get more id) v)
  stands-over id v e = get-over rerouted rows more id ∙ ap (option_map (rerouted (get more id))) e

  -- A property of each bare row, whatever it sends, is one of each row.
  pub all-over : (P : ℕ → VersionRow → Type 0) → ((id : ℕ) (n : Option Routing) (v : VersionRow)
      → P id v → P id (rerouted n v)) → ((id : ℕ) (v : VersionRow) → get rows id ≡ Some v → P id v)
      →
      (id : ℕ) (v : VersionRow) → get (over rerouted rows more) id ≡ Some v → P id v
  all-over P kept each id v e =
      let a = map_some (rerouted (get more id)) (get rows id) v
      (sym (get-over rerouted rows more id) ∙ e) in
      subst (P id) a.2 (kept id (get more id) a.0 (each id a.0 a.1))

module _ (db : Trees) where
  whole-stands : (v w : NumberedRow) → IsRoutedAs db v w
      → get (bare_in db).versions v.id ≡ Some v.row → get (content_in db).versions w.id ≡ Some w.row
  whole-stands v w h e = ap (get (content_in db).versions) h.0 ∙ stands-over (versions_in (db 18))
      (nexts_in (db 16)) v.id v.row e ∙ ap Some (sym h.1)

  pub none_in_force : (s : Subject) → IsInForce (bare_in db) s None
      → IsInForce (content_in db) s None
  none_in_force s none =
      all-over (versions_in (db 18)) (nexts_in (db 16)) (λ id v. v.holds ≢ Some s) (λ id n v p. p)
      none

  pub none_open : (s : Subject) → IsOpen (bare_in db) s None → IsOpen (content_in db) s None
  none_open s none = all-over (versions_in (db 18)) (nexts_in (db 16)) (λ id v. v.opens ≢ Some s)
      (λ id n v p. p) none

  pub one_in_force : (s : Subject) (v w : NumberedRow) → IsRoutedAs db v w
      → IsInForce (bare_in db) s (Some v) → IsInForce (content_in db) s (Some w)
  one_in_force s v w h one = (
    whole-stands v w h one.0,
    ap (λ (r : VersionRow). r.holds) h.1 ∙ one.1,
  )

  pub one_open : (s : Subject) (v w : NumberedRow) → IsRoutedAs db v w
      → IsOpen (bare_in db) s (Some v) → IsOpen (content_in db) s (Some w)
  one_open s v w h one = (whole-stands v w h one.0, ap (λ (r : VersionRow). r.opens) h.1 ∙ one.1)

  pub one_due : (now : ℕ) (v w : NumberedRow) → IsRoutedAs db v w
      → IsLeastDue (bare_in db) now (Some v) → IsLeastDue (content_in db) now (Some w)
  one_due now v w h due = (
    whole-stands v w h due.0,
    due.1,
    ap (λ (r : VersionRow). r.deadline) h.1 ∙ due.2,
    due.3,
    all-over (versions_in (db 18)) (nexts_in (db 16)) (λ id v. (e : ℕ) → v.deadline ≡ Some e
        → due.1 ≤ e) (λ id n v p. p) due.4,
  )

  pub none_due : (now : ℕ) → IsLeastDue (bare_in db) now None → IsLeastDue (content_in db) now None
  none_due now none = all-over (versions_in (db 18)) (nexts_in (db 16)) (λ id v. (e : ℕ)
      → v.deadline ≡ Some e → now < e) (λ id n v p. p) none

  -- The version in force by the bare tables is the one by the content.
  pub in_force_whole : (s : Subject) (bare row : Option NumberedRow) → IsFoundAs db bare row
      → IsInForce (bare_in db) s bare → IsInForce (content_in db) s row
  in_force_whole s None None h none = none_in_force s none
  in_force_whole s (Some v) (Some w) h one = one_in_force s v w h one
  in_force_whole s None (Some w) h none = absurd h
  in_force_whole s (Some v) None h one = absurd h

  pub open_whole : (s : Subject) (bare row : Option NumberedRow) → IsFoundAs db bare row
      → IsOpen (bare_in db) s bare → IsOpen (content_in db) s row
  open_whole s None None h none = none_open s none
  open_whole s (Some v) (Some w) h one = one_open s v w h one
  open_whole s None (Some w) h none = absurd h
  open_whole s (Some v) None h one = absurd h

  pub due_whole : (now : ℕ) (bare row : Option NumberedRow) → IsFoundAs db bare row
      → IsLeastDue (bare_in db) now bare → IsLeastDue (content_in db) now row
  due_whole now None None h none = none_due now none
  due_whole now (Some v) (Some w) h one = one_due now v w h one
  due_whole now None (Some w) h none = absurd h
  due_whole now (Some v) None h one = absurd h

  -- The version by its id in the bare tables is the one in the content.
  pub version_whole : (id : ℕ) (bare row : Option NumberedRow) → IsFoundAs db bare row
      → get (bare_in db).versions id ≡ option_map (λ (v : NumberedRow). v.row) bare
      → ((v : NumberedRow) → bare ≡ Some v → v.id ≡ id)
      → get (content_in db).versions id ≡ option_map (λ (v : NumberedRow). v.row) row
  version_whole id None None h e own = get-over rerouted (versions_in (db 18)) (nexts_in (db 16)) id
      ∙ ap (option_map (rerouted (get (nexts_in (db 16)) id))) e
  version_whole id (Some v) (Some w) h e own =
      stands-over (versions_in (db 18)) (nexts_in (db 16)) id v.row e
      ∙ ap (λ k. Some (rerouted (get (nexts_in (db 16)) k) v.row)) (sym (own v refl))
      ∙ ap Some (sym h.1)
  version_whole id None (Some w) h e own = absurd h
  version_whole id (Some v) None h e own = absurd h

-- ---- a row with the routing found

no_next : (s : Status) → rerouted_status None s ≡ s
no_next (Sending Create) = refl
no_next (Sending Delete) = refl
no_next (Sending (Modify put)) = refl
no_next Pending = refl
no_next Conflict = refl
no_next (CancelPending by) = refl
no_next Active = refl
no_next PartialFailure = refl
no_next Failed = refl
no_next (DisconnectPending release) = refl
no_next Old = refl
no_next Canceled = refl

pub rerouted-none : (v : VersionRow) → rerouted None v ≡ v
rerouted-none v = ap (λ s. record v { status = s }) (no_next v.status)

put_status : (put own : Routing) (s : Status) → next_of s ≡ Some own
    → rerouted_status (Some put) s ≡ Sending (Modify put)
put_status put own (Sending Create) e = absurd cc
put_status put own (Sending Delete) e = absurd cc
put_status put own (Sending (Modify other)) e = refl
put_status put own Pending e = absurd cc
put_status put own Conflict e = absurd cc
put_status put own (CancelPending by) e = absurd cc
put_status put own Active e = absurd cc
put_status put own PartialFailure e = absurd cc
put_status put own Failed e = absurd cc
put_status put own (DisconnectPending release) e = absurd cc
put_status put own Old e = absurd cc
put_status put own Canceled e = absurd cc

pub rerouted-put : (put own : Routing) (v : VersionRow) → next_of v.status ≡ Some own
    → rerouted (Some put) v ≡ modified_to put v
rerouted-put put own v e = ap (λ s. record v { status = s }) (put_status put own v.status e)

-- No version has so great an id.
pub no_great_version : (db : Trees) (id : ℕ) → nat_lt id 9223372036854775808 ≡ false
    → get (content_in db).versions id ≡ None
no_great_version db id great = get-over rerouted (versions_in (db 18)) (nexts_in (db 16)) id
    ∙ ap (option_map (rerouted (get (nexts_in (db 16)) id))) (no_great_id db id great)

-- A row of the content is one of the table, except for the routing that it sends.
pub bare-of : (db : Trees) (id : ℕ) (v : VersionRow) → get (content_in db).versions id ≡ Some v
    → (b : VersionRow) × (get (bare_in db).versions id ≡ Some b)
    × (rerouted (get (nexts_in (db 16)) id) b ≡ v)
bare-of db id v e = map_some (rerouted (get (nexts_in (db 16)) id)) (get (bare_in db).versions id) v
    (sym (get-over rerouted (versions_in (db 18)) (nexts_in (db 16)) id) ∙ e)

pub whole-of : (db : Trees) (id : ℕ) (b : VersionRow) → get (bare_in db).versions id ≡ Some b
    → get (content_in db).versions id ≡ Some (rerouted (get (nexts_in (db 16)) id) b)
whole-of db id b e = stands-over (versions_in (db 18)) (nexts_in (db 16)) id b e
