-- The answers of the look-ups.
use Rattle.std.proofs.Common.{◌≡◌, ℕ, pos, [], ◌∷◌, true, Option, Some, None, refl, sym, ap, subst, ◌∙◌, true≢false}
use Rattle.std.specs.Prelude.{option_map, unwrap_or, is_some, IsSome, IsSomeAnd, MatchOption}
use Rattle.std.specs.FinMap.{get}
use Rattle.sqlite.specs.declared.types.Value.{Value}
use Rattle.sqlite.specs.declared.types.Value.TheVariants.{Int}
use Rattle.sqlite_value.specs.declared.value.ValueRef.{ValueRef}
use Rattle.sqlite.specs.Value.{owned}
use Rattle.sqlite.specs.Values.{bound, bound_value}
use Rattle.sqlite.specs.Order.{Row}
use Rattle.sqlite.specs.Tree.{Trees}
use Rattle.numbers.specs.Abstraction.{routing_of, subject_of}
use Rattle.numbers.specs.Routings.{Routing}
use Rattle.numbers.specs.declared.ported.Routing.{Routing as RoutingImpl}
use Rattle.model.specs.Windows.{Windows}
use Rattle.windows.specs.declared.window.Windows.{Windows as WindowsImpl}
use Rattle.windows.specs.declared.window.WindowSet.{WindowSet}
use Rattle.settle.specs.declared.rows.ClockRow.{ClockRow as ClockImpl}
use Rattle.version.specs.Abstraction.{no_windows, windows_of}
use Rattle.sql_rows.specs.Clocks.{StoredClock, clock_of, clock_row, with_windows}
use Rattle.sql_rows.specs.declared.keyed.StoredClock.{StoredClock as StoredImpl}
use Rattle.sql_rows.specs.declared.statement.Query.{Query}
use Rattle.sql_store.specs.Found.{IsVersionFound, version_model}
use Rattle.sql_store.specs.Whole.{HasPresentSet}
use Rattle.numbers.proofs.Small.{some_is}
use Rattle.numbers.specs.declared.spid.Spid.{Spid}
use Rattle.numbers.specs.declared.ported.Subject.{Subject as SubjectImpl}
use Rattle.model.specs.Content.{ClockRow, VersionRow}
use Rattle.settle.specs.Abstraction.{clock_row_of}
use Rattle.settle.specs.Reads.{IsInForce, IsOpen, IsLeastDue}
use Rattle.settle.specs.declared.rows.NumberedRow.{NumberedRow}
use Rattle.sql_rows.specs.Shaped.{AreShaped}
use Rattle.sql_rows.specs.Values.{spid_value, subject_value}
use Rattle.sql_rows.specs.Versions.{modified_to, next_of, rerouted, version_in}
use Rattle.sql_rows.specs.Content.{bare_in, clocks_in, content_in, nexts_in, sets_in, carrier_in, set_in, keyed}
use Rattle.sql_rows.specs.Found.{IsSoleAnswer}
use Rattle.sql_rows.specs.declared.statement.Query.TheVariants.{CarrierNamed, WindowSetNumbered, VersionNumbered, VersionInForce, VersionOpen, VersionDue}
use Rattle.sql_rows.proofs.FoundLemmas.{value_of, carrier_found, set_found, version_found, version_own, in_force_found, open_found}
use Rattle.sql_rows.proofs.DueLemmas.{due_is_found}
use Rattle.sql_rows.proofs.QueriesListed.{carrier_seen}
use Rattle.sql_rows.proofs.Rerouted.{due_whole, in_force_whole, open_whole, rerouted-none, rerouted-put, version_whole}

-- One parameter is bound unchanged.
pub one_bound : (r : ValueRef) (v : Value) → bound_value v ≡ v → owned r ≡ v
    → bound (r ∷ []) ≡ v ∷ []
one_bound r v plain is = ap (λ w. bound_value w ∷ []) is ∙ ap (λ w. w ∷ []) plain

-- Two numbers are bound unchanged.
pub two_bound : (r s : ValueRef) (m n : ℕ) → owned r ≡ Int (pos m) → owned s ≡ Int (pos n)
    → bound (r ∷ s ∷ []) ≡ Int (pos m) ∷ Int (pos n) ∷ []
two_bound r s m n one two = ap (λ v. bound_value v ∷ bound_value (owned s) ∷ []) one
    ∙ ap (λ v. Int (pos m) ∷ bound_value v ∷ []) two

-- What `Option::map` returns of what was found.
abbrev pub IsMapped : {A B : Type 0} → (A → B) → Option A → Option B → Type 0
IsMapped f found o = MatchOption found (o ≡ None) (λ x. IsSomeAnd o (λ y. y ≡ f x))

pub mapped : {A B : Type 0} (f : A → B) (found : Option A) (o : Option B) → IsMapped f found o
    → o ≡ option_map f found
mapped f None o h = h
mapped f (Some x) None h = absurd h
mapped f (Some x) (Some y) h = ap Some h

-- The row of a key is found by the parameters.
pub keyed_is : {A B K V : Type 0} (query : Query) (read : Row → Option (K × V)) (key : A → K)
    (row : B → V) (db : Trees) (given params : Row) (found : Option (A × B)) (o : Option B)
    (got : Option V) → IsMapped (λ x. x.1) found o → given ≡ params
    → ((e : Option (K × V)) → IsSoleAnswer query read db params e → got ≡ value_of e)
    → IsSoleAnswer query read db given (option_map (keyed key row) found) → option_map row o ≡ got
keyed_is query read key row db given params found o got is bound says h =
    ap (option_map row) (mapped (λ x. x.1) found o is) ∙ same found
    ∙ sym (says (option_map (keyed key row) found)
    (subst (λ p. IsSoleAnswer query read db p (option_map (keyed key row) found)) bound h))
  where
    same : (e : Option (_ × _)) → option_map row (value_of e)
        ≡ value_of (option_map (keyed key row) e)
    same None = refl
    same (Some x) = refl

abbrev set_seen : WindowSet → ℕ × Windows
set_seen s = (s.number, windows_of s.windows)

module _ (db : Trees) (r : ValueRef) where
  pub carrier_is : (s : Spid) → owned r ≡ spid_value s.number → (o : Option Spid)
      → IsSoleAnswer CarrierNamed carrier_in db (bound (r ∷ [])) (option_map carrier_seen o)
      → is_some o ≡ is_some (get (content_in db).carriers s.number)
  carrier_is s is o h =
      there o ∙ sym
      (ap is_some (carrier_found db s (option_map carrier_seen o)
      (subst (λ p. IsSoleAnswer CarrierNamed carrier_in db p (option_map carrier_seen o))
      (one_bound r (spid_value s.number) refl is) h)))
    where
      there : (o : Option Spid) → is_some o ≡ is_some (value_of (option_map carrier_seen o))
      there None = refl
      there (Some x) = refl

  pub set_is : (n : ℕ) → owned r ≡ Int (pos n) → (found : Option WindowSet)
      (o : Option WindowsImpl) → IsMapped (λ (s : WindowSet). s.windows) found o
      → IsSoleAnswer WindowSetNumbered set_in db (bound (r ∷ [])) (option_map set_seen found)
      → option_map windows_of o ≡ get (content_in db).sets n
  set_is n is found o windows h =
      ap (option_map windows_of) (mapped (λ (s : WindowSet). s.windows) found o windows)
      ∙ windows_in found
      ∙ sym (set_found db n _
      (subst (λ p. IsSoleAnswer WindowSetNumbered set_in db p (option_map set_seen found))
      (one_bound r (Int (pos n)) refl is) h))
    where
      windows_in : (o : Option WindowSet)
          → option_map windows_of (option_map (λ (s : WindowSet). s.windows) o)
          ≡ value_of (option_map set_seen o)
      windows_in None = refl
      windows_in (Some s) = refl

  -- The version is found by the bound parameter.
  found_by : (query : Query) (v : Value) → bound_value v ≡ v → owned r ≡ v
      → (o : Option NumberedRow) → IsVersionFound query db (bound (r ∷ [])) o
      → IsVersionFound query db (v ∷ []) o
  found_by query v plain is o h =
      subst (λ p. IsVersionFound query db p o) (one_bound r v plain is) h

  version_row : (o : Option NumberedRow) → value_of (option_map version_model o)
      ≡ option_map (λ (x : NumberedRow). x.row) o
  version_row None = refl
  version_row (Some v) = refl

  version_by : (n : ℕ) (o : Option NumberedRow)
      → IsVersionFound VersionNumbered db (Int (pos n) ∷ []) o
      → option_map (λ (x : NumberedRow). x.row) o ≡ get (content_in db).versions n
  version_by n o h =
      let got : get (bare_in db).versions n ≡ option_map (λ (x : NumberedRow). x.row) h.0 =
      version_found db n (option_map version_model h.0) h.1
      ∙ version_row h.0 in
      sym (version_whole db n h.0 o h.2 got (λ v e. version_own db n (v.id, v.row)
      (subst (λ b. IsSoleAnswer VersionNumbered version_in db (Int (pos n) ∷ [])
      (option_map version_model b)) e h.1)))

  pub version_is : (n : ℕ) → owned r ≡ Int (pos n) → (found : Option NumberedRow)
      (o : Option VersionRow) → IsMapped (λ (x : NumberedRow). x.row) found o
      → IsVersionFound VersionNumbered db (bound (r ∷ [])) found
      → o ≡ get (content_in db).versions n
  version_is n is found o row h =
      mapped (λ (x : NumberedRow). x.row) found o row
      ∙ version_by n found (found_by VersionNumbered (Int (pos n)) refl is found h)

  module _ (shaped : AreShaped db) where
    pub in_force_is : (s : SubjectImpl) → owned r ≡ subject_value (subject_of s)
        → (o : Option NumberedRow) → IsVersionFound VersionInForce db (bound (r ∷ [])) o
        → IsInForce (content_in db) (subject_of s) o
    in_force_is s is o h = let f =
        found_by VersionInForce (subject_value (subject_of s)) refl is o h in
        in_force_whole db (subject_of s) f.0 o f.2 (in_force_found db shaped s f.0 f.1)

    pub open_is : (s : SubjectImpl) → owned r ≡ subject_value (subject_of s)
        → (o : Option NumberedRow) → IsVersionFound VersionOpen db (bound (r ∷ [])) o
        → IsOpen (content_in db) (subject_of s) o
    open_is s is o h = let f = found_by VersionOpen (subject_value (subject_of s)) refl is o h in
        open_whole db (subject_of s) f.0 o f.2 (open_found db shaped s f.0 f.1)

    pub due_is : (n : ℕ) → owned r ≡ Int (pos n) → (o : Option NumberedRow)
        → IsVersionFound VersionDue db (bound (r ∷ [])) o → IsLeastDue (content_in db) n o
    due_is n is o h = let f = found_by VersionDue (Int (pos n)) refl is o h in
        due_whole db n f.0 o f.2 (due_is_found db shaped n f.0 f.1)

-- ---- the clock's row, from two tables

abbrev pub clock_with : StoredImpl → WindowsImpl → ClockImpl
clock_with c w = record {
  minute = c.minute;
  next_id = c.next_id;
  present = record { number = c.present; windows = w };
}

pub no_clock : (db : Trees) (stored : Option StoredImpl) → stored ≡ None
    → option_map clock_of stored ≡ get (clocks_in (db 21)) 0
    → ◌≡◌ {A = Option ClockRow} None (content_in db).clock
no_clock db stored none is =
    ap (λ o. option_map (with_windows (sets_in (db 17))) (option_map clock_of o)) (sym none)
    ∙ ap (option_map (with_windows (sets_in (db 17)))) is

pub the_clock : (db : Trees) (stored : Option StoredImpl) (c : StoredImpl)
    (found : Option WindowsImpl) (w : WindowsImpl) → stored ≡ Some c
    → option_map clock_of stored ≡ get (clocks_in (db 21)) 0 → found ≡ Some w
    → option_map windows_of found ≡ get (content_in db).sets c.present
    → Some (clock_row_of (clock_with c w)) ≡ (content_in db).clock
the_clock db stored c found w some is there has =
    ap (λ o. Some (clock_row c.minute.number c.next_id c.present (unwrap_or o no_windows)))
    (ap (option_map windows_of) (sym there) ∙ has)
    ∙ ap (option_map (with_windows (sets_in (db 17)))) (ap (option_map clock_of) (sym some) ∙ is)

-- The set that the clock's row names is there, or there is no such row.
pub set_there : (db : Trees) (stored : Option StoredImpl) (c : StoredImpl)
    (found : Option WindowsImpl) (w : WindowsImpl) → stored ≡ Some c
    → option_map clock_of stored ≡ get (clocks_in (db 21)) 0 → found ≡ Some w
    → option_map windows_of found ≡ get (content_in db).sets c.present → HasPresentSet db
set_there db stored c found w some is there has row named =
    subst (λ (r : StoredClock). IsSome (get (sets_in (db 17)) r.present))
    (some_is (clock_of c) row (ap (option_map clock_of) (sym some) ∙ is ∙ named))
    (subst IsSome (ap (option_map windows_of) (sym there) ∙ has) refl)

never_none : {A : Type 0} (a : A) → None ≡ Some a → ⊥
never_none a h = cc

pub no_set_named : (db : Trees) (stored : Option StoredImpl) → stored ≡ None
    → option_map clock_of stored ≡ get (clocks_in (db 21)) 0 → HasPresentSet db
no_set_named db stored none is row named =
    absurd (never_none row (ap (option_map clock_of) (sym none) ∙ is ∙ named))

-- ---- a row that sends a modify

pub routed_next : (db : Trees) (v : NumberedRow) (n : Option RoutingImpl) (put : RoutingImpl)
    (w : VersionRow) → is_some (next_of v.row.status) ≡ true → n ≡ Some put
    → option_map routing_of n ≡ get (nexts_in (db 16)) v.id → w ≡ modified_to (routing_of put) v.row
    → w ≡ rerouted (get (nexts_in (db 16)) v.id) v.row
routed_next db v n put w sends some is made = by_cases (next_of v.row.status) refl sends
  where
    by_cases : (o : Option Routing) → next_of v.row.status ≡ o → is_some o ≡ true
        → w ≡ rerouted (get (nexts_in (db 16)) v.id) v.row
    by_cases None e h = absurd (true≢false (sym h))
    by_cases (Some own) e h = made ∙ sym (rerouted-put (routing_of put) own v.row e)
        ∙ ap (λ o. rerouted o v.row) (ap (option_map routing_of) (sym some) ∙ is)

pub unrouted_next : (db : Trees) (v : NumberedRow) (n : Option RoutingImpl) → n ≡ None
    → option_map routing_of n ≡ get (nexts_in (db 16)) v.id
    → v.row ≡ rerouted (get (nexts_in (db 16)) v.id) v.row
unrouted_next db v n none is =
    sym (rerouted-none v.row) ∙ ap (λ o. rerouted o v.row) (ap (option_map routing_of) (sym none)
    ∙ is)
