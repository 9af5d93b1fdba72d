-- The versions in force, as a store lists them, are those of the definitions in the same order.
use Rattle.std.proofs.Common.{◌≡◌, ℕ, inl, inr, zero, suc, ◌<◌, true, false, List, [], ◌∷◌, map, length, Option, Some, None, refl, ap, sym, ◌∙◌, subst, arith}
use Rattle.std.specs.Prelude.{is_some, All, slice_index_or}
use Rattle.numbers.specs.Subjects.{Subject, subject_key}
use Rattle.numbers.specs.Routings.{Routing}
use Rattle.numbers.specs.Abstraction.{subject_of, routing_of}
use Rattle.model.specs.Versions.{Version, in_force, version_with, version_in_force}
use Rattle.model.specs.History.{subject_of_id}
use Rattle.model.specs.State.{State, InForce, record_now, all_in_force, set_now, made_now}
use Rattle.model.specs.Content.{Content, VersionRow, row_of, subject_if}
use Rattle.model.proofs.Lists.{Among}
use Rattle.model.proofs.Ascending.{same_rising, sorted-rise, mapped-rise}
use Rattle.model.proofs.InForceRows.{key, IsRow, listed-row, row-listed, listed-rise}
use Rattle.model.proofs.Routed.{force_is_routed}
use Rattle.settle.specs.Reads.{AreInForce, IsRouted, InForceIsUnique}
use Rattle.delivery.specs.declared.mirror.RoutedRow.{RoutedRow}
use Rattle.settle.specs.Settling.{IsSettled}
use Rattle.register.specs.Refinement.{Refines}
use Rattle.requests.specs.Calls.{in_force_of}
use Rattle.model.proofs.Ids.{found_given}
use Rattle.model.proofs.Entered.{given_now}
use Rattle.model.proofs.Shown.{id_found, some_is}
use Rattle.settle.proofs.Passing.{found_passes, found_only}
use Rattle.settle.proofs.KeptRows.{row_there}
use Rattle.register.proofs.Asking.Alone.{row_is_held, one_in_force}

-- ---- the rows of a store

-- A row in the models of the code's rows is the model of one of them.
mapped-from : (P : RoutedRow → Type 0) (rows : List RoutedRow) (x : InForce) → All P rows
    → Among x (map in_force_of rows) → (r : RoutedRow) × P r × (x ≡ in_force_of r)
mapped-from P [] x all is = absurd is
mapped-from P (r ∷ rs) x all (inl e) = (r, all 0 r (omega arith), e)
mapped-from P (r ∷ rs) x all (inr is) =
    mapped-from P rs x (λ k d lt. all (suc k) d (omega (arith, lt))) is

mapped-to : (rows : List RoutedRow) (r : RoutedRow) (k : ℕ) → k < length rows
    → slice_index_or rows k r ≡ r → Among (in_force_of r) (map in_force_of rows)
mapped-to [] r k lt at = absurd (omega (arith, lt))
mapped-to (q ∷ qs) r zero lt at = inl (ap in_force_of (sym at))
mapped-to (q ∷ qs) r (suc k) lt at = inr (mapped-to qs r k (omega (arith, lt)) at)

module _ (st : State) (c : Content) (refines : Refines c st) (settled : (s : Subject)
    → IsSettled c st s) where
  alone : (s : Subject) (id other : ℕ) (v u : Version) → version_with id (record_now st s) ≡ Some v
      → version_with other (record_now st s) ≡ Some u → in_force v ≡ true → in_force u ≡ true
      → id ≡ other
  alone s id other v u found also force forces =
      let one : version_in_force (record_now st s) ≡ Some v =
      found_only in_force id (record_now st s).versions v (one_in_force st c refines s) found
      force in
      let two : version_in_force (record_now st s) ≡ Some u =
      found_only in_force other (record_now st s).versions u (one_in_force st c refines s) also
      forces in
      sym (id_found id (record_now st s).versions v found) ∙ ap (λ (x : Version). x.id)
      (some_is v u (sym one ∙ two)) ∙ id_found other (record_now st s).versions u also

  holds_once : InForceIsUnique c
  holds_once id other row next s there also holds held =
      let a = row_is_held st c refines s (settled s) (λ t v. in_force v)
      (λ (x : VersionRow). x.holds) (λ t v. refl) (one_in_force st c refines s) id row there
      holds in
      let b = row_is_held st c refines s (settled s) (λ t v. in_force v)
      (λ (x : VersionRow). x.holds) (λ t v. refl) (one_in_force st c refines s) other next also
      held in
      sym (id_found id (record_now st s).versions a.0 a.2) ∙ ap (λ (x : Version). x.id)
      (some_is a.0 b.0 (sym a.1 ∙ b.1)) ∙ id_found other (record_now st s).versions b.0 b.2

  -- A row of the content in force is in the list of the definitions.
  routed-listed : (s : Subject) (routing : Routing) → IsRouted c s routing
      → Among (record { subject = s; routing = Some routing }) (all_in_force st)
  routed-listed s routing is =
      let held = row_is_held st c refines s (settled s) (λ t v. in_force v)
      (λ (x : VersionRow). x.holds) (λ t v. refl) (one_in_force st c refines s) is.0 is.1 is.2
      is.3 in
      let force : in_force held.0 ≡ true =
      found_passes in_force (record_now st s).versions held.0 held.1 in
      let routed : held.0.routing ≡ Some routing = ap (λ (x : VersionRow). x.routing) (sym held.3)
      ∙ is.4 in
      let given : subject_of_id is.0 1 (made_now st) ≡ Some s =
      found_given (made_now st) s is.0 (record_now st s).versions held.0
      (given_now st refines.represents.history s) held.2 in
      subst (λ o. Among (record { subject = s; routing = o }) (all_in_force st)) routed
      (row-listed (record_now st) 1 (made_now st) (record {
        subject = s;
        version =
            held.0;
      }) is.0 given held.2 force)

  -- A row in the list of the definitions is a row of the content.
  listed-routed : (r : InForce) → Among r (all_in_force st) → (routing : Routing)
      × (r ≡ record { subject = r.subject; routing = Some routing }) × IsRouted c r.subject routing
  listed-routed r is =
      let row = listed-row (record_now st) 1 (made_now st) r is in
      let its : row.e.subject ≡ r.subject = ap (λ (x : InForce). x.subject) (sym row.row) in
      let found : version_with row.id (record_now st row.e.subject) ≡ Some row.e.version =
      row.is.found in
      let in_it : version_in_force (record_now st row.e.subject) ≡ Some row.e.version =
      found_only in_force row.id (record_now st row.e.subject).versions row.e.version
      (one_in_force st c refines row.e.subject) found row.force in
      by_cases row its found (there row.e.version.routing (force_is_routed st (record {
        windows = refines.represents.windows;
        history = refines.represents.history;
      }) row.e.subject row.e.version in_it))
    where
      there : (o : Option Routing) → is_some o ≡ true → (routing : Routing) × (o ≡ Some routing)
      there (Some routing) e = (routing, refl)
      there None e = let never : false ≡ true = e in cc

      by_cases : (row : IsRow (record_now st) 1 (made_now st) r)
          → row.e.subject ≡ r.subject → version_with row.id (record_now st row.e.subject)
          ≡ Some row.e.version →
          (routing : Routing) × (row.e.version.routing ≡ Some routing) → (routing : Routing)
          × (r ≡ record { subject = r.subject; routing = Some routing })
          × IsRouted c r.subject routing
      by_cases row its found routed = (
        routed.0,
        row.row ∙ ap (λ t. let x : InForce = record {
          subject = t;
          routing =
              row.e.version.routing;
        } in x) its ∙ ap (λ o. let x : InForce = record { subject = r.subject; routing = o } in
            x) routed.1,
        (
          row.id,
          row_of row.e.subject row.e.version,
          row_there (set_now st) row.e.subject c (record_now st row.e.subject)
              (settled row.e.subject).rows_match row.id row.e.version found,
          ap (λ b. subject_if b row.e.subject) row.force ∙ ap (λ t. Some t) its,
          routed.1,
        ),
      )

  module _ (rows : List RoutedRow) (are : AreInForce c rows) where
    forth : (r : InForce) → Among r (map in_force_of rows) → Among r (all_in_force st)
    forth r is =
        let from = mapped-from (λ x. IsRouted c (subject_of x.subject) (routing_of x.routing)) rows
        r are.only is in
        subst (λ x. Among x (all_in_force st)) (sym from.2)
        (routed-listed (subject_of from.0.subject) (routing_of from.0.routing) from.1)

    back : (r : InForce) → Among r (all_in_force st) → Among r (map in_force_of rows)
    back r is =
        let listed = listed-routed r is in
        let row = are.each r.subject listed.0 listed.2 in
        let same : r ≡ in_force_of row.0 =
        listed.1 ∙ ap (λ t. let x : InForce = record { subject = t; routing = Some listed.0 } in
        x) (sym row.2) ∙ ap (λ g. let x : InForce = record {
          subject = subject_of row.0.subject;
          routing = Some g;
        } in x) (sym row.3) in
        subst (λ x. Among x (map in_force_of rows)) (sym same) (mapped-to rows row.0 row.1.0 row.1.1
        row.1.2)

    -- The store's list is the list of the definitions.
    pub in_force_listed : map in_force_of rows ≡ all_in_force st
    in_force_listed =
        same_rising key (map in_force_of rows) (all_in_force st) (mapped-rise key in_force_of rows
        (sorted-rise (λ (r : RoutedRow). subject_key (subject_of r.subject)) rows
        (are.rises holds_once)))
        (listed-rise (record_now st) 1 (made_now st) alone) forth back
