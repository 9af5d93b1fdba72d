use Rattle.std.proofs.Common.{◌≡◌, subst, refl}
use Rattle.std.specs.FinMap.{get}
use Rattle.std.specs.Prelude.{option_map}
use Rattle.sqlite.specs.Held.{state}
use Rattle.sqlite.specs.Effect.{Database}
use Rattle.version.specs.Abstraction.{windows_of}
use Rattle.sql_rows.specs.Content.{content_in}
use Rattle.sql_store.proofs.LookupLemmas.{no_clock, no_set_named, set_there, the_clock}
use Rattle.sql_store.proofs.lookups.clock.Goals as goal

pub returns-in-Some-found-clause-value : goal.returns-in-Some-found-clause-value
returns-in-Some-found-clause-value g c up =
    let old = (state g.S.Store c.args.db.now.conn).now in
    let second = c.in_ok-found.ensures.queried.same refl up in
    let first = c.in_ok-stored.ensures.queried.same refl second.was_open in
    the_clock old.trees c.in_ok-stored.stored c.in-Some.row c.in_ok-found.found
    c.in-Some-found.windows c.in-Some.is (c.in_ok-stored.ensures.value second.was_open)
    c.in-Some-found.is
    (subst (λ (d : Database). option_map windows_of c.in_ok-found.found
    ≡ get (content_in d.trees).sets c.in-Some.row.present) first.now
    (c.in_ok-found.ensures.value up))

pub returns-in_default-clause-value : goal.returns-in_default-clause-value
returns-in_default-clause-value g c up =
    no_clock (state g.S.Store c.args.db.now.conn).now.trees c.in_ok-stored.stored c.in_default.is
    (c.in_ok-stored.ensures.value up)

pub returns-in-Some-found-clause-present : goal.returns-in-Some-found-clause-present
returns-in-Some-found-clause-present g c up =
    let old = (state g.S.Store c.args.db.now.conn).now in
    let second = c.in_ok-found.ensures.queried.same refl up in
    let first = c.in_ok-stored.ensures.queried.same refl second.was_open in
    set_there old.trees c.in_ok-stored.stored c.in-Some.row c.in_ok-found.found
    c.in-Some-found.windows c.in-Some.is (c.in_ok-stored.ensures.value second.was_open)
    c.in-Some-found.is
    (subst (λ (d : Database). option_map windows_of c.in_ok-found.found
    ≡ get (content_in d.trees).sets c.in-Some.row.present) first.now
    (c.in_ok-found.ensures.value up))

pub returns-in_default-clause-present : goal.returns-in_default-clause-present
returns-in_default-clause-present g c up =
    no_set_named (state g.S.Store c.args.db.now.conn).now.trees c.in_ok-stored.stored
    c.in_default.is (c.in_ok-stored.ensures.value up)
