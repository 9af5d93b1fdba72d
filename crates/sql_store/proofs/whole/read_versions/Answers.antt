use Rattle.std.proofs.Common.{sym, subst, ◌∙◌, refl, rules, ◌≡◌, true, false, is_ok}
use Rattle.sqlite.specs.Held.{state}
use Rattle.sqlite.specs.Effect.{Database}
use Rattle.sql_rows.specs.Content.{broadcast_in, clock_in, wait_in}
use Rattle.sql_rows.specs.declared.statement.Table.TheVariants.{Broadcast, Wait, Clock}
use Rattle.sql_store.specs.Store.{HasQueried}
use Rattle.sql_store.specs.Whole.{IsRead, ReadsVersions}
use Rattle.sql_store.proofs.CallLemmas.{looked_then}
use Rattle.sql_store.proofs.WholeLemmas.{versions_told}
use Rattle.sql_store.proofs.whole.read_versions.Goals as goal

pub returns-clause-value : goal.returns-clause-value
returns-clause-value g c up =
    let db = (state g.S.Store c.args.db.now.conn).now.trees in
    let fourth = c.in_ok-clock.ensures.queried.same refl up in
    let third = c.in_ok-waits.ensures.queried.same refl fourth.was_open in
    let second = c.in_ok-broadcasts.ensures.queried.same refl third.was_open in
    let first = c.in_ok-versions.ensures.queried.same refl second.was_open in
    let two = second.now ∙ first.now in
    let three = third.now ∙ two in
    subst (ReadsVersions db) (sym c.are_blank.ensures)
    (versions_told db c.in_ok-versions.versions c.in_ok-broadcasts.broadcasts c.in_ok-waits.waits
    c.in_ok-clock.clock (c.in_ok-versions.ensures.value second.was_open)
    (subst (λ (d : Database). IsRead Broadcast broadcast_in d.trees c.in_ok-broadcasts.broadcasts)
    first.now (c.in_ok-broadcasts.ensures.value third.was_open))
    (subst (λ (d : Database). IsRead Wait wait_in d.trees c.in_ok-waits.waits) two
    (c.in_ok-waits.ensures.value fourth.was_open))
    (subst (λ (d : Database). IsRead Clock clock_in d.trees c.in_ok-clock.clock) three
    (c.in_ok-clock.ensures.value up)))

pub returns-in_err-clock-clause-queried : goal.returns-in_err-clock-clause-queried
returns-in_err-clock-clause-queried g c =
    let fails : is_ok c.from_residual-in_err-clock.result ≡ false = search rules in
    let two = looked_then _ _ _ true c.in_ok-versions.ensures.queried
    c.in_ok-broadcasts.ensures.queried in
    let three = looked_then _ _ _ true two c.in_ok-waits.ensures.queried in
    subst (HasQueried _ _) (sym fails)
    (looked_then _ _ _ false three c.in_err-clock.ensures.queried)

pub returns-clause-queried : goal.returns-clause-queried
returns-clause-queried g c =
    let two = looked_then _ _ _ true c.in_ok-versions.ensures.queried
    c.in_ok-broadcasts.ensures.queried in
    let three = looked_then _ _ _ true two c.in_ok-waits.ensures.queried in
    looked_then _ _ _ true three c.in_ok-clock.ensures.queried
