use Rattle.std.proofs.Common.{◌≡◌, ap, refl, subst, subst₂, sym, true, ◌∙◌}
use Rattle.std.specs.Prelude.{IfOk, is_some, option_map}
use Rattle.std.specs.FinMap.{get}
use Rattle.sqlite.specs.Effect.{Database}
use Rattle.sqlite.specs.Held.{state}
use Rattle.settle.specs.Abstraction.{wait_key_of}
use Rattle.settle.specs.Reads.{is_last_wait}
use Rattle.sql_rows.specs.Content.{content_in, wait_in}
use Rattle.sql_rows.specs.Found.{IsSoleAnswer}
use Rattle.sql_rows.specs.declared.statement.Query.TheVariants.{WaitOfAnother}
use Rattle.sql_rows.proofs.Another.{no_other, other_waits}
use Rattle.sql_rows.proofs.BoundLemmas.{bound_wait_key}
use Rattle.sql_rows.proofs.QueriesListed.{wait_seen}
use Rattle.sql_store.specs.Store.{content_at}
use Rattle.sql_store.proofs.CallLemmas.{looked_then}
use Rattle.sql_store.proofs.WaiterLemmas.{last_if_own, not_last}
use Rattle.sql_store.proofs.lists.is_last_wait.Goals as goal

pub returns-in_default-clause-value : goal.returns-in_default-clause-value
returns-in_default-clause-value g c up =
    let old = state g.S.Store c.args.db.now.conn in
    let wait = c.args.wait in
    let k = wait_key_of wait in
    let answer = subst₂ (IsSoleAnswer WaitOfAnother wait_in old.now.trees)
    (bound_wait_key _ k c.wait_key-params.ensures) (ap (option_map wait_seen) c.in_default.is)
    (c.in_ok-found.ensures.value up) in
    sym (last_if_own (content_at old) k
    (no_other wait.carrier wait.minute.number wait.id wait.attempt old.now.trees answer))

pub returns-then-branch-clause-value : goal.returns-then-branch-clause-value
returns-then-branch-clause-value g c up =
    let old = state g.S.Store c.args.db.now.conn in
    let wait = c.args.wait in
    let k = wait_key_of wait in
    let n = c.in-Some.other.carrier.number in
    let open_mid = (c.in_ok-carrier.ensures.queried.same refl up).was_open in
    let same = (c.in_ok-found.ensures.queried.same refl open_mid).now in
    let answer = subst₂ (IsSoleAnswer WaitOfAnother wait_in old.now.trees)
    (bound_wait_key _ k c.wait_key-params.ensures) (ap (option_map wait_seen) c.in-Some.is)
    (c.in_ok-found.ensures.value open_mid) in
    let other = other_waits wait.carrier wait.minute.number wait.id wait.attempt old.now.trees
    (c.in-Some.other, c.in-Some.field-0-1) answer in
    let registered = subst (λ (d : Database). is_some (get (content_in d.trees).carriers n) ≡ true)
    same (sym (c.in_ok-carrier.ensures.value up) ∙ c.if-branch.true) in
    sym (not_last (content_at old) k n other.1.0 other.0 registered other.1.1)

pub returns-then-branch-clause-queried : goal.returns-then-branch-clause-queried
returns-then-branch-clause-queried g c =
    looked_then (state g.S.Store c.args.db.now.conn) (state g.S.Store c.find.new.db.conn)
    (state g.S.Store c.carrier.new.db.conn) true c.in_ok-found.ensures.queried
    c.in_ok-carrier.ensures.queried

pub returns-clause-value : goal.returns-clause-value
returns-clause-value g c up =
    let open_late = (c.is_last_of_all-2.ensures.queried.undone up).was_open in
    let late = c.in_ok-carrier.ensures.queried.same refl open_late in
    let same = late.now ∙ (c.in_ok-found.ensures.queried.same refl late.was_open).now in
    subst (λ (d : Database). IfOk c.is_last_of_all-2.result (λ last.
    last ≡ is_last_wait (content_in d.trees) (wait_key_of c.args.wait))) same
    (c.is_last_of_all-2.ensures.value up)

pub returns-clause-queried : goal.returns-clause-queried
returns-clause-queried g c =
    let old = state g.S.Store c.args.db.now.conn in
    let mid = state g.S.Store c.find.new.db.conn in
    let late = state g.S.Store c.carrier.new.db.conn in
    let new = state g.S.Store c.is_last_of_all-2.new.db.conn in
    looked_then old late new _
    (looked_then old mid late true c.in_ok-found.ensures.queried c.in_ok-carrier.ensures.queried)
    c.is_last_of_all-2.ensures.queried
