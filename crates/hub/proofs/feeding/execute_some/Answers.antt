use Rattle.std.proofs.Common.{◌≡◌, ◌∙◌, [], ap, Some, sym, subst, true}
use Rattle.model.specs.State.{State}
use Rattle.register.specs.Refinement.{Refines}
use Rattle.api.proofs.Left.{left_as}
use Rattle.api.specs.Crashes.{LeavesPrefix}
use Rattle.hub.specs.Connections.{ConnectionModel, connection_of, kept_of}
use Rattle.hub.specs.Crashes.{LeavesOfConnection}
use Rattle.hub.specs.declared.connection.Phase.TheVariants.{Open}
use Rattle.hub.specs.Feeding.{GoesOn}
use Rattle.hub.proofs.Ahead.{kept_nothing}
use Rattle.hub.proofs.Fed.{goes_stay, same_end_after, steps_turned}
use Rattle.hub.proofs.LeftFed.{turn_left}
use Rattle.hub.proofs.Turns.{open_with_work}
use Rattle.hub.proofs.feeding.execute_some.Goals as goal

pub returns-else-has_work-clause-goes_on : goal.returns-else-has_work-clause-goes_on
returns-else-has_work-clause-goes_on g c =
    subst (GoesOn true (Some []) g.S.StoreModel c.args.register.now.store c.args.register.now.store
    (connection_of c.args.connection.now))
    (sym (kept_nothing c.args.connection.now c.requires.ahead))
    (goes_stay true (Some []) g.S.StoreModel c.args.register.now.store (connection_of
    c.args.connection.now))

pub returns-then-has_work-clause-goes_on : goal.returns-then-has_work-clause-goes_on
returns-then-has_work-clause-goes_on g c =
    let store = g.S.StoreModel in
    let old = c.args.register.now.store in
    let new = c.execute_ahead.new.register.store in
    let before = connection_of c.args.connection.now in
    let after = kept_of c.execute_ahead.new.self in
    record {
      same_end = same_end_after before after c.execute_ahead.result c.execute_ahead.ensures.ahead;
      steps = λ usable st refines. steps_turned true (store.failed old) (store.failed new) st
          (store.content new) before after (Some []) c.execute_ahead.result
          (c.execute_ahead.ensures.executes usable st refines) c.execute_ahead.ensures.ahead
          (open_with_work before (sym c.has_work.ensures ∙ c.if-has_work.true));
    }

pub returns-then-has_work-clause-left : goal.returns-then-has_work-clause-left
returns-then-has_work-clause-left g c =
    let store = g.S.StoreModel in
    let old = c.args.register.now.store in
    let new = c.execute_ahead.new.register.store in
    let before = connection_of c.args.connection.now in
    let after = kept_of c.execute_ahead.new.self in
    let opened : before.phase ≡ Open =
    open_with_work before (sym c.has_work.ensures ∙ c.if-has_work.true) in
    left_as store old new (λ m. (st : State) → Refines (store.content old) st
    → LeavesPrefix true (store.failed old) st before.unread (Some []) before.unsent after.unsent m)
    (λ m. (st : State) → Refines (store.content old) st
    → LeavesOfConnection (store.failed old) st before m) c.execute_ahead.ensures.left
    (λ m is st refines. turn_left (store.failed old) st before after.unsent m opened
    (is st refines))
