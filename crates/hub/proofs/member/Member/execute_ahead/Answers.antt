use Rattle.std.proofs.Common.{◌∙◌, None, false, subst, sym}
use Rattle.hub.specs.Connections.{ConnectionModel, connection_of, kept_of}
use Rattle.hub.specs.Feeding.{GoesOn}
use Rattle.hub.proofs.Ahead.{kept_nothing}
use Rattle.hub.proofs.Fed.{same_end_after, steps_untimed}
use Rattle.hub.proofs.Turns.{open_with_work}
use Rattle.hub.proofs.member.Member.execute_ahead.Goals as goal

pub returns-clause-goes_on : goal.returns-clause-goes_on
returns-clause-goes_on g c =
    let store = g.S.StoreModel in
    let old = c.args.register.now.store in
    let new = c.execute_ahead.new.register.store in
    let before = connection_of c.args.self.now.connection in
    let after = kept_of c.execute_ahead.new.self in
    subst (λ (m : ConnectionModel). GoesOn false None store old new m after)
    (sym (kept_nothing c.args.self.now.connection (c.has_ahead.ensures c.if-has_ahead.false)))
    (record {
      same_end = same_end_after before after c.execute_ahead.result c.execute_ahead.ensures.ahead;
      steps = λ usable st refines. steps_untimed false (store.failed old) (store.failed new) st
          (store.content new) before after (g.T.Ticks.remaining c.args.ticks.now)
          (g.T.Ticks.remaining c.execute_ahead.new.ticks) c.execute_ahead.result
          (c.execute_ahead.ensures.executes usable st refines) c.execute_ahead.ensures.ahead
          (open_with_work before (sym c.has_work.ensures ∙ c.if-not-has_work.false));
    })
