use Rattle.std.proofs.Common.{[], Some, sym, subst, true}
use Rattle.hub.specs.Connections.{connection_of}
use Rattle.hub.specs.Feeding.{GoesOn}
use Rattle.hub.proofs.Fed.{goes_then}
use Rattle.hub.proofs.LeftFed.{left_then}
use Rattle.hub.proofs.RowsLemmas.{rows_then}
use Rattle.hub.proofs.feeding.Feeder.execute.Goals as goal

pub returns-then-not-execute_group-clause-goes_on : goal.returns-then-not-execute_group-clause-goes_on
returns-then-not-execute_group-clause-goes_on g c =
    subst (GoesOn true (Some []) g.S.StoreModel c.args.register.now.store
    c.execute_some.new.register.store
    (connection_of c.args.self.now.connection)) (sym c.keep_ahead.ensures.kept)
    (goes_then true (Some []) g.S.StoreModel c.args.register.now.store
    c.execute_group.new.register.store
    c.execute_some.new.register.store _ _ _ c.execute_some.ensures.follows
    c.execute_group.ensures.goes_on c.execute_some.ensures.goes_on)

pub returns-then-not-execute_group-clause-follows : goal.returns-then-not-execute_group-clause-follows
returns-then-not-execute_group-clause-follows g c =
    rows_then g.S.StoreModel c.args.register.now.store c.execute_group.new.register.store
    c.execute_some.new.register.store c.execute_group.ensures.follows
    c.execute_some.ensures.follows

pub returns-then-not-execute_group-clause-left : goal.returns-then-not-execute_group-clause-left
returns-then-not-execute_group-clause-left g c =
    left_then g.S.StoreModel c.args.register.now.store c.execute_group.new.register.store
    c.execute_some.new.register.store _ _ c.execute_some.ensures.follows.honest
    c.execute_group.ensures.follows.usable c.execute_group.ensures.goes_on
    c.execute_group.ensures.left c.execute_some.ensures.left
