use Rattle.std.proofs.Common.{◌∙◌, sym}
use Rattle.hub.specs.Hub.{connections_of, kept_connections}
use Rattle.hub.proofs.HubLemmas.{all_then, all_to}
use Rattle.hub.proofs.RowsLemmas.{rows_then}
use Rattle.hub.proofs.Settled.{kept_same}
use Rattle.hub.proofs.hub.Hub.execute_turns.Goals as goal

pub returns-clause-goes_on : goal.returns-clause-goes_on
returns-clause-goes_on g c = λ settled.
    let store = g.S.StoreModel in
    let before = connections_of c.args.self.now.members in
    let middle = connections_of c.execute_group.new.self.members in
    all_then store c.args.register.now.store c.execute_group.new.register.store
    c.execute_ahead.new.register.store before middle
    (kept_connections c.execute_ahead.new.self.members) c.execute_ahead.ensures.follows.usable
    (all_to store c.args.register.now.store c.execute_group.new.register.store before
    (kept_connections c.execute_group.new.self.members) middle
    (λ place. sym (kept_same c.execute_group.new.self.members
    (c.execute_group.ensures.undone c.if-execute_group.false settled) place))
    (c.execute_group.ensures.goes_on settled))
    (c.execute_ahead.ensures.goes_on
    (c.execute_group.ensures.undone c.if-execute_group.false settled))

pub returns-clause-follows : goal.returns-clause-follows
returns-clause-follows g c =
    rows_then g.S.StoreModel c.args.register.now.store c.execute_group.new.register.store
    c.execute_ahead.new.register.store c.execute_group.ensures.follows
    c.execute_ahead.ensures.follows

pub returns-clause-ahead : goal.returns-clause-ahead
returns-clause-ahead g c = λ settled. c.execute_ahead.ensures.ahead
    (c.execute_group.ensures.undone c.if-execute_group.false settled)
