use Rattle.hub.specs.Hub.{connections_of, kept_connections}
use Rattle.hub.proofs.HubLemmas.{all_to}
use Rattle.hub.proofs.hub.Hub.round.Goals as goal

pub returns-clause-goes_on : goal.returns-clause-goes_on
returns-clause-goes_on g c = λ settled.
    all_to g.S.StoreModel c.args.register.now.store c.execute_turns.new.register.store
    (connections_of c.args.self.now.members)
    (kept_connections c.execute_turns.new.self.members)
    (connections_of c.keep_ahead.new.self.members)
    (c.keep_ahead.ensures.kept (c.execute_turns.ensures.ahead settled))
    (c.execute_turns.ensures.goes_on settled)

pub returns-clause-settled : goal.returns-clause-settled
returns-clause-settled g c = λ settled.
    c.keep_ahead.ensures.settled (c.execute_turns.ensures.ahead settled)
