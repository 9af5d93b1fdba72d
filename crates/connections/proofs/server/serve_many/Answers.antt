use Rattle.hub.proofs.RowsLemmas.{rows_last}
use Rattle.connections.proofs.server.serve_many.Goals as goal

pub returns-clause-lasts : goal.returns-clause-lasts
returns-clause-lasts g c =
    rows_last g.S.StoreModel c.args.register.now.store c.run-served.new.register.store
    g.met.S.Store.leaves_content c.run-served.ensures.follows
