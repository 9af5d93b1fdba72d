use Rattle.sqlite.specs.Held.{state}
use Rattle.sql_store.proofs.MigrationLemmas.{no_set_put}
use Rattle.sql_store.proofs.migration.put_first_set.Goals as goal

pub returns-in-None-clause-others : goal.returns-in-None-clause-others
returns-in-None-clause-others g c = no_set_put (state g.S.Store c.args.conn.now)
