use Rattle.std.proofs.Common.{rules, pos, [], ◌∷◌, refl}
use Rattle.std.specs.FinMap.{get}
use Rattle.sqlite.specs.declared.types.Value.TheVariants.{Int}
use Rattle.sqlite.specs.Held.{state}
use Rattle.settle.specs.Abstraction.{lrn_of, spid_of}
use Rattle.sql_rows.specs.Content.{content_in, lrn_row_in}
use Rattle.sql_rows.specs.declared.statement.Query.TheVariants.{LrnNumbered}
use Rattle.sql_rows.proofs.FoundLemmas.{lrn_found}
use Rattle.sql_store.proofs.LookupLemmas.{keyed_is, one_bound}
use Rattle.sql_store.proofs.lookups.lrn.Goals as goal

pub returns-clause-value : goal.returns-clause-value
returns-clause-value g c up =
    let db = (state g.S.Store c.args.db.now.conn).now.trees in
    let n = lrn_of c.args.lrn in
    keyed_is LrnNumbered lrn_row_in lrn_of spid_of db _ (Int (pos n) ∷ []) c.in_ok-found.found
    c.map.result (get (content_in db).lrns n) (search rules)
    (one_bound c.number.result (Int (pos n)) refl c.number.ensures) (lrn_found db n)
    (c.in_ok-found.ensures.value up)
