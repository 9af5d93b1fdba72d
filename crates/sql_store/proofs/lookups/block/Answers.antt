use Rattle.std.proofs.Common.{rules, pos, [], ◌∷◌, refl, ap, ◌∙◌}
use Rattle.std.specs.FinMap.{get}
use Rattle.sqlite.specs.declared.types.Value.TheVariants.{Int}
use Rattle.sqlite.specs.Held.{state}
use Rattle.settle.specs.Abstraction.{block_of, block_row_of}
use Rattle.sql_rows.specs.Content.{block_row_in, content_in}
use Rattle.sql_rows.specs.declared.statement.Query.TheVariants.{BlockNumbered}
use Rattle.sql_rows.proofs.FoundLemmas.{block_found}
use Rattle.sql_store.proofs.LookupLemmas.{keyed_is, one_bound}
use Rattle.sql_store.proofs.lookups.block.Goals as goal

pub returns-clause-value : goal.returns-clause-value
returns-clause-value g c up =
    let db = (state g.S.Store c.args.db.now.conn).now.trees in
    let n = block_of c.args.block in
    keyed_is BlockNumbered block_row_in block_of block_row_of db _ (Int (pos n) ∷ [])
    c.in_ok-found.found
    c.map.result (get (content_in db).blocks n) (search rules)
    (one_bound c.number.result (Int (pos n)) refl (c.number.ensures
    ∙ ap (λ n. Int (pos n)) c.from.ensures)) (block_found db n)
    (c.in_ok-found.ensures.value up)
