use Rattle.std.proofs.Common.{rules, pos, [], ◌∷◌, refl, ap, ◌∙◌}
use Rattle.std.specs.FinMap.{get}
use Rattle.sqlite.specs.declared.types.Value.TheVariants.{Int}
use Rattle.sqlite.specs.Held.{state}
use Rattle.settle.specs.Abstraction.{code_of, spid_of}
use Rattle.sql_rows.specs.Content.{code_row_in, content_in}
use Rattle.sql_rows.specs.declared.statement.Query.TheVariants.{CodeNumbered}
use Rattle.sql_rows.proofs.FoundLemmas.{code_found}
use Rattle.sql_store.proofs.LookupLemmas.{keyed_is, one_bound}
use Rattle.sql_store.proofs.lookups.code.Goals as goal

pub returns-clause-value : goal.returns-clause-value
returns-clause-value g c up =
    let db = (state g.S.Store c.args.db.now.conn).now.trees in
    let n = code_of c.args.code in
    keyed_is CodeNumbered code_row_in code_of spid_of db _ (Int (pos n) ∷ []) c.in_ok-found.found
    c.map.result (get (content_in db).codes n) (search rules)
    (one_bound c.number.result (Int (pos n)) refl (c.number.ensures
    ∙ ap (λ n. Int (pos n)) c.from.ensures)) (code_found db n)
    (c.in_ok-found.ensures.value up)
