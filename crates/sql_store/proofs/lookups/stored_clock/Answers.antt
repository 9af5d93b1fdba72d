use Rattle.std.proofs.Common.{rules, pos, [], ◌∷◌, refl}
use Rattle.std.specs.FinMap.{get}
use Rattle.sqlite.specs.declared.types.Value.TheVariants.{Int}
use Rattle.sqlite.specs.Held.{state}
use Rattle.sql_rows.specs.Clocks.{clock_of}
use Rattle.sql_rows.specs.Content.{clock_in, clocks_in}
use Rattle.sql_rows.specs.declared.statement.Query.TheVariants.{ClockNumbered}
use Rattle.sql_rows.proofs.FoundLemmas.{clock_found}
use Rattle.sql_store.proofs.LookupLemmas.{keyed_is, one_bound}
use Rattle.sql_store.proofs.lookups.stored_clock.Goals as goal

pub returns-clause-value : goal.returns-clause-value
returns-clause-value g c up =
    let db = (state g.S.Store c.args.db.now.conn).now.trees in
    keyed_is ClockNumbered clock_in (λ n. n) clock_of db _ (Int (pos 0) ∷ []) c.in_ok-found.found
    c.map.result (get (clocks_in (db 21)) 0) (search rules)
    (one_bound c.number.result (Int (pos 0)) refl c.number.ensures) (clock_found db)
    (c.in_ok-found.ensures.value up)
