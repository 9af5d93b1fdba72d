use Rattle.std.proofs.Common.{rules, ◌≡◌, pos, [], ◌∷◌, nat_lt, false, refl, sym, arith}
use Rattle.std.specs.FinMap.{get}
use Rattle.sqlite.specs.declared.types.Value.TheVariants.{Int}
use Rattle.sqlite.specs.Held.{state}
use Rattle.numbers.specs.Abstraction.{routing_of}
use Rattle.sql_rows.specs.Content.{next_row_in, nexts_in}
use Rattle.sql_rows.specs.declared.statement.Query.TheVariants.{NextRoutingNumbered}
use Rattle.sql_rows.proofs.FoundLemmas.{next_found, no_great_next}
use Rattle.sql_store.proofs.LookupLemmas.{keyed_is, one_bound}
use Rattle.sql_store.proofs.lookups.next_routing.Goals as goal

pub returns-clause-value : goal.returns-clause-value
returns-clause-value g c up =
    let db = (state g.S.Store c.args.db.now.conn).now.trees in
    let n = c.args.id in
    keyed_is NextRoutingNumbered next_row_in (λ n. n) routing_of db _ (Int (pos n) ∷ [])
    c.in_ok-found.found c.map.result (get (nexts_in (db 16)) n) (search rules)
    (one_bound c.number.result (Int (pos n)) refl c.number.ensures) (next_found db n)
    (c.in_ok-found.ensures.value up)

pub returns-then-id-ge9223372036854775808-clause-value :
    goal.returns-then-id-ge9223372036854775808-clause-value
returns-then-id-ge9223372036854775808-clause-value g c up =
    let great : nat_lt c.args.id 9223372036854775808 ≡ false = grind arith in
    sym (no_great_next (state g.S.Store c.args.db.now.conn).now.trees c.args.id great)
