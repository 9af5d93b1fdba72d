use Rattle.std.proofs.Common.{rules, ◌≡◌, nat_lt, false, sym, arith}
use Rattle.sqlite.specs.Held.{state}
use Rattle.sql_rows.proofs.Rerouted.{no_great_version}
use Rattle.sql_store.proofs.LookupLemmas.{version_is}
use Rattle.sql_store.proofs.lookups.version.Goals as goal

pub returns-clause-value : goal.returns-clause-value
returns-clause-value g c up =
    version_is (state g.S.Store c.args.db.now.conn).now.trees c.number.result c.args.id
    c.number.ensures c.in_ok-found.found c.map.result (search rules)
    (c.in_ok-found.ensures.value up)

pub returns-then-id-ge9223372036854775808-clause-value :
    goal.returns-then-id-ge9223372036854775808-clause-value
returns-then-id-ge9223372036854775808-clause-value g c up =
    let great : nat_lt c.args.id 9223372036854775808 ≡ false = grind arith in
    sym (no_great_version (state g.S.Store c.args.db.now.conn).now.trees c.args.id great)
