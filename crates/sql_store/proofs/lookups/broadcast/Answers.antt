use Rattle.std.proofs.Common.{rules, ◌≡◌, pos, [], ◌∷◌, nat_lt, ◌&&◌, false, sym, arith}
use Rattle.std.specs.FinMap.{get}
use Rattle.sqlite.specs.declared.types.Value.TheVariants.{Int}
use Rattle.sqlite.specs.Held.{state}
use Rattle.settle.specs.Abstraction.{broadcast_key_of, broadcast_row_of}
use Rattle.sql_rows.specs.Content.{broadcast_in, content_in}
use Rattle.sql_rows.specs.declared.statement.Query.TheVariants.{BroadcastKeyed}
use Rattle.sql_rows.proofs.FoundLemmas.{broadcast_found, no_great_broadcast}
use Rattle.sql_store.proofs.LookupLemmas.{keyed_is, two_bound}
use Rattle.sql_store.proofs.lookups.broadcast.Goals as goal
use Rattle.sql_store.proofs.lookups.broadcast.Goals.{then-key-ge9223372036854775808-via-then-key-ge9223372036854775808, then-key-ge9223372036854775808-via-else-key-ge9223372036854775808+then-key-ge9223372036854775808-2}
use Rattle.numbers.proofs.Small.{false_second, false_first}

pub returns-clause-value : goal.returns-clause-value
returns-clause-value g c up =
    let db = (state g.S.Store c.args.db.now.conn).now.trees in
    let k = broadcast_key_of c.args.key in
    keyed_is BroadcastKeyed broadcast_in broadcast_key_of broadcast_row_of db _
    (Int (pos k.id) ∷ Int (pos k.attempt) ∷ []) c.in_ok-found.found c.map.result
    (get (content_in db).broadcasts k) (search rules)
    (two_bound c.number.result c.number-2.result k.id k.attempt c.number.ensures
    c.number-2.ensures) (broadcast_found db k) (c.in_ok-found.ensures.value up)

pub returns-then-key-ge9223372036854775808-clause-value :
    goal.returns-then-key-ge9223372036854775808-clause-value
returns-then-key-ge9223372036854775808-clause-value g c up =
    let great : (nat_lt c.args.key.id 9223372036854775808 && nat_lt c.args.key.attempt
    9223372036854775808) ≡ false = elim c.then-key-ge9223372036854775808.branch [
      | then-key-ge9223372036854775808-via-then-key-ge9223372036854775808 w ↦ false_first
          (nat_lt c.args.key.id 9223372036854775808) (nat_lt c.args.key.attempt 9223372036854775808)
          (grind (arith, w.if-key-ge9223372036854775808))
      | then-key-ge9223372036854775808-via-else-key-ge9223372036854775808+then-key-ge9223372036854775808-2
          w ↦ false_second (nat_lt c.args.key.id 9223372036854775808)
          (nat_lt c.args.key.attempt 9223372036854775808)
          (grind (arith, w.if-key-ge9223372036854775808-2))
    ] in
    sym (no_great_broadcast (state g.S.Store c.args.db.now.conn).now.trees
    (broadcast_key_of c.args.key) great)
