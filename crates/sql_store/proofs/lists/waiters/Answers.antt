use Rattle.std.proofs.Common.{◌≡◌, nat_lt, ◌&&◌, false, filter, map, sym, ap, subst, ◌∙◌, arith, refl}
use Rattle.sqlite.specs.Held.{state}
use Rattle.sqlite.specs.Effect.{Database}
use Rattle.settle.specs.Reads.{AreCarriers, AreWaiters}
use Rattle.sql_rows.specs.Content.{content_in, wait_in}
use Rattle.sql_rows.specs.Found.{IsListAnswer}
use Rattle.sql_rows.specs.declared.statement.Query.TheVariants.{WaitsOf}
use Rattle.settle.specs.Abstraction.{broadcast_key_of}
use Rattle.sql_rows.proofs.BoundLemmas.{bound_broadcast_key}
use Rattle.sql_rows.proofs.QueriesListed.{wait_seen, waits_of_picked}
use Rattle.sql_store.specs.Lists.{is_waiting}
use Rattle.sql_store.specs.Store.{content_at}
use Rattle.model.specs.Content.{wait_key}
use Rattle.sql_store.proofs.WaiterLemmas.{no_great_wait, no_waiters, waiters_are}
use Rattle.sql_store.proofs.lists.waiters.Goals as goal
use Rattle.sql_store.proofs.lists.waiters.Goals.{then-key-ge9223372036854775808-via-then-key-ge9223372036854775808, then-key-ge9223372036854775808-via-else-key-ge9223372036854775808+then-key-ge9223372036854775808-2}
use Rattle.numbers.proofs.Small.{false_second, false_first}

pub returns-then-key-ge9223372036854775808-clause-value : goal.returns-then-key-ge9223372036854775808-clause-value
returns-then-key-ge9223372036854775808-clause-value g c up =
    let great : (nat_lt c.args.key.id 9223372036854775808 && nat_lt c.args.key.attempt
    9223372036854775808) ≡ false = elim c.then-key-ge9223372036854775808.branch [
      | then-key-ge9223372036854775808-via-then-key-ge9223372036854775808 w ↦ false_first
          (nat_lt c.args.key.id 9223372036854775808) (nat_lt c.args.key.attempt 9223372036854775808)
          (grind (arith, w.if-key-ge9223372036854775808))
      | then-key-ge9223372036854775808-via-else-key-ge9223372036854775808+then-key-ge9223372036854775808-2
          w ↦ false_second (nat_lt c.args.key.id 9223372036854775808)
          (nat_lt c.args.key.attempt 9223372036854775808)
          (grind (arith, w.if-key-ge9223372036854775808-2))
    ] in
    let old = state g.S.Store c.args.db.now.conn in
    subst (AreWaiters (content_at old) c.args.minute.number c.args.key.id c.args.key.attempt)
    (sym c.new.ensures.items)
    (no_waiters (content_at old) c.args.minute.number c.args.key.id c.args.key.attempt
    (λ k. no_great_wait old.now.trees (wait_key k c.args.minute.number c.args.key.id
    c.args.key.attempt) great))

pub returns-clause-value : goal.returns-clause-value
returns-clause-value g c up =
    let old = state g.S.Store c.args.db.now.conn in
    let mid = state g.S.Store c.carriers.new.db.conn in
    let key = c.args.key in
    let waits = c.in_ok-waits.waits.items in
    let carriers = c.in_ok-carriers.carriers.items in
    let open_mid = (c.in_ok-waits.ensures.queried.same refl up).was_open in
    let same = (c.in_ok-carriers.ensures.queried.same refl open_mid).now in
    let answer = subst (λ p. IsListAnswer WaitsOf wait_in mid.now.trees p (map wait_seen waits))
    (bound_broadcast_key _ (broadcast_key_of key) c.broadcast_key.ensures)
    (c.in_ok-waits.ensures.value up) in
    let are = subst (λ (d : Database). AreCarriers (content_in d.trees) carriers) (sym same)
    (c.in_ok-carriers.ensures.value open_mid) in
    let result = waiters_are (content_at mid) c.args.minute.number key.id key.attempt waits
    (waits_of_picked mid.now.trees (c.in_ok-waits.ensures.once up) key.id key.attempt waits answer)
    carriers are in
    let there =
    c.in_ok-waiters.ensures
    ∙ ap (λ w. filter (is_waiting w c.args.minute.number) c.as_slice.result.now)
    c.as_slice-2.ensures.value ∙ ap (filter (is_waiting waits c.args.minute.number))
    c.as_slice.ensures.value in
    subst (AreWaiters (content_at old) c.args.minute.number key.id key.attempt) (sym there)
    (subst (λ (d : Database). AreWaiters (content_in d.trees) c.args.minute.number key.id
    key.attempt (filter (is_waiting waits c.args.minute.number) carriers)) same result)
