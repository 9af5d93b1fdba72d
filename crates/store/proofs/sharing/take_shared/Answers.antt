use Rattle.std.proofs.Common.{rules, ◌≡◌, cond, Some, None, refl, ap, sym, ◌∙◌, subst}
use Rattle.std.specs.Prelude.{IsSome, option_map}
use Rattle.std.specs.FinMap.{get}
use Rattle.std.specs.HashMap as hash
use Rattle.numbers.specs.Subjects.{Subject}
use Rattle.model.specs.Content.{VersionRow, broadcast_key, wait_key}
use Rattle.settle.specs.Changes.{same_broadcast}
use Rattle.settle.specs.Sharing.{TakesSharedOrNone}
use Rattle.store.specs.BroadcastRows.{broadcasts_of, packed_row_of, same_id}
use Rattle.store.specs.Sharing.{TakesWait}
use Rattle.store.specs.Tables.{content_of}
use Rattle.store.specs.VersionRows.{rows_of}
use Rattle.store.specs.declared.keys.BroadcastId.{BroadcastId}
use Rattle.store.proofs.BroadcastRows.{get-broadcast, broadcast-set}
use Rattle.store.proofs.SharedWaits.{takes-shared, written-back}
use Rattle.store.proofs.sharing.take_shared.Goals as goal

pub returns-in_err-take_shared-clause-taken : goal.returns-in_err-take_shared-clause-taken
returns-in_err-take_shared-clause-taken c =
    let old = c.args.tables.now in
    let key : BroadcastId = record { id = c.args.id; attempt = c.args.attempt } in
    let was = c.in_ok-broadcast.broadcast.now in
    let new = c.get_mut.follows.lender was in
    let there : hash.get same_id old.broadcasts key ≡ Some was = search rules in
    let written : (q : BroadcastId) → hash.get same_id new q
    ≡ cond (same_id key q) (Some was) (hash.get same_id old.broadcasts q) = search rules in
    let broadcasts = written-back old.broadcasts new key was there written in
    let waits : c.take_shared.new.self ≡ old.waits = search rules in
    let none : c.from_residual-in_err-take_shared.result ≡ None = search rules in
    subst (TakesSharedOrNone (content_of old) (record (content_of old) {
      broadcasts = broadcasts_of new;
      waits = c.take_shared.new.self;
    }) c.args.carrier.number c.args.id c.args.attempt) (sym none)
    (λ i. record (content_of old) { broadcasts = broadcasts i; waits = waits i })

pub returns-clause-taken : goal.returns-clause-taken
returns-clause-taken c =
    let old = c.args.tables.now in
    let key : BroadcastId = record { id = c.args.id; attempt = c.args.attempt } in
    let own = broadcast_key c.args.id c.args.attempt in
    let was = c.in_ok-broadcast.broadcast.now in
    let new = c.get_mut.follows.lender c.mark.new.self in
    let there : hash.get same_id old.broadcasts key ≡ Some was = search rules in
    let written : (q : BroadcastId) → hash.get same_id new q
    ≡ cond (same_id key q) (Some c.mark.new.self) (hash.get same_id old.broadcasts q) =
    ((c.get_mut.follows.holds c.mark.new.self).3 (subst IsSome (sym there) refl)).0 in
    let row = c.copied.result in
    let found : get (rows_of old.versions) c.args.id ≡ Some row = search rules in
    let subject : c.in_ok-row.row.now.subject ≡ row.subject =
    ap (λ (r : VersionRow). r.subject) (sym c.copied.ensures) in
    takes-shared (content_of old) c.args.id c.args.attempt (packed_row_of was)
    (broadcasts_of new)
    (get-broadcast old.broadcasts key ∙ ap (option_map packed_row_of) there)
    (λ k. broadcast-set old.broadcasts new key own (Some c.mark.new.self) refl written k
    ∙ ap (λ r. cond (same_broadcast own k) (Some r) (get (broadcasts_of old.broadcasts) k))
    c.mark.ensures)
    old.carriers c.args.carrier.number c.in_ok-take_shared.field-0.number row
    c.take_shared.new.self refl
    (search rules) found (search rules)
    (subst (λ (s : Subject). TakesWait old.carriers old.waits c.take_shared.new.self s
    (wait_key c.args.carrier.number c.in_ok-take_shared.field-0.number c.args.id c.args.attempt))
    (c.rank.ensures ∙ subject) c.in_ok-take_shared.ensures.some)
