use Rattle.std.proofs.Common.{rules, ◌≡◌, [], ◌∷◌, ap, sym, ◌∙◌}
use Rattle.store.proofs.OpenListed.{listed_so_far, none-listed, open-step, closed-step, open-are}
use Rattle.store.proofs.reads.open_by_key.Goals as goal

pub loop-id-init : goal.loop-id-init
loop-id-init c =
    none-listed c.into_iter-id-iterator.result c.args.broadcasts.now.entries c.new-ordered.result
    (search rules) (search rules)

pub loop-id-preserved-then-broadcast : goal.loop-id-preserved-then-broadcast
loop-id-preserved-then-broadcast c k =
    let next : c.loop-id.id-iterator ≡ (c.in-Some.id.now, c.in-Some.row.now) ∷ c.next.new.self =
    search rules in
    open-step (c.in-Some.id.now, c.in-Some.row.now) c.next.new.self c.unpacked-broadcast.result
    c.loop-id.ordered c.insert.new.self c.key.result c.unpacked-broadcast.ensures
    c.if-broadcast.true c.key.ensures c.in_ok-insert.ensures.updates.0 k
    ∙ ap (λ es. listed_so_far es c.loop-id.ordered k) (sym next) ∙ c.loop-id.invariant k

pub loop-id-preserved : goal.loop-id-preserved
loop-id-preserved c k =
    let next : c.loop-id.id-iterator ≡ (c.in-Some.id.now, c.in-Some.row.now) ∷ c.next.new.self =
    search rules in
    closed-step (c.in-Some.id.now, c.in-Some.row.now) c.next.new.self c.unpacked-broadcast.result
    c.loop-id.ordered c.unpacked-broadcast.ensures c.if-broadcast.false k
    ∙ ap (λ es. listed_so_far es c.loop-id.ordered k) (sym next) ∙ c.loop-id.invariant k

pub returns : goal.returns
returns c =
    let end : c.loop-id.id-iterator ≡ [] = search rules in
    open-are c.args.broadcasts.now.entries c.loop-id.id-iterator c.loop-id.ordered
    c.iter-id-items.ensures.unique end c.loop-id.invariant
