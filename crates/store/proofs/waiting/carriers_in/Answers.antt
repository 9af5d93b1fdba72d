use Rattle.std.proofs.Common.{rules, ◌≡◌, ◌++◌, ◌+◌, ◌∷◌, [], drop, ap, sym, ◌∙◌, append_assoc}
use Rattle.std.proofs.lemmas.List.{append-nil, drop_all}
use Rattle.settle.proofs.Rest.{rest_at}
use Rattle.store.specs.Runs.{carriers_in}
use Rattle.store.proofs.waiting.carriers_in.Goals as goal

pub loop-key-preserved : goal.loop-key-preserved
loop-key-preserved c =
    let all = c.args.downloads.now in
    let i = c.loop-key.key-index in
    let e = c.loop-key-item.result in
    let pushed : c.push.new.self.items ≡ c.loop-key.carriers.items ++ e.0.carrier ∷ [] =
    search rules in
    ap (λ xs. xs ++ carriers_in (drop (i + 1) all)) pushed
    ∙ append_assoc c.loop-key.carriers.items (e.0.carrier ∷ []) (carriers_in (drop (i + 1) all))
    ∙ ap (λ es. c.loop-key.carriers.items ++ carriers_in es)
    (sym (rest_at all i e c.loop-key-test.true c.loop-key-item.is))
    ∙ c.loop-key.invariant

pub returns : goal.returns
returns c =
    sym (append-nil c.loop-key.carriers.items)
    ∙ ap (λ es. c.loop-key.carriers.items ++ carriers_in es)
    (sym (drop_all c.loop-key.key-index c.args.downloads.now c.loop-key-test.false))
    ∙ c.loop-key.invariant
