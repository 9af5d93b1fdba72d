use Rattle.std.proofs.Math.Nat.{le_refl}
use Rattle.cli.proofs.Fed.{fed_so}
use Rattle.cli.proofs.running.feed_groups_to.Goals as goal

pub returns-clause-feeds : goal.returns-clause-feeds
returns-clause-feeds g c = λ usable st refines.
    let from = g.S.StoreModel.failed c.args.register.now.store in
    fed_so from from (g.S.StoreModel.failed c.feed-fed.new.register.store) (le_refl from)
    c.feed-fed.ensures.follows.rises st (g.S.StoreModel.content c.feed-fed.new.register.store)
    (g.R.Read.remaining c.feed-fed.new.reader) _ _ _ c.feed-fed.result c.feeding_outcome.result
    c.feeding_outcome.ensures.outcome (c.feed-fed.ensures.feeds usable st refines)
