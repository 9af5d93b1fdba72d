use Rattle.std.proofs.Common.{refl}
use Rattle.cli.proofs.running.feed.Goals as goal

pub returns-clause-feeds : goal.returns-clause-feeds
returns-clause-feeds g c = c.feed_over-store.ensures.feeds tt refl c.new-store.ensures

pub returns-clause-fault : goal.returns-clause-fault
returns-clause-fault g c = c.feed_over-store.ensures.new tt refl c.new-store.ensures
