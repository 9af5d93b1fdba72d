use Rattle.store.proofs.Reserved.{distinct-from}
use Rattle.store.proofs.commit.are_distinct.Goals as goal

pub returns-in_default : goal.returns-in_default
returns-in_default c t = distinct-from c.args.versions.now (c.are_ascending.ensures t)
