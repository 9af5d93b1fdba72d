use Rattle.std.proofs.Common.{ap}
use Rattle.store.specs.VersionRows.{rows_from}
use Rattle.store.proofs.versions.Versions.new.Goals as goal

pub returns : goal.returns
unfolding rows_from
returns c = ap (rows_from 0) c.new.ensures.items
