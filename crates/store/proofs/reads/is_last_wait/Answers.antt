use Rattle.std.proofs.Common.{ap, ◌∙◌}
use Rattle.std.specs.Prelude.{not}
use Rattle.settle.specs.Abstraction.{wait_key_of}
use Rattle.store.specs.WaitRows.{download_of}
use Rattle.store.proofs.LastWait.{last-is}
use Rattle.store.proofs.reads.is_last_wait.Goals as goal

pub returns : goal.returns
returns c = ap not c.is_another_registered.ensures ∙ last-is c.args.tables.now.carriers
    c.args.tables.now.waits c.args.wait.carrier (download_of (wait_key_of c.args.wait))
    c.carriers_of.result.now c.carriers_of.ensures
