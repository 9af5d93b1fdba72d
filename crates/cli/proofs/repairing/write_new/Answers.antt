use Rattle.cli.specs.Faults.{IsOfBackup}
use Rattle.cli.proofs.Endings.{work_ends}
use Rattle.cli.proofs.repairing.write_new.Goals as goal

pub returns : goal.returns
returns c = work_ends IsOfBackup c.over_open.result (λ refused. tt) c.over_open.ensures
