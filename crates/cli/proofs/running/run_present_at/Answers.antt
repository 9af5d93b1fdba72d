use Rattle.cli.specs.Faults.{MayEndOverFile}
use Rattle.cli.proofs.Endings.{work_ends}
use Rattle.cli.proofs.running.run_present_at.Goals as goal

pub returns : goal.returns
returns g c = work_ends (MayEndOverFile c.args.line.now) c.over_existing.result (λ refused. tt)
    c.over_existing.ensures
