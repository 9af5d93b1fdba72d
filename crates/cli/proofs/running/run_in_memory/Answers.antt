use Rattle.std.proofs.Common.{refl}
use Rattle.cli.proofs.running.run_in_memory.Goals as goal

pub returns : goal.returns
returns g c = c.run_over-store.ensures.new tt refl c.new-store.ensures
