use Rattle.api.proofs.StorageLemmas.{storage_tells}
use Rattle.api.proofs.StorageRuns.{stays_clear}
use Rattle.api.proofs.laws.storage_reports_failure.Goals as goal

pub returns-clause-step : goal.returns-clause-step
returns-clause-step c = storage_tells

pub returns-clause-run : goal.returns-clause-run
returns-clause-run c = stays_clear
