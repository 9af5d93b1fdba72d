use Rattle.std.proofs.Common.{length}
use Rattle.sql_store.proofs.schema.+behind.Given as goal

abbrev pub decreases-behind : goal.decreases-behind
decreases-behind g l = length l.listed.now
