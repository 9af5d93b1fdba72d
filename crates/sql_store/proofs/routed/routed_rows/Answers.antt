use Rattle.std.proofs.Common.{arith}
use Rattle.std.proofs.lemmas.Grind.{common_steps}
use Rattle.std.proofs.lemmas.List.Elements.{filter_map-append}
use Rattle.sql_store.proofs.routed.routed_rows.Goals as goal

pub loop-version-preserved : goal.loop-version-preserved
loop-version-preserved c = grind (arith, common_steps, filter_map-append)
