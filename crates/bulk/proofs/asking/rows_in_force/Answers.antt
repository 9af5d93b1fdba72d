use Rattle.std.proofs.Common.{map}
use Rattle.requests.specs.Calls.{in_force_of}
use Rattle.model.specs.Refusals.{AllInForce}
use Rattle.register.proofs.Asking.Unmoved.{kept, rows_of}
use Rattle.bulk.proofs.asking.rows_in_force.Goals as goal

pub returns-in-Ok-clause-rows : goal.returns-in-Ok-clause-rows
returns-in-Ok-clause-rows g c =
    λ u st s. rows_of st (map in_force_of c.in-Ok.rows.items) (c.in-Ok.ensures.answers u st s).0

pub returns-in-Ok-clause-kept : goal.returns-in-Ok-clause-kept
returns-in-Ok-clause-kept g c = λ u. kept _ _ 0 AllInForce _ (c.in_force.ensures.answers u)

pub returns-in-Err-clause-kept : goal.returns-in-Err-clause-kept
returns-in-Err-clause-kept g c = λ u. kept _ _ 0 AllInForce _ (c.in_force.ensures.answers u)
