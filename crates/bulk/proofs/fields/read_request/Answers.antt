use Rattle.csv.specs.Records.{fields_of}
use Rattle.bulk.proofs.Wishes.{no_request}
use Rattle.bulk.proofs.fields.read_request.Goals as goal

pub returns-in_err-operation_in : goal.returns-in_err-operation_in
returns-in_err-operation_in c =
    rw c.from_residual-in_err-operation_in.ensures (no_request (fields_of c.args.row.now) _ _ _ _
    c.in_ok-action.action c.in_ok-fields.ensures.some c.in_ok-action.ensures.some
    c.in_err-operation_in.ensures.none)
