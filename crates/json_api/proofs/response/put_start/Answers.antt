use Rattle.std.proofs.Common.{◌≡◌, arith}
use Rattle.json_api.proofs.response.put_start.Goals as goal

pub returns-then-status-eq200-clause-bytes : goal.returns-then-status-eq200-clause-bytes
returns-then-status-eq200-clause-bytes c =
    let success : c.args.status ≡ 200 = omega (arith, c.if-status-eq200.true) in
    rw success c.put_ok.ensures.bytes
