use Rattle.std.proofs.Common.{arith, length, ◌≤◌, ◌-◌}
use Rattle.http_messages.proofs.Appending.{Appends-next, length_part}
use Rattle.http_messages.proofs.send.send_all.Goals as goal

pub writes-preserved : goal.writes-preserved
writes-preserved g c =
    let room : c.in_ok-n.n ≤ length c.args.text.now - c.writes.at = omega (
      arith,
      length_part c.args.text.now c.writes.at,
      c.in_ok-n.ensures.ok.0,
    ) in (
      omega (arith, room),
      Appends-next _ _ _ c.args.text.now c.writes.at c.in_ok-n.n c.writes.invariant.0 room
          c.writes.invariant.1 c.in_ok-n.ensures.ok.1,
    )
