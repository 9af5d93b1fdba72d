use Rattle.std.proofs.Common.{◌≤◌, length, take, arith}
use Rattle.std.specs.Io.KnownBytes.{Appends}
use Rattle.httparse.proofs.HeadLemmas.{OnErr-map}
use Rattle.http_messages.proofs.Appending.{Appends-nothing, AppendsPrefix-next}
use Rattle.http_messages.proofs.send.send_whole.Goals as goal
use Rattle.http_messages.proofs.send.send_whole.Goals.{in-Ok, in-Err+in-Interrupted}

pub returns-clause-err : goal.returns-clause-err
returns-clause-err g c =
    let begun : (c.match-write.taken ≤ length c.args.text.now)
    × Appends (g.W.Write.contents c.args.writer.now) (g.W.Write.contents c.write.new.self)
    (take c.match-write.taken c.args.text.now) =
    elim c.match-write.branch [
      | in-Ok w ↦ rw w.taken-is (
        rw w.in-Ok.is at c.write.ensures.bound,
        rw w.in-Ok.is at c.write.ensures.bytes,
      )
      | in-Err+in-Interrupted w ↦ rw w.taken-is (
        omega arith,
        Appends-nothing _ _ (rw w.in-Err.is at c.write.ensures.bytes),
      )
    ] in
    OnErr-map c.send_rest.result
    (AppendsPrefix-next _ _ _ c.args.text.now c.match-write.taken begun.0 begun.1)
    c.send_rest.ensures.err
