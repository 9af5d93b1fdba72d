use Rattle.std.proofs.Common.{refl, List, map, sym, subst, arith, ℕ}
use Rattle.std.proofs.KnownBytes.{Appends-nil}
use Rattle.std.specs.Io.KnownBytes.{Appends}
use Rattle.http_messages.specs.Sending.{AppendsPrefix}
use Rattle.bulk.specs.Files.{IsSentPart}
use Rattle.bulk.proofs.Sending.{all_sent, sent_next, sent_part, line_at}
use Rattle.bulk.proofs.writing.send_rows.Goals as goal

pub loop-row-init : goal.loop-row-init
loop-row-init g c = record {
  counted = refl;
  sent = Appends-nil (g.W.Write.contents c.args.writer.now);
}

pub returns-in-Err-clause-err : goal.returns-in-Err-clause-err
returns-in-Err-clause-err g c =
    let at = line_at g.L.InLine.text c.args.rows.now c.loop-row.row-index c.row-item.result
    c.loop-row-test.true c.row-item.is in
    let lines : List (List ℕ) = map g.L.InLine.text c.args.rows.now in
    subst (IsSentPart (g.W.Write.contents c.args.writer.now) (g.W.Write.contents c.send.new.writer)
    lines) (sym c.loop-row.invariant.counted)
    (sent_part _ (g.W.Write.contents c.loop-row.writer) _ lines c.loop-row.row-index _ at.0 at.1
    c.loop-row.invariant.sent
    (subst (AppendsPrefix (g.W.Write.contents c.loop-row.writer)
    (g.W.Write.contents c.send.new.writer)) c.put_in.ensures c.in-Err.ensures.err))

pub loop-row-preserved : goal.loop-row-preserved
loop-row-preserved g c =
    let at = line_at g.L.InLine.text c.args.rows.now c.loop-row.row-index c.row-item.result
    c.loop-row-test.true c.row-item.is in
    let lines : List (List ℕ) = map g.L.InLine.text c.args.rows.now in
    record {
      counted = omega (arith, c.loop-row.invariant.counted);
      sent = sent_next _ (g.W.Write.contents c.loop-row.writer) _ lines c.loop-row.row-index _ at.0
          at.1 c.loop-row.invariant.sent
          (subst (Appends (g.W.Write.contents c.loop-row.writer)
          (g.W.Write.contents c.send.new.writer)) c.put_in.ensures c.in-Ok.ensures.ok);
    }

pub returns-clause-ok : goal.returns-clause-ok
returns-clause-ok g c = (
  omega (arith, c.loop-row.invariant.counted, c.loop-row-test.false, c.loop-row.auto.row-index-end),
  all_sent g.L.InLine.text c.args.rows.now c.loop-row.row-index _ _ c.loop-row-test.false
      c.loop-row.invariant.sent,
)
