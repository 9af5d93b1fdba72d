use Rattle.std.proofs.Common.{◌∷◌, [], ◌++◌, length, map, subst}
use Rattle.std.specs.Io.KnownBytes.{Appends}
use Rattle.http_messages.specs.Sending.{AppendsPrefix}
use Rattle.bulk.proofs.Sending.{all_behind, part_behind, part_of_first}
use Rattle.bulk.proofs.writing.send_file.Goals as goal

pub returns-in-Ok-clause-ok : goal.returns-in-Ok-clause-ok
returns-in-Ok-clause-ok g c =
    all_behind _ (g.W.Write.contents c.send.new.writer) _ (c.args.header.now ++ 10 ∷ [])
    (map g.L.InLine.text c.args.rows.now) (length c.args.rows.now) c.send_rows.result
    (subst (Appends (g.W.Write.contents c.args.writer.now) (g.W.Write.contents c.send.new.writer))
    c.set_first.ensures.text c.in-Ok.ensures.ok) c.send_rows.ensures.ok

pub returns-in-Ok-clause-err : goal.returns-in-Ok-clause-err
returns-in-Ok-clause-err g c =
    part_behind _ (g.W.Write.contents c.send.new.writer) _ (c.args.header.now ++ 10 ∷ [])
    (map g.L.InLine.text c.args.rows.now) c.send_rows.result
    (subst (Appends (g.W.Write.contents c.args.writer.now) (g.W.Write.contents c.send.new.writer))
    c.set_first.ensures.text c.in-Ok.ensures.ok) c.send_rows.ensures.err

pub returns-in-Err-clause-err : goal.returns-in-Err-clause-err
returns-in-Err-clause-err g c =
    part_of_first _ _ (c.args.header.now ++ 10 ∷ []) (map g.L.InLine.text c.args.rows.now)
    (subst (AppendsPrefix (g.W.Write.contents c.args.writer.now)
    (g.W.Write.contents c.send.new.writer)) c.set_first.ensures.text c.in-Err.ensures.err)
