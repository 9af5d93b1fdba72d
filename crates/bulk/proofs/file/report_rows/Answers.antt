use Rattle.std.proofs.Common.{inl, subst, ◌∙◌}
use Rattle.std.specs.Io.KnownBytes.{Appends}
use Rattle.http_messages.specs.Sending.{AppendsPrefix}
use Rattle.bulk.specs.Report.{report_header}
use Rattle.bulk.proofs.Filed.{header_broken}
use Rattle.bulk.proofs.Noted.{report_noted}
use Rattle.bulk.proofs.Until.{or_then}
use Rattle.bulk.proofs.file.report_rows.Goals as goal

pub returns-in-Ok-clause-reports : goal.returns-in-Ok-clause-reports
unfolding report_header
returns-in-Ok-clause-reports g c = λ u st s rows has.
    inl (
      g.W.Write.contents c.send.new.writer,
      subst (Appends (g.W.Write.contents c.args.writer.now) (g.W.Write.contents c.send.new.writer))
          c.set_first.ensures.text c.in-Ok.ensures.ok,
      c.run_rows.ensures.runs u st s rows has,
    )

pub returns-in-Err-clause-reports : goal.returns-in-Err-clause-reports
unfolding report_header
returns-in-Err-clause-reports g c = λ u st s rows has.
    header_broken st rows _ _ _ c.at_start.result (c.at_start.ensures.kind ∙ c.in-Err.ensures.kind)
    c.at_start.ensures.rows s
    (subst (AppendsPrefix (g.W.Write.contents c.args.writer.now)
    (g.W.Write.contents c.send.new.writer)) c.set_first.ensures.text c.in-Err.ensures.err)

pub returns-in-Ok-clause-until : goal.returns-in-Ok-clause-until
unfolding report_header
returns-in-Ok-clause-until g c = λ usable honest.
    or_then (c.run_rows.ensures.until usable honest) (λ until st s rows has. (
      g.W.Write.contents c.send.new.writer,
      subst (Appends (g.W.Write.contents c.args.writer.now) (g.W.Write.contents c.send.new.writer))
          c.set_first.ensures.text c.in-Ok.ensures.ok,
      until st s rows has,
    ))

pub returns-in-Ok-clause-noted : goal.returns-in-Ok-clause-noted
unfolding report_header
returns-in-Ok-clause-noted g c = λ fresh.
    report_noted (g.W.Write.contents c.args.writer.now) (g.W.Write.contents c.send.new.writer)
    (g.W.Write.contents c.run_rows.new.writer) c.set_first.new.self.has_refusal
    c.run_rows.new.line.has_refusal c.run_rows.result
    (subst (Appends (g.W.Write.contents c.args.writer.now) (g.W.Write.contents c.send.new.writer))
    c.set_first.ensures.text c.in-Ok.ensures.ok)
    (c.set_first.ensures.refusal ∙ fresh) c.run_rows.ensures.noted
