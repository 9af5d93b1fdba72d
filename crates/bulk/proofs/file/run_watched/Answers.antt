use Rattle.std.proofs.Common.{Err}
use Rattle.bulk.specs.Rows.{HasRows}
use Rattle.bulk.specs.Running.{RunsFile, RunsFileUntil}
use Rattle.bulk.proofs.Exists.{rows_of_text}
use Rattle.bulk.proofs.Filed.{known, file_run, file_until, nothing_run, why_not}
use Rattle.bulk.proofs.Until.{or_then}
use Rattle.bulk.proofs.file.run_watched.Goals as goal

pub returns-in-Ok-read_header-clause-runs : goal.returns-in-Ok-read_header-clause-runs
returns-in-Ok-read_header-clause-runs g c = λ u st s.
    known (g.R.Read.remaining c.args.reader)
    (λ bytes. RunsFile st bytes (g.S.StoreModel.content c.report_rows-ran.new.register.store)
    (g.W.Write.contents c.args.writer.now) (g.W.Write.contents c.report_rows-ran.new.writer)
    c.report_rows-ran.result)
    (λ bytes e.
    let (rows, are) = rows_of_text bytes in
    let at = c.in-Ok-read_header.ensures.header rows (c.open-reader.ensures.rows bytes rows e
    are) in
    file_run st bytes _ _ _ c.report_rows-ran.result rows at.0 are at.1
    (c.report_rows-ran.ensures.reports u st s at.0 at.2))

pub returns-clause-runs : goal.returns-clause-runs
returns-clause-runs g c = λ u st s.
    known (g.R.Read.remaining c.args.reader)
    (λ bytes. RunsFile st bytes (g.S.StoreModel.content c.args.register.now.store)
    (g.W.Write.contents c.args.writer.now) (g.W.Write.contents c.args.writer.now)
    (Err c.at_start-in-Err-read_header.result))
    (λ bytes e.
    let (rows, are) = rows_of_text bytes in
    nothing_run st bytes (g.S.StoreModel.content c.args.register.now.store)
    (g.W.Write.contents c.args.writer.now) c.at_start-in-Err-read_header.result
    c.at_start-in-Err-read_header.ensures.rows s
    (why_not c.in-Err-read_header.kind c.at_start-in-Err-read_header.result.kind bytes rows are
    (HasRows g.R.Read.remaining c.open-reader.result) (c.open-reader.ensures.rows bytes rows e are)
    c.at_start-in-Err-read_header.ensures.kind c.in-Err-read_header.ensures.other))

pub returns-in-Ok-read_header-clause-until : goal.returns-in-Ok-read_header-clause-until
returns-in-Ok-read_header-clause-until g c = λ usable honest.
    or_then (c.report_rows-ran.ensures.until usable honest) (λ until st s.
    known (g.R.Read.remaining c.args.reader)
    (λ bytes. RunsFileUntil st bytes (g.W.Write.contents c.args.writer.now)
    (g.W.Write.contents c.report_rows-ran.new.writer) c.report_rows-ran.result)
    (λ bytes e.
    let (rows, are) = rows_of_text bytes in
    let at = c.in-Ok-read_header.ensures.header rows (c.open-reader.ensures.rows bytes rows e
    are) in
    file_until st bytes _ _ c.report_rows-ran.result rows at.0 are at.1 (until st s at.0 at.2)))
