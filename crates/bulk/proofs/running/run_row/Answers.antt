use Rattle.std.proofs.Common.{Some, None, inl, string_bytes}
use Rattle.bulk.specs.Report.{Bad}
use Rattle.bulk.proofs.Noted.{bad_noted, one_noted}
use Rattle.bulk.proofs.Runs.{one_sent}
use Rattle.bulk.proofs.running.run_row.Goals as goal

pub returns-in-Some-clause-runs : goal.returns-in-Some-clause-runs
returns-in-Some-clause-runs g c = (
  Some c.in-Some.request,
  c.in-Some.ensures,
  c.run_request.ensures.runs,
  c.run_request.ensures.until,
)

pub returns-in-None-clause-runs : goal.returns-in-None-clause-runs
returns-in-None-clause-runs g c = (
  None,
  c.in-None.ensures,
  λ u st s. one_sent st (Bad c.args.row) _ _ _ c.args.count (string_bytes c.set_bad.new.self.text)
      c.send_line.result c.set_bad.ensures.text s c.send_line.ensures,
  λ usable honest. inl usable,
)

pub returns-in-None-clause-noted : goal.returns-in-None-clause-noted
returns-in-None-clause-noted g c =
    one_noted _ _ (string_bytes c.set_bad.new.self.text) _ _ c.args.count c.send_line.result
    (bad_noted _ c.args.row _ _ c.set_bad.ensures.text c.set_bad.ensures.refusal)
    c.send_line.ensures
