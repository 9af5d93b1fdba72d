use Rattle.std.proofs.Common.{[], ◌∷◌, inr, string_bytes}
use Rattle.bulk.specs.Report.{CommandTask}
use Rattle.bulk.proofs.Noted.{one_noted}
use Rattle.bulk.proofs.Runs.{one_sent, short_stop}
use Rattle.bulk.proofs.Until.{until_none}
use Rattle.bulk.proofs.running.run_number.Goals as goal

pub returns-in-Ok-clause-runs : goal.returns-in-Ok-clause-runs
returns-in-Ok-clause-runs g c = λ u st s.
    let made = c.in-Ok.ensures.executed u st s in
    one_sent st (CommandTask c.args.row c.args.request.now.caller.number c.args.tn.number
    c.args.request.now.operation) _ _ _ c.args.count (string_bytes c.execute.new.line.text)
    c.send_line.result
    made.0 made.1 c.send_line.ensures

pub returns-in-Ok-clause-noted : goal.returns-in-Ok-clause-noted
returns-in-Ok-clause-noted g c =
    one_noted _ _ (string_bytes c.execute.new.line.text) _ _ c.args.count c.send_line.result
    c.in-Ok.ensures.noted c.send_line.ensures

pub returns-in-Err-clause-runs : goal.returns-in-Err-clause-runs
returns-in-Err-clause-runs g c = λ u st s.
    short_stop c.in-Err.kind st (CommandTask c.args.row c.args.request.now.caller.number
    c.args.tn.number
    c.args.request.now.operation ∷ []) _ (g.W.Write.contents c.args.writer.now) c.args.count
    c.in-Err.ensures.unavailable (c.in-Err.ensures.kept u st s)

pub returns-in-Err-clause-until : goal.returns-in-Err-clause-until
returns-in-Err-clause-until g c = λ usable honest.
    inr (λ st s. until_none st (CommandTask c.args.row c.args.request.now.caller.number
    c.args.tn.number c.args.request.now.operation ∷ []) (g.W.Write.contents c.args.writer.now)
    (record { kind = c.in-Err.kind; rows = c.args.count }) c.in-Err.ensures.unavailable)
