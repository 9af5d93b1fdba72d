use Rattle.std.proofs.Common.{take}
use Rattle.http_messages.proofs.ArrivedLemmas.{begins_with, head_refused, is_start, overflow_arrived}
use Rattle.http_messages.proofs.arrived.next_arrived.Goals as goal

pub returns-in-Bad-clause-arrived : goal.returns-in-Bad-clause-arrived
returns-in-Bad-clause-arrived c =
    overflow_arrived c.args.input.now (take c.min.result c.args.input.now)
    (is_start c.min.result c.args.input.now c.min.ensures) c.args.has_ended c.in-Bad.ensures

pub returns-in-More-clause-arrived : goal.returns-in-More-clause-arrived
returns-in-More-clause-arrived c =
    c.without_head.ensures c.args.input.now
    (is_start c.min.result c.args.input.now c.min.ensures) c.in-More.ensures

pub returns-in-Err-clause-arrived : goal.returns-in-Err-clause-arrived
returns-in-Err-clause-arrived c =
    let at = c.in-Head.ensures.1 in
    let begins = begins_with c.min.result c.args.input.now c.in-Head.spans.len at.0 c.min.ensures
    at.1.reads at.1.len at.2 in
    λ more may. head_refused c.args.input.now c.in-Head.spans.len at.0 begins c.in-Err.fault
    (c.in-Err.ensures.refuses at.0 at.1) more
