use Rattle.std.proofs.Common.{arith, sym, subst}
use Rattle.http_messages.specs.Arrived.{HasArrived}
use Rattle.http_messages.specs.declared.arrived.Arrived.TheVariants.{Nothing, Refused}
use Rattle.http_messages.specs.declared.fault.MessageFault.TheVariants.{BadHead}
use Rattle.http_messages.proofs.ArrivedLemmas.{full_arrived, nothing_arrived, ended_arrived}
use Rattle.http_messages.proofs.arrived.without_head.Goals as goal

pub returns-then-start-eq-HEAD_LIMIT : goal.returns-then-start-eq-HEAD_LIMIT
returns-then-start-eq-HEAD_LIMIT c = λ input is none.
    full_arrived input c.args.start.now is c.args.has_ended c.if-start-eq-HEAD_LIMIT.true none

pub returns-then-are_empty_lines : goal.returns-then-are_empty_lines
returns-then-are_empty_lines c = λ input is none.
    subst (λ b. HasArrived input b Nothing) (sym c.if-not-has_ended.false)
    (nothing_arrived input c.args.start.now is
    (omega (arith, is.most, c.if-start-eq-HEAD_LIMIT.false))
    (sym c.if-are_empty_lines.ensures))

pub returns-else-are_empty_lines : goal.returns-else-are_empty_lines
returns-else-are_empty_lines c = λ input is none.
    subst (λ b. HasArrived input b (Refused BadHead)) (sym c.if-not-has_ended.false)
    (ended_arrived input c.args.start.now is
    (omega (arith, is.most, c.if-start-eq-HEAD_LIMIT.false)) none
    (sym c.if-are_empty_lines.ensures))
