use Rattle.std.proofs.Common.{inr, arith}
use Rattle.http_messages.proofs.ArrivedLemmas.{begins_with, body_cut, body_missing, body_wanted, whole_at}
use Rattle.http_messages.proofs.arrived.with_head.Goals as goal

pub returns-then-whole-input : goal.returns-then-whole-input
returns-then-whole-input c =
    let at = c.requires.head.2 in
    let begins = begins_with c.requires.head.0 c.args.input.now c.args.head at.head
    c.requires.head.1 at.reads at.len_is at.few in
    whole_at c.args.input.now c.args.head at.head begins c.args.request at.asks at.small
    c.if-whole-input.true

pub returns-then-has_ended : goal.returns-then-has_ended
returns-then-has_ended c =
    let at = c.requires.head.2 in
    let begins = begins_with c.requires.head.0 c.args.input.now c.args.head at.head
    c.requires.head.1 at.reads at.len_is at.few in
    λ more may. body_cut c.args.input.now c.args.head at.head begins c.args.request at.asks
    at.small (omega (arith, c.if-whole-input.false)) more (may c.if-has_ended.true)

pub returns-else-has_ended : goal.returns-else-has_ended
returns-else-has_ended c =
    let at = c.requires.head.2 in
    let begins = begins_with c.requires.head.0 c.args.input.now c.args.head at.head
    c.requires.head.1 at.reads at.len_is at.few in (
      c.if-has_ended.false,
      inr (body_missing c.args.input.now c.args.head at.head begins c.args.request at.asks at.small
          (omega (arith, c.if-whole-input.false))),
      body_wanted c.args.input.now c.args.head at.head begins c.args.request at.asks at.small,
    )
