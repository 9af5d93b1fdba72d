use Rattle.std.proofs.Common.{refl, arith}
use Rattle.http_messages.proofs.PlainLemmas.{post_at}
use Rattle.http_messages.proofs.plain.post_from.Goals as goal

pub returns-clause-head : goal.returns-clause-head
returns-clause-head c =
    post_at c.args.bytes.now c.requires.0 c.args.named.now c.in_ok-caller.more.now
    c.in_ok-size.rest.now c.in_ok-caller.caller c.in_ok-size.size _ c.requires.1 c.requires.2
    c.in_ok-caller.ensures c.in_ok-size.ensures (omega (arith, c.if-size-gt-BODY_LIMIT.false)) refl
    refl refl refl
