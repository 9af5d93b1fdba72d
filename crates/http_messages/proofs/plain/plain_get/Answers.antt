use Rattle.std.proofs.Common.{refl}
use Rattle.http_messages.proofs.PlainLemmas.{get_at}
use Rattle.http_messages.proofs.plain.plain_get.Goals as goal

pub returns-clause-head : goal.returns-clause-head
returns-clause-head c =
    get_at c.args.bytes.now c.in_ok-after.field-0.now c.in_ok-named.named.now
    c.in_ok-caller.more.now c.in_ok-rest.rest.now c.in_ok-caller.caller _ c.in_ok-after.ensures.some
    c.in_ok-named.ensures c.in_ok-caller.ensures c.in_ok-rest.ensures.some refl refl refl refl
