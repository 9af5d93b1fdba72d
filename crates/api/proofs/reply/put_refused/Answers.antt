use Rattle.json_api.proofs.WholeRefusals.{no_bytes, refusal_is}
use Rattle.api.proofs.reply.put_refused.Goals as goal

pub returns-clause-text : goal.returns-clause-text
returns-clause-text c =
    refusal_is c.args.failure _ _ _ _ _ (no_bytes c.clear.new.self.text c.clear.ensures.empty.text)
    (no_bytes c.clear.new.self.body c.clear.ensures.empty.body)
    c.status.ensures.value c.put_failure.ensures.bytes c.finish.ensures.text
