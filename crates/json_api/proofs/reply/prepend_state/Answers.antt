use Rattle.std.proofs.Common.{append_assoc}
use Rattle.json_api.proofs.reply.prepend_state.Goals as goal

pub returns-clause-text : goal.returns-clause-text
returns-clause-text c =
    simp (
      c.prepend-3.ensures.text,
      c.prepend_status.ensures.text,
      c.prepend-2.ensures.text,
      c.prepend_subject.ensures.text,
      c.prepend.ensures.text,
      append_assoc,
    )
