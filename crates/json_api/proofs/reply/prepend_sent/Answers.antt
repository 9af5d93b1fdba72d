use Rattle.std.proofs.Common.{append_assoc}
use Rattle.json_api.proofs.reply.prepend_sent.Goals as goal

pub returns-clause-text : goal.returns-clause-text
returns-clause-text c =
    simp (
      c.prepend-4.ensures.text,
      c.prepend_action.ensures.text,
      c.prepend-3.ensures.text,
      c.prepend_number-2.ensures.text,
      c.prepend-2.ensures.text,
      c.prepend_cic_or_null.ensures.text,
      c.cic_of.ensures,
      c.prepend.ensures.text,
      c.prepend_number.ensures.text,
      append_assoc,
    )
