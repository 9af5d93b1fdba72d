use Rattle.std.proofs.Common.{append_assoc}
use Rattle.json_api.proofs.reply.prepend_placed.Goals as goal

pub returns-clause-text : goal.returns-clause-text
returns-clause-text c =
    simp (
      c.prepend-4.ensures.text,
      c.prepend_lrn_or_null.ensures.text,
      c.lrn_of.ensures,
      c.prepend-3.ensures.text,
      c.prepend_minute.ensures.text,
      c.prepend-2.ensures.text,
      c.prepend_subject.ensures.text,
      c.prepend.ensures.text,
      append_assoc,
    )
