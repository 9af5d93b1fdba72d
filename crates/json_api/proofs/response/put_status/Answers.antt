use Rattle.std.proofs.Common.{append_assoc}
use Rattle.json_api.proofs.response.put_status.Goals as goal

pub returns-clause-bytes : goal.returns-clause-bytes
returns-clause-bytes c =
    simp (
      c.put-5.ensures.bytes,
      c.put-4.ensures.bytes,
      c.put-3.ensures.bytes,
      c.put-2.ensures.bytes,
      c.put.ensures.bytes,
      c.as_str.ensures,
      c.phrase_of.ensures.text,
      append_assoc,
    )
