use Rattle.std.proofs.Common.{append_assoc}
use Rattle.json_api.specs.Texts.{downloads_text}
use Rattle.json_api.proofs.reply.put_downloads.Goals as goal

pub returns-clause-bytes : goal.returns-clause-bytes
unfolding downloads_text
returns-clause-bytes c = simp (
  c.put-2.ensures.bytes,
  c.put_download_list.ensures.bytes,
  c.put.ensures.bytes,
  append_assoc,
)
