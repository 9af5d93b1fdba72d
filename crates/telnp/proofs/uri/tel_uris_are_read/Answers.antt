use Rattle.telnp.proofs.Only.{read_from_uri}
use Rattle.telnp.proofs.uri.tel_uris_are_read.Goals as goal

pub returns : goal.returns
returns c = read_from_uri
