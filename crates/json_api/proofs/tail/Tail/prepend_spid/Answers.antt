use Rattle.std.proofs.Common.{◌≡◌, rules}
use Rattle.numbers.specs.Texts.{spid_text}
use Rattle.numbers.proofs.SpidLemmas.{utf8_spid}
use Rattle.json_api.proofs.tail.Tail.prepend_spid.Goals as goal

pub prepend_bytes-requires : goal.prepend_bytes-requires
prepend_bytes-requires g c =
    let is : c.to_be_bytes.result ≡ spid_text c.args.spid.number = search rules in
    rw is (search rules, (c.requires, utf8_spid c.args.spid.number c.args.spid.valid))
