use Rattle.numbers.proofs.SpidLemmas.{utf8_spid}
use Rattle.numbers.proofs.spid.Spid.write.Goals as goal

pub write_bytes-requires : goal.write_bytes-requires
write_bytes-requires c =
    rw c.bytes_of.ensures (utf8_spid c.args.self.now.number c.args.self.now.valid)
