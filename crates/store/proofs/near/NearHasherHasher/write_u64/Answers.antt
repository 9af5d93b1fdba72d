use Rattle.std.proofs.Common.{ap, sym}
use Rattle.std.proofs.lemmas.Nat.{from_le_bytes-to_le_bytes_8}
use Rattle.std.specs.Hash.{le_bytes}
use Rattle.store.specs.declared.near.NearHasher.{NearHasher}
use Rattle.store.proofs.near.NearHasherHasher.write_u64.Goals as goal

pub returns : goal.returns
unfolding le_bytes
returns c = ap (λ n. let h : NearHasher = record { number = n } in h)
    (sym (from_le_bytes-to_le_bytes_8 c.args.number c.ranges.number.fits))
