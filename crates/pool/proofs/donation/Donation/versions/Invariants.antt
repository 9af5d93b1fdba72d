use Rattle.std.proofs.Common.{◌≡◌, ◌+◌, map, take}
use Rattle.pool.specs.Donations.{AreProtective, tn_subject}
use Rattle.pool.proofs.donation.Donation.versions.Given as goal
use Rattle.version.specs.Abstraction.{set_of}

-- There is a version for each number passed.
abbrev pub invariant-loop-tn : goal.invariant-loop-tn
invariant-loop-tn l = record {
  next : l.id ≡ l.first_id + l.tn-index;
  made : AreProtective (set_of l.present) l.donor.number l.minute.number l.self l.first_id
      (map tn_subject (take l.tn-index l.numbers)) l.versions.items;
}
