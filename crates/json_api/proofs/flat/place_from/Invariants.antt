use Rattle.std.proofs.Common.{length, ◌-◌}
use Rattle.json_api.proofs.flat.place_from.Given as goal

abbrev pub decreases-keys : goal.decreases-keys
decreases-keys l = length l.keys - l.place
