use Rattle.std.proofs.Common.{◌≡◌, ◌≤◌, length}
use Rattle.std.specs.Prelude.{take}
use Rattle.serde_json.specs.Data.{no_members}
use Rattle.serde_json.specs.Find.{get_member}
use Rattle.json_api.specs.Flat.{members_upon}
use Rattle.json_api.proofs.flat.Flat.get.Given as goal

-- The members passed have other keys.
abbrev pub invariant-members : goal.invariant-members
invariant-members l =
    (l.left ≤ length l.self.members.items)
    × (get_member l.key (members_upon no_members (take l.left l.self.members.items))
    ≡ get_member l.key (members_upon no_members l.self.members.items))

abbrev pub decreases-members : goal.decreases-members
decreases-members l = l.left
