use Rattle.std.proofs.Common.{◌≡◌, drop}
use Rattle.std.specs.List.{list_all}
use Rattle.json_api.specs.declared.flat.Member.{Member}
use Rattle.json_api.specs.Flat.{is_among}
use Rattle.json_api.proofs.flat.are_known.Given as goal

-- The members left decide.
abbrev pub invariant-members : goal.invariant-members
invariant-members l =
    list_all (λ (m : Member). is_among l.allowed m.key.now) (drop l.member-index l.members)
    ≡ list_all (λ (m : Member). is_among l.allowed m.key.now) l.members
