use Rattle.std.proofs.Common.{◌≡◌, ◌++◌, ◌+◌, ◌*◌, ◌≤◌, codes, take, string_bytes, string_len, string_capacity}
use Rattle.std.specs.List.{flat_map}
use Rattle.json_api.proofs.list.put_rest.Given as goal

abbrev pub invariant-loop-item : goal.invariant-loop-item
invariant-loop-item g l =
    (string_bytes l.out ≡ string_bytes l.fn.out ++ flat_map (λ i. codes "," ++ g.T.Item.text i)
    (take l.item-index l.items))
    × (string_len l.out ≤ string_len l.fn.out + l.item-index * (g.T.Item.max_len + 1))
    × (string_capacity l.fn.out ≤ string_capacity l.out)
