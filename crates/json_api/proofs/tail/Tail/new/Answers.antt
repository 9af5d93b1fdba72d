use Rattle.std.proofs.Common.{◌≡◌, ℕ, List, length, arith, replicate}
use Rattle.std.proofs.lemmas.List.{drop_all, length-replicate}
use Rattle.std.proofs.lemmas.Str.{is_utf8-from_IsUtf8, IsUtf8-nil}
use Rattle.json_api.proofs.tail.Tail.new.Goals as goal

pub invariant_of-result : goal.invariant_of-result
invariant_of-result g c =
    let zeros : List ℕ = replicate g.row.N 0 in
    let size : length zeros ≡ g.row.N = length-replicate g.row.N _ in (
      omega arith,
      rw (drop_all g.row.N zeros (omega (arith, size))) (is_utf8-from_IsUtf8 _ IsUtf8-nil),
    )
