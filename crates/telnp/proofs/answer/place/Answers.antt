use Rattle.std.proofs.Common.{◌≡◌, true, rules}
use Rattle.std.specs.Result.{is_ok}
use Rattle.telnp.proofs.Places.{placed_at}
use Rattle.telnp.proofs.answer.place.Goals as goal

pub returns : goal.returns
returns c =
    let good : is_ok c.insert.result ≡ true = search rules in
    let items = rw good at c.insert.ensures.items in
    rw (items, c.place_of-place.ensures.place, c.as_slice.ensures.value)
    (placed_at c.args.part c.args.sorted.now.items)
