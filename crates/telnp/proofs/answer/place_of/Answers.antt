use Rattle.std.proofs.Common.{Bool, arith}
use Rattle.telnp.specs.Answer.{goes_before}
use Rattle.telnp.specs.Abstraction.{part_text}
use Rattle.telnp.specs.declared.part.Part.{Part}
use Rattle.telnp.proofs.Places.{place_found, place_none, place-le}
use Rattle.telnp.proofs.answer.place_of.Goals as goal

pub returns-in-Some : goal.returns-in-Some
returns-in-Some c =
    let P : Part → Bool = λ q. goes_before (part_text c.args.part.now) (part_text q) in
    let e = place_found P c.args.sorted.now c.in-Some.place c.in-Some.ensures in
    let small = place-le P c.args.sorted.now in
    record { place = e; within = omega (arith, e, small) }

pub returns-in-None : goal.returns-in-None
returns-in-None c =
    let P : Part → Bool = λ q. goes_before (part_text c.args.part.now) (part_text q) in
    record { place = place_none P c.args.sorted.now c.in-None.ensures; within = omega arith }
