use Rattle.std.proofs.Common.{◌+◌, ◌/◌, ◌%◌, ◌-◌, ◌≤◌, ◌++◌, ◌∙◌, List, ℕ, length, length-set, drop, set, ap, arith}
use Rattle.numbers.specs.Texts.{digits_of}
use Rattle.numbers.proofs.DigitLemmas.{digits_of-written}
use Rattle.numbers.proofs.PairLemmas.{two_placed, four_placed, last_placed}
use Rattle.numbers.proofs.digits.last_digits.Goals as goal

pub fours-preserved : goal.fours-preserved
fours-preserved g c =
    let digits = c.fours.digits in
    let place = c.fours.place in
    let left = c.fours.left in
    let one : List ℕ = set digits (place - 1) c.pair-lower.result.1 in
    let two : List ℕ = set one (place - 2) c.pair-lower.result.0 in
    let three : List ℕ = set two (place - 3) c.pair-upper.result.1 in
    let within : place ≤ length digits = omega (arith, c.fours.invariant.0, c.fours.invariant.1) in (
      omega (arith, c.fours.invariant.0),
      length-set three (place - 4) c.pair-upper.result.0 ∙ length-set two (place - 3)
          c.pair-upper.result.1 ∙ length-set one (place - 2) c.pair-lower.result.0
          ∙ length-set digits (place - 1) c.pair-lower.result.1 ∙ c.fours.invariant.1,
      ap (λ p. digits_of (place - 4) (left / 10000) ++ drop (place - 4)
          (set (set two (place - 3) p.1) (place - 4) p.0)) c.pair-upper.ensures
          ∙ ap (λ p. digits_of (place - 4) (left / 10000) ++ drop (place - 4)
          (set (set (set (set digits (place - 1) p.1) (place - 2) p.0) (place - 3)
          (48 + left % 10000 / 100 % 10)) (place - 4) (48 + left % 10000 / 100 / 10)))
          c.pair-lower.ensures
          ∙ four_placed digits place left c.fours-test.true within
          ∙ c.fours.invariant.2,
    )

pub pairs-preserved : goal.pairs-preserved
pairs-preserved g c =
    let digits = c.pairs.digits in
    let place = c.pairs.place in
    let left = c.pairs.left in
    let within : place ≤ length digits = omega (arith, c.pairs.invariant.0, c.pairs.invariant.1) in (
      omega (arith, c.pairs.invariant.0),
      length-set (set digits (place - 1) c.pair-tens.result.1) (place - 2) c.pair-tens.result.0
          ∙ length-set digits (place - 1) c.pair-tens.result.1 ∙ c.pairs.invariant.1,
      ap (λ p. digits_of (place - 2) (left / 100) ++ drop (place - 2)
          (set (set digits (place - 1) p.1) (place - 2) p.0)) c.pair-tens.ensures
          ∙ two_placed digits place left c.pairs-test.true within
          ∙ c.pairs.invariant.2,
    )

pub returns-then-place-gt0 : goal.returns-then-place-gt0
returns-then-place-gt0 g c =
    last_placed c.pairs.digits c.pairs.place c.pairs.left g.row.N c.args.number c.if-place-gt0.true
    (omega (arith, c.pairs-test.false)) (omega (arith, c.pairs.invariant.0, c.pairs.invariant.1))
    c.pairs.invariant.2

pub returns-else-place-gt0 : goal.returns-else-place-gt0
returns-else-place-gt0 g c =
    digits_of-written c.pairs.digits c.pairs.place c.pairs.left g.row.N c.args.number
    (omega (arith, c.if-place-gt0.false)) c.pairs.invariant.2
