use Rattle.std.proofs.Common.{◌≡◌, ℕ, List, Bor, map}
use Rattle.telnp.specs.Answer.{all_placed, kept}
use Rattle.telnp.specs.Abstraction.{part_texts}
use Rattle.telnp.proofs.answer.place_kept.Given as goal

abbrev pub invariant-loop-part : goal.invariant-loop-part
invariant-loop-part l = part_texts l.sorted.items ≡ all_placed (part_texts l.fn.sorted.items)
    (kept (map (λ (q : Bor (List ℕ)). q.now) l.yielded))
