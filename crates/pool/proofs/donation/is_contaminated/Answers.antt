use Rattle.std.proofs.Common.{ℕ, ◌+◌, length, ap, sym, ◌∙◌}
use Rattle.std.specs.Prelude.{nat_lt}
use Rattle.std.specs.BTreeSet.{keys}
use Rattle.pool.proofs.InUse.{length-contaminated}
use Rattle.pool.proofs.donation.is_contaminated.Goals as goal

pub returns : goal.returns
returns c =
    c.are_too_many.ensures ∙ ap (λ (n : ℕ). nat_lt 100 (n + c.count_unnamed.result))
    c.len.ensures.len
    ∙ ap (λ (n : ℕ). nat_lt 100 (length (keys c.args.used.now) + n)) c.count_unnamed.ensures
    ∙ ap (nat_lt 100) (sym (length-contaminated c.args.used.now c.args.facts.now.numbers.now))
