-- The parameters that an answer adds to a text without parameters.
use Rattle.std.proofs.Common.{◌≡◌, ℕ, [], ◌++◌, Option, Some, None, codes, append_assoc, append-nil}
use Rattle.numbers.specs.Texts.{lrn_text}
use Rattle.telnp.specs.Answer.{added_carrier, answer_parameters}
use Rattle.telnp.specs.Uri.{written}

pub added_alone : (lrn : ℕ) (cic : Option ℕ)
    → written (answer_parameters [] (Some (record { lrn = lrn; cic = cic })))
    ≡ written (added_carrier [] cic) ++ (codes ";npdi;rn=+1" ++ lrn_text lrn)
added_alone lrn None = simp (append_assoc, append-nil)
added_alone lrn (Some code) = simp (append_assoc, append-nil)
