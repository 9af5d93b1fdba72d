use Rattle.std.proofs.Common.{◌++◌, ℕ, List, codes, ap, ◌∙◌}
use Rattle.http_messages.proofs.plain.length_and_end.Goals as goal

pub returns : goal.returns
returns c =
    let size = c.in_ok-size.ensures in
    record {
      digits = size.digits;
      all = c.in_ok-after.ensures.some
          ∙ ap (λ (t : List ℕ). codes "\r\ncontent-length: " ++ t)
          (size.all ∙ ap (λ (t : List ℕ). size.digits ++ t) c.in_ok-rest.ensures.some);
      number = size.number;
    }
