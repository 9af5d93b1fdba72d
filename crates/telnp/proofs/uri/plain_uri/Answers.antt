use Rattle.std.proofs.Common.{ℕ, List, [], ◌++◌, codes, drop, Some, sym, ap, ◌∙◌, arith}
use Rattle.std.proofs.lemmas.Bool.Decides.{Decides-eqb}
use Rattle.std.proofs.lemmas.Slice.Eq.{strip_prefix_is}
use Rattle.telnp.specs.Answer.{Uri}
use Rattle.telnp.proofs.uri.plain_uri.Goals as goal

pub returns : goal.returns
returns c =
    let begins = sym c.as_bytes.ensures.value
    ∙ strip_prefix_is Decides-eqb c.as_bytes.result.now (codes "tel:+1")
    (Some c.in_ok-digits.digits) c.in_ok-digits.ensures.cases in
    record {
      digits = c.in_ok-digits.digits.now;
      text_is = begins;
      ten = grind (arith, c.if-digits-ne10.false);
      digits_are = sym c.are_digits.ensures ∙ c.if-not-are_digits.false;
      uri_is = ap (λ (n : List ℕ). record { text = c.args.text.now; number = n; parameters = [] })
          (c.in_ok-number.ensures.back ∙ ap (drop 4) begins);
    }
