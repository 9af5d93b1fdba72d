use Rattle.std.proofs.Common.{rules, ◌≡◌, ◌<◌, true, refl, ap, ◌∙◌, arith, length, get_or}
use Rattle.std.specs.List.{list_all}
use Rattle.std.specs.Char.{is_ascii_digit}
use Rattle.json.specs.Token.{Token}
use Rattle.json_api.proofs.DigitLemmas.{plain_number}
use Rattle.json_api.proofs.FlatLemmas.{of_number}
use Rattle.json_api.proofs.ScanLemmas.{digits_number, digits_utf8, said_some}
use Rattle.json_api.proofs.scan.whole_at.Goals as goal
use Rattle.json_api.proofs.scan.whole_at.Goals.{else-digits-gt1-via-then-digits-gt1+else-digits-eq48, else-digits-gt1-via-else-digits-gt1}

pub returns : goal.returns
returns c =
    let digits = c.split_at.result.0.now in
    let n = c.in_ok-read_number.field-0 in
    let all : list_all is_ascii_digit digits ≡ true =
    ap (list_all is_ascii_digit) c.split_at.ensures.front ∙ c.digits_len.ensures.digits in
    let said = c.in_ok-read_number.ensures in
    let no_zero : 1 < length digits → get_or digits 0 0 ≡ 48 → ⊥ =
    λ more zero. elim c.else-digits-gt1.branch [
      | else-digits-gt1-via-then-digits-gt1+else-digits-eq48 w ↦ w.if-digits-eq48.false zero
      | else-digits-gt1-via-else-digits-gt1 w ↦ omega (arith, more, w.if-digits-gt1.false)
    ] in (
      Token.number digits,
      record {
        printable = digits_number digits all (said_some digits n (search rules)) no_zero;
        ended = refl;
        utf8 = digits_utf8 digits all;
        is = of_number digits n (plain_number digits n (search rules));
      },
      c.split_at.ensures.by_index.0,
    )
