use Rattle.std.proofs.Common.{[], ◌∷◌, true, false, Some, refl}
use Rattle.std.proofs.lemmas.Slice.Eq.{strip_prefix_is}
use Rattle.std.proofs.lemmas.Bool.Decides.{Decides-eqb}
use Rattle.json.specs.Token.{Token}
use Rattle.json.proofs.Printed.Utf8.{IsUtf8-boolean, IsUtf8-are_ascii}
use Rattle.json_api.proofs.FlatLemmas.{of_flag, of_null, text_then}
use Rattle.json_api.proofs.scan.scalar_at.Goals as goal

pub returns-in_ok-text-in-34 : goal.returns-in_ok-text-in-34
returns-in_ok-text-in-34 c =
    text_then c.args.bytes.now c.in_ok-text-in-34.text c.in_ok-text-in-34.rest.now
    c.in_ok-text-in-34.ensures.utf8 c.in_ok-text-in-34.ensures.text

pub returns-in_ok-strip_prefix-in-116 : goal.returns-in_ok-strip_prefix-in-116
returns-in_ok-strip_prefix-in-116 c =
    let is = strip_prefix_is Decides-eqb c.args.bytes.now (116 ∷ 114 ∷ 117 ∷ 101 ∷ [])
    (Some c.in_ok-strip_prefix-in-116.field-0) c.in_ok-strip_prefix-in-116.ensures.cases in (
      Token.boolean true,
      record { printable = tt; ended = refl; utf8 = IsUtf8-boolean true; is = of_flag true },
      is,
    )

pub returns-in_ok-strip_prefix-in-102 : goal.returns-in_ok-strip_prefix-in-102
returns-in_ok-strip_prefix-in-102 c =
    let is = strip_prefix_is Decides-eqb c.args.bytes.now (102 ∷ 97 ∷ 108 ∷ 115 ∷ 101 ∷ [])
    (Some c.in_ok-strip_prefix-in-102.field-0) c.in_ok-strip_prefix-in-102.ensures.cases in (
      Token.boolean false,
      record { printable = tt; ended = refl; utf8 = IsUtf8-boolean false; is = of_flag false },
      is,
    )

pub returns-in_ok-strip_prefix-in-110 : goal.returns-in_ok-strip_prefix-in-110
returns-in_ok-strip_prefix-in-110 c =
    let is = strip_prefix_is Decides-eqb c.args.bytes.now (110 ∷ 117 ∷ 108 ∷ 108 ∷ [])
    (Some c.in_ok-strip_prefix-in-110.field-0) c.in_ok-strip_prefix-in-110.ensures.cases in (
      Token.null,
      record {
        printable = tt;
        ended = refl;
        utf8 = IsUtf8-are_ascii (110 ∷ 117 ∷ 108 ∷ 108 ∷ []) refl;
        is = of_null;
      },
      is,
    )
