-- Texts that a JSON string quotes without escapes.
use Rattle.std.specs.Prelude.{◌≡◌, ℕ, Bool, true, not, ◌==◌, ◌&&◌, nat_le, List}
use Rattle.std.specs.List.{list_all}
use Rattle.model.specs.Machine.{Answer}
use Rattle.telnp.specs.Answer.{Uri}
use Rattle.api.specs.Step.{IsUri}
use Rattle.json_api.specs.Texts.{looked_up}

-- Whether a byte is printable ASCII, and neither a quote (34) nor a backslash (92).
abbrev pub is_plain : ℕ → Bool
is_plain b = nat_le 32 b && nat_le b 126 && not (b == 34) && not (b == 92)

abbrev pub IsPlain : List ℕ → Type 0
IsPlain text = list_all is_plain text ≡ true

-- Holds if no byte of a URI has to be escaped, whatever the query's answer.
abbrev pub AnswersArePlain : Type 0
AnswersArePlain = (text : List ℕ) (uri : Uri) (answer : Answer) → IsUri text uri
    → IsPlain (looked_up uri answer)
