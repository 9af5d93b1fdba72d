-- Tel URIs that are written plainly.
use Rattle.std.specs.Prelude.{◌≡◌, ℕ, true, List, [], ◌++◌, length, codes}
use Rattle.std.specs.List.{list_all}
use Rattle.telnp.specs.Answer.{Uri}
use Rattle.telnp.specs.Bytes.{is_digit}

-- Holds if the text is `tel:+1` and ten digits, and this its URI.
pub record IsPlain (text : List ℕ) (uri : Uri) : Type 0 where
  pub digits : List ℕ
  pub text_is : text ≡ codes "tel:+1" ++ digits
  pub ten : length digits ≡ 10
  pub digits_are : list_all is_digit digits ≡ true
  pub uri_is : uri ≡ record { text = text; number = codes "+1" ++ digits; parameters = [] }
