-- A query's URI has at most one reading and one number.
use Rattle.std.proofs.Common.{◌≡◌, ℕ, List, ◌∷◌, Some, None, option_map, true, false, inl, inr, sym, ◌∙◌}
use Rattle.numbers.specs.Texts.{tn_text}
use Rattle.numbers.proofs.DigitLemmas.{digits_of-injective}
use Rattle.telnp.specs.declared.fault.TelFault.{TelFault}
use Rattle.telnp.specs.Answer.{Uri}
use Rattle.telnp.specs.Faults.{IsRead, fault_of, number_of, parameter_parts, rest_of}
use Rattle.telnp.proofs.Only.{read_from_uri}
use Rattle.api.specs.Step.{AsksFor, IsReturnedAsIs, IsUri}
use Rattle.json_api.proofs.ClearLemmas.{same_said}

is_read : (text : List ℕ) (uri : Uri) → IsUri text uri → IsRead text uri.number uri.parameters
is_read text uri h = read_from_uri text uri.number uri.parameters h.parts

pub faultless : (text : List ℕ) (uri : Uri) (fault : TelFault) → IsUri text uri
    → ¬ (fault_of text ≡ Some fault)
faultless text uri fault h e = let good : fault_of text ≡ None = (is_read text uri h).none_holds in
    cc

pub same_fault : (text : List ℕ) (f g : TelFault) → fault_of text ≡ Some f → fault_of text ≡ Some g
    → f ≡ g
same_fault text f g d e = cc

abbrev with_parts : (text number : List ℕ) (parameters : List (List ℕ)) → Uri
with_parts text number parameters = record { text = text; number = number; parameters = parameters }

alike : (t u m n : List ℕ) (p q : List (List ℕ)) → t ≡ u → m ≡ n → p ≡ q
    → with_parts t m p ≡ with_parts u n q
alike t u m n p q d e f = cc

pub same_uri : (text : List ℕ) (a b : Uri) → IsUri text a → IsUri text b → a ≡ b
same_uri text a b h k =
    alike a.text b.text a.number b.number a.parameters b.parameters (h.same ∙ sym k.same)
    (same_said (option_map number_of (rest_of text)) a.number b.number (is_read text a h).number_is
    (is_read text b k).number_is)
    (same_said (option_map parameter_parts (rest_of text)) a.parameters b.parameters
    (is_read text a h).parameters_are (is_read text b k).parameters_are)

pub same_number : (uri : Uri) (m n : ℕ) → AsksFor uri m → AsksFor uri n → m ≡ n
same_number uri m n h k =
    digits_of-injective 10 m n h.valid.0 k.valid.0 (behind_one (tn_text m) (tn_text n) (sym h.digits
    ∙ k.digits))
  where
    behind_one : (xs ys : List ℕ) → 49 ∷ xs ≡ 49 ∷ ys → xs ≡ ys
    behind_one xs ys e = cc

pub not_asked : (uri : Uri) (tn : ℕ) → IsReturnedAsIs uri → ¬ (AsksFor uri tn)
not_asked uri tn (inl looked_up) asks = let e : true ≡ false = sym looked_up ∙ asks.new in cc
not_asked uri tn (inr other) asks = other tn asks.valid asks.digits
