-- The models of tel URIs, parameters and parts of answers.
use Rattle.std.specs.Prelude.{ℕ, List, [], ◌++◌, Option, map, option_map, codes}
use Rattle.std.specs.Borrow.{Bor}
use Rattle.std.specs.Option.{option_map_or}
use Rattle.numbers.specs.Texts.{lrn_text, cic_text}
use Rattle.telnp.specs.Grammar.{Parameter, parameter_of}
use Rattle.telnp.specs.Faults.{parts}
use Rattle.telnp.specs.Answer.{Uri}
use Rattle.telnp.specs.declared.uri.TelUri.{TelUri}
use Rattle.telnp.specs.declared.parameters.Parameters.{Parameters}
use Rattle.telnp.specs.declared.parameter.Parameter.{Parameter as ParameterImpl}
use Rattle.telnp.specs.declared.part.Part.{Part}
use Rattle.telnp.specs.declared.part.Part.TheVariants.{Written, Npdi, RoutingNumber, Carrier}

-- The parameters in an optional text after the first `;`; none if there is no text.
abbrev pub parts_in : Option (Bor (List ℕ)) → List (List ℕ)
parts_in text = option_map_or (λ t. parts 59 t.now) text []

abbrev pub uri_of : TelUri → Uri
uri_of u = record { text = u.text.now; number = u.number.now; parameters = parts_in u.parameters }

abbrev pub parameter_model : ParameterImpl → Parameter
parameter_model p = record {
  name = p.name.now;
  value = option_map (λ (v : Bor (List ℕ)). v.now) p.value;
}

-- The parameters that an iterator has not yet returned.
abbrev pub parameters_left : Parameters → List Parameter
parameters_left s = map parameter_of (parts_in s.rest)

-- The text of a parameter of an answer.
abbrev pub part_text : Part → List ℕ
part_text (Written text) = text.now
part_text Npdi = codes "npdi"
part_text (RoutingNumber lrn) = codes "rn=+1" ++ lrn_text lrn.number
part_text (Carrier cic) = codes "cic=+1" ++ cic_text cic.number

abbrev pub part_texts : List Part → List (List ℕ)
part_texts = map part_text
