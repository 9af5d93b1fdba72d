-- The number of the refusal in a result, if it is one.
use Rattle.std.specs.Prelude.{ℕ, Option, Some, None}
use Rattle.std.specs.Prelude.{Result, Ok, Err}
use Rattle.model.specs.declared.refusal.Refusal.{Refusal}
use Rattle.model.specs.RefusalNumbers.{number_of}

abbrev pub refusal_in : {A : Type 0} → Result A Refusal → Option ℕ
refusal_in (Ok value) = None
refusal_in (Err refusal) = Some (number_of refusal)
