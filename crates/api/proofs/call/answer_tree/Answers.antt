use Rattle.std.proofs.Common.{rules, ◌≡◌, ◌∙◌, ap, inl, inr, refl}
use Rattle.model.specs.declared.refusal.Refusal.TheVariants.{NoMemory}
use Rattle.json_api.specs.declared.fault.Failure.TheVariants.{Refused}
use Rattle.json_api.specs.Failures.{failure_text}
use Rattle.json_api.proofs.RefusalLemmas.{text_by_number}
use Rattle.api.proofs.call.answer_tree.Goals as goal

pub returns-in-Err-clause-calls : goal.returns-in-Err-clause-calls
returns-in-Err-clause-calls g c =
    let is : c.from.result ≡ Refused NoMemory = search rules in
    λ u st s. (st, inl (inr (ap failure_text is ∙ text_by_number NoMemory), refl), s)
