use Rattle.std.proofs.Common.{codes, subst}
use Rattle.std.specs.Prelude.{ℕ, List}
use Rattle.json_api.specs.Plain.{IsValueAfter}
use Rattle.json_api.specs.declared.flat.Scalar.TheVariants.{Text}
use Rattle.json_api.proofs.plain.port_texts.Goals as goal

pub returns : goal.returns
returns c = (
  c.in_ok-new.rest.now,
  c.in_ok-old.rest.now,
  c.in_ok-new.ensures,
  c.in_ok-old.ensures,
  subst (λ (rest : List ℕ). IsValueAfter c.in_ok-old.rest.now (codes ",\"tn\":")
      (Text c.in_ok-tn.tn) rest) (c.is_end.ensures c.if-not-is_end.false) c.in_ok-tn.ensures,
)
