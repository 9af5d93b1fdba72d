use Rattle.model.proofs.Minutes.{judged-trans}
use Rattle.model.proofs.Settling.{fired_at_deadline}
use Rattle.model.proofs.Represented.{empty-represents}
use Rattle.model.proofs.laws.laws_of_minutes.Goals as goal

pub returns : goal.returns
returns c = record {
  compose = judged-trans;
  deadline = fired_at_deadline;
  first = empty-represents;
}
