use Rattle.model.proofs.Routed.{force_is_routed}
use Rattle.model.proofs.Fitting.{broadcasts_fit, downloads_fit}
use Rattle.model.proofs.laws.law_of_routing.Goals as goal

pub returns : goal.returns
returns c = record {
  in_force = force_is_routed;
  broadcasts = broadcasts_fit;
  downloads = downloads_fit;
}
