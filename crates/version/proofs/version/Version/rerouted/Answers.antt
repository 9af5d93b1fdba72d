use Rattle.std.proofs.Common.{Some, ap}
use Rattle.numbers.specs.Abstraction.{routing_of}
use Rattle.model.specs.Versions.{Version}
use Rattle.version.proofs.version.Version.rerouted.Goals as goal

pub returns : goal.returns
returns c = record {
  subject = c.with_status.ensures.subject;
  version = λ id broadcasts windows. ap (λ (x : Version). let y : Version =
      record x { routing = Some (routing_of c.args.routing) } in
      y) (c.with_status.ensures.version id broadcasts windows);
}
