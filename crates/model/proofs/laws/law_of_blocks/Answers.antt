use Rattle.model.proofs.Protected.{no_port_under_block}
use Rattle.model.proofs.Service.{donation_keeps, assignment_keeps, release_keeps}
use Rattle.model.proofs.laws.law_of_blocks.Goals as goal

pub returns : goal.returns
returns c = record {
  donation = donation_keeps;
  assignment = assignment_keeps;
  release = release_keeps;
  port = no_port_under_block;
}
