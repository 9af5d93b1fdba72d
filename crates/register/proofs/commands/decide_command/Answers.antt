use Rattle.settle.proofs.ReadOn.{reads_saying}
use Rattle.register.proofs.EveryCall.Unfailing.{stored}
use Rattle.register.proofs.commands.decide_command.Goals as goal

pub returns-in-RegisterCarrier-clause-read_only : goal.returns-in-RegisterCarrier-clause-read_only
returns-in-RegisterCarrier-clause-read_only g c =
    reads_saying c.register_carrier.ensures.read_only stored

pub returns-in-RegisterRoutingNumber-clause-read_only :
    goal.returns-in-RegisterRoutingNumber-clause-read_only
returns-in-RegisterRoutingNumber-clause-read_only g c = reads_saying
    c.register_routing_number.ensures.read_only stored

pub returns-in-OpenCode-clause-read_only : goal.returns-in-OpenCode-clause-read_only
returns-in-OpenCode-clause-read_only g c = reads_saying c.open_code.ensures.read_only stored

pub returns-in-Donate-clause-read_only : goal.returns-in-Donate-clause-read_only
returns-in-Donate-clause-read_only g c = reads_saying c.donate.ensures.read_only stored

pub returns-in-Assign-clause-read_only : goal.returns-in-Assign-clause-read_only
returns-in-Assign-clause-read_only g c = reads_saying c.assign.ensures.read_only stored

pub returns-in-Release-clause-read_only : goal.returns-in-Release-clause-read_only
returns-in-Release-clause-read_only g c = reads_saying c.release.ensures.read_only stored

pub returns-in-SetWindows-clause-read_only : goal.returns-in-SetWindows-clause-read_only
returns-in-SetWindows-clause-read_only g c = reads_saying c.set_windows.ensures.read_only stored
