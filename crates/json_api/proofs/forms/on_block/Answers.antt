use Rattle.json_api.proofs.forms.on_block.Goals as goal

pub returns-in-Assign-clause-none : goal.returns-in-Assign-clause-none
returns-in-Assign-clause-none g c = rw c.in-Assign.is c.assignment.ensures.none

pub returns-in-Donate-clause-none : goal.returns-in-Donate-clause-none
returns-in-Donate-clause-none g c = rw c.in-Donate.is c.donation.ensures.none

pub returns-in-Release-clause-none : goal.returns-in-Release-clause-none
returns-in-Release-clause-none g c = rw c.in-Release.is c.release.ensures.none
