use Rattle.version.proofs.Made.{made}
use Rattle.version.proofs.create.first_version.Goals as goal
use Rattle.version.specs.Abstraction.{set_of}

pub returns-clause-made : goal.returns-clause-made
returns-clause-made c = made (set_of c.args.present.now) c.args.minute.number c.args.create.now
    c.blank.result c.added_to.result c.blank.ensures c.added_to.ensures
