use Rattle.bulk.proofs.Names.{found_name, no_name}
use Rattle.bulk.proofs.fields.action_in.Goals as goal

pub returns-clause-some : goal.returns-clause-some
returns-clause-some c = found_name c.args.field.now c.first_named.result c.first_named.ensures

pub returns-clause-none : goal.returns-clause-none
returns-clause-none c = no_name c.args.field.now c.first_named.result c.first_named.ensures
