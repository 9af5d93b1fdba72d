use Rattle.std.proofs.Common.{rules, ◌≡◌, None, sym, subst}
use Rattle.std.specs.Prelude.{option_map}
use Rattle.numbers.specs.Abstraction.{subject_of}
use Rattle.version.specs.Abstraction.{routings_of}
use Rattle.settle.specs.Reads.{IsRoutingInForce}
use Rattle.store.specs.Tables.{content_of}
use Rattle.store.proofs.Held.{none-held, if-none}
use Rattle.store.proofs.reads.routing_in_force.Goals as goal

pub returns-in_err-last : goal.returns-in_err-last
returns-in_err-last c =
    let none : c.last.result ≡ None = search rules in
    let nothing : c.from_residual.result ≡ None = search rules in
    subst (λ o. IsRoutingInForce (content_of c.args.tables.now) (subject_of c.args.subject)
    (option_map routings_of o)) (sym nothing)
    (none-held (content_of c.args.tables.now).versions c.args.tables.now.holds.keys
    (subject_of c.args.subject)
    (if-none c.last.result none c.last.ensures) c.requires.0)
