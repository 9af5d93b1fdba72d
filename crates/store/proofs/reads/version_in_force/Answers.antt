use Rattle.std.proofs.Common.{rules, ◌≡◌, None, sym, subst}
use Rattle.numbers.specs.Abstraction.{subject_of}
use Rattle.settle.specs.Reads.{IsInForce}
use Rattle.store.specs.VersionRows.{rows_of}
use Rattle.store.specs.Tables.{content_of}
use Rattle.store.proofs.Held.{none-held, if-none}
use Rattle.store.proofs.reads.version_in_force.Goals as goal

pub returns-in_err-id : goal.returns-in_err-id
returns-in_err-id c =
    let none : c.last.result ≡ None = search rules in
    let nothing : c.from_residual.result ≡ None = search rules in
    subst (IsInForce (content_of c.args.tables.now) (subject_of c.args.subject)) (sym nothing)
    (none-held (rows_of c.args.tables.now.versions) c.args.tables.now.holds.keys (subject_of
    c.args.subject)
    (if-none c.last.result none c.last.ensures) c.requires.0)
