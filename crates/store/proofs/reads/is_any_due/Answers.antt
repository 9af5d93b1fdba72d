use Rattle.std.proofs.Common.{arith}
use Rattle.store.proofs.Due.{least-first}
use Rattle.store.proofs.reads.is_any_due.Goals as goal

pub returns-then-now-tables-clause-found : goal.returns-then-now-tables-clause-found
returns-then-now-tables-clause-found c id row at d has =
    let t = c.args.tables.now in
    let least = least-first t c.requires t.deadlines.least t.deadlines.is_least id row at d has in
    let later = c.if-now-tables.true in
    omega (arith, least, later)
