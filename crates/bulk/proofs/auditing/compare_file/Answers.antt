use Rattle.std.proofs.Common.{rules}
use Rattle.bulk.proofs.Compared.{file_compares, file_not_compared, not_read}
use Rattle.bulk.proofs.Exists.{rows_of_text}
use Rattle.bulk.proofs.Filed.{known}
use Rattle.bulk.specs.Comparing.{IsNotCompared}
use Rattle.bulk.proofs.auditing.compare_file.Goals as goal

pub returns-clause-compared : goal.returns-clause-compared
returns-clause-compared g c =
    file_compares c.compare.result (λ findings. findings.items) (g.R.Read.remaining c.args.reader)
    c.args.side.now.in_force.items c.args.side.now.waiting.items c.in_ok-entries.entries.items
    c.deref.result.now c.deref.ensures.value
    (λ bytes e.
    let (rows, are) = rows_of_text bytes in
    let copy = c.in_ok-entries.ensures.copy rows (c.open-reader.ensures.rows bytes rows e are) in
    record { rows = rows; others = copy.0; are = are; header = copy.1; read = copy.2 })
    c.compare.ensures.compared

pub returns-clause-other : goal.returns-clause-other
returns-clause-other g c =
    file_not_compared c.compare.result (g.R.Read.remaining c.args.reader)
    c.in_ok-entries.entries.items
    c.deref.result.now c.deref.ensures.value
    (λ bytes e.
    let (rows, are) = rows_of_text bytes in
    let copy = c.in_ok-entries.ensures.copy rows (c.open-reader.ensures.rows bytes rows e are) in
    record { rows = rows; others = copy.0; are = are; header = copy.1; read = copy.2 })
    c.compare.ensures.duplicate c.compare.ensures.kinds

pub returns-in_err-entries-clause-other : goal.returns-in_err-entries-clause-other
returns-in_err-entries-clause-other g c =
    let other = known (g.R.Read.remaining c.args.reader) (IsNotCompared c.in_err-entries.field-0.0)
    (λ bytes e.
    let (rows, are) = rows_of_text bytes in
    not_read c.in_err-entries.field-0.0 bytes rows are
    (c.in_err-entries.ensures.other rows (c.open-reader.ensures.rows bytes rows e are))) in
    search rules
