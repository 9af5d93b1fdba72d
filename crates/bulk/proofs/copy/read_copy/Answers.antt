use Rattle.std.proofs.Common.{rules}
use Rattle.bulk.specs.Rows.{HasRows}
use Rattle.bulk.proofs.Copied.{copy_not_read, copy_read, header_not}
use Rattle.bulk.proofs.copy.read_copy.Goals as goal

pub returns-clause-copy : goal.returns-clause-copy
returns-clause-copy g c =
    copy_read c.read_entries.result (λ entries. entries.items)
    (HasRows g.R.Read.remaining c.args.reader.now)
    (HasRows g.R.Read.remaining c.read_copy_header.new.reader)
    c.in_ok-read_copy_header.ensures.header
    c.read_entries.ensures.entries

pub returns-clause-other : goal.returns-clause-other
returns-clause-other g c =
    copy_not_read c.read_entries.result (HasRows g.R.Read.remaining c.args.reader.now)
    (HasRows g.R.Read.remaining c.read_copy_header.new.reader)
    c.in_ok-read_copy_header.ensures.header
    c.read_entries.ensures.other

pub returns-in_err-read_copy_header-clause-other : goal.returns-in_err-read_copy_header-clause-other
returns-in_err-read_copy_header-clause-other g c =
    let other = header_not c.in_err-read_copy_header.field-0.0
    (HasRows g.R.Read.remaining c.args.reader.now) c.in_err-read_copy_header.ensures.other in
    search rules
