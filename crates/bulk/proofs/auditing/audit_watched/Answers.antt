use Rattle.std.proofs.Common.{refl}
use Rattle.bulk.specs.Findings.{audit_header}
use Rattle.bulk.proofs.Compared.{all_audited, part_audited}
use Rattle.bulk.proofs.auditing.audit_watched.Goals as goal

pub returns-in-Ok-send_file-clause-audits : goal.returns-in-Ok-send_file-clause-audits
unfolding audit_header
returns-in-Ok-send_file-clause-audits g c = λ u st s.
    all_audited st c.args.carrier.number (g.R.Read.remaining c.args.reader)
    (g.W.Write.contents c.args.writer.now) _ c.in-Ok-Ok.side.in_force.items
    c.in-Ok-Ok.side.waiting.items c.in-Ok.findings.items c.deref.result.now
    c.in-Ok-send_file.rows c.deref.ensures.value (c.in-Ok-Ok.ensures'.side u st s)
    c.in-Ok.ensures.compared c.in-Ok-send_file.ensures.ok

pub returns-clause-audits : goal.returns-clause-audits
unfolding audit_header
returns-clause-audits g c = λ u st s.
    part_audited st c.args.carrier.number (g.R.Read.remaining c.args.reader)
    (g.W.Write.contents c.args.writer.now) _ c.in-Ok-Ok.side.in_force.items
    c.in-Ok-Ok.side.waiting.items c.in-Ok.findings.items c.deref.result.now
    c.in-Err-send_file.rows _ refl refl c.deref.ensures.value (c.in-Ok-Ok.ensures'.side u st s)
    c.in-Ok.ensures.compared c.in-Err-send_file.ensures.err
