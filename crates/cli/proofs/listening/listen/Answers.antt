use Rattle.std.proofs.Common.{◌≡◌, Err, rules}
use Rattle.cli.proofs.Endings.{never_storage}
use Rattle.cli.proofs.listening.listen.Goals as goal

pub returns-in_err-report_listening-clause-storage :
    goal.returns-in_err-report_listening-clause-storage
returns-in_err-report_listening-clause-storage g c =
    let is : c.from_residual.result ≡ Err c.in_err-report_listening.field-0.0 = search rules in
    never_storage c.from_residual.result c.in_err-report_listening.field-0.0 _ _ is
    c.in_err-report_listening.ensures.before
