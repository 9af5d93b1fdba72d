use Rattle.std.proofs.Common.{rules, ◌≡◌, ◌<◌, ◌≤◌, Some, subst}
use Rattle.std.specs.Prelude.{option_map, true}
use Rattle.numbers.specs.Abstraction.{routing_of}
use Rattle.model.specs.Abstraction.{status_of}
use Rattle.sql_rows.specs.Versions.{version_entry, version_row, bare, is_routed_while_modified}
use Rattle.sql_rows.proofs.Backs.{reads_back}
use Rattle.sql_rows.proofs.version_row.fits.Goals as goal

pub returns-then-is_set_number-clause-back :
    goal.returns-then-is_set_number-clause-back
returns-then-is_set_number-clause-back c routed =
    let low : c.args.id < 9223372036854775808 = search rules in
    let least : 0 < c.row.inside.version.held = search rules in
    let most : c.row.inside.version.held ≤ 1000 = search rules in
    let fits : is_routed_while_modified (option_map routing_of c.row.inside.version.routing)
    (status_of c.row.inside.version.status) ≡ true = search (rules, routed) in
    let less : c.row.inside.version.attempt < 9223372036854775808 = search rules in
    subst (λ v. version_entry (version_row c.args.id v) ≡ Some (c.args.id, bare v)) c.row.view_is
    (reads_back c.args.id c.row.inside low less least most fits)
