use Rattle.std.proofs.Common.{◌∙◌}
use Rattle.version.specs.Abstraction.{windows_of}
use Rattle.model.specs.Abstraction.{send_of}
use Rattle.settle.specs.Changes.{changes_of as changes_model}
use Rattle.settle.specs.Abstraction.{spid_of}
use Rattle.std.specs.Prelude.{map}
use Rattle.settle.proofs.BegunEach.{broadcasts-any, waits-any}
use Rattle.settle.proofs.FiredCode.{three_tables}
use Rattle.settle.proofs.sending.begin_sending_each.Goals as goal

pub returns : goal.returns
returns c = three_tables (changes_model c.args.changes.now) _ _ _ _ _ _ c.requires
    c.in_ok-rows_of_each.ensures
    (c.in_ok-broadcasts_of_each.ensures ∙ broadcasts-any (windows_of c.args.windows.now)
    c.args.minute.number (send_of c.args.send) c.args.versions.now)
    (c.in_ok-changes.ensures ∙ waits-any (windows_of c.args.windows.now) c.args.minute.number
    (map spid_of c.args.all_carriers.now) c.args.versions.now)
