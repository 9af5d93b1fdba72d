use Rattle.store.proofs.Steps.{ok-then}
use Rattle.store.proofs.VersionKeys.{row-keys-there}
use Rattle.store.proofs.indexes.put_row_keys.Goals as goal

pub returns-clause-there : goal.returns-clause-there
returns-clause-there c =
    ok-then c.put_version_keys.result
    (row-keys-there c.args.tables.now c.put_version_keys.new.tables c.args.id c.args.row.now
    c.version_keys.result c.needed_keys-present_keys.result c.unneeded_keys-new.result c.requires
    c.version_keys.ensures c.needed_keys-present_keys.ensures.own
    c.needed_keys-present_keys.ensures.without c.unneeded_keys-new.ensures
    c.put_version_keys.ensures.keeps) c.put_version_keys.ensures.there
