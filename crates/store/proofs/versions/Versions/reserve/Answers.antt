use Rattle.store.proofs.VersionRows.{row-same}
use Rattle.store.proofs.versions.Versions.reserve.Goals as goal

pub returns-in_err-add_places-clause-same : goal.returns-in_err-add_places-clause-same
returns-in_err-add_places-clause-same c =
    row-same c.args.self.now.rows.items c.add_places.new.rows.items c.add_places.ensures.same

pub returns-clause-same : goal.returns-clause-same
returns-clause-same c =
    row-same c.args.self.now.rows.items c.add_places.new.rows.items c.add_places.ensures.same
