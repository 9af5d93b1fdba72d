use Rattle.sqlite.specs.Held.{state}
use Rattle.sql_store.specs.Store.{content_at}
use Rattle.sql_rows.proofs.QueriesListed.{carriers_picked}
use Rattle.sql_store.proofs.ListLemmas.{carriers_are}
use Rattle.sql_store.proofs.lists.carriers.Goals as goal

pub returns-clause-value : goal.returns-clause-value
returns-clause-value g c up =
    let old = state g.S.Store c.args.db.now.conn in
    carriers_are (content_at old) c.in_ok-carriers.carriers.items _
    (carriers_picked old.now.trees (c.in_ok-carriers.ensures.once up) _
    (c.in_ok-carriers.ensures.value up))
    c.put_in_order.ensures.rises c.put_in_order.ensures.only c.put_in_order.ensures.each
