use Rattle.std.proofs.Common.{ap, ◌∙◌}
use Rattle.std.specs.Prelude.{◌==◌}
use Rattle.std.specs.List.{list_all}
use Rattle.sqlite.specs.Held.{state}
use Rattle.numbers.specs.declared.spid.Spid.{Spid}
use Rattle.settle.specs.Abstraction.{wait_key_of}
use Rattle.sql_store.specs.Store.{content_at}
use Rattle.sql_store.proofs.WaiterLemmas.{last_is}
use Rattle.sql_store.proofs.lists.is_last_of_all.Goals as goal

pub returns-clause-value : goal.returns-clause-value
returns-clause-value g c up =
    c.are_all.ensures ∙ ap (list_all (λ (k : Spid). k.number == c.args.wait.carrier.number))
    c.as_slice.ensures.value
    ∙ last_is (content_at (state g.S.Store c.args.db.now.conn)) (wait_key_of c.args.wait)
    c.in_ok-waiters.waiters.items (c.in_ok-waiters.ensures.value up)
