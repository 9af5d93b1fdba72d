use Rattle.std.proofs.Common.{rules, pos, ap, ◌∙◌}
use Rattle.sqlite.specs.declared.types.Value.TheVariants.{Int}
use Rattle.sqlite.specs.Held.{state}
use Rattle.sql_store.proofs.LookupLemmas.{set_is}
use Rattle.sql_store.proofs.lookups.window_set.Goals as goal

pub returns-clause-value : goal.returns-clause-value
returns-clause-value g c up =
    set_is (state g.S.Store c.args.db.now.conn).now.trees c.number.result c.args.of
    (c.number.ensures ∙ ap (λ k. Int (pos k)) c.from.ensures) c.in_ok-found.found c.map.result
    (search rules) (c.in_ok-found.ensures.value up)
