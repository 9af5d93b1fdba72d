use Rattle.std.proofs.Common.{ap, ◌∙◌}
use Rattle.sqlite.specs.declared.types.Value.TheVariants.{Text}
use Rattle.sqlite.specs.Held.{state}
use Rattle.sql_store.proofs.LookupLemmas.{carrier_is}
use Rattle.sql_store.proofs.lookups.carrier.Goals as goal

pub returns-clause-value : goal.returns-clause-value
returns-clause-value g c up =
    c.is_some.ensures ∙ carrier_is (state g.S.Store c.args.db.now.conn).now.trees c.text.result
    c.args.spid (c.text.ensures ∙ ap Text c.spid_bytes-bytes.ensures) c.in_ok-found.found
    (c.in_ok-found.ensures.value up)
