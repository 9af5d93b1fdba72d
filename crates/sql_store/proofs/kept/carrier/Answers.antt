use Rattle.std.proofs.Common.{ap, ◌∙◌}
use Rattle.std.specs.Prelude.{◌==◌}
use Rattle.std.specs.List.{list_any}
use Rattle.sqlite.specs.Held.{state}
use Rattle.numbers.specs.declared.spid.Spid.{Spid}
use Rattle.sql_store.specs.Kept.{AreAllCarriers}
use Rattle.sql_store.specs.Store.{content_at}
use Rattle.sql_store.proofs.KeptLemmas.{among_carriers, kept_queried}
use Rattle.sql_store.proofs.kept.carrier.Goals as goal

pub returns-in-Some-clause-value : goal.returns-in-Some-clause-value
returns-in-Some-clause-value g c up =
    c.is_among.ensures ∙ ap (list_any (λ (x : Spid). x.number == c.args.spid.number))
    c.as_slice.ensures.value
    ∙ among_carriers (content_at (state g.S.Store c.args.db.now.conn)) c.in-Some.all.items
    c.args.spid ((c.args.db.now.are_kept.carriers c.in-Some.all c.in-Some.is).is up)

pub returns-in-Some-clause-queried : goal.returns-in-Some-clause-queried
returns-in-Some-clause-queried g c =
    kept_queried AreAllCarriers (state g.S.Store c.args.db.now.conn) c.args.db.now.kept.carriers
    c.in-Some.all c.in-Some.is c.args.db.now.are_kept.carriers

pub returns-clause-value : goal.returns-clause-value
returns-clause-value g c up =
    c.is_among-is_registered.ensures
    ∙ ap (list_any (λ (x : Spid). x.number == c.args.spid.number)) c.as_slice-2.ensures.value
    ∙ among_carriers (content_at (state g.S.Store c.args.db.now.conn)) c.in_ok-all.all.items
    c.args.spid (c.in_ok-all.ensures.value up)
