use Rattle.std.proofs.Common.{subst, refl}
use Rattle.sqlite.specs.Effect.{Database}
use Rattle.sql_store.specs.Migration.{IsSentRead}
use Rattle.sql_store.proofs.migration.see_staying.Goals as goal

pub returns-clause-value : goal.returns-clause-value
returns-clause-value g c up =
    let second = c.in_ok-see_sent.ensures.queried.same refl up in
    let first = c.in_ok-see_registry.ensures.queried.same refl second.was_open in
    record {
      registry = c.in_ok-see_registry.ensures.value second.was_open;
      sent = subst (λ (d : Database). IsSentRead c.args.schema_version d.trees) first.now
          (c.in_ok-see_sent.ensures.value up);
    }
