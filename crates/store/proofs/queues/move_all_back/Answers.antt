use Rattle.std.proofs.Common.{◌≡◌, subst, sym, Some}
use Rattle.std.proofs.lemmas.List.{drop_all}
use Rattle.numbers.specs.Abstraction.{subject_of}
use Rattle.settle.specs.Abstraction.{wait_key_of}
use Rattle.settle.proofs.Rest.{rest_at}
use Rattle.store.specs.Batch.{AreNew}
use Rattle.store.specs.Maps.{set}
use Rattle.store.specs.QueueRows.{AreCursors}
use Rattle.store.proofs.queues.move_all_back.Goals as goal

pub loop-key-preserved : goal.loop-key-preserved
loop-key-preserved c = record {
  cursors = λ old new put are.
      let before = c.loop-key.invariant.cursors old new put are in
      let e = c.loop-key-item.result in
      let rest = subst (λ es. AreNew es before.0 new)
      (rest_at c.args.downloads.now c.loop-key.key-index e c.loop-key-test.true c.loop-key-item.is)
      before.1 in (
        set before.0 (wait_key_of e.0) (Some (subject_of e.1)),
        rest.1,
        c.move_back.ensures.cursors before.0 (subject_of e.1) before.2,
      );
  latest = λ latest are.
      c.move_back.ensures.latest latest (c.loop-key.invariant.latest latest are);
}

pub returns-clause-cursors : goal.returns-clause-cursors
returns-clause-cursors c = λ old new put are.
    let all = c.loop-key.invariant.cursors old new put are in
    let same : new ≡ all.0 =
    subst (λ es. AreNew es all.0 new)
    (drop_all c.loop-key.key-index c.args.downloads.now c.loop-key-test.false) all.1 in
    subst (AreCursors c.loop-key.cursors.entries) (sym same) all.2
