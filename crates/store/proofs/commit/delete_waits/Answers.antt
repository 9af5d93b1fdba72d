use Rattle.std.proofs.Common.{List, sym, subst, ◌∙◌, ap, refl, None, map, drop, ◌+◌}
use Rattle.std.proofs.lemmas.List.{drop_all}
use Rattle.std.specs.FinMap.{get}
use Rattle.settle.specs.declared.rows.WaitKey.{WaitKey}
use Rattle.settle.specs.Changes.{delete_rows, same_wait}
use Rattle.settle.specs.Abstraction.{wait_key_of}
use Rattle.store.specs.Tables.{AreWaitsDeleted}
use Rattle.store.proofs.Changed.{set_wait}
use Rattle.settle.proofs.Rest.{rest_at}
use Rattle.store.proofs.commit.delete_waits.Goals as goal

pub loop-key-preserved : goal.loop-key-preserved
loop-key-preserved c last taken =
    c.loop-key.invariant last
    (subst (λ (ks : List WaitKey). AreWaitsDeleted ks c.loop-key.waits last)
    (sym (rest_at c.args.keys.now c.loop-key.key-index c.key-item.result c.loop-key-test.true
    c.key-item.is))
    (λ k. taken k
    ∙ ap (delete_rows same_wait (map wait_key_of (drop (c.loop-key.key-index + 1) c.args.keys.now))
    k)
    (ap (λ m. get m k) c.delete.ensures ∙ set_wait c.loop-key.waits
    (wait_key_of c.key-item.result) None k)))

pub returns : goal.returns
returns c =
    c.loop-key.invariant c.loop-key.waits
    (subst (λ (ks : List WaitKey). AreWaitsDeleted ks c.loop-key.waits c.loop-key.waits)
    (sym (drop_all c.loop-key.key-index c.args.keys.now c.loop-key-test.false)) (λ k. refl))
