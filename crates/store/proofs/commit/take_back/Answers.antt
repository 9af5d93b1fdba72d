use Rattle.std.proofs.Common.{◌≡◌, ◌<◌, ◌+◌, ◌-◌, ◌++◌, ◌∷◌, [], length, take, get_or, sym, ◌∙◌, ap, subst, arith}
use Rattle.std.proofs.lemmas.List.{take_more}
use Rattle.store.specs.Batch.{AreNew}
use Rattle.store.proofs.NewWaits.{new-less}
use Rattle.store.proofs.commit.take_back.Goals as goal

pub loop-left-preserved : goal.loop-left-preserved
loop-left-preserved c =
    let all = c.args.downloads.now in
    let left = c.loop-left.left - 1 in
    let e = get_or all left c.index-downloads-left.result in
    let inside : left < length all = omega (arith, c.loop-left.invariant.0, c.loop-left-test.true)
    in
    let before : c.loop-left.left ≡ left + 1 = omega (arith, c.loop-left-test.true) in
    let more : take c.loop-left.left all ≡ take left all ++ e ∷ [] =
    ap (λ n. take n all) before ∙ take_more all left c.index-downloads-left.result inside in (
      omega (arith, inside),
      λ start was. subst (AreNew (take left all) start) (sym c.delete.ensures)
          (new-less (take left all) e start c.loop-left.waits
          (subst (λ es. AreNew es start c.loop-left.waits) more
          (c.loop-left.invariant.1 start was))),
    )
