use Rattle.std.proofs.Common.{◌≡◌, ◌∙◌, ◌<◌, ap, get_or, length, subst, sym}
use Rattle.std.proofs.Math.ListN.{length-map}
use Rattle.std.proofs.lemmas.List.{get_or-map}
use Rattle.settle.specs.Changes.{AppliesChanges}
use Rattle.repair.specs.Entries.{entry_of}
use Rattle.repair.specs.Contents.{entries_of}
use Rattle.repair.proofs.Filled.{next_filled, starts_empty}
use Rattle.repair.proofs.Preserving.{still, then_preserves}
use Rattle.repair.proofs.writing.write_each.Goals as goal

pub loop-row-init : goal.loop-row-init
loop-row-init g c = record {
  preserves = still g.S.StoreModel c.args.store.now;
  written = λ usable empty. starts_empty (g.S.StoreModel.content c.args.store.now) empty;
}

pub loop-row-preserved : goal.loop-row-preserved
loop-row-preserved g c = record {
  preserves = then_preserves g.S.StoreModel c.args.store.now c.loop-row.store c.commit.new.self
      c.loop-row.invariant.preserves c.in_ok-commit.ensures.preserves (λ _. tt);
  written = λ usable empty.
      let e = entry_of c.row-item.result in
      let rows = c.args.rows.now in
      let within : c.loop-row.row-index < length (entries_of rows) =
      subst (λ n. c.loop-row.row-index < n) (sym (length-map rows entry_of))
      c.loop-row-test.true in
      let is : e ≡ get_or (entries_of rows) c.loop-row.row-index e =
      ap entry_of c.row-item.is
      ∙ sym (get_or-map entry_of rows c.loop-row.row-index c.row-item.result e
      c.loop-row-test.true) in
      let old = g.S.StoreModel.content c.loop-row.store in
      let new = g.S.StoreModel.content c.commit.new.self in
      next_filled (entries_of rows) c.requires c.loop-row.row-index e within is old new
      (c.loop-row.invariant.written (c.in_ok-commit.ensures.preserves.usable usable) empty)
      (subst (λ x. AppliesChanges x old new) c.in_ok-stage.ensures
      (c.in_ok-commit.ensures.done usable));
}
