use Rattle.std.proofs.Common.{◌≡◌, take}
use Rattle.model.specs.Content.{empty_content}
use Rattle.settle.specs.StoreContract.{PreservesStore}
use Rattle.repair.specs.Contents.{HasExactly, entries_of}
use Rattle.repair.proofs.writing.write_each.Given as goal

abbrev pub invariant-loop-row : goal.invariant-loop-row
invariant-loop-row g l = record {
  preserves : PreservesStore g.S.StoreModel l.initial.store l.store (Unit {0}) ⊥;
  written : g.S.StoreModel.IsUsable l.store
      → g.S.StoreModel.content l.initial.store ≡ empty_content
      → HasExactly (take l.row-index (entries_of l.rows)) (g.S.StoreModel.content l.store);
}
