use Rattle.std.proofs.Common.{◌≡◌, true, drop}
use Rattle.model.specs.Content.{Content}
use Rattle.settle.specs.Changes.{AppliesChanges}
use Rattle.store.specs.Batch.{AreReserved, AreDistinct, of_versions}
use Rattle.store.specs.Tables.{content_of, AreIndexed}
use Rattle.store.proofs.commit.write_versions.Given as goal

-- Writing the rest writes all of them.
abbrev pub invariant-loop-id : goal.invariant-loop-id
invariant-loop-id l = record {
  written : (last : Content)
      → AppliesChanges (of_versions (drop l.id-index l.versions)) (content_of l.tables) last
      → AppliesChanges (of_versions l.versions) (content_of l.initial.tables) last;
  indexed : AreIndexed l.tables;
  reserved : AreReserved (drop l.id-index l.versions) l.tables;
  distinct : l.is_only ≡ true → AreDistinct (drop l.id-index l.versions);
}
