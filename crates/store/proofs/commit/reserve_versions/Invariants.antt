use Rattle.std.proofs.Common.{◌≡◌, drop}
use Rattle.store.specs.Batch.{AreReserved}
use Rattle.store.specs.Tables.{content_of, AreIndexed}
use Rattle.store.specs.declared.tables.Tables.{Tables}
use Rattle.store.proofs.Reserved.{KeepRoom}
use Rattle.store.proofs.commit.reserve_versions.Given as goal

-- If the rest is reserved later, all rows are.
abbrev pub invariant-loop-id : goal.invariant-loop-id
invariant-loop-id l = record {
  same : content_of l.tables ≡ content_of l.initial.tables;
  indexed : AreIndexed l.tables;
  reserved : (last : Tables) → KeepRoom l.tables last
      → AreReserved (drop l.id-index l.versions) last → AreReserved l.versions last;
}
