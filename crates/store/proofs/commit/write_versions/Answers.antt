use Rattle.std.proofs.Common.{◌≡◌, ◌+◌, ◌∷◌, drop, sym, subst}
use Rattle.std.proofs.lemmas.List.{drop_all}
use Rattle.settle.proofs.Rest.{rest_at}
use Rattle.settle.specs.Changes.{AppliesChanges}
use Rattle.store.specs.Batch.{AreReserved, AreDistinct, of_versions}
use Rattle.store.specs.Tables.{content_of}
use Rattle.store.proofs.Changed.{version_first, none-applied}
use Rattle.store.proofs.Reserved.{reserved-rest}
use Rattle.store.proofs.commit.write_versions.Goals as goal

pub loop-id-init : goal.loop-id-init
loop-id-init c = record {
  written = λ last was. was;
  indexed = c.requires.indexed;
  reserved = c.requires.reserved;
  distinct = c.are_distinct-is_only.ensures;
}

pub write_version-requires-clause-reserved : goal.write_version-requires-clause-reserved
write_version-requires-clause-reserved c =
    (subst (λ vs. AreReserved vs c.loop-id.tables) (rest_at c.args.versions.now c.loop-id.id-index
    c.loop-id-item.result c.loop-id-test.true c.loop-id-item.is) c.loop-id.invariant.reserved).0

pub loop-id-preserved : goal.loop-id-preserved
loop-id-preserved c =
    let e = c.loop-id-item.result in
    let old = c.loop-id.tables in
    let new = c.write_version.new.tables in
    let rest = drop (c.loop-id.id-index + 1) c.args.versions.now in
    let is = c.loop-id.invariant in
    let parts : drop c.loop-id.id-index c.args.versions.now ≡ e ∷ rest =
    rest_at c.args.versions.now c.loop-id.id-index e c.loop-id-test.true c.loop-id-item.is in
    let reserved = subst (λ vs. AreReserved vs old) parts is.reserved in
    record {
      written = λ last was. is.written last
          (subst (λ vs. AppliesChanges (of_versions vs) (content_of old) last) (sym parts)
          (version_first (of_versions rest) (content_of old) (content_of new) last e.0 e.1
          c.write_version.ensures.written was));
      indexed = c.write_version.ensures.indexed;
      reserved = reserved-rest rest old new e.0 c.are_distinct-is_only.result
          c.write_version.ensures.others
          (λ t. (subst AreDistinct parts (is.distinct t)).0) reserved.1;
      distinct = λ t. (subst AreDistinct parts (is.distinct t)).1;
    }

pub returns-clause-written : goal.returns-clause-written
returns-clause-written c =
    c.loop-id.invariant.written (content_of c.loop-id.tables)
    (subst (λ vs. AppliesChanges (of_versions vs) (content_of c.loop-id.tables)
    (content_of c.loop-id.tables))
    (sym (drop_all c.loop-id.id-index c.args.versions.now c.loop-id-test.false))
    (none-applied (content_of c.loop-id.tables)))
