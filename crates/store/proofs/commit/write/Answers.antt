use Rattle.std.proofs.Common.{◌≤◌, List, length, map, ◌∙◌, ap, sym, subst, arith}
use Rattle.std.specs.Prelude.{◌==◌}
use Rattle.std.specs.FinMap.{get}
use Rattle.std.specs.HashMap.{spare}
use Rattle.settle.specs.Abstraction.{broadcast_key_of, broadcast_row_of, wait_key_of}
use Rattle.settle.specs.Changes.{changes_of, put_rows, delete_rows, same_broadcast, same_wait}
use Rattle.settle.specs.Lists.{items_of}
use Rattle.settle.specs.declared.rows.BroadcastKey.{BroadcastKey}
use Rattle.delivery.specs.declared.broadcast.Broadcast.{Broadcast}
use Rattle.store.specs.Batch.{AreReserved}
use Rattle.store.proofs.Reserved.{all-later}
use Rattle.store.proofs.VersionKeys.{all-kept}
use Rattle.store.specs.Maps.{seen_entries}
use Rattle.store.specs.Tables.{content_of}
use Rattle.store.proofs.commit.write.Goals as goal

pub write_broadcasts-requires : goal.write_broadcasts-requires
write_broadcasts-requires c =
    subst (λ (es : List (BroadcastKey × Broadcast)). length es
    ≤ spare c.args.tables.now.broadcasts) (sym c.as_slice.ensures) c.requires.room.broadcasts

pub write_versions-requires-clause-reserved : goal.write_versions-requires-clause-reserved
write_versions-requires-clause-reserved c =
    let old = c.args.tables.now in
    subst (λ vs. AreReserved vs (record old {
      lrns = c.write_rare_rows.new.lrns;
      codes = c.write_rare_rows.new.codes;
      blocks = c.write_rare_rows.new.blocks;
      sets = c.write_rare_rows.new.sets;
      clock = c.move_clock.new.row;
      broadcasts = c.delete_broadcasts.new.table;
      waits = c.delete_waits.new.waits;
    })) (sym c.as_slice-4.ensures) (all-later (items_of c.args.changes.now.versions) old (record
    old {
      lrns = c.write_rare_rows.new.lrns;
      codes = c.write_rare_rows.new.codes;
      blocks = c.write_rare_rows.new.blocks;
      sets = c.write_rare_rows.new.sets;
      clock = c.move_clock.new.row;
      broadcasts = c.delete_broadcasts.new.table;
      waits = c.delete_waits.new.waits;
    }) (record { places = omega arith; keys = all-kept old }) c.requires.room.versions)

pub returns-clause-written : goal.returns-clause-written
returns-clause-written c =
    let old = c.args.tables.now in
    let later = c.write_versions.ensures.written in
    record {
      carriers = later.carriers;
      lrns = λ k. later.lrns k ∙ c.write_rare_rows.ensures.lrns k;
      codes = λ k. later.codes k ∙ c.write_rare_rows.ensures.codes k;
      blocks = λ k. later.blocks k ∙ c.write_rare_rows.ensures.blocks k;
      versions = λ k. later.versions k
          ∙ ap (λ vs. put_rows ◌==◌ vs k (get (content_of old).versions k)) c.as_slice-4.ensures;
      broadcasts = λ k. later.broadcasts k ∙ c.delete_broadcasts.ensures k
          ∙ ap (delete_rows same_broadcast (map broadcast_key_of c.as_slice-2.result.now) k)
          (c.write_broadcasts.ensures k
          ∙ ap (λ es. put_rows same_broadcast (seen_entries broadcast_key_of broadcast_row_of es) k
          (get (content_of old).broadcasts k)) c.as_slice.ensures)
          ∙ ap (λ ks. delete_rows same_broadcast (map broadcast_key_of ks) k
          (put_rows same_broadcast (changes_of c.args.changes.now).broadcasts k
          (get (content_of old).broadcasts k))) c.as_slice-2.ensures;
      waits = λ k. later.waits k ∙ c.delete_waits.ensures k
          ∙ ap (λ ks. delete_rows same_wait (map wait_key_of ks) k (get (content_of old).waits k))
          c.as_slice-3.ensures;
      sets = λ k. later.sets k ∙ c.write_rare_rows.ensures.sets k;
      clock = later.clock ∙ c.move_clock.ensures;
    }
