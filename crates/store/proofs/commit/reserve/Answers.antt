use Rattle.std.proofs.Common.{◌∙◌, ◌≤◌, List, length, subst, arith}
use Rattle.std.specs.HashMap.{spare}
use Rattle.delivery.specs.declared.broadcast.Broadcast.{Broadcast}
use Rattle.settle.specs.declared.rows.BroadcastKey.{BroadcastKey}
use Rattle.settle.specs.Abstraction.{spid_of, block_row_of}
use Rattle.version.specs.Abstraction.{windows_of}
use Rattle.store.specs.Tables.{content_of}
use Rattle.store.specs.Batch.{AreReserved}
use Rattle.settle.specs.Lists.{items_of}
use Rattle.store.proofs.Reserved.{all-later}
use Rattle.store.proofs.VersionKeys.{all-kept}
use Rattle.store.proofs.Steps.{ok-then}
use Rattle.store.proofs.Numbers.{same-numbers}
use Rattle.store.proofs.commit.reserve.Goals as goal

pub returns-in_err-reserve_row-clause-same : goal.returns-in_err-reserve_row-clause-same
returns-in_err-reserve_row-clause-same c =
    let t = c.reserve_versions.new.tables in
    (λ i. record (content_of t) {
      lrns = same-numbers spid_of t.lrns c.reserve_row.new.table c.reserve_row.ensures.same i;
    }) ∙ c.reserve_versions.ensures.same

pub returns-in_err-reserve_row-2-clause-same : goal.returns-in_err-reserve_row-2-clause-same
returns-in_err-reserve_row-2-clause-same c =
    let t = c.reserve_versions.new.tables in
    (λ i. record (content_of t) {
      lrns = same-numbers spid_of t.lrns c.reserve_row.new.table c.reserve_row.ensures.same i;
      codes = same-numbers spid_of t.codes c.reserve_row-2.new.table c.reserve_row-2.ensures.same
          i;
    }) ∙ c.reserve_versions.ensures.same

pub returns-in_err-reserve_row-3-clause-same : goal.returns-in_err-reserve_row-3-clause-same
returns-in_err-reserve_row-3-clause-same c =
    let t = c.reserve_versions.new.tables in
    (λ i. record (content_of t) {
      lrns = same-numbers spid_of t.lrns c.reserve_row.new.table c.reserve_row.ensures.same i;
      codes = same-numbers spid_of t.codes c.reserve_row-2.new.table c.reserve_row-2.ensures.same
          i;
      blocks = same-numbers block_row_of t.blocks c.reserve_row-3.new.table
          c.reserve_row-3.ensures.same i;
    }) ∙ c.reserve_versions.ensures.same

pub returns-in_err-reserve_row-4-clause-same : goal.returns-in_err-reserve_row-4-clause-same
returns-in_err-reserve_row-4-clause-same c =
    let t = c.reserve_versions.new.tables in
    (λ i. record (content_of t) {
      lrns = same-numbers spid_of t.lrns c.reserve_row.new.table c.reserve_row.ensures.same i;
      codes = same-numbers spid_of t.codes c.reserve_row-2.new.table c.reserve_row-2.ensures.same
          i;
      blocks = same-numbers block_row_of t.blocks c.reserve_row-3.new.table
          c.reserve_row-3.ensures.same i;
      sets = same-numbers windows_of t.sets c.reserve_row-4.new.table c.reserve_row-4.ensures.same
          i;
    }) ∙ c.reserve_versions.ensures.same

pub returns-clause-same : goal.returns-clause-same
returns-clause-same c =
    let t = c.reserve_versions.new.tables in
    (λ i. record (content_of t) {
      lrns = same-numbers spid_of t.lrns c.reserve_row.new.table c.reserve_row.ensures.same i;
      codes = same-numbers spid_of t.codes c.reserve_row-2.new.table c.reserve_row-2.ensures.same
          i;
      blocks = same-numbers block_row_of t.blocks c.reserve_row-3.new.table
          c.reserve_row-3.ensures.same i;
      sets = same-numbers windows_of t.sets c.reserve_row-4.new.table c.reserve_row-4.ensures.same
          i;
      broadcasts = c.reserve_broadcasts.ensures.same i;
    }) ∙ c.reserve_versions.ensures.same

pub returns-clause-room : goal.returns-clause-room
returns-clause-room c =
    let t = c.reserve_versions.new.tables in
    ok-then c.reserve_broadcasts.result (λ broadcasts. record {
      versions = all-later (items_of c.args.changes.now.versions) t (record t {
        lrns = c.reserve_row.new.table;
        codes = c.reserve_row-2.new.table;
        blocks = c.reserve_row-3.new.table;
        sets = c.reserve_row-4.new.table;
        broadcasts = c.reserve_broadcasts.new.table;
      }) (record { places = omega arith; keys = all-kept t })
          (subst (λ vs. AreReserved vs t) c.as_slice.ensures
          c.in_ok-reserve_versions.ensures.reserved);
      lrns = c.in_ok-reserve_row.ensures.room;
      codes = c.in_ok-reserve_row-2.ensures.room;
      blocks = c.in_ok-reserve_row-3.ensures.room;
      sets = c.in_ok-reserve_row-4.ensures.room;
      broadcasts = subst (λ (es : List (BroadcastKey × Broadcast)). length es
          ≤ spare c.reserve_broadcasts.new.table) c.as_slice-2.ensures broadcasts;
    }) c.reserve_broadcasts.ensures.room
