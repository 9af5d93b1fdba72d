use Rattle.std.proofs.Common.{inl, [], refl, rules}
use Rattle.sql_rows.specs.Versions.{old_version_in}
use Rattle.sql_store.specs.Migration.{AreIdsOf}
use Rattle.sql_store.proofs.ThroughLemmas.{more_ids, reads_all, reads_no_more, reads_none, reads_one}
use Rattle.sql_store.proofs.migration.ids_among.Goals as goal

pub rows-init : goal.rows-init
rows-init g c = record {
  same_reference = search rules;
  reads = reads_none g.S.Store old_version_in (AreIdsOf c.new-ids.result.items)
      c.args.rows.now.conn.now ([], refl, c.new-ids.ensures.items);
}

pub returns-in_default-clause-all : goal.returns-in_default-clause-all
returns-in_default-clause-all g c =
    reads_all g.S.Store old_version_in (AreIdsOf c.rows.ids.items) c.args.rows.now.conn.now
    c.rows.rows.conn.now c.next_read.new.rows.conn.now c.rows.invariant.reads
    c.next_read.ensures.survives
    (λ clean. rw (c.in_ok-row.was, c.in_default.is) at (c.next_read.ensures.reads clean))

pub rows-preserved : goal.rows-preserved
rows-preserved g c = record {
  same_reference = search rules;
  reads = reads_one g.S.Store old_version_in (AreIdsOf c.rows.ids.items) c.args.rows.now.conn.now
      c.rows.rows.conn.now c.next_read.new.rows.conn.now c.rows.invariant.reads
      c.next_read.ensures.survives (AreIdsOf c.push.new.self.items) _
      (λ xs. more_ids c.rows.ids.items xs c.in-Some.row c.push.new.self.items (search rules))
      (λ clean. rw (c.in_ok-row.was, c.in-Some.is) at (c.next_read.ensures.reads clean))
      (λ clean. rw (c.in_ok-row.was) at (c.next_read.ensures.same clean))
      c.next_read.ensures.mode;
}

pub returns-clause-err : goal.returns-clause-err
returns-clause-err g c = λ clean. inl (c.rows.invariant.reads.same clean)

pub returns-in_err-row-clause-err : goal.returns-in_err-row-clause-err
returns-in_err-row-clause-err g c =
    let left = reads_no_more g.S.Store old_version_in (AreIdsOf c.rows.ids.items)
    c.args.rows.now.conn.now c.rows.rows.conn.now c.next_read.new.rows.conn.now
    c.rows.invariant.reads c.next_read.ensures.survives
    (λ clean. rw (c.in_err-row.was) at (c.next_read.ensures.err clean)) in
    search rules
