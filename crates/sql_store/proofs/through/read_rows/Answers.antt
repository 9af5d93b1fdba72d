use Rattle.std.proofs.Common.{inl, refl, true, false, rules, true≢false, sym}
use Rattle.sql_store.specs.Through.{BlankMeansNone}
use Rattle.sql_store.proofs.ThroughLemmas.{reads_all, reads_no_more, reads_none, reads_one}
use Rattle.sql_store.proofs.through.read_rows.Goals as goal

pub rows-init : goal.rows-init
rows-init g c = record {
  same_reference = search rules;
  reads = reads_none g.S.Store g.T.FromRow.seen_in (BlankMeansNone true) c.args.rows.now.conn.now
      (λ _. refl);
}

pub returns-in_default-clause-all : goal.returns-in_default-clause-all
returns-in_default-clause-all g c =
    reads_all g.S.Store g.T.FromRow.seen_in (BlankMeansNone c.rows.blank) c.args.rows.now.conn.now
    c.rows.rows.conn.now c.next_read.new.rows.conn.now c.rows.invariant.reads
    c.next_read.ensures.survives
    (λ clean. rw (c.in_ok-_item.was, c.in_default.is) at (c.next_read.ensures.reads clean))

pub rows-preserved : goal.rows-preserved
rows-preserved g c = record {
  same_reference = search rules;
  reads = reads_one g.S.Store g.T.FromRow.seen_in (BlankMeansNone c.rows.blank)
      c.args.rows.now.conn.now c.rows.rows.conn.now c.next_read.new.rows.conn.now
      c.rows.invariant.reads c.next_read.ensures.survives (BlankMeansNone false) _
      (λ xs told no. absurd (true≢false (sym no)))
      (λ clean. rw (c.in_ok-_item.was, c.in-Some.is) at (c.next_read.ensures.reads clean))
      (λ clean. rw (c.in_ok-_item.was) at (c.next_read.ensures.same clean))
      c.next_read.ensures.mode;
}

pub returns-clause-err : goal.returns-clause-err
returns-clause-err g c = λ clean. inl (c.rows.invariant.reads.same clean)

pub returns-in_err-_item-clause-err : goal.returns-in_err-_item-clause-err
returns-in_err-_item-clause-err g c =
    let left = reads_no_more g.S.Store g.T.FromRow.seen_in (BlankMeansNone c.rows.blank)
    c.args.rows.now.conn.now c.rows.rows.conn.now c.next_read.new.rows.conn.now
    c.rows.invariant.reads c.next_read.ensures.survives
    (λ clean. rw (c.in_err-_item.was) at (c.next_read.ensures.err clean)) in
    search rules
