use Rattle.std.proofs.Common.{rules, ◌≡◌, false, is_ok, sym, subst}
use Rattle.sqlite.specs.Held.{state}
use Rattle.settle.specs.Changes.{changes_of, AppliesChanges}
use Rattle.sql_store.specs.Store.{HasCommitted}
use Rattle.sql_store.proofs.CallLemmas.{clean_if_open, concluded, unwritten_committed, unwritten_leaves, written_leaves}
use Rattle.sql_store.proofs.commit.commit.Goals as goal

pub returns-in_err-write-clause-committed : goal.returns-in_err-write-clause-committed
returns-in_err-write-clause-committed g c =
    let Becomes = AppliesChanges (changes_of c.args.changes.now) in
    let old = state g.S.Store c.args.db.now.conn in
    let new = state g.S.Store c.write.new.db.conn in
    let fails : is_ok c.from_residual.result ≡ false = search rules in
    subst (λ d. HasCommitted old new d Becomes) (sym fails)
    (unwritten_committed old new Becomes c.requires c.in_err-write.ensures)

pub returns-in_err-write-clause-left : goal.returns-in_err-write-clause-left
returns-in_err-write-clause-left g c =
    unwritten_leaves (state g.S.Store c.args.db.now.conn) (state g.S.Store c.write.new.db.conn)
    (AppliesChanges (changes_of c.args.changes.now)) c.in_err-write.ensures.survives

pub returns-clause-committed : goal.returns-clause-committed
returns-clause-committed g c =
    let old = state g.S.Store c.args.db.now.conn in
    let mid = state g.S.Store c.write.new.db.conn in
    let new = state g.S.Store c.commit_written.new.db.conn in
    concluded old mid new (AppliesChanges (changes_of c.args.changes.now)) c.in_ok-write.ensures
    (clean_if_open new.is_clean new.is_open (g.met.S.Store.shut_if_dirty _))
    c.commit_written.ensures.survives c.requires c.commit_written.result
    c.commit_written.ensures.committed c.commit_written.ensures.err

pub returns-clause-left : goal.returns-clause-left
returns-clause-left g c =
    let old = state g.S.Store c.args.db.now.conn in
    let mid = state g.S.Store c.write.new.db.conn in
    let new = state g.S.Store c.commit_written.new.db.conn in
    written_leaves old mid new (AppliesChanges (changes_of c.args.changes.now))
    c.in_ok-write.ensures
    (clean_if_open new.is_clean new.is_open (g.met.S.Store.shut_if_dirty _))
    c.commit_written.ensures.survives
