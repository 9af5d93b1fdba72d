use Rattle.std.proofs.Common.{rules, ◌≡◌, false, IsTrue}
use Rattle.std.specs.Prelude.{not}
use Rattle.sqlite.specs.Held.{state}
use Rattle.sql_store.proofs.CallLemmas.{clean_if_open, ended_unread, ended_unwritten, ended_written, inside_if_not}
use Rattle.sql_store.proofs.commit.end.Goals as goal

pub returns-in-Err : goal.returns-in-Err
returns-in-Err g c =
    let new = state g.S.Store c.undo.new.db.conn in
    ended_unread (state g.S.Store c.args.db.now.conn) (state g.S.Store c.clock.new.db.conn) new
    (clean_if_open new.is_clean new.is_open (g.met.S.Store.shut_if_dirty _))
    c.in-Err.ensures.queried c.undo.ensures.undone c.undo.ensures.survives

pub returns-then-is_autocommit : goal.returns-then-is_autocommit
returns-then-is_autocommit g c =
    let mid = state g.S.Store c.clock.new.db.conn in
    let alone : IsTrue c.is_autocommit.result = search rules in
    let idle : mid.in_transaction ≡ false = search rules in
    ended_unwritten (state g.S.Store c.args.db.now.conn) mid c.in_default.ensures.queried idle
    (c.is_autocommit.ensures.settled alone)

pub returns : goal.returns
returns g c =
    let mid = state g.S.Store c.clock.new.db.conn in
    let new = state g.S.Store c.commit_written.new.db.conn in
    let not_alone : not mid.in_transaction ≡ false = search rules in
    ended_written (state g.S.Store c.args.db.now.conn) mid new
    (clean_if_open new.is_clean new.is_open (g.met.S.Store.shut_if_dirty _))
    c.in_default.ensures.queried (inside_if_not mid.in_transaction not_alone)
    c.commit_written.ensures.survives c.commit_written.result c.commit_written.ensures.committed
    c.commit_written.ensures.err
