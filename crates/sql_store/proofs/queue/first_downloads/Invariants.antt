use Rattle.std.proofs.Common.{◌≤◌, true, length, take}
use Rattle.std.specs.Prelude.{IsTrue}
use Rattle.sqlite.specs.Held.{state}
use Rattle.sql_store.specs.Queues.{HaveBroadcasts}
use Rattle.sql_store.specs.Store.{HasQueried, content_at}
use Rattle.sql_store.proofs.queue.first_downloads.Given as goal

-- All downloads passed that have a broadcast are in the list.
abbrev pub invariant-loop-wait : goal.invariant-loop-wait
invariant-loop-wait g l = record {
  looked : HasQueried (state g.S.Store l.fn.db.conn) (state g.S.Store l.db.conn) true;
  told : IsTrue (state g.S.Store l.db.conn).is_open
      → HaveBroadcasts (content_at (state g.S.Store l.fn.db.conn)) (take l.wait-index l.waits)
      l.downloads.items;
  most : length l.downloads.items ≤ l.many;
}
