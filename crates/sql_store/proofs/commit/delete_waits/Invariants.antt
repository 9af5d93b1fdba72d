use Rattle.std.proofs.Common.{drop}
use Rattle.sqlite.specs.Held.{state}
use Rattle.sql_store.specs.Changes.{all_made, without_wait}
use Rattle.settle.specs.Abstraction.{wait_key_of}
use Rattle.sql_store.specs.Store.{IsTransactionProgress}
use Rattle.sql_store.proofs.commit.delete_waits.Given as goal

-- The changes so far, with those left after them, are all changes.
abbrev pub invariant-loop-key : goal.invariant-loop-key
invariant-loop-key g l = record {
  goes : IsTransactionProgress (state g.S.Store l.fn.conn) (state g.S.Store l.conn)
      (all_made (λ k. without_wait (wait_key_of k)) (drop l.key-index l.keys))
      (all_made (λ k. without_wait (wait_key_of k)) l.keys);
}
