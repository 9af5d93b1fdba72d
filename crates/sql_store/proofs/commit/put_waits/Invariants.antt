use Rattle.std.proofs.Common.{drop}
use Rattle.sqlite.specs.Held.{state}
use Rattle.sql_store.specs.Changes.{all_made, with_wait}
use Rattle.settle.specs.Abstraction.{wait_key_of}
use Rattle.numbers.specs.Abstraction.{subject_of}
use Rattle.sql_store.specs.Store.{IsTransactionProgress}
use Rattle.sql_store.proofs.commit.put_waits.Given as goal

-- The changes so far, with those left after them, are all changes.
abbrev pub invariant-loop-row : goal.invariant-loop-row
invariant-loop-row g l = record {
  goes : IsTransactionProgress (state g.S.Store l.fn.conn) (state g.S.Store l.conn)
      (all_made (λ p. with_wait (wait_key_of p.0) (subject_of p.1)) (drop l.row-index l.rows))
      (all_made (λ p. with_wait (wait_key_of p.0) (subject_of p.1)) l.rows);
}
