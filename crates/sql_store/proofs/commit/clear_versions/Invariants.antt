use Rattle.std.proofs.Common.{drop}
use Rattle.sqlite.specs.Held.{state}
use Rattle.sql_store.specs.Changes.{all_made, without_version}
use Rattle.sql_store.specs.Store.{IsTransactionProgress}
use Rattle.sql_store.proofs.commit.clear_versions.Given as goal

-- The changes so far, with those left after them, are all changes.
abbrev pub invariant-loop-row : goal.invariant-loop-row
invariant-loop-row g l = record {
  goes : IsTransactionProgress (state g.S.Store l.fn.conn) (state g.S.Store l.conn)
      (all_made (λ p. without_version p.0) (drop l.row-index l.rows))
      (all_made (λ p. without_version p.0) l.rows);
}
