use Rattle.std.proofs.Common.{◌+◌, ◌*◌, ◌≤◌, List}
use Rattle.std.specs.Prelude.{⊤}
use Rattle.model.specs.State.{State}
use Rattle.register.specs.Refinement.{Refines}
use Rattle.settle.specs.StoreContract.{PreservesStore}
use Rattle.bulk.specs.Noting.{SendsNoting}
use Rattle.bulk.specs.Rows.{Row, HasRows, IsPlain}
use Rattle.bulk.specs.Running.{RefinesReachable}
use Rattle.bulk.proofs.Passing.{Passes}
use Rattle.bulk.proofs.running.run_rows.Given as goal

abbrev pub invariant-loop-row : goal.invariant-loop-row
invariant-loop-row g l = record {
  plain : IsPlain l.reader;
  few : l.count + 1000 ≤ 1000 * l.row;
  owed : PreservesStore g.S.StoreModel
      l.fn.register.store
      l.register.store ⊤ ⊥;
  noted : SendsNoting (g.W.Write.contents l.fn.writer) (g.W.Write.contents l.writer)
      l.fn.line.has_refusal l.line.has_refusal;
  follows : g.S.StoreModel.IsUsable l.register.store → (st : State)
      → Refines (g.S.StoreModel.content l.fn.register.store) st
      → RefinesReachable st (g.S.StoreModel.content l.register.store);
  passes : g.S.StoreModel.IsUsable l.register.store → (st : State)
      → Refines (g.S.StoreModel.content l.fn.register.store) st → (rows : List Row)
      → HasRows g.R.Read.remaining l.fn.reader rows →
      Passes g.R.Read.remaining st rows l.reader (g.S.StoreModel.content l.register.store)
      (g.W.Write.contents l.fn.writer) (g.W.Write.contents l.writer) l.row l.count;
}
