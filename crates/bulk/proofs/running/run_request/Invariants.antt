use Rattle.std.proofs.Common.{◌≡◌, ◌+◌, ◌-◌, ◌≤◌, ℕ, map}
use Rattle.std.specs.Prelude.{⊤}
use Rattle.model.specs.State.{State}
use Rattle.register.specs.Refinement.{Refines}
use Rattle.settle.specs.StoreContract.{PreservesStore}
use Rattle.bulk.specs.Noting.{SendsNoting}
use Rattle.bulk.specs.Report.{CommandTask, rising}
use Rattle.bulk.specs.Running.{DoesAll}
use Rattle.bulk.proofs.running.run_request.Given as goal

abbrev pub invariant-loop-number : goal.invariant-loop-number
invariant-loop-number g l = record {
  from : l.numbers.first.number ≤ l.number;
  counted : l.written ≡ l.fn.count + (l.number - l.numbers.first.number);
  owed : PreservesStore g.S.StoreModel
      l.fn.register.store
      l.register.store ⊤ ⊥;
  noted : SendsNoting (g.W.Write.contents l.fn.writer) (g.W.Write.contents l.writer)
      l.fn.line.has_refusal l.line.has_refusal;
  going : g.S.StoreModel.IsUsable l.register.store → (st : State)
      → Refines (g.S.StoreModel.content l.fn.register.store) st →
      DoesAll st (map (λ (n : ℕ). CommandTask l.row l.request.caller.number n l.request.operation)
      (rising l.numbers.first.number (l.number - l.numbers.first.number)))
      (g.S.StoreModel.content l.register.store)
      (g.W.Write.contents l.fn.writer) (g.W.Write.contents l.writer) l.fn.count l.written;
}
