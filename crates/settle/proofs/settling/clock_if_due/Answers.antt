use Rattle.std.proofs.Common.{◌≡◌, ◌∙◌, ap, sym, subst, None, Some}
use Rattle.std.specs.Prelude.{option_map}
use Rattle.settle.specs.Reads.{IsLeastDue}
use Rattle.settle.specs.Abstraction.{clock_row_of}
use Rattle.settle.proofs.Settled.{none-due_at_all, clock_minute}
use Rattle.settle.proofs.settling.clock_if_due.Goals as goal

pub returns-else-branch-clause-value : goal.returns-else-branch-clause-value
returns-else-branch-clause-value g c = λ usable st rep written s.
    let at_due = c.in_ok-is_any_due.ensures.looks_up.read_only.same usable in
    let old = g.S.StoreModel.content c.args.store.now in
    let clock_is : old.clock ≡ Some (clock_row_of c.in-Some.clock) =
    sym (c.in_ok-clock.ensures.value at_due.0) ∙ ap (option_map clock_row_of) c.in-Some.is in
    let none : IsLeastDue (g.S.StoreModel.content c.clock.new.self) c.in-Some.clock.minute.number
    None =
    rw c.if-branch.false at c.in_ok-is_any_due.ensures.value usable in
    none-due_at_all st old rep
    (subst (λ k. IsLeastDue old k None)
    (clock_minute st old (clock_row_of c.in-Some.clock) rep clock_is)
    (subst (λ m. IsLeastDue m c.in-Some.clock.minute.number None)
    (c.in_ok-clock.ensures.looks_up.read_only.same at_due.0).1 none)) s
