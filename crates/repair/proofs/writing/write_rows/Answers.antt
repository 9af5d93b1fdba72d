use Rattle.std.proofs.Common.{◌≡◌, ◌∙◌, ap, subst}
use Rattle.std.specs.Prelude.{Ok}
use Rattle.settle.specs.StoreContract.{IsGroupBegun, IsGroupEnded}
use Rattle.repair.proofs.Preserving.{as_before, on_err}
use Rattle.repair.proofs.writing.write_rows.Goals as goal

pub returns-in-Err-clause-refused : goal.returns-in-Err-clause-refused
returns-in-Err-clause-refused g c = λ usable.
    let store = g.S.StoreModel in
    let begun = subst (IsGroupBegun store c.args.store.now c.begin_group.new.self)
    (c.in_ok-begin_group.was ∙ ap (λ b. Ok b) c.if-not-branch.false)
    c.begin_group.ensures.begun in
    (as_before store c.args.store.now c.begin_group.new.self c.write_all.new.store
    c.undo_group.new.self begun c.write_all.ensures.preserves c.undo_group.ensures.undone
    usable).1

pub returns-in_err-end_group-clause-refused : goal.returns-in_err-end_group-clause-refused
returns-in_err-end_group-clause-refused g c =
    let store = g.S.StoreModel in
    let begun = subst (IsGroupBegun store c.args.store.now c.begin_group.new.self)
    (c.in_ok-begin_group.was ∙ ap (λ b. Ok b) c.if-not-branch.false)
    c.begin_group.ensures.begun in
    let undone = subst (IsGroupEnded store c.write_all.new.store c.end_group.new.self)
    c.in_err-end_group.was c.end_group.ensures.content in
    let same : store.IsUsable c.end_group.new.self
    → store.content c.end_group.new.self ≡ store.content c.args.store.now =
    λ usable. (as_before store c.args.store.now c.begin_group.new.self c.write_all.new.store
    c.end_group.new.self begun c.write_all.ensures.preserves undone usable).1 in
    on_err c.from_residual-in_err-end_group.result same
