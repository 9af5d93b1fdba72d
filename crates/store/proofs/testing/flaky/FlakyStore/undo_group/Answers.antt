use Rattle.std.proofs.Common.{rules, subst, sym}
use Rattle.settle.specs.StoreContract.{UndoesGroup}
use Rattle.store.proofs.testing.flaky.FlakyStore.undo_group.Goals as goal

pub returns-in-Err : goal.returns-in-Err
returns-in-Err g c =
    let below = subst (λ s. UndoesGroup g.S.StoreModel s c.undo_group.new.self c.undo_group.result)
    c.in-Err.ensures.same c.undo_group.ensures in
    record {
      leaves = record {
        ended = below.leaves.ended;
        honest = below.leaves.honest;
        rises = search rules;
        counts = search rules;
        faults = below.leaves.faults;
      };
      undone = below.undone;
      left = below.left;
    }

pub returns : goal.returns
returns g c =
    let below = subst (λ s. UndoesGroup g.S.StoreModel s c.undo_group-2.new.self c.counted.result)
    c.in_default.ensures.same
    (subst (UndoesGroup g.S.StoreModel c.count_down.new.self.store c.undo_group-2.new.self)
    (sym c.counted.ensures.same) c.undo_group-2.ensures) in
    record {
      leaves = record {
        ended = below.leaves.ended;
        honest = below.leaves.honest;
        rises = search rules;
        counts = search rules;
        faults = below.leaves.faults;
      };
      undone = below.undone;
      left = below.left;
    }
