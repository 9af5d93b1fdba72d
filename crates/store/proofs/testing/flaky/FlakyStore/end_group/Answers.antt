use Rattle.std.proofs.Common.{rules, inl, subst, sym}
use Rattle.settle.specs.StoreContract.{EndsGroup, UndoesGroup}
use Rattle.store.proofs.testing.flaky.FlakyStore.end_group.Goals as goal

pub returns-in-Err : goal.returns-in-Err
returns-in-Err g c =
    let below = subst (λ s. UndoesGroup g.S.StoreModel s c.undo_group.new.self c.undo_group.result)
    c.in-Err.ensures.same c.undo_group.ensures in
    record {
      leaves = record {
        ended = below.leaves.ended;
        honest = below.leaves.honest;
        rises = search rules;
        counts = search rules;
        faults = below.leaves.faults;
      };
      content = below.undone;
      stays = λ answered. absurd answered;
      left = λ honest m may. inl (below.left honest m may);
    }

pub returns : goal.returns
returns g c =
    let below = subst (λ s. EndsGroup g.S.StoreModel s c.end_group.new.self c.counted.result)
    c.in_default.ensures.same
    (subst (EndsGroup g.S.StoreModel c.count_down.new.self.store c.end_group.new.self)
    (sym c.counted.ensures.same) c.end_group.ensures) in
    record {
      leaves = record {
        ended = below.leaves.ended;
        honest = below.leaves.honest;
        rises = search rules;
        counts = search rules;
        faults = below.leaves.faults;
      };
      content = below.content;
      stays = below.stays;
      left = below.left;
    }
