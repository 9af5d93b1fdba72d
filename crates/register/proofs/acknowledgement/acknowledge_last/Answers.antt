use Rattle.std.proofs.Common.{rules, Ok, true, ap, refl, subst}
use Rattle.std.specs.Prelude.{IfSome}
use Rattle.settle.specs.Changes.{AppliesChanges}
use Rattle.settle.specs.Abstraction.{broadcast_row_of, wait_key_of}
use Rattle.version.specs.Acknowledging.{completed_if}
use Rattle.version.specs.Abstraction.{Becomes, set_of, windows_of}
use Rattle.requests.specs.Calls.{view_of}
use Rattle.register.specs.Acknowledging.{IsFound}
use Rattle.register.specs.declared.acknowledgement.LastDownload.{LastDownload}
use Rattle.register.proofs.acknowledgement.acknowledge_last.Goals as goal

pub returns-clause-taken : goal.returns-clause-taken
returns-clause-taken g c = λ usable last m changed. (
  view_of c.of.result,
  refl,
  record {
    broadcast = broadcast_row_of c.in-Some.found.broadcast;
    is_last = true;
    earlier = c.in-Some.found.earlier;
    after = c.answered-after.result;
    windows = windows_of c.windows_after-windows.result;
    windows_are = c.windows_after-windows.ensures;
    found = subst
        (λ o. IfSome o (λ (f : LastDownload). IsFound (g.S.StoreModel.content c.args.store.now)
        (wait_key_of c.args.wait) c.args.version.now (broadcast_row_of f.broadcast) true f.earlier))
        c.in-Some.is
        (c.in_ok-found.ensures.value usable last);
    becomes = subst (λ b. Becomes (completed_if (set_of c.args.clock.now.present) b
        c.args.clock.now.minute.number) c.args.version.now c.answered-after.result)
        c.completes-is_complete.ensures c.answered-after.ensures;
    changed = subst (λ d. AppliesChanges d (g.S.StoreModel.content c.args.store.now) m)
        c.stage_last.ensures
        changed;
    shown = c.of.ensures;
  },
)

pub returns-in_default-clause-read_only : goal.returns-in_default-clause-read_only
returns-in_default-clause-read_only g c = record {
  same = search rules;
  honest = search rules;
  begins = search rules;
  ends = search rules;
  stays = search rules;
  rises = search rules;
  storage = λ (usable, there, said). absurd
      (there (c.in_ok-found.ensures.missing usable (ap Ok c.in_default.is)));
  left = search rules;
}
