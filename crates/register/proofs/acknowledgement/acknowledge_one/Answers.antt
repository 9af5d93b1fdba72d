use Rattle.std.proofs.Common.{◌≡◌, None, Some, false, ap, refl, sym, ◌∙◌, subst, option_map}
use Rattle.std.specs.Prelude.{if◌then◌else◌}
use Rattle.std.specs.FinMap.{get}
use Rattle.settle.specs.Changes.{AppliesChanges}
use Rattle.model.specs.Content.{broadcast_key}
use Rattle.settle.specs.Abstraction.{broadcast_row_of, wait_key_of}
use Rattle.numbers.proofs.Small.{same_number}
use Rattle.version.specs.Abstraction.{windows_of}
use Rattle.requests.specs.Calls.{view_of}
use Rattle.register.proofs.Downloads.Marked.{marks_row}
use Rattle.register.proofs.acknowledgement.acknowledge_one.Goals as goal

pub returns-clause-taken : goal.returns-clause-taken
returns-clause-taken g c = λ usable last m changed.
    let old = g.S.StoreModel.content c.args.store.now in
    let stored : get old.broadcasts (broadcast_key c.args.wait.id c.args.wait.attempt)
    ≡ Some (broadcast_row_of c.in-Some.broadcast) =
    ap (get old.broadcasts) (sym c.broadcast_of.ensures)
    ∙ sym (c.in_ok-broadcast.ensures.value usable) ∙ ap (option_map broadcast_row_of)
    c.in-Some.is in (
      view_of c.of.result,
      refl,
      record {
        broadcast = broadcast_row_of c.in-Some.broadcast;
        is_last = false;
        earlier = None;
        after = c.args.version.now;
        windows = windows_of c.args.held.now;
        windows_are = sym (ap (λ b. if b then windows_of c.args.held.now else windows_of
            c.args.clock.now.present.windows) (same_number c.args.version.now.held));
        found = record {
          stored = stored;
          last = last;
          replaced = refl;
        };
        becomes = record { subject = refl; version = λ id broadcasts windows. refl };
        changed = marks_row old m (wait_key_of c.args.wait) (broadcast_row_of c.in-Some.broadcast)
            stored (subst (λ d. AppliesChanges d old m) c.stage_one.ensures changed);
        shown = c.of.ensures;
      },
    )
