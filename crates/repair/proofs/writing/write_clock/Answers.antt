use Rattle.std.proofs.Common.{Some, ap, subst}
use Rattle.version.specs.Abstraction.{windows_of}
use Rattle.settle.specs.Changes.{AppliesChanges, Changes}
use Rattle.repair.specs.Entries.{WindowSet}
use Rattle.repair.proofs.Clock.{clock_written}
use Rattle.repair.proofs.writing.write_clock.Goals as goal

pub returns-clause-written : goal.returns-clause-written
returns-clause-written g c = λ entries usable has is.
    let minute = c.args.moved.minute.number in
    let next_id = c.args.moved.next_id in
    let number = c.args.present.number in
    let w = windows_of c.args.present.windows in
    let old = g.S.StoreModel.content c.args.store.now in
    let new = g.S.StoreModel.content c.commit.new.self in
    clock_written minute next_id number w old new
    (subst (λ x. AppliesChanges x old new)
    (ap (λ (x : Changes). let y : Changes = record x {
      clock = Some (record { minute = minute; next_id = next_id });
      set = Some (record { number = number; windows = w });
    } in y) c.none-changes.ensures)
    (c.in_ok-commit.ensures.done usable))
    (has.each (WindowSet number w) is.there) entries has
