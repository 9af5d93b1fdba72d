use Rattle.std.proofs.Common.{◌≡◌, ◌∙◌, ◌+◌, ◌-◌, ◌^◌, ◌<◌, true, false, Some, None, ap, sym, refl, rules, add-one}
use Rattle.std.specs.FinMap.{get}
use Rattle.report.specs.Figures.{number_of}
use Rattle.model.specs.Content.{VersionRow}
use Rattle.report.specs.Life.{is_of, is_row_of}
use Rattle.report.proofs.Counting.{counts_add, counts_none, counts_pass_over}
use Rattle.report.proofs.Ranging.{read_at, versions_add, versions_pass_over}
use Rattle.report.proofs.figures.read_versions.Goals as goal
use Rattle.report.proofs.figures.read_versions.Goals.{in-Some+then-is_of+in_ok-push_row, in-Some+else-is_of, in_default}

pub loop-id-init : goal.loop-id-init
loop-id-init g c = record {
  same = λ usable. (usable, refl);
  counts = λ usable. counts_none (g.S.StoreModel.content c.args.store.now)
      c.args.clock.now.minute.number;
  found = search rules;
}

pub loop-id-preserved : goal.loop-id-preserved
loop-id-preserved g c =
    let id = c.loop-id.id in
    let now = c.args.clock.now.minute.number in
    let old = g.S.StoreModel.content c.args.store.now in
    let number = number_of c.args.number in
    let next = add-one id in
    let fits : id < 2 ^ 64 - 1 = search rules in
    record {
      same = λ usable.
          let at = c.in_ok-row.ensures.looks_up.read_only.same usable in
          let was = c.loop-id.invariant.same at.0 in
          (was.0, at.1 ∙ was.1);
      counts = λ usable.
          let at = c.in_ok-row.ensures.looks_up.read_only.same usable in
          let was = c.loop-id.invariant.same at.0 in
          let counted = c.loop-id.invariant.counts at.0 in
          let read = read_at (λ m. get m.versions id) (g.S.StoreModel.content c.loop-id.store) old
          c.in_ok-row.field-0 in
          let row = c.in_ok-row.ensures.value usable in
          elim c.match-branch-2.branch [
            | in-Some+then-is_of+in_ok-push_row w ↦ rw w.counts-is (counts_add old now id (id + 1)
                next w.in-Some.row c.loop-id.counts w.add.new.self
                (read (Some w.in-Some.row) row was.1 w.in-Some.is) fits w.add.ensures counted)
            | in-Some+else-is_of w ↦ rw w.counts-is (counts_add old now id (id + 1)
                next w.in-Some.row c.loop-id.counts w.add.new.self
                (read (Some w.in-Some.row) row was.1 w.in-Some.is) fits w.add.ensures counted)
            | in_default w ↦ rw w.counts-is (counts_pass_over old now id (id + 1) next
                c.loop-id.counts (read None row was.1 w.in_default.is) counted)
          ];
      found = λ usable.
          let at = c.in_ok-row.ensures.looks_up.read_only.same usable in
          let was = c.loop-id.invariant.same at.0 in
          let ranged = c.loop-id.invariant.found at.0 in
          let read = read_at (λ m. get m.versions id) (g.S.StoreModel.content c.loop-id.store) old
          c.in_ok-row.field-0 in
          let row = c.in_ok-row.ensures.value usable in
          elim c.match-branch-2.branch [
            | in-Some+then-is_of+in_ok-push_row w ↦
                let is : is_row_of number (Some w.in-Some.row) ≡ true =
                sym (ap (λ (r : VersionRow). is_of number r.subject) w.row.view_is)
                ∙ sym w.is_of.ensures ∙ w.if-is_of.true in
                rw w.found-is (rw w.in_ok-push_row.ensures (versions_add old number id (id + 1) next
                c.loop-id.found.items w.in-Some.row
                (read (Some w.in-Some.row) row was.1 w.in-Some.is) is ranged))
            | in-Some+else-is_of w ↦
                let is : is_row_of number (Some w.in-Some.row) ≡ false =
                sym (ap (λ (r : VersionRow). is_of number r.subject) w.row.view_is)
                ∙ sym w.is_of.ensures ∙ w.if-is_of.false in
                rw w.found-is (versions_pass_over old number id (id + 1) next c.loop-id.found.items
                (Some w.in-Some.row) (read (Some w.in-Some.row) row was.1 w.in-Some.is) is ranged)
            | in_default w ↦ rw w.found-is (versions_pass_over old number id (id + 1) next
                c.loop-id.found.items None (read None row was.1 w.in_default.is) refl ranged)
          ];
    }
