use Rattle.std.proofs.Common.{◌≡◌, ◌∙◌, Some, true, option_map, ap, sym, subst}
use Rattle.std.specs.Prelude.{is_some}
use Rattle.std.specs.FinMap.{get}
use Rattle.model.specs.Content.{VersionRow}
use Rattle.version.specs.Abstraction.{windows_of}
use Rattle.invariants.specs.Flaws.{Judges}
use Rattle.invariants.specs.Sound.{AreColumnsSound, HasSending, IsUnderBlock}
use Rattle.invariants.proofs.Judging.{reflected}
use Rattle.invariants.proofs.versions.version_flaw.Goals as goal

pub returns-in-Some-column_flaw-clause-value : goal.returns-in-Some-column_flaw-clause-value
returns-in-Some-column_flaw-clause-value g c = λ usable clock now found.
    let old = g.S.StoreModel.content c.args.store.now in
    let has : get old.sets c.args.row.now.held ≡ Some (windows_of c.in-Some.windows) =
    ap (λ (r : VersionRow). get old.sets r.held) (sym c.row.view_is)
    ∙ sym (c.in_ok-windows.ensures.value usable) ∙ ap (option_map windows_of) c.in-Some.is in
    c.in-Some-column_flaw.ensures old clock now found has

pub returns-clause-value : goal.returns-clause-value
returns-clause-value g c = λ usable clock now found.
    let old = g.S.StoreModel.content c.args.store.now in
    let row = c.args.row.now in
    let id = c.args.id in
    let third = c.in_ok-is_under_block.ensures.same usable in
    let second = c.in_ok-has_sending.ensures.same third.0 in
    let first = c.in_ok-windows.ensures.looks_up.read_only.same second.0 in
    let has : get old.sets row.held ≡ Some (windows_of c.in-Some.windows) =
    ap (λ (r : VersionRow). get old.sets r.held) (sym c.row.view_is)
    ∙ sym (c.in_ok-windows.ensures.value second.0) ∙ ap (option_map windows_of) c.in-Some.is in
    record {
      has_set = ap is_some has;
      columns = subst (Judges old clock (AreColumnsSound old clock row))
          c.in_default-column_flaw.is (c.column_flaw.ensures old clock now found has);
      sending = reflected (λ m. HasSending m id row)
          (g.S.StoreModel.content c.window_set.new.self) old c.in_ok-has_sending.field-0 true
          first.1 c.if-not-branch.false
          (c.in_ok-has_sending.ensures.value third.0);
      block = reflected (λ m. IsUnderBlock m id row)
          (g.S.StoreModel.content c.has_sending.new.store) old c.in_ok-is_under_block.field-0 true
          (second.1 ∙ first.1) c.if-not-branch-2.false
          (c.in_ok-is_under_block.ensures.value usable);
    }
