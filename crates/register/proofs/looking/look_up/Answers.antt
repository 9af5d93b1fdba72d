use Rattle.std.proofs.Common.{arith, rules, ◌≡◌, Some, Err, ap, sym, subst, ◌∙◌}
use Rattle.std.specs.Prelude.{option_map}
use Rattle.std.specs.FinMap.{get}
use Rattle.model.specs.Content.{Content, VersionRow}
use Rattle.settle.proofs.Risen.{risen-since}
use Rattle.settle.specs.Abstraction.{clock_row_of}
use Rattle.register.specs.Looking.{HasSet}
use Rattle.settle.proofs.Faults.{storage_by}
use Rattle.register.proofs.looking.look_up.Goals as goal

-- The set of the row is there, so `Storage` is reported only if the device failed.
pub returns-in_err-held-clause-read_only : goal.returns-in_err-held-clause-read_only
returns-in_err-held-clause-read_only g c = record {
  same = λ usable.
      let third = c.in_err-held.ensures.read_only.same usable in
      let second = c.in_ok-row.ensures.looks_up.read_only.same third.0 in
      let first = c.in_ok-clock.ensures.looks_up.read_only.same second.0 in
      (first.0, third.1 ∙ second.1 ∙ first.1);
  honest = λ honest. c.in_ok-clock.ensures.looks_up.read_only.honest
      (c.in_ok-row.ensures.looks_up.read_only.honest (c.in_err-held.ensures.read_only.honest
      honest));
  begins = search rules;
  ends = λ usable m inside.
      let third = c.in_err-held.ensures.read_only.same usable in
      let second = c.in_ok-row.ensures.looks_up.read_only.same third.0 in
      c.in_err-held.ensures.read_only.ends usable m
      (c.in_ok-row.ensures.looks_up.read_only.ends third.0 m
      (c.in_ok-clock.ensures.looks_up.read_only.ends second.0 m inside));
  stays = search rules;
  rises = omega arith;
  storage = λ (usable, has, said).
      let old = g.S.StoreModel.content c.args.store.now in
      let third = c.in_err-held.ensures.read_only.same usable in
      let second = c.in_ok-row.ensures.looks_up.read_only.same third.0 in
      let first = c.in_ok-clock.ensures.looks_up.read_only.same second.0 in
      let clock_is : (g.S.StoreModel.content c.args.store.now).clock
      ≡ Some (clock_row_of c.in-Some.clock) =
      sym (c.in_ok-clock.ensures.value second.0) ∙ ap (option_map clock_row_of) c.in-Some.is in
      let found : get (g.S.StoreModel.content c.args.store.now).versions c.args.id
      ≡ Some c.in-Some-2.row =
      ap (λ (m : Content). get m.versions c.args.id) (sym first.1)
      ∙ sym (c.in_ok-row.ensures.value third.0) ∙ c.in-Some-2.is in
      let there : HasSet old (clock_row_of c.in-Some.clock) c.in-Some-2.row.held =
      has.has_set (clock_row_of c.in-Some.clock) c.in-Some-2.row clock_is found in
      let a = c.clock.ensures.looks_up.read_only.rises in
      let b = c.version.ensures.looks_up.read_only.rises in
      risen-since (g.S.StoreModel.failed c.args.store.now)
      (g.S.StoreModel.failed c.version.new.self)
      (g.S.StoreModel.failed c.held_windows.new.store) (omega arith)
      c.held_windows.ensures.read_only.rises
      (c.in_err-held.ensures.read_only.storage (
        usable,
        subst (λ (m : Content). HasSet m (clock_row_of c.in-Some.clock) c.row.inside.version.held)
            (sym (second.1 ∙ first.1))
            (subst (λ (r : VersionRow). HasSet old (clock_row_of c.in-Some.clock) r.held)
            (sym c.row.view_is) there),
        ap Err (storage_by c.from_residual-in_err-held.result c.in_err-held.field-0.0 (search rules)
            said),
      ));
  left = λ honest m may.
      let second = c.in_err-held.ensures.read_only.honest honest in
      let first = c.in_ok-row.ensures.looks_up.read_only.honest second in
      c.in_ok-clock.ensures.looks_up.read_only.left first m
      (c.in_ok-row.ensures.looks_up.read_only.left second m (c.in_err-held.ensures.read_only.left
      honest m
      may));
}
