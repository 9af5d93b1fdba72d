use Rattle.std.proofs.Common.{arith, rules, ◌≡◌, inl, inr, ◌∙◌, ap, sym, subst, true, Some}
use Rattle.std.specs.FinMap.{get}
use Rattle.std.proofs.lemmas.Result.{on_ok_weaker}
use Rattle.model.specs.Content.{Content, Represents, VersionRow}
use Rattle.settle.specs.Settling.{is_subject_of}
use Rattle.settle.specs.Abstraction.{clock_row_of}
use Rattle.settle.proofs.Risen.{risen-since}
use Rattle.settle.proofs.Settled.{keeps-read}
use Rattle.settle.proofs.settling.settle_subject_of.Goals as goal

pub returns-clause-settled : goal.returns-clause-settled
returns-clause-settled g c = on_ok_weaker c.fire_due.result
    (λ settled usable s its st rep written.
    let read = c.fire_due.ensures.preserves.usable usable in
    let at_row = c.in_ok-row.ensures.looks_up.read_only.same read in
    let at_clock = c.in_ok-clock.ensures.read_only.same at_row.0 in
    let same = at_row.1 ∙ at_clock.1 in
    let clock_is : (g.S.StoreModel.content c.args.store.now).clock
    ≡ Some (clock_row_of c.in-Some.clock) =
    rw c.in-Some.is at c.in_ok-clock.ensures.value at_row.0 in
    let found : get (g.S.StoreModel.content c.args.store.now).versions c.args.id
    ≡ Some c.in-Some-2.row =
    ap (λ (m : Content). get m.versions c.args.id) (sym at_clock.1)
    ∙ sym (c.in_ok-row.ensures.value read) ∙ c.in-Some-2.is in
    let own : is_subject_of (Some c.in-Some-2.row) s ≡ true =
    subst (λ o. is_subject_of o s ≡ true) found its in
    settled usable s
    (ap (λ (r : VersionRow). is_subject_of (Some r) s) c.row.view_is ∙ own) st
    (subst (λ m. Represents m st) (sym same) rep) (ap (λ (m : Content). m.clock) same ∙ clock_is))
    c.fire_due.ensures.settled

pub returns-clause-left : goal.returns-clause-left
returns-clause-left g c = λ honest m may.
    let read = c.fire_due.ensures.preserves.honest honest in
    let ready = c.in_ok-row.ensures.looks_up.answers tt read in
    let at_row = c.in_ok-row.ensures.looks_up.read_only.same ready in
    let at_clock = c.in_ok-clock.ensures.read_only.same at_row.0 in
    elim (c.fire_due.ensures.left ready honest m may) [
      | inl before ↦ inl (c.in_ok-clock.ensures.read_only.left
          (c.in_ok-row.ensures.looks_up.read_only.honest read) m
          (c.in_ok-row.ensures.looks_up.read_only.left read m before))
      | inr kept ↦ inr (
        at_clock.0,
        keeps-read (clock_row_of c.in-Some.clock) (g.S.StoreModel.content c.args.store.now)
            (g.S.StoreModel.content c.version.new.self) m (at_row.1 ∙ at_clock.1)
            (rw c.in-Some.is at c.in_ok-clock.ensures.value at_row.0) kept,
      )
    ]

pub returns-clause-preserves : goal.returns-clause-preserves
returns-clause-preserves g c = record {
  usable = search rules;
  honest = search rules;
  begins = search rules;
  ends = search rules;
  stays = λ answers usable honest. c.fire_due.ensures.preserves.stays answers
      (c.in_ok-row.ensures.looks_up.answers tt (c.fire_due.ensures.preserves.honest honest)) honest;
  rises = omega (
    arith,
    c.clock_if_due.ensures.read_only.rises,
    c.version.ensures.looks_up.read_only.rises,
    c.fire_due.ensures.preserves.rises,
  );
  storage = λ says.
      let at_row = c.in_ok-row.ensures.looks_up.read_only.same
      (c.fire_due.ensures.preserves.usable says.usable) in
      let at_clock = c.in_ok-clock.ensures.read_only.same at_row.0 in
      let same = at_row.1 ∙ at_clock.1 in
      let clock_is : (g.S.StoreModel.content c.args.store.now).clock
      ≡ Some (clock_row_of c.in-Some.clock) =
      rw c.in-Some.is at c.in_ok-clock.ensures.value at_row.0 in
      let a = c.clock_if_due.ensures.read_only.rises in
      let b = c.version.ensures.looks_up.read_only.rises in
      risen-since (g.S.StoreModel.failed c.args.store.now)
      (g.S.StoreModel.failed c.version.new.self)
      (g.S.StoreModel.failed c.fire_due.new.store) (omega arith)
      c.fire_due.ensures.preserves.rises
      (c.fire_due.ensures.preserves.storage (
        says.usable,
        says.says,
        (
          says.st,
          subst (λ m. Represents m says.st) (sym same) says.represents,
          ap (λ (m : Content). m.clock) same ∙ clock_is,
        ),
      ));
}
