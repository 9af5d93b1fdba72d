use Rattle.std.proofs.Common.{arith, rules, ◌≡◌, inl, inr, ◌∙◌, ap, sym, subst, Some}
use Rattle.std.proofs.lemmas.Result.{on_ok_weaker}
use Rattle.model.specs.Content.{Content, Represents}
use Rattle.settle.specs.Settling.{those_with_block}
use Rattle.settle.specs.Abstraction.{clock_row_of}
use Rattle.settle.proofs.Risen.{risen-since}
use Rattle.settle.proofs.Settled.{keeps-read}
use Rattle.settle.proofs.SettledBlock.{within_elsewhere, at_rest_elsewhere, within_settled}
use Rattle.settle.proofs.settling.settle_within.Goals as goal

pub returns-clause-elsewhere : goal.returns-clause-elsewhere
returns-clause-elsewhere g c = λ usable.
    let read = c.fire_subjects.ensures.preserves.usable usable in
    let at_numbers = c.in_ok-numbers.ensures.looks_up.read_only.same read in
    within_elsewhere _ _ _ _ _ c.args.block c.in_ok-numbers.numbers.items c.deref-2.result.now
    (rw c.in-Some.is at c.in_ok-clock.ensures.value at_numbers.0)
    (c.in_ok-clock.ensures.read_only.same at_numbers.0).1 at_numbers.1
    (c.deref-2.ensures.value ∙ c.in_ok-subjects.ensures
    ∙ ap (λ xs. those_with_block xs c.args.block) c.deref.ensures.value)
    (c.in_ok-numbers.ensures.value read) (c.fire_subjects.ensures.elsewhere usable)

pub returns-clause-at_rest : goal.returns-clause-at_rest
returns-clause-at_rest g c = λ usable.
    let read = c.fire_subjects.ensures.preserves.usable usable in
    let at_numbers = c.in_ok-numbers.ensures.looks_up.read_only.same read in
    at_rest_elsewhere _ _ _ _ _ c.args.block c.in_ok-numbers.numbers.items c.deref-2.result.now
    (rw c.in-Some.is at c.in_ok-clock.ensures.value at_numbers.0)
    (c.in_ok-clock.ensures.read_only.same at_numbers.0).1 at_numbers.1
    (c.deref-2.ensures.value ∙ c.in_ok-subjects.ensures
    ∙ ap (λ xs. those_with_block xs c.args.block) c.deref.ensures.value)
    (c.in_ok-numbers.ensures.value read) (c.fire_subjects.ensures.elsewhere usable)

pub returns-clause-settled : goal.returns-clause-settled
returns-clause-settled g c = on_ok_weaker c.fire_subjects.result (λ settled usable.
    let read = c.fire_subjects.ensures.preserves.usable usable in
    let at_numbers = c.in_ok-numbers.ensures.looks_up.read_only.same read in
    within_settled _ _ _ _ _ c.args.block c.in_ok-numbers.numbers.items c.deref-2.result.now
    (rw c.in-Some.is at c.in_ok-clock.ensures.value at_numbers.0)
    (c.in_ok-clock.ensures.read_only.same at_numbers.0).1 at_numbers.1
    (c.deref-2.ensures.value ∙ c.in_ok-subjects.ensures
    ∙ ap (λ xs. those_with_block xs c.args.block) c.deref.ensures.value)
    (c.in_ok-numbers.ensures.value read) (c.fire_subjects.ensures.elsewhere usable)
    (settled usable)) c.fire_subjects.ensures.settled

pub returns-clause-left : goal.returns-clause-left
returns-clause-left g c = λ honest m may.
    let read = c.fire_subjects.ensures.preserves.honest honest in
    let ready = c.in_ok-numbers.ensures.looks_up.answers tt read in
    let at_numbers = c.in_ok-numbers.ensures.looks_up.read_only.same ready in
    let at_clock = c.in_ok-clock.ensures.read_only.same at_numbers.0 in
    elim (c.fire_subjects.ensures.left ready honest m may) [
      | inl before ↦ inl (c.in_ok-clock.ensures.read_only.left
          (c.in_ok-numbers.ensures.looks_up.read_only.honest read) m
          (c.in_ok-numbers.ensures.looks_up.read_only.left read m before))
      | inr kept ↦ inr (
        at_clock.0,
        keeps-read (clock_row_of c.in-Some.clock) (g.S.StoreModel.content c.args.store.now)
            (g.S.StoreModel.content c.in_block.new.self) m (at_numbers.1 ∙ at_clock.1)
            (rw c.in-Some.is at c.in_ok-clock.ensures.value at_numbers.0) kept,
      )
    ]

pub returns-clause-preserves : goal.returns-clause-preserves
returns-clause-preserves g c = record {
  usable = search rules;
  honest = search rules;
  begins = search rules;
  ends = search rules;
  stays = λ answers usable honest. c.fire_subjects.ensures.preserves.stays answers
      (c.in_ok-numbers.ensures.looks_up.answers tt (c.fire_subjects.ensures.preserves.honest
      honest)) honest;
  rises = omega (
    arith,
    c.clock_if_due.ensures.read_only.rises,
    c.in_block.ensures.looks_up.read_only.rises,
    c.fire_subjects.ensures.preserves.rises,
  );
  storage = λ says.
      let at_numbers =
      c.in_ok-numbers.ensures.looks_up.read_only.same (c.fire_subjects.ensures.preserves.usable
      says.usable) in
      let at_clock = c.in_ok-clock.ensures.read_only.same at_numbers.0 in
      let same = at_numbers.1 ∙ at_clock.1 in
      let clock_is : (g.S.StoreModel.content c.args.store.now).clock
      ≡ Some (clock_row_of c.in-Some.clock) =
      rw c.in-Some.is at c.in_ok-clock.ensures.value at_numbers.0 in
      let a = c.clock_if_due.ensures.read_only.rises in
      let b = c.in_block.ensures.looks_up.read_only.rises in
      risen-since (g.S.StoreModel.failed c.args.store.now)
      (g.S.StoreModel.failed c.in_block.new.self)
      (g.S.StoreModel.failed c.fire_subjects.new.store) (omega arith)
      c.fire_subjects.ensures.preserves.rises
      (c.fire_subjects.ensures.preserves.storage (
        says.usable,
        says.says,
        (
          says.st,
          subst (λ m. Represents m says.st) (sym same) says.represents,
          ap (λ (m : Content). m.clock) same ∙ clock_is,
        ),
      ));
}
