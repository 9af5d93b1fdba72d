use Rattle.std.proofs.Common.{rules}
use Rattle.model.specs.Machine.{Found}
use Rattle.model.specs.Refusals.{QuestionFrom, Ids}
use Rattle.requests.specs.Calls.{replied}
use Rattle.register.proofs.EveryCall.Before.{answers_after, leaves_after}
use Rattle.settle.proofs.Faults.{fault_is_none}
use Rattle.register.proofs.register.Register.ids.Goals as goal

pub returns-clause-answers : goal.returns-clause-answers
returns-clause-answers g c = λ usable caller.
    let middle = c.ids.ensures.preserves.usable usable in
    answers_after (g.S.StoreModel.content c.args.self.now.store)
    (g.S.StoreModel.content c.settle_number.new.store) (g.S.StoreModel.content c.ids.new.store)
    (QuestionFrom caller (Ids c.args.tn.number))
    (c.in_ok-settle_number.ensures.kept middle) (c.in_ok-settle_number.ensures.settled middle)
    (replied (λ found. Found found.in_force found.opened) c.ids.result)
    (c.ids.ensures.answers usable caller)

pub returns-clause-elsewhere : goal.returns-clause-elsewhere
returns-clause-elsewhere g c = λ usable caller.
    let middle = c.ids.ensures.preserves.usable usable in
    leaves_after (g.S.StoreModel.content c.args.self.now.store)
    (g.S.StoreModel.content c.settle_number.new.store) (g.S.StoreModel.content c.ids.new.store)
    (QuestionFrom caller (Ids c.args.tn.number))
    (c.in_ok-settle_number.ensures.kept middle) (c.in_ok-settle_number.ensures.settled middle)
    (replied (λ found. Found found.in_force found.opened) c.ids.result)
    (c.ids.ensures.answers usable caller)

pub returns-in_err-settle_number-clause-preserves : goal.returns-in_err-settle_number-clause-preserves
returns-in_err-settle_number-clause-preserves g c = record {
  usable = search rules;
  honest = search rules;
  begins = search rules;
  ends = search rules;
  stays = λ answered. absurd (fault_is_none c.from_residual.result c.in_err-settle_number.field-0.0
      (search rules) answered);
  rises = search rules;
  storage = search rules;
}
