use Rattle.std.proofs.Common.{◌≡◌, rules, true, ap, refl, ◌∙◌, subst}
use Rattle.std.specs.Prelude.{Err, Ok, option_map}
use Rattle.std.specs.FinMap.{keys}
use Rattle.numbers.specs.Abstraction.{subject_of}
use Rattle.model.specs.Commands.{Release}
use Rattle.model.specs.Content.{Content}
use Rattle.version.specs.Abstraction.{model_with_windows, set_of, windows_of}
use Rattle.pool.specs.Releases.{IsReleased}
use Rattle.settle.specs.Changes.{AppliesChanges}
use Rattle.settle.specs.Transition.{transition_changes}
use Rattle.settle.specs.Abstraction.{clock_row_of}
use Rattle.requests.specs.Calls.{reply_of, view_of}
use Rattle.register.proofs.OnBlocks.BlockCalled.{answers_unfound, has_found, releaser_unknown}
use Rattle.register.proofs.EveryCall.Deciding.{decides_err, decides_fault, decides_replied}
use Rattle.settle.proofs.ReadOn.{reads_fault, reads_on, reads_refused}
use Rattle.register.proofs.OnBlocks.Released.{answers_release_refused, answers_released, release_never}
use Rattle.settle.proofs.Faults.{same_refusal}
use Rattle.register.proofs.EveryCall.Failed.{reads_failed}
use Rattle.model.specs.declared.refusal.Refusal.TheVariants.{Storage}
use Rattle.register.proofs.pooling.release.Goals as goal

pub returns-in_err-found-clause-decides : goal.returns-in_err-found-clause-decides
returns-in_err-found-clause-decides g c = λ usable.
    let old = g.S.StoreModel.content c.args.store.now in
    let at_carrier = c.in_err-found.ensures.read_only.same usable in
    decides_replied old _ _ c.from_residual-in_err-found.result c.in_err-found.field-0.0
    (search rules)
    (answers_unfound old old c.args.caller.number (Release c.args.block.number)
    c.in_ok-is_known.is_known reply_of c.from_residual-in_err-found.result c.in_err-found.field-0.0
    (search rules) refl
    (c.in_err-found.ensures.refused usable)
    (λ st refines. releaser_unknown st old c.args.caller.number c.args.block.number refines
    c.in_ok-is_known.is_known (c.in_ok-is_known.ensures.value at_carrier.0)))

pub returns-in_err-transition-clause-decides : goal.returns-in_err-transition-clause-decides
returns-in_err-transition-clause-decides g c = λ usable.
    let old = g.S.StoreModel.content c.args.store.now in
    let at_carrier = c.in_ok-found.ensures.read_only.same usable in
    let at_start = c.in_ok-is_known.ensures.read_only.same at_carrier.0 in
    let has = has_found old (g.S.StoreModel.content c.is_known.new.store) c.args.caller.number
    c.args.block.number (Release c.args.block.number) (clock_row_of c.in_ok-found.found.clock)
    c.in_ok-found.found.read c.facts-facts.result
    c.in_ok-is_known.is_known true at_start.1 (c.in_ok-found.ensures.found usable)
    (λ st refines. releaser_unknown st old c.args.caller.number c.args.block.number refines
    c.in_ok-is_known.is_known (c.in_ok-is_known.ensures.value at_carrier.0)) refl
    c.facts-facts.ensures in
    decides_err old _ _ c.from_residual-in_err-transition.result c.in_err-transition.field-0.0
    (search rules)
    (answers_release_refused old old c.args.caller.number c.args.block.number _ _ _ has _ refl
    c.in_err-transition.ensures.refusal)

pub returns-in_err-transition-clause-read_only : goal.returns-in_err-transition-clause-read_only
returns-in_err-transition-clause-read_only g c =
    reads_refused (reads_on c.in_ok-is_known.ensures.read_only tt c.in_ok-found.ensures.read_only
    tt) tt
    (λ says. release_never c.args.caller.number c.facts-facts.result c.in_err-transition.field-0.0
    c.in_err-transition.ensures.refusal
    (same_refusal c.in_err-transition.field-0.0 c.from_residual-in_err-transition.result
    (search rules) says.says))

pub returns-clause-decides : goal.returns-clause-decides
returns-clause-decides g c = λ usable.
    let old = g.S.StoreModel.content c.args.store.now in
    let at_found = c.in_ok-stage_transition.ensures.read_only.same usable in
    let at_carrier = c.in_ok-found.ensures.read_only.same at_found.0 in
    let at_start = c.in_ok-is_known.ensures.read_only.same at_carrier.0 in
    let clock = c.in_ok-found.found.clock in
    let transition = c.in_ok-transition.transition in
    let all_carriers = keys (g.S.StoreModel.content c.find_block.new.store).carriers in
    let has = has_found old (g.S.StoreModel.content c.is_known.new.store) c.args.caller.number
    c.args.block.number (Release c.args.block.number) (clock_row_of c.in_ok-found.found.clock)
    c.in_ok-found.found.read c.facts-facts.result
    c.in_ok-is_known.is_known true at_start.1 (c.in_ok-found.ensures.found at_found.0)
    (λ st refines. releaser_unknown st old c.args.caller.number c.args.block.number refines
    c.in_ok-is_known.is_known (c.in_ok-is_known.ensures.value at_carrier.0)) refl
    c.facts-facts.ensures in
    let released = subst (λ o. IsReleased (set_of clock.present) clock.minute.number o transition)
    (c.facts-facts.ensures.last ∙ ap (option_map (λ e. e.1)) c.in-Some.is)
    c.in_ok-transition.ensures.released in
    let rows = c.in_ok-stage_transition.ensures.value usable ∙ ap
    (λ s. transition_changes c.in-Some.id clock.minute.number s
    (subject_of transition.version.subject)
    (model_with_windows (windows_of clock.present.windows) transition.version) all_carriers)
    released.0 in
    record {
      refused = tt;
      accepted = λ m changed. answers_released old m c.args.caller.number c.args.block.number _ _ _
          has c.in-Some.id c.in-Some.field-0-1 transition.version all_carriers (view_of c.of.result)
          c.in_ok-transition.ensures.refusal c.in-Some.is released.1
          (ap (λ (k : Content). keys k.carriers) (at_carrier.1 ∙ at_start.1)) c.of.ensures
          (subst (λ d. AppliesChanges d old m) rows changed);
    }

pub returns-in_err-stage_transition-clause-decides : goal.returns-in_err-stage_transition-clause-decides
returns-in_err-stage_transition-clause-decides g c = λ usable. decides_fault _ _ _
    c.from_residual-in_err-stage_transition.result c.in_err-stage_transition.field-0.0
    (search rules)

pub returns-in_err-stage_transition-clause-read_only : goal.returns-in_err-stage_transition-clause-read_only
returns-in_err-stage_transition-clause-read_only g c =
    reads_fault (reads_on c.in_ok-is_known.ensures.read_only tt c.in_ok-found.ensures.read_only tt)
    tt
    c.in_err-stage_transition.ensures.read_only c.from_residual-in_err-stage_transition.result
    c.in_err-stage_transition.field-0.0
    (search rules) (ap Err)

pub returns-in_err-is_known-clause-decides : goal.returns-in_err-is_known-clause-decides
returns-in_err-is_known-clause-decides g c = λ usable. decides_fault _ _ _ c.from_residual.result
    c.in_err-is_known.field-0.0 (search rules)

pub returns-in_err-is_known-clause-read_only : goal.returns-in_err-is_known-clause-read_only
returns-in_err-is_known-clause-read_only g c = reads_failed
    c.in_err-is_known.ensures.read_only c.from_residual.result c.in_err-is_known.field-0.0
    (search rules) (ap Err)

pub returns-clause-read_only : goal.returns-clause-read_only
returns-clause-read_only g c = reads_refused
    (reads_on (reads_on c.in_ok-is_known.ensures.read_only tt
    c.in_ok-found.ensures.read_only tt) tt
    c.in_ok-stage_transition.ensures.read_only tt) tt
    (λ told. let never : Ok _ ≡ Err Storage = told.says in cc)

pub returns-clause-open : goal.returns-clause-open
returns-clause-open g c = λ honest.
    let h_stage = c.in_ok-stage_transition.ensures.read_only.honest honest in
    c.in_ok-stage_transition.ensures.read_only.stays tt
    (c.in_ok-found.ensures.open h_stage) honest
