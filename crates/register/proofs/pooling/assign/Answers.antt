use Rattle.std.proofs.Common.{◌≡◌, rules, ap, refl, ◌∙◌, subst}
use Rattle.std.specs.Prelude.{Err, Ok, option_map}
use Rattle.std.specs.FinMap.{get, keys}
use Rattle.numbers.specs.declared.cic.Cic.{Cic}
use Rattle.model.specs.Conditions.{is_the}
use Rattle.model.specs.Content.{Content}
use Rattle.pool.specs.Assignments.{command_of as assignment_of}
use Rattle.settle.specs.Changes.{AppliesChanges}
use Rattle.settle.specs.Abstraction.{clock_row_of}
use Rattle.requests.specs.Calls.{reply_of, view_of}
use Rattle.register.proofs.OnBlocks.Assigned.{answers_assigned, answers_assignment_refused, assignment_never}
use Rattle.register.proofs.OnBlocks.BlockCalled.{answers_unfound, has_found, holder_unknown}
use Rattle.register.proofs.EveryCall.Deciding.{decides_err, decides_fault, decides_replied}
use Rattle.settle.proofs.ReadOn.{reads_fault, reads_on, reads_refused}
use Rattle.settle.proofs.Faults.{same_refusal}
use Rattle.register.proofs.EveryCall.Failed.{reads_failed}
use Rattle.model.specs.declared.refusal.Refusal.TheVariants.{Storage}
use Rattle.register.proofs.pooling.assign.Goals as goal

pub returns-in_err-found-clause-decides : goal.returns-in_err-found-clause-decides
returns-in_err-found-clause-decides g c = λ usable.
    let old = g.S.StoreModel.content c.args.store.now in
    let a = c.args.assignment.now in
    let at_carrier = c.in_err-found.ensures.read_only.same usable in
    decides_replied old _ _ c.from_residual-in_err-found.result c.in_err-found.field-0.0
    (search rules)
    (answers_unfound old old c.args.caller.number (assignment_of a) c.in_ok-is_known.is_known
    reply_of c.from_residual-in_err-found.result c.in_err-found.field-0.0 (search rules) refl
    (c.in_err-found.ensures.refused usable)
    (λ st refines. holder_unknown st old c.args.caller.number a.block.number a.holder.number
    a.routing.lrn.number (option_map (λ (x : Cic). x.number) a.routing.cic)
    refines c.in_ok-is_known.is_known (c.in_ok-is_known.ensures.value at_carrier.0)))

pub returns-in_err-version-clause-decides : goal.returns-in_err-version-clause-decides
returns-in_err-version-clause-decides g c = λ usable.
    let old = g.S.StoreModel.content c.args.store.now in
    let a = c.args.assignment.now in
    let at_found = c.in_ok-is_lrn_good.ensures.read_only.same usable in
    let at_carrier = c.in_ok-found.ensures.read_only.same at_found.0 in
    let at_start = c.in_ok-is_known.ensures.looks_up.read_only.same at_carrier.0 in
    let has = has_found old (g.S.StoreModel.content c.carrier.new.self) c.args.caller.number
    a.block.number (assignment_of a) (clock_row_of c.in_ok-found.found.clock)
    c.in_ok-found.found.read c.facts-facts.result
    c.in_ok-is_known.is_known c.in_ok-is_lrn_good.is_lrn_good at_start.1
    (c.in_ok-found.ensures.found at_found.0)
    (λ st refines. holder_unknown st old c.args.caller.number a.block.number a.holder.number
    a.routing.lrn.number (option_map (λ (x : Cic). x.number) a.routing.cic)
    refines c.in_ok-is_known.is_known (c.in_ok-is_known.ensures.value at_carrier.0))
    (c.in_ok-is_lrn_good.ensures.value usable
    ∙ ap (λ (m : Content). is_the a.holder.number (get m.lrns a.routing.lrn.number)) (at_carrier.1
    ∙ at_start.1))
    c.facts-facts.ensures in
    decides_err old _ _ c.from_residual-in_err-version.result c.in_err-version.field-0.0
    (search rules)
    (answers_assignment_refused old old c.args.caller.number a _ _ _ has _ refl
    c.in_err-version.ensures.refusal)

pub returns-in_err-version-clause-read_only : goal.returns-in_err-version-clause-read_only
returns-in_err-version-clause-read_only g c =
    reads_refused
    (reads_on (reads_on c.in_ok-is_known.ensures.looks_up.read_only tt
    c.in_ok-found.ensures.read_only
    tt) tt c.in_ok-is_lrn_good.ensures.read_only tt) tt
    (λ says. assignment_never c.args.caller.number c.facts-facts.result c.in_err-version.field-0.0
    c.in_err-version.ensures.refusal
    (same_refusal c.in_err-version.field-0.0 c.from_residual-in_err-version.result
    (search rules) says.says))

pub returns-clause-decides : goal.returns-clause-decides
returns-clause-decides g c = λ usable.
    let old = g.S.StoreModel.content c.args.store.now in
    let a = c.args.assignment.now in
    let at_lrn = c.in_ok-stage_made.ensures.read_only.same usable in
    let at_found = c.in_ok-is_lrn_good.ensures.read_only.same at_lrn.0 in
    let at_carrier = c.in_ok-found.ensures.read_only.same at_found.0 in
    let at_start = c.in_ok-is_known.ensures.looks_up.read_only.same at_carrier.0 in
    let has = has_found old (g.S.StoreModel.content c.carrier.new.self) c.args.caller.number
    a.block.number (assignment_of a) (clock_row_of c.in_ok-found.found.clock)
    c.in_ok-found.found.read c.facts-facts.result
    c.in_ok-is_known.is_known c.in_ok-is_lrn_good.is_lrn_good at_start.1
    (c.in_ok-found.ensures.found at_found.0)
    (λ st refines. holder_unknown st old c.args.caller.number a.block.number a.holder.number
    a.routing.lrn.number (option_map (λ (x : Cic). x.number) a.routing.cic)
    refines c.in_ok-is_known.is_known (c.in_ok-is_known.ensures.value at_carrier.0))
    (c.in_ok-is_lrn_good.ensures.value at_lrn.0 ∙ ap (λ (m : Content). is_the a.holder.number
    (get m.lrns a.routing.lrn.number)) (at_carrier.1 ∙ at_start.1))
    c.facts-facts.ensures in
    record {
      refused = tt;
      accepted = λ m changed. answers_assigned old m c.args.caller.number a _ _ _ has
          c.in_ok-version.version (keys (g.S.StoreModel.content c.is_lrn_of.new.store).carriers)
          (view_of c.of.result)
          c.in_ok-version.ensures.refusal c.in_ok-version.ensures.made
          (ap (λ (k : Content). keys k.carriers) (at_found.1 ∙ at_carrier.1 ∙ at_start.1))
          c.of.ensures
          (λ room. subst (λ d. AppliesChanges d old m) (c.in_ok-stage_made.ensures.value usable
          room)
          changed);
    }

pub returns-in_err-is_lrn_good-clause-decides : goal.returns-in_err-is_lrn_good-clause-decides
returns-in_err-is_lrn_good-clause-decides g c = λ usable. decides_fault _ _ _
    c.from_residual-in_err-is_lrn_good.result c.in_err-is_lrn_good.field-0.0 (search rules)

pub returns-in_err-stage_made-clause-decides : goal.returns-in_err-stage_made-clause-decides
returns-in_err-stage_made-clause-decides g c = λ usable. decides_fault _ _ _
    c.from_residual-in_err-stage_made.result c.in_err-stage_made.field-0.0 (search rules)

pub returns-in_err-is_lrn_good-clause-read_only : goal.returns-in_err-is_lrn_good-clause-read_only
returns-in_err-is_lrn_good-clause-read_only g c =
    reads_fault (reads_on c.in_ok-is_known.ensures.looks_up.read_only tt
    c.in_ok-found.ensures.read_only tt)
    tt
    c.in_err-is_lrn_good.ensures.read_only c.from_residual-in_err-is_lrn_good.result
    c.in_err-is_lrn_good.field-0.0 (search rules) (ap Err)

pub returns-in_err-stage_made-clause-read_only : goal.returns-in_err-stage_made-clause-read_only
returns-in_err-stage_made-clause-read_only g c =
    reads_fault
    (reads_on (reads_on c.in_ok-is_known.ensures.looks_up.read_only tt
    c.in_ok-found.ensures.read_only
    tt) tt c.in_ok-is_lrn_good.ensures.read_only tt) tt c.in_err-stage_made.ensures.read_only
    c.from_residual-in_err-stage_made.result c.in_err-stage_made.field-0.0 (search rules) (ap Err)

pub returns-in_err-is_known-clause-decides : goal.returns-in_err-is_known-clause-decides
returns-in_err-is_known-clause-decides g c = λ usable. decides_fault _ _ _ c.from_residual.result
    c.in_err-is_known.field-0.0 (search rules)

pub returns-in_err-is_known-clause-read_only : goal.returns-in_err-is_known-clause-read_only
returns-in_err-is_known-clause-read_only g c = reads_failed
    c.in_err-is_known.ensures.looks_up.read_only c.from_residual.result c.in_err-is_known.field-0.0
    (search rules) (ap Err)

pub returns-clause-read_only : goal.returns-clause-read_only
returns-clause-read_only g c = reads_refused
    (reads_on (reads_on (reads_on c.in_ok-is_known.ensures.looks_up.read_only tt
    c.in_ok-found.ensures.read_only tt) tt
    c.in_ok-is_lrn_good.ensures.read_only tt) tt
    c.in_ok-stage_made.ensures.read_only tt) tt
    (λ told. let never : Ok _ ≡ Err Storage = told.says in cc)

pub returns-clause-open : goal.returns-clause-open
returns-clause-open g c = λ honest.
    let h_stage = c.in_ok-stage_made.ensures.read_only.honest honest in
    let h_lrn = c.in_ok-is_lrn_good.ensures.read_only.honest h_stage in
    c.in_ok-stage_made.ensures.read_only.stays tt
    (c.in_ok-is_lrn_good.ensures.read_only.stays tt (c.in_ok-found.ensures.open h_lrn) h_stage)
    honest
