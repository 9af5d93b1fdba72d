use Rattle.std.proofs.Common.{rules, ◌≡◌, ◌+◌, ◌≤◌, map, length, ap, refl, ◌∙◌, subst}
use Rattle.std.specs.Prelude.{Err, Ok, option_map}
use Rattle.std.specs.FinMap.{get, keys}
use Rattle.numbers.specs.declared.cic.Cic.{Cic}
use Rattle.model.specs.Statuses.{Create}
use Rattle.model.specs.Conditions.{is_the, limit}
use Rattle.model.specs.Content.{Content}
use Rattle.version.specs.Abstraction.{windows_of}
use Rattle.pool.specs.Donations.{command_of as donation_of, lines_of}
use Rattle.settle.specs.Changes.{AppliesChanges, changes_of}
use Rattle.settle.specs.Sending.{begun_of, sends_changes}
use Rattle.settle.specs.Abstraction.{clock_row_of}
use Rattle.requests.specs.Calls.{reply_of}
use Rattle.register.specs.Pooling.{block_changes}
use Rattle.register.proofs.OnBlocks.BlockCalled.{answers_unfound, donor_unknown, has_found}
use Rattle.register.proofs.OnBlocks.BlockCommands.{donated_row}
use Rattle.register.proofs.EveryCall.Deciding.{decides_fault, decides_replied}
use Rattle.register.proofs.OnBlocks.Donated.{answers_donated, answers_donation_refused, donation_never}
use Rattle.settle.proofs.Faults.{same_refusal}
use Rattle.settle.proofs.ReadOn.{reads_fault, reads_on, reads_refused}
use Rattle.register.proofs.EveryCall.Failed.{reads_failed, reads_judged}
use Rattle.model.specs.declared.refusal.Refusal.TheVariants.{NoMemory as NoMemoryRefusal, Storage}
use Rattle.settle.specs.declared.store.StoreFault.TheVariants.{NoMemory}
use Rattle.register.proofs.pooling.donate.Goals as goal

pub returns-in_err-found-clause-decides : goal.returns-in_err-found-clause-decides
returns-in_err-found-clause-decides g c = λ usable.
    let old = g.S.StoreModel.content c.args.store.now in
    let d = c.args.donation.now in
    let at_carrier = c.in_err-found.ensures.read_only.same usable in
    decides_replied old _ _ c.from_residual-in_err-found.result c.in_err-found.field-0.0
    (search rules)
    (answers_unfound old old c.args.caller.number (donation_of d) c.in_ok-is_known.is_known reply_of
    c.from_residual-in_err-found.result c.in_err-found.field-0.0 (search rules) refl
    (c.in_err-found.ensures.refused usable)
    (λ st refines. donor_unknown st old c.args.caller.number d.block.number
    (lines_of d.used.now) d.routing.lrn.number (option_map (λ (x : Cic). x.number) d.routing.cic)
    refines c.in_ok-is_known.is_known (c.in_ok-is_known.ensures.value at_carrier.0)))

pub returns-in_err-plan-clause-decides : goal.returns-in_err-plan-clause-decides
returns-in_err-plan-clause-decides g c = λ usable.
    let old = g.S.StoreModel.content c.args.store.now in
    let d = c.args.donation.now in
    let at_found = c.in_ok-is_lrn_good.ensures.read_only.same usable in
    let at_carrier = c.in_ok-found.ensures.read_only.same at_found.0 in
    let at_start = c.in_ok-is_known.ensures.looks_up.read_only.same at_carrier.0 in
    let has = has_found old (g.S.StoreModel.content c.carrier.new.self) c.args.caller.number
    d.block.number (donation_of d) (clock_row_of c.in_ok-found.found.clock) c.in_ok-found.found.read
    c.facts-facts.result
    c.in_ok-is_known.is_known c.in_ok-is_lrn_good.is_lrn_good at_start.1
    (c.in_ok-found.ensures.found at_found.0)
    (λ st refines. donor_unknown st old c.args.caller.number d.block.number (lines_of d.used.now)
    d.routing.lrn.number (option_map (λ (x : Cic). x.number) d.routing.cic)
    refines c.in_ok-is_known.is_known (c.in_ok-is_known.ensures.value at_carrier.0))
    (c.in_ok-is_lrn_good.ensures.value usable
    ∙ ap (λ (m : Content). is_the c.args.caller.number (get m.lrns d.routing.lrn.number))
    (at_carrier.1 ∙ at_start.1))
    c.facts-facts.ensures in
    decides_replied old _ _ c.from_residual-in_err-plan.result c.in_err-plan.field-0.0
    (search rules)
    (answers_donation_refused old old c.args.caller.number d _ _ _ has reply_of
    c.from_residual-in_err-plan.result c.in_err-plan.field-0.0
    (search rules) refl c.in_err-plan.ensures.refused)

pub returns-clause-decides : goal.returns-clause-decides
returns-clause-decides g c = λ usable.
    let old = g.S.StoreModel.content c.args.store.now in
    let d = c.args.donation.now in
    let at_lrn = c.in_ok-stage_made.ensures.read_only.same usable in
    let at_found = c.in_ok-is_lrn_good.ensures.read_only.same at_lrn.0 in
    let at_carrier = c.in_ok-found.ensures.read_only.same at_found.0 in
    let at_start = c.in_ok-is_known.ensures.looks_up.read_only.same at_carrier.0 in
    let clock = c.in_ok-found.found.clock in
    let all_carriers = keys (g.S.StoreModel.content c.is_lrn_of.new.store).carriers in
    let has = has_found old (g.S.StoreModel.content c.carrier.new.self) c.args.caller.number
    d.block.number (donation_of d) (clock_row_of c.in_ok-found.found.clock) c.in_ok-found.found.read
    c.facts-facts.result
    c.in_ok-is_known.is_known c.in_ok-is_lrn_good.is_lrn_good at_start.1
    (c.in_ok-found.ensures.found at_found.0)
    (λ st refines. donor_unknown st old c.args.caller.number d.block.number (lines_of d.used.now)
    d.routing.lrn.number (option_map (λ (x : Cic). x.number) d.routing.cic)
    refines c.in_ok-is_known.is_known (c.in_ok-is_known.ensures.value at_carrier.0))
    (c.in_ok-is_lrn_good.ensures.value at_lrn.0 ∙ ap (λ (m : Content). is_the c.args.caller.number
    (get m.lrns d.routing.lrn.number)) (at_carrier.1 ∙ at_start.1))
    c.facts-facts.ensures in
    let made = subst (λ es. clock.next_id + length es ≤ limit → changes_of c.stage_made.new.changes
    ≡ block_changes (sends_changes clock.minute.number Create
    (map (begun_of (windows_of clock.present.windows)) es) all_carriers)
    (donated_row d.block.number c.args.caller.number)
    (record { minute = clock.minute.number; next_id = clock.next_id + length es }))
    c.deref-2.ensures.value (c.in_ok-stage_made.ensures.value usable) in
    record {
      refused = tt;
      accepted = λ m changed. answers_donated old m c.args.caller.number d _ _ _ has
          c.in_ok-plan.plan.versions.items c.in_ok-ids.ids.items all_carriers
          c.in_ok-plan.ensures.accepted c.in_ok-plan.ensures.planned (c.in_ok-ids.ensures ∙ ap
          (map (λ e. e.0)) c.deref.ensures.value) (ap (λ (k : Content). keys k.carriers)
          (at_found.1 ∙ at_carrier.1 ∙ at_start.1))
          (λ room. subst (λ x. AppliesChanges x old m) (made room) changed);
    }

pub returns-in_err-stage_made-clause-decides : goal.returns-in_err-stage_made-clause-decides
returns-in_err-stage_made-clause-decides g c = λ usable. decides_fault _ _ _
    c.from_residual-in_err-stage_made.result c.in_err-stage_made.field-0.0 (search rules)

pub returns-in_err-is_lrn_good-clause-decides : goal.returns-in_err-is_lrn_good-clause-decides
returns-in_err-is_lrn_good-clause-decides g c = λ usable. decides_fault _ _ _
    c.from_residual-in_err-is_lrn_good.result c.in_err-is_lrn_good.field-0.0 (search rules)

pub returns-in_err-is_lrn_good-clause-read_only : goal.returns-in_err-is_lrn_good-clause-read_only
returns-in_err-is_lrn_good-clause-read_only g c =
    reads_fault (reads_on c.in_ok-is_known.ensures.looks_up.read_only tt
    c.in_ok-found.ensures.read_only tt)
    tt
    c.in_err-is_lrn_good.ensures.read_only c.from_residual-in_err-is_lrn_good.result
    c.in_err-is_lrn_good.field-0.0 (search rules) (ap Err)

pub returns-in_err-plan-clause-read_only : goal.returns-in_err-plan-clause-read_only
returns-in_err-plan-clause-read_only g c =
    reads_refused
    (reads_on (reads_on c.in_ok-is_known.ensures.looks_up.read_only tt
    c.in_ok-found.ensures.read_only
    tt) tt c.in_ok-is_lrn_good.ensures.read_only tt) tt
    (λ says. donation_never c.args.caller.number c.args.donation.now c.facts-facts.result
    c.in_err-plan.field-0.0 c.in_err-plan.ensures.refused
    (same_refusal c.in_err-plan.field-0.0 c.from_residual-in_err-plan.result
    (search rules) says.says))

pub returns-in_err-is_known-clause-decides : goal.returns-in_err-is_known-clause-decides
returns-in_err-is_known-clause-decides g c = λ usable. decides_fault _ _ _ c.from_residual.result
    c.in_err-is_known.field-0.0 (search rules)

pub returns-in_err-is_known-clause-read_only : goal.returns-in_err-is_known-clause-read_only
returns-in_err-is_known-clause-read_only g c = reads_failed
    c.in_err-is_known.ensures.looks_up.read_only c.from_residual.result c.in_err-is_known.field-0.0
    (search rules) (ap Err)

pub returns-in_err-ids-clause-decides : goal.returns-in_err-ids-clause-decides
returns-in_err-ids-clause-decides g c = λ usable. decides_fault _ _ _
    c.from_residual-in_err-ids.result NoMemory (search rules)

pub returns-in_err-ids-clause-read_only : goal.returns-in_err-ids-clause-read_only
returns-in_err-ids-clause-read_only g c = reads_judged
    (reads_on (reads_on c.in_ok-is_known.ensures.looks_up.read_only tt
    c.in_ok-found.ensures.read_only tt) tt
    c.in_ok-is_lrn_good.ensures.read_only tt) tt
    c.from_residual-in_err-ids.result NoMemoryRefusal (search rules)
    (λ is. let never : NoMemoryRefusal ≡ Storage = is in cc)

pub returns-in_err-stage_made-clause-read_only : goal.returns-in_err-stage_made-clause-read_only
returns-in_err-stage_made-clause-read_only g c = reads_fault
    (reads_on (reads_on c.in_ok-is_known.ensures.looks_up.read_only tt
    c.in_ok-found.ensures.read_only tt) tt
    c.in_ok-is_lrn_good.ensures.read_only tt) tt
    c.in_err-stage_made.ensures.read_only c.from_residual-in_err-stage_made.result
    c.in_err-stage_made.field-0.0 (search rules) (ap Err)

pub returns-clause-read_only : goal.returns-clause-read_only
returns-clause-read_only g c = reads_refused
    (reads_on (reads_on (reads_on c.in_ok-is_known.ensures.looks_up.read_only tt
    c.in_ok-found.ensures.read_only tt) tt
    c.in_ok-is_lrn_good.ensures.read_only tt) tt
    c.in_ok-stage_made.ensures.read_only tt) tt
    (λ told. let never : Ok _ ≡ Err Storage = told.says in cc)

pub returns-clause-open : goal.returns-clause-open
returns-clause-open g c = λ honest.
    let h_stage = c.in_ok-stage_made.ensures.read_only.honest honest in
    let h_lrn = c.in_ok-is_lrn_good.ensures.read_only.honest h_stage in
    c.in_ok-stage_made.ensures.read_only.stays tt
    (c.in_ok-is_lrn_good.ensures.read_only.stays tt (c.in_ok-found.ensures.open h_lrn) h_stage)
    honest
