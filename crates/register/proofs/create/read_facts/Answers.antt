use Rattle.std.proofs.Common.{rules, ◌≡◌, true, false, None, ap, refl, sym, ◌∙◌}
use Rattle.std.specs.Prelude.{is_some, option_map}
use Rattle.model.specs.Content.{Content}
use Rattle.settle.specs.Abstraction.{clock_row_of}
use Rattle.register.proofs.OnVersions.Created.{facts_read, answers_create_unknown}
use Rattle.register.specs.Serving.{are_known}
use Rattle.model.specs.History.{CommandRequest}
use Rattle.model.specs.Refusals.{RequestFrom}
use Rattle.version.specs.Creates.{command_of}
use Rattle.register.proofs.EveryCall.Deciding.{refused_fault}
use Rattle.settle.proofs.ReadOn.{reads_on, reads_refused}
use Rattle.register.proofs.create.read_facts.Goals as goal

pub returns-clause-judged : goal.returns-clause-judged
returns-clause-judged g c = λ usable.
    let old = g.S.StoreModel.content c.args.store.now in
    let at_current = c.in_ok-facts.ensures.read_only.same usable in
    let at_clock = c.in_ok-current.ensures.read_only.same at_current.0 in
    let at_known = c.in_ok-clock.ensures.looks_up.read_only.same at_clock.0 in
    let at_start = c.in_ok-are_carriers_known.ensures.read_only.same at_known.0 in
    let known : are_known old c.args.create.now c.args.caller.number ≡ true =
    ◌∙◌ {a = are_known old c.args.create.now c.args.caller.number}
    (sym (c.in_ok-are_carriers_known.ensures.value at_known.0)) c.if-not-branch.false in
    facts_read old (g.S.StoreModel.content c.clock.new.self)
    (g.S.StoreModel.content c.read.new.store)
    c.args.caller.number c.args.create.now (clock_row_of c.in-Some.clock)
    c.in_ok-current.current.in_force c.in_ok-current.current.opened
    c.in_ok-current.current.block_in_force
    c.in_ok-facts.facts (at_known.1 ∙ at_start.1) (at_clock.1 ∙ at_known.1 ∙ at_start.1) known
    (ap (λ (m : Content). m.clock) (sym at_start.1) ∙ sym (c.in_ok-clock.ensures.value at_clock.0)
    ∙ ap (option_map clock_row_of) c.in-Some.is)
    (c.in_ok-current.ensures.in_force at_current.0) (c.in_ok-current.ensures.opened at_current.0)
    (c.in_ok-current.ensures.block at_current.0) (c.in_ok-facts.ensures.value usable)

pub returns-then-not-branch-clause-refused : goal.returns-then-not-branch-clause-refused
returns-then-not-branch-clause-refused g c = λ usable.
    let old = g.S.StoreModel.content c.args.store.now in
    answers_create_unknown old old c.args.caller.number c.args.create.now refl
    (sym (c.in_ok-are_carriers_known.ensures.value usable) ∙ c.if-not-branch.true)

pub returns-in_default-clause-read_only : goal.returns-in_default-clause-read_only
returns-in_default-clause-read_only g c = reads_refused
    (reads_on c.in_ok-are_carriers_known.ensures.read_only tt
    c.in_ok-clock.ensures.looks_up.read_only tt) tt
    (λ says.
    let at_known = c.in_ok-clock.ensures.looks_up.read_only.same says.usable in
    let none : (g.S.StoreModel.content c.args.store.now).clock ≡ None =
    ap (λ (m : Content). m.clock)
    (sym (c.in_ok-are_carriers_known.ensures.read_only.same at_known.0).1)
    ∙ sym (c.in_ok-clock.ensures.value says.usable) ∙ ap (option_map clock_row_of) c.in_default.is
    in
    let never : true ≡ false = sym says.refines.written ∙ ap is_some none in cc)

pub returns-in_err-current-clause-refused : goal.returns-in_err-current-clause-refused
returns-in_err-current-clause-refused g c = λ usable.
    refused_fault (g.S.StoreModel.content c.args.store.now)
    (RequestFrom c.args.caller.number (CommandRequest (command_of c.args.create.now)))
    c.from_residual-in_err-current.result c.in_err-current.field-0.0 (search rules)

pub returns-in_err-facts-clause-refused : goal.returns-in_err-facts-clause-refused
returns-in_err-facts-clause-refused g c = λ usable.
    refused_fault (g.S.StoreModel.content c.args.store.now)
    (RequestFrom c.args.caller.number (CommandRequest (command_of c.args.create.now)))
    c.from_residual-in_err-facts.result c.in_err-facts.field-0.0 (search rules)
