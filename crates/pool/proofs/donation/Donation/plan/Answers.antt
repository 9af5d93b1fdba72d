-- The refusals in turn, and the versions.
use Rattle.std.proofs.Common.{◌≡◌, ◌∙◌, List, Some, None, length, map, rules, sym, subst, arith}
use Rattle.numbers.specs.declared.tn.Tn.{Tn}
use Rattle.model.specs.RefusalNumbers.{number_of}
use Rattle.pool.specs.Donations.{tn_subject, donation_refusal, AreProtective}
use Rattle.pool.proofs.BlockRefused.{donation_refused_in}
use Rattle.pool.proofs.Planned.{refused, answered, returned, refused_as, within, planned}
use Rattle.pool.proofs.donation.Donation.plan.Goals as goal
use Rattle.version.specs.Abstraction.{set_of}

pub returns-in_err-check_donor-clause-refused : goal.returns-in_err-check_donor-clause-refused
returns-in_err-check_donor-clause-refused c =
    let was = c.in_err-check_donor.field-0.0 in
    returned c.from_residual.result was (donation_refusal c.args.caller.number c.args.self.now
    c.args.facts.now) c.from_residual.ensures.1
    (refused c.args.caller.number c.args.self.now c.args.facts.now (number_of was)
    (sym c.in_err-check_donor.ensures))

pub returns-in_err-check_block-clause-refused : goal.returns-in_err-check_block-clause-refused
returns-in_err-check_block-clause-refused c =
    let was = c.in_err-check_block.field-0.0 in
    let many : c.len.result ≡ length c.in_ok-made.made.items = search rules in
    returned c.from_residual-in_err-check_block.result was (donation_refusal c.args.caller.number
    c.args.self.now c.args.facts.now) c.from_residual-in_err-check_block.ensures.1
    (answered c.args.caller.number c.args.self.now c.args.facts.now c.in_ok-used.used
    c.in_ok-made.made.items c.len.result (Some (number_of was))
    c.in_ok-check_donor.ensures c.in_ok-used.ensures c.in_ok-made.ensures many
    c.in_err-check_block.ensures)

pub returns-in_err-check_donor-clause-state : goal.returns-in_err-check_donor-clause-state
returns-in_err-check_donor-clause-state c = λ st is numbers.
    let was = c.in_err-check_donor.field-0.0 in
    refused_as c.from_residual.result was _ c.from_residual.ensures.1
    (donation_refused_in st c.args.caller.number c.args.facts.now c.args.self.now is numbers
    ∙ refused c.args.caller.number c.args.self.now c.args.facts.now (number_of was)
    (sym c.in_err-check_donor.ensures))

pub returns-in_err-check_block-clause-state : goal.returns-in_err-check_block-clause-state
returns-in_err-check_block-clause-state c = λ st is numbers.
    let was = c.in_err-check_block.field-0.0 in
    let many : c.len.result ≡ length c.in_ok-made.made.items = search rules in
    refused_as c.from_residual-in_err-check_block.result was _
    c.from_residual-in_err-check_block.ensures.1
    (donation_refused_in st c.args.caller.number c.args.facts.now c.args.self.now is numbers
    ∙ answered c.args.caller.number c.args.self.now c.args.facts.now c.in_ok-used.used
    c.in_ok-made.made.items c.len.result (Some (number_of was))
    c.in_ok-check_donor.ensures c.in_ok-used.ensures c.in_ok-made.ensures many
    c.in_err-check_block.ensures)

pub returns-clause-state : goal.returns-clause-state
returns-clause-state c = λ st is numbers.
    let many : c.len.result ≡ length c.in_ok-made.made.items = search rules in
    donation_refused_in st c.args.caller.number c.args.facts.now c.args.self.now is numbers
    ∙ answered c.args.caller.number c.args.self.now c.args.facts.now c.in_ok-used.used
    c.in_ok-made.made.items c.len.result None
    c.in_ok-check_donor.ensures c.in_ok-used.ensures c.in_ok-made.ensures many
    c.in_ok-check_block.ensures

pub versions-requires : goal.versions-requires
versions-requires c = record {
  ids = omega (
    arith,
    within c.args.facts.now c.in_ok-used.used c.len.result (sym c.in_ok-check_block.ensures),
    c.deref.ensures.len,
    c.len.ensures,
  );
}

pub returns-clause-accepted : goal.returns-clause-accepted
returns-clause-accepted c =
    let many : c.len.result ≡ length c.in_ok-made.made.items = search rules in
    answered c.args.caller.number c.args.self.now c.args.facts.now c.in_ok-used.used
    c.in_ok-made.made.items c.len.result None
    c.in_ok-check_donor.ensures c.in_ok-used.ensures c.in_ok-made.ensures many
    c.in_ok-check_block.ensures

pub returns-clause-planned : goal.returns-clause-planned
returns-clause-planned c =
    planned (set_of c.args.present.now) c.args.caller.number c.args.minute.number c.args.self.now
    c.args.facts.now c.in_ok-used.used c.in_ok-made.made.items c.in_ok-versions.field-0.items
    c.in_ok-used.ensures c.in_ok-made.ensures
    (subst (λ (ts : List Tn). AreProtective (set_of c.args.present.now) c.args.caller.number
    c.args.minute.number c.args.self.now c.args.facts.now.next_id (map tn_subject ts)
    c.in_ok-versions.field-0.items)
    c.deref.ensures.value c.in_ok-versions.ensures)
