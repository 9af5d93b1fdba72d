use Rattle.std.proofs.Common.{◌≡◌, ◌-◌, [], get_or, sym, ◌∙◌, arith, rules}
use Rattle.json_api.specs.declared.flat.Member.{Member}
use Rattle.json_api.specs.declared.flat.Scalar.TheVariants.{Null}
use Rattle.json_api.proofs.FlatLemmas.{found_at, passed_at}
use Rattle.json_api.proofs.flat.Flat.get.Goals as goal

abbrev blank : Member
blank = record { key = record { ref_ptr = (0, 0); now = [] }; value = Null }

pub returns-then-eq : goal.returns-then-eq
returns-then-eq c =
    let same : (get_or c.as_slice-members.result.now (c.members.left - 1) blank).key.now
    ≡ c.args.key.now = search rules in
    sym (found_at c.args.self.now.members.items c.as_slice-members.result.now
    c.as_slice-members.ensures.value c.members.left blank c.members-test.true c.members.invariant.0
    c.args.key.now same) ∙ c.members.invariant.1

pub members-preserved : goal.members-preserved
members-preserved c =
    let other : c.args.key.now ≡ (get_or c.as_slice-members.result.now (c.members.left - 1)
    blank).key.now → ⊥ = search rules in (
      omega (arith, c.members.invariant.0),
      passed_at c.args.self.now.members.items c.as_slice-members.result.now
          c.as_slice-members.ensures.value c.members.left blank c.members-test.true
          c.members.invariant.0 c.args.key.now other ∙ c.members.invariant.1,
    )
