use Rattle.std.proofs.Common.{refl}
use Rattle.invariants.proofs.Seeing.{add_finds, add_goes_on}
use Rattle.invariants.specs.Sound.{holds_in, opens_in}
use Rattle.invariants.proofs.seen.Seen.add.Goals as goal

pub returns-in-Some : goal.returns-in-Some
returns-in-Some c = λ m clock found seen.
    add_finds holds_in m c.args.id c.args.row.now found c.holds.result c.holds.ensures
    c.args.self.now.holds seen.holds c.in_ok-other.field-0 c.in_ok-other.field-0
    c.in_ok-other.ensures.before refl c.in-Some.other c.in-Some.is

pub returns-in-Some-2 : goal.returns-in-Some-2
returns-in-Some-2 c = λ m clock found seen.
    add_finds opens_in m c.args.id c.args.row.now found c.opens.result c.opens.ensures
    c.args.self.now.opens seen.opens c.in_ok-other-2.field-0 c.in_ok-other-2.field-0
    c.in_ok-other-2.ensures.before refl c.in-Some-2.other c.in-Some-2.is

pub returns : goal.returns
returns c = λ m clock found seen. record {
  holds = add_goes_on holds_in m c.args.id c.args.row.now found c.holds.result c.holds.ensures
      c.args.self.now.holds c.add_subject.new.ids seen.holds c.in_ok-other.field-0
      c.in_ok-other.ensures.before c.in_default.is c.in_ok-other.ensures.added;
  opens = add_goes_on opens_in m c.args.id c.args.row.now found c.opens.result c.opens.ensures
      c.args.self.now.opens c.add_subject-2.new.ids seen.opens c.in_ok-other-2.field-0
      c.in_ok-other-2.ensures.before c.in_default-2.is c.in_ok-other-2.ensures.added;
}
