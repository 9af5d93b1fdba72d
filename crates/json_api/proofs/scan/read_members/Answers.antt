use Rattle.std.proofs.Common.{◌≡◌, ◌≤◌, [], ◌∷◌, ◌++◌, length, ap, sym, ◌∙◌, subst, arith}
use Rattle.json_api.proofs.ScanLemmas.{IsBefore, IsAfter, before_first, with_member, with_comma, whole, shorter, empty_of}
use Rattle.json_api.proofs.scan.read_members.Goals as goal

pub members-init : goal.members-init
members-init c = subst (IsBefore c.args.body.now c.in_ok-rest.rest.now) (sym c.requires)
    (before_first c.args.body.now c.in_ok-rest.rest.now c.in_ok-rest.ensures)

pub members-preserved : goal.members-preserved
members-preserved c =
    let member = c.in_ok-member.member in
    let after = c.in_ok-member.after.now in
    let read : IsAfter c.args.body.now after (c.members.members.items ++ member ∷ []) =
    with_member c.args.body.now c.members.rest.now after c.members.members.items member
    c.members.invariant c.in_ok-member.ensures in
    let now : IsAfter c.args.body.now after c.try_push.new.self.items =
    subst (IsAfter c.args.body.now after) (sym c.in-Ok.ensures.ok) read in
    with_comma c.args.body.now c.in-Some.next.now after c.try_push.new.self.items now
    c.in-Some.ensures

pub members-smaller : goal.members-smaller
members-smaller c = omega (
  arith,
  shorter c.members.rest.now c.in_ok-member.after.now c.in_ok-member.member c.in_ok-member.ensures,
  ap length c.in-Some.ensures,
)

pub returns-in-Some-empty : goal.returns-in-Some-empty
returns-in-Some-empty c =
    let member = c.in_ok-member.member in
    let after = c.in_ok-member.after.now in
    let read : IsAfter c.args.body.now after (c.members.members.items ++ member ∷ []) =
    with_member c.args.body.now c.members.rest.now after c.members.members.items member
    c.members.invariant c.in_ok-member.ensures in
    let now : IsAfter c.args.body.now after c.try_push.new.self.items =
    subst (IsAfter c.args.body.now after) (sym c.in-Ok.ensures.ok) read in
    let none : length c.in-Some-empty.field-0.now ≤ 0 = omega (arith, c.in-Some-empty.len_below) in
    let close : c.skip_gap.result.now ≡ 125 ∷ [] =
    c.in-Some-empty.ensures ∙ ap (λ l. 125 ∷ l) (empty_of c.in-Some-empty.field-0.now none) in
    whole c.args.body.now after c.try_push.new.self.items now (
      c.skip_gap.ensures.0,
      c.skip_gap.ensures.1,
      c.skip_gap.ensures.2 ∙ ap (λ l. c.skip_gap.ensures.0 ++ l) close,
    )
