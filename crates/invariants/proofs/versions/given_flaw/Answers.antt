use Rattle.std.proofs.Common.{◌≡◌, ◌∙◌, ◌+◌, ◌<◌, ◌≤◌, ℕ, None, arith, inl, inr, refl, subst, sym}
use Rattle.std.specs.Prelude.{◌⊎◌}
use Rattle.std.proofs.Math.Nat.{eq-or-lt_of_le}
use Rattle.settle.specs.Abstraction.{clock_row_of}
use Rattle.invariants.specs.Seen.{AreAllSeen}
use Rattle.invariants.specs.Sound.{HasRow, IsGiven, IsVersionSound, holds_in, opens_in}
use Rattle.invariants.proofs.Judging.{flawed_at, judged_at}
use Rattle.invariants.proofs.Seeing.{seen_once, seen_past}
use Rattle.invariants.proofs.versions.given_flaw.Goals as goal

-- What holds of the versions passed and of the next one holds of all of them.
each_next : (P : ℕ → Type 0) (n : ℕ) → ((id : ℕ) → 0 < id → id < n → P id) → P n
    → (id : ℕ) → 0 < id → id < n + 1 → P id
each_next P n each next id first below =
    by_cases (eq-or-lt_of_le (let l : id ≤ n = omega (arith, below) in l))
  where
    by_cases : (id ≡ n) ⊎ (id < n) → P id
    by_cases (inl is) = subst P (sym is) next
    by_cases (inr l) = each id first l

pub loop-id-init : goal.loop-id-init
loop-id-init g c = record {
  same = λ usable. (usable, refl);
  judged = λ zero usable.
      let m = g.S.StoreModel.content c.args.store.now in
      let none = c.new-seen.ensures m in (
        λ id first below. absurd (omega (arith, first, below)),
        record {
          holds = seen_past holds_in m 0 c.new-seen.result.holds zero none.holds;
          opens = seen_past opens_in m 0 c.new-seen.result.opens zero none.opens;
        },
      );
}

pub loop-id-preserved : goal.loop-id-preserved
loop-id-preserved g c =
    let old = g.S.StoreModel.content c.args.store.now in
    let mid = g.S.StoreModel.content c.loop-id.store in
    let clock = clock_row_of c.args.clock.now in
    let id = c.loop-id.id in
    let from = c.loop-id.auto.id in
    let given : IsGiven clock id = record {
      first = omega (arith, from);
      below = c.loop-id-test.true;
    } in
    record {
      same = λ usable.
          let at = c.in_ok-flaw.ensures.same usable in
          let was = c.loop-id.invariant.same at.0 in
          (was.0, at.1 ∙ was.1);
      judged = λ zero usable.
          let at = c.in_ok-flaw.ensures.same usable in
          let was = c.loop-id.invariant.same at.0 in
          let before = c.loop-id.invariant.judged zero at.0 in
          let seen = subst (λ m. AreAllSeen m id c.loop-id.seen) (sym was.1) before.1 in
          let next = judged_at (λ m. HasRow m id (IsVersionSound m clock id)
          × AreAllSeen m (id + 1) c.next_flaw.new.seen) mid old clock c.in_ok-flaw.field-0 None
          was.1 c.in_default.is (c.in_ok-flaw.ensures.value usable clock refl given seen) in
          (each_next (λ k. HasRow old k (IsVersionSound old clock k)) id before.0 next.0, next.1);
    }

pub returns-in-Some-clause-value : goal.returns-in-Some-clause-value
returns-in-Some-clause-value g c = λ usable zero.
    let old = g.S.StoreModel.content c.args.store.now in
    let mid = g.S.StoreModel.content c.loop-id.store in
    let clock = clock_row_of c.args.clock.now in
    let id = c.loop-id.id in
    let from = c.loop-id.auto.id in
    let given : IsGiven clock id = record {
      first = omega (arith, from);
      below = c.loop-id-test.true;
    } in
    let at = c.in_ok-flaw.ensures.same usable in
    let was = c.loop-id.invariant.same at.0 in
    let before = c.loop-id.invariant.judged zero at.0 in
    let seen = subst (λ m. AreAllSeen m id c.loop-id.seen) (sym was.1) before.1 in
    flawed_at mid old clock c.in_ok-flaw.field-0 c.in-Some.flaw
    (HasRow mid id (IsVersionSound mid clock id) × AreAllSeen mid (id + 1) c.next_flaw.new.seen)
    was.1 c.in-Some.is (c.in_ok-flaw.ensures.value usable clock refl given seen)

pub returns-clause-value : goal.returns-clause-value
returns-clause-value g c = λ usable zero.
    let old = g.S.StoreModel.content c.args.store.now in
    let all = c.loop-id.invariant.judged zero usable in
    let end : c.args.clock.now.next_id ≤ c.loop-id.id = c.loop-id-test.false in
    record {
      each = λ id given. all.0 id given.first
          (let below = given.below in omega (arith, end, below));
      holds = seen_once holds_in old c.loop-id.id c.args.clock.now.next_id c.loop-id.seen.holds end
          all.1.holds;
      opens = seen_once opens_in old c.loop-id.id c.args.clock.now.next_id c.loop-id.seen.opens end
          all.1.opens;
    }
