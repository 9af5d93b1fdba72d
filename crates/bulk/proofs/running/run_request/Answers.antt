use Rattle.std.proofs.Common.{rules, ◌≡◌, ◌+◌, ◌-◌, ◌≤◌, ℕ, Ok, Err, inl, map, ap, arith}
use Rattle.std.proofs.Math.Nat.{le_trans}
use Rattle.bulk.specs.Report.{Task, CommandTask, rising, state_after}
use Rattle.bulk.proofs.Asked.{owes_on}
use Rattle.bulk.proofs.Ranging.{runs_number, fails_among, until_among, does_numbers}
use Rattle.bulk.proofs.Noted.{noted_then}
use Rattle.bulk.proofs.running.run_request.Goals as goal

pub returns-in_err-written-clause-runs : goal.returns-in_err-written-clause-runs
returns-in_err-written-clause-runs g c = λ u st s.
    let f : ℕ → Task =
    λ n. CommandTask c.args.row c.args.request.now.caller.number n c.args.request.now.operation in
    let n = c.loop-number.number in
    let first = c.args.request.now.numbers.first.number in
    let before = c.loop-number.invariant.going (c.run_number.ensures.preserves.usable u) st s in
    let now = c.in_err-written.ensures.runs u (state_after st (map f (rising first (n - first))))
    before.refines in
    let named : f c.at-tn.result.number ≡ f n = ap f c.at-tn.ensures in
    let failed =
    fails_among c.in_err-written.field-0.0.kind f first c.args.request.now.numbers.last.number n st
    _ _ _
    c.args.count c.in_err-written.field-0.0.rows c.loop-number.invariant.from
    c.loop-number-test.true
    (runs_number f first n st _ _ _ (g.W.Write.contents c.loop-number.writer) _ c.args.count
    c.loop-number.written (Err c.in_err-written.field-0.0) c.loop-number.invariant.from before
    (rw named at now)) in
    search rules

pub returns-in_err-written-clause-until : goal.returns-in_err-written-clause-until
returns-in_err-written-clause-until g c = λ usable honest.
    let f : ℕ → Task =
    λ n. CommandTask c.args.row c.args.request.now.caller.number n c.args.request.now.operation in
    let n = c.loop-number.number in
    let first = c.args.request.now.numbers.first.number in
    let mid = c.loop-number.invariant.owed.stays tt usable
    (c.run_number.ensures.preserves.honest honest) in
    let named : f c.at-tn.result.number ≡ f n = ap f c.at-tn.ensures in
    let is : c.from_residual.result ≡ Err c.in_err-written.field-0.0 = search rules in
    until_among _ f first c.args.request.now.numbers.last.number n _ _ _
    (g.W.Write.contents c.loop-number.writer) _ c.args.count c.loop-number.written
    (Err c.in_err-written.field-0.0) c.from_residual.result is c.loop-number.invariant.from
    c.loop-number-test.true (c.loop-number.invariant.going mid)
    (rw named at (c.in_err-written.ensures.until mid honest))

pub returns-in_err-written-clause-preserves : goal.returns-in_err-written-clause-preserves
returns-in_err-written-clause-preserves g c =
    let owed = owes_on c.loop-number.invariant.owed tt c.in_err-written.ensures.preserves (λ u st s.
    let f : ℕ → Task =
    λ n. CommandTask c.args.row c.args.request.now.caller.number n c.args.request.now.operation in (
      state_after st
          (map f (rising c.args.request.now.numbers.first.number
          (c.loop-number.number - c.args.request.now.numbers.first.number))),
      (c.loop-number.invariant.going u st s).refines,
    )) in
    search rules

pub loop-number-preserved : goal.loop-number-preserved
loop-number-preserved g c = record {
  from = omega (arith, c.loop-number.invariant.from);
  counted = omega (
    arith,
    c.in_ok-written.ensures.count,
    c.loop-number.invariant.counted,
    c.loop-number.invariant.from,
  );
  owed = record {
    usable = λ u. c.loop-number.invariant.owed.usable (c.run_number.ensures.preserves.usable u);
    honest = λ h. c.loop-number.invariant.owed.honest (c.run_number.ensures.preserves.honest h);
    begins = λ m inside. c.loop-number.invariant.owed.begins m
        (c.run_number.ensures.preserves.begins m inside);
    ends = λ u m inside. c.run_number.ensures.preserves.ends u m
        (c.loop-number.invariant.owed.ends (c.run_number.ensures.preserves.usable u) m inside);
    stays = λ settles usable honest.
        c.in_ok-written.ensures.preserves.stays tt
        (c.loop-number.invariant.owed.stays tt usable
        (c.run_number.ensures.preserves.honest honest)) honest;
    rises = le_trans c.loop-number.invariant.owed.rises c.run_number.ensures.preserves.rises;
    storage = λ x. absurd x;
  };
  noted = noted_then _ _ _ _ _ _ c.loop-number.invariant.noted c.in_ok-written.ensures.noted;
  going = λ u st s.
      let f : ℕ → Task =
      λ n. CommandTask c.args.row c.args.request.now.caller.number n c.args.request.now.operation in
      let n = c.loop-number.number in
      let first = c.args.request.now.numbers.first.number in
      let before = c.loop-number.invariant.going (c.run_number.ensures.preserves.usable u) st s in
      let now = c.in_ok-written.ensures.runs u (state_after st (map f (rising first (n - first))))
      before.refines in
      let named : f c.at-tn.result.number ≡ f n = ap f c.at-tn.ensures in
      runs_number f first n st _ _ _ (g.W.Write.contents c.loop-number.writer) _ c.args.count
      c.loop-number.written (Ok c.in_ok-written.written) c.loop-number.invariant.from before
      (rw named at now);
}

pub returns-clause-runs : goal.returns-clause-runs
returns-clause-runs g c = λ u st s.
    let f : ℕ → Task =
    λ n. CommandTask c.args.row c.args.request.now.caller.number n c.args.request.now.operation in
    let rise = c.args.request.now.numbers.valid.rise in
    let first = c.args.request.now.numbers.first.number in
    let last = c.args.request.now.numbers.last.number in
    let within : first ≤ last + 1 = omega (arith, rise) in
    let end : c.loop-number.number ≤ last + 1 = c.loop-number.auto.number-end within in
    let at : c.loop-number.number ≡ last + 1 = omega (arith, end, c.loop-number-test.false) in
    does_numbers f first last c.loop-number.number st _ _ _ c.args.count c.loop-number.written at
    (c.loop-number.invariant.going u st s)

pub returns-clause-until : goal.returns-clause-until
returns-clause-until g c =
    λ usable honest. inl (c.loop-number.invariant.owed.stays tt usable honest)
