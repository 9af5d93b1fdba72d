use Rattle.std.proofs.Common.{Ok, Err, inl, inr, refl, arith}
use Rattle.std.proofs.Math.Nat.{le_trans}
use Rattle.csv.specs.Records.{fields_of}
use Rattle.bulk.specs.Report.{state_after, tasks_from, tasks_of}
use Rattle.bulk.specs.declared.fault.FaultKind.TheVariants.{NoMemory}
use Rattle.bulk.proofs.Asked.{owes_none, owes_on}
use Rattle.bulk.proofs.Passing.{begins, ends, unread, passes_row, fails_row, until_row}
use Rattle.bulk.proofs.Noted.{none_noted, noted_then}
use Rattle.bulk.proofs.Until.{or_then}
use Rattle.bulk.proofs.Runs.{run_follows, follows_then, follows_none}
use Rattle.bulk.proofs.running.run_rows.Goals as goal

pub loop-row-init : goal.loop-row-init
loop-row-init g c = record {
  plain = c.requires;
  few = omega arith;
  owed = owes_none g.S.StoreModel
      c.args.register.now.store;
  noted = none_noted (g.W.Write.contents c.args.writer.now) c.args.line.now.has_refusal;
  follows = λ u st s. follows_none st (g.S.StoreModel.content c.args.register.now.store) s;
  passes = λ u st s rows has. begins g.R.Read.remaining st rows c.args.reader.now
      (g.S.StoreModel.content c.args.register.now.store) (g.W.Write.contents c.args.writer.now) s
      has;
}

pub returns-in-Err-run_row-clause-runs : goal.returns-in-Err-run_row-clause-runs
returns-in-Err-run_row-clause-runs g c = λ u st s rows has.
    let p = c.loop-row.invariant.passes (c.run_row.ensures.preserves.usable u) st s rows has in
    let runs = c.in-Err-run_row.ensures.runs in
    let takes = rw c.in-Ok-true.field-0-test at c.in-Ok-true.ensures.takes in
    fails_row g.R.Read.remaining st rows c.loop-row.reader c.next_row.new.reader _
    (g.W.Write.contents c.args.writer.now) (g.W.Write.contents c.loop-row.writer) c.loop-row.row
    c.loop-row.count p (fields_of c.next_row.new.row) runs.0 _ _ runs.1 takes
    c.in-Err-run_row.fault (runs.2 u (state_after st (tasks_from 1 p.requests)) p.done.refines)

pub returns-in-Err-run_row-clause-until : goal.returns-in-Err-run_row-clause-until
returns-in-Err-run_row-clause-until g c = λ usable honest.
    let mid = c.loop-row.invariant.owed.stays tt usable
    (c.run_row.ensures.preserves.honest honest) in
    let runs = c.in-Err-run_row.ensures.runs in
    let takes = rw c.in-Ok-true.field-0-test at c.in-Ok-true.ensures.takes in
    or_then (runs.3 mid honest) (λ until st s rows has.
    let p = c.loop-row.invariant.passes mid st s rows has in
    until_row g.R.Read.remaining st rows c.loop-row.reader c.next_row.new.reader _
    (g.W.Write.contents c.args.writer.now) (g.W.Write.contents c.loop-row.writer) c.loop-row.row
    c.loop-row.count p (fields_of c.next_row.new.row) runs.0
    (g.S.StoreModel.content c.run_row.new.register.store) _ runs.1 takes c.in-Err-run_row.fault
    (until (state_after st (tasks_from 1 p.requests)) p.done.refines))

pub returns-in-Err-run_row-clause-state : goal.returns-in-Err-run_row-clause-state
returns-in-Err-run_row-clause-state g c = λ u st s.
    let runs = c.in-Err-run_row.ensures.runs in
    follows_then st (g.S.StoreModel.content c.loop-row.register.store) _
    (c.loop-row.invariant.follows (c.run_row.ensures.preserves.usable u) st s)
    (λ later t. run_follows later (tasks_of c.loop-row.row runs.0) _
    (g.W.Write.contents c.loop-row.writer) (g.W.Write.contents c.run_row.new.writer)
    c.loop-row.count (Err c.in-Err-run_row.fault) (runs.2 u later t))

pub returns-in-Err-run_row-clause-preserves : goal.returns-in-Err-run_row-clause-preserves
returns-in-Err-run_row-clause-preserves g c =
    owes_on c.loop-row.invariant.owed tt c.in-Err-run_row.ensures.preserves (λ u st s. let f =
    c.loop-row.invariant.follows u st s in (_, f.1))

pub returns-in-Ok-false-clause-runs : goal.returns-in-Ok-false-clause-runs
returns-in-Ok-false-clause-runs g c = λ u st s rows has.
    let p = c.loop-row.invariant.passes u st s rows has in
    let takes = rw c.in-Ok-false.field-0-test at c.in-Ok-false.ensures.takes in
    ends g.R.Read.remaining st rows c.loop-row.reader c.next_row.new.reader _ _ _ c.loop-row.row
    c.loop-row.count p (fields_of c.next_row.new.row) takes

pub returns-in-Err-clause-runs : goal.returns-in-Err-clause-runs
returns-in-Err-clause-runs g c = λ u st s rows has.
    let p = c.loop-row.invariant.passes u st s rows has in
    unread g.R.Read.remaining st rows c.loop-row.reader c.next_row.new.reader _ _ _ c.loop-row.row
    c.loop-row.count p c.in-Err.kind c.in-Err.ensures.unread

pub loop-row-preserved : goal.loop-row-preserved
loop-row-preserved g c =
    let runs = c.in-Ok.ensures.runs in
    record {
      plain = c.in-Ok-true.ensures.plain c.in-Ok-true.field-0-test;
      few = omega (arith, c.loop-row.invariant.few, c.in-Ok.ensures.few);
      owed = record {
        usable = λ u. c.loop-row.invariant.owed.usable (c.run_row.ensures.preserves.usable u);
        honest = λ h. c.loop-row.invariant.owed.honest (c.run_row.ensures.preserves.honest h);
        begins = λ m inside. c.loop-row.invariant.owed.begins m
            (c.run_row.ensures.preserves.begins m inside);
        ends = λ u m inside. c.run_row.ensures.preserves.ends u m
            (c.loop-row.invariant.owed.ends (c.run_row.ensures.preserves.usable u) m inside);
        stays = λ settles usable honest.
            c.in-Ok.ensures.preserves.stays tt
            (c.loop-row.invariant.owed.stays tt usable
            (c.run_row.ensures.preserves.honest honest)) honest;
        rises = le_trans c.loop-row.invariant.owed.rises c.run_row.ensures.preserves.rises;
        storage = λ x. absurd x;
      };
      noted = noted_then _ _ _ _ _ _ c.loop-row.invariant.noted c.in-Ok.ensures.noted;
      follows = λ u st s.
          follows_then st (g.S.StoreModel.content c.loop-row.register.store) _
          (c.loop-row.invariant.follows (c.run_row.ensures.preserves.usable u) st s)
          (λ later t. run_follows later (tasks_of c.loop-row.row runs.0) _
          (g.W.Write.contents c.loop-row.writer) (g.W.Write.contents c.run_row.new.writer)
          c.loop-row.count (Ok c.in-Ok.done) (runs.2 u later t));
      passes = λ u st s rows has.
          let p = c.loop-row.invariant.passes (c.run_row.ensures.preserves.usable u) st s rows
          has in
          let takes = rw c.in-Ok-true.field-0-test at c.in-Ok-true.ensures.takes in
          passes_row g.R.Read.remaining st rows c.loop-row.reader c.next_row.new.reader _
          (g.W.Write.contents c.args.writer.now) (g.W.Write.contents c.loop-row.writer)
          c.loop-row.row c.loop-row.count p (fields_of c.next_row.new.row) runs.0 _ _ runs.1 takes
          c.in-Ok.done (runs.2 u (state_after st (tasks_from 1 p.requests)) p.done.refines);
    }

pub returns-clause-runs : goal.returns-clause-runs
returns-clause-runs g c = λ u st s rows has.
    let p = c.loop-row.invariant.passes u st s rows has in
    unread g.R.Read.remaining st rows c.loop-row.reader c.loop-row.reader _ _ _ c.loop-row.row
    c.loop-row.count p NoMemory (inr refl)

pub returns-in-Ok-false-clause-until : goal.returns-in-Ok-false-clause-until
returns-in-Ok-false-clause-until g c =
    λ usable honest. inl (c.loop-row.invariant.owed.stays tt usable honest)

pub returns-in-Err-clause-until : goal.returns-in-Err-clause-until
returns-in-Err-clause-until g c =
    λ usable honest. inl (c.loop-row.invariant.owed.stays tt usable honest)

pub returns-clause-until : goal.returns-clause-until
returns-clause-until g c =
    λ usable honest. inl (c.loop-row.invariant.owed.stays tt usable honest)
