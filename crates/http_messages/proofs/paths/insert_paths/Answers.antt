use Rattle.std.proofs.Common.{◌≡◌, ◌∙◌, ap, sym, rules, Err}
use Rattle.std.proofs.lemmas.List.{drop_all}
use Rattle.http_messages.specs.Table.{all_placed, texts_of}
use Rattle.http_messages.proofs.PathLemmas.{placed_next}
use Rattle.numbers.proofs.Small.{some_is}
use Rattle.http_messages.proofs.paths.insert_paths.Goals as goal

pub loop-path-init : goal.loop-path-init
loop-path-init c = λ rows all. all

pub loop-path-preserved : goal.loop-path-preserved
loop-path-preserved c = λ rows all.
    let placed = placed_next c.args.paths.now c.loop-path.path-index _ c.loop-path.router
    c.insert.new.self rows c.insert.result c.loop-path-test.true c.insert.ensures
    (c.loop-path.invariant rows all) in
    rw c.in_ok-insert.was at placed.0

pub returns-in_err-insert-clause-memory : goal.returns-in_err-insert-clause-memory
returns-in_err-insert-clause-memory c = λ rows all.
    let placed = placed_next c.args.paths.now c.loop-path.path-index _ c.loop-path.router
    c.insert.new.self rows c.insert.result c.loop-path-test.true c.insert.ensures
    (c.loop-path.invariant rows all) in
    let is : c.from_residual.result ≡ Err c.in_err-insert.field-0.0 = search rules in
    rw is (rw c.in_err-insert.was at placed.1)

pub returns-clause-paths : goal.returns-clause-paths
returns-clause-paths c = λ rows all.
    some_is c.loop-path.router rows
    (ap (λ ps. all_placed (texts_of ps) c.loop-path.router)
    (sym (drop_all c.loop-path.path-index c.args.paths.now c.loop-path-test.false))
    ∙ c.loop-path.invariant rows all)
