use Rattle.std.proofs.Common.{rules, ◌≡◌, Some, Err, refl}
use Rattle.matchit.proofs.OnLiterals.{matchit_on_literals}
use Rattle.http_messages.specs.Table.{all_placed, table, texts_of}
use Rattle.http_messages.proofs.paths.router.Goals as goal

-- All paths have a place in one router and make the table; by computation.
pub returns-clause-paths : goal.returns-clause-paths
unfolding matchit_on_literals
returns-clause-paths c =
    let all : all_placed (texts_of c.as_slice.result.now) c.new-router.result ≡ Some table =
    rw (c.as_slice.ensures, c.new-router.ensures) refl in
    c.in_ok-insert_paths.ensures.paths table all

pub returns-in_err-insert_paths-clause-memory : goal.returns-in_err-insert_paths-clause-memory
unfolding matchit_on_literals
returns-in_err-insert_paths-clause-memory c =
    let all : all_placed (texts_of c.as_slice.result.now) c.new-router.result ≡ Some table =
    rw (c.as_slice.ensures, c.new-router.ensures) refl in
    let is : c.from_residual.result ≡ Err c.in_err-insert_paths.field-0.0 = search rules in
    rw is (c.in_err-insert_paths.ensures.memory table all)
