use Rattle.std.proofs.Common.{◌≡◌, ◌++◌}
use Rattle.std.specs.Prelude.{filter}
use Rattle.settle.specs.Lists.{items_of}
use Rattle.store.specs.WaitRows.{is_for}
use Rattle.store.proofs.about.pending_among.Given as goal

abbrev pub invariant-loop-key : goal.invariant-loop-key
invariant-loop-key l =
    items_of l.found ++ filter (λ k. is_for l.rows.entries k l.carrier l.subject) l.key-iterator
    ≡ filter (λ k. is_for l.rows.entries k l.carrier l.subject) l.initial.key-iterator
