use Rattle.std.proofs.Common.{◌≡◌, map, take}
use Rattle.sql_store.specs.Lists.{WaitRow}
use Rattle.sql_store.proofs.lists.subjects_of.Given as goal

-- The subjects passed are in the list.
abbrev pub invariant-loop-subject : goal.invariant-loop-subject
invariant-loop-subject l =
    l.subjects.items ≡ map (λ (w : WaitRow). w.1) (take l.subject-index l.waits)
