-- A question changes nothing, and its answer is the machine's.
use Rattle.std.proofs.Common.{◌≡◌, ℕ, List, Option, Some, None, refl, subst}
use Rattle.model.specs.Content.{Content}
use Rattle.model.specs.Machine.{Reply, Rows, out, next, unless_refused, refused_or}
use Rattle.model.specs.State.{State, InForce, all_in_force}
use Rattle.model.specs.Refusals.{Question, QuestionFrom, AllInForce, refusal}
use Rattle.register.specs.Refinement.{Refines, SimulatesStep}

pub unless_same : (r : Option ℕ) (st : State) → unless_refused r st st ≡ st
unless_same None st = refl
unless_same (Some k) st = refl

pub next_asks : (st : State) (caller : ℕ) (q : Question) → next st (QuestionFrom caller q) ≡ st
unfolding next
next_asks st caller q = unless_same (refusal st (QuestionFrom caller q)) st

pub stays : (new : Content) (st : State) (caller : ℕ) (q : Question)
    → Refines new (next st (QuestionFrom caller q)) → Refines new st
stays new st caller q s = subst (λ (t : State). Refines new t) (next_asks st caller q) s

pub kept : (old new : Content) (caller : ℕ) (q : Question) (o : Option Reply)
    → SimulatesStep old new (QuestionFrom caller q) o → (st : State) → Refines old st
    → Refines new st
kept old new caller q None h st s = h st s
kept old new caller q (Some reply) h st s = stays new st caller q (h st s).1

-- The rows in force are the machine's.
same_rows : (r : Option ℕ) (xs ys : List InForce) → Rows xs ≡ refused_or r (Rows ys) → xs ≡ ys
same_rows None xs ys e = cc
same_rows (Some k) xs ys e = cc

pub rows_of : (st : State) (rows : List InForce) → Rows rows ≡ out st (QuestionFrom 0 AllInForce)
    → rows ≡ all_in_force st
unfolding out
rows_of st rows e = same_rows (refusal st (QuestionFrom 0 AllInForce)) rows (all_in_force st) e
