-- The next attempt is within the limit, and a refusal by the facts is the state's.
use Rattle.std.proofs.Common.{refl, arith, rules}
use Rattle.std.proofs.lemmas.Bool.Decides.{nat_tests}
use Rattle.pool.proofs.BlockRefused.{release_refused_in}
use Rattle.pool.proofs.releasing.release.Goals as goal

pub returns-clause-released : goal.returns-clause-released
returns-clause-released c = rw c.in-Some.is (
  refl,
  c.sending.ensures (grind (
    arith,
    nat_tests,
    c.if-is_sent_too_often.ensures,
    c.if-is_sent_too_often.false,
  )),
)

pub returns-then-is_none-clause-state : goal.returns-then-is_none-clause-state
returns-then-is_none-clause-state c =
    λ st block is. release_refused_in st c.args.caller.number c.args.facts.now block is _
    (search rules)

pub returns-then-is_none-2-clause-state : goal.returns-then-is_none-2-clause-state
returns-then-is_none-2-clause-state c =
    λ st block is. release_refused_in st c.args.caller.number c.args.facts.now block is _
    (search rules)

pub returns-in_default-clause-state : goal.returns-in_default-clause-state
returns-in_default-clause-state c =
    λ st block is. release_refused_in st c.args.caller.number c.args.facts.now block is _
    (search rules)

pub returns-then-is_others-clause-state : goal.returns-then-is_others-clause-state
returns-then-is_others-clause-state c =
    λ st block is. release_refused_in st c.args.caller.number c.args.facts.now block is _
    (search rules)

pub returns-then-not-matches-clause-state : goal.returns-then-not-matches-clause-state
returns-then-not-matches-clause-state c =
    λ st block is. release_refused_in st c.args.caller.number c.args.facts.now block is _
    (search rules)

pub returns-then-has_open_port-clause-state : goal.returns-then-has_open_port-clause-state
returns-then-has_open_port-clause-state c =
    λ st block is. release_refused_in st c.args.caller.number c.args.facts.now block is _
    (search rules)

pub returns-then-is_sent_too_often-clause-state : goal.returns-then-is_sent_too_often-clause-state
returns-then-is_sent_too_often-clause-state c =
    λ st block is. release_refused_in st c.args.caller.number c.args.facts.now block is _
    (search rules)

pub returns-clause-state : goal.returns-clause-state
returns-clause-state c = λ st block is. release_refused_in st c.args.caller.number c.args.facts.now
    block is _ (search rules)
