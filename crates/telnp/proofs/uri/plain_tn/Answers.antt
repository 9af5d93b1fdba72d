use Rattle.std.proofs.Common.{codes}
use Rattle.std.proofs.lemmas.Bool.Decides.{Decides-eqb}
use Rattle.std.proofs.lemmas.Slice.Eq.{slice_eq-Decides}
use Rattle.telnp.proofs.PlainLemmas.{has_tn_after}
use Rattle.telnp.proofs.uri.plain_tn.Goals as goal

pub returns-then-eq : goal.returns-then-eq
returns-then-eq c =
    has_tn_after c.args.number.now c.in_ok-prefix.prefix.now c.in_ok-prefix.digits.now
    c.read.result c.in_ok-prefix.ensures.front c.in_ok-prefix.ensures.back
    ((slice_eq-Decides Decides-eqb c.in_ok-prefix.prefix.now (codes "+1") _
    c.eq.ensures).0 c.if-eq.true) c.read.ensures.some
