use Rattle.std.proofs.Common.{◌≡◌, ℕ, List, Option, Some, None, sym}
use Rattle.telnp.specs.Grammar.{cut}
use Rattle.telnp.specs.Faults.{parts}
use Rattle.telnp.proofs.Cuts.{Cut, HasParts, parts-cut}
use Rattle.telnp.proofs.parameters.first_part.Goals as goal

at_cut : (bs : List ℕ) (found : Option Cut) → cut 59 bs ≡ found → HasParts bs (parts 59 bs) 59 found
at_cut bs found e = rw (← e) (parts-cut 59 bs)

pub returns-in-None : goal.returns-in-None
returns-in-None c = record {
  parts = at_cut c.args.parameters.now None (sym c.in-None.ensures);
  shorter = tt;
}

pub returns-in-Some : goal.returns-in-Some
returns-in-Some c =
    let h = at_cut c.args.parameters.now (Some (c.in-Some.first.now, c.in-Some.others.now))
    (sym c.in-Some.ensures) in
    record { parts = h.0; shorter = h.1 }
