use Rattle.std.proofs.Common.{◌≡◌, ◌⊎◌, inl, inr, arith}
use Rattle.json_api.proofs.ScanLemmas.{gap_more}
use Rattle.json_api.proofs.scan.skip_gap.Goals as goal
use Rattle.json_api.proofs.scan.skip_gap.Goals.{then-byte-eq32, else-byte-eq32}

pub gap-preserved : goal.gap-preserved
gap-preserved c =
    let byte = c.in-Some.byte.now in
    let blank : (byte ≡ 32) ⊎ (byte ≡ 10) = elim c.if-byte-eq32.branch [
      | then-byte-eq32 w ↦ inl w.if-byte-eq32.true
      | else-byte-eq32 w ↦ inr (grind (arith, w.value-is, c.if-byte-eq10.true))
    ] in
    let gap = c.gap.invariant in
    gap_more c.args.bytes.now gap.0 c.gap.rest.now c.in-Some.after.now byte gap.1 gap.2
    c.in-Some.ensures.cases.0 blank
