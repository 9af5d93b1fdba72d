use Rattle.std.proofs.Common.{◌≡◌, ◌∙◌, Some, None, option_map, ap, subst, sym}
use Rattle.std.specs.Prelude.{IfOk}
use Rattle.settle.specs.Abstraction.{clock_row_of}
use Rattle.invariants.specs.Flaws.{Judges}
use Rattle.invariants.specs.Sound.{AreVersionsSound, HaveBroadcasts}
use Rattle.invariants.proofs.Judging.{judged_at, judged_rows}
use Rattle.invariants.proofs.finding.find_flaw.Goals as goal

pub returns-clause-value : goal.returns-clause-value
returns-clause-value g c = λ usable.
    let old = g.S.StoreModel.content c.args.store.now in
    let first = g.S.StoreModel.content c.clock.new.self in
    let clock = clock_row_of c.in-Some.clock in
    let last = c.find_in_downloads.ensures.same usable in
    let versions = c.in_ok-flaw.ensures.same last.0 in
    let start = c.in_ok-clock.ensures.looks_up.read_only.same versions.0 in
    let has : old.clock ≡ Some clock =
    sym (c.in_ok-clock.ensures.value versions.0) ∙ ap (option_map clock_row_of) c.in-Some.is in
    let sound : AreVersionsSound old clock =
    judged_at (λ m. AreVersionsSound m clock) first old clock c.in_ok-flaw.field-0 None start.1
    c.in_default-2.is (c.in_ok-flaw.ensures.value last.0) in
    judged_rows old clock has sound c.find_in_downloads.result
    (subst (λ m. IfOk c.find_in_downloads.result (Judges m clock (HaveBroadcasts m)))
    (versions.1 ∙ start.1) (c.find_in_downloads.ensures.value usable clock))
