use Rattle.std.proofs.Common.{◌≡◌, ◌∙◌, ◌+◌, Some, None, ap, sym}
use Rattle.std.specs.FinMap.{get}
use Rattle.model.specs.Content.{Content}
use Rattle.invariants.specs.Seen.{AreAllSeen}
use Rattle.invariants.specs.Sound.{HasRow, IsVersionSound}
use Rattle.invariants.proofs.Judging.{flawed_at, judged_at, judged_with}
use Rattle.invariants.proofs.versions.next_flaw.Goals as goal

pub returns-in-Some-2-clause-value : goal.returns-in-Some-2-clause-value
returns-in-Some-2-clause-value g c = λ usable clock now given seen.
    let old = g.S.StoreModel.content c.args.store.now in
    let mid = g.S.StoreModel.content c.version.new.self in
    let at = c.in_ok-flaw.ensures.same usable in
    let was = c.in_ok-row.ensures.looks_up.read_only.same at.0 in
    let found : get mid.versions c.args.id ≡ Some c.in-Some.row =
    ap (λ (m : Content). get m.versions c.args.id) was.1
    ∙ sym (c.in_ok-row.ensures.value at.0) ∙ c.in-Some.is in
    flawed_at mid old clock c.in_ok-flaw.field-0 c.in-Some-2.flaw
    (IsVersionSound mid clock c.args.id c.in-Some.row) was.1 c.in-Some-2.is
    (c.in_ok-flaw.ensures.value usable clock now found)

pub returns-clause-value : goal.returns-clause-value
returns-clause-value g c = λ usable clock now given seen.
    let old = g.S.StoreModel.content c.args.store.now in
    let mid = g.S.StoreModel.content c.version.new.self in
    let id = c.args.id in
    let row = c.in-Some.row in
    let at = c.in_ok-flaw.ensures.same usable in
    let was = c.in_ok-row.ensures.looks_up.read_only.same at.0 in
    let read : get old.versions id ≡ Some row =
    sym (c.in_ok-row.ensures.value at.0) ∙ c.in-Some.is in
    let found : get mid.versions id ≡ Some row =
    ap (λ (m : Content). get m.versions id) was.1 ∙ read in
    let sound : IsVersionSound old clock id row =
    judged_at (λ m. IsVersionSound m clock id row) mid old clock c.in_ok-flaw.field-0 None was.1
    c.in_default-2.is (c.in_ok-flaw.ensures.value usable clock now found) in
    judged_with old clock (HasRow old id (IsVersionSound old clock id))
    (AreAllSeen old (id + 1) c.add.new.self) c.in_ok-add.field-0 (row, read, sound)
    (c.in_ok-add.ensures old clock read seen)
