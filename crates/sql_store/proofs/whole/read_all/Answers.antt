use Rattle.std.proofs.Common.{rules, true, false, sym, ap, subst, ◌∙◌, refl}
use Rattle.sqlite.specs.Held.{state}
use Rattle.sqlite.specs.Effect.{Database}
use Rattle.sql_rows.specs.Content.{content_in}
use Rattle.sql_store.specs.Whole.{HasPresentSet, IsMoved, ReadsAdded, ReadsAll, ReadsVersions}
use Rattle.sql_store.proofs.CallLemmas.{looked_then}
use Rattle.sql_store.proofs.WholeLemmas.{all_told}
use Rattle.sql_store.proofs.whole.read_all.Goals as goal

pub returns-clause-value : goal.returns-clause-value
returns-clause-value g c up =
    let db = (state g.S.Store c.args.db.now.conn).now.trees in
    let fifth = c.in_ok-see_clock.ensures.queried.same refl up in
    let fourth = c.in_ok-see_moved.ensures.queried.same refl fifth.was_open in
    let third = c.in_ok-added.ensures.queried.same refl fourth.was_open in
    let second = c.in_ok-versions.ensures.queried.same refl third.was_open in
    let first = c.in_ok-registry.ensures.queried.same refl second.was_open in
    let two = second.now ∙ first.now in
    let three = third.now ∙ two in
    let four = fourth.now ∙ three in
    subst (ReadsAll db) (sym c.are_blank-is_blank.ensures)
    (all_told db c.in_ok-registry.registry c.in_ok-versions.versions c.in_ok-added.added
    (c.in_ok-registry.ensures.value second.was_open)
    (subst (λ (d : Database). ReadsVersions d.trees c.in_ok-versions.versions) first.now
    (c.in_ok-versions.ensures.value third.was_open))
    (subst (λ (d : Database). ReadsAdded d.trees c.in_ok-added.added) two
    (c.in_ok-added.ensures.value fourth.was_open))
    (subst (λ (d : Database). IsMoved d.trees) three
    (c.in_ok-see_moved.ensures.value fifth.was_open))
    (subst (λ (d : Database). HasPresentSet d.trees) four (c.in_ok-see_clock.ensures.present up))
    (λ none. sym c.are_blank-is_blank.ensures ∙ c.in_ok-see_clock.ensures.begun up
    (ap (λ (d : Database). (content_in d.trees).clock) four ∙ none)))

pub returns-clause-queried : goal.returns-clause-queried
returns-clause-queried g c =
    let a = state g.S.Store c.args.db.now.conn in
    let b = state g.S.Store c.read_registry.new.db.conn in
    let d = state g.S.Store c.read_versions.new.db.conn in
    let e = state g.S.Store c.read_added.new.db.conn in
    let f = state g.S.Store c.see_moved.new.db.conn in
    let h = state g.S.Store c.see_clock.new.db.conn in
    let two =
    looked_then a b d true c.in_ok-registry.ensures.queried c.in_ok-versions.ensures.queried in
    let three = looked_then a d e true two c.in_ok-added.ensures.queried in
    let four = looked_then a e f true three c.in_ok-see_moved.ensures.queried in
    looked_then a f h true four c.in_ok-see_clock.ensures.queried

pub returns-in_err-see_clock-clause-queried : goal.returns-in_err-see_clock-clause-queried
returns-in_err-see_clock-clause-queried g c =
    let a = state g.S.Store c.args.db.now.conn in
    let b = state g.S.Store c.read_registry.new.db.conn in
    let d = state g.S.Store c.read_versions.new.db.conn in
    let e = state g.S.Store c.read_added.new.db.conn in
    let f = state g.S.Store c.see_moved.new.db.conn in
    let h = state g.S.Store c.see_clock.new.db.conn in
    let two =
    looked_then a b d true c.in_ok-registry.ensures.queried c.in_ok-versions.ensures.queried in
    let three = looked_then a d e true two c.in_ok-added.ensures.queried in
    let four = looked_then a e f true three c.in_ok-see_moved.ensures.queried in
    let five = looked_then a f h false four c.in_err-see_clock.ensures.queried in
    search (rules, five)

pub returns-in_err-see_moved-clause-queried : goal.returns-in_err-see_moved-clause-queried
returns-in_err-see_moved-clause-queried g c =
    let a = state g.S.Store c.args.db.now.conn in
    let b = state g.S.Store c.read_registry.new.db.conn in
    let d = state g.S.Store c.read_versions.new.db.conn in
    let e = state g.S.Store c.read_added.new.db.conn in
    let f = state g.S.Store c.see_moved.new.db.conn in
    let two =
    looked_then a b d true c.in_ok-registry.ensures.queried c.in_ok-versions.ensures.queried in
    let three = looked_then a d e true two c.in_ok-added.ensures.queried in
    let four = looked_then a e f false three c.in_err-see_moved.ensures.queried in
    search (rules, four)
