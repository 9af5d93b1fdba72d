use Rattle.std.proofs.Common.{◌≡◌, IsTrue, false, rules, sym, ◌∙◌, arith}
use Rattle.std.proofs.lemmas.Bool.{true_from_ne_false, both_ways}
use Rattle.sqlite.specs.Held.{state}
use Rattle.sqlite_trees.specs.View.{IsClean}
use Rattle.sql_store.proofs.OpeningLemmas.{was_opened}
use Rattle.sql_store.proofs.store.SqlStore.checked.Goals as goal

pub over-requires : goal.over-requires
over-requires g c = λ clean.
    let v = g.S.Store.view c.into_store-store.result in
    let sound : v.is_broken ≡ false = let e = c.is_broken.ensures clean in search rules in
    let is_open : IsTrue v.is_open =
    true_from_ne_false _ (λ shut. both_ways _ sound (g.met.S.Store.broken_if_shut _ shut)) in
    let kept = c.into_store-store.ensures.undone.kept clean in
    record {
      sound = sound;
      numbered = c.into_store-store.ensures.numbered clean;
      clean = (c.into_store-store.ensures.undone.undone is_open).0 ∙ sym (kept.committed is_open);
      unmarked = kept.marks is_open;
    }

pub returns-in-Ok-clause-opened : goal.returns-in-Ok-clause-opened
returns-in-Ok-clause-opened g c = λ clean.
    let store = c.into_store-store.result in
    let v = g.S.Store.view store in
    let before : IsClean v = omega (arith, clean, c.in-Ok.ensures.clean) in
    let sound : v.is_broken ≡ false = let e = c.is_broken.ensures before in search rules in
    let opens = c.in-Ok.ensures.opens clean in
    was_opened v (state g.S.Store c.in-Ok.conn) (g.met.S.Alter.listed store sound)
    (g.met.S.Store.ordered store sound) (c.in-Ok.ensures.trees clean) opens.0 opens.1

pub returns-in-Ok-clause-trees : goal.returns-in-Ok-clause-trees
returns-in-Ok-clause-trees g c = λ clean.
    let v = g.S.Store.view c.into_store-store.result in
    let before : IsClean v = omega (arith, clean, c.in-Ok.ensures.clean) in
    let sound : v.is_broken ≡ false = let e = c.is_broken.ensures before in search rules in
    let is_open : IsTrue v.is_open =
    true_from_ne_false _ (λ shut. both_ways _ sound (g.met.S.Store.broken_if_shut _ shut)) in
    c.in-Ok.ensures.trees clean ∙ (c.into_store-store.ensures.undone.undone is_open).0

pub returns-in-Err-clause-kept : goal.returns-in-Err-clause-kept
returns-in-Err-clause-kept g c = λ clean up.
    let v = g.S.Store.view c.into_store-store.result in
    let before : IsClean v = omega (arith, clean, c.in-Err.ensures.unharmed.clean) in
    let sound : v.is_broken ≡ false = let e = c.is_broken.ensures before in search rules in
    let is_open : IsTrue v.is_open =
    true_from_ne_false _ (λ shut. both_ways _ sound (g.met.S.Store.broken_if_shut _ shut)) in
    c.in-Err.ensures.rows clean up ∙ (c.into_store-store.ensures.undone.undone is_open).0
