-- A sound record has at most one version in force and at most one open.
use Rattle.std.proofs.Common.{◌≡◌, ◌≤◌, Bool, true, false, cond, List, [], ◌∷◌, length, Some, None, refl, ap, sym, ◌∙◌, arith}
use Rattle.std.specs.Prelude.{find, filter}
use Rattle.numbers.specs.Subjects.{Subject}
use Rattle.model.specs.Statuses.{Active}
use Rattle.model.specs.Versions.{Version, in_force, is_open}
use Rattle.model.specs.State.{record_now}
use Rattle.model.specs.Laws.{NoTwoActive}
use Rattle.model.specs.Sound.{NoneInForce, OneInForce, NoneOpen, InForceIsActive, AreSound}
use Rattle.numbers.proofs.Small.{some_is}
use Rattle.model.proofs.Unique.{open_not_in_force}
use Rattle.model.proofs.Sound.{replay-sound}

none_filtered : (vs : List Version) → NoneInForce vs → filter in_force vs ≡ []
none_filtered [] none = refl
none_filtered (v ∷ vs) none = ap (λ b. cond b (v ∷ filter in_force vs) (filter in_force vs)) none.0
    ∙ none_filtered vs none.1

none_open_filtered : (s : Subject) (vs : List Version) → NoneOpen s vs → filter (is_open s) vs ≡ []
none_open_filtered s [] none = refl
none_open_filtered s (v ∷ vs) none =
    ap (λ b. cond b (v ∷ filter (is_open s) vs) (filter (is_open s) vs)) none.0
    ∙ none_open_filtered s vs none.1

none_open_found : (s : Subject) (vs : List Version) → NoneOpen s vs → find (is_open s) vs ≡ None
none_open_found s [] none = refl
none_open_found s (v ∷ vs) none = ap (λ b. cond b (Some v) (find (is_open s) vs)) none.0
    ∙ none_open_found s vs none.1

one_filtered : (vs : List Version) → OneInForce vs → length (filter in_force vs) ≤ 1
one_filtered [] one = omega arith
one_filtered (v ∷ vs) one = by_cases (one_filtered vs one.1) (in_force v) refl
  where
    by_cases : length (filter in_force vs) ≤ 1 → (b : Bool) → in_force v ≡ b
        → length (cond b (v ∷ filter in_force vs) (filter in_force vs)) ≤ 1
    by_cases rest true e = let none : length (filter in_force vs) ≡ 0 =
        ap length (none_filtered vs (one.0 e)) in omega arith
    by_cases rest false e = rest

one_open : (s : Subject) (vs : List Version) → AreSound s vs → length (filter (is_open s) vs) ≤ 1
one_open s [] sound = omega arith
one_open s (v ∷ vs) sound = by_cases (is_open s v)
  where
    by_cases : (b : Bool) → length (cond b (v ∷ filter (is_open s) vs) (filter (is_open s) vs)) ≤ 1
    by_cases true = let none : length (filter (is_open s) vs) ≡ 0 =
        ap length (none_open_filtered s vs sound.0) in omega arith
    by_cases false = let none : length (filter (is_open s) vs) ≡ 0 =
        ap length (none_open_filtered s vs sound.0) in omega arith

found_is_active : (vs : List Version) (u : Version) → InForceIsActive vs → find in_force vs ≡ Some u
    → u.status ≡ Active
found_is_active [] u all found = cc
found_is_active (v ∷ vs) u all found =
    by_cases (λ rest. found_is_active vs u all.1 rest) (in_force v) refl found
  where
    by_cases : (find in_force vs ≡ Some u → u.status ≡ Active) → (b : Bool) → in_force v ≡ b
        → cond b (Some v) (find in_force vs) ≡ Some u → u.status ≡ Active
    by_cases later true e f = ap (λ (x : Version). x.status) (sym (some_is v u f)) ∙ all.0 e
    by_cases later false e f = later f

beside : (s : Subject) (vs : List Version) (o u : Version) → AreSound s vs
    → find (is_open s) vs ≡ Some o → find in_force vs ≡ Some u → u.status ≡ Active
beside s [] o u sound opened found = cc
beside s (v ∷ vs) o u sound opened found = by_cases (is_open s v) refl opened
  where
    by_cases : (b : Bool) → is_open s v ≡ b → cond b (Some v) (find (is_open s) vs) ≡ Some o
        → u.status ≡ Active
    by_cases true e f =
        let out : in_force v ≡ false = open_not_in_force s v.status e in
        found_is_active vs u (sound.2 e) (ap (λ b. cond b (Some v) (find in_force vs)) (sym out)
        ∙ found)
    by_cases false e f = let both : None ≡ Some o = sym (none_open_found s vs sound.0) ∙ f in cc

orderly : (s : Subject) (vs : List Version) → AreSound s vs → OneInForce vs
orderly s [] sound = tt
orderly s (v ∷ vs) sound = sound.1

-- This holds in every reachable state.
pub no_two_active : NoTwoActive
no_two_active st is s =
    let sound : AreSound s (record_now st s).versions =
    (replay-sound st.windows s st.history st.now is.history).0 in
    record {
      one_in_force =
          one_filtered (record_now st s).versions (orderly s (record_now st s).versions sound);
      one_open = one_open s (record_now st s).versions sound;
      beside_active = λ o v opened found. beside s (record_now st s).versions o v sound opened
          found;
    }
