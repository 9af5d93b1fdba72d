-- Of a subject's versions at most one is open, and at most one in force.
use Rattle.std.proofs.Common.{◌≡◌, ℕ, Bool, true, false, cond, List, [], ◌∷◌, Some, ap, sym, ◌∙◌, subst}
use Rattle.std.specs.Prelude.{◌==◌, find}
use Rattle.numbers.specs.Subjects.{Subject}
use Rattle.model.specs.Sound.{NoneOpen, NoneInForce, OneInForce, HaveBlockStatus, block_status, is_block, AreSound}
use Rattle.model.specs.Versions.{Version, in_force, is_open}
use Rattle.numbers.proofs.Small.{impossible}
use Rattle.model.proofs.Shown.{some_is}

abbrev Finds : ℕ → List Version → Version → Type 0
Finds id vs x = find (λ v. v.id == id) vs ≡ Some x

-- A version found by its id fails a test if all versions of the list fail it.
module _ (test : Version → Bool) (None-passes : List Version
    → Type 0) (first : (v : Version) (vs : List Version) → None-passes (v ∷ vs) → test v ≡ false)
    (rest : (v : Version) (vs : List Version) → None-passes (v ∷ vs) → None-passes vs) where
  pub found_fails : (id : ℕ) (vs : List Version) (x : Version) → None-passes vs → Finds id vs x
      → test x ≡ false
  found_fails id [] x none found = cc
  found_fails id (v ∷ vs) x none found =
      by_cases (v.id == id) found (λ f. found_fails id vs x (rest v vs none) f)
    where
      by_cases : (b : Bool) → cond b (Some v) (find (λ u. u.id == id) vs) ≡ Some x
          → (Finds id vs x → test x ≡ false) → test x ≡ false
      by_cases false f later = later f
      by_cases true f later =
          subst (λ (u : Version). test u ≡ false) (some_is v x f) (first v vs none)

-- ---- the open version

found_closed : (s : Subject) (id : ℕ) (vs : List Version) (x : Version) → NoneOpen s vs
    → Finds id vs x → is_open s x ≡ false
found_closed s =
    found_fails (is_open s) (NoneOpen s) (λ v vs closed. closed.0) (λ v vs closed. closed.1)

newest_open : (s : Subject) (id : ℕ) (v : Version) (vs : List Version) (x : Version) → NoneOpen s vs
    → Finds id (v ∷ vs) x → is_open s x ≡ true → x ≡ v
newest_open s id v vs x closed found opened = by_cases (v.id == id) found
  where
    by_cases : (b : Bool) → cond b (Some v) (find (λ u. u.id == id) vs) ≡ Some x → x ≡ v
    by_cases true f = sym (some_is v x f)
    by_cases false f = impossible (sym opened ∙ found_closed s id vs x closed f)

pub open_once : (s : Subject) (a b : ℕ) (vs : List Version) (x y : Version) → AreSound s vs
    → Finds a vs x → Finds b vs y → is_open s x ≡ true → is_open s y ≡ true → x ≡ y
open_once s a b [] x y sound f g p q = cc
open_once s a b (v ∷ vs) x y sound f g p q =
    newest_open s a v vs x sound.0 f p ∙ sym (newest_open s b v vs y sound.0 g q)

-- ---- the version in force

found_out : (id : ℕ) (vs : List Version) (x : Version) → NoneInForce vs → Finds id vs x
    → in_force x ≡ false
found_out = found_fails in_force NoneInForce (λ v vs out. out.0) (λ v vs out. out.1)

in_force_alone : (a b : ℕ) (vs : List Version) (x y : Version) → OneInForce vs → Finds a vs x
    → Finds b vs y → in_force x ≡ true → in_force y ≡ true → x ≡ y
in_force_alone a b [] x y one f g p q = cc
in_force_alone a b (v ∷ vs) x y one f g p q =
    by_cases (v.id == a) (v.id == b) f g (λ k l. in_force_alone a b vs x y one.1 k l p q)
  where
    by_cases : (c d : Bool) → cond c (Some v) (find (λ u. u.id == a) vs) ≡ Some x
        → cond d (Some v) (find (λ u. u.id == b) vs) ≡ Some y
        → (Finds a vs x → Finds b vs y → x ≡ y) → x ≡ y
    by_cases true true k l later = sym (some_is v x k) ∙ some_is v y l
    by_cases true false k l later =
        impossible (sym q ∙ found_out b vs y (one.0 (ap in_force (some_is v x k) ∙ p)) l)
    by_cases false true k l later =
        impossible (sym p ∙ found_out a vs x (one.0 (ap in_force (some_is v y l) ∙ q)) k)
    by_cases false false k l later = later k l

pub in_force_once : (s : Subject) (a b : ℕ) (vs : List Version) (x y : Version) → AreSound s vs
    → Finds a vs x → Finds b vs y → in_force x ≡ true → in_force y ≡ true → x ≡ y
in_force_once s a b [] x y sound f g p q = cc
in_force_once s a b (v ∷ vs) x y sound f g p q = in_force_alone a b (v ∷ vs) x y sound.1 f g p q

-- ---- a block's versions

with_block_status : (id : ℕ) (vs : List Version) (x : Version) → HaveBlockStatus vs → Finds id vs x
    → block_status x.status ≡ true
with_block_status id [] x have found = cc
with_block_status id (v ∷ vs) x have found =
    by_cases (v.id == id) found (λ f. with_block_status id vs x have.1 f)
  where
    by_cases : (b : Bool) → cond b (Some v) (find (λ u. u.id == id) vs) ≡ Some x
        → (Finds id vs x → block_status x.status ≡ true) → block_status x.status ≡ true
    by_cases true f later = subst (λ (u : Version). block_status u.status ≡ true) (some_is v x f)
        have.0
    by_cases false f later = later f

pub block_found : (s : Subject) (id : ℕ) (vs : List Version) (x : Version) → AreSound s vs
    → Finds id vs x → is_block s ≡ true → block_status x.status ≡ true
block_found s id [] x sound found is = cc
block_found s id (v ∷ vs) x sound found is = with_block_status id (v ∷ vs) x (sound.3 is).0 found
