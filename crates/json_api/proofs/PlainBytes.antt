-- The table of the bytes that represent themselves in a text.
use Rattle.std.proofs.Common.{◌≡◌, ℕ, zero, suc, ◌-◌, ◌<◌, Bool, true, false, ◌&&◌, T, get_or, refl, inl, inr, arith, eq-zero-or-pos}
use Rattle.std.specs.Prelude.{◌==◌, not, cond}
use lib.Ieee.Fits.{and_l, and_r}
use Rattle.json_api.specs.Scanned.{is_plain}
use Rattle.json_api.specs.declared.scan.TheConstants.{PLAIN}

abbrev same : Bool → Bool → Bool
same a b = cond a b (not b)

same-is : (a b : Bool) → T (same a b) → a ≡ b
same-is true true t = refl
same-is true false t = absurd t
same-is false true t = absurd t
same-is false false t = refl

-- Whether the table is right for each byte below `n`.
abbrev are_right : ℕ → Bool
are_right zero = true
are_right (suc p) = same (get_or PLAIN p 0 == 49) (is_plain p) && are_right p

below : (n p : ℕ) → T (are_right n) → p < n → (get_or PLAIN p 0 == 49) ≡ is_plain p
below zero p t h = absurd (omega arith)
below (suc n) p t h =
    elim (eq-zero-or-pos (n - p)) [
      | inl z ↦ let e : p ≡ n = omega arith in
          rw e (same-is (get_or PLAIN n 0 == 49) (is_plain n)
          (and_l (same (get_or PLAIN n 0 == 49) (is_plain n)) (are_right n) t))
      | inr g ↦ below n p (and_r (same (get_or PLAIN n 0 == 49) (is_plain n)) (are_right n) t)
          (omega arith)
    ]

pub plain_at : (p : ℕ) → p < 256 → (get_or PLAIN p 0 == 49) ≡ is_plain p
plain_at p h = below 256 p tt h
