-- The orders of keys.
use Rattle.std.proofs.Common.{◌≡◌, ℕ, ◌&&◌, true, sym, ap, ◌∙◌, arith}
use Rattle.std.specs.Ordering.{nat_cmp, ordering_then, eq_by_cmp, is_eq}
use Rattle.std.specs.Cmp.{tied_then}
use Rattle.std.proofs.lemmas.Bool.Decides.{nat_tests}
use Rattle.model.proofs.KeyOrders.{broadcast_exact, wait_exact}
use Rattle.model.specs.Content.{BroadcastKey, WaitKey, broadcast_cmp, wait_cmp}
use Rattle.numbers.proofs.Small.{tied}

-- Keys are tied if each part is.
pub broadcast_tie : (a b : BroadcastKey)
    → eq_by_cmp broadcast_cmp a b
    ≡ (is_eq (nat_cmp a.id b.id) && is_eq (nat_cmp a.attempt b.attempt))
broadcast_tie a b = sym (tied_then (nat_cmp a.id b.id) (nat_cmp a.attempt b.attempt))

pub wait_tie : (a b : WaitKey)
    → eq_by_cmp wait_cmp a b
    ≡ (is_eq (nat_cmp a.carrier b.carrier) && (is_eq (nat_cmp a.minute b.minute)
    && (is_eq (nat_cmp a.id b.id) && is_eq (nat_cmp a.attempt b.attempt))))
wait_tie a b =
    sym (tied_then (nat_cmp a.carrier b.carrier) (ordering_then (nat_cmp a.minute b.minute)
    (ordering_then (nat_cmp a.id b.id) (nat_cmp a.attempt b.attempt))))
    ∙ ap (λ t. is_eq (nat_cmp a.carrier b.carrier) && t)
    (sym (tied_then (nat_cmp a.minute b.minute) (ordering_then (nat_cmp a.id b.id)
    (nat_cmp a.attempt b.attempt)))
    ∙ ap (λ t. is_eq (nat_cmp a.minute b.minute) && t)
    (sym (tied_then (nat_cmp a.id b.id) (nat_cmp a.attempt b.attempt))))

-- Tied keys are equal.
pub same_number : (m n : ℕ) → eq_by_cmp nat_cmp m n ≡ true → m ≡ n
same_number m n h = grind (arith, nat_tests)

pub same_broadcast : (a b : BroadcastKey) → eq_by_cmp broadcast_cmp a b ≡ true → a ≡ b
same_broadcast a b h = broadcast_exact a b (tied (broadcast_cmp a b) h)

pub same_wait : (a b : WaitKey) → eq_by_cmp wait_cmp a b ≡ true → a ≡ b
same_wait a b h = wait_exact a b (tied (wait_cmp a b) h)
