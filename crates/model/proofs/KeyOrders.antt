-- The keys of broadcasts and of pending downloads are ordered, and equal if their order says so.
use Rattle.std.proofs.Common.{◌≡◌, refl}
use Rattle.std.specs.declared.cmp.Ordering.{Ordering}
use Rattle.std.specs.declared.cmp.Ordering.TheVariants.{Less, Equal, Greater}
use Rattle.std.specs.Ordering.{nat_cmp, ordering_then}
use Rattle.std.specs.Cmp.{IsTotalOrder, nat_cmp_total}
use Rattle.std.proofs.lemmas.Cmp.{then_total, on_total}
use Rattle.std.specs.FinMap.{IsAntisymmetric, nat_cmp-IsAntisymmetric}
use Rattle.model.specs.Content.{BroadcastKey, WaitKey, broadcast_cmp, wait_cmp, broadcast_key, wait_key}

pub both_equal : (a b : Ordering) → ordering_then a b ≡ Equal → (a ≡ Equal) × (b ≡ Equal)
both_equal Equal b e = (refl, e)
both_equal Less b e = let no : Less ≡ Equal = e in cc
both_equal Greater b e = let no : Greater ≡ Equal = e in cc

pub broadcast_total : IsTotalOrder broadcast_cmp
broadcast_total =
    then_total (on_total (λ (k : BroadcastKey). k.id) nat_cmp_total)
    (on_total (λ (k : BroadcastKey). k.attempt) nat_cmp_total)

pub broadcast_exact : IsAntisymmetric broadcast_cmp
broadcast_exact a b e =
    let p = both_equal (nat_cmp a.id b.id) (nat_cmp a.attempt b.attempt) e in
    λ i. broadcast_key (nat_cmp-IsAntisymmetric a.id b.id p.0 i) (nat_cmp-IsAntisymmetric a.attempt
    b.attempt p.1 i)

pub wait_total : IsTotalOrder wait_cmp
wait_total =
    then_total (on_total (λ (k : WaitKey). k.carrier) nat_cmp_total)
    (then_total (on_total (λ (k : WaitKey). k.minute) nat_cmp_total)
    (then_total (on_total (λ (k : WaitKey). k.id) nat_cmp_total)
    (on_total (λ (k : WaitKey). k.attempt) nat_cmp_total)))

pub wait_exact : IsAntisymmetric wait_cmp
wait_exact a b e =
    let p = both_equal (nat_cmp a.carrier b.carrier) (ordering_then (nat_cmp a.minute b.minute)
    (ordering_then (nat_cmp a.id b.id) (nat_cmp a.attempt b.attempt))) e in
    let q = both_equal (nat_cmp a.minute b.minute) (ordering_then (nat_cmp a.id b.id)
    (nat_cmp a.attempt b.attempt)) p.1 in
    let r = both_equal (nat_cmp a.id b.id) (nat_cmp a.attempt b.attempt) q.1 in
    λ i. wait_key (nat_cmp-IsAntisymmetric a.carrier b.carrier p.0 i)
    (nat_cmp-IsAntisymmetric a.minute b.minute q.0 i) (nat_cmp-IsAntisymmetric a.id b.id r.0 i)
    (nat_cmp-IsAntisymmetric a.attempt b.attempt r.1 i)
