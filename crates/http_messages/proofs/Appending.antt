-- Bytes written in pieces.
use Rattle.std.proofs.Common.{◌≡◌, ℕ, ◌+◌, ◌-◌, ◌≤◌, List, [], ◌++◌, length, take, drop, Option, Some, None, ap, ◌∙◌, sym, subst, arith, append-nil, append_assoc}
use Rattle.std.proofs.lemmas.Grind.{common_steps}
use lib.Seq.{take-add}
use Rattle.std.specs.Io.KnownBytes.{Appends, Keeps}
use Rattle.http_messages.specs.Sending.{AppendsPrefix}

pub Appends-then : (u v w : Option (List ℕ)) (a b : List ℕ) → Appends u v a → Appends v w b
    → Appends u w (a ++ b)
Appends-then None v w a b x y = tt
Appends-then (Some xs) None w a b x y = absurd x
Appends-then (Some xs) (Some ys) None a b x y = y
Appends-then (Some xs) (Some ys) (Some zs) a b x y =
    y ∙ ap (λ (t : List ℕ). t ++ b) x ∙ append_assoc xs a b

take_next : (text : List ℕ) (at n : ℕ) → at ≤ length text → n ≤ length text - at
    → take at text ++ take n (take (length text - at) (drop at text)) ≡ take (at + n) text
take_next text at n h k =
    let e : take n (take (length text - at) (drop at text)) ≡ take n (drop at text) =
    grind (arith, common_steps) in
    ap (λ (t : List ℕ). take at text ++ t) e ∙ sym (take-add at n text)

pub Appends-next : (u v w : Option (List ℕ)) (text : List ℕ) (at n : ℕ) → at ≤ length text
    → n ≤ length text - at
    → Appends u v (take at text) → Appends v w (take n (take (length text - at) (drop at text)))
    → Appends u w (take (at + n) text)
Appends-next u v w text at n h k x y =
    subst (Appends u w) (take_next text at n h k) (Appends-then u v w _ _ x y)

pub length_part : (text : List ℕ) (at : ℕ) → length (take (length text - at) (drop at text))
    ≡ length text - at
length_part text at = grind (arith, common_steps)

-- A prefix of what is left makes a longer prefix.
pub AppendsPrefix-next : (u v w : Option (List ℕ)) (text : List ℕ) (at : ℕ) → at ≤ length text
    → Appends u v (take at text)
    → AppendsPrefix v w (take (length text - at) (drop at text)) → AppendsPrefix u w text
AppendsPrefix-next u v w text at h x (n, few, more) =
    let room : n ≤ length text - at = omega (arith, few, length_part text at) in
    (at + n, omega (arith, h, room), Appends-next u v w text at n h room x more)

pub Appends-nothing : (u v : Option (List ℕ)) → Keeps u v → Appends u v []
Appends-nothing None v x = tt
Appends-nothing (Some xs) None x = absurd x
Appends-nothing (Some xs) (Some ys) x = x ∙ sym (append-nil xs)
