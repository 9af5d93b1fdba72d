-- Bytes and digits written before the end of a text.
use Rattle.std.proofs.Common.{◌≡◌, ℕ, ◌+◌, ◌-◌, ◌^◌, ◌≤◌, ◌<◌, ◌++◌, ◌∙◌, List, length, take, drop, decimal, ap, arith, length-take-le}
use Rattle.std.proofs.lemmas.Fmt.{length-decimal-le}
use Rattle.std.proofs.lemmas.List.{drop_at, drop-drop}
use borrow.Rule.Slice.PartMut.{put_mid}

pub drop-put_mid_at : (bytes text : List ℕ) (start end : ℕ) → start ≤ end → end ≤ length bytes
    → drop start (put_mid start (end - start) bytes text) ≡ text ++ drop end bytes
drop-put_mid_at bytes text start end before within =
    let on : start + (end - start) ≡ end = omega arith in
    drop_at (take start bytes) (text ++ drop (end - start) (drop start bytes)) start
    (length-take-le start bytes (omega arith))
    ∙ ap (λ rest. text ++ rest)
    (drop-drop (end - start) start bytes ∙ ap (λ n. drop n bytes) on)

pub length-minute : (n : ℕ) → n < 2 ^ 40 → length (decimal n) ≤ 13
length-minute n small =
    length-decimal-le 13 n (omega arith) (omega (arith, small)) (omega (arith, small))
