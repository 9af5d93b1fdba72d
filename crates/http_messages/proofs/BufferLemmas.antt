-- The buffered bytes, as reads add to them and consumers drop them.
use Rattle.std.proofs.Common.{◌≡◌, ℕ, ◌+◌, ◌-◌, ◌≤◌, List, ◌++◌, length, take, drop, ap, ◌∙◌, sym, arith, append_assoc, Option, Some, None, length-drop}
use Rattle.std.specs.Io.KnownBytes.{Keeps, prepend_known}
use Rattle.std.specs.Vec.{with_items}
use Rattle.http_messages.specs.ReadBuffer.{ReadsAt, buffered_bytes}
use Rattle.http_messages.specs.declared.read_buffer.ReadBuffer.{ReadBuffer}
use Rattle.std.proofs.lemmas.List.{take-append-le, drop-append-le, drop-drop, drop-take, length-take-le}
use Rattle.std.proofs.Math.Seq.{take-append-add}
use Rattle.std.proofs.lemmas.Grind.{common_steps}

pub taken_more : (old buf post : List ℕ) (f n : ℕ) → f ≤ length old → n ≤ length buf
    → take (f + n) (take f old ++ (buf ++ post)) ≡ take f old ++ take n buf
taken_more old buf post f n h k =
    let e : length (take f old) ≡ f = grind (arith, common_steps) in
    ap (λ (m : ℕ). take (m + n) (take f old ++ (buf ++ post))) (sym e)
    ∙ take-append-add (take f old) (buf ++ post) n ∙ ap (λ (t : List ℕ). take f old ++ t)
    (take-append-le n buf post k)

-- What a read puts after the buffered bytes, which begin at start, is buffered after them.
pub buffered_more : (old new : List ℕ) (start filled stop n : ℕ) (had has : Option (List ℕ))
    (r : ReadsAt old new filled stop n had has) → start ≤ filled → filled ≤ length old
    → take (filled + n - start) (drop start new) ≡ take (filled - start) (drop start old) ++ r.more
buffered_more old new start filled stop n had has r s f =
    let after : start + (filled + n - start) ≡ filled + n = omega arith in
    let before : start + (filled - start) ≡ filled = omega arith in
    let long : start ≤ length (take filled old) = grind (arith, common_steps) in
    sym (drop-take start (filled + n - start) new) ∙ ap (λ (m : ℕ). drop start (take m new)) after
    ∙ ap (drop start) r.kept
    ∙ drop-append-le start (take filled old) r.more long
    ∙ ap (λ (t : List ℕ). t ++ r.more) (ap (λ (m : ℕ). drop start (take m old)) (sym before)
    ∙ drop-take start (filled - start) old)

pub more_buffered : (items old new bytes : List ℕ) (start filled stop n : ℕ)
    (had has : Option (List ℕ)) (r : ReadsAt old new filled stop n had has) → old ≡ items
    → start ≤ filled → filled ≤ length old
    → take (filled - start) (drop start items) ≡ bytes → take (filled + n - start) (drop start new)
    ≡ bytes ++ r.more
more_buffered items old new bytes start filled stop n had has r e s f h =
    buffered_more old new start filled stop n had has r s f ∙ ap (λ (t : List ℕ). t ++ r.more)
    (ap (λ (t : List ℕ). take (filled - start) (drop start t)) e ∙ h)

pub Keeps-read : (old new bytes bytes' : List ℕ) (filled stop n : ℕ) (had has : Option (List ℕ))
    (r : ReadsAt old new filled stop n had has) → bytes' ≡ bytes ++ r.more
    → Keeps (prepend_known bytes had) (prepend_known bytes' has)
Keeps-read old new bytes bytes' filled stop n None has r e = tt
Keeps-read old new bytes bytes' filled stop n (Some xs) None r e = absurd r.read
Keeps-read old new bytes bytes' filled stop n (Some xs) (Some ys) r e =
    ap (λ (t : List ℕ). t ++ ys) e ∙ append_assoc bytes r.more ys ∙ ap (λ (t : List ℕ). bytes ++ t)
    (sym r.read)

-- A read that failed leaves the buffered bytes.
buffered_kept : (items old new : List ℕ) (start filled : ℕ) → old ≡ items → start ≤ filled
    → take filled new ≡ take filled old
    → take (filled - start) (drop start new) ≡ take (filled - start) (drop start items)
buffered_kept items old new start filled e s same =
    let before : start + (filled - start) ≡ filled = omega arith in
    sym (drop-take start (filled - start) new) ∙ ap (λ (m : ℕ). drop start (take m new)) before
    ∙ ap (drop start) same
    ∙ ap (λ (t : List ℕ). drop start (take filled t)) e ∙ ap (λ (m : ℕ). drop start (take m items))
    (sym before) ∙ drop-take start (filled - start) items

pub same_buffered : (buffer : ReadBuffer) (buf old bytes : List ℕ)
    → (with_items buffer.bytes buf).items ≡ buf
    → old ≡ buffer.bytes.items → take buffer.filled buf ≡ take buffer.filled old
    → buffered_bytes buffer ≡ bytes
    → take (buffer.filled - buffer.start) (drop buffer.start (with_items buffer.bytes buf).items)
    ≡ bytes
same_buffered buffer buf old bytes written e same is =
    ap (λ (t : List ℕ). take (buffer.filled - buffer.start) (drop buffer.start t)) written
    ∙ buffered_kept buffer.bytes.items old buf buffer.start buffer.filled e buffer.begins same ∙ is

pub Keeps-same : (bytes bytes' : List ℕ) (had has : Option (List ℕ)) → bytes' ≡ bytes
    → Keeps had has
    → Keeps (prepend_known bytes had) (prepend_known bytes' has)
Keeps-same bytes bytes' None has e k = tt
Keeps-same bytes bytes' (Some xs) None e k = absurd k
Keeps-same bytes bytes' (Some xs) (Some ys) e k =
    ap (λ (t : List ℕ). t ++ ys) e ∙ ap (λ (t : List ℕ). bytes ++ t) k

-- Raising the start by n drops the first n buffered bytes.
pub prefix_dropped : (xs : List ℕ) (start filled n : ℕ) → n ≤ filled - start
    → take (filled - (start + n)) (drop (start + n) xs)
    ≡ drop n (take (filled - start) (drop start xs))
prefix_dropped xs start filled n h =
    let sum : n + (filled - (start + n)) ≡ filled - start = omega arith in
    ap (take (filled - (start + n))) (sym (drop-drop n start xs))
    ∙ sym (drop-take n (filled - (start + n)) (drop start xs))
    ∙ ap (λ (m : ℕ). drop n (take m (drop start xs))) sum

-- The number of buffered bytes.
pub buffered_length : (buffer : ReadBuffer)
    → length (buffered_bytes buffer) ≡ buffer.filled - buffer.start
buffered_length buffer =
    length-take-le (buffer.filled - buffer.start) (drop buffer.start buffer.bytes.items)
    (omega (
      arith,
      buffer.begins,
      buffer.fits,
      buffer.bytes.ok.0,
      length-drop buffer.start buffer.bytes.items,
    ))
