use Rattle.std.proofs.Common.{Result, Ok, Err, OnErr, ◌≡◌, ◌+◌, ◌-◌, ◌≤◌, List, ◌++◌, ℕ, length, take, drop, ◌∙◌, ap, arith, rules}
use Rattle.std.proofs.lemmas.List.{with_items_is}
use Rattle.std.specs.Vec.{with_items}
use Rattle.http_messages.specs.ReadBuffer.{buffered_bytes}
use Rattle.http_messages.proofs.BufferLemmas.{more_buffered, Keeps-read, same_buffered, Keeps-same}
use Rattle.http_messages.proofs.read_buffer.ReadBuffer.fill.Goals as goal

on_err : {A E : Type 0} (r : Result A E) (P : Type 0) → P → OnErr r P
on_err (Ok a) P p = tt
on_err (Err e) P p = p

-- After a read that failed the same bytes are buffered.
kept : (g : _) (c : goal.After-from_residual g)
    → take (c.move_to_start.new.self.filled - c.move_to_start.new.self.start)
    (drop c.move_to_start.new.self.start
    (with_items c.move_to_start.new.self.bytes c.read_at.new.buf).items)
    ≡ buffered_bytes c.args.self.now
kept g c =
    let buffer = c.move_to_start.new.self in
    same_buffered buffer c.read_at.new.buf c.deref_mut.result.now (buffered_bytes c.args.self.now)
    (with_items_is buffer.bytes c.read_at.new.buf (search rules)) c.deref_mut.ensures.value
    c.in_err-n.ensures.err c.move_to_start.ensures.buffered

pub returns-in_err-n-clause-same : goal.returns-in_err-n-clause-same
returns-in_err-n-clause-same g c = on_err c.from_residual.result _ (kept g c)

pub returns-in_err-n-clause-input : goal.returns-in_err-n-clause-input
returns-in_err-n-clause-input g c =
    Keeps-same (buffered_bytes c.args.self.now) _ _ _ (kept g c) c.in_err-n.ensures.kept

-- The bytes read follow the bytes that were buffered.
read_after : (g : _) (c : goal.After-self-2-1 g)
    → take (c.move_to_start.new.self.filled + c.in_ok-n.n
    - c.move_to_start.new.self.start) (drop c.move_to_start.new.self.start
    (with_items c.move_to_start.new.self.bytes c.read_at.new.buf).items)
    ≡ buffered_bytes c.args.self.now ++ c.in_ok-n.ensures.ok.more
read_after g c =
    let buffer = c.move_to_start.new.self in
    let buf : List ℕ = c.read_at.new.buf in
    let written : (with_items buffer.bytes buf).items ≡ buf =
    with_items_is buffer.bytes buf (search rules) in
    let fits : buffer.filled ≤ length c.deref_mut.result.now = omega (
      arith,
      buffer.fits,
      buffer.bytes.ok.0,
      ap length c.deref_mut.ensures.value,
    ) in
    ap (λ (t : List ℕ). take (buffer.filled + c.in_ok-n.n - buffer.start) (drop buffer.start t))
    written
    ∙ more_buffered buffer.bytes.items _ buf (buffered_bytes c.args.self.now) buffer.start
    buffer.filled c.args.most _ _ _
    c.in_ok-n.ensures.ok c.deref_mut.ensures.value buffer.begins fits
    c.move_to_start.ensures.buffered

pub returns-clause-input : goal.returns-clause-input
returns-clause-input g c =
    Keeps-read _ _ (buffered_bytes c.args.self.now) _ _ _ _ _ _ c.in_ok-n.ensures.ok
    (read_after g c)
