use Rattle.std.proofs.Common.{◌≡◌, ◌-◌, ◌++◌, ◌∙◌, IsUtf8, drop, length, decimal, ap, sym, arith, length-drop, length-append}
use Rattle.std.proofs.lemmas.Fmt.{IsAscii-decimal}
use Rattle.std.proofs.lemmas.Str.{IsUtf8-append, IsUtf8-from_ascii, IsUtf8-from_is_utf8, is_utf8-from_IsUtf8}
use Rattle.json_api.proofs.tail.Tail.prepend_decimal.Goals as goal

pub write_digits-self-inside-requires : goal.write_digits-self-inside-requires
write_digits-self-inside-requires g c =
    let t = c.self.inside in
    let size : length c.args.self.now ≡ g.row.N - t.start =
    ap length (sym c.self.view_is) ∙ length-drop t.start t.bytes
    ∙ ap (λ n. n - t.start) c.self.told in (
      omega (arith, size, c.requires, c.self.invariant.0),
      omega (arith, c.self.invariant.0, c.self.told),
    )

pub invariant_of-self : goal.invariant_of-self
invariant_of-self g c =
    let t = c.self.inside in
    let w = c.write_digits-self-inside in
    let utf8 : IsUtf8 (decimal c.args.number ++ drop t.start t.bytes) =
    IsUtf8-append _ _ (IsUtf8-from_ascii _ (IsAscii-decimal c.args.number c.ranges.number.fits))
    (IsUtf8-from_is_utf8 _ c.self.invariant.1) in (
      omega (arith, w.ensures.start, c.self.invariant.0),
      rw w.ensures.written (is_utf8-from_IsUtf8 _ utf8),
    )

pub returns-clause-len : goal.returns-clause-len
returns-clause-len g c =
    let t = c.self.inside in
    let w = c.write_digits-self-inside in
    omega (
      arith,
      ap length w.ensures.written,
      ap length c.self.view_is,
      length-append (decimal c.args.number) (drop t.start t.bytes),
    )
