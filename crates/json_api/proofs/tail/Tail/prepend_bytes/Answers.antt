use Rattle.std.proofs.Common.{◌-◌, ◌++◌, IsUtf8, drop, length, arith, ap, length-append}
use Rattle.std.proofs.lemmas.Str.{IsUtf8-append, IsUtf8-from_is_utf8, is_utf8-from_IsUtf8}
use Rattle.json_api.proofs.TailLemmas.{drop-put_mid_at}
use Rattle.json_api.proofs.tail.Tail.prepend_bytes.Goals as goal

pub invariant_of-self : goal.invariant_of-self
invariant_of-self g c =
    let t = c.self.inside in
    let utf8 : IsUtf8 (c.args.text.now ++ drop t.start t.bytes) =
    IsUtf8-append _ _ c.requires.utf8 (IsUtf8-from_is_utf8 _ c.self.invariant.1) in (
      omega (arith, c.self.invariant.0),
      rw (
        c.copy_from_slice.ensures.after,
        drop-put_mid_at t.bytes c.args.text.now (t.start - length c.args.text.now) t.start
            (omega arith) (omega (arith, c.self.invariant.0, c.self.told)),
      ) (is_utf8-from_IsUtf8 _ utf8),
    )

pub returns-clause-text : goal.returns-clause-text
returns-clause-text g c =
    let t = c.self.inside in
    rw (
      c.copy_from_slice.ensures.after,
      drop-put_mid_at t.bytes c.args.text.now (t.start - length c.args.text.now) t.start
          (omega arith) (omega (arith, c.self.invariant.0, c.self.told)),
    ) (ap (λ ys. c.args.text.now ++ ys) c.self.view_is)

pub returns-clause-len : goal.returns-clause-len
returns-clause-len g c =
    let t = c.self.inside in
    rw (
      c.copy_from_slice.ensures.after,
      drop-put_mid_at t.bytes c.args.text.now (t.start - length c.args.text.now) t.start
          (omega arith) (omega (arith, c.self.invariant.0, c.self.told)),
      c.self.view_is,
    ) (omega (arith, length-append c.args.text.now c.args.self.now))
