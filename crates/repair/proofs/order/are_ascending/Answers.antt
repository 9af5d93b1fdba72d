use Rattle.std.proofs.Common.{◌≡◌, ◌∙◌, ◌+◌, ◌<◌, ◌≤◌, ◌-◌, ℕ, false, List, Ordering, Less, Equal, Greater, ap, arith, get_or, inl, inr, length, refl, sym}
use Rattle.std.proofs.Math.Nat.{eq-or-lt_of_le}
use Rattle.std.proofs.lemmas.List.{get_or-map}
use Rattle.std.specs.Ordering.{is_ge}
use Rattle.repair.specs.Entries.{Entry, entry_of}
use Rattle.repair.specs.Contents.{entries_of}
use Rattle.repair.specs.declared.row.RegisterRow.{RegisterRow}
use Rattle.repair.proofs.Rising.{is_before}
use Rattle.repair.proofs.order.are_ascending.Goals as goal

is_less : (o : Ordering) → is_ge o ≡ false → o ≡ Less
is_less Less e = refl
is_less Equal e = cc
is_less Greater e = cc

-- The rows before i and at i are in order.
risen : (rows : List RegisterRow) (i k : ℕ) (before after : RegisterRow) (d : Entry)
    → before ≡ get_or rows (i - 1) before → after ≡ get_or rows i after → i < length rows
    → k + 1 ≡ i → is_before (entry_of before) (entry_of after) ≡ Less
    → is_before (get_or (entries_of rows) k d) (get_or (entries_of rows) (k + 1) d) ≡ Less
risen rows i k before after d is_first is_second within next less =
    let place_of : k ≡ i - 1 = omega arith in
    let first : get_or (entries_of rows) k d ≡ entry_of before =
    get_or-map entry_of rows k before d (omega arith)
    ∙ ap (λ n. entry_of (get_or rows n before)) place_of ∙ ap entry_of (sym is_first) in
    let second : get_or (entries_of rows) (k + 1) d ≡ entry_of after =
    get_or-map entry_of rows (k + 1) after d (omega arith)
    ∙ ap (λ n. entry_of (get_or rows n after)) next ∙ ap entry_of (sym is_second) in
    ap (λ e. is_before e (get_or (entries_of rows) (k + 1) d)) first
    ∙ ap (is_before (entry_of before)) second ∙ less

pub loop-i-preserved : goal.loop-i-preserved
loop-i-preserved c = record {
  first = omega arith;
  rise = λ k d less within.
      let most : k + 1 ≤ c.loop-i.i = omega (arith, less) in
      elim (eq-or-lt_of_le most) [
        | inl same ↦
            let one = c.place.ensures in
            let two = c.place-in-loop-i.ensures in
            let compared = c.cmp.ensures in
            let found = is_less c.cmp.result (sym c.is_ge.ensures ∙ c.if-is_ge.false) in
            risen c.args.rows.now c.loop-i.i k c.index-rows-i.result
            c.index-rows-i-in-loop-i.result d c.index-rows-i.is
            c.index-rows-i-in-loop-i.is c.loop-i-test.true same
            (let h : is_before (entry_of c.index-rows-i.result)
            (entry_of c.index-rows-i-in-loop-i.result) ≡ Less = cc in h)
        | inr before ↦ c.loop-i.invariant.rise k d before within
      ];
}
