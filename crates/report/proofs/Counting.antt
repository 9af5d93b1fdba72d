-- Counts of rows, a row at a time.
use Rattle.std.proofs.Common.{◌≡◌, ℕ, suc, zero, ◌-◌, ◌<◌, ◌≤◌, ◌^◌, Bool, true, false, if◌then◌else◌, List, length, replicate, Option, Some, None, arith, ap, sym, subst}
use Rattle.std.specs.Prelude.{option_and_then}
use Rattle.std.specs.FinMap.{get}
use Rattle.std.proofs.lemmas.List.{get_or-replicate, length-replicate}
use Rattle.model.specs.Content.{Content, VersionRow}
use Rattle.report.specs.Counts.{AddsAt, AddsRow, AreCounts, AreRowsAt, active_place, count_below, is_at, is_row_at, old_place, status_place, timer_place}
use Rattle.report.specs.declared.counts.VersionCounts.{VersionCounts}

abbrev one_if : Bool → ℕ
one_if b = if b then 1 else 0

one_if_le : (b : Bool) → one_if b ≤ 1
one_if_le true = grind arith
one_if_le false = grind arith

count_le : (test : ℕ → Bool) (n : ℕ) → count_below test n ≤ n
count_le test zero = grind arith
count_le test (suc n) = let before = count_le test n in let one = one_if_le (test n) in
    omega (arith, before, one)

module _ (place : VersionRow → Option ℕ) (c : Content) (n : ℕ) where
  -- No row has this id.
  passed_over : (counts : List ℕ) → get c.versions n ≡ None → AreRowsAt place c n counts
      → AreRowsAt place c (suc n) counts
  passed_over counts none are = λ k inside.
      let is : one_if (is_row_at place c k n) ≡ 0 =
      ap (λ o. one_if (is_at k (option_and_then place o))) none in
      let had = are k inside in
      omega (arith, is, had)

  -- The row with this id is added.
  added : (row : VersionRow) (old new : List ℕ) → get c.versions n ≡ Some row → n < 2 ^ 64 - 1
      → AddsAt (place row) old new → AreRowsAt place c n old → AreRowsAt place c (suc n) new
  added row old new found fits adds are = λ k inside.
      let within : k < length old = subst (λ m. k < m) adds.same_length inside in
      let is : one_if (is_row_at place c k n) ≡ one_if (is_at k (place row)) =
      ap (λ o. one_if (is_at k (option_and_then place o))) found in
      let had = are k within in
      let most = count_le (is_row_at place c k) n in
      let adding = adds.adds k within (omega (arith, had, most, fits)) in
      omega (arith, is, had, adding)

-- Nothing is counted below id 0.
none_counted : (place : VersionRow → Option ℕ) (c : Content) (n : ℕ)
    → AreRowsAt place c 0 (replicate n 0)
none_counted place c n = λ k inside.
    get_or-replicate n k 0 0 (subst (λ m. k < m) (length-replicate n 0) inside)

module _ (c : Content) (now n m : ℕ) (next : m ≡ suc n) where
  pub counts_pass_over : (counts : VersionCounts) → get c.versions n ≡ None
      → AreCounts c now n counts → AreCounts c now m counts
  counts_pass_over counts none are = subst (λ k. AreCounts c now k counts) (sym next) (record {
    by_status = passed_over status_place c n counts.by_status none are.by_status;
    by_hour = passed_over (timer_place now) c n counts.by_hour none are.by_hour;
    active = passed_over (active_place now) c n counts.active none are.active;
    became_old = passed_over (old_place now) c n counts.became_old none are.became_old;
  })

  pub counts_add : (row : VersionRow) (before after : VersionCounts)
      → get c.versions n ≡ Some row → n < 2 ^ 64 - 1 → AddsRow now row before after
      → AreCounts c now n before → AreCounts c now m after
  counts_add row before after found fits adds are = subst (λ k. AreCounts c now k after) (sym next)
      (record {
        by_status = added status_place c n row before.by_status after.by_status found fits
            adds.by_status are.by_status;
        by_hour = added (timer_place now) c n row before.by_hour after.by_hour found fits
            adds.by_hour are.by_hour;
        active = added (active_place now) c n row before.active after.active found fits
            adds.active are.active;
        became_old = added (old_place now) c n row before.became_old after.became_old found fits
            adds.became_old are.became_old;
      })

pub counts_none : (c : Content) (now : ℕ) → AreCounts c now 0 (record {
  by_status = replicate 10 0;
  by_hour = replicate 26 0;
  active = replicate 15 0;
  became_old = replicate 15 0;
})
counts_none c now = record {
  by_status = none_counted status_place c 10;
  by_hour = none_counted (timer_place now) c 26;
  active = none_counted (active_place now) c 15;
  became_old = none_counted (old_place now) c 15;
}
