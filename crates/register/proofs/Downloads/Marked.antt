-- A broadcast's row that says already that a carrier has acknowledged it.
use Rattle.std.proofs.Common.{◌≡◌, Bool, true, false, not, ◌&&◌, [], ◌∷◌, Some, refl, ap, sym, ◌∙◌}
use Rattle.std.specs.Prelude.{◌==◌, if◌then◌else◌}
use Rattle.std.specs.FinMap.{get}
use Rattle.model.specs.Content.{Content, BroadcastKey, BroadcastRow, WaitKey, broadcast_key}
use Rattle.numbers.proofs.Small.{equal_number, and_both}
use Rattle.settle.specs.Changes.{Changes, AppliesChanges, no_changes, put_rows, same_broadcast}
use Rattle.register.specs.Acknowledging.{answered_row, acknowledgement_changes, one_changes}

key_same : (a b : BroadcastKey) → same_broadcast a b ≡ true → a ≡ b
key_same a b e =
    let both = and_both (a.id == b.id) (a.attempt == b.attempt) e in
    (λ i. broadcast_key (equal_number a.id b.id both.0 i)
    (equal_number a.attempt b.attempt both.1 i))

row_stays : (row : BroadcastRow) → row.any ≡ true → answered_row false row ≡ row
row_stays row e =
    ap (λ o. let x : BroadcastRow = record row { is_open = o; any = true } in x)
    (and_true row.is_open)
    ∙ ap (λ a. let x : BroadcastRow = record row { any = a } in x) (sym e)
  where
    and_true : (b : Bool) → (b && not false) ≡ b
    and_true true = refl
    and_true false = refl

-- To write the row again changes nothing.
module _ (c : Content) (key : BroadcastKey) (row : BroadcastRow)
    (found : get c.broadcasts key ≡ Some row) (marked : row.any ≡ true) where
  put_again : (k : BroadcastKey) → get c.broadcasts k
      ≡ put_rows same_broadcast ((key, answered_row false row) ∷ []) k (get c.broadcasts k)
  put_again k = by_cases (same_broadcast key k) refl
    where
      by_cases : (b : Bool) → same_broadcast key k ≡ b → get c.broadcasts k
          ≡ (if b then Some (answered_row false row) else get c.broadcasts k)
      by_cases false e = refl
      by_cases true e = ap (get c.broadcasts) (sym (key_same key k e)) ∙ found
          ∙ ap (λ r. Some r) (sym (row_stays row marked))

-- What is staged if the row says already, or does not, that a carrier has acknowledged.
abbrev staged : WaitKey → BroadcastRow → Bool → Changes
staged wait row b = record no_changes {
  broadcasts = if b then [] else (broadcast_key wait.id wait.attempt, answered_row false row) ∷ [];
  deleted_waits = wait ∷ [];
}

-- What is staged of a download that is not the last has the effect of all its changes.
pub marks_row : (c m : Content) (wait : WaitKey) (row : BroadcastRow)
    → get c.broadcasts (broadcast_key wait.id wait.attempt) ≡ Some row
    → AppliesChanges (one_changes wait row) c m
    → AppliesChanges (acknowledgement_changes wait.carrier wait.minute wait.id wait.attempt false []
    (answered_row false row)) c m
marks_row c m wait row found = by_cases row.any refl
  where
    by_cases : (b : Bool) → row.any ≡ b → AppliesChanges (staged wait row b) c m
        → AppliesChanges (acknowledgement_changes wait.carrier wait.minute wait.id wait.attempt
        false [] (answered_row false row)) c m
    by_cases false e changed = changed
    by_cases true e changed = record {
      carriers = changed.carriers;
      lrns = changed.lrns;
      codes = changed.codes;
      blocks = changed.blocks;
      versions = changed.versions;
      broadcasts = λ k. changed.broadcasts k
          ∙ put_again c (broadcast_key wait.id wait.attempt) row found e k;
      waits = changed.waits;
      sets = changed.sets;
      clock = changed.clock;
    }
