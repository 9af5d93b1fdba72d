-- In every record no broadcast is later than the minute.
use Rattle.std.proofs.Common.{◌≡◌, ℕ, ◌≤◌, Bool, true, false, List, [], ◌∷◌, map, refl, sym, subst, arith}
use Rattle.std.specs.Prelude.{◌==◌, if◌then◌else◌}
use Rattle.std.specs.List.{AllByRecursion}
use Rattle.model.specs.declared.words.Outcome.{Outcome}
use Rattle.model.specs.Versions.{Broadcast, with_number, is_open_broadcast}
use Rattle.model.specs.Changes.{on_newest, acknowledged_broadcast, joined_broadcast}
use Rattle.model.proofs.Lists.{each}
use Rattle.model.proofs.Moves.{MovesKeep}
use Rattle.model.proofs.Sends.{sends_kept}
use Rattle.model.specs.Windows.{WindowSet}

abbrev pub AllBy : ℕ → List Broadcast → Type 0
AllBy m bs = AllByRecursion (λ (b : Broadcast). b.minute ≤ m) bs

by_each : (f : Broadcast → Broadcast) → ((b : Broadcast) → (f b).minute ≡ b.minute)
    → (m : ℕ) (bs : List Broadcast) → AllBy m bs → AllBy m (map f bs)
by_each f same m [] by = tt
by_each f same m (b ∷ bs) by = (subst (λ k. k ≤ m) (sym (same b)) by.0, by_each f same m bs by.1)

answered_dated : (c attempt m : ℕ) (bs : List Broadcast) → AllBy m bs
    → AllBy m (map (acknowledged_broadcast c attempt) bs)
answered_dated c attempt =
    by_each (acknowledged_broadcast c attempt) (λ b. by_cases b (b.attempt == attempt))
  where
    by_cases : (b : Broadcast) (t : Bool)
        → (if t then record b { acknowledged = with_number c b.acknowledged } else b).minute
        ≡ b.minute
    by_cases b true = refl
    by_cases b false = refl

joined_dated : (c m : ℕ) (bs : List Broadcast) → AllBy m bs → AllBy m (map (joined_broadcast c) bs)
joined_dated c = by_each (joined_broadcast c) (λ b. by_cases b (is_open_broadcast b))
  where
    by_cases : (b : Broadcast) (t : Bool)
        → (if t then record b { recipients = with_number c b.recipients } else b).minute ≡ b.minute
    by_cases b true = refl
    by_cases b false = refl

closed_dated : (m : ℕ) (outcome : Outcome) (bs : List Broadcast) → AllBy m bs
    → AllBy m (on_newest (λ b. record b { outcome = outcome }) bs)
closed_dated m outcome [] by = tt
closed_dated m outcome (b ∷ bs) by = by

-- Every move keeps it.
pub dated_kept : (w : WindowSet) → MovesKeep w (λ m cs v. AllBy m v.broadcasts)
dated_kept w = sends_kept (record {
  later = λ m n cs attempt bs up. each (λ b by. omega arith) bs;
  joined = λ c m cs attempt. joined_dated c m;
  none = λ m cs. tt;
  sends = λ action m cs v is. (omega arith, is);
  closes = λ outcome closed m cs attempt. closed_dated m outcome;
  answers = λ c attempt m cs last bs among. answered_dated c attempt m bs;
})
