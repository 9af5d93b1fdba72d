-- A property of only the attempts and broadcasts of a version is kept by every move if sending,
-- closing, acknowledging and registering keep it.
use Rattle.std.proofs.Common.{◌≡◌, ℕ, ◌+◌, ◌≤◌, true, List, [], ◌∷◌, map, Some}
use Rattle.model.specs.Statuses.{Send, Create, Delete, Modify}
use Rattle.model.specs.declared.words.Outcome.{Outcome}
use Rattle.model.specs.declared.words.Outcome.TheVariants.{Open, AllAcknowledged}
use Rattle.model.specs.Windows.{WindowSet}
use Rattle.model.specs.Versions.{Broadcast, Version, is_among, with_number}
use Rattle.model.specs.Changes.{outcome_at_end, next_attempt, on_newest, acknowledged_broadcast, joined_broadcast}
use Rattle.model.specs.History.{blank_version}
use Rattle.model.proofs.Moves.{MovesKeep}

-- The end of a window closes the broadcast.
pub end_closes : (bs : List Broadcast) → outcome_at_end bs ≡ Open → ⊥
end_closes [] is = cc
end_closes (b ∷ bs) is = by_cases b.acknowledged is
  where
    by_cases : (cs : List ℕ) → outcome_at_end (record b { acknowledged = cs } ∷ bs) ≡ Open → ⊥
    by_cases [] e = cc
    by_cases (c ∷ cs) e = cc

-- Holds if P is kept as time passes, and by registering, sending, closing and acknowledging. P is
-- of a minute, the registered carriers, an attempt and the broadcasts.
pub record SendsKeep (w : WindowSet) (P : ℕ → List ℕ → ℕ → List Broadcast → Type 0) : Type 0 where
  pub later : (m n : ℕ) (cs : List ℕ) (attempt : ℕ) (bs : List Broadcast) → m ≤ n
      → P m cs attempt bs → P n cs attempt bs
  pub joined : (c m : ℕ) (cs : List ℕ) (attempt : ℕ) (bs : List Broadcast) → P m cs attempt bs
      → P m (with_number c cs) attempt (map (joined_broadcast c) bs)
  pub none : (m : ℕ) (cs : List ℕ) → P m cs 0 []
  pub sends : (action : Send) (m : ℕ) (cs : List ℕ) (v : Version) → P m cs v.attempt v.broadcasts
      → P m cs (v.attempt + 1) (next_attempt w action cs m v).broadcasts
  pub closes : (outcome : Outcome) → (outcome ≡ Open → ⊥)
      → (m : ℕ) (cs : List ℕ) (attempt : ℕ) (bs : List Broadcast) → P m cs attempt bs
      → P m cs attempt (on_newest (λ b. record b { outcome = outcome }) bs)
  pub answers : (c attempt m : ℕ) (cs : List ℕ) (last : ℕ) (bs : List Broadcast)
      → is_among c cs ≡ true → P m cs last bs
      → P m cs last (map (acknowledged_broadcast c attempt) bs)

pub sends_kept : {w : WindowSet} {P : ℕ → List ℕ → ℕ → List Broadcast → Type 0} → SendsKeep w P
    → MovesKeep w (λ m cs v. P m cs v.attempt v.broadcasts)
sends_kept {w = w} keeps = record {
  later = λ m n cs v. keeps.later m n cs v.attempt v.broadcasts;
  joined = λ c m cs v. keeps.joined c m cs v.attempt v.broadcasts;
  made_old = λ m cs id old_provider new_provider due some. keeps.none m cs;
  made_new = λ routing m cs id old_provider new_provider due some. keeps.none m cs;
  made_sent = λ routing protective m cs id old_provider new_provider due some.
      keeps.sends Create m cs (record (blank_version w id old_provider new_provider due m) {
        routing = Some routing;
        protective = protective;
      }) (keeps.none m cs);
  old_create = λ m cs v awaits is. is;
  new_create = λ routing m cs v awaits is. is;
  pending = λ m cs v from is. is;
  conflict = λ spent m cs v from is. is;
  cancel_pending = λ by m cs v from is. is;
  canceled = λ m cs v from is. is;
  active = λ m cs v from is. is;
  planned = λ release m cs v may is. is;
  old = λ m cs v force is. is;
  activated = λ m cs v may. keeps.sends Create m cs v;
  disconnected = λ m cs v may. keeps.sends Delete m cs v;
  released = λ m cs v from. keeps.sends Delete m cs v;
  modified = λ routing m cs v may. keeps.sends (Modify routing) m cs v;
  ended = λ action m cs v from. keeps.closes (outcome_at_end v.broadcasts)
      (end_closes v.broadcasts) m cs v.attempt v.broadcasts;
  answered = λ c attempt m cs v may. keeps.answers c attempt m cs v.attempt v.broadcasts may.0;
  closed = λ c attempt action m cs v may is. keeps.closes AllAcknowledged (λ e. cc) m cs v.attempt
      (map (acknowledged_broadcast c attempt) v.broadcasts)
      (keeps.answers c attempt m cs v.attempt v.broadcasts may.0 is);
  whole = λ c attempt m cs v may. keeps.answers c attempt m cs v.attempt v.broadcasts may.0;
}
