-- In every record the newest broadcast of a version that sends is open.
use Rattle.std.proofs.Common.{◌≡◌, ℕ, Bool, true, false, List, ◌∷◌, map, refl, ap, ◌∙◌}
use Rattle.std.specs.Prelude.{⊤, ◌==◌, if◌then◌else◌}
use Rattle.model.specs.Statuses.{Send}
use Rattle.model.specs.Statuses.{Create, Delete, Modify}
use Rattle.model.specs.declared.words.Outcome.{Outcome}
use Rattle.model.specs.declared.words.Outcome.TheVariants.{Open, AllAcknowledged}
use Rattle.model.specs.Statuses.{Status, Sending}
use Rattle.model.specs.Versions.{Broadcast, Version, with_number, is_open_broadcast}
use Rattle.model.specs.Changes.{next_attempt, acknowledged_broadcast, joined_broadcast, status_after, outcome_at_end}
use Rattle.model.proofs.Moves.{MovesKeep}
use Rattle.model.specs.Windows.{WindowSet}
use Rattle.model.proofs.Sends.{end_closes}

-- The property, over the fields of a version that the moves touch.
abbrev pub HasBegunAs : Status → List Broadcast → Type 0
HasBegunAs (Sending action) bs = (b : Broadcast) × (rest : List Broadcast) × (bs ≡ b ∷ rest)
    × (b.outcome ≡ Open)
HasBegunAs _ bs = ⊤

abbrev pub HasBegun : Version → Type 0
HasBegun v = HasBegunAs v.status v.broadcasts

-- A change of each broadcast that leaves its outcome keeps it.
each_begun : (f : Broadcast → Broadcast) → ((b : Broadcast) → (f b).outcome ≡ b.outcome)
    → (status : Status) (bs : List Broadcast) → HasBegunAs status bs → HasBegunAs status (map f bs)
each_begun f same (Sending action) bs has =
    (f has.0, map f has.1, ap (map f) has.2, same has.0 ∙ has.3)
each_begun f same _ bs has = tt

answered_same : (c attempt : ℕ) (b : Broadcast) → (acknowledged_broadcast c attempt b).outcome
    ≡ b.outcome
answered_same c attempt b = by_cases (b.attempt == attempt)
  where
    by_cases : (t : Bool) → (if t then record b { acknowledged = with_number c b.acknowledged }
        else b).outcome ≡ b.outcome
    by_cases true = refl
    by_cases false = refl

joined_same : (c : ℕ) (b : Broadcast) → (joined_broadcast c b).outcome ≡ b.outcome
joined_same c b = by_cases (is_open_broadcast b)
  where
    by_cases : (t : Bool) → (if t then record b { recipients = with_number c b.recipients }
        else b).outcome ≡ b.outcome
    by_cases true = refl
    by_cases false = refl

pub answered_begun : (c attempt : ℕ) (v : Version) → HasBegun v
    → HasBegunAs v.status (map (acknowledged_broadcast c attempt) v.broadcasts)
answered_begun c attempt v has =
    each_begun (acknowledged_broadcast c attempt) (answered_same c attempt) v.status v.broadcasts
    has

sent_begun : (w : WindowSet) (action : Send) (cs : List ℕ) (m : ℕ) (v : Version)
    → HasBegun (next_attempt w action cs m v)
sent_begun w action cs m v = (_, v.broadcasts, refl, refl)

-- A version whose broadcast closed does not send.
closed_begun : (action : Send) (outcome : Outcome) (bs : List Broadcast) → (outcome ≡ Open → ⊥)
    → HasBegunAs (status_after action outcome) bs
closed_begun action Open bs closed = absurd (closed refl)
closed_begun Create _ bs closed = tt
closed_begun Delete _ bs closed = tt
closed_begun (Modify routing) _ bs closed = tt

-- Every move keeps it.
pub begun_kept : (w : WindowSet) → MovesKeep w (λ m cs v. HasBegun v)
begun_kept w = record {
  later = λ m n cs v up is. is;
  joined = λ c m cs v is. each_begun (joined_broadcast c) (joined_same c) v.status v.broadcasts is;
  made_old = λ m cs id old_provider new_provider due some. tt;
  made_new = λ routing m cs id old_provider new_provider due some. tt;
  made_sent = λ routing protective m cs id old_provider new_provider due some. (_, _, refl, refl);
  old_create = λ m cs v awaits is. is;
  new_create = λ routing m cs v awaits is. is;
  pending = λ m cs v from is. tt;
  conflict = λ spent m cs v from is. tt;
  cancel_pending = λ by m cs v from is. tt;
  canceled = λ m cs v from is. tt;
  active = λ m cs v from is. tt;
  planned = λ release m cs v may is. tt;
  old = λ m cs v force is. tt;
  activated = λ m cs v may is. sent_begun w Create cs m v;
  disconnected = λ m cs v may is. sent_begun w Delete cs m v;
  released = λ m cs v from is. sent_begun w Delete cs m v;
  modified = λ routing m cs v may is. sent_begun w (Modify routing) cs m v;
  ended = λ action m cs v from is. closed_begun action (outcome_at_end v.broadcasts) _
      (end_closes v.broadcasts);
  answered = λ c attempt m cs v may is. answered_begun c attempt v is;
  closed = λ c attempt action m cs v may is. closed_begun action AllAcknowledged _ (λ e. cc);
  whole = λ c attempt m cs v may is. tt;
}
