-- In every record the attempts of each version are below the limit, and a version with a planned
-- disconnect has one left.
use Rattle.std.proofs.Common.{◌≡◌, ℕ, ◌+◌, ◌<◌, true, false, refl, sym, ◌∙◌, arith}
use Rattle.model.specs.Statuses.{Send}
use Rattle.model.specs.Statuses.{Create, Delete, Modify}
use Rattle.model.specs.declared.words.Outcome.{Outcome}
use Rattle.model.specs.declared.words.Outcome.TheVariants.{Open, AllAcknowledged}
use Rattle.model.specs.Statuses.{Status, Pending, Conflict, CancelPending, Sending, Active, Old, Canceled}
use Rattle.model.specs.Versions.{Version}
use Rattle.model.specs.Changes.{status_after, outcome_at_end}
use Rattle.model.specs.Conditions.{limit}
use Rattle.model.proofs.Moves.{MovesKeep, is_planned}
use Rattle.model.specs.Windows.{WindowSet}

abbrev pub HasRoomAs : ℕ → Status → Type 0
HasRoomAs attempt status = (attempt < limit) × (is_planned status ≡ true → attempt + 1 < limit)

abbrev pub HasRoom : Version → Type 0
HasRoom v = HasRoomAs v.attempt v.status

-- It holds in a status that plans nothing.
at_rest : (attempt : ℕ) (status : Status) → is_planned status ≡ false → attempt < limit
    → HasRoomAs attempt status
at_rest attempt status none below = (
  below,
  λ planned. let never : false ≡ true =
      sym none ∙ planned in cc,
)

closed_rests : (action : Send) (outcome : Outcome) → is_planned (status_after action outcome)
    ≡ false
closed_rests action Open = refl
closed_rests Create _ = refl
closed_rests Delete _ = refl
closed_rests (Modify routing) _ = refl

-- Every move keeps it.
pub room_kept : (w : WindowSet) → MovesKeep w (λ m cs v. HasRoom v)
room_kept w = record {
  later = λ m n cs v up is. is;
  joined = λ c m cs v is. is;
  made_old = λ m cs id old_provider new_provider due some. at_rest 0 Pending refl (omega arith);
  made_new = λ routing m cs id old_provider new_provider due some. at_rest 0 Pending refl
      (omega arith);
  made_sent = λ routing protective m cs id old_provider new_provider due some. at_rest (0 + 1)
      (Sending Create) refl (omega arith);
  old_create = λ m cs v awaits is. is;
  new_create = λ routing m cs v awaits is. is;
  pending = λ m cs v from is. at_rest v.attempt Pending refl is.0;
  conflict = λ spent m cs v from is. at_rest v.attempt Conflict refl is.0;
  cancel_pending = λ by m cs v from is. at_rest v.attempt (CancelPending by) refl is.0;
  canceled = λ m cs v from is. at_rest v.attempt Canceled refl is.0;
  active = λ m cs v from is. at_rest v.attempt Active refl is.0;
  planned = λ release m cs v may is. (is.0, λ planned. may.1);
  old = λ m cs v force is. at_rest v.attempt Old refl is.0;
  activated = λ m cs v may is. at_rest (v.attempt + 1) (Sending Create) refl may.1;
  disconnected = λ m cs v may is. at_rest (v.attempt + 1) (Sending Delete) refl may.1;
  released = λ m cs v from is. at_rest (v.attempt + 1) (Sending Delete) refl (is.1 from);
  modified = λ routing m cs v may is. at_rest (v.attempt + 1) (Sending (Modify routing)) refl may.1;
  ended = λ action m cs v from is. at_rest v.attempt
      (status_after action (outcome_at_end v.broadcasts))
      (closed_rests action (outcome_at_end v.broadcasts)) is.0;
  answered = λ c attempt m cs v may is. is;
  closed = λ c attempt action m cs v may is. at_rest v.attempt (status_after action AllAcknowledged)
      (closed_rests action AllAcknowledged) is.0;
  whole = λ c attempt m cs v may is. at_rest v.attempt Active refl is.0;
}
