-- A version that waits for its creates has one of them.
use Rattle.std.proofs.Common.{◌≡◌, ℕ, true, false, ◌||◌, Option, refl, sym, ◌∙◌, is_some}
use Rattle.model.specs.Statuses.{Send}
use Rattle.model.specs.Statuses.{Create, Delete, Modify}
use Rattle.model.specs.declared.words.Outcome.{Outcome}
use Rattle.model.specs.declared.words.Outcome.TheVariants.{Open, AllAcknowledged}
use Rattle.model.specs.Statuses.{Status}
use Rattle.model.specs.Versions.{Version}
use Rattle.model.specs.Changes.{status_after, outcome_at_end}
use Rattle.numbers.proofs.Small.{or_true}
use Rattle.model.proofs.Moves.{MovesKeep, is_before_sending}
use Rattle.model.specs.Windows.{WindowSet}

abbrev pub HasCreateAs : (old_at new_at : Option ℕ) → Status → Type 0
HasCreateAs old_at new_at status = is_before_sending status ≡ true
    → (is_some old_at || is_some new_at) ≡ true

abbrev pub HasCreate : Version → Type 0
HasCreate v = HasCreateAs v.old_at v.new_at v.status

-- A version that was sent does not wait for creates.
closed_needs_none : (action : Send) (outcome : Outcome)
    → is_before_sending (status_after action outcome) ≡ false
closed_needs_none action Open = refl
closed_needs_none Create _ = refl
closed_needs_none Delete _ = refl
closed_needs_none (Modify routing) _ = refl

needs_none : (old_at new_at : Option ℕ) (status : Status) → is_before_sending status ≡ false
    → HasCreateAs old_at new_at status
needs_none old_at new_at status none = λ needs. absurd (let no : true ≡ false = sym needs ∙ none in
    cc)

-- Every move keeps it.
pub create_kept : (w : WindowSet) → MovesKeep w (λ m cs v. HasCreate v)
create_kept w = record {
  later = λ m n cs v up is. is;
  joined = λ c m cs v is. is;
  made_old = λ m cs id old_provider new_provider due some needs. refl;
  made_new = λ routing m cs id old_provider new_provider due some needs. refl;
  made_sent = λ routing protective m cs id old_provider new_provider due some needs. cc;
  old_create = λ m cs v awaits is needs. refl;
  new_create = λ routing m cs v awaits is needs. or_true (is_some v.old_at);
  pending = λ m cs v from is needs. is from;
  conflict = λ spent m cs v from is needs. is from;
  cancel_pending = λ by m cs v from is needs. is from;
  canceled = λ m cs v from is needs. cc;
  active = λ m cs v from is needs. cc;
  planned = λ release m cs v may is needs. cc;
  old = λ m cs v force is needs. cc;
  activated = λ m cs v may is needs. cc;
  disconnected = λ m cs v may is needs. cc;
  released = λ m cs v from is needs. cc;
  modified = λ routing m cs v may is needs. cc;
  ended = λ action m cs v from is. needs_none v.old_at v.new_at
      (status_after action (outcome_at_end v.broadcasts))
      (closed_needs_none action (outcome_at_end v.broadcasts));
  answered = λ c attempt m cs v may is. is;
  closed = λ c attempt action m cs v may is. needs_none v.old_at v.new_at
      (status_after action AllAcknowledged) (closed_needs_none action AllAcknowledged);
  whole = λ c attempt m cs v may is needs. cc;
}
