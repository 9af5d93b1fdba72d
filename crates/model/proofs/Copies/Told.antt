-- In every record the broadcasts of a version say what it is: what is in force has its routing at
-- every carrier, and what was never in force has none anywhere.
use Rattle.std.proofs.Common.{◌≡◌, ℕ, Bool, true, false, List, [], ◌∷◌, map, Option, Some, None, refl, ap, ◌∙◌, subst, ◌⊎◌, inl, inr}
use Rattle.std.specs.Prelude.{⊤, ◌==◌, if◌then◌else◌}
use Rattle.std.specs.List.{AllByRecursion}
use Rattle.numbers.specs.Routings.{Routing}
use Rattle.model.specs.Statuses.{Send}
use Rattle.model.specs.Statuses.{Create, Delete, Modify}
use Rattle.model.specs.declared.words.Outcome.{Outcome}
use Rattle.model.specs.declared.words.Outcome.TheVariants.{Open, AllAcknowledged, SomeAcknowledged, NoneAcknowledged}
use Rattle.model.specs.Statuses.{Status, Pending, Conflict, CancelPending, Sending, Active, PartialFailure, Failed, DisconnectPending, Old, Canceled}
use Rattle.model.specs.Versions.{Broadcast, Version, with_number, is_open_broadcast, is_open_outcome, is_withdrawn, is_withdrawn_outcome}
use Rattle.model.specs.Changes.{status_after, routing_after, on_newest, outcome_at_end, acknowledged_broadcast, joined_broadcast}
use Rattle.model.specs.History.{awaits_creates}
use Rattle.model.proofs.Lists.{each}
use Rattle.model.proofs.Moves.{MovesKeep, MayActivate, is_before_sending, is_unserved, is_planned}
use Rattle.model.proofs.Sends.{end_closes}
use Rattle.model.specs.Windows.{WindowSet}

-- ---- what broadcasts say of a version

abbrev pub AllWithdrawn : List Broadcast → Type 0
AllWithdrawn bs = AllByRecursion (λ b. is_withdrawn b ≡ true) bs

abbrev pub AllClosed : List Broadcast → Type 0
AllClosed bs = AllByRecursion (λ b. is_open_broadcast b ≡ false) bs

-- Holds if the newest broadcast that is not withdrawn has this routing.
abbrev pub HeadIs : Option Routing → List Broadcast → Type 0
HeadIs routing [] = ⊥
HeadIs routing (b ∷ bs) = ((is_withdrawn b ≡ true) × HeadIs routing bs)
    ⊎ ((is_withdrawn b ≡ false) × (b.routing ≡ routing))

-- Holds if all broadcasts are closed and their last word is this routing.
abbrev pub Says : Option Routing → List Broadcast → Type 0
Says routing bs = AllClosed bs × HeadIs routing bs

-- Holds if the newest broadcast is open with this routing, and the rest have the property.
abbrev pub Opens : Option Routing → (List Broadcast → Type 0) → List Broadcast → Type 0
Opens routing rest [] = ⊥
Opens routing rest (b ∷ bs) = (b.outcome ≡ Open) × (b.routing ≡ routing) × rest bs

abbrev pub IsToldAs : Status → Option Routing → List Broadcast → Type 0
IsToldAs (Sending Create) routing bs = Opens routing AllWithdrawn bs
IsToldAs (Sending Delete) routing bs = Opens None (Says routing) bs
IsToldAs (Sending (Modify put)) routing bs = Opens (Some put) (Says routing) bs
IsToldAs Active routing bs = Says routing bs
IsToldAs PartialFailure routing bs = Says routing bs
IsToldAs (DisconnectPending release) routing bs = Says routing bs
IsToldAs Old routing bs = ⊤
IsToldAs Pending routing bs = AllWithdrawn bs
IsToldAs Conflict routing bs = AllWithdrawn bs
IsToldAs (CancelPending by) routing bs = AllWithdrawn bs
IsToldAs Failed routing bs = AllWithdrawn bs
IsToldAs Canceled routing bs = AllWithdrawn bs

abbrev pub IsTold : Version → Type 0
IsTold v = IsToldAs v.status v.routing v.broadcasts

-- ---- by the status

before_told : (status : Status) (routing : Option Routing) (bs : List Broadcast)
    → is_before_sending status ≡ true → IsToldAs status routing bs → AllWithdrawn bs
before_told Pending routing bs from told = told
before_told Conflict routing bs from told = told
before_told (CancelPending by) routing bs from told = told
before_told _ routing bs from told = cc

unserved_told : (status : Status) (routing : Option Routing) (bs : List Broadcast)
    → is_unserved status ≡ true → IsToldAs status routing bs → AllWithdrawn bs
unserved_told Failed routing bs from told = told
unserved_told Pending routing bs from told = told
unserved_told Conflict routing bs from told = told
unserved_told (CancelPending by) routing bs from told = told
unserved_told _ routing bs from told = cc

awaiting_told : (status : Status) (old new : Option Routing) (bs : List Broadcast)
    → awaits_creates status ≡ true → IsToldAs status old bs → IsToldAs status new bs
awaiting_told Pending old new bs awaits told = told
awaiting_told Conflict old new bs awaits told = told
awaiting_told _ old new bs awaits told = cc

planned_told : (status : Status) (routing : Option Routing) (bs : List Broadcast)
    → is_planned status ≡ true → IsToldAs status routing bs → Says routing bs
planned_told (DisconnectPending release) routing bs from told = told
planned_told _ routing bs from told = cc

activated_told : (cs : List ℕ) (v : Version) → MayActivate cs v → IsTold v
    → AllWithdrawn v.broadcasts
activated_told cs v (inl failed, left) told =
    unserved_told v.status v.routing v.broadcasts (ap is_unserved failed) told
activated_told cs v (inr pending, left) told =
    unserved_told v.status v.routing v.broadcasts (ap is_unserved pending.0) told

-- ---- broadcasts

pub withdrawn_closed : (bs : List Broadcast) → AllWithdrawn bs → AllClosed bs
withdrawn_closed bs all = each (λ b is. by_cases b.outcome is) bs all
  where
    by_cases : (outcome : Outcome) → is_withdrawn_outcome outcome ≡ true
        → is_open_outcome outcome ≡ false
    by_cases NoneAcknowledged is = refl
    by_cases _ is = cc

module _ (f : Broadcast → Broadcast) (same : (b : Broadcast) → ((f b).outcome ≡ b.outcome)
    × ((f b).routing ≡ b.routing)) where
  withdrawn_same : (bs : List Broadcast) → AllWithdrawn bs → AllWithdrawn (map f bs)
  withdrawn_same [] all = tt
  withdrawn_same (b ∷ bs) all =
      (ap is_withdrawn_outcome (same b).0 ∙ all.0, withdrawn_same bs all.1)

  pub closed_same : (bs : List Broadcast) → AllClosed bs → AllClosed (map f bs)
  closed_same [] all = tt
  closed_same (b ∷ bs) all = (ap is_open_outcome (same b).0 ∙ all.0, closed_same bs all.1)

  head_same : (routing : Option Routing) (bs : List Broadcast) → HeadIs routing bs
      → HeadIs routing (map f bs)
  head_same routing [] is = is
  head_same routing (b ∷ bs) (inl is) =
      inl (ap is_withdrawn_outcome (same b).0 ∙ is.0, head_same routing bs is.1)
  head_same routing (b ∷ bs) (inr is) =
      inr (ap is_withdrawn_outcome (same b).0 ∙ is.0, (same b).1 ∙ is.1)

  pub says_same : (routing : Option Routing) (bs : List Broadcast) → Says routing bs
      → Says routing (map f bs)
  says_same routing bs says = (closed_same bs says.0, head_same routing bs says.1)

  opens_same : (routing : Option Routing) (rest : List Broadcast → Type 0)
      → ((bs : List Broadcast) → rest bs → rest (map f bs)) → (bs : List Broadcast)
      → Opens routing rest bs → Opens routing rest (map f bs)
  opens_same routing rest step [] is = is
  opens_same routing rest step (b ∷ bs) is = ((same b).0 ∙ is.0, (same b).1 ∙ is.1, step bs is.2)

  told_same : (status : Status) (routing : Option Routing) (bs : List Broadcast)
      → IsToldAs status routing bs → IsToldAs status routing (map f bs)
  told_same (Sending Create) routing bs told =
      opens_same routing AllWithdrawn withdrawn_same bs told
  told_same (Sending Delete) routing bs told =
      opens_same None (Says routing) (says_same routing) bs told
  told_same (Sending (Modify put)) routing bs told =
      opens_same (Some put) (Says routing) (says_same routing) bs told
  told_same Active routing bs told = says_same routing bs told
  told_same PartialFailure routing bs told = says_same routing bs told
  told_same (DisconnectPending release) routing bs told = says_same routing bs told
  told_same Old routing bs told = tt
  told_same Pending routing bs told = withdrawn_same bs told
  told_same Conflict routing bs told = withdrawn_same bs told
  told_same (CancelPending by) routing bs told = withdrawn_same bs told
  told_same Failed routing bs told = withdrawn_same bs told
  told_same Canceled routing bs told = withdrawn_same bs told

pub answered_same : (c attempt : ℕ) (b : Broadcast)
    → ((acknowledged_broadcast c attempt b).outcome ≡ b.outcome)
    × ((acknowledged_broadcast c attempt b).routing ≡ b.routing)
answered_same c attempt b = by_cases (b.attempt == attempt)
  where
    by_cases : (t : Bool) → ((if t then record b { acknowledged = with_number c b.acknowledged }
        else b).outcome ≡ b.outcome)
        × ((if t then record b { acknowledged = with_number c b.acknowledged } else b).routing
        ≡ b.routing)
    by_cases true = (refl, refl)
    by_cases false = (refl, refl)

pub joined_same : (c : ℕ) (b : Broadcast) → ((joined_broadcast c b).outcome ≡ b.outcome)
    × ((joined_broadcast c b).routing ≡ b.routing)
joined_same c b = by_cases (is_open_broadcast b)
  where
    by_cases : (t : Bool) → ((if t then record b { recipients = with_number c b.recipients }
        else b).outcome ≡ b.outcome)
        × ((if t then record b { recipients = with_number c b.recipients } else b).routing
        ≡ b.routing)
    by_cases true = (refl, refl)
    by_cases false = (refl, refl)

-- ---- the open broadcast closes

-- With an acknowledgement, it has the last word.
pub closing_says : (routing : Option Routing) (rest : List Broadcast → Type 0)
    → ((bs : List Broadcast) → rest bs → AllClosed bs) → (outcome : Outcome)
    → is_open_outcome outcome ≡ false → is_withdrawn_outcome outcome ≡ false →
    (bs : List Broadcast) → Opens routing rest bs
    → Says routing (on_newest (λ b. record b { outcome = outcome }) bs)
closing_says routing rest closed outcome over stands [] is = absurd is
closing_says routing rest closed outcome over stands (b ∷ bs) is =
    ((over, closed bs is.2), inr (stands, is.1))

-- With none, the rest have the last word.
none_withdrawn : (routing : Option Routing) (bs : List Broadcast) → Opens routing AllWithdrawn bs
    → AllWithdrawn (on_newest (λ b. record b { outcome = NoneAcknowledged }) bs)
none_withdrawn routing [] is = absurd is
none_withdrawn routing (b ∷ bs) is = (refl, is.2)

none_says : (put routing : Option Routing) (bs : List Broadcast) → Opens put (Says routing) bs
    → Says routing (on_newest (λ b. record b { outcome = NoneAcknowledged }) bs)
none_says put routing [] is = absurd is
none_says put routing (b ∷ bs) is = ((refl, is.2.0), inl (refl, is.2.1))

closed_told : (action : Send) (outcome : Outcome) → (outcome ≡ Open → ⊥)
    → (routing : Option Routing) (bs : List Broadcast) → IsToldAs (Sending action) routing bs →
    IsToldAs (status_after action outcome) (routing_after action outcome routing)
    (on_newest (λ b. record b { outcome = outcome }) bs)
closed_told action Open closed routing bs told = absurd (closed refl)
closed_told Create AllAcknowledged closed routing bs told =
    closing_says routing AllWithdrawn withdrawn_closed AllAcknowledged refl refl bs told
closed_told Create SomeAcknowledged closed routing bs told =
    closing_says routing AllWithdrawn withdrawn_closed SomeAcknowledged refl refl bs told
closed_told Create NoneAcknowledged closed routing bs told = none_withdrawn routing bs told
closed_told Delete AllAcknowledged closed routing bs told = tt
closed_told Delete SomeAcknowledged closed routing bs told = tt
closed_told Delete NoneAcknowledged closed routing bs told = none_says None routing bs told
closed_told (Modify put) AllAcknowledged closed routing bs told =
    closing_says (Some put) (Says routing) (λ xs says. says.0) AllAcknowledged refl refl bs told
closed_told (Modify put) SomeAcknowledged closed routing bs told =
    closing_says (Some put) (Says routing) (λ xs says. says.0) SomeAcknowledged refl refl bs told
closed_told (Modify put) NoneAcknowledged closed routing bs told =
    none_says (Some put) routing bs told

pub answered_told : (c attempt : ℕ) (status : Status) (routing : Option Routing)
    (bs : List Broadcast) → IsToldAs status routing bs
    → IsToldAs status routing (map (acknowledged_broadcast c attempt) bs)
answered_told c attempt = told_same (acknowledged_broadcast c attempt) (answered_same c attempt)

-- The property, by a known status.
pub told_in : (v : Version) (status : Status) → v.status ≡ status → IsTold v
    → IsToldAs status v.routing v.broadcasts
told_in v status e told = subst (λ x. IsToldAs x v.routing v.broadcasts) e told

-- Every move keeps it.
pub told_kept : (w : WindowSet) → MovesKeep w (λ m cs v. IsTold v)
told_kept w = record {
  later = λ m n cs v up told. told;
  joined = λ c m cs v told. told_same (joined_broadcast c) (joined_same c) v.status v.routing
      v.broadcasts told;
  made_old = λ m cs id old_provider new_provider due some. tt;
  made_new = λ routing m cs id old_provider new_provider due some. tt;
  made_sent = λ routing protective m cs id old_provider new_provider due some. (refl, refl, tt);
  old_create = λ m cs v awaits told. told;
  new_create = λ routing m cs v awaits told. awaiting_told v.status v.routing (Some routing)
      v.broadcasts awaits told;
  pending = λ m cs v from told. before_told v.status v.routing v.broadcasts from told;
  conflict = λ spent m cs v from told. before_told v.status v.routing v.broadcasts from told;
  cancel_pending = λ by m cs v from told. before_told v.status v.routing v.broadcasts from told;
  canceled = λ m cs v from told. unserved_told v.status v.routing v.broadcasts from told;
  active = λ m cs v from told. planned_told v.status v.routing v.broadcasts from told;
  planned = λ release m cs v may told. told_in v Active may.0 told;
  old = λ m cs v force told. tt;
  activated = λ m cs v may told. (refl, refl, activated_told cs v may told);
  disconnected = λ m cs v may told. (refl, refl, told_in v Active may.0 told);
  released = λ m cs v from told. (
    refl,
    refl,
    planned_told v.status v.routing v.broadcasts from
        told,
  );
  modified = λ routing m cs v may told. (refl, refl, told_in v Active may.0 told);
  ended = λ action m cs v from told. closed_told action (outcome_at_end v.broadcasts)
      (end_closes v.broadcasts) v.routing v.broadcasts (told_in v (Sending action) from told);
  answered = λ c attempt m cs v may told. answered_told c attempt v.status v.routing v.broadcasts
      told;
  closed = λ c attempt action m cs v may told. closed_told action AllAcknowledged (λ e. cc)
      v.routing (map (acknowledged_broadcast c attempt) v.broadcasts)
      (answered_told c attempt (Sending action) v.routing v.broadcasts
      (told_in v (Sending action) may.1 told));
  whole = λ c attempt m cs v may told. answered_told c attempt PartialFailure v.routing v.broadcasts
      (told_in v PartialFailure may.1 told);
}
