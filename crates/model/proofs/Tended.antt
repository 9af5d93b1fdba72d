-- In every record a version's broadcasts have attempts of their own, the newest the version's.
-- While the version sends or is a partial failure, some recipient is missing in the newest.
use Rattle.std.proofs.Common.{◌≡◌, ℕ, ◌+◌, ◌<◌, Bool, true, false, not, List, [], ◌∷◌, map, Some, refl, ap, sym, ◌∙◌, subst, arith}
use Rattle.std.specs.Prelude.{⊤, if◌then◌else◌}
use Rattle.model.specs.Statuses.{Send}
use Rattle.model.specs.Statuses.{Create, Delete, Modify}
use Rattle.model.specs.declared.words.Outcome.{Outcome}
use Rattle.model.specs.declared.words.Outcome.TheVariants.{AllAcknowledged}
use Rattle.model.specs.Statuses.{Status, Pending, Conflict, CancelPending, Active, DisconnectPending, Old, Canceled}
use Rattle.model.specs.Versions.{Broadcast, Version, is_among, with_number, is_open_broadcast, unacknowledged}
use Rattle.model.specs.Changes.{next_attempt, on_newest, outcome_at_end, status_after, is_empty, nobody_is_missing, acknowledged_broadcast, joined_by, joined_broadcast}
use Rattle.model.specs.History.{blank_version}
use Rattle.model.specs.Content.{is_nonempty}
use Rattle.model.proofs.Attempts.{answered_same, joined_same}
use Rattle.model.proofs.Moves.{MovesKeep, answered_by}
pub use Rattle.model.proofs.Moves.{awaits_answers}
use Rattle.model.proofs.Rising.{with_number-nonempty, joined-some}
use Rattle.model.proofs.Shown.{all_wait}
use Rattle.model.specs.Windows.{WindowSet}

-- ---- one version

abbrev pub AreBelow : ℕ → List Broadcast → Type 0
AreBelow n [] = ⊤
AreBelow n (b ∷ bs) = (b.attempt < n) × AreBelow n bs

-- Holds if each broadcast has an attempt above those of the older ones.
abbrev pub AreApart : List Broadcast → Type 0
AreApart [] = ⊤
AreApart (b ∷ bs) = AreBelow b.attempt bs × AreApart bs

abbrev pub IsNewest : ℕ → List Broadcast → Type 0
IsNewest attempt [] = ⊤
IsNewest attempt (b ∷ bs) = b.attempt ≡ attempt

-- The property, over the fields of a version that the changes touch. There are carriers, since a
-- request made the version.
pub record IsTendedAs (all_carriers : List ℕ) (attempt : ℕ) (status : Status)
    (bs : List Broadcast) : Type 0 where
  pub carriers : is_nonempty all_carriers ≡ true
  pub apart : AreApart bs
  pub newest : IsNewest attempt bs
  pub missing : awaits_answers status ≡ true → nobody_is_missing bs ≡ false

abbrev pub IsTended : List ℕ → Version → Type 0
IsTended all_carriers v = IsTendedAs all_carriers v.attempt v.status v.broadcasts

-- It holds in a status that awaits no acknowledgements.
at_rest : (all_carriers : List ℕ) (attempt : ℕ) (old status : Status) (bs : List Broadcast)
    → awaits_answers status ≡ false → IsTendedAs all_carriers attempt old bs
    → IsTendedAs all_carriers attempt status bs
at_rest all_carriers attempt old status bs rests is = record {
  carriers = is.carriers;
  apart = is.apart;
  newest = is.newest;
  missing = λ awaits. let no : false ≡ true = sym rests ∙ awaits in cc;
}

-- ---- broadcasts

below_more : (n : ℕ) (bs : List Broadcast) → AreBelow n bs → AreBelow (n + 1) bs
below_more n [] below = tt
below_more n (b ∷ bs) below = (
  let h : b.attempt < n = below.0 in omega arith,
  below_more n bs below.1,
)

below_next : (n : ℕ) (bs : List Broadcast) → IsNewest n bs → AreApart bs → AreBelow (n + 1) bs
below_next n [] newest apart = tt
below_next n (b ∷ bs) newest apart = (
  let h : b.attempt ≡ n = newest in omega arith,
  below_more n bs (subst (λ k. AreBelow k bs) newest apart.0),
)

module _ (f : Broadcast → Broadcast) (same : (b : Broadcast) → (f b).attempt ≡ b.attempt) where
  below_each : (n : ℕ) (bs : List Broadcast) → AreBelow n bs → AreBelow n (map f bs)
  below_each n [] below = tt
  below_each n (b ∷ bs) below = (subst (λ k. k < n) (sym (same b)) below.0, below_each n bs below.1)

  apart_each : (bs : List Broadcast) → AreApart bs → AreApart (map f bs)
  apart_each [] apart = tt
  apart_each (b ∷ bs) apart = (
    subst (λ k. AreBelow k (map f bs)) (sym (same b)) (below_each b.attempt bs apart.0),
    apart_each bs apart.1,
  )

  pub newest_each : (n : ℕ) (bs : List Broadcast) → IsNewest n bs → IsNewest n (map f bs)
  newest_each n [] newest = tt
  newest_each n (b ∷ bs) newest = same b ∙ newest

closed_apart : (outcome : Outcome) (bs : List Broadcast) → AreApart bs
    → AreApart (on_newest (λ b. record b { outcome = outcome }) bs)
closed_apart outcome [] apart = tt
closed_apart outcome (b ∷ bs) apart = apart

closed_newest : (outcome : Outcome) (n : ℕ) (bs : List Broadcast) → IsNewest n bs
    → IsNewest n (on_newest (λ b. record b { outcome = outcome }) bs)
closed_newest outcome n [] newest = tt
closed_newest outcome n (b ∷ bs) newest = newest

closed_missing : (outcome : Outcome) (bs : List Broadcast)
    → nobody_is_missing (on_newest (λ b. record b { outcome = outcome }) bs) ≡ nobody_is_missing bs
closed_missing outcome [] = refl
closed_missing outcome (b ∷ bs) = refl

joined_missing : (c : ℕ) (bs : List Broadcast) → nobody_is_missing bs ≡ false
    → nobody_is_missing (map (joined_broadcast c) bs) ≡ false
joined_missing c [] missing = refl
joined_missing c (b ∷ bs) missing = by_cases (is_open_broadcast b)
  where
    by_cases : (t : Bool)
        → is_empty (unacknowledged (if t then record b { recipients = with_number c b.recipients }
        else b)) ≡ false
    by_cases true = joined-some (λ d. not (is_among d b.acknowledged)) c b.recipients missing
    by_cases false = missing

-- ---- what becomes of a version

sent_tended : (w : WindowSet) (cs : List ℕ) (action : Send) (m : ℕ) (v : Version) → IsTended cs v
    → IsTended cs (next_attempt w action cs m v)
sent_tended w cs action m v is = record {
  carriers = is.carriers;
  apart = (below_next v.attempt v.broadcasts is.newest is.apart, is.apart);
  newest = refl;
  missing = λ awaits. ap is_empty (all_wait cs) ∙ some cs is.carriers;
}
  where
    some : (ds : List ℕ) → is_nonempty ds ≡ true → is_empty ds ≡ false
    some [] e = cc
    some (c ∷ ds) e = refl

-- A version whose broadcast closed awaits no acknowledgements, or somebody is still missing.
closed_tended : (cs : List ℕ) (attempt : ℕ) (old status : Status) (outcome : Outcome)
    (bs : List Broadcast) → (awaits_answers status ≡ true → nobody_is_missing bs ≡ false) →
    IsTendedAs cs attempt old bs
    → IsTendedAs cs attempt status (on_newest (λ b. record b { outcome = outcome }) bs)
closed_tended cs attempt old status outcome bs missing is = record {
  carriers = is.carriers;
  apart = closed_apart outcome bs is.apart;
  newest = closed_newest outcome attempt bs is.newest;
  missing = λ awaits. closed_missing outcome bs ∙ missing awaits;
}

all_rests : (action : Send) → awaits_answers (status_after action AllAcknowledged) ≡ false
all_rests Create = refl
all_rests Delete = refl
all_rests (Modify routing) = refl

-- An acknowledgement keeps it in any status that awaits none, or if somebody is still missing.
answered_tended : (cs : List ℕ) (c attempt : ℕ) (status : Status) (v : Version)
    → (awaits_answers status ≡ true → nobody_is_missing (answered_by c attempt v).broadcasts
    ≡ false) →
    IsTended cs v → IsTendedAs cs v.attempt status (answered_by c attempt v).broadcasts
answered_tended cs c attempt status v missing is = record {
  carriers = is.carriers;
  apart = apart_each (acknowledged_broadcast c attempt) (answered_same c attempt) v.broadcasts
      is.apart;
  newest = newest_each (acknowledged_broadcast c attempt) (answered_same c attempt) v.attempt
      v.broadcasts is.newest;
  missing = missing;
}

joined_tended : (cs : List ℕ) (c : ℕ) (v : Version) → IsTended cs v
    → IsTended (with_number c cs) (joined_by c v)
joined_tended cs c v is = record {
  carriers = with_number-nonempty c cs;
  apart = apart_each (joined_broadcast c) (joined_same c) v.broadcasts is.apart;
  newest = newest_each (joined_broadcast c) (joined_same c) v.attempt v.broadcasts is.newest;
  missing = λ awaits. joined_missing c v.broadcasts (is.missing awaits);
}

blank_tended : (cs : List ℕ) → is_nonempty cs ≡ true → IsTendedAs cs 0 Pending []
blank_tended cs some = record { carriers = some; apart = tt; newest = tt; missing = λ awaits. cc }

-- Every move keeps it.
pub tended_kept : (w : WindowSet) → MovesKeep w (λ m cs v. IsTended cs v)
tended_kept w = record {
  later = λ m n cs v up is. is;
  joined = λ c m cs v is. joined_tended cs c v is;
  made_old = λ m cs id old_provider new_provider due some. blank_tended cs some;
  made_new = λ routing m cs id old_provider new_provider due some. blank_tended cs some;
  made_sent = λ routing protective m cs id old_provider new_provider due some.
      sent_tended w cs Create m (record (blank_version w id old_provider new_provider due m)
      { routing = Some routing; protective = protective }) (blank_tended cs some);
  old_create = λ m cs v awaits is. is;
  new_create = λ routing m cs v awaits is. is;
  pending = λ m cs v from is. at_rest cs v.attempt v.status Pending v.broadcasts refl is;
  conflict = λ spent m cs v from is. at_rest cs v.attempt v.status Conflict v.broadcasts refl is;
  cancel_pending = λ by m cs v from is. at_rest cs v.attempt v.status (CancelPending by)
      v.broadcasts refl is;
  canceled = λ m cs v from is. at_rest cs v.attempt v.status Canceled v.broadcasts refl is;
  active = λ m cs v from is. at_rest cs v.attempt v.status Active v.broadcasts refl is;
  planned = λ release m cs v may is. at_rest cs v.attempt v.status (DisconnectPending release)
      v.broadcasts refl is;
  old = λ m cs v force is. at_rest cs v.attempt v.status Old v.broadcasts refl is;
  activated = λ m cs v may is. sent_tended w cs Create m v is;
  disconnected = λ m cs v may is. sent_tended w cs Delete m v is;
  released = λ m cs v from is. sent_tended w cs Delete m v is;
  modified = λ routing m cs v may is. sent_tended w cs (Modify routing) m v is;
  ended = λ action m cs v from is. closed_tended cs v.attempt v.status
      (status_after action (outcome_at_end v.broadcasts)) (outcome_at_end v.broadcasts) v.broadcasts
      (λ awaits. is.missing (ap awaits_answers from)) is;
  answered = λ c attempt m cs v may is. answered_tended cs c attempt v.status v may.1 is;
  closed = λ c attempt action m cs v may is. closed_tended cs v.attempt Old
      (status_after action AllAcknowledged) AllAcknowledged (answered_by c attempt v).broadcasts
      (λ awaits. let no : false ≡ true = sym (all_rests action) ∙ awaits in
      cc) (answered_tended cs c attempt Old v (λ awaits. cc) is);
  whole = λ c attempt m cs v may is. answered_tended cs c attempt Active v (λ awaits. cc) is;
}
