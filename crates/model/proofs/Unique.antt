-- A subject has at most one version in force and at most one open. Beside an open one, the version
-- in force is active.
use Rattle.std.proofs.Common.{◌≡◌, ℕ, Bool, true, false, not, ◌&&◌, List, [], ◌∷◌, map, refl, ap, sym, ◌∙◌, subst}
use Rattle.std.specs.Prelude.{⊤, if◌then◌else◌}
use Rattle.std.specs.List.{AllByRecursion}
use Rattle.numbers.specs.Subjects.{Subject, Number, Block}
use Rattle.model.specs.Statuses.{Send}
use Rattle.model.specs.Statuses.{Create, Delete, Modify}
use Rattle.model.specs.Statuses.{Status, Pending, Conflict, CancelPending, Sending, Active, DisconnectPending, Old, Canceled}
use Rattle.model.specs.declared.words.Outcome.{Outcome}
use Rattle.model.specs.declared.words.Outcome.TheVariants.{Open}
use Rattle.model.specs.declared.words.Side.{Side}
use Rattle.model.specs.declared.words.Side.TheVariants.{OldProvider, NewProvider}
use Rattle.model.specs.Windows.{WindowSet}
use Rattle.model.specs.Sound.{NoneInForce, OneInForce, NoneOpen, InForceIsActive, block_status, is_block, HaveBlockStatus, AreSound}
use Rattle.model.specs.Versions.{Version, Record, in_force, is_open, open_by, in_force_status}
use Rattle.model.specs.Changes.{with_status, changed_at, retired, outcome_at_end, status_after}
use Rattle.model.specs.Judge.{is_expired, version_on_expiry, judged_version, judge}
use Rattle.model.proofs.Lists.{everywhere, each}
use Rattle.model.proofs.Minutes.{retired-never}
use Rattle.numbers.proofs.Small.{true-false, and_false}

-- ---- what a change of each version may do

-- Holds if only an open version comes into force, and only an open one is open afterwards.
pub record Respects (s : Subject) (old new : Version) : Type 0 where
  pub forces : is_open s old ≡ false → in_force new ≡ true → in_force old ≡ true
  pub opens : is_open s new ≡ true → is_open s old ≡ true
  pub block : is_block s ≡ true → block_status old.status ≡ true → block_status new.status ≡ true

abbrev pub RespectsEach : Subject → (Version → Version) → List Version → Type 0
RespectsEach s change vs = AllByRecursion (λ v. Respects s v (change v)) vs

-- Holds if an active version stays active.
abbrev pub KeepsActive : (Version → Version) → List Version → Type 0
KeepsActive change vs = AllByRecursion (λ v. v.status ≡ Active → (change v).status ≡ Active) vs

-- Holds if the active version beside an open one stays active.
abbrev pub KeepsBeside : Subject → (Version → Version) → List Version → Type 0
KeepsBeside s change [] = ⊤
KeepsBeside s change (v ∷ vs) = is_open s v ≡ true → KeepsActive change vs

pub open_not_in_force : (s : Subject) (status : Status) → open_by s status ≡ true
    → in_force_status status ≡ false
open_not_in_force (Number n) (Sending Create) is = refl
open_not_in_force (Number n) _ is = cc
open_not_in_force (Block b) (Sending Create) is = refl
open_not_in_force (Block b) _ is = cc

-- ---- retiring

old_is_closed : (s : Subject) → open_by s Old ≡ false
old_is_closed (Number n) = refl
old_is_closed (Block b) = refl

retired-closed : (w : WindowSet) (s : Subject) (b : Bool) (minute : ℕ) (vs : List Version)
    → NoneOpen s vs → NoneOpen s (map (retired w b minute) vs)
retired-closed w s b minute [] none = tt
retired-closed w s b minute (v ∷ vs) none =
    (by_cases (b && in_force v), retired-closed w s b minute vs none.1)
  where
    by_cases : (c : Bool) → is_open s (if c then with_status w Old minute v else v) ≡ false
    by_cases true = old_is_closed s
    by_cases false = none.0

pub retired-none : (w : WindowSet) (b : Bool) (minute : ℕ) (vs : List Version) → NoneInForce vs
    → NoneInForce (map (retired w b minute) vs)
retired-none w b minute [] none = tt
retired-none w b minute (v ∷ vs) none =
    (by_cases (b && in_force v), retired-none w b minute vs none.1)
  where
    by_cases : (c : Bool) → in_force (if c then with_status w Old minute v else v) ≡ false
    by_cases true = refl
    by_cases false = none.0

pub retired-all : (w : WindowSet) (minute : ℕ) (vs : List Version)
    → NoneInForce (map (retired w true minute) vs)
retired-all w minute [] = tt
retired-all w minute (v ∷ vs) = (by_cases (in_force v) refl, retired-all w minute vs)
  where
    by_cases : (c : Bool) → in_force v ≡ c → in_force (if c then with_status w Old minute v
        else v) ≡ false
    by_cases true e = refl
    by_cases false e = e

-- ---- a change of the versions older than the newest

not_opened : (s : Subject) (old new : Version) → Respects s old new → is_open s old ≡ false
    → is_open s new ≡ false
not_opened s old new r closed = by_cases (is_open s new) refl
  where
    by_cases : (b : Bool) → is_open s new ≡ b → b ≡ false
    by_cases true e = true-false (is_open s old) (r.opens e) closed
    by_cases false e = refl

not_forced : (s : Subject) (old new : Version) → Respects s old new → is_open s old ≡ false
    → in_force old ≡ false → in_force new ≡ false
not_forced s old new r closed out = by_cases (in_force new) refl
  where
    by_cases : (b : Bool) → in_force new ≡ b → b ≡ false
    by_cases true e = true-false (in_force old) (r.forces closed e) out
    by_cases false e = refl

-- No closed version supersedes another.
no_takeover : (s : Subject) (old new : Version) → Respects s old new → is_open s old ≡ false
    → (not (in_force old) && in_force new) ≡ false
no_takeover s old new r closed = by_cases (in_force old) refl
  where
    by_cases : (b : Bool) → in_force old ≡ b → (not b && in_force new) ≡ false
    by_cases true e = refl
    by_cases false e = not_forced s old new r closed e

none-one : (us : List Version) → NoneInForce us → OneInForce us
none-one [] none = tt
none-one (u ∷ us) none = (λ now. none.1, none-one us none.1)

retired-block : (w : WindowSet) (b : Bool) (minute : ℕ) (vs : List Version) → HaveBlockStatus vs
    → HaveBlockStatus (map (retired w b minute) vs)
retired-block w b minute [] have = tt
retired-block w b minute (v ∷ vs) have =
    (by_cases (b && in_force v), retired-block w b minute vs have.1)
  where
    by_cases : (c : Bool) → block_status (if c then with_status w Old minute v else v).status ≡ true
    by_cases true = refl
    by_cases false = have.0

module _ (w : WindowSet) (s : Subject) (minute : ℕ) (change : Version → Version) where
  pub changed-block : (vs : List Version) → RespectsEach s change vs → is_block s ≡ true
      → HaveBlockStatus vs → HaveBlockStatus (changed_at w minute change vs)
  changed-block [] each is have = tt
  changed-block (v ∷ vs) each is have = (
    each.0.block is have.0,
    retired-block w (not (in_force v) && in_force (change v)) minute (changed_at w minute change vs)
        (changed-block vs each.1 is have.1),
  )

  pub changed-closed : (vs : List Version) → RespectsEach s change vs → NoneOpen s vs
      → NoneOpen s (changed_at w minute change vs)
  changed-closed [] each none = tt
  changed-closed (v ∷ vs) each none = (
    not_opened s v (change v) each.0 none.0,
    retired-closed w s (not (in_force v) && in_force (change v)) minute
        (changed_at w minute change vs) (changed-closed vs each.1 none.1),
  )

  pub changed-none : (vs : List Version) → RespectsEach s change vs → NoneOpen s vs → NoneInForce vs
      → NoneInForce (changed_at w minute change vs)
  changed-none [] each closed none = tt
  changed-none (v ∷ vs) each closed none = (
    not_forced s v (change v) each.0 closed.0 none.0,
    retired-none w (not (in_force v) && in_force (change v)) minute (changed_at w minute change vs)
        (changed-none vs each.1 closed.1 none.1),
  )

  behind : (v : Version) (us : List Version) → Respects s v (change v) → is_open s v ≡ false
      → map (retired w (not (in_force v) && in_force (change v)) minute) us ≡ us
  behind v us r closed = ap (λ b. map (retired w b minute) us) (no_takeover s v (change v) r closed)
      ∙ retired-never w minute us

  pub changed-one : (vs : List Version) → RespectsEach s change vs → NoneOpen s vs → OneInForce vs
      → OneInForce (changed_at w minute change vs)
  changed-one [] each closed one = tt
  changed-one (v ∷ vs) each closed one =
      subst (λ (us : List Version). OneInForce (change v ∷ us))
      (sym (behind v (changed_at w minute change vs) each.0 closed.0)) (
        λ now. changed-none vs each.1 closed.1 (one.0 (each.0.forces closed.0 now)),
        changed-one vs each.1 closed.1 one.1,
      )

  pub changed-active : (vs : List Version) → RespectsEach s change vs → KeepsActive change vs
      → NoneOpen s vs → InForceIsActive vs → InForceIsActive (changed_at w minute change vs)
  changed-active [] each keeps closed all = tt
  changed-active (v ∷ vs) each keeps closed all =
      subst (λ (us : List Version). InForceIsActive (change v ∷ us))
      (sym (behind v (changed_at w minute change vs) each.0 closed.0)) (
        λ now. keeps.0 (all.0 (each.0.forces closed.0 now)),
        changed-active vs each.1 keeps.1 closed.1 all.1,
      )

  -- If the newest version comes into force, each older one in force becomes old.
  one_after : (v : Version) (vs : List Version) → RespectsEach s change vs → NoneOpen s vs
      → OneInForce (v ∷ vs) → (b c : Bool) → in_force v ≡ b → in_force (change v) ≡ c →
      (c ≡ true → NoneInForce (map (retired w (not b && c) minute) (changed_at w minute change vs)))
      × OneInForce (map (retired w (not b && c) minute) (changed_at w minute change vs))
  one_after v vs each closed one true c e f =
      subst (λ (us : List Version). (c ≡ true → NoneInForce us) × OneInForce us)
      (sym (retired-never w minute (changed_at w minute change vs)))
      (λ now. changed-none vs each closed (one.0 e), changed-one vs each closed one.1)
  one_after v vs each closed one false false e f =
      subst (λ (us : List Version). (false ≡ true → NoneInForce us) × OneInForce us)
      (sym (retired-never w minute (changed_at w minute change vs)))
      (λ now. true-false false now refl, changed-one vs each closed one.1)
  one_after v vs each closed one false true e f = (
    λ now. retired-all w minute (changed_at w minute change vs),
    none-one (map (retired w true minute) (changed_at w minute change vs))
        (retired-all w minute (changed_at w minute change vs)),
  )

  -- A sound record stays sound.
  pub changed-sound : (vs : List Version) → RespectsEach s change vs → KeepsBeside s change vs
      → AreSound s vs → AreSound s (changed_at w minute change vs)
  changed-sound [] each beside sound = tt
  changed-sound (v ∷ vs) each beside sound = (
    retired-closed w s (not (in_force v) && in_force (change v)) minute
        (changed_at w minute change vs) (changed-closed vs each.1 sound.0),
    one_after v vs each.1 sound.0 sound.1 (in_force v) (in_force (change v)) refl refl,
    λ opened. still_active (not (in_force v) && in_force (change v))
        (ap (λ b. not (in_force v) && b) (open_not_in_force s (change v).status opened)
        ∙ and_false (not (in_force v)))
        (changed-active vs each.1 (beside (each.0.opens opened)) sound.0
        (sound.2 (each.0.opens opened))),
    λ is. (
      changed-block (v ∷ vs) each is (sound.3 is).0,
      retired-none w (not (in_force v) && in_force (change v)) minute
          (changed_at w minute change vs) (changed-none vs each.1 sound.0 (sound.3 is).1),
    ),
  )
    where
      still_active : (b : Bool) → b ≡ false → InForceIsActive (changed_at w minute change vs)
          → InForceIsActive (map (retired w b minute) (changed_at w minute change vs))
      still_active true e all = cc
      still_active false e all =
          subst InForceIsActive (sym (retired-never w minute (changed_at w minute change vs))) all

-- ---- minutes

-- A permitted change from one status to another, by the statuses only.
pub record StatusRespects (s : Subject) (old new : Status) : Type 0 where
  pub forces : open_by s old ≡ false → in_force_status new ≡ true → in_force_status old ≡ true
  pub opens : open_by s new ≡ true → open_by s old ≡ true
  pub active : old ≡ Active → new ≡ Active
  pub block : is_block s ≡ true → block_status old ≡ true → block_status new ≡ true

pub keeps : (s : Subject) (status : Status) → StatusRespects s status status
keeps s status = record {
  forces = λ closed now. now;
  opens = λ opened. opened;
  active = λ is. is;
  block = λ is ok. ok;
}

-- A change to a status that is neither open nor in force is permitted.
pub leaves : (s : Subject) (old new : Status) → open_by s new ≡ false → in_force_status new ≡ false
    → (old ≡ Active → ⊥) → (is_block s ≡ true → block_status old ≡ true → block_status new ≡ true)
    → StatusRespects s old new
leaves s old new closed out inactive block = record {
  forces = λ c now. true-false (in_force_status new) now out;
  opens = λ opened. true-false (open_by s new) opened closed;
  active = λ is. absurd (inactive is);
  block = block;
}

pub canceled_is_closed : (s : Subject) → open_by s Canceled ≡ false
canceled_is_closed (Number n) = refl
canceled_is_closed (Block b) = refl

conflict_from_cancel : (s : Subject) (by : Side) → StatusRespects s (CancelPending by) Conflict
conflict_from_cancel (Number n) by = record {
  forces = λ c now. cc;
  opens = λ o. refl;
  active = λ is. cc;
  block = λ is ok. cc;
}
conflict_from_cancel (Block b) by = record {
  forces = λ c now. cc;
  opens = λ o. cc;
  active = λ is. cc;
  block = λ is ok. cc;
}

delete_from_waiting : (s : Subject) (release : ℕ)
    → StatusRespects s (DisconnectPending release) (Sending Delete)
delete_from_waiting (Number n) release = record {
  forces = λ c now. refl;
  opens = λ o. cc;
  active = λ is. cc;
  block = λ is ok. cc;
}
delete_from_waiting (Block b) release = record {
  forces = λ c now. refl;
  opens = λ o. cc;
  active = λ is. cc;
  block = λ is ok. cc;
}

pub closed_outcome : (s : Subject) (action : Send) (outcome : Outcome)
    → StatusRespects s (Sending action) (status_after action outcome)
closed_outcome s action Open = keeps s (Sending action)
closed_outcome (Number n) Create _ = record {
  forces = λ c now. cc;
  opens = λ o. cc;
  active = λ is. cc;
  block = λ is ok. cc;
}
closed_outcome (Number n) Delete _ = record {
  forces = λ c now. cc;
  opens = λ o. cc;
  active = λ is. cc;
  block = λ is ok. cc;
}
closed_outcome (Number n) (Modify routing) _ = record {
  forces = λ c now. cc;
  opens = λ o. cc;
  active = λ is. cc;
  block = λ is ok. cc;
}
closed_outcome (Block b) Create _ = record {
  forces = λ c now. cc;
  opens = λ o. cc;
  active = λ is. cc;
  block = λ is ok. cc;
}
closed_outcome (Block b) Delete _ = record {
  forces = λ c now. cc;
  opens = λ o. cc;
  active = λ is. cc;
  block = λ is ok. cc;
}
closed_outcome (Block b) (Modify routing) _ = record {
  forces = λ c now. cc;
  opens = λ o. cc;
  active = λ is. cc;
  block = λ is ok. cc;
}

version_on_expiry-respects : (w : WindowSet) (s : Subject) (all_carriers : List ℕ) (j : ℕ)
    (v : Version)
    (status : Status) → v.status ≡ status
    → StatusRespects s status (version_on_expiry w all_carriers j v status).status
version_on_expiry-respects w s all_carriers j v Pending e =
    leaves s Pending Canceled (canceled_is_closed s) refl (λ is. cc) (λ is ok. cc)
version_on_expiry-respects w s all_carriers j v Conflict e =
    leaves s Conflict Canceled (canceled_is_closed s) refl (λ is. cc) (λ is ok. cc)
version_on_expiry-respects w s all_carriers j v (CancelPending OldProvider) e =
    conflict_from_cancel s OldProvider
version_on_expiry-respects w s all_carriers j v (CancelPending NewProvider) e =
    leaves s (CancelPending NewProvider) Canceled (canceled_is_closed s) refl (λ is. cc)
    (λ is ok. cc)
version_on_expiry-respects w s all_carriers j v (DisconnectPending release) e =
    delete_from_waiting s release
version_on_expiry-respects w s all_carriers j v (Sending action) e =
    closed_outcome s action (outcome_at_end v.broadcasts)
version_on_expiry-respects w s all_carriers j v status e = rw e (keeps s status)

pub by_status : (s : Subject) (old new : Version) → StatusRespects s old.status new.status
    → Respects s old new
by_status s old new r = record { forces = r.forces; opens = r.opens; block = r.block }

pub judged_version-respects : (s : Subject) (w : WindowSet) (all_carriers : List ℕ) (j : ℕ)
    (v : Version) → StatusRespects s v.status (judged_version w all_carriers j v).status
unfolding judged_version
judged_version-respects s w all_carriers j v = by_cases (is_expired j v v.status)
  where
    by_cases : (b : Bool) → StatusRespects s v.status (if b
        then version_on_expiry w all_carriers j v v.status
        else v).status
    by_cases true = version_on_expiry-respects w s all_carriers j v v.status refl
    by_cases false = keeps s v.status

-- ---- changes that go by the status only

abbrev pub StatusesRespect : Subject → (Version → Version) → List Version → Type 0
StatusesRespect s change vs = AllByRecursion (λ v. StatusRespects s v.status (change v).status) vs

pub respect_each : (s : Subject) (change : Version → Version) (vs : List Version)
    → StatusesRespect s change vs → RespectsEach s change vs
respect_each s change vs all = each (λ v r. by_status s v (change v) r) vs all

pub respect_active : (s : Subject) (change : Version → Version) (vs : List Version)
    → StatusesRespect s change vs → KeepsActive change vs
respect_active s change vs all = each (λ v r. r.active) vs all

respect_beside : (s : Subject) (change : Version → Version) (vs : List Version)
    → StatusesRespect s change vs → KeepsBeside s change vs
respect_beside s change [] each = tt
respect_beside s change (v ∷ vs) each = λ opened. respect_active s change vs each.1

pub changed-sound_by_status : (w : WindowSet) (s : Subject) (minute : ℕ) (change : Version
    → Version) (vs : List Version) → StatusesRespect s change vs → AreSound s vs
    → AreSound s (changed_at w minute change vs)
changed-sound_by_status w s minute change vs each sound =
    changed-sound w s minute change vs (respect_each s change vs each)
    (respect_beside s change vs each) sound

judged_respect : (s : Subject) (w : WindowSet) (all_carriers : List ℕ) (j : ℕ) (vs : List Version)
    → StatusesRespect s (judged_version w all_carriers j) vs
judged_respect s w all_carriers j vs =
    everywhere (λ v. judged_version-respects s w all_carriers j v) vs

-- Minutes keep a record sound.
pub judge-sound : (s : Subject) (w : WindowSet) (j : ℕ) (r : Record) → AreSound s r.versions
    → AreSound s (judge w j r).versions
unfolding judge
judge-sound s w j r sound = changed-sound_by_status w s j (judged_version w r.carriers j) r.versions
    (judged_respect s w r.carriers j r.versions) sound
