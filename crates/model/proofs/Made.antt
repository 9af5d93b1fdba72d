-- A version is made only if there is room for it.
use Rattle.std.proofs.Common.{◌≡◌, ℕ, Bool, true, false, cond, ◌&&◌, List, [], ◌∷◌, Option, Some, None, refl, ap, sym, ◌∙◌, subst}
use Rattle.std.specs.Prelude.{if◌then◌else◌, find, is_some, is_none, option_map}
use Rattle.std.specs.List.{list_any}
use Rattle.numbers.specs.Digits.{block_of}
use Rattle.numbers.specs.Subjects.{subject_eq, Subject, Number, Block}
use Rattle.model.specs.Commands.{OldProviderCreate, NewProviderCreate, Assign}
use Rattle.model.specs.Statuses.{Status, Active, Failed, Old}
use Rattle.model.specs.Versions.{Version, in_force, is_open, open_by, in_force_status, version_in_force, open_version, first_of_versions}
use Rattle.model.specs.Changes.{changed_at}
use Rattle.model.specs.History.{CommandRequest, subjects_made_by, id_among, lacks_old_create, lacks_new_create}
use Rattle.model.specs.State.{State, record_now}
use Rattle.model.specs.Conditions.{holds_of, has_no_room, takes_block}
use Rattle.model.specs.Refusals.{number_is_busy}
use Rattle.numbers.proofs.Small.{neither, true-false, some_is}
use Rattle.model.proofs.Accepted.{AcceptedCommand}
use Rattle.model.specs.Sound.{HaveBlockStatus, is_block, block_status, NoneInForce, OneInForce, NoneOpen, InForceIsActive, AreSound}
use Rattle.model.proofs.Unique.{StatusesRespect, respect_each, respect_active, changed-closed, changed-none, changed-block, changed-one, changed-active}
use Rattle.model.proofs.Ids.{same_subject}
use Rattle.model.proofs.Entries.{is_active-is}
use Rattle.model.specs.Windows.{WindowSet}

-- Holds if there is room for a version of s: none is open, and what is in force is active.
pub record HasRoom (s : Subject) (vs : List Version) : Type 0 where
  pub closed : NoneOpen s vs
  pub one : OneInForce vs
  pub active : InForceIsActive vs
  pub block : is_block s ≡ true → HaveBlockStatus vs × NoneInForce vs

-- The versions stay sound with a new one before the others, which the entry may change too.
pub made-sound : (w : WindowSet) (s : Subject) (minute : ℕ) (change : Version
    → Version) (vs : List Version) (new : Version) → StatusesRespect s change vs → HasRoom s vs →
    in_force new ≡ false → (is_block s ≡ true → block_status new.status ≡ true)
    → AreSound s (new ∷ changed_at w minute change vs)
made-sound w s minute change vs new each room out block = (
  changed-closed w s minute change vs (respect_each s change vs each) room.closed,
  (
    λ now. true-false (in_force new) now out,
    changed-one w s minute change vs (respect_each s change vs each) room.closed room.one,
  ),
  λ opened. changed-active w s minute change vs (respect_each s change vs each)
      (respect_active s change vs each) room.closed room.active,
  λ is. (
    (
      block is,
      changed-block w s minute change vs (respect_each s change vs each) is (room.block is).0,
    ),
    changed-none w s minute change vs (respect_each s change vs each) room.closed (room.block is).1,
  ),
)

-- ---- from what is found

pub none_open-found : (s : Subject) (vs : List Version) → is_some (find (is_open s) vs) ≡ false
    → NoneOpen s vs
none_open-found s [] none = tt
none_open-found s (v ∷ vs) none =
    by_cases (λ rest. none_open-found s vs rest) (is_open s v) refl none
  where
    by_cases : (is_some (find (is_open s) vs) ≡ false → NoneOpen s vs) → (b : Bool)
        → is_open s v ≡ b
        → is_some (cond b (Some v) (find (is_open s) vs)) ≡ false → (is_open s v ≡ false)
        × NoneOpen s vs
    by_cases later true e some = cc
    by_cases later false e rest = (e, later rest)

pub none_in_force-found : (vs : List Version) → find in_force vs ≡ None → NoneInForce vs
none_in_force-found [] none = tt
none_in_force-found (v ∷ vs) none =
    by_cases (λ rest. none_in_force-found vs rest) (in_force v) refl none
  where
    by_cases : (find in_force vs ≡ None → NoneInForce vs) → (b : Bool) → in_force v ≡ b
        → cond b (Some v) (find in_force vs) ≡ None → (in_force v ≡ false) × NoneInForce vs
    by_cases later true e some = cc
    by_cases later false e rest = (e, later rest)

pub none-active : (vs : List Version) → NoneInForce vs → InForceIsActive vs
none-active [] none = tt
none-active (v ∷ vs) none = (λ now. true-false (in_force v) now none.0, none-active vs none.1)

-- If the version in force is active, each one in force is.
found-active : (vs : List Version) (u : Version) → OneInForce vs → find in_force vs ≡ Some u
    → u.status ≡ Active → InForceIsActive vs
found-active [] u one found active = cc
found-active (v ∷ vs) u one found active =
    by_cases (λ rest. found-active vs u one.1 rest active) (in_force v) refl found
  where
    by_cases : (find in_force vs ≡ Some u → InForceIsActive vs) → (b : Bool) → in_force v ≡ b
        → cond b (Some v) (find in_force vs) ≡ Some u → (in_force v ≡ true → v.status ≡ Active)
        × InForceIsActive vs
    by_cases later true e f = (
      λ now. ap (λ (x : Version). x.status) (some_is v u f) ∙ active,
      none-active vs (one.0 e),
    )
    by_cases later false e f = (λ now. true-false (in_force v) now e, later f)

pub one_of_sound : (s : Subject) (vs : List Version) → AreSound s vs → OneInForce vs
one_of_sound s [] sound = tt
one_of_sound s (v ∷ vs) sound = sound.1

-- ---- first creates

number_room : (st : State) (n : ℕ) → number_is_busy st n ≡ false
    → AreSound (Number n) (record_now st (Number n)).versions
    → HasRoom (Number n) (record_now st (Number n)).versions
number_room st n free sound = by_open (open_version (Number n) (record_now st (Number n))) refl free
  where
    block_now : Option Status
    block_now =
        option_map (λ (v : Version). v.status)
        (version_in_force (record_now st (Block (block_of n))))

    active : (o : Option Version) → version_in_force (record_now st (Number n)) ≡ o
        → has_no_room None (option_map (λ (v : Version). v.status) o) block_now ≡ false
        → InForceIsActive (record_now st (Number n)).versions
    active (Some v) found may =
        found-active (record_now st (Number n)).versions v
        (one_of_sound (Number n) (record_now st (Number n)).versions sound) found
        (is_active-is v.status may)
    active None found may =
        none-active (record_now st (Number n)).versions
        (none_in_force-found (record_now st (Number n)).versions found)

    by_open : (o : Option Version) → open_version (Number n) (record_now st (Number n)) ≡ o
        → has_no_room (option_map (λ (v : Version). v.status) o)
        (option_map (λ (v : Version). v.status) (version_in_force (record_now st (Number n))))
        block_now ≡ false
        → HasRoom (Number n) (record_now st (Number n)).versions
    by_open (Some v) found may = cc
    by_open None found may = record {
      closed = none_open-found (Number n) (record_now st (Number n)).versions (ap is_some found);
      one = one_of_sound (Number n) (record_now st (Number n)).versions sound;
      active = active (version_in_force (record_now st (Number n))) refl may;
      block = λ is. cc;
    }

pub none_lacks : (test : Version → Bool) (vs : List Version) → list_any test vs ≡ false
    → find test vs ≡ None
none_lacks test [] none = refl
none_lacks test (v ∷ vs) none =
    let parts : (test v ≡ false) × (list_any test vs ≡ false) =
    neither (test v) (list_any test vs) none in
    ap (λ b. cond b (Some v) (find test vs)) parts.0 ∙ none_lacks test vs parts.1

pub and_rest : (b c : Bool) → b ≡ true → (b && c) ≡ false → c ≡ false
and_rest true c e none = none
and_rest false c e none = cc

-- A create that makes a version finds room for it.
pub old_create-room : (st : State) (caller : ℕ) (s : Subject) (first id tn old_provider new_provider
    due : ℕ) (authorized : Bool)
    → AcceptedCommand st caller (OldProviderCreate tn old_provider new_provider due authorized) →
    id_among s first
    (subjects_made_by (CommandRequest (OldProviderCreate tn old_provider new_provider due
    authorized))
    (record_now st)) ≡ Some id → AreSound s (record_now st s).versions → (is_block s ≡ false)
    × HasRoom s (record_now st s).versions
old_create-room st caller s first id tn old_provider new_provider due authorized accepted made
    sound = by_cases (list_any (lacks_old_create old_provider new_provider)
    (record_now st (Number tn)).versions) refl made
  where
    is_it : (b : Bool) → subject_eq s (Number tn) ≡ b → (if b then Some first else None) ≡ Some id
        → list_any (lacks_old_create old_provider new_provider) (record_now st (Number tn)).versions
        ≡ false → (is_block s ≡ false) × HasRoom s (record_now st s).versions
    is_it true e f none =
        let same : Number tn ≡ s = same_subject s (Number tn) e in (
          ap is_block (sym same),
          subst (λ t. HasRoom t (record_now st t).versions) same (number_room st tn
              (and_rest (is_none (find (lacks_old_create old_provider new_provider)
              (record_now st (Number tn)).versions)) (number_is_busy st tn)
              (ap is_none (none_lacks (lacks_old_create old_provider new_provider)
              (record_now st (Number tn)).versions none)) (accepted 12))
              (subst (λ t. AreSound t (record_now st t).versions) (sym same) sound)),
        )
    is_it false e f none = cc

    by_cases : (b : Bool) → list_any (lacks_old_create old_provider new_provider)
        (record_now st (Number tn)).versions ≡ b → id_among s first (if b then []
        else Number tn ∷ []) ≡ Some id → (is_block s ≡ false) × HasRoom s (record_now st s).versions
    by_cases true e f = cc
    by_cases false e f = is_it (subject_eq s (Number tn)) refl f e

pub new_create-room : (st : State) (caller : ℕ) (s : Subject) (first id tn old_provider new_provider
    due lrn : ℕ) (cic : Option ℕ)
    → AcceptedCommand st caller (NewProviderCreate tn old_provider new_provider due lrn cic) →
    id_among s first
    (subjects_made_by (CommandRequest (NewProviderCreate tn old_provider new_provider due lrn cic))
    (record_now st)) ≡ Some id → AreSound s (record_now st s).versions → (is_block s ≡ false)
    × HasRoom s (record_now st s).versions
new_create-room st caller s first id tn old_provider new_provider due lrn cic accepted made sound =
    by_cases (list_any (lacks_new_create old_provider new_provider)
    (record_now st (Number tn)).versions)
    refl made
  where
    is_it : (b : Bool) → subject_eq s (Number tn) ≡ b → (if b then Some first else None) ≡ Some id
        → list_any (lacks_new_create old_provider new_provider) (record_now st (Number tn)).versions
        ≡ false → (is_block s ≡ false) × HasRoom s (record_now st s).versions
    is_it true e f none =
        let same : Number tn ≡ s = same_subject s (Number tn) e in (
          ap is_block (sym same),
          subst (λ t. HasRoom t (record_now st t).versions) same (number_room st tn
              (and_rest (is_none (find (lacks_new_create old_provider new_provider)
              (record_now st (Number tn)).versions)) (number_is_busy st tn)
              (ap is_none (none_lacks (lacks_new_create old_provider new_provider)
              (record_now st (Number tn)).versions none)) (accepted 12))
              (subst (λ t. AreSound t (record_now st t).versions) (sym same) sound)),
        )
    is_it false e f none = cc

    by_cases : (b : Bool) → list_any (lacks_new_create old_provider new_provider)
        (record_now st (Number tn)).versions ≡ b → id_among s first (if b then []
        else Number tn ∷ []) ≡ Some id → (is_block s ≡ false) × HasRoom s (record_now st s).versions
    by_cases true e f = cc
    by_cases false e f = is_it (subject_eq s (Number tn)) refl f e

-- ---- an assignment

spare : (b : ℕ) (status : Status) → block_status status ≡ true → takes_block status ≡ false
    → (in_force_status status ≡ false) × (open_by (Block b) status ≡ false)
spare b Failed is free = (refl, refl)
spare b Old is free = (refl, refl)
spare b _ is free = cc

spare_room : (b : ℕ) (vs : List Version)
    → holds_of (λ (v : Version). takes_block v.status) (first_of_versions vs) ≡ false
    → AreSound (Block b) vs → HasRoom (Block b) vs
spare_room b [] free sound = record { closed = tt; one = tt; active = tt; block = λ is. (tt, tt) }
spare_room b (v ∷ vs) free sound =
    let at_head : (in_force v ≡ false) × (is_open (Block b) v ≡ false) =
    spare b v.status (sound.3 refl).0.0 free in
    let none : NoneInForce (v ∷ vs) = (at_head.0, (sound.3 refl).1) in
    record {
      closed = (at_head.1, sound.0);
      one = sound.1;
      active = none-active (v ∷ vs) none;
      block = λ is. ((sound.3 refl).0, none);
    }

pub assign-room : (st : State) (caller : ℕ) (s : Subject) (first id block holder lrn : ℕ)
    (cic : Option ℕ) → AcceptedCommand st caller (Assign block holder lrn cic) →
    id_among s first (subjects_made_by (CommandRequest (Assign block holder lrn cic))
    (record_now st)) ≡ Some id
    → AreSound s (record_now st s).versions → HasRoom s (record_now st s).versions
assign-room st caller s first id block holder lrn cic accepted made sound =
    by_cases (subject_eq s (Block block)) refl made
  where
    by_cases : (b : Bool) → subject_eq s (Block block) ≡ b
        → (if b then Some first else None) ≡ Some id
        → HasRoom s (record_now st s).versions
    by_cases true e f =
        let same : Block block ≡ s = same_subject s (Block block) e in
        subst (λ t. HasRoom t (record_now st t).versions) same
        (spare_room block (record_now st (Block block)).versions (accepted 24)
        (subst (λ t. AreSound t (record_now st t).versions) (sym same) sound))
    by_cases false e f = cc
