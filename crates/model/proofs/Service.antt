-- Commands on a block keep the service of the numbers in use.
use Rattle.std.proofs.Common.{◌≡◌, ◌/◌, ℕ, suc, Bool, true, false, cond, ◌||◌, List, [], ◌∷◌, Option, Some, None, refl, ap, sym, ◌∙◌, subst, arith}
use Rattle.std.specs.Prelude.{if◌then◌else◌, find, filter, is_none, is_some}
use Rattle.std.specs.List.{list_any}
use Rattle.std.proofs.lemmas.Bool.Decides.{nat_tests}
use Rattle.numbers.specs.Digits.{block_of, code_of, block_code_of}
use Rattle.numbers.specs.Subjects.{subject_eq, Subject, Number, Block}
use Rattle.model.specs.Commands.{Donate, Assign, Release}
use Rattle.model.specs.Versions.{Version, Record, in_force, is_open, version_in_force, open_version}
use Rattle.model.specs.Conditions.{holds_of, is_the}
use Rattle.model.specs.History.{Request, CommandRequest, AreLines, used_numbers, subjects_made_by, made_version, id_among, donor_of, code_holder, effect, replay_step, replay_of}
use Rattle.model.specs.State.{State, Server, ByVersion, ByCode, record_now, serving, protected_by, served_by_code, served_by_block, set_now, next_of}
use Rattle.model.specs.Refusals.{RequestFrom, refusal}
use Rattle.model.specs.Laws.{IsReachable, KeepsService, is_retained, server_of, DonationKeepsService, AssignmentKeepsService, ReleaseKeepsService}
use Rattle.model.specs.Machine.{next, accepted}
use Rattle.model.specs.Sound.{NoneOpen}
use Rattle.model.proofs.Accepted.{AcceptedCommand, accepted_command}
use Rattle.model.proofs.Donated.{donate-room, donate-inside}
use Rattle.model.proofs.Elsewhere.{replay_step-elsewhere}
use Rattle.model.proofs.Entered.{judged-now, given_now, sound_now}
use Rattle.model.proofs.Ids.{same_subject}
use Rattle.model.proofs.Lists.{everywhere}
use Rattle.model.proofs.Minutes.{changed_at-same}
use Rattle.numbers.proofs.Small.{denied, equal_number}

-- ---- numbers that keep their carrier

-- The state after an accepted request.
pub accepted_next : (st : State) (caller : ℕ) (request : Request)
    → refusal st (RequestFrom caller request) ≡ None
    → next st (RequestFrom caller request) ≡ accepted st (RequestFrom caller request)
unfolding next
accepted_next st caller request none = rw none

abbrev by : Option Version → Option Version → Server → Server
by f o other = elim f [ Some v ↦ ByVersion v.new_provider | None ↦ protected_by o other ]

-- A number with a version in force, or with a protective open one, is served by that version.
held_service : (old new : State) (n : ℕ) → is_retained old n ≡ true
    → record_now new (Number n) ≡ record_now old (Number n) → KeepsService old new n
held_service old new n held same = in_force_or (version_in_force (record_now old (Number n))) refl
  where
    same_force : version_in_force (record_now new (Number n)) ≡ version_in_force
        (record_now old (Number n))
    same_force = ap version_in_force same

    same_open : open_version (Number n) (record_now new (Number n)) ≡ open_version (Number n)
        (record_now old (Number n))
    same_open = ap (open_version (Number n)) same

    protected : (o : Option Version) (x y : Server) → holds_of (λ (v : Version). v.protective) o
        ≡ true → protected_by o x ≡ protected_by o y
    protected None x y is = cc
    protected (Some v) x y is = by_cases v.protective is
      where
        by_cases : (b : Bool) → b ≡ true → (if b then ByVersion v.new_provider else x) ≡ (if b
            then ByVersion v.new_provider else y)
        by_cases true e = refl
        by_cases false e = cc

    in_force_or : (f : Option Version) → version_in_force (record_now old (Number n)) ≡ f
        → KeepsService old new n
    in_force_or (Some v) e =
        ap (λ o. server_of (by o (open_version (Number n) (record_now new (Number n)))
        (served_by_code new n))) (same_force ∙ e)
        ∙ sym (ap (λ o. server_of (by o (open_version (Number n) (record_now old (Number n)))
        (served_by_code old n))) e)
    in_force_or None e =
        ap (λ o. server_of (by o (open_version (Number n) (record_now new (Number n)))
        (served_by_code new n))) (same_force ∙ e)
        ∙ ap (λ o. server_of (protected_by o (served_by_code new n))) same_open
        ∙ ap server_of (protected (open_version (Number n) (record_now old (Number n)))
        (served_by_code new n) (served_by_code old n)
        (ap (λ o. is_some o || holds_of (λ (v : Version). v.protective)
        (open_version (Number n) (record_now old (Number n)))) (sym e) ∙ held))
        ∙ sym (ap (λ o. server_of (by o (open_version (Number n) (record_now old (Number n)))
        (served_by_code old n))) e)

-- ---- assignments and releases

assigned_elsewhere : (st : State) (caller block holder lrn : ℕ) (cic : Option ℕ) (n : ℕ) →
    record_now (accepted st (RequestFrom caller (CommandRequest (Assign block holder lrn cic))))
    (Number n)
    ≡ record_now st (Number n)
unfolding replay_of
assigned_elsewhere st caller block holder lrn cic n =
    replay_step-elsewhere (set_now st) (record {
      minute = st.now;
      caller = caller;
      request = CommandRequest (Assign block holder lrn cic);
    }) (donor_of block st.history) (replay_of st.windows st.history) (Number n) st.now refl refl
    ∙ judged-now (set_now st) st.now (record_now st (Number n))

released_elsewhere : (st : State) (caller block n : ℕ)
    → record_now (accepted st (RequestFrom caller (CommandRequest (Release block)))) (Number n)
    ≡ record_now st (Number n)
unfolding replay_of
released_elsewhere st caller block n =
    replay_step-elsewhere (set_now st) (record {
      minute = st.now;
      caller = caller;
      request = CommandRequest (Release block);
    }) (donor_of 0 st.history) (replay_of st.windows st.history) (Number n) st.now refl refl
    ∙ judged-now (set_now st) st.now (record_now st (Number n))

pub assignment_keeps : AssignmentKeepsService
assignment_keeps st is caller block holder lrn cic none n held =
    subst (λ new. KeepsService st new n)
    (sym (accepted_next st caller (CommandRequest (Assign block holder lrn cic)) none))
    (held_service st
    (accepted st (RequestFrom caller (CommandRequest (Assign block holder lrn cic)))) n held
    (assigned_elsewhere st caller block holder lrn cic n))

pub release_keeps : ReleaseKeepsService
release_keeps st is caller block none n held =
    subst (λ new. KeepsService st new n)
    (sym (accepted_next st caller (CommandRequest (Release block)) none))
    (held_service st (accepted st (RequestFrom caller (CommandRequest (Release block)))) n held
    (released_elsewhere st caller block n))

-- ---- donations

module _ (st : State) (is : IsReachable st) (caller block : ℕ) (used : List ℕ) (lrn : ℕ)
    (cic : Option ℕ) (lines : AreLines used)
    (none : refusal st (RequestFrom caller (CommandRequest (Donate block used lrn cic)))
    ≡ None) where
  abbrev donation : Request
  donation = CommandRequest (Donate block used lrn cic)

  abbrev after_it : State
  after_it = accepted st (RequestFrom caller (CommandRequest (Donate block used lrn cic)))

  accepted_it : AcceptedCommand st caller (Donate block used lrn cic)
  accepted_it = accepted_command st caller (Donate block used lrn cic) none

  abbrev ids_from : ℕ
  ids_from = next_of st

  -- The record of a number that gets no version stays.
  left_alone : (n : ℕ)
      → id_among (Number n) ids_from (subjects_made_by (CommandRequest (Donate block used lrn cic))
      (record_now st))
      ≡ None → record_now after_it (Number n) ≡ record_now st (Number n)
  unfolding replay_of
  left_alone n unmade =
      replay_step-elsewhere (set_now st) (record {
        minute = st.now;
        caller = caller;
        request = CommandRequest (Donate block used lrn cic);
      }) (donor_of 0 st.history) (replay_of st.windows st.history) (Number n) st.now refl unmade
      ∙ judged-now (set_now st) st.now (record_now st (Number n))

  -- The version that a number gets, which comes before its others.
  abbrev protective : ℕ → ℕ → Version
  protective id n = made_version (set_now st) id caller st.now (record_now st (Number n)).carriers
      (donor_of 0 st.history) (CommandRequest (Donate block used lrn cic))

  made_in_front : (n id : ℕ)
      → id_among (Number n) ids_from (subjects_made_by (CommandRequest (Donate block used lrn cic))
      (record_now st))
      ≡ Some id →
      (record_now after_it (Number n)).versions ≡ protective id n
      ∷ (record_now st (Number n)).versions
  unfolding replay_of replay_step effect
  made_in_front n id made =
      ap (λ (r : Record). r.versions) (judged-now (set_now st) st.now
      (effect (set_now st) (Number n)
      (id_among (Number n) ids_from (subjects_made_by (CommandRequest (Donate block used lrn cic))
      (record_now st)))
      (donor_of 0 st.history)
      (record {
        minute = st.now;
        caller = caller;
        request = CommandRequest (Donate block used lrn cic);
      }) (record_now st (Number n))))
      ∙ ap (λ o. (effect (set_now st) (Number n) o (donor_of 0 st.history) (record {
        minute = st.now;
        caller = caller;
        request = CommandRequest (Donate block used lrn cic);
      }) (record_now st (Number n))).versions) made
      ∙ ap (λ vs. protective id n ∷ vs) (changed_at-same (set_now st) st.now (λ v. v)
      (record_now st (Number n)).versions
      (everywhere (λ v. refl) (record_now st (Number n)).versions))

  -- So the donor serves the number, as it did by its code.
  by_donor : (n id : ℕ)
      → id_among (Number n) ids_from (subjects_made_by (CommandRequest (Donate block used lrn cic))
      (record_now st))
      ≡ Some id → version_in_force (record_now st (Number n)) ≡ None →
      server_of (serving after_it n) ≡ Some caller
  by_donor n id made unforced =
      ap (λ o. server_of (elim o [
        | Some v ↦ ByVersion v.new_provider
        | None ↦ protected_by (open_version (Number n) (record_now after_it (Number n)))
            (served_by_code after_it n)
      ]))
      (ap (find in_force) (made_in_front n id made) ∙ unforced)
      ∙ ap (λ o. server_of (protected_by o (served_by_code after_it n)))
      (ap (find (is_open (Number n))) (made_in_front n id made))

  none_open : (vs : List Version) → NoneOpen (Number 0) vs → find (is_open (Number 0)) vs ≡ None
  none_open [] closed = refl
  none_open (v ∷ vs) closed = ap (λ b. cond b (Some v) (find (is_open (Number 0)) vs)) closed.0
      ∙ none_open vs closed.1

  not_donated : donor_of block st.history ≡ None
  not_donated = by_cases (donor_of block st.history) (accepted_it 24)
    where
      by_cases : (o : Option ℕ) → is_some o ≡ false → o ≡ None
      by_cases None e = refl
      by_cases (Some d) e = cc

  holds_code : code_holder (block_code_of block) st.history ≡ Some caller
  holds_code =
      by_cases (code_holder (block_code_of block) st.history)
      (denied (is_the caller (code_holder (block_code_of block) st.history)) (accepted_it 11))
    where
      by_cases : (o : Option ℕ) → is_the caller o ≡ true → o ≡ Some caller
      by_cases None e = cc
      by_cases (Some d) e = let same : d ≡ caller = grind (arith, nat_tests) in
          ap (λ k. Some k) same

  by_code : (n id : ℕ)
      → id_among (Number n) ids_from (subjects_made_by (CommandRequest (Donate block used lrn cic))
      (record_now st))
      ≡ Some id → version_in_force (record_now st (Number n)) ≡ None →
      server_of (serving st n) ≡ Some caller
  by_code n id made unforced =
      let room = donate-room st caller (Number n) ids_from id block used lrn cic lines accepted_it
      made (given_now st is.history (Number n)) (sound_now st is.history (Number n)) in
      let inside : block_of n ≡ block =
      equal_number (block_of n) block (donate-inside st (Number n) ids_from id block used lrn cic
      lines made) in
      let code : code_of n ≡ block_code_of block = ten n block inside in
      ap (λ o. server_of (elim o [
        | Some v ↦ ByVersion v.new_provider
        | None ↦ protected_by (open_version (Number n) (record_now st (Number n)))
            (served_by_code st n)
      ])) unforced
      ∙ ap (λ o. server_of (protected_by o (served_by_code st n)))
      (none_open (record_now st (Number n)).versions room.1.closed)
      ∙ ap (λ b. server_of
      (elim (donor_of b st.history) [
        | Some donor ↦ served_by_block (version_in_force (record_now st (Block (block_of n))))
        | None ↦ ByCode (code_holder (code_of n) st.history)
      ])) inside
      ∙ ap (λ o. server_of
      (elim o [
        | Some donor ↦ served_by_block (version_in_force (record_now st (Block (block_of n))))
        | None ↦ ByCode (code_holder (code_of n) st.history)
      ])) not_donated
      ∙ ap (λ k. code_holder k st.history) code
      ∙ holds_code
    where
      ten : (m b : ℕ) → m / 1000 ≡ b → m / 10000 ≡ b / 10
      ten m b e = omega arith

  -- A used number without a version in force gets one.
  gets_one : (n from : ℕ) (test : Subject → Bool) (ss : List Subject)
      → list_any (subject_eq (Number n)) ss ≡ true → test (Number n) ≡ true
      → (id : ℕ) × (id_among (Number n) from (filter test ss) ≡ Some id)
  gets_one n from test [] named passes = cc
  gets_one n from test (s ∷ ss) named passes =
      by_cases (λ k later. gets_one n k test ss later passes) (subject_eq (Number n) s) refl
      (test s) refl
      named
    where
      by_cases : ((k : ℕ) → list_any (subject_eq (Number n)) ss ≡ true
          → (id : ℕ) × (id_among (Number n) k (filter test ss) ≡ Some id)) → (b : Bool)
          → subject_eq (Number n) s ≡ b → (c : Bool) → test s ≡ c →
          (b || list_any (subject_eq (Number n)) ss) ≡ true
          → (id : ℕ) × (id_among (Number n) from (cond c (s ∷ filter test ss) (filter test ss))
          ≡ Some id)
      by_cases later true e true f g = (
        from,
        ap (λ b. if b then Some from else id_among (Number n) (suc from) (filter test ss)) e,
      )
      by_cases later true e false f g = let never : true ≡ false =
          sym passes ∙ ap test (sym (same_subject (Number n) s e)) ∙ f in cc
      by_cases later false e true f g =
          let rest = later (suc from) g in (
            rest.0,
            ap (λ b. if b then Some from else id_among (Number n) (suc from) (filter test ss)) e
                ∙ rest.1,
          )
      by_cases later false e false f g = later from g

  -- A number with a version in force gets none.
  gets_none : (n from : ℕ) (test : Subject → Bool) (ss : List Subject) → test (Number n) ≡ false
      → id_among (Number n) from (filter test ss) ≡ None
  gets_none n from test [] fails = refl
  gets_none n from test (s ∷ ss) fails =
      by_cases (λ k. gets_none n k test ss fails) (subject_eq (Number n) s) refl (test s) refl
    where
      by_cases : ((k : ℕ) → id_among (Number n) k (filter test ss) ≡ None) → (b : Bool)
          → subject_eq (Number n) s ≡ b → (c : Bool) → test s ≡ c
          → id_among (Number n) from (cond c (s ∷ filter test ss) (filter test ss)) ≡ None
      by_cases later true e true f = let never : true ≡ false =
          sym f ∙ ap test (same_subject (Number n) s e) ∙ fails in cc
      by_cases later false e true f =
          ap (λ b. if b then Some from else id_among (Number n) (suc from) (filter test ss)) e
          ∙ later (suc from)
      by_cases later b e false f = later from

  kept_service : (n : ℕ)
      → (list_any (subject_eq (Number n)) (used_numbers block used) || is_some
      (version_in_force (record_now st (Number n)))) ≡ true → KeepsService st after_it n
  kept_service n named = by_force (version_in_force (record_now st (Number n))) refl named
    where
      by_force : (f : Option Version) → version_in_force (record_now st (Number n)) ≡ f
          → (list_any (subject_eq (Number n)) (used_numbers block used) || is_some f) ≡ true
          → KeepsService st after_it n
      by_force (Some v) e is_so =
          held_service st after_it n (ap (λ o. is_some o || holds_of (λ (u : Version). u.protective)
          (open_version (Number n) (record_now st (Number n)))) e)
          (left_alone n (gets_none n ids_from (λ s. is_none (version_in_force (record_now st s)))
          (used_numbers block used) (ap is_none e)))
      by_force None e is_so =
          let made = gets_one n ids_from (λ s. is_none (version_in_force (record_now st s)))
          (used_numbers block used)
          (or_none (list_any (subject_eq (Number n)) (used_numbers block used)) is_so)
          (ap is_none e) in
          by_donor n made.0 made.1 e ∙ sym (by_code n made.0 made.1 e)
        where
          or_none : (b : Bool) → (b || false) ≡ true → b ≡ true
          or_none true f = refl
          or_none false f = cc

pub donation_keeps : DonationKeepsService
donation_keeps st is caller block used lrn cic lines none n named =
    subst (λ new. KeepsService st new n)
    (sym (accepted_next st caller (CommandRequest (Donate block used lrn cic)) none))
    (kept_service st is caller block used lrn cic lines none n named)
