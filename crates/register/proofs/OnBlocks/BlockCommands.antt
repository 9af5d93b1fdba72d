-- The commands on a block: the versions that each makes and the rows that it changes.
use Rattle.std.proofs.Common.{◌≡◌, ℕ, Bool, true, false, cond, not, ◌&&◌, ◌||◌, List, [], ◌∷◌, map, Option, Some, None, refl, ap, sym, ◌∙◌}
use Rattle.std.specs.Prelude.{◌==◌, filter, is_none, option_map, unwrap_or, if◌then◌else◌}
use Rattle.std.specs.List.{list_any}
use Rattle.std.specs.FinMap.{get}
use Rattle.numbers.specs.Digits.{number_in}
use Rattle.numbers.specs.Subjects.{Subject, Number, Block, subject_eq}
use Rattle.model.specs.Statuses.{Create, Delete}
use Rattle.model.specs.Commands.{Donate, Assign, Release}
use Rattle.model.specs.Versions.{Version, Record, first_of_versions, in_force, last_version, version_in_force, version_with}
use Rattle.model.specs.Changes.{next_attempt}
use Rattle.model.specs.Content.{BlockRow, Content, stored_block}
use Rattle.model.specs.History.{AreLines, CommandRequest, blank_version, donor_of, or_else, rising, used_numbers, with_made}
use Rattle.model.specs.Machine.{accepted}
use Rattle.model.specs.State.{State, record_now, set_now, next_of, made_now}
use Rattle.model.specs.Refusals.{RequestFrom, refusal}
use Rattle.model.proofs.Accepted.{accepted_command}
use Rattle.model.proofs.Entered.{given_now, subject_eq-refl}
use Rattle.numbers.proofs.Small.{equal_number, none_there}
use Rattle.model.proofs.Protected.{undonated}
use Rattle.settle.specs.Changes.{put_row}
use Rattle.register.specs.Refinement.{Refines}
use Rattle.register.proofs.Asking.Alone.{one_in_force}
use Rattle.register.proofs.Records.Pooled.{MakesSent, made-records, unmade-same}
use Rattle.register.proofs.OnVersions.SecondCreate.{same_change}
use Rattle.register.proofs.Records.Stepped.{StepsOne}
use Rattle.model.proofs.Ids.{other_subject}
use Rattle.model.proofs.Lists.{each}
use Rattle.std.proofs.Common.{arith}
use Rattle.std.proofs.lemmas.Bool.Decides.{nat_tests}
use Rattle.model.specs.Windows.{WindowSet}

-- ---- donations

-- A protective version before it is sent.
abbrev pub protective : (w : WindowSet) (donor minute lrn : ℕ) (cic : Option ℕ) → ℕ → Version
protective w donor minute lrn cic id = record (blank_version w id donor donor minute minute)
    { routing = Some (record { lrn = lrn; cic = cic }); protective = true }

-- The used numbers without a version in force.
abbrev pub to_protect : State → (block : ℕ) (used : List ℕ) → List Subject
to_protect st block used =
    filter (λ s. is_none (version_in_force (record_now st s))) (used_numbers block used)

pub donation-makes : (st : State) (caller block : ℕ) (used : List ℕ) (lrn : ℕ) (cic : Option ℕ)
    → AreLines used →
    MakesSent st caller (CommandRequest (Donate block used lrn cic)) (to_protect st block used)
    (protective (set_now st) caller st.now lrn cic)
donation-makes st caller block used lrn cic lines = record {
  carrier = refl;
  lrn = λ k. refl;
  code = λ k. refl;
  lines = lines;
  unset = refl;
  makes = refl;
  does = λ s all_carriers v. refl;
  made = λ id all_carriers. refl;
  is_id = λ id. refl;
  unsent = λ id. refl;
  quiet_before = λ id. refl;
}

-- The block is not one of the numbers.
no_block : (b block : ℕ) (test : Subject → Bool) (lines : List ℕ)
    → list_any (subject_eq (Block b))
    (filter test (map (λ line. Number (number_in block line)) lines)) ≡ false
no_block b block test [] = refl
no_block b block test (line ∷ lines) =
    by_cases (no_block b block test lines) (test (Number (number_in block line)))
  where
    by_cases : list_any (subject_eq (Block b))
        (filter test (map (λ l. Number (number_in block l)) lines))
        ≡ false → (c : Bool) →
        list_any (subject_eq (Block b))
        (cond c (Number (number_in block line) ∷ filter test (map (λ l. Number (number_in block l))
        lines)) (filter test (map (λ l. Number (number_in block l)) lines))) ≡ false
    by_cases later true = later
    by_cases later false = later

-- The block's row: its donor, and no version.
abbrev pub donated_row : (block donor : ℕ) → Option (ℕ × BlockRow)
donated_row block donor = Some (block, record { donor = donor; last = None })

pub donation-blocks : (st : State) (old : Content) (caller block : ℕ) (used : List ℕ) (lrn : ℕ)
    (cic : Option ℕ) → AreLines used → Refines old st →
    refusal st (RequestFrom caller (CommandRequest (Donate block used lrn cic))) ≡ None → (k : ℕ) →
    put_row ◌==◌ (donated_row block caller) k (get old.blocks k) ≡ stored_block
    (accepted st (RequestFrom caller (CommandRequest (Donate block used lrn cic)))) k
donation-blocks st old caller block used lrn cic lines refines none k = by_cases (block == k) refl
  where
    same : (b : ℕ)
        → record_now (accepted st (RequestFrom caller (CommandRequest (Donate block used lrn cic))))
        (Block b) ≡ record_now st (Block b)
    same b = unmade-same st caller (CommandRequest (Donate block used lrn cic))
        (to_protect st block used)
        (protective (set_now st) caller st.now lrn cic) (donation-makes st caller block used lrn cic
        lines) (Block b)
        (no_block b block (λ s. is_none (version_in_force (record_now st s))) (rising used))

    free : donor_of block st.history ≡ None
    free = none_there (donor_of block st.history)
        (accepted_command st caller (Donate block used lrn cic) none 24)

    row_of : Option Version → ℕ → BlockRow
    row_of v donor = record { donor = donor; last = option_map (λ (u : Version). u.id) v }

    by_cases : (b : Bool) → (block == k) ≡ b →
        (if b then Some (record { donor = caller; last = None }) else get old.blocks k)
        ≡ option_map
        (row_of (last_version
        (record_now (accepted st (RequestFrom caller (CommandRequest (Donate block used lrn cic))))
        (Block k)))) (or_else (if b then Some caller else None) (donor_of k st.history))
    by_cases true e =
        let none_made : last_version (record_now st (Block k)) ≡ None =
        ap (λ j. last_version (record_now st (Block j))) (sym (equal_number block k e))
        ∙ ap (λ vs. last_version (record { carriers = []; versions = vs }))
        (undonated st.windows block st.history st.now refines.represents.history free) in
        sym (ap (λ v. Some (row_of v caller)) (ap last_version (same k) ∙ none_made))
    by_cases false e =
        refines.represents.blocks k
        ∙ sym (ap (λ r. option_map (row_of (last_version r)) (donor_of k st.history)) (same k))

-- ---- assignments

-- The block's version before it is sent.
abbrev pub unsent_block : (w : WindowSet) (donor : Option ℕ)
    → (holder minute lrn : ℕ) (cic : Option ℕ) → ℕ → Version
unsent_block w donor holder minute lrn cic id =
    record (blank_version w id (unwrap_or donor 0) holder minute minute) {
      routing =
          Some (record { lrn = lrn; cic = cic });
    }

pub assignment-makes : (st : State) (caller block holder lrn : ℕ) (cic : Option ℕ) →
    MakesSent st caller (CommandRequest (Assign block holder lrn cic)) (Block block ∷ [])
    (unsent_block (set_now st) (donor_of block st.history) holder st.now lrn cic)
assignment-makes st caller block holder lrn cic = record {
  carrier = refl;
  lrn = λ k. refl;
  code = λ k. refl;
  lines = tt;
  unset = refl;
  makes = refl;
  does = λ s all_carriers v. refl;
  made = λ id all_carriers. refl;
  is_id = λ id. refl;
  unsent = λ id. refl;
  quiet_before = λ id. refl;
}

-- The block's row: its donor as before, and the version that is made.
abbrev pub assigned_row : (block donor id : ℕ) → Option (ℕ × BlockRow)
assigned_row block donor id = Some (block, record { donor = donor; last = Some id })

pub assignment-blocks : (st : State) (old : Content) (caller block holder lrn : ℕ) (cic : Option ℕ)
    (donor : ℕ) → Refines old st → donor_of block st.history ≡ Some donor → (k : ℕ) →
    put_row ◌==◌ (assigned_row block donor (next_of st)) k (get old.blocks k)
    ≡ stored_block (accepted st (RequestFrom caller (CommandRequest (Assign block holder lrn cic))))
    k
assignment-blocks st old caller block holder lrn cic donor refines donated k =
    by_cases (block == k) refl
  where
    row_of : Option Version → ℕ → BlockRow
    row_of v d = record { donor = d; last = option_map (λ (u : Version). u.id) v }

    after_it : State
    after_it = accepted st (RequestFrom caller (CommandRequest (Assign block holder lrn cic)))

    another : (block == k) ≡ false → (subject_eq (Block k) (Block block) || false) ≡ false
    another e = grind (arith, nat_tests)

    by_cases : (b : Bool) → (block == k) ≡ b →
        (if b then Some (record {
          donor = donor;
          last = Some (next_of st);
        }) else get old.blocks k)
        ≡ option_map
        (row_of (last_version
        (record_now
        (accepted st (RequestFrom caller (CommandRequest (Assign block holder lrn cic))))
        (Block k)))) (donor_of k st.history)
    by_cases true e =
        let here : subject_eq (Block k) (Block block) ≡ true =
        ap (λ j. subject_eq (Block j) (Block block)) (sym (equal_number block k e))
        ∙ subject_eq-refl (Block block) in
        sym (ap (λ j. option_map
        (row_of (last_version
        (record_now
        (accepted st (RequestFrom caller (CommandRequest (Assign block holder lrn cic))))
        (Block k)))) (donor_of j st.history)) (sym (equal_number block k e))
        ∙ ap (option_map
        (row_of (last_version
        (record_now
        (accepted st (RequestFrom caller (CommandRequest (Assign block holder lrn cic))))
        (Block k))))) donated
        ∙ ap (λ (r : Record). Some (row_of (last_version r) donor))
        (made-records st caller (CommandRequest (Assign block holder lrn cic)) (Block block ∷ [])
        (unsent_block (set_now st) (donor_of block st.history) holder st.now lrn cic)
        (assignment-makes st caller block holder lrn cic) (Block k))
        ∙ ap (λ b. Some
        (row_of (first_of_versions (with_made (if b then Some (next_of st)
        else None) (λ id. next_attempt (set_now st) Create (record_now st (Block k)).carriers st.now
        (unsent_block (set_now st) (donor_of block st.history) holder st.now lrn cic id))
        (record_now st (Block k)).versions)) donor)) here)
    by_cases false e = refines.represents.blocks k
        ∙ sym (ap (λ r. option_map (row_of (last_version r)) (donor_of k st.history))
        (unmade-same st caller (CommandRequest (Assign block holder lrn cic)) (Block block ∷ [])
        (unsent_block (set_now st) (donor_of block st.history) holder st.now lrn cic)
        (assignment-makes st caller block holder lrn cic) (Block k) (another e)))

-- ---- releases

-- A release changes only the block's version in force, which sends a delete.
pub release-steps : (st : State) (old : Content) (caller block : ℕ) (v : Version) → Refines old st
    → version_with v.id (record_now st (Block block)) ≡ Some v → in_force v ≡ true →
    StepsOne st caller (CommandRequest (Release block)) (Block block) v.id
    (next_attempt (set_now st) Delete (record_now st (Block block)).carriers st.now) (Some Delete) v
release-steps st old caller block v refines found forced = record {
  leaves = record {
    carrier = refl;
    lrn = λ k. refl;
    code = λ k. refl;
    donor = λ k. refl;
    lines = tt;
    unset = refl;
  };
  names = record {
    unmade = λ at. refl;
    elsewhere = λ t vs apart none. other_subject (Block block) t apart;
  };
  does = each (λ u same. ap (λ b. if b && in_force u
      then next_attempt (set_now st) Delete (record_now st (Block block)).carriers st.now u
      else u) (subject_eq-refl (Block block)) ∙ same) (record_now st (Block block)).versions
      (same_change (made_now st) (Block block) in_force
      (next_attempt (set_now st) Delete (record_now st (Block block)).carriers st.now) v.id
      (record_now st (Block block)).versions v
      (given_now st refines.represents.history (Block block))
      (one_in_force st old refines (Block block)) found forced);
  keeps = λ u. refl;
  stepped = (refl, ap (λ b. not b && true) forced);
  changes = subject_eq-refl (Block block);
}
