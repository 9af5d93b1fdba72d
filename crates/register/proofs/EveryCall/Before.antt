-- A call that settles its subjects first: the content after settling, and the contract of the whole
-- call.
use Rattle.std.proofs.Common.{◌≡◌, ℕ, Bool, true, false, ◌||◌, ◌&&◌, [], ◌∷◌, Option, Some, None, refl, ap, sym, ◌∙◌}
use Rattle.std.specs.Prelude.{is_some}
use Rattle.std.specs.FinMap.{get}
use Rattle.std.proofs.Math.Nat.{le_trans}
use Rattle.numbers.specs.Digits.{block_of}
use Rattle.numbers.specs.Subjects.{Subject, Number, Block, subject_eq}
use Rattle.numbers.specs.declared.block_id.BlockId.{BlockId}
use Rattle.numbers.specs.declared.tn.Tn.{Tn}
use Rattle.numbers.specs.declared.ported.Subject.TheVariants.{Number as NumberImpl, Block as BlockImpl}
use Rattle.model.specs.Machine.{Reply, HasHistory}
use Rattle.model.specs.State.{State, record_now}
use Rattle.model.specs.Commands.{Command, Donate, Assign, Release}
use Rattle.model.specs.History.{CommandRequest, AcknowledgementRequest}
use Rattle.model.specs.Refusals.{Input, ClockMoment, RequestFrom, QuestionFrom, is_in_block}
use Rattle.model.specs.Versions.{Version, version_with}
use Rattle.model.specs.Content.{Content, VersionRow}
use Rattle.model.proofs.Entered.{none_elsewhere, none_with, subject_eq-refl}
use Rattle.model.proofs.Ids.{same_subject}
use Rattle.model.proofs.Lagging.{no_row_at, row_has_id}
use Rattle.settle.specs.StoreContract.{PreservesStore, ReportsStorage}
use Rattle.settle.specs.Settling.{PreservesState, FramesRows, Settles, is_one_of, is_subject_of}
use Rattle.settle.specs.declared.store_model.StoreModel.{Ghosts}
use Rattle.settle.proofs.Settled.{rows_joined}
use Rattle.settle.proofs.Risen.{risen-since}
use Rattle.register.specs.Refinement.{Refines, SimulatesStep}
use Rattle.register.specs.Settling.{SimulatesSettledStep, AreSettled, PreservesAndFrames, FramesOthers, FramesUnchanged, ReportsOnceSettled, SettlesThose, is_of_id, is_of_number, settles, settles_for, changes_for, changes_then}
use Rattle.numbers.proofs.Small.{impossible, or_false}

-- ---- some subjects

-- A content that preserves a state refines it.
pub meaning_stands : (old new : Content) → PreservesState old new → (st : State) → Refines old st
    → Refines new st
meaning_stands old new kept st refines =
    let still = kept st refines.represents refines.written in
    record { represents = still.0; written = ap is_some still.1 ∙ refines.written }

module _ (those : State → Subject → Bool) (chosen : Subject → Bool) (old new : Content) where
  -- If all chosen subjects are among those, all others are kept.
  pub those_kept : PreservesState old new
      → ((s : Subject) → chosen s ≡ false → FramesRows old new s)
      → ((st : State) → Refines old st → (s : Subject) → those st s ≡ false → chosen s ≡ false)
      → PreservesAndFrames those old new
  those_kept kept leaves others st refines = (
    meaning_stands old new kept st refines,
    λ t other. leaves t (others st refines t other) st refines.represents refines.written,
  )

  -- If all of those are chosen, they are settled.
  pub those_settled : ((s : Subject) → chosen s ≡ true → Settles old new s)
      → ((st : State) → Refines old st → (s : Subject) → those st s ≡ true → chosen s ≡ true)
      → SettlesThose those old new
  those_settled settled are st refines s its =
      settled s (are st refines s its) st refines.represents refines.written

-- ---- the subject of a version

-- An id is of one subject's version only.
one_subject : (st : State) → HasHistory st → (id : ℕ) (s t : Subject)
    → is_of_id id st s ≡ true → is_of_id id st t ≡ true → t ≡ s
one_subject st history id s t its also = by_cases (subject_eq s t) refl
  where
    apart : subject_eq s t ≡ false → (o : Option Version) → version_with id (record_now st s) ≡ o
        → t ≡ s
    apart e None found = let never : true ≡ false =
        sym its ∙ none_with id (record_now st s).versions found in cc
    apart e (Some v) found = let never : true ≡ false =
        sym also ∙ none_with id (record_now st t).versions (none_elsewhere st history s t id v found
        e) in cc

    by_cases : (b : Bool) → subject_eq s t ≡ b → t ≡ s
    by_cases true e = same_subject s t e
    by_cases false e = apart e (version_with id (record_now st s)) refl

-- The subject of the row with an id is the one that has the id.
pub named_is : (old : Content) (id : ℕ) (st : State) → Refines old st → (s : Subject)
    → is_subject_of (get old.versions id) s ≡ is_of_id id st s
named_is old id st refines s = by_row (get old.versions id) refl
  where
    of_row : (row : VersionRow) → is_of_id id st row.subject ≡ true
        → subject_eq row.subject s ≡ is_of_id id st s
    of_row row has = by_cases (subject_eq row.subject s) refl
      where
        other : subject_eq row.subject s ≡ false → (b : Bool) → is_of_id id st s ≡ b → b ≡ false
        other apart false e = refl
        other apart true e = impossible (sym (subject_eq-refl row.subject)
            ∙ ap (subject_eq row.subject) (sym (one_subject st refines.represents.history id
            row.subject s has e)) ∙ apart)

        by_cases : (b : Bool) → subject_eq row.subject s ≡ b → b ≡ is_of_id id st s
        by_cases true e = sym (ap (is_of_id id st) (same_subject row.subject s e) ∙ has)
        by_cases false e = sym (other e (is_of_id id st s) refl)

    by_row : (o : Option VersionRow) → get old.versions id ≡ o
        → is_subject_of o s ≡ is_of_id id st s
    by_row None none = sym (no_row_at st old refines.represents id none s)
    by_row (Some row) found = of_row row (row_has_id st old refines.represents id row found)

-- ---- a number and its block

pub number_is : (tn : Tn) (block : BlockId) → block.number ≡ block_of tn.number → (st : State)
    → (s : Subject)
    → is_one_of (NumberImpl tn ∷ BlockImpl block ∷ []) s ≡ is_of_number tn.number st s
number_is tn block same st s =
    ap (λ b. subject_eq s (Number tn.number) || b)
    (or_false (subject_eq s (Block block.number)) ∙ ap (λ n. subject_eq s (Block n)) same)

-- ---- all subjects

pub all_kept : (old new : Content) → PreservesState old new
    → PreservesAndFrames (λ st s. true) old new
all_kept old new kept st refines = (
  meaning_stands old new kept st refines,
  λ t other. let never : true ≡ false = other in cc,
)

pub all_settled : (old new : Content) → ((s : Subject) → Settles old new s)
    → SettlesThose (λ st s. true) old new
all_settled old new settled st refines s its = settled s st refines.represents refines.written

-- ---- the whole call

-- A subject that a call does not settle is not one that it may change.
pub unsettled_unchanged : (st : State) (input : Input) (t : Subject) → settles st input t ≡ false
    → changes_then st input t ≡ false
unsettled_unchanged st (ClockMoment minute) t other = other
unsettled_unchanged st (RequestFrom caller (CommandRequest command)) t other =
    by_command command other
  where
    first_apart : (b c : Bool) → (b || c) ≡ false → b ≡ false
    first_apart false c e = refl
    first_apart true c e = cc

    fewer_apart : (b c d : Bool) → (b || c) ≡ false → (b || (c && d)) ≡ false
    fewer_apart false false d e = refl
    fewer_apart _ _ d e = cc

    by_command : (command : Command) → settles_for command st t ≡ false
        → changes_for command st t ≡ false
    by_command (Donate block used lrn cic) e =
        fewer_apart (subject_eq t (Block block)) (is_in_block block t) _ e
    by_command (Assign block holder lrn cic) e =
        first_apart (subject_eq t (Block block)) (is_in_block block t) e
    by_command (Release block) e =
        first_apart (subject_eq t (Block block)) (is_in_block block t) e
    by_command _ e = e
unsettled_unchanged st (RequestFrom caller (AcknowledgementRequest id attempt)) t other = other
unsettled_unchanged st (QuestionFrom caller question) t other = other

module _ (old mid new : Content) (input : Input)
    (kept : PreservesAndFrames (λ st s. settles st input s)
    old mid) (settled : SettlesThose (λ st s. settles st input s) old mid) where
  -- The subjects are settled in the content between.
  pub are_settled : (st : State) → Refines old st → AreSettled mid st input
  are_settled st refines = λ s its. settled st refines s its

  pub answers_after : (reply : Option Reply) → SimulatesSettledStep mid new input reply
      → SimulatesStep old new input reply
  answers_after None answers =
      λ st refines. (answers st (kept st refines).0 (are_settled st refines)).0
  answers_after (Some reply) answers = λ st refines.
      let given = answers st (kept st refines).0 (are_settled st refines) in
      (given.0, given.1)

  -- From the content between, the call changes only what it may.
  pub unchanged_after : (reply : Option Reply) → SimulatesSettledStep mid new input reply
      → (st : State) → Refines old st → FramesUnchanged mid new st input
  unchanged_after None answers =
      λ st refines. (answers st (kept st refines).0 (are_settled st refines)).1
  unchanged_after (Some reply) answers =
      λ st refines. (answers st (kept st refines).0 (are_settled st refines)).2

  pub leaves_after : (reply : Option Reply) → SimulatesSettledStep mid new input reply
      → (st : State)
      → Refines old st → FramesOthers old new st input
  leaves_after reply answers = λ st refines t other.
      rows_joined t old mid new ((kept st refines).1 t other)
      (unchanged_after reply answers st refines t (unsettled_unchanged st input t other))

-- A call keeps its promises if its settling does and, with its subjects settled, the rest of it
-- does.
pub owes_after : {S : Type 0} (store : Ghosts S) (before middle after : S)
    {Settles Faults Answers Says : Type 0} (old mid : Content)
    (input : Input) →
    Settles → PreservesStore store before middle Settles Faults →
    (store.IsUsable middle → PreservesAndFrames (λ st s. settles st input s) old mid)
    → (store.IsUsable middle → SettlesThose (λ st s. settles st input s) old mid) →
    PreservesStore store middle after Answers
    (ReportsOnceSettled (store.IsUsable after) mid input
    Says) → PreservesStore store before after Answers
    (ReportsStorage (store.IsUsable after) old
    Says)
owes_after store before middle after old mid input settles first kept
    settled
    then_owed = record {
      usable = λ usable. first.usable (then_owed.usable usable);
      honest = λ honest. first.honest (then_owed.honest honest);
      begins = λ m inside. first.begins m (then_owed.begins m inside);
      ends = λ usable m inside. then_owed.ends usable m (first.ends (then_owed.usable usable) m
          inside);
      stays = λ answers usable honest. then_owed.stays answers
          (first.stays settles usable (then_owed.honest honest)) honest;
      rises = le_trans first.rises then_owed.rises;
      storage = λ says.
          let held = then_owed.usable says.usable in
          let refines : Refines old says.st = record {
            represents = says.represents;
            written = says.written;
          } in
          risen-since (store.failed before) (store.failed middle) (store.failed after) first.rises
          then_owed.rises
          (then_owed.storage (record {
            usable = says.usable;
            st = says.st;
            refines = (kept held says.st refines).0;
            settled = are_settled old mid mid input (kept held) (settled held) says.st refines;
            says = says.says;
          }));
    }
