-- A call on one version of a subject: the content after it.
use Rattle.std.proofs.Common.{◌≡◌, ℕ, Bool, true, false, List, [], ◌∷◌, map, Some, None, refl, ap, sym, ◌∙◌, subst}
use Rattle.std.specs.Prelude.{◌==◌, option_map, is_some, if◌then◌else◌}
use Rattle.std.specs.FinMap.{get}
use Rattle.numbers.specs.Subjects.{Subject, Block, subject_eq}
use Rattle.model.specs.Versions.{Version, Record, is_among, version_with, last_version, first_of_versions}
use Rattle.model.specs.Changes.{of_id}
use Rattle.model.specs.History.{Request, AcknowledgementRequest, HasValues, carrier_named, carrier_added, lrn_named, code_named, donor_named, subjects_made_by, carriers, lrn_owner, code_holder, donor_of, or_else, windows_named}
use Rattle.model.specs.State.{State, record_now, view_of, set_now, next_of}
use Rattle.model.specs.Refusals.{RequestFrom, refusal}
use Rattle.model.specs.Machine.{Shown, accepted, shown, HasHistory}
use Rattle.model.specs.Laws.{IsQuiet}
use Rattle.model.specs.Content.{Content, ClockRow, BlockRow, RowsMatch, Represents, ClockRowMatches, SameRows}
use Rattle.model.proofs.Ids.{same_subject}
use Rattle.model.specs.Concerns.{has_id, concerns}
use Rattle.model.proofs.Entered.{entered-elsewhere, next_id-same, none_elsewhere, none_with, found_is}
use Rattle.settle.specs.Changes.{Changes, AppliesChanges, AreOfVersion, put_row}
use Rattle.settle.proofs.Aside.{lagging_aside}
use Rattle.register.specs.Refinement.{Refines}
use Rattle.settle.specs.Settling.{IsSettled}
use Rattle.register.proofs.Records.Touched.{RegistryShows, touched-stands, clock-stays, clock-written}
use Rattle.model.specs.Windows.{WindowSet}

-- The clock's row of a state.
abbrev pub clock_of : State → ClockRow
clock_of st = record {
  minute = st.now;
  next_id = next_of st;
  present = set_now st;
}

pub clock_is_of : (c : Content) (st : State) (clock : ClockRow) → Represents c st
    → c.clock ≡ Some clock → clock ≡ clock_of st
clock_is_of c st clock rep is = subst (λ o. ClockRowMatches o st) is rep.clock

-- Holds if the request neither changes the registry nor names lines.
pub record LeavesRegistry (caller : ℕ) (request : Request) : Type 0 where
  pub carrier : carrier_named request ≡ None
  pub lrn : (k : ℕ) → lrn_named k caller request ≡ None
  pub code : (k : ℕ) → code_named k request ≡ None
  pub donor : (k : ℕ) → donor_named k caller request ≡ None
  pub lines : HasValues request
  pub unset : windows_named request ≡ None

-- Holds if the request leaves the records of other subjects, which have no version with the id.
pub record IsOnOne (st : State) (caller : ℕ) (request : Request) (s : Subject)
    (id : ℕ) : Type 0 where
  pub elsewhere : (t : Subject) → subject_eq s t ≡ false
      → record_now (accepted st (RequestFrom caller request)) t ≡ record_now st t
  pub free : (t : Subject) → subject_eq s t ≡ false → version_with id (record_now st t) ≡ None
  pub last : (b : ℕ)
      → option_map (λ (v : Version). v.id)
      (last_version (record_now (accepted st (RequestFrom caller request)) (Block b)))
      ≡ option_map (λ (v : Version). v.id) (last_version (record_now st (Block b)))

module _ (st : State) (old new : Content) (caller : ℕ) (request : Request) (s : Subject) (id : ℕ)
    (changes : Changes) (r : Record)
    (leaves : LeavesRegistry caller request) (refines : Refines old st)
    (none : refusal st (RequestFrom caller request) ≡ None)
    (one : IsOnOne st caller request s id)
    (clock : ClockRowMatches new.clock (accepted st (RequestFrom caller request)))
    (are : AreOfVersion id s changes) (changed : AppliesChanges changes old new) where
  abbrev after_it : State
  after_it = accepted st (RequestFrom caller request)

  -- The rows of all other subjects stay.
  pub others_stay : (t : Subject) → subject_eq s t ≡ false → SameRows t old new
  others_stay t apart =
      lagging_aside st old new changes s id are changed t (refines.represents.subjects t) apart
      (one.free t apart)

  -- What is left to prove: no timer of the subject's record has expired after the request, and the
  -- rows match the record.
  module _ (is : record_now after_it s ≡ r) (shows : RowsMatch new s r)
      (quiet : IsQuiet st.now r.versions) where
    here : (t : Subject) → subject_eq s t ≡ true → IsSettled new after_it t
    here t e = subst (IsSettled new after_it) (sym (same_subject s t e))
        (record {
          rows_match = subst (RowsMatch new s) (sym is) shows;
          quiet = subst (λ (x : Record). IsQuiet st.now x.versions) (sym is) quiet;
        })

    registry : RegistryShows new after_it
    registry = record {
      clock = clock;
      written = ap is_some changed.clock ∙ clock-written changes.clock changes.set old.clock
          refines.written;
      carriers = λ k. ap is_some (changed.carriers k)
          ∙ ap (λ o. is_some (put_row ◌==◌ (option_map (λ c. (c, tt)) o) k (get old.carriers k)))
          are.carrier
          ∙ refines.represents.carriers k
          ∙ sym (ap (λ o. is_among k (carrier_added o (carriers st.history))) leaves.carrier);
      lrns = λ k. changed.lrns k ∙ ap (λ o. put_row ◌==◌ o k (get old.lrns k)) are.lrn
          ∙ refines.represents.lrns k
          ∙ sym (ap (λ o. or_else o (lrn_owner k st.history)) (leaves.lrn k));
      codes = λ k. changed.codes k ∙ ap (λ o. put_row ◌==◌ o k (get old.codes k)) are.code
          ∙ refines.represents.codes k
          ∙ sym (ap (λ o. or_else o (code_holder k st.history)) (leaves.code k));
      blocks = λ b. changed.blocks b ∙ ap (λ o. put_row ◌==◌ o b (get old.blocks b)) are.block
          ∙ refines.represents.blocks b
          ∙ sym (ap (λ o. option_map (λ donor. let row : BlockRow =
          record { donor = donor; last = o } in row) (donor_of b st.history)) (one.last b))
          ∙ sym (ap (λ o. option_map (λ donor. let row : BlockRow = record {
            donor = donor;
            last = option_map (λ (u : Version). u.id)
                (last_version (record_now after_it (Block b)));
          } in row) (or_else o (donor_of b st.history))) (leaves.donor b));
    }

    pub on_version-stands : Refines new after_it
    on_version-stands = touched-stands st old new caller request (subject_eq s) refines none
        leaves.lines leaves.unset (λ k. changed.sets k
        ∙ ap (λ o. put_row ◌==◌ (option_map (λ (x : WindowSet). (x.number, x.windows)) o) k
        (get old.sets k)) are.set) registry (λ t e. (one.elsewhere t e, others_stay t e)) here

-- ---- requests on a version that exists

-- Holds if the request names the version's id or its subject, and makes no version.
pub record NamesVersion (id : ℕ) (s : Subject) (request : Request) : Type 0 where
  pub unmade : (at : Subject → Record) → subjects_made_by request at ≡ []
  pub elsewhere : (t : Subject) (vs : List Version) → subject_eq s t ≡ false → has_id id vs ≡ false
      → concerns request t vs ≡ false

pub acknowledge-names : (id attempt : ℕ) (s : Subject)
    → NamesVersion id s (AcknowledgementRequest id attempt)
acknowledge-names id attempt s = record { unmade = λ at. refl; elsewhere = λ t vs apart none. none }

-- A change of the version with one id keeps the id of the version made last.
pub last-same : (id : ℕ) (f : Version → Version) → ((v : Version) → (f v).id ≡ v.id)
    → (vs : List Version) →
    option_map (λ (v : Version). v.id) (first_of_versions (map (of_id id f) vs))
    ≡ option_map (λ (v : Version). v.id) (first_of_versions vs)
last-same id f keeps [] = refl
last-same id f keeps (v ∷ vs) = ap (λ k. Some k) (by_cases (v.id == id))
  where
    by_cases : (b : Bool) → (if b then f v else v).id ≡ v.id
    by_cases true = keeps v
    by_cases false = refl

module _ (st : State) (caller : ℕ) (request : Request) (s : Subject) (id : ℕ) (v : Version)
    (names : NamesVersion id s request)
    (history : HasHistory st) (found : version_with id (record_now st s)
    ≡ Some v) where
  elsewhere_same : (t : Subject) → subject_eq s t ≡ false
      → record_now (accepted st (RequestFrom caller request)) t ≡ record_now st t
  elsewhere_same t apart = entered-elsewhere st caller request t (names.unmade (record_now st))
      (names.elsewhere t (record_now st t).versions apart (none_with id (record_now st t).versions
      (none_elsewhere st history s t id v found apart)))

  -- A request that changes the versions of its subject and keeps their ids.
  pub on_one : (f : Version → Version) → ((u : Version) → (f u).id ≡ u.id) →
      (record_now (accepted st (RequestFrom caller request)) s).versions ≡ map (of_id id f)
      (record_now st s).versions → IsOnOne st caller request s id
  on_one f keeps is = record {
    elsewhere = elsewhere_same;
    free = λ t apart. none_elsewhere st history s t id v found apart;
    last = λ b. last_at b (subject_eq s (Block b)) refl;
  }
    where
      last_at : (b : ℕ) (c : Bool) → subject_eq s (Block b) ≡ c
          → option_map (λ (x : Version). x.id)
          (last_version (record_now (accepted st (RequestFrom caller request)) (Block b)))
          ≡ option_map (λ (x : Version). x.id) (last_version (record_now st (Block b)))
      last_at b false e = ap (λ (x : Record). option_map (λ (u : Version). u.id) (last_version x))
          (elsewhere_same (Block b) e)
      last_at b true e =
          subst (λ t. option_map (λ (x : Version). x.id)
          (last_version (record_now (accepted st (RequestFrom caller request)) t))
          ≡ option_map (λ (x : Version). x.id) (last_version (record_now st t)))
          (sym (same_subject s (Block b) e))
          (ap (λ vs. option_map (λ (x : Version). x.id) (first_of_versions vs)) is
          ∙ last-same id f keeps (record_now st s).versions)

  -- The clock's row stays.
  pub clock_same : windows_named request ≡ None → (old new : Content) → Refines old st → new.clock
      ≡ old.clock →
      ClockRowMatches new.clock (accepted st (RequestFrom caller request))
  clock_same unset = clock-stays st caller request unset
      (next_id-same st caller request (names.unmade (record_now st)))

-- The view of the version.
pub shown_is : (st : State) (s : Subject) (id : ℕ) (v : Version)
    → HasHistory st → version_with id (record_now st s) ≡ Some v →
    shown st id ≡ Shown (Some (view_of st (record { subject = s; version = v })))
shown_is st s id v history found =
    ap (λ o. Shown (option_map (view_of st) o)) (found_is st history s id v found)
