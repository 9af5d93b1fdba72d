-- The contents after the registration of a routing number and the opening of a code.
use Rattle.std.proofs.Common.{◌≡◌, ℕ, Bool, true, false, not, [], ◌∷◌, Option, Some, None, refl, ap, sym, ◌∙◌, subst}
use Rattle.std.specs.Prelude.{◌==◌, is_some, option_map, if◌then◌else◌}
use Rattle.std.specs.FinMap.{get}
use Rattle.numbers.specs.Subjects.{Subject, Block}
use Rattle.model.specs.Commands.{RegisterRoutingNumber, OpenCode}
use Rattle.model.specs.Versions.{Version, last_version, is_among}
use Rattle.model.specs.History.{Request, CommandRequest, HasValues, next_id, carriers, donor_of, lrn_owner, code_holder, or_else, subjects_made_by, donor_named, windows_named}
use Rattle.model.specs.State.{State, record_now, is_carrier, set_now}
use Rattle.model.specs.Refusals.{RequestFrom, refusal, tests, first_refusal, npac}
use Rattle.model.specs.Machine.{LrnAdded, CodeOpened, accepted}
use Rattle.model.specs.Content.{Content, VersionRow, BroadcastRow, BlockRow, ClockRow, BroadcastKey, WaitKey, ClockRowMatches, SameRows, of_subject, broadcast_key, wait_key}
use Rattle.model.specs.Concerns.{concerns}
use Rattle.model.proofs.Entered.{entered-elsewhere, next_id-same}
use Rattle.settle.specs.Changes.{AppliesChanges, no_changes}
use Rattle.register.specs.Refinement.{Refines}
use Rattle.register.specs.Settling.{SimulatesSettledStep}
use Rattle.register.proofs.Records.Touched.{touched-stands, present-stays}
use Rattle.register.proofs.EveryCall.Composed.{answers_accepted}

-- ---- an entry on no subject, and rows of the registry only

module _ (st : State) (old new : Content) (caller : ℕ) (request : Request)
    (refines : Refines old st)
    (unmade : subjects_made_by request (record_now st) ≡ []) (apart : (t : Subject)
    → concerns request t (record_now st t).versions ≡ false) (lines : HasValues request)
    (unset : windows_named request ≡ None)
    (accepts : refusal st (RequestFrom caller request) ≡ None) (begun : st.history ≡ [] → ⊥) where
  abbrev after_it : State
  after_it = accepted st (RequestFrom caller request)

  same_record : (t : Subject) → record_now after_it t ≡ record_now st t
  same_record t = entered-elsewhere st caller request t unmade (apart t)

  module _ (versions : (k : ℕ) → get new.versions k ≡ get old.versions k)
      (broadcasts : (k : BroadcastKey) → get new.broadcasts k ≡ get old.broadcasts k)
      (waits : (k : WaitKey) → get new.waits k ≡ get old.waits k) (blocks : (k : ℕ)
      → get new.blocks k ≡ get old.blocks k) (clock : new.clock ≡ old.clock) (same_sets : (k : ℕ)
      → get new.sets k ≡ get old.sets k)
      (no_donor : (b : ℕ) → donor_named b caller request ≡ None)
      (carriers_are : (k : ℕ)
      → is_some (get new.carriers k) ≡ is_among k (carriers after_it.history))
      (lrns_are : (k : ℕ) → get new.lrns k ≡ lrn_owner k after_it.history) (codes_are : (k : ℕ)
      → get new.codes k ≡ code_holder k after_it.history) where
    pub same_rows : (t : Subject) → SameRows t old new
    same_rows t = record {
      versions = λ k. ap (of_subject t (λ (x : VersionRow). x.subject)) (versions k);
      broadcasts =
          λ k a. ap (of_subject t (λ (x : BroadcastRow). x.subject))
          (broadcasts (broadcast_key k a));
      waits = λ c m k a. ap (of_subject t (λ u. u)) (waits (wait_key c m k a));
    }

    clock_at : (o : Option ClockRow) → ClockRowMatches o st → old.clock ≡ o
        → ClockRowMatches new.clock after_it
    clock_at None shows e = absurd (begun shows.0)
    clock_at (Some row) shows e = subst (λ o. ClockRowMatches o after_it) (sym (clock ∙ e))
        (shows ∙ ap (λ k. let row : ClockRow = record {
          minute = st.now;
          next_id = k;
          present = set_now st;
        } in row) (sym (next_id-same st caller request unmade))
        ∙ ap (λ p. let row : ClockRow = record {
          minute = st.now;
          next_id = next_id st.windows after_it.history;
          present = p;
        } in row) (sym (present-stays st caller request unset)))

    pub registry_stands : Refines new after_it
    registry_stands = touched-stands st old new caller request (λ t. false) refines accepts lines
        unset same_sets (record {
          clock = clock_at old.clock refines.represents.clock refl;
          written = ap is_some clock ∙ refines.written;
          carriers = carriers_are;
          lrns = lrns_are;
          codes = codes_are;
          blocks = λ b. blocks b ∙ refines.represents.blocks b
              ∙ sym (ap (λ r. option_map (λ donor. let row : BlockRow = record {
                donor = donor;
                last = option_map (λ (u : Version). u.id) (last_version r);
              } in row) (donor_of b st.history)) (same_record (Block b)))
              ∙ sym (ap (λ o. option_map (λ donor. let row : BlockRow = record {
                donor = donor;
                last = option_map (λ (u : Version). u.id)
                    (last_version (record_now after_it (Block b)));
              } in row) (or_else o (donor_of b st.history))) (no_donor b));
        }) (λ t e. (same_record t, same_rows t)) (λ t e. let never : true ≡ false = sym e in cc)

-- If a carrier is known, the history is not empty.
pub has_begun : (st : State) (caller : ℕ) → is_carrier st caller ≡ true → st.history ≡ [] → ⊥
has_begun st caller known h = let no : true ≡ false =
    sym known ∙ ap (λ l. is_carrier (record st { history = l }) caller) h in cc

-- ---- a routing number

abbrev lrn_refusal : (known : Bool) → Option ℕ → Option ℕ
lrn_refusal known owner = first_refusal ((1, not known) ∷ (6, is_some owner) ∷ [])

lrn_tests : (st : State) (caller lrn : ℕ)
    → refusal st (RequestFrom caller (CommandRequest (RegisterRoutingNumber lrn))) ≡ lrn_refusal
    (is_carrier st caller) (lrn_owner lrn st.history)
unfolding tests
lrn_tests st caller lrn = refl

module _ (old : Content) (caller lrn : ℕ) where
  pub lrn_unknown : is_some (get old.carriers caller) ≡ false → (st : State) → Refines old st
      → refusal st (RequestFrom caller (CommandRequest (RegisterRoutingNumber lrn))) ≡ Some 1
  lrn_unknown unknown st refines =
      lrn_tests st caller lrn ∙ ap (λ b. lrn_refusal b (lrn_owner lrn st.history))
      (sym (refines.represents.carriers caller) ∙ unknown)

  pub lrn_is_taken : is_some (get old.carriers caller) ≡ true → is_some (get old.lrns lrn) ≡ true
      → (st : State) → Refines old st →
      refusal st (RequestFrom caller (CommandRequest (RegisterRoutingNumber lrn))) ≡ Some 6
  lrn_is_taken known taken st refines =
      lrn_tests st caller lrn ∙ ap (λ b. lrn_refusal b (lrn_owner lrn st.history))
      (sym (refines.represents.carriers caller) ∙ known)
      ∙ ap (λ b. if b then Some 6 else lrn_refusal true None)
      (ap is_some (sym (refines.represents.lrns lrn)) ∙ taken)

  lrn_accepted : is_some (get old.carriers caller) ≡ true → get old.lrns lrn ≡ None → (st : State)
      → Refines old st
      → refusal st (RequestFrom caller (CommandRequest (RegisterRoutingNumber lrn))) ≡ None
  lrn_accepted known free st refines =
      lrn_tests st caller lrn ∙ ap (λ b. lrn_refusal b (lrn_owner lrn st.history))
      (sym (refines.represents.carriers caller) ∙ known)
      ∙ ap (lrn_refusal true) (sym (refines.represents.lrns lrn) ∙ free)

pub answers_lrn : (old new : Content) (caller lrn : ℕ) → is_some (get old.carriers caller) ≡ true
    → get old.lrns lrn ≡ None →
    AppliesChanges (record no_changes { lrn = Some (lrn, caller) }) old new
    → SimulatesSettledStep old new (RequestFrom caller (CommandRequest (RegisterRoutingNumber lrn)))
    (Some (LrnAdded lrn caller))
answers_lrn old new caller lrn known free changed =
    answers_accepted old new (RequestFrom caller (CommandRequest (RegisterRoutingNumber lrn)))
    (LrnAdded lrn caller) (λ st refines settled. (
      lrn_accepted old caller lrn known free st refines,
      refl,
      registry_stands st old new caller (CommandRequest (RegisterRoutingNumber lrn)) refines refl
          (λ t. refl) tt refl (lrn_accepted old caller lrn known free st refines)
          (has_begun st caller (sym (refines.represents.carriers caller) ∙ known))
          changed.versions changed.broadcasts changed.waits changed.blocks changed.clock
          changed.sets (λ b. refl)
          (λ k. ap is_some (changed.carriers k) ∙ refines.represents.carriers k)
          (λ k. changed.lrns k ∙ owner st refines k (lrn == k))
          (λ k. changed.codes k ∙ refines.represents.codes k),
      λ t other. same_rows st old new caller (CommandRequest (RegisterRoutingNumber lrn)) refines
          refl
          (λ t. refl) tt refl (lrn_accepted old caller lrn known free st refines)
          (has_begun st caller (sym (refines.represents.carriers caller) ∙ known))
          changed.versions changed.broadcasts changed.waits changed.blocks changed.clock
          changed.sets (λ b. refl)
          (λ k. ap is_some (changed.carriers k) ∙ refines.represents.carriers k)
          (λ k. changed.lrns k ∙ owner st refines k (lrn == k))
          (λ k. changed.codes k ∙ refines.represents.codes k) t,
    ))
  where
    owner : (st : State) → Refines old st → (k : ℕ) (b : Bool)
        → (if b then Some caller else get old.lrns k) ≡ or_else (if b then Some caller
        else None) (lrn_owner k st.history)
    owner st refines k true = refl
    owner st refines k false = refines.represents.lrns k

-- ---- a code

abbrev code_refusal : (known is_admin : Bool) → Option ℕ → Option ℕ
code_refusal known is_admin holder =
    first_refusal ((1, not known) ∷ (2, not is_admin) ∷ (5, is_some holder) ∷ [])

code_tests : (st : State) (caller code spid : ℕ) →
    refusal st (RequestFrom caller (CommandRequest (OpenCode code spid))) ≡ code_refusal
    (is_carrier st spid) (caller == npac) (code_holder code st.history)
unfolding tests
code_tests st caller code spid = refl

module _ (old : Content) (caller code spid : ℕ) where
  pub code_unknown : is_some (get old.carriers spid) ≡ false → (st : State) → Refines old st
      → refusal st (RequestFrom caller (CommandRequest (OpenCode code spid))) ≡ Some 1
  code_unknown unknown st refines =
      code_tests st caller code spid
      ∙ ap (λ b. code_refusal b (caller == npac) (code_holder code st.history))
      (sym (refines.represents.carriers spid) ∙ unknown)

  by_caller : is_some (get old.carriers spid) ≡ true → (b : Bool) → (caller == npac) ≡ b
      → (st : State) → Refines old st →
      refusal st (RequestFrom caller (CommandRequest (OpenCode code spid))) ≡ code_refusal true b
      (code_holder code st.history)
  by_caller known b is st refines =
      code_tests st caller code spid
      ∙ ap (λ c. code_refusal c (caller == npac) (code_holder code st.history))
      (sym (refines.represents.carriers spid) ∙ known)
      ∙ ap (λ c. code_refusal true c (code_holder code st.history)) is

  pub code_not_admin : is_some (get old.carriers spid) ≡ true → (caller == npac) ≡ false
      → (st : State) → Refines old st
      → refusal st (RequestFrom caller (CommandRequest (OpenCode code spid)))
      ≡ Some 2
  code_not_admin known other st refines = by_caller known false other st refines

  pub code_is_taken : is_some (get old.carriers spid) ≡ true → (caller == npac) ≡ true
      → is_some (get old.codes code) ≡ true → (st : State) → Refines old st →
      refusal st (RequestFrom caller (CommandRequest (OpenCode code spid))) ≡ Some 5
  code_is_taken known admin taken st refines = by_caller known true admin st refines
      ∙ ap (λ b. if b then Some 5 else code_refusal true true None)
      (ap is_some (sym (refines.represents.codes code)) ∙ taken)

  code_accepted : is_some (get old.carriers spid) ≡ true → (caller == npac) ≡ true
      → get old.codes code ≡ None → (st : State) → Refines old st →
      refusal st (RequestFrom caller (CommandRequest (OpenCode code spid))) ≡ None
  code_accepted known admin free st refines = by_caller known true admin st refines
      ∙ ap (code_refusal true true) (sym (refines.represents.codes code) ∙ free)

pub answers_code : (old new : Content) (caller code spid : ℕ)
    → is_some (get old.carriers spid) ≡ true → (caller == npac) ≡ true → get old.codes code ≡ None →
    AppliesChanges (record no_changes { code = Some (code, spid) }) old new
    → SimulatesSettledStep old new (RequestFrom caller (CommandRequest (OpenCode code spid)))
    (Some (CodeOpened code spid))
answers_code old new caller code spid known admin free changed =
    answers_accepted old new (RequestFrom caller (CommandRequest (OpenCode code spid)))
    (CodeOpened code spid) (λ st refines settled. (
      code_accepted old caller code spid known admin free st refines,
      refl,
      registry_stands st old new caller (CommandRequest (OpenCode code spid)) refines refl
          (λ t. refl) tt
          refl (code_accepted old caller code spid known admin free st refines)
          (has_begun st spid (sym (refines.represents.carriers spid) ∙ known))
          changed.versions changed.broadcasts changed.waits changed.blocks changed.clock
          changed.sets (λ b. refl)
          (λ k. ap is_some (changed.carriers k) ∙ refines.represents.carriers k)
          (λ k. changed.lrns k ∙ refines.represents.lrns k)
          (λ k. changed.codes k ∙ holder st refines k (code == k)),
      λ t other. same_rows st old new caller (CommandRequest (OpenCode code spid)) refines refl
          (λ t. refl)
          tt refl (code_accepted old caller code spid known admin free st refines)
          (has_begun st spid (sym (refines.represents.carriers spid) ∙ known))
          changed.versions changed.broadcasts changed.waits changed.blocks changed.clock
          changed.sets (λ b. refl)
          (λ k. ap is_some (changed.carriers k) ∙ refines.represents.carriers k)
          (λ k. changed.lrns k ∙ refines.represents.lrns k)
          (λ k. changed.codes k ∙ holder st refines k (code == k)) t,
    ))
  where
    holder : (st : State) → Refines old st → (k : ℕ) (b : Bool)
        → (if b then Some spid else get old.codes k) ≡ or_else (if b then Some spid
        else None) (code_holder k st.history)
    holder st refines k true = refl
    holder st refines k false = refines.represents.codes k
