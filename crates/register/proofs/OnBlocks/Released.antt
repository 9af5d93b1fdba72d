-- What a release reads, its answer, and the content after it.
use Rattle.std.proofs.Common.{◌≡◌, ℕ, false, ◌||◌, List, Option, Some, None, refl, ap, sym, ◌∙◌, subst}
use Rattle.std.specs.Prelude.{is_none, option_map, if◌then◌else◌}
use Rattle.std.specs.FinMap.{get, keys}
use Rattle.numbers.specs.Subjects.{Block}
use Rattle.numbers.specs.Abstraction.{subject_of}
use Rattle.model.specs.declared.refusal.Refusal.{Refusal}
use Rattle.model.specs.declared.refusal.Refusal.TheVariants.{Storage}
use Rattle.model.specs.Statuses.{Delete}
use Rattle.model.specs.Changes.{next_attempt}
use Rattle.model.specs.Commands.{Release}
use Rattle.model.specs.Content.{ClockRow, Content, row_of}
use Rattle.model.specs.History.{CommandRequest, donor_of}
use Rattle.model.specs.Machine.{Shown}
use Rattle.model.specs.State.{State, View, record_now, set_now}
use Rattle.model.specs.RefusalNumbers.{number_of}
use Rattle.model.specs.Refusals.{RequestFrom, refusal}
use Rattle.model.specs.Versions.{Version, last_version}
use Rattle.model.proofs.Accepted.{accepted_command}
use Rattle.model.proofs.Copies.Queue.{found_by_id}
use Rattle.numbers.proofs.Small.{some_is}
use Rattle.version.specs.declared.version.Version.{Version as VersionImpl}
use Rattle.version.specs.Facts.{HasModelIfAny}
use Rattle.version.specs.Abstraction.{Becomes, HasModel, model_with_windows}
use Rattle.settle.specs.declared.rows.VersionRow.TheInside.{Inside}
use Rattle.settle.specs.Changes.{AppliesChanges}
use Rattle.settle.specs.Settling.{IsSettled}
use Rattle.settle.specs.Transition.{transition_changes}
use Rattle.settle.specs.Abstraction.{version_row_of}
use Rattle.settle.proofs.KeptRows.{row_there}
use Rattle.pool.specs.declared.facts.BlockFacts.{BlockFacts}
use Rattle.pool.specs.Releases.{release_refusal, release_tests}
use Rattle.pool.proofs.BlockRefused.{release_refused}
use Rattle.requests.specs.Calls.{refused_with}
use Rattle.register.specs.declared.blocks.BlockRead.{BlockRead}
use Rattle.register.specs.Refinement.{Refines}
use Rattle.register.specs.Blocks.{IsLast, last_id}
use Rattle.register.specs.Settling.{SimulatesSettledStep, AreSettled}
use Rattle.register.proofs.OnBlocks.BlockAnswered.{released-answer, released-leaves, released-stands}
use Rattle.register.proofs.OnBlocks.BlockCalled.{HasFound}
use Rattle.register.proofs.OnBlocks.BlockFacts.{block_due, block_facts_are, first_among}
use Rattle.register.proofs.OnBlocks.BlockRow.{named_is}
use Rattle.register.proofs.EveryCall.Composed.{Views, answers_accepted, answers_refused_same}
use Rattle.register.proofs.OnVersions.RowVersion.{row_subject}
use Rattle.register.proofs.EveryCall.Unfailing.{never_storage}

-- A release is not refused with `Storage`.
pub release_never : (caller : ℕ) (facts : BlockFacts) (r : Refusal)
    → Some (number_of r) ≡ release_refusal caller facts → r ≡ Storage → ⊥
release_never caller facts r is storage =
    never_storage (release_tests caller facts) (refl, (refl, (refl, (refl, (refl, (refl, tt))))))
    (sym is ∙ ap (λ x. Some (number_of x)) storage)

-- Holds if `u` is the version made last of the block, with its id.
record IsLastOne (st : State) (block id : ℕ) (u : VersionImpl) : Type 0 where
  version : Version
  last : last_version (record_now st (Block block)) ≡ Some version
  sees : HasModel u version
  its : id ≡ version.id
  subject : subject_of u.subject ≡ Block block

module _ (old new : Content) (caller block : ℕ) (clock : ClockRow) (read : BlockRead)
    (facts : BlockFacts) (has : HasFound old caller block (Release block) clock read facts) where
  refused_read : (st : State) → Refines old st
      → AreSettled old st (RequestFrom caller (CommandRequest (Release block)))
      → refusal st (RequestFrom caller (CommandRequest (Release block))) ≡ release_refusal caller
      facts
  refused_read st refines settled =
      release_refused st caller facts block (block_facts_are st old refines block settled read
      has.is_read clock has.clock_is caller (Release block) facts has.are refl)
      ∙ ap (λ b. if b then Some 1 else release_refusal caller facts) (has.known st refines)

  pub answers_release_refused : (k : ℕ) → new ≡ old → Some k ≡ release_refusal caller facts
      → SimulatesSettledStep old new (RequestFrom caller (CommandRequest (Release block)))
      (refused_with k)
  answers_release_refused k same refused =
      answers_refused_same old new (RequestFrom caller (CommandRequest (Release block))) k same
      (λ st refines settled. refused_read st refines settled ∙ sym refused)

  module _ (id : ℕ) (u next : VersionImpl) (all_carriers : List ℕ) (view : View)
      (accepts : None ≡ release_refusal caller facts) (last_is : read.last ≡ Some (id, u))
      (becomes : (cs : List ℕ) → Becomes (next_attempt clock.present Delete cs clock.minute) u next)
      (are_all : all_carriers ≡ keys old.carriers)
      (views : Views clock.present.windows clock id next view)
      (changed : AppliesChanges (transition_changes id clock.minute (Some Delete)
      (subject_of next.subject)
      (model_with_windows clock.present.windows next) all_carriers) old new) where
    module _ (st : State) (refines : Refines old st)
        (settled : AreSettled old st (RequestFrom caller (CommandRequest (Release block)))) where
      none : refusal st (RequestFrom caller (CommandRequest (Release block))) ≡ None
      none = refused_read st refines settled ∙ sym accepts

      due : IsSettled old st (Block block)
      due = block_due st old refines block settled

      -- The row read is the row of that version.
      its_row : (k : ℕ) → last_id read.row ≡ Some k → (id ≡ k) × (row : Inside)
          × (get old.versions k ≡ Some (version_row_of row)) × (row.version ≡ u)
      its_row k is =
          subst (λ e. IsLast old (Some k) e) last_is (subst (λ o. IsLast old o read.last) is
          has.is_read.last)

      the_last : (o : Option Version) → last_version (record_now st (Block block)) ≡ o
          → HasModelIfAny (Some u) o → IsLastOne st block id u
      the_last None e sees = absurd sees
      the_last (Some v) e sees =
          let named : last_id read.row ≡ Some v.id =
          named_is st old refines.represents block read.row has.is_read.row
          ∙ donated (donor_of block st.history) (accepted_command st caller (Release block)
          none 10)
          ∙ ap (option_map (λ (x : Version). x.id)) e in
          let row = its_row v.id named in
          let there = row_there (set_now st) (Block block) old (record_now st (Block block))
          due.rows_match v.id v (found_by_id st refines.represents.history (Block block) v
          (first_among (record_now st (Block block)).versions v e)) in
          record {
            version = v;
            last = e;
            sees = sees;
            its = row.0;
            subject = ap (λ (x : VersionImpl). subject_of x.subject) (sym row.3)
                ∙ row_subject (Block block) v row.1 (some_is (version_row_of row.1)
                (row_of (Block block) v) (sym row.2 ∙ there));
          }
        where
          -- A block that is not donated is not found.
          donated : (donor : Option ℕ)
              → (is_none donor || is_none (last_version (record_now st (Block block)))) ≡ false →
              (elim donor [
                | Some d ↦ option_map (λ (x : Version). x.id)
                    (last_version (record_now st (Block block)))
                | None ↦ None
              ]) ≡ option_map (λ (x : Version). x.id) (last_version (record_now st (Block block)))
          donated (Some d) found = refl
          donated None found = cc

      one : IsLastOne st block id u
      one = the_last (last_version (record_now st (Block block))) refl
          (subst (λ o. HasModelIfAny o (last_version (record_now st (Block block)))) (has.are.last
          ∙ ap (option_map (λ e. e.1)) last_is)
          (block_facts_are st old refines block settled read has.is_read clock has.clock_is caller
          (Release block) facts has.are refl).last)

    pub answers_released : SimulatesSettledStep old new
        (RequestFrom caller (CommandRequest (Release block)))
        (Some (Shown (Some view)))
    answers_released =
        answers_accepted old new (RequestFrom caller (CommandRequest (Release block)))
        (Shown (Some view)) (λ st refines settled.
        let o = one st refines settled in
        let n = none st refines settled in
        let d = due st refines settled in (
          n,
          released-answer st old new caller block o.version u next id clock all_carriers view
              refines d n
              o.last o.sees o.its o.subject has.clock_is are_all becomes changed views,
          released-stands st old new caller block o.version u next id clock all_carriers view
              refines d n
              o.last o.sees o.its o.subject has.clock_is are_all becomes changed views,
          released-leaves st old new caller block o.version u next id clock all_carriers view
              refines d n
              o.last o.sees o.its o.subject has.clock_is are_all becomes changed views,
        ))
