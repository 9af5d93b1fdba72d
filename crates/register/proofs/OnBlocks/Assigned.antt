-- The answer to an assignment and the content after it.
use Rattle.std.proofs.Common.{◌≡◌, ℕ, ◌+◌, ◌≤◌, Bool, true, false, cond, ◌||◌, List, [], ◌∷◌, Option, Some, None, refl, ap, sym, ◌∙◌, subst}
use Rattle.std.specs.Prelude.{nat_lt, is_none, option_map, if◌then◌else◌}
use Rattle.std.specs.List.{list_any}
use Rattle.std.specs.FinMap.{get, keys}
use Rattle.numbers.specs.Subjects.{Subject, Block, subject_eq}
use Rattle.numbers.specs.Abstraction.{subject_of}
use Rattle.numbers.specs.declared.cic.Cic.{Cic}
use Rattle.model.specs.declared.refusal.Refusal.{Refusal}
use Rattle.model.specs.declared.refusal.Refusal.TheVariants.{Storage}
use Rattle.model.specs.Statuses.{Create}
use Rattle.model.specs.Changes.{next_attempt}
use Rattle.model.specs.Conditions.{limit}
use Rattle.model.specs.Content.{ClockRow, Content, stored_block}
use Rattle.model.specs.History.{CommandRequest, donor_of, made_version, with_made}
use Rattle.model.specs.Machine.{Shown, accepted, answer_of}
use Rattle.model.specs.State.{State, View, record_now, view_of, set_now, next_of}
use Rattle.model.specs.RefusalNumbers.{number_of}
use Rattle.model.specs.Refusals.{RequestFrom, is_in_block, refusal}
use Rattle.model.specs.Versions.{Version, version_with}
use Rattle.model.proofs.Accepted.{accepted_command}
use Rattle.model.proofs.Entered.{subject_eq-refl}
use Rattle.numbers.proofs.Small.{same_number}
use Rattle.version.specs.declared.version.Version.{Version as VersionImpl}
use Rattle.version.specs.Abstraction.{HasModel, version_of}
use Rattle.settle.specs.Changes.{ClockMove, AppliesChanges}
use Rattle.settle.specs.Sending.{SendingVersion, begun_of, sends_changes}
use Rattle.pool.specs.declared.assignment.Assignment.{Assignment}
use Rattle.pool.specs.declared.facts.BlockFacts.{BlockFacts}
use Rattle.pool.specs.Assignments.{IsAssigned, assignment_refusal, assignment_tests, command_of as assigned}
use Rattle.pool.specs.Facts.{carrier_number}
use Rattle.pool.proofs.BlockRefused.{assignment_refused}
use Rattle.requests.specs.Calls.{refused_with}
use Rattle.register.specs.declared.blocks.BlockRead.{BlockRead}
use Rattle.register.specs.Refinement.{Refines}
use Rattle.register.specs.Pooling.{block_changes}
use Rattle.register.specs.Settling.{SimulatesSettledStep, AreSettled, FramesUnchanged, is_of_block}
use Rattle.register.proofs.OnBlocks.BlockCalled.{HasFound, not_past}
use Rattle.register.proofs.OnBlocks.BlockCommands.{assigned_row, assignment-blocks, assignment-makes, unsent_block}
use Rattle.register.proofs.OnBlocks.BlockFacts.{block_facts_are}
use Rattle.register.proofs.EveryCall.Composed.{Views, answers_accepted, answers_refused_same}
use Rattle.register.proofs.Records.MadeSent.{AreBegun, bare}
use Rattle.register.proofs.OnVersions.OnVersion.{clock_is_of, clock_of, shown_is}
use Rattle.register.proofs.Records.Pooled.{made-records, pooled-stands}
use Rattle.register.proofs.EveryCall.Unfailing.{never_storage}

is_there : {A : Type 0} (o : Option A) → is_none o ≡ false → (x : A) × (o ≡ Some x)
is_there None e = cc
is_there (Some x) e = (x, refl)

-- An assignment is not refused with `Storage`.
pub assignment_never : (caller : ℕ) (facts : BlockFacts) (r : Refusal)
    → Some (number_of r) ≡ assignment_refusal caller facts → r ≡ Storage → ⊥
assignment_never caller facts r is storage =
    never_storage (assignment_tests caller facts)
    (refl, (refl, (refl, (refl, (refl, (refl, (refl, tt))))))) (sym is
    ∙ ap (λ x. Some (number_of x)) storage)

module _ (old new : Content) (caller : ℕ) (a : Assignment) (clock : ClockRow) (read : BlockRead)
    (facts : BlockFacts) (has : HasFound old caller a.block.number (assigned a) clock read
    facts) where
  refused_read : (st : State) → Refines old st
      → AreSettled old st (RequestFrom caller (CommandRequest (assigned a)))
      → refusal st (RequestFrom caller (CommandRequest (assigned a))) ≡ assignment_refusal caller
      facts
  refused_read st refines settled =
      assignment_refused st caller facts a (block_facts_are st old refines a.block.number settled
      read has.is_read clock has.clock_is caller (assigned a) facts has.are refl)
      ∙ ap (λ b. if b then Some 1 else assignment_refusal caller facts) (has.known st refines)

  pub answers_assignment_refused : (k : ℕ) → new ≡ old → Some k ≡ assignment_refusal caller facts
      → SimulatesSettledStep old new (RequestFrom caller (CommandRequest (assigned a)))
      (refused_with k)
  answers_assignment_refused k same refused =
      answers_refused_same old new (RequestFrom caller (CommandRequest (assigned a))) k same
      (λ st refines settled. refused_read st refines settled ∙ sym refused)

  module _ (version : VersionImpl) (all_carriers : List ℕ) (view : View)
      (accepts : None ≡ assignment_refusal caller facts) (is : IsAssigned clock.present clock.minute
      a (carrier_number facts.donor) version)
      (are_all : all_carriers ≡ keys old.carriers)
      (views : Views clock.present.windows clock clock.next_id version view)
      (changed : clock.next_id + 1 ≤ limit
      → AppliesChanges
      (block_changes (sends_changes clock.minute Create (begun_of clock.present.windows
      (clock.next_id, version) ∷ []) all_carriers)
      (assigned_row a.block.number version.old_provider.number clock.next_id)
      (record { minute = clock.minute; next_id = clock.next_id + 1 })) old new) where
    module _ (st : State) (refines : Refines old st)
        (settled : AreSettled old st (RequestFrom caller (CommandRequest (assigned a)))) where
      abbrev cic : Option ℕ
      cic = option_map (λ (x : Cic). x.number) a.routing.cic

      abbrev donor : Option ℕ
      donor = donor_of a.block.number st.history

      abbrev blank : ℕ → Version
      blank = unsent_block (set_now st) (donor_of a.block.number st.history) a.holder.number st.now
          a.routing.lrn.number (option_map (λ (x : Cic). x.number) a.routing.cic)

      abbrev after_it : State
      after_it = accepted st (RequestFrom caller (CommandRequest (assigned a)))

      abbrev first : ℕ
      first = next_of st

      none : refusal st (RequestFrom caller (CommandRequest (assigned a))) ≡ None
      none = refused_read st refines settled ∙ sym accepts

      same_clock : clock ≡ clock_of st
      same_clock = clock_is_of old st clock refines.represents has.clock_is

      donor_is : carrier_number facts.donor ≡ donor_of a.block.number st.history
      donor_is = (block_facts_are st old refines a.block.number settled read has.is_read clock
          has.clock_is caller (assigned a) facts has.are refl).donor

      -- The version that the definitions make.
      made : (id : ℕ) (cs : List ℕ)
          → version_of id (next_attempt (set_now st) Create cs st.now (blank id)).broadcasts
          (set_now st).windows version ≡ next_attempt (set_now st) Create cs st.now (blank id)
      made id cs =
          subst (λ d. HasModel version (made_version (set_now st) id caller st.now cs d
          (CommandRequest (assigned a)))) donor_is
          (subst (λ (k : ClockRow). HasModel version
          (made_version k.present id caller k.minute cs (carrier_number facts.donor)
          (CommandRequest (assigned a)))) same_clock (is.version id caller cs))

      begun : List SendingVersion
      begun = begun_of (set_now st).windows (next_of st, version) ∷ []

      are : AreBegun (set_now st) st.now all_carriers blank (λ id. refl) (λ id. refl) (λ id. refl)
          (next_of st)
          (begun_of (set_now st).windows (next_of st, version) ∷ [])
      are = (refl, ap bare (made (next_of st) []), tt)

      the_donor : (d : ℕ) × (donor_of a.block.number st.history ≡ Some d)
      the_donor =
          is_there (donor_of a.block.number st.history) (accepted_command st caller (assigned a)
          none 10)

      donor_named : version.old_provider.number ≡ the_donor.0
      donor_named = ap (λ (v : Version). v.old_provider) (made (next_of st) [])
          ∙ ap (λ o. (unsent_block (set_now st) o a.holder.number st.now a.routing.lrn.number cic
          0).old_provider) the_donor.1

      room : clock.next_id + 1 ≤ limit
      room =
          let test : nat_lt limit (next_of st + 1) ≡ false =
          accepted_command st caller (assigned a) none 28 in
          subst (λ k. k + 1 ≤ limit) (ap (λ (k : ClockRow). k.next_id) (sym same_clock))
          (not_past (next_of st + 1) test)

      abbrev next : ClockMove
      next = record { minute = st.now; next_id = next_of st + 1 }

      put : AppliesChanges
          (block_changes (sends_changes st.now Create
          (begun_of (set_now st).windows (next_of st, version) ∷ []) all_carriers)
          (assigned_row a.block.number the_donor.0 (next_of st)) next) old new
      put = subst
          (λ d. AppliesChanges
          (block_changes (sends_changes st.now Create
          (begun_of (set_now st).windows (next_of st, version) ∷ []) all_carriers)
          (assigned_row a.block.number d (next_of st)) next) old new) donor_named
          (subst (λ (k : ClockRow). AppliesChanges
          (block_changes (sends_changes k.minute Create
          (begun_of k.present.windows (k.next_id, version) ∷ []) all_carriers)
          (assigned_row a.block.number version.old_provider.number k.next_id)
          (record { minute = k.minute; next_id = k.next_id + 1 })) old new) same_clock
          (changed room))

      blocks : (k : ℕ)
          → get new.blocks k ≡ stored_block
          (accepted st (RequestFrom caller (CommandRequest (assigned a))))
          k
      blocks k = put.blocks k ∙ assignment-blocks st old caller a.block.number a.holder.number
          a.routing.lrn.number cic the_donor.0 refines the_donor.1 k

      here : (t : Subject) → list_any (subject_eq t) (Block a.block.number ∷ []) ≡ true
          → is_of_block a.block.number st t ≡ true
      here t named = by_cases (subject_eq t (Block a.block.number)) named
        where
          by_cases : (b : Bool) → (b || false) ≡ true → (b || is_in_block a.block.number t) ≡ true
          by_cases true e = refl
          by_cases false e = cc

      within : (t : Subject) → subject_eq t (Block a.block.number) ≡ false
          → list_any (subject_eq t) (Block a.block.number ∷ []) ≡ false
      within t other = ap (λ b. b || false) other

      assigned-stands : Refines new after_it
          × FramesUnchanged old new st (RequestFrom caller (CommandRequest (assigned a)))
      assigned-stands =
          pooled-stands st caller (CommandRequest (assigned a)) (Block a.block.number ∷ []) blank
          (assignment-makes st caller a.block.number a.holder.number a.routing.lrn.number cic)
          old new (begun_of (set_now st).windows (next_of st, version) ∷ [])
          all_carriers (assigned_row a.block.number the_donor.0 (next_of st)) next
          refines none
          are (refl, tt) (ap (λ t. t ∷ []) is.subject) are_all put
          (λ t named. settled t (here t named)) blocks refl within

      -- ---- the answer

      abbrev made_one : Version
      made_one = next_attempt (set_now st) Create (record_now st (Block a.block.number)).carriers
          st.now
          (blank (next_of st))

      in_front : version_with (next_of st)
          (record_now after_it (Block a.block.number)) ≡ Some made_one
      in_front =
          ap (version_with (next_of st))
          (made-records st caller (CommandRequest (assigned a)) (Block a.block.number ∷ []) blank
          (assignment-makes st caller a.block.number a.holder.number a.routing.lrn.number cic)
          (Block a.block.number))
          ∙ ap (λ b. version_with (next_of st) (record {
            carriers = (record_now st (Block a.block.number)).carriers;
            versions = with_made (if b then Some (next_of st)
                else None) (λ id. next_attempt (set_now st) Create
                (record_now st (Block a.block.number)).carriers st.now (blank id))
                (record_now st (Block a.block.number)).versions;
          })) (subject_eq-refl (Block a.block.number))
          ∙ ap (λ b. cond b (Some made_one) (version_with (next_of st)
          (record_now st (Block a.block.number)))) (same_number (next_of st))

      seen_as : view ≡ view_of after_it (record {
        subject = Block a.block.number;
        version = made_one;
      })
      seen_as =
          views after_it made_one.broadcasts (ap (λ (k : ClockRow). k.minute) (sym same_clock))
          ∙ ap (λ (k : ClockRow). view_of after_it
          (record {
            subject = subject_of version.subject;
            version =
                version_of clock.next_id made_one.broadcasts k.present.windows version;
          })) same_clock
          ∙ ap (λ k. view_of after_it (record {
            subject = subject_of version.subject;
            version = version_of k made_one.broadcasts (set_now st).windows version;
          })) (ap (λ (k : ClockRow). k.next_id) same_clock)
          ∙ ap (λ t. view_of after_it (record {
            subject = t;
            version = version_of (next_of st) made_one.broadcasts
                (set_now st).windows version;
          })) is.subject
          ∙ ap (λ v. view_of after_it (record { subject = Block a.block.number; version = v }))
          (made (next_of st) (record_now st (Block a.block.number)).carriers)

      assigned-answer : Shown (Some view) ≡ answer_of st after_it
          (RequestFrom caller (CommandRequest (assigned a)))
      assigned-answer =
          ap (λ x. Shown (Some x)) seen_as
          ∙ sym (shown_is after_it (Block a.block.number) (next_of st) made_one
          assigned-stands.0.represents.history in_front)

    pub answers_assigned : SimulatesSettledStep old new
        (RequestFrom caller (CommandRequest (assigned a)))
        (Some (Shown (Some view)))
    answers_assigned = answers_accepted old new (RequestFrom caller (CommandRequest (assigned a)))
        (Shown (Some view)) (λ st refines settled. (
          none st refines settled,
          assigned-answer st refines settled,
          (assigned-stands st refines settled).0,
          (assigned-stands st refines settled).1,
        ))
