-- The answer to a command on a version and the content after it.
use Rattle.std.proofs.Common.{◌≡◌, ℕ, Bool, true, false, not, List, [], ◌∷◌, Option, Some, None, refl, ap, sym, ◌∙◌, subst}
use Rattle.std.specs.Prelude.{is_some}
use Rattle.std.specs.FinMap.{get, keys}
use Rattle.numbers.specs.Subjects.{Subject}
use Rattle.numbers.specs.Abstraction.{subject_of}
use Rattle.model.specs.declared.refusal.Refusal.{Refusal}
use Rattle.model.specs.declared.refusal.Refusal.TheVariants.{Storage}
use Rattle.model.specs.Statuses.{Send}
use Rattle.model.specs.Statuses.{Create, Delete, Modify}
use Rattle.model.specs.Content.{Content, VersionRow, ClockRow, row_of}
use Rattle.model.specs.History.{CommandRequest}
use Rattle.model.specs.Machine.{Shown, accepted, answer_of}
use Rattle.model.specs.State.{State, View, record_now, is_carrier, version_of_id, view_of, set_now}
use Rattle.model.specs.RefusalNumbers.{number_of}
use Rattle.model.specs.Refusals.{RequestFrom, refusal, has_open, owns}
use Rattle.model.specs.OnVersion.{is_number}
use Rattle.model.specs.Versions.{Broadcast, Version, is_open, version_with}
use Rattle.model.specs.Windows.{WindowSet, Windows}
use Rattle.model.specs.Laws.{IsReachable, version_table}
use Rattle.model.proofs.OwnTests.{refused_by_own_tests}
use Rattle.model.proofs.Entered.{found_is, sound_now}
use Rattle.model.proofs.Lagging.{no_row_now}
use Rattle.model.proofs.Shown.{id_found}
use Rattle.model.specs.Commands.{VersionCommand, Activate, PutInConflict, RemoveFromConflict, Cancel, OldProviderCancellationAcknowledge, NewProviderCancellationAcknowledge, Disconnect, ModifyRouting, OnVersion}
use Rattle.model.specs.History.{version_after_command}
use Rattle.model.specs.OnVersion.{version_tests}
use Rattle.version.specs.declared.command.CommandFacts.{CommandFacts}
use Rattle.model.specs.Conditions.{is_the}
use Rattle.version.specs.Commands.{sends_of, sends_model, version_refusal, AreFactsNeeded, IsTransition}
use Rattle.version.specs.Abstraction.{version_of, model_with_windows, HasModel}
use Rattle.version.specs.declared.command.Transition.{Transition}
use Rattle.version.proofs.Commanded.{change_id, change_stepped, fits, IsFit}
use Rattle.version.proofs.Refused.{command_refused}
use Rattle.settle.specs.Changes.{AppliesChanges}
use Rattle.settle.proofs.Passing.{sound_open}
use Rattle.settle.specs.Reads.{IsOpen}
use Rattle.settle.specs.Settling.{IsSettled}
use Rattle.settle.specs.Transition.{transition_changes}
use Rattle.settle.specs.Abstraction.{version_row_of}
use Rattle.settle.specs.declared.rows.NumberedRow.{NumberedRow}
use Rattle.settle.specs.declared.rows.VersionRow.TheInside.{Inside}
use Rattle.register.specs.Refinement.{Refines}
use Rattle.register.specs.Looking.{AreHeld}
use Rattle.register.proofs.EveryCall.HeldSets.{row_held, windows-now}
use Rattle.version.proofs.Commanded.{change_holds}
use Rattle.requests.specs.Calls.{refused_with}
use Rattle.register.specs.CommandFacts.{AreCommandFacts}
use Rattle.register.specs.Settling.{SimulatesSettledStep, AreSettled, FramesUnchanged}
use Rattle.register.proofs.Asking.Alone.{none_held, row_is_held}
use Rattle.register.proofs.OnVersions.RowVersion.{row_version, row_subject}
use Rattle.register.proofs.EveryCall.Composed.{answers_refused_same, answers_accepted, Views}
use Rattle.model.proofs.Lists.{everywhere}
use Rattle.register.proofs.OnVersions.OnVersion.{LeavesRegistry, NamesVersion, clock_of, clock_is_of}
use Rattle.register.proofs.EveryCall.Settled.{IdSettled, row_now, row_settled, of_id_found}
use Rattle.register.proofs.Records.Stepped.{StepsOne, stepped-stands, stepped-leaves, stepped-answer}
use Rattle.register.proofs.EveryCall.Unfailing.{AreMachines, never_storage}

-- ---- by the command

command-leaves : (c : VersionCommand) (caller id : ℕ)
    → LeavesRegistry caller (CommandRequest (OnVersion id c))
command-leaves c caller id = record {
  carrier = refl;
  lrn = λ k. refl;
  code = λ k. refl;
  donor = λ k. refl;
  lines = tt;
  unset = refl;
}

command-names : (c : VersionCommand) (id : ℕ) (s : Subject)
    → NamesVersion id s (CommandRequest (OnVersion id c))
command-names c id s = record { unmade = λ at. refl; elsewhere = λ t vs apart none. none }

-- Its refusals are the machine's.
machine_own : (w : Windows) (now caller : ℕ) (facts : CommandFacts) (c : VersionCommand)
    (s : Subject)
    (v : Version)
    → AreMachines (version_tests w now caller (λ t. facts.is_another_open)
    (λ lrn carrier. facts.is_lrn_good) c (Some (record { subject = s; version = v })))
machine_own w now caller facts Activate s v = (refl, (refl, (refl, (refl, (refl, tt)))))
machine_own w now caller facts PutInConflict s v = (refl, (refl, (refl, (refl, tt))))
machine_own w now caller facts RemoveFromConflict s v = (refl, (refl, (refl, (refl, tt))))
machine_own w now caller facts Cancel s v = (refl, (refl, (refl, tt)))
machine_own w now caller facts OldProviderCancellationAcknowledge s v = (refl, (refl, tt))
machine_own w now caller facts NewProviderCancellationAcknowledge s v = (refl, (refl, tt))
machine_own w now caller facts (Disconnect release) s v = (refl, (refl, (refl, (refl, (refl, tt)))))
machine_own w now caller facts (ModifyRouting lrn cic) s v =
    (refl, (refl, (refl, (refl, (refl, tt)))))

pub command_never : (w : Windows) (now caller : ℕ) (facts : CommandFacts) (c : VersionCommand)
    (s : Subject)
    (v : Version) (r : Refusal) → Some (number_of r) ≡ version_refusal w now caller facts c s v
    → r ≡ Storage → ⊥
command_never w now caller facts c s v r is storage =
    never_storage ((10, not_number) ∷ version_tests w now caller (λ t. facts.is_another_open)
    (λ lrn carrier. facts.is_lrn_good) c (Some (record { subject = s; version = v })))
    (refl, machine_own w now caller facts c s v) (sym is ∙ ap (λ x. Some (number_of x)) storage)
  where
    not_number : Bool
    not_number = not (is_number s)

-- The fact read of the open version is that of the state.
open_is : (st : State) (old : Content) (s : Subject) (o : Option NumberedRow) → Refines old st
    → IsSettled old st s → IsOpen old s o → is_some o ≡ has_open st s
open_is st old s None refines due reads =
    sym (ap is_some (none_held st old refines s due (λ t v. is_open t v)
    (λ (row : VersionRow). row.opens) (λ t v. refl) (sound_open s (record_now st s).versions
    (sound_now st refines.represents.history s)) reads))
open_is st old s (Some n) refines due reads =
    sym (ap is_some (row_is_held st old refines s due (λ t v. is_open t v)
    (λ (row : VersionRow). row.opens) (λ t v. refl) (sound_open s (record_now st s).versions
    (sound_now st refines.represents.history s)) n.id n.row reads.0 reads.1).1)

facts_needed : (c : VersionCommand) (st : State) (old : Content) (s : Subject) (provider : ℕ)
    (facts : CommandFacts) → Refines old st → IsSettled old st s
    → AreCommandFacts old c s provider facts
    → AreFactsNeeded c facts (has_open st s) (λ lrn. owns st lrn provider)
facts_needed Activate st old s provider facts refines due tells = tt
facts_needed PutInConflict st old s provider facts refines due tells = tt
facts_needed RemoveFromConflict st old s provider facts refines due tells = tt
facts_needed Cancel st old s provider facts refines due tells = tt
facts_needed OldProviderCancellationAcknowledge st old s provider facts refines due tells = tt
facts_needed NewProviderCancellationAcknowledge st old s provider facts refines due tells = tt
facts_needed (Disconnect release) st old s provider facts refines due tells =
    tells.2 ∙ open_is st old s tells.0 refines due tells.1
facts_needed (ModifyRouting lrn cic) st old s provider facts refines due tells = (
  tells.0.2 ∙ open_is st old s tells.0.0 refines due tells.0.1,
  tells.1 ∙ ap (is_the provider) (refines.represents.lrns lrn),
)

-- ---- refusals

is_state : (old : Content) (st : State) → Refines old st → IsReachable st
is_state old st refines = record {
  windows = refines.represents.windows;
  history = refines.represents.history;
}

module _ (old : Content) (caller id : ℕ) (c : VersionCommand) where
  known_is : (st : State) (b : Bool) → Refines old st → is_some (get old.carriers caller) ≡ b
      → is_carrier st caller ≡ b
  known_is st b refines known = sym (refines.represents.carriers caller) ∙ known

  id_settled : (st : State)
      → AreSettled old st (RequestFrom caller (CommandRequest (OnVersion id c)))
      → IdSettled old st id
  id_settled st settled = λ s is. settled s is

  refused_unknown : is_some (get old.carriers caller) ≡ false → (st : State) → Refines old st
      → refusal st (RequestFrom caller (CommandRequest (OnVersion id c))) ≡ Some 1
  refused_unknown unknown st refines = refused_by_own_tests st (is_state old st refines) caller id c
      ∙ ap (λ b. version_table st caller c b (version_of_id st id))
      (known_is st false refines unknown)

  refused_not_found : is_some (get old.carriers caller) ≡ true → get old.versions id ≡ None
      → (st : State) → Refines old st
      → refusal st (RequestFrom caller (CommandRequest (OnVersion id c)))
      ≡ Some 10
  refused_not_found known none st refines =
      refused_by_own_tests st (is_state old st refines) caller id c
      ∙ ap (λ b. version_table st caller c b (version_of_id st id)) (known_is st true refines known)
      ∙ ap (version_table st caller c true) (no_row_now st old refines.represents id none)

  -- The refusal by the row, the windows that it holds, the clock, and the facts.
  refused_by_row : (clock : ClockRow) (row : VersionRow) (held : Windows) (u : Inside)
      (facts : CommandFacts)
      → is_some (get old.carriers caller) ≡ true →
      old.clock ≡ Some clock → get old.versions id ≡ Some row → AreHeld old clock row.held held →
      version_row_of u ≡ row →
      (st : State) → Refines old st → IdSettled old st id
      → AreFactsNeeded c facts (has_open st row.subject) (λ lrn. owns st lrn row.new_provider) →
      refusal st (RequestFrom caller (CommandRequest (OnVersion id c)))
      ≡ version_refusal clock.present.windows clock.minute caller facts c
      (subject_of u.version.subject) (model_with_windows held u.version)
  refused_by_row clock row held u facts known clock_is found are_held is st refines settled tells =
      let shown : (v : Version) × (version_with id (record_now st row.subject) ≡ Some v)
      × (row ≡ row_of row.subject v) = row_now st old id row refines.represents settled found in
      let same_clock : clock ≡ clock_of st = clock_is_of old st clock refines.represents clock_is in
      let held_is : held ≡ shown.0.held.windows =
      row_held st old clock refines.represents clock_is row.subject id shown.0 shown.1 row
      shown.2 held are_held in
      command_refused st caller id c (record { subject = row.subject; version = shown.0 })
      (is_state old st refines) (known_is st true refines known)
      (found_is st refines.represents.history row.subject id shown.0 shown.1) facts
      (subst (λ (x : VersionRow). AreFactsNeeded c facts (has_open st row.subject)
      (λ lrn. owns st lrn x.new_provider)) shown.2 tells)
      ∙ by_seen (set_now st).windows st.now row.subject shown.0
      (ap (λ w. version_of shown.0.id shown.0.broadcasts w u.version) held_is
      ∙ row_version row.subject shown.0 u (is ∙ shown.2))
      (row_subject row.subject shown.0 u (is ∙ shown.2))
      ∙ ap (λ (k : ClockRow). version_refusal k.present.windows k.minute caller facts c
      (subject_of u.version.subject) (model_with_windows held u.version)) (sym same_clock)
    where
      -- The command depends on neither the id nor the broadcasts.
      by_seen : (w : Windows) (now : ℕ) (s : Subject) (v : Version) →
          version_of v.id v.broadcasts held u.version ≡ v → subject_of u.version.subject ≡ s →
          version_refusal w now caller facts c s v
          ≡ version_refusal w now caller facts c (subject_of u.version.subject)
          (model_with_windows held u.version)
      by_seen w now s v version subject =
          ap (λ (x : Version). version_refusal w now caller facts c s x) (sym version)
          ∙ ap (λ t. version_refusal w now caller facts c t
          (version_of v.id v.broadcasts held u.version)) (sym subject)
          ∙ unseen w now v.id v.broadcasts c
        where
          unseen : (w : Windows) (now k : ℕ) (bs : List Broadcast) (d : VersionCommand) →
              version_refusal w now caller facts d (subject_of u.version.subject)
              (version_of k bs held u.version)
              ≡ version_refusal w now caller facts d (subject_of u.version.subject)
              (model_with_windows held u.version)
          unseen w now k bs Activate = refl
          unseen w now k bs PutInConflict = refl
          unseen w now k bs RemoveFromConflict = refl
          unseen w now k bs Cancel = refl
          unseen w now k bs OldProviderCancellationAcknowledge = refl
          unseen w now k bs NewProviderCancellationAcknowledge = refl
          unseen w now k bs (Disconnect release) = refl
          unseen w now k bs (ModifyRouting lrn cic) = refl

-- ---- exits

pub answers_unknown : (old new : Content) (caller id : ℕ) (c : VersionCommand) → new ≡ old
    → is_some (get old.carriers caller) ≡ false
    → SimulatesSettledStep old new (RequestFrom caller (CommandRequest (OnVersion id c)))
    (refused_with 1)
answers_unknown old new caller id c same unknown =
    answers_refused_same old new (RequestFrom caller (CommandRequest (OnVersion id c))) 1 same
    (λ st refines settled. refused_unknown old caller id c unknown st refines)

pub answers_not_found : (old new : Content) (caller id : ℕ) (c : VersionCommand) → new ≡ old
    → is_some (get old.carriers caller) ≡ true → get old.versions id ≡ None →
    SimulatesSettledStep old new (RequestFrom caller (CommandRequest (OnVersion id c)))
    (refused_with 10)
answers_not_found old new caller id c same known none =
    answers_refused_same old new (RequestFrom caller (CommandRequest (OnVersion id c))) 10 same
    (λ st refines settled. refused_not_found old caller id c known none st refines)

-- What the code read.
pub record HasRead (old : Content) (caller id : ℕ) (c : VersionCommand) (clock : ClockRow)
    (held : Windows) (u : Inside) (facts : CommandFacts) : Type 0 where
  pub known : is_some (get old.carriers caller) ≡ true
  pub clock_is : old.clock ≡ Some clock
  pub found : get old.versions id ≡ Some (version_row_of u)
  pub are_held : AreHeld old clock u.version.held held
  pub tells : AreCommandFacts old c (subject_of u.version.subject) u.version.new_provider.number
      facts

-- Each was read of a content equal to the one before it.
pub has_read : {old at_clock at_row at_held at_facts : Content} {caller id : ℕ}
    {c : VersionCommand} {clock : ClockRow} {held : Windows} {u : Inside} {facts : CommandFacts}
    → at_clock ≡ old → at_row ≡ at_clock → at_held ≡ at_row → at_facts ≡ at_held
    → is_some (get old.carriers caller) ≡ true → at_clock.clock ≡ Some clock
    → get at_row.versions id ≡ Some (version_row_of u) → AreHeld at_held clock u.version.held held
    → AreCommandFacts at_facts c (subject_of u.version.subject) u.version.new_provider.number facts
    → HasRead old caller id c clock held u facts
has_read {id = id} {c = c} {clock = clock} {held = held} {u = u} {facts = facts} of_clock of_row
    of_held of_facts known clock_is found are_held tells = record {
      known = known;
      clock_is = ap (λ (m : Content). m.clock) (sym of_clock) ∙ clock_is;
      found = ap (λ (m : Content). get m.versions id) (sym (of_row ∙ of_clock)) ∙ found;
      are_held = subst (λ m. AreHeld m clock u.version.held held) (of_held ∙ of_row ∙ of_clock)
          are_held;
      tells = subst (λ m. AreCommandFacts m c (subject_of u.version.subject)
          u.version.new_provider.number facts)
          (of_facts ∙ of_held ∙ of_row ∙ of_clock) tells;
    }

module _ (old : Content) (caller id : ℕ) (c : VersionCommand) (clock : ClockRow) (held : Windows)
    (u : Inside) (facts : CommandFacts)
    (has : HasRead old caller id c clock held u facts) where
  refused_read : (st : State) → Refines old st
      → AreSettled old st (RequestFrom caller (CommandRequest (OnVersion id c))) →
      refusal st (RequestFrom caller (CommandRequest (OnVersion id c)))
      ≡ version_refusal clock.present.windows clock.minute caller facts c
      (subject_of u.version.subject) (model_with_windows held u.version)
  refused_read st refines settled =
      refused_by_row old caller id c clock (version_row_of u) held u facts has.known has.clock_is
      has.found has.are_held refl st refines (id_settled old caller id c st settled)
      (facts_needed c st old (subject_of u.version.subject) u.version.new_provider.number facts
      refines
      (row_settled st old id (version_row_of u) refines.represents
      (id_settled old caller id c st settled) has.found) has.tells)

  pub answers_read : (new : Content) (k : ℕ) → new ≡ old →
      Some k ≡ version_refusal clock.present.windows clock.minute caller facts c
      (subject_of u.version.subject) (model_with_windows held u.version) →
      SimulatesSettledStep old new (RequestFrom caller (CommandRequest (OnVersion id c)))
      (refused_with k)
  answers_read new k same refused =
      answers_refused_same old new (RequestFrom caller (CommandRequest (OnVersion id c))) k same
      (λ st refines settled. refused_read st refines settled ∙ sym refused)

  pub answers_stepped : (new : Content) (all_carriers : List ℕ) (transition : Transition)
      (view : View) →
      None ≡ version_refusal clock.present.windows clock.minute caller facts c
      (subject_of u.version.subject) (model_with_windows held u.version) →
      IsTransition clock.present caller clock.minute c u.version transition
      → all_carriers ≡ keys old.carriers →
      AppliesChanges (transition_changes id clock.minute (sends_model transition.sends)
      (subject_of transition.version.subject)
      (model_with_windows clock.present.windows transition.version) all_carriers) old new →
      Views clock.present.windows clock id transition.version view →
      SimulatesSettledStep old new (RequestFrom caller (CommandRequest (OnVersion id c)))
      (Some (Shown (Some view)))
  answers_stepped new all_carriers transition view accepts steps are_all changed views =
      answers_accepted old new (RequestFrom caller (CommandRequest (OnVersion id c)))
      (Shown (Some view))
      each
    where
      s : Subject
      s = subject_of u.version.subject

      each : (st : State) → Refines old st
          → AreSettled old st (RequestFrom caller (CommandRequest (OnVersion id c)))
          → (refusal st (RequestFrom caller (CommandRequest (OnVersion id c))) ≡ None)
          × (Shown (Some view) ≡ answer_of st
          (accepted st (RequestFrom caller (CommandRequest (OnVersion id c))))
          (RequestFrom caller (CommandRequest (OnVersion id c))))
          × Refines new (accepted st (RequestFrom caller (CommandRequest (OnVersion id c))))
          × FramesUnchanged old new st (RequestFrom caller (CommandRequest (OnVersion id c)))
      each st refines settled = (
        none,
        stepped-answer st old new caller (CommandRequest (OnVersion id c)) s id change
            (sends_of st.now c)
            shown.0 all_carriers clock one refines due shown.1 has.clock_is none are_all put view
            seen_as,
        stepped-stands st old new caller (CommandRequest (OnVersion id c)) s id change
            (sends_of st.now c)
            shown.0 all_carriers clock one refines due shown.1 has.clock_is none are_all put,
        stepped-leaves st old new caller (CommandRequest (OnVersion id c)) s id change
            (sends_of st.now c)
            shown.0 all_carriers clock one refines due shown.1 has.clock_is none are_all put,
      )
        where
          by_id : IdSettled old st id
          by_id = id_settled old caller id c st settled

          due : IsSettled old st s
          due = row_settled st old id (version_row_of u) refines.represents by_id has.found

          shown : (v : Version) × (version_with id (record_now st s) ≡ Some v)
              × (version_row_of u ≡ row_of s v)
          shown = row_now st old id (version_row_of u) refines.represents by_id has.found

          same_clock : clock ≡ clock_of st
          same_clock = clock_is_of old st clock refines.represents has.clock_is

          now : clock.minute ≡ st.now
          now = ap (λ (k : ClockRow). k.minute) same_clock

          none : refusal st (RequestFrom caller (CommandRequest (OnVersion id c))) ≡ None
          none = refused_read st refines settled ∙ sym accepts

          change : Version → Version
          change = version_after_command (set_now st) caller st.now (record_now st s).carriers c

          before : HasModel u.version shown.0
          before = row_version s shown.0 u shown.2

          steps_now : IsTransition (set_now st) caller st.now c u.version transition
          steps_now =
              subst (λ (k : ClockRow). IsTransition k.present caller k.minute c u.version
              transition)
              same_clock steps

          subject : subject_of transition.version.subject ≡ s
          subject = ap subject_of (steps_now.version []).subject

          accepts_now : version_refusal (set_now st).windows st.now caller facts c s shown.0 ≡ None
          accepts_now = sym (command_refused st caller id c
              (record { subject = s; version = shown.0 }) (is_state old st refines)
              (known_is old caller id c st true refines has.known)
              (found_is st refines.represents.history s id shown.0 shown.1) facts
              (subst (λ (x : VersionRow). AreFactsNeeded c facts (has_open st s)
              (λ lrn. owns st lrn x.new_provider)) shown.2
              (facts_needed c st old s u.version.new_provider.number facts refines due has.tells)))
              ∙ none

          -- The version holds the present set after the command.
          after_is : version_of shown.0.id (change shown.0).broadcasts (set_now st).windows
              transition.version ≡ change shown.0
          after_is =
              ap (λ k. version_of k (change shown.0).broadcasts (set_now st).windows
              transition.version)
              (sym (change_id (set_now st) caller st.now (record_now st s).carriers c shown.0))
              ∙ ap (λ (set : WindowSet). version_of (change shown.0).id (change shown.0).broadcasts
              set.windows transition.version)
              (sym (change_holds (set_now st) (set_now st).windows st.now caller
              (record_now st s).carriers facts c s shown.0 accepts_now))
              ∙ subst (λ (x : Version). HasModel transition.version
              (version_after_command (set_now st) caller st.now (record_now st s).carriers c x))
              before
              ((steps_now.version (record_now st s).carriers).version shown.0.id shown.0.broadcasts
              shown.0.held.windows)

          fit : IsFit c shown.0
          fit = fits (set_now st).windows st.now caller facts c s shown.0 accepts_now

          one : StepsOne st caller (CommandRequest (OnVersion id c)) s id change (sends_of st.now c)
              shown.0
          one = record {
            leaves = command-leaves c caller id;
            names = command-names c id s;
            does = everywhere (λ v. refl) (record_now st s).versions;
            keeps = λ v. change_id (set_now st) caller st.now (record_now st s).carriers c v;
            stepped = change_stepped (set_now st) (windows-now old st refines.represents) caller
                st.now (record_now st s).carriers c shown.0 fit;
            changes = of_id_found st s id shown.0 shown.1;
          }

          put : AppliesChanges (transition_changes id st.now (sends_of st.now c) s (change shown.0)
              all_carriers) old
              new
          put = subst (λ (x : Version). AppliesChanges
              (transition_changes id st.now (sends_of st.now c) s x
              all_carriers) old new) after_is
              (by_parts (sends_of st.now c)
              (subst (λ a. AppliesChanges (transition_changes id st.now a s
              (model_with_windows (set_now st).windows transition.version) all_carriers) old new)
              steps_now.sends
              (subst (λ t. AppliesChanges
              (transition_changes id st.now (sends_model transition.sends) t
              (model_with_windows (set_now st).windows transition.version) all_carriers) old new)
              subject
              (subst (λ (k : ClockRow). AppliesChanges
              (transition_changes id k.minute (sends_model transition.sends)
              (subject_of transition.version.subject)
              (model_with_windows k.present.windows transition.version) all_carriers) old new)
              same_clock
              changed))))
            where
              -- The rows have neither the version's id nor its broadcasts.
              by_parts : (a : Option Send) → AppliesChanges
                  (transition_changes id st.now a s (model_with_windows (set_now st).windows
                  transition.version) all_carriers) old
                  new →
                  AppliesChanges (transition_changes id st.now a s
                  (version_of shown.0.id (change shown.0).broadcasts (set_now st).windows
                  transition.version) all_carriers) old new
              by_parts None changes = changes
              by_parts (Some Create) changes = changes
              by_parts (Some Delete) changes = changes
              by_parts (Some (Modify routing)) changes = changes

          after_it : State
          after_it = accepted st (RequestFrom caller (CommandRequest (OnVersion id c)))

          seen_as : view ≡ view_of after_it (record { subject = s; version = change shown.0 })
          seen_as =
              views after_it (change shown.0).broadcasts (sym now)
              ∙ ap (λ (k : ClockRow). view_of after_it
              (record {
                subject = subject_of transition.version.subject;
                version =
                    version_of id (change shown.0).broadcasts k.present.windows transition.version;
              }))
              same_clock
              ∙ ap (λ t. view_of after_it (record {
                subject = t;
                version = version_of id (change shown.0).broadcasts
                    (set_now st).windows transition.version;
              })) subject
              ∙ ap (λ k. view_of after_it (record {
                subject = s;
                version = version_of k (change shown.0).broadcasts
                    (set_now st).windows transition.version;
              }))
              (sym (id_found id (record_now st s).versions shown.0 shown.1))
              ∙ ap (λ x. view_of after_it (record { subject = s; version = x })) after_is
