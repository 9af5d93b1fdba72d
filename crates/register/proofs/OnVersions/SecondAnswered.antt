-- The answer to a second create and the content after it.
use Rattle.std.proofs.Common.{◌≡◌, ℕ, true, false, [], map, Some, None, refl, ap, sym, ◌∙◌, subst}
use Rattle.std.specs.Prelude.{◌==◌, option_map, if◌then◌else◌}
use Rattle.std.specs.List.{list_any}
use Rattle.numbers.specs.Subjects.{Subject, Number, Block, subject_eq}
use Rattle.numbers.specs.Abstraction.{subject_of}
use Rattle.model.specs.Versions.{Version, Record, is_open, version_with, open_version, last_version}
use Rattle.model.specs.Changes.{of_id}
use Rattle.model.specs.History.{Request, CommandRequest, subjects_made_by}
use Rattle.model.specs.State.{State, View, record_now, view_of, set_now, next_of, made_now}
use Rattle.model.specs.Conditions.{holds_of}
use Rattle.model.specs.Refusals.{RequestFrom, refusal}
use Rattle.model.specs.Machine.{Shown, accepted, answer_of, shown}
use Rattle.model.specs.Content.{Content, ClockRow, ClockRowMatches}
use Rattle.model.proofs.Creates.{if_holds, found_is_open, any_is_open}
use Rattle.model.proofs.Entered.{entered-elsewhere, next_id-same, none_elsewhere, sound_now, given_now, version_with-changed}
use Rattle.model.proofs.Shown.{id_found}
use Rattle.version.specs.declared.version.Version.{Version as VersionImpl}
use Rattle.version.specs.declared.create.Create.{Create as CreateImpl}
use Rattle.version.specs.declared.create.CreateFacts.{CreateFacts}
use Rattle.version.specs.declared.create.Created.TheVariants.{Second}
use Rattle.version.specs.Abstraction.{version_of, model_of, model_with_windows, Becomes, HasModel}
use Rattle.version.specs.Creates.{command_of, create_refusal, lacks, is_lacked, with_create, answered_by, IsCreated}
use Rattle.settle.specs.Changes.{AppliesChanges}
use Rattle.settle.specs.Settling.{IsSettled}
use Rattle.register.specs.Refinement.{Refines}
use Rattle.register.specs.Looking.{AreHeld, HasSet}
use Rattle.register.specs.Serving.{HasReadFacts, IsOpened}
use Rattle.model.specs.Windows.{Windows}
use Rattle.model.proofs.Sets.{IsSetOf, held-is, present-is}
use Rattle.register.proofs.EveryCall.HeldSets.{has_set, held-are, held_read, windows-now}
use Rattle.register.proofs.Records.Touched.{clock-stays}
use Rattle.register.specs.Settling.{SimulatesSettledStep, AreSettled, FramesUnchanged}
use Rattle.settle.specs.Sending.{version_changes}
use Rattle.register.proofs.EveryCall.Composed.{answers_accepted, Views}
use Rattle.register.proofs.OnVersions.OnVersion.{IsOnOne, clock_of, clock_is_of, on_version-stands, others_stay, shown_is}
use Rattle.settle.proofs.Passing.{sound_open}
use Rattle.register.proofs.Asking.Columns.{opened_is}
use Rattle.register.proofs.OnVersions.FirstCreate.{version_changes-are, create-subjects_made_by, create-concerns}
use Rattle.register.proofs.OnVersions.SecondCreate.{one_of, lacking-open, with_create-id, with_create-broadcasts, second-record, changed-quiet, with_create-holds, with_create-quiet, changed-shows}
use Rattle.model.proofs.HasCreate.{create_kept}
use Rattle.model.proofs.KeptVersions.{version_now}
use Rattle.register.proofs.EveryCall.Settled.{number_of_number, leaves_but}
use Rattle.register.proofs.OnVersions.Created.{create_settled, changes_number, refused_as, create-registry, id_or, reply_by, lacks_as, second_created, found_quiet}

module _ (st : State) (old new : Content) (caller : ℕ) (c : CreateImpl) (id : ℕ) (v : Version)
    (clock : ClockRow) (refines : Refines old st) (due : IsSettled old st (Number c.tn.number))
    (clock_is : old.clock ≡ Some clock)
    (none : refusal st (RequestFrom caller (CommandRequest (command_of c))) ≡ None)
    (opened : open_version (Number c.tn.number) (record_now st (Number c.tn.number)) ≡ Some v)
    (found : version_with id (record_now st (Number c.tn.number)) ≡ Some v)
    (lacking : lacks c.creator c.old_provider.number c.new_provider.number v ≡ true)
    (changed : AppliesChanges (version_changes id (Number c.tn.number)
    (with_create (set_now st) c.creator st.now
    v) None) old new) where
  abbrev s : Subject
  s = Number c.tn.number

  abbrev request : Request
  request = CommandRequest (command_of c)

  abbrev after_it : State
  after_it = accepted st (RequestFrom caller request)

  abbrev change : Version → Version
  change = with_create (set_now st) c.creator st.now

  abbrev second_record : Record
  second_record = record {
    carriers = (record_now st (Number c.tn.number)).carriers;
    versions = map (of_id id (with_create (set_now st) c.creator st.now))
        (record_now st (Number c.tn.number)).versions;
  }

  one_lacks : list_any (lacks c.creator c.old_provider.number c.new_provider.number)
      (record_now st s).versions ≡ true
  one_lacks = any_is_open s (lacks c.creator c.old_provider.number c.new_provider.number)
      (lacking-open c.creator c.tn.number c.old_provider.number c.new_provider.number)
      (record_now st s).versions (sound_now st refines.represents.history s)
      ∙ ap (holds_of (lacks c.creator c.old_provider.number c.new_provider.number)) opened ∙ lacking

  unmade : subjects_made_by request (record_now st) ≡ []
  unmade = create-subjects_made_by c.creator st c.tn.number c.old_provider.number
      c.new_provider.number
      c.due.number true one_lacks

  record_is : record_now after_it s ≡ second_record
  record_is = second-record st caller c.creator c.tn.number c.old_provider.number
      c.new_provider.number c.due.number id v unmade (given_now st refines.represents.history s)
      (one_of (lacks c.creator c.old_provider.number c.new_provider.number) (is_open s)
      (lacking-open c.creator c.tn.number c.old_provider.number c.new_provider.number)
      (record_now st s).versions (sound_open s (record_now st s).versions
      (sound_now st refines.represents.history s)))
      found lacking

  elsewhere : (t : Subject) → subject_eq s t ≡ false → record_now after_it t ≡ record_now st t
  elsewhere t apart =
      entered-elsewhere st caller request t unmade (create-concerns c.creator t c.tn.number
      c.old_provider.number c.new_provider.number c.due.number (record_now st t).versions apart)

  on_one : IsOnOne st caller request s id
  on_one = record {
    elsewhere = elsewhere;
    free = λ t apart. none_elsewhere st refines.represents.history s t id v found apart;
    last = λ b. ap (λ (r : Record). option_map (λ (x : Version). x.id) (last_version r))
        (elsewhere (Block b) refl);
  }

  clock_after : ClockRowMatches new.clock after_it
  clock_after = clock-stays st caller request
      (create-registry c.creator caller c.tn.number c.old_provider.number c.new_provider.number
      c.due.number).unset
      (next_id-same st caller request unmade) old new refines changed.clock

  second-stands : Refines new after_it
  second-stands =
      on_version-stands st old new caller request s id (version_changes id s (change v) None)
      second_record
      (create-registry c.creator caller c.tn.number c.old_provider.number c.new_provider.number
      c.due.number) refines none on_one clock_after (version_changes-are id (set_now st) s
      (change v) None)
      changed record_is
      (changed-shows (set_now st) s id change (with_create-id (set_now st) c.creator st.now) v
      (with_create-broadcasts (set_now st) c.creator st.now v) (record_now st s) None old new
      changed found due.rows_match)
      (changed-quiet (set_now st) st.now (made_now st) s id change
      (record_now st s).versions v (given_now st refines.represents.history s) found
      (with_create-quiet (set_now st) (windows-now old st refines.represents) c.creator
      c.old_provider.number c.new_provider.number st.now v
      (held-are st old refines.represents s id v found) lacking
      (version_now create_kept st refines.represents.history s id v found)
      (found_quiet (set_now st) st.now (λ u. u.id == id) (record_now st s).versions v found
      due.quiet))
      due.quiet)

  second-leaves : FramesUnchanged old new st (RequestFrom caller request)
  second-leaves = leaves_but old new st (RequestFrom caller request) s (changes_number st c)
      (others_stay st old new caller request s id (version_changes id s (change v) None)
      second_record
      (create-registry c.creator caller c.tn.number c.old_provider.number c.new_provider.number
      c.due.number) refines none on_one clock_after (version_changes-are id (set_now st) s
      (change v) None)
      changed)

  second-answer : (view : View) → view ≡ view_of after_it (record {
    subject = s;
    version =
        change v;
  }) → Shown (Some view) ≡ answer_of st after_it (RequestFrom caller request)
  second-answer view is =
      ap (λ x. Shown (Some x)) is
      ∙ sym (shown_is after_it s id (change v) second-stands.represents.history
      (ap (version_with id) record_is ∙ version_with-changed id change
      (with_create-id (set_now st) c.creator st.now) (record_now st s).versions v found))
      ∙ ap (shown after_it) (sym (id_found id (record_now st s).versions v found))
      ∙ ap (λ o. shown after_it (id_or o (next_of st)))
      (sym (found_is_open s (lacks c.creator c.old_provider.number c.new_provider.number)
      (lacking-open c.creator c.tn.number c.old_provider.number c.new_provider.number)
      (record_now st s).versions (sound_now st refines.represents.history s)
      ∙ ap (if_holds (lacks c.creator c.old_provider.number c.new_provider.number)) opened
      ∙ ap (λ b. if b then Some v else None) lacking))
      ∙ sym (reply_by c.creator st after_it caller c.tn.number c.old_provider.number
      c.new_provider.number c.due.number)

answers_open : (old new : Content) (caller : ℕ) (c : CreateImpl) (clock : ClockRow)
    (id : ℕ) (u : VersionImpl) (facts : CreateFacts) (m : VersionImpl) (w : Windows)
    (view : View) → (has : HasReadFacts old caller c clock facts) → has.opened ≡ Some (id, u)
    → None ≡ create_refusal clock.present.windows clock.minute caller c facts
    → is_lacked c (model_of u) ≡ true → Becomes (with_create clock.present c.creator clock.minute) u
    m →
    AreHeld old clock m.held w
    → AppliesChanges (version_changes id (subject_of m.subject) (model_with_windows w m) None)
    old new → Views w clock id m view →
    SimulatesSettledStep old new (RequestFrom caller (CommandRequest (command_of c)))
    (Some (Shown (Some view)))
answers_open old new caller c clock id u facts m w view has opened accepts lacked becomes are_held
    changed views =
    answers_accepted old new (RequestFrom caller (CommandRequest (command_of c)))
    (Shown (Some view)) each
  where
    each : (st : State) → Refines old st
        → AreSettled old st (RequestFrom caller (CommandRequest (command_of c)))
        → (refusal st (RequestFrom caller (CommandRequest (command_of c))) ≡ None)
        × (Shown (Some view) ≡ answer_of st
        (accepted st (RequestFrom caller (CommandRequest (command_of c))))
        (RequestFrom caller (CommandRequest (command_of c))))
        × Refines new (accepted st (RequestFrom caller (CommandRequest (command_of c))))
        × FramesUnchanged old new st (RequestFrom caller (CommandRequest (command_of c)))
    each st refines settled = (
      none,
      second-answer st old new caller c id found.0 clock refines due has.clock_is none found.1
          found.2 lacking change view
          (views after_it (changed_one found.0).broadcasts (sym now)
          ∙ ap (λ t. view_of after_it (record
          { subject = t; version = version_of id (changed_one found.0).broadcasts w m }))
          subject
          ∙ ap (λ k. view_of after_it (record {
            subject = Number c.tn.number;
            version =
                version_of k (changed_one found.0).broadcasts w m;
          }))
          (sym (id_found id (record_now st (Number c.tn.number)).versions found.0 found.2))
          ∙ ap (λ x. view_of after_it (record { subject = Number c.tn.number; version = x }))
          version),
      second-stands st old new caller c id found.0 clock refines due has.clock_is none found.1
          found.2 lacking change,
      second-leaves st old new caller c id found.0 clock refines due has.clock_is none found.1
          found.2 lacking change,
    )
      where
        after_it : State
        after_it = accepted st (RequestFrom caller (CommandRequest (command_of c)))

        due : IsSettled old st (Number c.tn.number)
        due = create_settled old st caller c settled (Number c.tn.number)
            (number_of_number st c.tn.number)

        found : (v : Version)
            × (open_version (Number c.tn.number) (record_now st (Number c.tn.number)) ≡ Some v)
            × (version_with id (record_now st (Number c.tn.number)) ≡ Some v) × (HasModel u v)
            × (subject_of u.subject ≡ Number c.tn.number)
        found = opened_is st old (Number c.tn.number) (Some (id, u)) refines due
            (subst (IsOpened old (Number c.tn.number)) opened has.is_opened)

        same_clock : clock ≡ clock_of st
        same_clock = clock_is_of old st clock refines.represents has.clock_is

        now : clock.minute ≡ st.now
        now = ap (λ (k : ClockRow). k.minute) same_clock

        none : refusal st (RequestFrom caller (CommandRequest (command_of c))) ≡ None
        none = refused_as st old caller c clock facts has refines settled
            ∙ sym accepts

        lacking : lacks c.creator c.old_provider.number c.new_provider.number found.0 ≡ true
        lacking = lacks_as c u found.0 found.3 ∙ lacked

        subject : subject_of m.subject ≡ Number c.tn.number
        subject = ap subject_of becomes.subject ∙ found.4

        changed_one : Version → Version
        changed_one = with_create (set_now st) c.creator st.now

        becomes_now : Becomes (with_create (set_now st) c.creator st.now) u m
        becomes_now = subst (λ (k : ClockRow). Becomes (with_create k.present c.creator k.minute) u
            m) same_clock becomes

        seen_after : HasModel m (changed_one found.0)
        seen_after =
            subst (λ (x : Version). HasModel m (with_create (set_now st) c.creator st.now x))
            found.3
            (becomes_now.version found.0.id found.0.broadcasts found.0.held.windows)

        its_set : IsSetOf st.windows st.history (changed_one found.0).held
        its_set = with_create-holds (IsSetOf st.windows st.history) (set_now st) c.creator st.now
            found.0 (present-is st.windows st.history)
            (held-is st refines.represents.history (Number c.tn.number) id found.0 found.2)

        its_windows : w ≡ (changed_one found.0).held.windows
        its_windows = held_read st old clock refines.represents has.clock_is
            (changed_one found.0).held its_set w
            (subst (λ k. AreHeld old clock k w) (ap (λ (x : Version). x.held.number) seen_after)
            are_held)

        version : version_of found.0.id (changed_one found.0).broadcasts w m ≡ changed_one found.0
        version =
            ap (λ k. version_of k (changed_one found.0).broadcasts w m)
            (sym (with_create-id (set_now st) c.creator st.now found.0))
            ∙ ap (λ ws. version_of (changed_one found.0).id (changed_one found.0).broadcasts ws m)
            its_windows ∙ seen_after

        change : AppliesChanges (version_changes id (Number c.tn.number)
            (with_create (set_now st) c.creator st.now found.0) None) old new
        change = subst (λ (x : Version). AppliesChanges (version_changes id (Number c.tn.number) x
            None) old new)
            version
            (subst (λ t. AppliesChanges (version_changes id t (model_with_windows w m) None) old
            new) subject changed)

pub answers_second : (old new : Content) (caller : ℕ) (c : CreateImpl) (clock : ClockRow)
    (facts : CreateFacts) (id : ℕ) (m : VersionImpl) (w : Windows) (view : View)
    → HasReadFacts old caller c clock facts
    → None ≡ create_refusal clock.present.windows clock.minute caller c facts
    → IsCreated clock.present clock.minute c (answered_by c facts.opened) (Second id m) →
    AreHeld old clock m.held w
    → AppliesChanges (version_changes id (subject_of m.subject) (model_with_windows w m) None)
    old new → Views w clock id m view →
    SimulatesSettledStep old new (RequestFrom caller (CommandRequest (command_of c)))
    (Some (Shown (Some view)))
answers_second old new caller c clock facts id m w view has accepts created are_held changed
    views =
    answers_open old new caller c clock id second.0 facts m w view has
    (sym has.read.opened ∙ second.1) accepts second.2 second.3 are_held changed views
  where
    second : (u : VersionImpl) × (facts.opened ≡ Some (id, u)) × (is_lacked c (model_of u) ≡ true) ×
        Becomes (with_create clock.present c.creator clock.minute) u m
    second = second_created clock.present clock.minute c facts.opened id m created

-- The set that the version then holds has windows.
pub second_has_set : (old : Content) (caller : ℕ) (c : CreateImpl) (clock : ClockRow)
    (facts : CreateFacts) (id : ℕ) (m : VersionImpl) → HasReadFacts old caller c clock facts →
    IsCreated clock.present clock.minute c (answered_by c facts.opened) (Second id m) →
    (st : State) → Refines old st
    → AreSettled old st (RequestFrom caller (CommandRequest (command_of c))) →
    HasSet old clock m.held
second_has_set old caller c clock facts id m has created st refines settled =
    subst (λ k. HasSet old clock k) (sym (ap (λ (x : Version). x.held.number) seen_after))
    (has_set st old clock refines.represents has.clock_is
    (with_create (set_now st) c.creator st.now found.0).held its_set)
  where
    second : (u : VersionImpl) × (facts.opened ≡ Some (id, u)) × (is_lacked c (model_of u) ≡ true)
        × Becomes (with_create clock.present c.creator clock.minute) u m
    second = second_created clock.present clock.minute c facts.opened id m created

    due : IsSettled old st (Number c.tn.number)
    due = create_settled old st caller c settled (Number c.tn.number)
        (number_of_number st c.tn.number)

    found : (v : Version) × (open_version (Number c.tn.number) (record_now st (Number c.tn.number))
        ≡ Some v) × (version_with id (record_now st (Number c.tn.number)) ≡ Some v) ×
        (HasModel second.0 v) × (subject_of second.0.subject ≡ Number c.tn.number)
    found = opened_is st old (Number c.tn.number) (Some (id, second.0)) refines due
        (subst (λ o. IsOpened old (Number c.tn.number) o) (sym has.read.opened ∙ second.1)
        has.is_opened)

    same_clock : clock ≡ clock_of st
    same_clock = clock_is_of old st clock refines.represents has.clock_is

    becomes_now : Becomes (with_create (set_now st) c.creator st.now) second.0 m
    becomes_now = subst (λ (k : ClockRow). Becomes (with_create k.present c.creator k.minute)
        second.0 m) same_clock second.3

    seen_after : HasModel m (with_create (set_now st) c.creator st.now found.0)
    seen_after = subst (λ (x : Version). HasModel m (with_create (set_now st) c.creator st.now x))
        found.3
        (becomes_now.version found.0.id found.0.broadcasts found.0.held.windows)

    its_set : IsSetOf st.windows st.history (with_create (set_now st) c.creator st.now found.0).held
    its_set = with_create-holds (IsSetOf st.windows st.history) (set_now st) c.creator st.now
        found.0 (present-is st.windows st.history)
        (held-is st refines.represents.history (Number c.tn.number) id found.0 found.2)
