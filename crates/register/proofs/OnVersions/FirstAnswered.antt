-- The answer to a first create and the content after it.
use Rattle.std.proofs.Common.{◌≡◌, ℕ, ◌+◌, ◌≤◌, false, cond, [], ◌∷◌, Some, None, refl, ap, sym, ◌∙◌, subst}
use Rattle.std.specs.Prelude.{◌==◌, option_map}
use Rattle.std.specs.List.{list_any}
use Rattle.numbers.specs.Subjects.{Subject, Number, Block, subject_eq}
use Rattle.numbers.specs.Abstraction.{subject_of}
use Rattle.model.specs.Versions.{Version, Record, version_with, open_version, last_version}
use Rattle.model.specs.History.{Request, CommandRequest, made_version, subjects_made_by, donor_of, assigned_block}
use Rattle.model.specs.State.{State, View, record_now, view_of, set_now, next_of}
use Rattle.model.specs.Conditions.{limit, holds_of}
use Rattle.model.specs.Refusals.{RequestFrom, refusal}
use Rattle.model.specs.Machine.{Shown, accepted, answer_of, shown}
use Rattle.model.specs.Content.{Content, ClockRow, ClockRowMatches}
use Rattle.model.proofs.Creates.{found_is_open, any_is_open}
use Rattle.model.proofs.Entered.{entered-ids, next_id-below, sound_now}
use Rattle.version.specs.declared.version.Version.{Version as VersionImpl}
use Rattle.version.specs.declared.create.Create.{Create as CreateImpl}
use Rattle.version.specs.declared.create.CreateFacts.{CreateFacts}
use Rattle.version.specs.declared.create.Created.TheVariants.{First}
use Rattle.version.specs.Abstraction.{version_of, model_with_windows}
use Rattle.version.specs.Creates.{command_of, create_refusal, lacks, answered_by, IsMade, IsCreated}
use Rattle.settle.specs.Changes.{AppliesChanges, ClockMove}
use Rattle.settle.specs.Settling.{IsSettled}
use Rattle.register.specs.Refinement.{Refines}
use Rattle.register.specs.Serving.{HasReadFacts}
use Rattle.register.specs.Settling.{SimulatesSettledStep, AreSettled, FramesUnchanged}
use Rattle.settle.specs.Sending.{version_changes}
use Rattle.register.proofs.EveryCall.Composed.{answers_accepted, Views}
use Rattle.register.proofs.OnVersions.OnVersion.{IsOnOne, clock_of, clock_is_of, on_version-stands, others_stay, shown_is}
use Rattle.register.proofs.OnVersions.FactsRead.{facts_are}
use Rattle.register.proofs.Records.Touched.{clock-moves}
use Rattle.register.proofs.EveryCall.HeldSets.{windows-now}
use Rattle.register.proofs.OnVersions.FirstCreate.{made-record, made-elsewhere, next_is_free, version_changes-are, made-shows, made-quiet, made-id, made-unsent, create-leaves, create-subjects_made_by, create-concerns}
use Rattle.register.proofs.OnVersions.SecondCreate.{lacking-open, create-carrier}
use Rattle.register.proofs.EveryCall.Settled.{number_of_number, leaves_but}
use Rattle.register.proofs.OnVersions.Created.{create_settled, changes_number, refused_as, create-registry, id_or, reply_by, none_answers, if_holds-none, first_created}
use Rattle.numbers.proofs.Small.{same_number}

module _ (st : State) (old new : Content) (caller : ℕ) (c : CreateImpl) (next : ClockMove)
    (refines : Refines old st) (due : IsSettled old st (Number c.tn.number))
    (none : refusal st (RequestFrom caller (CommandRequest (command_of c))) ≡ None)
    (lacking : holds_of (lacks c.creator c.old_provider.number c.new_provider.number)
    (open_version (Number c.tn.number) (record_now st (Number c.tn.number))) ≡ false)
    (next_is : next ≡ record { minute = st.now; next_id = next_of st + 1 }) where
  abbrev s : Subject
  s = Number c.tn.number

  abbrev request : Request
  request = CommandRequest (command_of c)

  abbrev after_it : State
  after_it = accepted st (RequestFrom caller request)

  abbrev id : ℕ
  id = next_of st

  abbrev made : Version
  made = made_version (set_now st) (next_of st) caller st.now
      (record_now st (Number c.tn.number)).carriers
      (donor_of (assigned_block (CommandRequest (command_of c))) st.history)
      (CommandRequest (command_of c))

  abbrev first_record : Record
  first_record = record {
    carriers = (record_now st (Number c.tn.number)).carriers;
    versions = made ∷ (record_now st (Number c.tn.number)).versions;
  }

  none_lacks : list_any (lacks c.creator c.old_provider.number c.new_provider.number)
      (record_now st s).versions ≡ false
  none_lacks = any_is_open s (lacks c.creator c.old_provider.number c.new_provider.number)
      (lacking-open c.creator c.tn.number c.old_provider.number c.new_provider.number)
      (record_now st s).versions (sound_now st refines.represents.history s) ∙ lacking

  one_made : subjects_made_by request (record_now st) ≡ s ∷ []
  one_made = create-subjects_made_by c.creator st c.tn.number c.old_provider.number
      c.new_provider.number
      c.due.number false none_lacks

  record_is : record_now after_it s ≡ first_record
  record_is =
      made-record st caller request s one_made (create-carrier c.creator c.tn.number
      c.old_provider.number c.new_provider.number c.due.number)
      (create-leaves (set_now st) c.creator s caller st.now c.tn.number c.old_provider.number
      c.new_provider.number c.due.number (record_now st s).carriers (record_now st s).versions
      none_lacks)

  elsewhere : (t : Subject) → subject_eq s t ≡ false → record_now after_it t ≡ record_now st t
  elsewhere t apart =
      made-elsewhere st caller request s one_made t apart (create-concerns c.creator t c.tn.number
      c.old_provider.number c.new_provider.number c.due.number (record_now st t).versions apart)

  on_one : IsOnOne st caller request s id
  on_one = record {
    elsewhere = elsewhere;
    free = λ t apart. next_is_free st refines.represents.history t;
    last = λ b. ap (λ (r : Record). option_map (λ (v : Version). v.id) (last_version r))
        (elsewhere (Block b) refl);
  }

  module _ (changed : AppliesChanges (version_changes (next_of st) (Number c.tn.number) made
      (Some next)) old new) where
    clock_after : ClockRowMatches new.clock after_it
    clock_after = clock-moves st caller request
        (create-registry c.creator caller c.tn.number c.old_provider.number c.new_provider.number
        c.due.number).unset old new refines next changed.clock
        (next_is ∙ ap (λ k. let m : ClockMove = record { minute = st.now; next_id = k } in m)
        (sym (entered-ids st caller request (s ∷ []) one_made)))

    first-stands : Refines new after_it
    first-stands =
        on_version-stands st old new caller request s id (version_changes id s made (Some next))
        first_record
        (create-registry c.creator caller c.tn.number c.old_provider.number c.new_provider.number
        c.due.number) refines none on_one clock_after (version_changes-are id (set_now st) s made
        (Some next)) changed record_is
        (made-shows (set_now st) s id made (record_now st s) (Some next) old new changed
        (made-id (set_now st) c.creator id caller st.now c.tn.number c.old_provider.number
        c.new_provider.number c.due.number (record_now st s).carriers
        (donor_of (assigned_block request) st.history))
        (made-unsent (set_now st) c.creator id caller st.now c.tn.number c.old_provider.number
        c.new_provider.number c.due.number (record_now st s).carriers
        (donor_of (assigned_block request) st.history))
        (next_is_free st refines.represents.history s) due.rows_match) (
          made-quiet (set_now st) (windows-now old st refines.represents) c.creator id caller st.now
              c.tn.number c.old_provider.number c.new_provider.number c.due.number
              (record_now st s).carriers (donor_of (assigned_block request) st.history),
          due.quiet,
        )

    first-leaves : FramesUnchanged old new st (RequestFrom caller request)
    first-leaves = leaves_but old new st (RequestFrom caller request) s (changes_number st c)
        (others_stay st old new caller request s id (version_changes id s made (Some next))
        first_record
        (create-registry c.creator caller c.tn.number c.old_provider.number c.new_provider.number
        c.due.number) refines none on_one clock_after (version_changes-are id (set_now st) s made
        (Some next)) changed)

    in_front : version_with id (record_now after_it s) ≡ Some made
    in_front = ap (version_with id) record_is
        ∙ ap (λ k. cond (k == id) (Some made) (version_with id (record_now st s)))
        (made-id (set_now st) c.creator id caller st.now c.tn.number c.old_provider.number
        c.new_provider.number c.due.number (record_now st s).carriers
        (donor_of (assigned_block request) st.history))
        ∙ ap (λ b. cond b (Some made) (version_with id (record_now st s))) (same_number id)

    first-answer : (view : View) → view ≡ view_of after_it (record { subject = s; version = made })
        → Shown (Some view) ≡ answer_of st after_it (RequestFrom caller request)
    first-answer view is =
        ap (λ x. Shown (Some x)) is
        ∙ sym (shown_is after_it s id made first-stands.represents.history in_front)
        ∙ ap (λ o. shown after_it (id_or o id))
        (sym (found_is_open s (lacks c.creator c.old_provider.number c.new_provider.number)
        (lacking-open c.creator c.tn.number c.old_provider.number c.new_provider.number)
        (record_now st s).versions (sound_now st refines.represents.history s)
        ∙ if_holds-none (lacks c.creator c.old_provider.number c.new_provider.number)
        (open_version s (record_now st s)) lacking))
        ∙ sym (reply_by c.creator st after_it caller c.tn.number c.old_provider.number
        c.new_provider.number c.due.number)

pub answers_first : (old new : Content) (caller : ℕ) (c : CreateImpl) (clock : ClockRow)
    (next : ClockMove) (facts : CreateFacts) (m : VersionImpl) (view : View) →
    HasReadFacts old caller c clock facts → None
    ≡ create_refusal clock.present.windows clock.minute caller c facts →
    IsCreated clock.present clock.minute c (answered_by c facts.opened) (First m) →
    (clock.next_id ≤ limit → next ≡ record { minute = clock.minute; next_id = clock.next_id + 1 }) →
    AppliesChanges (version_changes clock.next_id (subject_of m.subject)
    (model_with_windows clock.present.windows m)
    (Some next)) old new →
    Views clock.present.windows clock clock.next_id m view →
    SimulatesSettledStep old new (RequestFrom caller (CommandRequest (command_of c)))
    (Some (Shown (Some view)))
answers_first old new caller c clock next facts m view has accepts created next_is changed views =
    answers_accepted old new (RequestFrom caller (CommandRequest (command_of c)))
    (Shown (Some view)) each
  where
    first : (answered_by c facts.opened ≡ None) × IsMade clock.present clock.minute c m
    first = first_created clock.present clock.minute c (answered_by c facts.opened) m created

    each : (st : State) → Refines old st
        → AreSettled old st (RequestFrom caller (CommandRequest (command_of c)))
        → (refusal st (RequestFrom caller (CommandRequest (command_of c))) ≡ None)
        × (Shown (Some view) ≡ answer_of st
        (accepted st (RequestFrom caller (CommandRequest (command_of c))))
        (RequestFrom caller (CommandRequest (command_of c))))
        × Refines new (accepted st (RequestFrom caller (CommandRequest (command_of c))))
        × FramesUnchanged old new st (RequestFrom caller (CommandRequest (command_of c)))
    each st refines settled = (
      none,
      first-answer st old new caller c next refines due none lacking next_now change view
          (views after_it [] (sym now)
          ∙ ap (λ t. view_of after_it (record
          { subject = t; version = version_of clock.next_id [] clock.present.windows m }))
          first.1.subject
          ∙ ap (λ (k : ClockRow). view_of after_it
          (record {
            subject = Number c.tn.number;
            version =
                version_of k.next_id [] k.present.windows m;
          })) same_clock
          ∙ ap (λ x. view_of after_it (record { subject = Number c.tn.number; version = x }))
          version),
      first-stands st old new caller c next refines due none lacking next_now change,
      first-leaves st old new caller c next refines due none lacking next_now change,
    )
      where
        after_it : State
        after_it = accepted st (RequestFrom caller (CommandRequest (command_of c)))

        due : IsSettled old st (Number c.tn.number)
        due = create_settled old st caller c settled (Number c.tn.number)
            (number_of_number st c.tn.number)

        same_clock : clock ≡ clock_of st
        same_clock = clock_is_of old st clock refines.represents has.clock_is

        now : clock.minute ≡ st.now
        now = ap (λ (k : ClockRow). k.minute) same_clock

        the_id : clock.next_id ≡ next_of st
        the_id = ap (λ (k : ClockRow). k.next_id) same_clock

        none : refusal st (RequestFrom caller (CommandRequest (command_of c))) ≡ None
        none = refused_as st old caller c clock facts has refines settled
            ∙ sym accepts

        lacking : holds_of (lacks c.creator c.old_provider.number c.new_provider.number)
            (open_version (Number c.tn.number) (record_now st (Number c.tn.number))) ≡ false
        lacking = none_answers c facts.opened (open_version (Number c.tn.number)
            (record_now st (Number c.tn.number)))
            (facts_are st old caller c clock facts refines (create_settled old st caller c settled)
            has).opened first.0

        below : clock.next_id ≤ limit
        below = subst (λ k. k ≤ limit) (sym the_id) (next_id-below st.windows st.history st.now
            refines.represents.history)

        next_now : next ≡ record { minute = st.now; next_id = next_of st + 1 }
        next_now = next_is below ∙ ap (λ (k : ClockRow). let x : ClockMove =
            record { minute = k.minute; next_id = k.next_id + 1 } in x) same_clock

        is_made : IsMade (set_now st) st.now c m
        is_made = subst (λ (k : ClockRow). IsMade k.present k.minute c m) same_clock first.1

        version : version_of (next_of st) [] (set_now st).windows m
            ≡ made_version (set_now st) (next_of st) caller st.now
            (record_now st (Number c.tn.number)).carriers
            (donor_of (assigned_block (CommandRequest (command_of c))) st.history)
            (CommandRequest (command_of c))
        version = is_made.version (next_of st) caller
            (record_now st (Number c.tn.number)).carriers
            (donor_of (assigned_block (CommandRequest (command_of c))) st.history)

        change : AppliesChanges (version_changes (next_of st) (Number c.tn.number)
            (made_version (set_now st) (next_of st) caller st.now
            (record_now st (Number c.tn.number)).carriers
            (donor_of (assigned_block (CommandRequest (command_of c))) st.history)
            (CommandRequest (command_of c))) (Some next)) old new
        change = subst (λ (x : Version). AppliesChanges (version_changes (next_of st)
            (Number c.tn.number) x (Some next)) old new) version
            (subst (λ t. AppliesChanges (version_changes (next_of st) t
            (model_with_windows (set_now st).windows m) (Some next)) old new) first.1.subject
            (subst (λ (k : ClockRow). AppliesChanges
            (version_changes k.next_id (subject_of m.subject) (model_with_windows k.present.windows
            m) (Some next))
            old new) same_clock changed))
