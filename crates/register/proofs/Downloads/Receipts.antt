-- The contract of an acknowledgement at each of its exits, by what its code reads.
use Rattle.std.proofs.Common.{◌≡◌, inl, inr, ℕ, Bool, true, false, ◌&&◌, List, [], ◌∷◌, ◌++◌, Option, Some, None, refl, ap, sym, ◌∙◌, subst}
use Rattle.std.specs.Prelude.{◌⊎◌, ◌==◌, nat_lt, is_some, find, if◌then◌else◌, Result, Ok, Err, IfOk, IfErr}
use Rattle.std.specs.FinMap.{get}
use Rattle.numbers.specs.Subjects.{Subject}
use Rattle.numbers.specs.Abstraction.{subject_of}
use Rattle.model.specs.Abstraction.{status_of}
use Rattle.model.specs.declared.words.Outcome.TheVariants.{Open, SomeAcknowledged}
use Rattle.model.specs.Versions.{Broadcast, Version, sends_create, version_with}
use Rattle.model.specs.History.{AcknowledgementRequest}
use Rattle.model.specs.State.{State, View, record_now, view_of, set_now, made_now}
use Rattle.model.specs.declared.refusal.Refusal.{Refusal}
use Rattle.model.specs.RefusalNumbers.{number_of}
use Rattle.model.specs.Refusals.{Input, RequestFrom, refusal}
use Rattle.model.specs.Machine.{Shown, accepted, answer_of}
use Rattle.model.specs.Content.{Content, VersionRow, BroadcastRow, ClockRow, WaitKey, row_of, broadcast_key, wait_key}
use Rattle.model.proofs.Shown.{id_found, some_is}
use Rattle.version.specs.declared.version.Version.{Version as VersionImpl}
use Rattle.version.specs.Abstraction.{version_of, model_with_windows, Becomes, HasModel}
use Rattle.delivery.specs.declared.download.DownloadKey.{DownloadKey}
use Rattle.delivery.specs.Queues.{is_key, key_refusal}
use Rattle.delivery.specs.Broadcasts.{after_acknowledgement, broadcast_row}
use Rattle.settle.specs.declared.rows.NumberedRow.{NumberedRow}
use Rattle.settle.specs.declared.rows.VersionRow.TheInside.{Inside}
use Rattle.settle.specs.Abstraction.{version_row_of}
use Rattle.settle.specs.Reads.{AreWaitsAbout, is_last_wait}
use Rattle.settle.specs.Changes.{Changes, AppliesChanges}
use Rattle.settle.specs.Settling.{IsSettled}
use Rattle.register.specs.Refinement.{Refines}
use Rattle.register.specs.Settling.{SimulatesSettledStep, AreSettled, FramesUnchanged}
use Rattle.register.proofs.EveryCall.Settled.{IdSettled, row_now, row_settled}
use Rattle.requests.specs.Calls.{refused_with}
use Rattle.settle.specs.Fired.{retired_rows, IsSuperseded}
use Rattle.version.specs.Acknowledging.{is_sending, completed_if, completes}
use Rattle.register.specs.Acknowledging.{answered_row, own_rows, acknowledgement_changes, IsFound, IsAcknowledged, IsAcknowledgedBy, IsAcknowledgedAs, all_changes, windows_after}
use Rattle.register.specs.Deciding.{Decides}
use Rattle.requests.specs.declared.call.Reply.{Reply}
use Rattle.register.specs.Looking.{AreHeld}
use Rattle.register.proofs.EveryCall.HeldSets.{row_held, same_set}
use Rattle.model.specs.Changes.{completed}
use Rattle.model.specs.Statuses.{Status, Pending, Conflict, CancelPending, Sending, Active, PartialFailure, Failed, DisconnectPending, Old, Canceled}
use Rattle.model.specs.Windows.{Windows, WindowSet}
use Rattle.model.proofs.Sets.{held-is}
use Rattle.numbers.proofs.Small.{same_number, equal_number}
use Rattle.register.proofs.EveryCall.Composed.{answers_refused_same, answers_accepted, answers_without}
use Rattle.register.proofs.OnVersions.OnVersion.{clock_of, clock_is_of}
use Rattle.register.proofs.OnVersions.RowVersion.{row_version}
use Rattle.model.proofs.Entered.{given_now}
use Rattle.settle.proofs.KeptRows.{retired_read, puts_of, the_replaced}
use Rattle.register.proofs.Asking.Alone.{one_in_force}
use Rattle.register.proofs.Downloads.Queued.{IsAwaited, found-awaited, refused_unknown, refused_not_found, refused_by_keys}
use Rattle.register.proofs.Downloads.Answering.{answered_all, row_was}
use Rattle.register.proofs.Downloads.Acknowledged.{broadcast_there, broadcast_read, acknowledged-stands, acknowledged-leaves, acknowledged-answer}

-- Downloads read of a content equal to the old one are pending in the old one.
pub waits_read : (old read : Content) (carrier : ℕ) (s : Subject) (found slice : List DownloadKey)
    → read ≡ old → slice ≡ found → AreWaitsAbout read carrier s found
    → AreWaitsAbout old carrier s slice
waits_read old read carrier s found slice same is waits =
    subst (λ m. AreWaitsAbout m carrier s slice) same
    (subst (AreWaitsAbout read carrier s) (sym is) waits)

-- ---- rows of the code

-- A broadcast's row after one more acknowledgement.
pub answered_seen : (row after : BroadcastRow) (closes : Bool)
    → ((s : Subject) (b : Broadcast) (c : ℕ) → row ≡ broadcast_row s b
    → after ≡ broadcast_row s (after_acknowledgement c closes b)) → after ≡ answered_row closes row
answered_seen row after closes gives = by_cases row.is_open refl row.any refl closes gives
  where
    with_both : (is_open any : Bool) → row.is_open ≡ is_open → row.any ≡ any
        → row ≡ record row { is_open = is_open; any = any }
    with_both is_open any e f = ap (λ o. let x : BroadcastRow = record row { is_open = o } in
        x) e ∙ ap (λ a. let x : BroadcastRow = record row { is_open = is_open; any = a } in x) f

    one : (is_open any : Bool) → Broadcast
    one is_open any = record {
      attempt = 0;
      minute = row.minute;
      action = row.action;
      routing = row.routing;
      recipients = [];
      acknowledged = if any then 0 ∷ [] else [];
      outcome = if is_open then Open else SomeAcknowledged;
    }

    by_cases : (is_open : Bool) → row.is_open ≡ is_open → (any : Bool) → row.any ≡ any → (k : Bool)
        →
        ((s : Subject) (b : Broadcast) (c : ℕ) → row ≡ broadcast_row s b
        → after ≡ broadcast_row s (after_acknowledgement c k b)) → after ≡ answered_row k row
    by_cases true e true f true gives =
        gives row.subject (one true true) 0 (with_both true true e f)
        ∙ sym (ap (answered_row true) (with_both true true e f))
    by_cases true e true f false gives =
        gives row.subject (one true true) 0 (with_both true true e f)
        ∙ sym (ap (answered_row false) (with_both true true e f))
    by_cases true e false f true gives =
        gives row.subject (one true false) 0 (with_both true false e f)
        ∙ sym (ap (answered_row true) (with_both true false e f))
    by_cases true e false f false gives =
        gives row.subject (one true false) 0 (with_both true false e f)
        ∙ sym (ap (answered_row false) (with_both true false e f))
    by_cases false e true f true gives =
        gives row.subject (one false true) 0 (with_both false true e f)
        ∙ sym (ap (answered_row true) (with_both false true e f))
    by_cases false e true f false gives =
        gives row.subject (one false true) 0 (with_both false true e f)
        ∙ sym (ap (answered_row false) (with_both false true e f))
    by_cases false e false f true gives =
        gives row.subject (one false false) 0 (with_both false false e f)
        ∙ sym (ap (answered_row true) (with_both false false e f))
    by_cases false e false f false gives =
        gives row.subject (one false false) 0 (with_both false false e f)
        ∙ sym (ap (answered_row false) (with_both false false e f))

-- ---- refusals

pub answers_unknown : (old new : Content) (caller id attempt : ℕ) → new ≡ old
    → is_some (get old.carriers caller) ≡ false
    → SimulatesSettledStep old new (RequestFrom caller (AcknowledgementRequest id attempt))
    (refused_with 1)
answers_unknown old new caller id attempt same unknown =
    answers_refused_same old new (RequestFrom caller (AcknowledgementRequest id attempt)) 1 same
    (λ st refines settled. refused_unknown old caller id attempt st refines unknown)

pub answers_not_found : (old new : Content) (caller id attempt : ℕ) → new ≡ old
    → is_some (get old.carriers caller) ≡ true → get old.versions id ≡ None →
    SimulatesSettledStep old new (RequestFrom caller (AcknowledgementRequest id attempt))
    (refused_with 10)
answers_not_found old new caller id attempt same known none =
    answers_refused_same old new (RequestFrom caller (AcknowledgementRequest id attempt)) 10 same
    (λ st refines settled. refused_not_found old caller id attempt st refines known none)

pub answers_by_keys : (old new : Content) (caller id attempt : ℕ) (row : VersionRow) (u : Inside)
    (keys : List DownloadKey) (k : ℕ) → new ≡ old → is_some (get old.carriers caller) ≡ true →
    get old.versions id ≡ Some row → version_row_of u ≡ row
    → AreWaitsAbout old caller (subject_of u.version.subject) keys
    → Some k ≡ key_refusal keys id attempt →
    SimulatesSettledStep old new (RequestFrom caller (AcknowledgementRequest id attempt))
    (refused_with k)
answers_by_keys old new caller id attempt row u keys k same known found is waits refused =
    answers_refused_same old new (RequestFrom caller (AcknowledgementRequest id attempt)) k same
    (λ st refines settled. refused_by_keys old caller id attempt st refines settled row keys known
    found (subst (λ s. AreWaitsAbout old caller s keys) (ap (λ (r : VersionRow). r.subject) is)
    waits) ∙ sym refused)

-- A pending download's broadcast has a row.
pub never_missing : (old : Content) (caller id attempt : ℕ) (row : VersionRow) (u : Inside)
    (keys : List DownloadKey) (key : DownloadKey) →
    get old.versions id ≡ Some row → version_row_of u ≡ row
    → AreWaitsAbout old caller (subject_of u.version.subject) keys
    → find (is_key id attempt) keys ≡ Some key →
    get old.broadcasts (broadcast_key id attempt) ≡ None → (st : State)
    → Refines old st
    → IdSettled old st id → ⊥
never_missing old caller id attempt row u keys key found is waits key_is absent st refines settled =
    broadcast_there st old refines caller row.subject due key.minute.number id attempt awaited
    absent
  where
    waits_about : AreWaitsAbout old caller row.subject keys
    waits_about =
        subst (λ s. AreWaitsAbout old caller s keys) (ap (λ (r : VersionRow). r.subject) is) waits

    due : IsSettled old st row.subject
    due = row_settled st old id row refines.represents settled found

    shown : (v : Version) × (version_with id (record_now st row.subject) ≡ Some v)
        × (row ≡ row_of row.subject v)
    shown = row_now st old id row refines.represents settled found

    awaited : IsAwaited st caller row.subject key.minute.number id attempt
    awaited = (found-awaited st old refines caller row.subject due keys waits_about id attempt
        shown.0 shown.1 key key_is).0

-- ---- an acknowledgement

-- A version keeps its id when it is acknowledged.
completed_id : (w : WindowSet) (b : Bool) (minute : ℕ) (v : Version) →
    (completed_if w b minute v).id ≡ v.id
completed_id w false minute v = refl
completed_id w true minute v = by_status v.status
  where
    by_status : (status : Status) → (completed w status minute v).id ≡ v.id
    by_status (Sending action) = refl
    by_status PartialFailure = refl
    by_status Pending = refl
    by_status Conflict = refl
    by_status (CancelPending by) = refl
    by_status Active = refl
    by_status Failed = refl
    by_status (DisconnectPending release) = refl
    by_status Old = refl
    by_status Canceled = refl

-- A version then holds the set that it held, or the present set.
completed_holds : (w : WindowSet) (b : Bool) (minute : ℕ) (v : Version) →
    ((completed_if w b minute v).held ≡ v.held) ⊎ ((completed_if w b minute v).held ≡ w)
completed_holds w false minute v = inl refl
completed_holds w true minute v = by_status v.status
  where
    by_status : (status : Status) → ((completed w status minute v).held ≡ v.held) ⊎
        ((completed w status minute v).held ≡ w)
    by_status (Sending action) = inr refl
    by_status PartialFailure = inr refl
    by_status Pending = inl refl
    by_status Conflict = inl refl
    by_status (CancelPending by) = inl refl
    by_status Active = inl refl
    by_status Failed = inl refl
    by_status (DisconnectPending release) = inl refl
    by_status Old = inl refl
    by_status Canceled = inl refl

-- The numbers of the sets decide which windows the version has.
either_held : (present before after : WindowSet) → (after ≡ before) ⊎ (after ≡ present) →
    (before.number ≡ present.number → before ≡ present) →
    windows_after present before.windows before.number after.number ≡ after.windows
either_held present before after (inl stays) one =
    ap (λ (x : WindowSet). windows_after present before.windows before.number x.number) stays
    ∙ ap (λ b. if b then before.windows else present.windows) (same_number before.number)
    ∙ sym (ap (λ (x : WindowSet). x.windows) stays)
either_held present before after (inr enters) one =
    ap (λ (x : WindowSet). windows_after present before.windows before.number x.number) enters
    ∙ by_cases (present.number == before.number) refl
    ∙ sym (ap (λ (x : WindowSet). x.windows) enters)
  where
    by_cases : (b : Bool) → (present.number == before.number) ≡ b →
        (if b then before.windows else present.windows) ≡ present.windows
    by_cases true e = ap (λ (x : WindowSet). x.windows)
        (one (sym (equal_number present.number before.number e)))
    by_cases false e = refl

pub answers_acknowledged : (old new : Content) (caller id attempt : ℕ) (clock : ClockRow)
    (row : VersionRow) (held : Windows) (u : Inside) (keys : List DownloadKey) (key : DownloadKey)
    (broadcast : BroadcastRow) (last : Bool) (earlier : Option NumberedRow) (after : VersionImpl)
    (windows : Windows) (view : View) →
    is_some (get old.carriers caller) ≡ true → old.clock ≡ Some clock → get old.versions id
    ≡ Some row → AreHeld old clock row.held held →
    version_row_of u ≡ row → AreWaitsAbout old caller (subject_of u.version.subject) keys →
    None ≡ key_refusal keys id attempt → find (is_key id attempt) keys ≡ Some key →
    IsFound old (wait_key caller key.minute.number id attempt) u.version broadcast last earlier →
    Becomes (completed_if clock.present (completes u.version attempt last) clock.minute) u.version
    after →
    windows ≡ windows_after clock.present held u.version.held after.held →
    AppliesChanges (all_changes clock.present windows clock.minute
    (wait_key caller key.minute.number id attempt)
    u.version after broadcast last earlier) old new →
    ((st : State) (broadcasts : List Broadcast) → st.now ≡ clock.minute → view
    ≡ view_of st (record {
      subject = subject_of after.subject;
      version =
          version_of id broadcasts windows after;
    })) →
    SimulatesSettledStep old new (RequestFrom caller (AcknowledgementRequest id attempt))
    (Some (Shown (Some view)))
answers_acknowledged old new caller id attempt clock row held u keys key broadcast last earlier
    after windows view known clock_is found are_held is waits accepts key_is there becomes
    windows_are changed views =
    answers_accepted old new (RequestFrom caller (AcknowledgementRequest id attempt))
    (Shown (Some view)) each
  where
    subject_is : subject_of u.version.subject ≡ row.subject
    subject_is = ap (λ (r : VersionRow). r.subject) is

    waits_about : AreWaitsAbout old caller row.subject keys
    waits_about = subst (λ s. AreWaitsAbout old caller s keys) subject_is waits

    each : (st : State) → Refines old st
        → AreSettled old st (RequestFrom caller (AcknowledgementRequest id attempt))
        → (refusal st (RequestFrom caller (AcknowledgementRequest id attempt)) ≡ None)
        × (Shown (Some view) ≡ answer_of st
        (accepted st (RequestFrom caller (AcknowledgementRequest id attempt)))
        (RequestFrom caller (AcknowledgementRequest id attempt)))
        × Refines new (accepted st (RequestFrom caller (AcknowledgementRequest id attempt)))
        × FramesUnchanged old new st (RequestFrom caller (AcknowledgementRequest id attempt))
    each st refines settled = (
      none,
      acknowledged-answer st old new refines caller row.subject due key.minute.number id attempt
          awaited last there.last change none clock clock_is view seen_view,
      acknowledged-stands st old new refines caller row.subject due key.minute.number id attempt
          awaited last there.last change none clock clock_is,
      acknowledged-leaves st old new refines caller row.subject due key.minute.number id attempt
          awaited last there.last change,
    )
      where
        due : IsSettled old st row.subject
        due = row_settled st old id row refines.represents settled found

        shown : (v : Version) × (version_with id (record_now st row.subject) ≡ Some v)
            × (row ≡ row_of row.subject v)
        shown = row_now st old id row refines.represents settled found

        none : refusal st (RequestFrom caller (AcknowledgementRequest id attempt)) ≡ None
        none = refused_by_keys old caller id attempt st refines settled row keys known found
            waits_about ∙ sym accepts

        awaited : IsAwaited st caller row.subject key.minute.number id attempt
        awaited = (found-awaited st old refines caller row.subject due keys waits_about id attempt
            shown.0 shown.1 key key_is).0

        row_is : row ≡ row_of row.subject awaited.version
        row_is = shown.2 ∙ ap (row_of row.subject) (some_is shown.0 awaited.version (sym shown.1
            ∙ awaited.found))

        before : HasModel u.version awaited.version
        before = row_version row.subject awaited.version u (is ∙ row_is)

        same_attempt : u.version.attempt ≡ awaited.version.attempt
        same_attempt = ap (λ (v : Version). v.attempt) before

        same_status : status_of u.version.status ≡ awaited.version.status
        same_status = ap (λ (v : Version). v.status) before

        same_clock : clock ≡ clock_of st
        same_clock = clock_is_of old st clock refines.represents clock_is

        done : Bool
        done = last && (awaited.version.attempt == attempt)

        complete : completes u.version attempt last ≡ (last && (awaited.version.attempt == attempt))
        complete = ap (λ n. last && (n == attempt)) same_attempt

        held_is : held ≡ awaited.version.held.windows
        held_is = row_held st old clock refines.represents clock_is row.subject id awaited.version
            awaited.found row row_is held are_held

        before_answered : version_of awaited.version.id
            (answered_all caller attempt st.now awaited.version).broadcasts
            awaited.version.held.windows u.version
            ≡ answered_all caller attempt st.now awaited.version
        before_answered = ap (λ (x : Version). let y : Version = record x {
          broadcasts = (answered_all caller attempt st.now awaited.version).broadcasts;
        } in y) before

        becomes_now : Becomes (completed_if (set_now st)
            (last && (awaited.version.attempt == attempt)) st.now) u.version after
        becomes_now = subst (λ (k : ClockRow). Becomes
            (completed_if k.present (last && (awaited.version.attempt == attempt)) k.minute)
            u.version after) same_clock
            (subst (λ b. Becomes (completed_if clock.present b clock.minute) u.version after)
            complete becomes)

        finished : Version
        finished = completed_if (set_now st) (last && (awaited.version.attempt == attempt)) st.now
            (answered_all caller attempt st.now awaited.version)

        seen_after : HasModel after finished
        seen_after = subst (λ (x : Version). HasModel after
            (completed_if (set_now st) (last && (awaited.version.attempt == attempt)) st.now x))
            before_answered
            (becomes_now.version awaited.version.id
            (answered_all caller attempt st.now awaited.version).broadcasts
            awaited.version.held.windows)

        -- The windows of the set that the version then holds.
        windows_is : windows ≡ finished.held.windows
        windows_is =
            windows_are
            ∙ ap (λ (k : ClockRow). windows_after k.present held u.version.held after.held)
            same_clock
            ∙ ap (λ w. windows_after (set_now st) w u.version.held after.held) held_is
            ∙ ap (λ n. windows_after (set_now st) awaited.version.held.windows n after.held)
            (ap (λ (v : Version). v.held.number) before)
            ∙ ap (windows_after (set_now st) awaited.version.held.windows
            awaited.version.held.number) (ap (λ (v : Version). v.held.number) seen_after)
            ∙ either_held (set_now st) awaited.version.held finished.held
            (completed_holds (set_now st) (last && (awaited.version.attempt == attempt)) st.now
            (answered_all caller attempt st.now awaited.version))
            (λ same. same_set st old clock refines.represents clock_is awaited.version.held
            (held-is st refines.represents.history row.subject id awaited.version awaited.found)
            (same ∙ ap (λ (k : ClockRow). k.present.number) (sym same_clock))
            ∙ ap (λ (k : ClockRow). k.present) same_clock)

        after_is : version_of awaited.version.id finished.broadcasts windows after ≡ finished
        after_is =
            ap (λ k. version_of k finished.broadcasts windows after)
            (sym (completed_id (set_now st) (last && (awaited.version.attempt == attempt))
            st.now (answered_all caller attempt st.now awaited.version)))
            ∙ ap (λ w. version_of finished.id finished.broadcasts w after) windows_is ∙ seen_after

        subject_after : subject_of after.subject ≡ row.subject
        subject_after = ap subject_of becomes.subject ∙ subject_is

        replaced : IsSuperseded ((last && (awaited.version.attempt == attempt)) && sends_create
            awaited.version.status) old row.subject earlier
        replaced = subst (λ s. IsSuperseded ((last && (awaited.version.attempt == attempt))
            && sends_create awaited.version.status) old s earlier) subject_is
            (subst (λ t. IsSuperseded ((last && (awaited.version.attempt == attempt))
            && sends_create
            t) old (subject_of u.version.subject) earlier) same_status
            (subst (λ b. IsSuperseded (b && sends_create (status_of u.version.status)) old
            (subject_of u.version.subject) earlier) complete there.replaced))

        versions_same : retired_rows (set_now st) st.now earlier ++ own_rows
            (completes u.version attempt last) id
            (row_of (subject_of after.subject) (model_with_windows windows after))
            ≡ puts_of (set_now st) st.now row.subject
            (the_replaced ((last && (awaited.version.attempt == attempt)) && sends_create
            awaited.version.status) (record_now st row.subject))
            ++ own_rows (last && (awaited.version.attempt == attempt)) id
            (row_of row.subject (completed_if (set_now st)
            (last && (awaited.version.attempt == attempt)) st.now
            (answered_all caller attempt st.now awaited.version)))
        versions_same =
            ap (λ ps. ps ++ own_rows (completes u.version attempt last) id
            (row_of (subject_of after.subject) (model_with_windows windows after)))
            (retired_read (set_now st) st.now row.subject (made_now st)
            (record_now st row.subject) old due.rows_match (given_now st refines.represents.history
            row.subject)
            (one_in_force st old refines row.subject) (λ t. (
              (refines.represents.subjects t).kept,
              (refines.represents.subjects t).rows_match,
            )) ((last && (awaited.version.attempt == attempt)) && sends_create
            awaited.version.status) earlier replaced)
            ∙ ap (λ b. puts_of (set_now st) st.now row.subject
            (the_replaced ((last && (awaited.version.attempt == attempt)) && sends_create
            awaited.version.status) (record_now st row.subject))
            ++ own_rows b id (row_of (subject_of after.subject) (model_with_windows windows after)))
            complete
            ∙ ap (λ r. puts_of (set_now st) st.now row.subject
            (the_replaced ((last && (awaited.version.attempt == attempt)) && sends_create
            awaited.version.status) (record_now st row.subject))
            ++ own_rows (last && (awaited.version.attempt == attempt)) id r)
            (ap (λ t. row_of t (model_with_windows windows after)) subject_after
            ∙ ap (row_of row.subject) after_is)

        broadcast_same : answered_row (completes u.version attempt last && is_sending
            (status_of u.version.status)) broadcast
            ≡ answered_row ((last && (awaited.version.attempt == attempt)) && is_sending
            awaited.version.status) (row_was caller awaited.broadcast awaited.waits row.subject)
        broadcast_same =
            ap (λ b. answered_row (b && is_sending (status_of u.version.status)) broadcast) complete
            ∙ ap (λ t. answered_row ((last && (awaited.version.attempt == attempt)) && is_sending t)
            broadcast) same_status
            ∙ ap (answered_row ((last && (awaited.version.attempt == attempt)) && is_sending
            awaited.version.status))
            (broadcast_read st old refines caller row.subject due key.minute.number id attempt
            awaited broadcast there.stored)

        change : AppliesChanges (acknowledgement_changes caller key.minute.number id attempt last
            (puts_of (set_now st) st.now row.subject
            (the_replaced ((last && (awaited.version.attempt == attempt)) && sends_create
            awaited.version.status) (record_now st row.subject))
            ++ own_rows (last && (awaited.version.attempt == attempt)) id
            (row_of row.subject (completed_if (set_now st)
            (last && (awaited.version.attempt == attempt)) st.now
            (answered_all caller attempt st.now awaited.version))))
            (answered_row ((last && (awaited.version.attempt == attempt)) && is_sending
            awaited.version.status) (row_was caller awaited.broadcast awaited.waits row.subject)))
            old new
        change = subst (λ d. AppliesChanges d old new)
            (ap (λ ps. acknowledgement_changes caller key.minute.number id attempt last ps
            (answered_row (completes u.version attempt last && is_sending
            (status_of u.version.status)) broadcast)) versions_same
            ∙ ap (acknowledgement_changes caller key.minute.number id attempt last
            (puts_of (set_now st) st.now row.subject
            (the_replaced ((last && (awaited.version.attempt == attempt)) && sends_create
            awaited.version.status) (record_now st row.subject))
            ++ own_rows (last && (awaited.version.attempt == attempt)) id
            (row_of row.subject (completed_if (set_now st)
            (last && (awaited.version.attempt == attempt)) st.now
            (answered_all caller attempt st.now awaited.version))))) broadcast_same)
            (subst (λ (c : ClockRow). AppliesChanges
            (all_changes c.present windows c.minute
            (wait_key caller key.minute.number id attempt) u.version after broadcast last earlier)
            old new) same_clock changed)

        seen_view : view
            ≡ view_of (accepted st (RequestFrom caller (AcknowledgementRequest id attempt)))
            (record {
              subject = row.subject;
              version =
                  completed_if (set_now st) (last && (awaited.version.attempt == attempt)) st.now
                  (answered_all caller attempt st.now awaited.version);
            })
        seen_view =
            views (accepted st (RequestFrom caller (AcknowledgementRequest id attempt)))
            (completed_if (set_now st) (last && (awaited.version.attempt == attempt)) st.now
            (answered_all caller attempt st.now awaited.version)).broadcasts
            (ap (λ (c : ClockRow). c.minute) (sym same_clock))
            ∙ ap (λ t. view_of
            (accepted st (RequestFrom caller (AcknowledgementRequest id attempt)))
            (record {
              subject = t;
              version =
                  version_of id (completed_if (set_now st)
                  (last && (awaited.version.attempt == attempt)) st.now
                  (answered_all caller attempt st.now awaited.version)).broadcasts windows after;
            }))
            subject_after
            ∙ ap (λ k. view_of
            (accepted st (RequestFrom caller (AcknowledgementRequest id attempt)))
            (record {
              subject = row.subject;
              version =
                  version_of k (completed_if (set_now st)
                  (last && (awaited.version.attempt == attempt)) st.now
                  (answered_all caller attempt st.now awaited.version)).broadcasts windows after;
            }))
            (sym (id_found id (record_now st row.subject).versions awaited.version awaited.found))
            ∙ ap (λ x. view_of
            (accepted st (RequestFrom caller (AcknowledgementRequest id attempt)))
            (record { subject = row.subject; version = x })) after_is

-- The decision by whether the download is the last of its broadcast.
pub taken_by : (last : Bool) (old mid : Content) (clock : ClockRow) (held : Windows)
    (wait : WaitKey) (v : VersionImpl) (changes : Changes) (result : Result Reply Refusal) →
    mid ≡ old →
    last ≡ is_last_wait old wait →
    IfOk result (IsAcknowledgedAs last mid clock held wait v changes) →
    IfOk result (IsAcknowledgedBy old clock held wait v changes)
taken_by last old mid clock held wait v changes (Ok reply) same is takes =
    subst (λ k. IsAcknowledgedAs last k clock held wait v changes reply) same takes is
taken_by last old mid clock held wait v changes (Err r) same is takes = tt

-- The decision by the result of the acknowledgement.
pub decides_taken : (old mid : Content) (input : Input) (clock : ClockRow) (held : Windows)
    (wait : WaitKey) (v : VersionImpl) (changes : Changes) (result : Result Reply Refusal) →
    IfOk result (IsAcknowledgedBy mid clock held wait v changes) →
    IfErr result (λ r. nat_lt (number_of r) 29 ≡ false) → mid ≡ old →
    ((m : Content) (view : View) → IsAcknowledged old m clock held wait v view →
    SimulatesSettledStep old m input (Some (Shown (Some view)))) → Decides old input changes result
decides_taken old mid input clock held wait v changes (Ok reply) taken fault same each = record {
  refused = tt;
  accepted = λ m changed.
      let shown = subst (λ k. IsAcknowledgedBy k clock held wait v changes reply) same taken m
      changed in
      subst (λ r. SimulatesSettledStep old m input (Some r)) (sym shown.1) (each m shown.0 shown.2);
}
decides_taken old mid input clock held wait v changes (Err r) taken fault same each =
    record { refused = answers_without old old input (number_of r) fault refl; accepted = tt }
