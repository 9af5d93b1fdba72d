-- A download that is acknowledged in one call of the store.
use Rattle.std.proofs.Common.{◌≡◌, ◌⊎◌, inl, inr, ℕ, Bool, true, false, ◌&&◌, ◌||◌, List, [], ◌∷◌, Option, Some, None, refl, ap, sym, ◌∙◌, subst, arith}
use Rattle.std.specs.Prelude.{◌==◌, not, nat_lt, is_some, find, if◌then◌else◌}
use Rattle.std.proofs.lemmas.Bool.Decides.{nat_tests}
use Rattle.numbers.specs.Abstraction.{subject_of}
use Rattle.numbers.proofs.Small.{same_number}
use Rattle.model.specs.Abstraction.{status_of}
use Rattle.model.specs.Content.{Content, ClockRow, VersionRow, row_of, wait_key}
use Rattle.model.specs.History.{AcknowledgementRequest}
use Rattle.model.specs.Machine.{Shown, out, next}
use Rattle.model.specs.Refusals.{Input, RequestFrom, first_refusal}
use Rattle.model.specs.State.{State, View, phase_of, record_now, view_of}
use Rattle.model.specs.Statuses.{Status, Pending, Conflict, CancelPending, Sending, Active, PartialFailure, Failed, DisconnectPending, Old, Canceled}
use Rattle.model.specs.Versions.{Broadcast, Version, version_with}
use Rattle.model.specs.Windows.{Windows}
use Rattle.model.proofs.Sets.{held-is}
use Rattle.version.specs.Abstraction.{version_of}
use Rattle.version.specs.Acknowledging.{is_sending}
use Rattle.delivery.specs.declared.download.DownloadKey.{DownloadKey}
use Rattle.delivery.specs.Queues.{is_key, is_earlier, key_refusal}
use Rattle.settle.specs.declared.rows.VersionRow.TheInside.{Inside}
use Rattle.settle.specs.Abstraction.{version_row_of}
use Rattle.settle.specs.Changes.{AppliesChanges}
use Rattle.settle.specs.Reads.{AreWaitsAbout}
use Rattle.settle.specs.Sharing.{IsShared, TakesShared, one_changes}
use Rattle.settle.specs.StoreContract.{AddsOnlyCrashStates}
use Rattle.settle.specs.declared.store_model.StoreModel.{Ghosts}
use Rattle.register.specs.Crashes.{TakesSettledStep}
use Rattle.register.specs.Looking.{AreHeld}
use Rattle.register.specs.Refinement.{Refines}
use Rattle.register.specs.Settling.{SimulatesSettledStep, FramesUnchanged}
use Rattle.register.proofs.EveryCall.HeldSets.{are_held}
use Rattle.register.proofs.EveryCall.Left.{comes}
use Rattle.register.proofs.EveryCall.Settled.{row_now}
use Rattle.register.proofs.Downloads.Marked.{marks_row}
use Rattle.register.proofs.Downloads.Receipts.{answers_acknowledged}

-- A version that is being sent has no phase.
pub phase_none : (w : Windows) (now : ℕ) (old_at new_at : Option ℕ) (since : ℕ) (status : Status)
    → is_sending status ≡ true → phase_of w now old_at new_at since status ≡ None
phase_none w now old_at new_at since (Sending action) e = refl
phase_none w now old_at new_at since Pending e = cc
phase_none w now old_at new_at since (CancelPending by) e = cc
phase_none w now old_at new_at since Conflict e = refl
phase_none w now old_at new_at since Active e = refl
phase_none w now old_at new_at since PartialFailure e = refl
phase_none w now old_at new_at since Failed e = refl
phase_none w now old_at new_at since (DisconnectPending release) e = refl
phase_none w now old_at new_at since Old e = refl
phase_none w now old_at new_at since Canceled e = refl

-- ---- the only download

not_below : (n : ℕ) → nat_lt n n ≡ false
not_below n = grind (arith, nat_tests)

never_earlier : (k : DownloadKey) → is_earlier k k ≡ false
never_earlier k =
    ap (λ b. b || ((k.minute.number == k.minute.number)
    && (nat_lt k.id k.id || ((k.id == k.id) && nat_lt k.attempt k.attempt))))
    (not_below k.minute.number)
    ∙ ap (λ b. b && (nat_lt k.id k.id || ((k.id == k.id) && nat_lt k.attempt k.attempt)))
    (same_number k.minute.number)
    ∙ ap (λ b. b || ((k.id == k.id) && nat_lt k.attempt k.attempt)) (not_below k.id)
    ∙ ap (λ b. b && nat_lt k.attempt k.attempt) (same_number k.id) ∙ not_below k.attempt

own_key : (k : DownloadKey) → is_key k.id k.attempt k ≡ true
own_key k = ap (λ b. b && (k.attempt == k.attempt)) (same_number k.id) ∙ same_number k.attempt

-- The only download may be acknowledged.
only_accepted : (k : DownloadKey) → None ≡ key_refusal (k ∷ []) k.id k.attempt
only_accepted k =
    sym (ap (λ own. by_tests own (is_earlier k k)) (own_key k)
    ∙ ap (by_tests true) (never_earlier k))
  where
    by_tests : (own earlier : Bool) → Option ℕ
    by_tests own earlier = first_refusal ((25, not (own || false))
        ∷ (26, (own && (earlier || false)) || false) ∷ [])

only_found : (k : DownloadKey) → find (is_key k.id k.attempt) (k ∷ []) ≡ Some k
only_found k = ap (λ b. if b then Some k else None) (own_key k)

-- ---- the answer

-- Holds if the view shows the version, if that is being sent, with any windows in any state.
abbrev pub ViewsWhileSent : ℕ → Inside → View → Type 0
ViewsWhileSent id u view = is_sending (status_of u.version.status) ≡ true
    → (st : State) (broadcasts : List Broadcast) (windows : Windows) → view
    ≡ view_of st (record {
      subject = subject_of u.version.subject;
      version = version_of id broadcasts windows u.version;
    })

-- The answer of a call of the store that acknowledged a download.
pub answers_shared : (old new : Content) (caller id attempt : ℕ) (row : VersionRow) (u : Inside)
    (view : View) → version_row_of u ≡ row → TakesShared old new caller id attempt row
    → ViewsWhileSent id u view
    → SimulatesSettledStep old new (RequestFrom caller (AcknowledgementRequest id attempt))
    (Some (Shown (Some view)))
answers_shared old new caller id attempt row u view is taken views st refines settled =
    by_clock old.clock refl refines.written
  where
    shared : IsShared old (wait_key caller taken.minute id attempt) row taken.broadcast
    shared = taken.shared

    sends : is_sending (status_of u.version.status) ≡ true
    sends = ap (λ (r : VersionRow). is_sending r.status) is ∙ shared.sends

    key : DownloadKey
    key = shared.only.download

    now : (v : Version) × (version_with id (record_now st row.subject) ≡ Some v)
        × (row ≡ row_of row.subject v)
    now = row_now st old id row refines.represents settled shared.found

    with_key : (m i a : ℕ) → key.minute.number ≡ m → key.id ≡ i → key.attempt ≡ a →
        (None ≡ key_refusal (key ∷ []) i a) × (find (is_key i a) (key ∷ []) ≡ Some key)
    with_key m i a e f g =
        subst (λ x. (None ≡ key_refusal (key ∷ []) i x) × (find (is_key i x) (key ∷ []) ≡ Some key))
        g (subst (λ x. (None ≡ key_refusal (key ∷ []) x key.attempt)
        × (find (is_key x key.attempt) (key ∷ []) ≡ Some key)) f
        (only_accepted key, only_found key))

    accepted : (None ≡ key_refusal (key ∷ []) id attempt)
        × (find (is_key id attempt) (key ∷ []) ≡ Some key)
    accepted = with_key taken.minute id attempt shared.only.minute shared.only.id
        shared.only.attempt

    shared_here : IsShared old (wait_key caller key.minute.number id attempt) row taken.broadcast
    shared_here = subst (λ n. IsShared old (wait_key caller n id attempt) row taken.broadcast)
        (sym shared.only.minute) shared

    changed_here : AppliesChanges (one_changes (wait_key caller key.minute.number id attempt)
        taken.broadcast) old new
    changed_here = subst (λ n. AppliesChanges (one_changes (wait_key caller n id attempt)
        taken.broadcast) old new) (sym shared.only.minute) taken.changed

    input : Input
    input = RequestFrom caller (AcknowledgementRequest id attempt)

    by_clock : (o : Option ClockRow) → old.clock ≡ o → is_some old.clock ≡ true
        → (Shown (Some view) ≡ out st input) × Refines new (next st input)
        × FramesUnchanged old new st input
    by_clock None e written = let never : true ≡ false = sym written ∙ ap is_some e in cc
    by_clock (Some clock) e written =
        answers_acknowledged old new caller id attempt clock row now.0.held.windows u (key ∷ [])
        key taken.broadcast false None u.version now.0.held.windows view
        shared.known e shared.found
        (subst (λ (r : VersionRow). AreHeld old clock r.held now.0.held.windows) (sym now.2)
        (are_held st old clock refines.represents e now.0.held
        (held-is st refines.represents.history row.subject id now.0 now.1)))
        is
        (subst (λ s. AreWaitsAbout old caller s (key ∷ []))
        (sym (ap (λ (r : VersionRow). r.subject) is)) shared.only.about)
        accepted.0 accepted.1
        (record { stored = shared.stored; last = sym shared_here.shared; replaced = refl })
        (record { subject = refl; version = λ i broadcasts windows. refl })
        (sym (ap (λ b. if b then now.0.held.windows else clock.present.windows)
        (same_number u.version.held)))
        (marks_row old new (wait_key caller key.minute.number id attempt) taken.broadcast
        shared.stored changed_here)
        (λ s broadcasts minute. views sends s broadcasts now.0.held.windows)
        st refines settled

-- What a crash may leave of the call.
module _ {S : Type 0} (store : Ghosts S) (a b : S) where
  pub left_shared : (caller id attempt : ℕ) (row : VersionRow) (u : Inside) (view : View)
      → version_row_of u ≡ row → ViewsWhileSent id u view
      → AddsOnlyCrashStates store a b (λ m. store.IsUsable a
      × TakesShared (store.content a) m caller id attempt row)
      → AddsOnlyCrashStates store a b (λ m. store.IsUsable a
      × TakesSettledStep (store.content a) (RequestFrom caller (AcknowledgementRequest id attempt))
      m)
  left_shared caller id attempt row u view is views leaves honest m may =
      by_cases (leaves honest m may)
    where
      by_cases : store.IsCrashState a m
          ⊎ (store.IsUsable a × TakesShared (store.content a) m caller id attempt row)
          → store.IsCrashState a m
          ⊎ (store.IsUsable a × TakesSettledStep (store.content a)
          (RequestFrom caller (AcknowledgementRequest id attempt)) m)
      by_cases (inl before) = inl before
      by_cases (inr taken) = inr (
        taken.0,
        comes (store.content a) m (RequestFrom caller (AcknowledgementRequest id attempt))
            (Shown (Some view))
            (answers_shared (store.content a) m caller id attempt row u view is taken.1 views),
      )

  -- If nothing is changed, nothing.
  pub left_as_before : (Holds : Content → Type 0)
      → AddsOnlyCrashStates store a b (λ m. store.IsUsable a × ⊥)
      → AddsOnlyCrashStates store a b (λ m. store.IsUsable a × Holds m)
  left_as_before Holds leaves honest m may = by_cases (leaves honest m may)
    where
      by_cases : store.IsCrashState a m ⊎ (store.IsUsable a × ⊥)
          → store.IsCrashState a m ⊎ (store.IsUsable a × Holds m)
      by_cases (inl before) = inl before
      by_cases (inr never) = absurd never.1
