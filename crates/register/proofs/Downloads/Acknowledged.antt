-- The answer to an acknowledgement and the content after it.
use Rattle.std.proofs.Common.{◌≡◌, ℕ, Bool, true, false, not, ◌&&◌, List, [], ◌∷◌, ◌++◌, Option, Some, None, refl, ap, sym, ◌∙◌, subst, arith}
use Rattle.std.specs.Prelude.{◌==◌, find, filter, is_some, option_map, option_and_then, if◌then◌else◌}
use Rattle.std.specs.FinMap.{get, keys}
use Rattle.numbers.specs.Subjects.{Subject, Block, subject_eq}
use Rattle.model.specs.Windows.{WindowSet}
use Rattle.model.specs.Versions.{Version, Record, in_force, is_open, sends_create, is_among, unacknowledged, waiters, version_with, last_version}
use Rattle.model.specs.Changes.{is_empty, acknowledged_by, retired, changed_at, of_id}
use Rattle.model.specs.Laws.{IsQuiet}
use Rattle.model.specs.History.{AcknowledgementRequest, donor_of, carriers}
use Rattle.model.specs.State.{State, View, record_now, view_of, set_now, made_now}
use Rattle.model.specs.Refusals.{RequestFrom, refusal}
use Rattle.model.specs.Machine.{IsHistory, Shown, accepted, answer_of}
use Rattle.model.specs.Content.{Content, VersionRow, BroadcastRow, BlockRow, BroadcastKey, ClockRow, SameRows, RowsMatch, row_of, of_subject, stored_broadcast, stored_wait, broadcast_with, broadcast_key, wait_key}
use Rattle.model.proofs.Ids.{same_subject}
use Rattle.numbers.proofs.Small.{equal_number, and_both, same_truth}
use Rattle.model.proofs.Entered.{entered-record, given_now, sound_now, entered-elsewhere, none_elsewhere, none_with}
use Rattle.model.proofs.Shown.{some_is, own, others}
use Rattle.model.proofs.Tended.{IsTended, tended_kept}
use Rattle.model.proofs.KeptVersions.{version_now}
use Rattle.model.proofs.Recipients.{AreKnown, broadcast_known}
use Rattle.settle.specs.Changes.{Changes, AppliesChanges, AreOfVersion, ArePutsOf, AreKeysOf, put_rows, delete_rows, same_broadcast}
use Rattle.settle.proofs.Aside.{lagging_aside}
use Rattle.settle.specs.Reads.{is_last_wait}
use Rattle.settle.specs.Settling.{IsSettled}
use Rattle.register.specs.Refinement.{Refines}
use Rattle.register.specs.Settling.{FramesUnchanged}
use Rattle.register.proofs.EveryCall.Settled.{leaves_but, of_id_found, wait_subject}
use Rattle.version.specs.Acknowledging.{is_sending, completed_if}
use Rattle.register.specs.Acknowledging.{answered_row, own_rows, acknowledgement_changes}
use Rattle.register.proofs.Asking.Alone.{one_in_force}
use Rattle.register.proofs.Records.Touched.{RegistryShows, touched-stands}
use Rattle.register.proofs.OnVersions.OnVersion.{acknowledge-names, clock_same, shown_is}
use Rattle.model.proofs.Shown.{same_broadcast_with}
use Rattle.settle.proofs.Taking.{sends_create-open, retired_broadcasts, version_after, others_after}
use Rattle.settle.proofs.KeptRows.{row_there, puts_of, the_replaced, replaced_row, put_last, none_apart, retired_apart, retired_shows}
use Rattle.settle.proofs.Among.{among-filtered, among_keys}
use Rattle.register.proofs.Downloads.Queued.{IsAwaited, waiting-awaited, awaited-waiting}
use Rattle.register.proofs.Downloads.Answering.{last_is, acknowledged_one, left_without, waiters_are, answered_one, row_was, stored_before, stored_after, waits_after, answered_all, acknowledged_is, other_broadcast, this_broadcast, takes_is, acknowledging-quiet, acknowledged_id, last-same}

-- ---- the broadcast of the download

module _ (st : State) (old : Content) (refines : Refines old st) (caller : ℕ) (s : Subject)
    (due : IsSettled old st s) (minute id attempt : ℕ) (is : IsAwaited st caller s minute id
    attempt) where
  abbrev waiting : ℕ → Bool
  waiting k = is_some (get old.waits (wait_key k minute id attempt))

  -- Each carrier's download at the key is of this broadcast.
  same_wait-broadcast : (k : ℕ) (t : Subject) → get old.waits (wait_key k minute id attempt)
      ≡ Some t → is_among k (waiters is.broadcast) ≡ true
  same_wait-broadcast k t e =
      let its : t ≡ s = wait_subject st old refines.represents s id is.version is.found k minute
      attempt t e in
      let other : IsAwaited st k s minute id attempt =
      waiting-awaited st old refines k s due minute id attempt (e ∙ ap (λ u. Some u) its) in
      let same_version : other.version ≡ is.version =
      some_is other.version is.version (sym other.found ∙ is.found) in
      let same_one : other.broadcast ≡ is.broadcast =
      some_is other.broadcast is.broadcast (sym other.sent
      ∙ ap (λ (x : Version). find (λ b. b.attempt == attempt) x.broadcasts) same_version
      ∙ is.sent) in
      ap (λ x. is_among k (waiters x)) (sym same_one) ∙ other.waits

  waiting_are : (k : ℕ) → is_among k (filter waiting (keys old.carriers))
      ≡ is_among k (unacknowledged is.broadcast)
  waiting_are k = among-filtered waiting k (keys old.carriers)
      ∙ same_truth (is_among k (keys old.carriers) && waiting k)
      (is_among k (unacknowledged is.broadcast)) there back
    where
      some : (o : Option Subject) → get old.waits (wait_key k minute id attempt) ≡ o
          → is_some o ≡ true → is_among k (unacknowledged is.broadcast) ≡ true
      some None e f = cc
      some (Some t) e f = ap (is_among k) (sym (waiters_are caller is.broadcast is.waits))
          ∙ same_wait-broadcast k t e

      there : (is_among k (keys old.carriers) && waiting k) ≡ true
          → is_among k (unacknowledged is.broadcast) ≡ true
      there e = some (get old.waits (wait_key k minute id attempt)) refl
          (and_both (is_among k (keys old.carriers)) (waiting k) e).1

      stored : broadcast_with id attempt (record_now st s) ≡ Some is.broadcast
      stored = ap (option_and_then (λ (v : Version). find (λ b. b.attempt == attempt) v.broadcasts))
          is.found ∙ is.sent

      back : is_among k (unacknowledged is.broadcast) ≡ true
          → (is_among k (keys old.carriers) && waiting k) ≡ true
      back e =
          let recipient : is_among k is.broadcast.recipients ≡ true =
          (and_both (is_among k is.broadcast.recipients)
          (not (is_among k is.broadcast.acknowledged))
          (sym (among-filtered (λ d. not (is_among d is.broadcast.acknowledged)) k
          is.broadcast.recipients) ∙ e)).0 in
          let known : AreKnown (carriers st.history) is.broadcast =
          broadcast_known st refines.represents.history s id attempt is.broadcast stored in
          let carrier : is_among k (keys old.carriers) ≡ true =
          among_keys old.carriers k ∙ refines.represents.carriers k
          ∙ known.recipients k recipient in
          let awaited : IsAwaited st k s minute id attempt =
          record {
            version = is.version;
            broadcast = is.broadcast;
            found = is.found;
            sent = is.sent;
            sent_at = is.sent_at;
            waits = ap (is_among k) (waiters_are caller is.broadcast is.waits) ∙ e;
          } in
          ap (λ b. b && waiting k) carrier
          ∙ ap is_some (awaited-waiting st old refines k s due minute id attempt awaited)

  pub last_left : is_last_wait old (wait_key caller minute id attempt)
      ≡ is_empty (unacknowledged (acknowledged_one caller is.broadcast))
  last_left =
      last_is caller (filter waiting (keys old.carriers))
      (unacknowledged (acknowledged_one caller is.broadcast))
      (λ k. left_without caller is.broadcast k ∙ ap (λ b. b && not (caller == k))
      (sym (waiting_are k)))

  shown_row : of_subject s (λ (x : BroadcastRow). x.subject)
      (get old.broadcasts (broadcast_key id attempt)) ≡ Some (row_was caller is.broadcast is.waits
      s)
  shown_row = due.rows_match.broadcasts id attempt
      ∙ ap (λ o. option_and_then (stored_broadcast s)
      (option_and_then (λ (v : Version). find (λ b. b.attempt == attempt) v.broadcasts) o)) is.found
      ∙ ap (option_and_then (stored_broadcast s)) is.sent ∙ stored_before caller is.broadcast
      is.waits s

  -- The broadcast has a row.
  pub broadcast_there : get old.broadcasts (broadcast_key id attempt) ≡ None → ⊥
  broadcast_there absent = let no_row : None ≡ Some (row_was caller is.broadcast is.waits s) =
      ap (of_subject s (λ (x : BroadcastRow). x.subject)) (sym absent) ∙ shown_row in cc

  -- The row is the one of the broadcast.
  pub broadcast_read : (row : BroadcastRow) → get old.broadcasts (broadcast_key id attempt)
      ≡ Some row → row ≡ row_was caller is.broadcast is.waits s
  broadcast_read row found =
      of_it (subject_eq row.subject s) (ap (of_subject s (λ (x : BroadcastRow). x.subject))
      (sym found) ∙ shown_row)
    where
      of_it : (b : Bool)
          → (if b then Some row else None) ≡ Some (row_was caller is.broadcast is.waits s)
          → row ≡ row_was caller is.broadcast is.waits s
      of_it true e = some_is row (row_was caller is.broadcast is.waits s) e
      of_it false e = let no : None ≡ Some (row_was caller is.broadcast is.waits s) = e in cc

-- ---- the record of the subject

abbrev record_after : (st : State) (caller id attempt : ℕ) (s : Subject) → Record
record_after st caller id attempt s = record {
  carriers = (record_now st s).carriers;
  versions = changed_at (set_now st) st.now
      (of_id id (acknowledged_by (set_now st) caller attempt st.now)) (record_now st s).versions;
}

acknowledged-record : (st : State) (caller id attempt : ℕ) (s : Subject)
    → record_now (accepted st (RequestFrom caller (AcknowledgementRequest id attempt))) s
    ≡ record_after st
    caller id attempt s
acknowledged-record st caller id attempt s =
    entered-record st caller (AcknowledgementRequest id attempt) s [] refl refl

-- ---- rows written

-- The version's own row, if it changes, is written last.
last_put : (w : WindowSet) (minute : ℕ) (s : Subject) (id k : ℕ) (row : VersionRow) (x : Bool)
    (o : Option Version) (before : Option VersionRow) →
    put_rows ◌==◌ (puts_of w minute s o ++ own_rows x id row) k before ≡ (if x && (id == k)
    then Some row else put_rows ◌==◌ (puts_of w minute s o) k before)
last_put w minute s id k row true o before = put_last w minute s id row o k before
last_put w minute s id k row false None before = refl
last_put w minute s id k row false (Some u) before = refl

module _ (st : State) (old : Content) (refines : Refines old st) (s : Subject)
    (due : IsSettled old st s) where
  -- Rows of other subjects stay.
  puts_apart : (takes_over : Bool) (id : ℕ) (v : Version)
      → version_with id (record_now st s) ≡ Some v → (row : VersionRow) (x : Bool) → row.subject ≡ s
      → (t : Subject) → subject_eq s t ≡ false → (k : ℕ) →
      of_subject t (λ (y : VersionRow). y.subject)
      (put_rows ◌==◌ (puts_of (set_now st) st.now s (the_replaced takes_over (record_now st s))
      ++ own_rows x id row) k (get old.versions k))
      ≡ of_subject t (λ (y : VersionRow). y.subject) (get old.versions k)
  puts_apart takes_over id v found row x of_s t apart k =
      ap (of_subject t (λ (y : VersionRow). y.subject)) (last_put (set_now st) st.now s id k row x
      (the_replaced takes_over (record_now st s)) (get old.versions k)) ∙ by_cases x (id == k) refl
    where
      stay : of_subject t (λ (y : VersionRow). y.subject) (replaced_row (set_now st) st.now s
          (record_now st s) old takes_over k) ≡ of_subject t (λ (y : VersionRow). y.subject)
          (get old.versions k)
      stay = retired_apart (set_now st) st.now s (made_now st) (record_now st s)
          old due.rows_match (given_now st refines.represents.history s) takes_over t apart k

      by_cases : (a b : Bool) → (id == k) ≡ b
          → of_subject t (λ (y : VersionRow). y.subject) (if a && b
          then Some row else replaced_row (set_now st) st.now s (record_now st s) old takes_over k)
          ≡ of_subject t (λ (y : VersionRow). y.subject) (get old.versions k)
      by_cases true true e = others s t (λ (y : VersionRow). y.subject) row of_s apart
          ∙ sym (none_apart old s t apart id k (row_of s v)
          (row_there (set_now st) s old (record_now st s) due.rows_match id v found) refl e)
      by_cases true false e = stay
      by_cases false b e = stay

-- ---- other tables

taken_hit : (s : Subject) (key here : BroadcastKey) (row : BroadcastRow)
    (before : Option BroadcastRow) (gone : Bool) → row.subject ≡ s → same_broadcast key here ≡ true
    →
    of_subject s (λ (x : BroadcastRow). x.subject) (delete_rows same_broadcast (if gone
    then key ∷ []
    else []) here (put_rows same_broadcast (if gone then [] else (key, row) ∷ []) here before))
    ≡ (if gone then None else Some row)
taken_hit s key here row before true of_s e =
    ap (λ b. of_subject s (λ (x : BroadcastRow). x.subject) (if b then None else before)) e
taken_hit s key here row before false of_s e =
    ap (λ b. of_subject s (λ (x : BroadcastRow). x.subject) (if b then Some row else before)) e
    ∙ own s (λ (x : BroadcastRow). x.subject) row of_s

taken_miss : (key here : BroadcastKey) (row : BroadcastRow) (before : Option BroadcastRow)
    (gone : Bool) → same_broadcast key here ≡ false →
    delete_rows same_broadcast (if gone then key ∷ []
    else []) here (put_rows same_broadcast (if gone
    then [] else (key, row) ∷ []) here before) ≡ before
taken_miss key here row before true e = ap (λ b. if b then None else before) e
taken_miss key here row before false e = ap (λ b. if b then Some row else before) e

-- All rows but those of versions are of this version.
one_version : (caller minute id attempt : ℕ) (last : Bool) (s : Subject) (row : BroadcastRow)
    → row.subject ≡ s
    → AreOfVersion id s (acknowledgement_changes caller minute id attempt last [] row)
one_version caller minute id attempt last s row of_s = record {
  carrier = refl;
  lrn = refl;
  code = refl;
  block = refl;
  set = refl;
  versions = tt;
  broadcasts = put (last && not row.is_open);
  waits = tt;
  deleted_broadcasts = taken (last && not row.is_open);
  deleted_waits = (refl, tt);
}
  where
    put : (b : Bool) → ArePutsOf (λ (k : BroadcastKey). k.id) (λ (x : BroadcastRow). x.subject) id s
        (if b then [] else (broadcast_key id attempt, row) ∷ [])
    put true = tt
    put false = (refl, of_s, tt)

    taken : (b : Bool) → AreKeysOf (λ (k : BroadcastKey). k.id) id (if b
        then broadcast_key id attempt ∷ [] else [])
    taken true = (refl, tt)
    taken false = tt

-- ---- an acknowledgement

module _ (st : State) (old new : Content) (refines : Refines old st) (caller : ℕ) (s : Subject)
    (due : IsSettled old st s) (minute id attempt : ℕ) (is : IsAwaited st caller s minute id
    attempt) (last : Bool)
    (last_one : last ≡ is_last_wait old (wait_key caller minute id attempt)) where
  abbrev change : Version → Version
  change = acknowledged_by (set_now st) caller attempt st.now

  tended : IsTended (record_now st s).carriers is.version
  tended = version_now tended_kept st refines.represents.history s id is.version is.found

  is_left : last ≡ is_empty (unacknowledged (acknowledged_one caller is.broadcast))
  is_left = last_one ∙ last_left st old refines caller s due minute id attempt is

  abbrev completes : Bool
  completes = last && (is.version.attempt == attempt)

  abbrev closes : Bool
  closes = completes && is_sending is.version.status

  abbrev takes_over : Bool
  takes_over = completes && sends_create is.version.status

  abbrev finished : Version
  finished = completed_if (set_now st) completes st.now (answered_all caller attempt st.now
      is.version)

  pub change_is : change is.version ≡ finished
  change_is = acknowledged_is caller attempt st.now is.version (record_now st s).carriers
      is.broadcast tended is.sent last is_left (set_now st)

  takes_over_is : (not (in_force is.version) && in_force (change is.version)) ≡ takes_over
  takes_over_is = takes_is caller attempt st.now is.version (record_now st s).carriers is.broadcast
      tended is.sent last is_left (set_now st)

  opens : (not (in_force is.version) && in_force (change is.version)) ≡ true
      → is_open s is.version ≡ true
  opens e = sends_create-open s is.version (and_both completes (sends_create is.version.status)
      (sym takes_over_is ∙ e)).1

  hit : version_with id (record_after st caller id attempt s) ≡ Some (change is.version)
  hit = version_after (set_now st) (made_now st) s st.now id change
      (acknowledged_id (set_now st) caller attempt st.now) (record_now st s).versions is.version
      (given_now st refines.represents.history s) (sound_now st refines.represents.history s)
      is.found
      opens

  miss : (k : ℕ) → (id == k) ≡ false → version_with k (record_after st caller id attempt s)
      ≡ option_map (retired (set_now st) takes_over st.now) (version_with k (record_now st s))
  miss k apart = others_after (set_now st) (made_now st) s st.now id change
      (acknowledged_id (set_now st) caller attempt st.now) (record_now st s).versions is.version
      (given_now st refines.represents.history s) (sound_now st refines.represents.history s)
      is.found
      opens k apart
      ∙ ap (λ b. option_map (retired (set_now st) b st.now) (version_with k (record_now st s)))
      takes_over_is

  abbrev the_row : BroadcastRow
  the_row = answered_row closes (row_was caller is.broadcast is.waits s)

  abbrev the_changes : List (ℕ × VersionRow) → Changes
  the_changes versions = acknowledgement_changes caller minute id attempt last versions the_row

  abbrev the_puts : List (ℕ × VersionRow)
  the_puts = puts_of (set_now st) st.now s (the_replaced takes_over (record_now st s)) ++ own_rows
      completes id (row_of s finished)

  module _ (changed : AppliesChanges (the_changes the_puts) old new) where
    version_at : (k : ℕ) (b : Bool) → (id == k) ≡ b
        → of_subject s (λ (x : VersionRow). x.subject) (get new.versions k) ≡ option_map (row_of s)
        (version_with k (record_after st caller id attempt s))
    version_at k x e = ap (of_subject s (λ (y : VersionRow). y.subject)) (changed.versions k
        ∙ last_put (set_now st) st.now s id k (row_of s finished) completes
        (the_replaced takes_over (record_now st s)) (get old.versions k)
        ∙ ap (λ b. if completes && b then Some (row_of s finished)
        else replaced_row (set_now st) st.now s (record_now st s) old takes_over k) e) ∙ at x e
      where
        mine : (id == k) ≡ true → (b : Bool) → completes ≡ b
            → of_subject s (λ (y : VersionRow). y.subject) (if b && true
            then Some (row_of s finished) else replaced_row (set_now st) st.now s (record_now st s)
            old (b && sends_create is.version.status) k) ≡ Some (row_of s finished)
        mine f true g = own s (λ (y : VersionRow). y.subject) (row_of s finished) refl
        mine f false g =
            due.rows_match.versions k ∙ ap (option_map (row_of s))
            (ap (λ n. version_with n (record_now st s)) (sym (equal_number id k f)) ∙ is.found)
            ∙ sym (ap (λ b. Some
            (row_of s (completed_if (set_now st) b st.now (answered_all caller attempt st.now
            is.version)))) g)

        never : (b : Bool) (o p : Option VersionRow) → (if b && false then o else p) ≡ p
        never true o p = refl
        never false o p = refl

        at : (b : Bool) → (id == k) ≡ b
            → of_subject s (λ (y : VersionRow). y.subject) (if completes && b
            then Some (row_of s finished) else replaced_row (set_now st) st.now s (record_now st s)
            old takes_over k)
            ≡ option_map (row_of s) (version_with k (record_after st caller id attempt s))
        at true f = mine f completes refl ∙ ap (λ u. Some (row_of s u)) (sym change_is)
            ∙ sym (ap (option_map (row_of s))
            (ap (λ n. version_with n (record_after st caller id attempt s))
            (sym (equal_number id k f)) ∙ hit))
        at false f =
            ap (of_subject s (λ (y : VersionRow). y.subject))
            (never completes (Some (row_of s finished)) (replaced_row (set_now st) st.now s
            (record_now st s) old takes_over k))
            ∙ retired_shows (set_now st) st.now s (made_now st) (record_now st s)
            old due.rows_match (given_now st refines.represents.history s)
            (one_in_force st old refines s)
            takes_over k
            ∙ sym (ap (option_map (row_of s)) (miss k f))

    -- All broadcasts but this one stay.
    same_elsewhere : (k a : ℕ) (x : Bool) → (id == k) ≡ x → (x && (attempt == a)) ≡ false
        → broadcast_with k a (record_after st caller id attempt s) ≡ broadcast_with k a
        (record_now st s)
    same_elsewhere k a false e apart =
        same_broadcast_with (record_now st s) (record_after st caller id attempt s) k
        (ap (option_map (λ (u : Version). u.broadcasts)) (miss k e)
        ∙ retired_broadcasts (set_now st) takes_over st.now (version_with k (record_now st s))) a
    same_elsewhere k a true e apart =
        ap (λ n. broadcast_with n a (record_after st caller id attempt s))
        (sym (equal_number id k e))
        ∙ ap (option_and_then (λ (v : Version). find (λ x. x.attempt == a) v.broadcasts)) hit
        ∙ other_broadcast caller attempt st.now is.version (record_now st s).carriers is.broadcast
        tended is.sent last is_left (set_now st) a apart
        ∙ sym (ap (option_and_then (λ (v : Version). find (λ x. x.attempt == a) v.broadcasts))
        is.found)
        ∙ ap (λ n. broadcast_with n a (record_now st s)) (equal_number id k e)

    this_after : broadcast_with id attempt (record_after st caller id attempt s)
        ≡ Some (answered_one caller is.broadcast is.waits closes)
    this_after =
        ap (option_and_then (λ (v : Version). find (λ x. x.attempt == attempt) v.broadcasts)) hit
        ∙ this_broadcast caller attempt st.now is.version (record_now st s).carriers is.broadcast
        tended is.sent last is_left (set_now st) is.waits

    at_key : (k a : ℕ) → ((id == k) && (attempt == a)) ≡ true → (record_now_or : Record)
        → broadcast_with k a record_now_or ≡ broadcast_with id attempt record_now_or
    at_key k a e x =
        let parts = and_both (id == k) (attempt == a) e in
        ap (λ n. broadcast_with n a x) (sym (equal_number id k parts.0))
        ∙ ap (λ n. broadcast_with id n x) (sym (equal_number attempt a parts.1))

    broadcast_at : (k a : ℕ) (x : Bool) → ((id == k) && (attempt == a)) ≡ x
        → of_subject s (λ (y : BroadcastRow). y.subject) (get new.broadcasts (broadcast_key k a))
        ≡ option_and_then (stored_broadcast s)
        (broadcast_with k a (record_after st caller id attempt s))
    broadcast_at k a true e =
        ap (of_subject s (λ (y : BroadcastRow). y.subject)) (changed.broadcasts (broadcast_key k a))
        ∙ taken_hit s (broadcast_key id attempt) (broadcast_key k a)
        the_row (get old.broadcasts (broadcast_key k a)) (last && not the_row.is_open)
        refl e
        ∙ sym (stored_after caller is.broadcast is.waits s last closes is_left)
        ∙ sym (ap (option_and_then (stored_broadcast s))
        (at_key k a e (record_after st caller id attempt s) ∙ this_after))
    broadcast_at k a false e =
        ap (of_subject s (λ (y : BroadcastRow). y.subject)) (changed.broadcasts (broadcast_key k a)
        ∙ taken_miss (broadcast_key id attempt) (broadcast_key k a)
        the_row (get old.broadcasts (broadcast_key k a)) (last && not the_row.is_open)
        e)
        ∙ due.rows_match.broadcasts k a
        ∙ sym (ap (option_and_then (stored_broadcast s)) (same_elsewhere k a (id == k) refl e))

    wait_at : (c m k a : ℕ) (x : Bool) → ((id == k) && (attempt == a)) ≡ x
        → of_subject s (λ t. t) (get new.waits (wait_key c m k a))
        ≡ option_and_then (stored_wait s c m)
        (broadcast_with k a (record_after st caller id attempt s))
    wait_at c m k a true e =
        ap (of_subject s (λ t. t)) (changed.waits (wait_key c m k a))
        ∙ joined (caller == c) (minute == m) (id == k) (attempt == a)
        (get old.waits (wait_key c m k a)) e
        ∙ ap (λ o. if (caller == c) && (minute == m) then None else o) was
        ∙ ap (λ n. if (caller == c) && (n == m) then None else stored_wait s c m is.broadcast)
        (sym is.sent_at)
        ∙ sym (waits_after caller is.broadcast is.waits s c m closes)
        ∙ sym (ap (option_and_then (stored_wait s c m))
        (at_key k a e (record_after st caller id attempt s) ∙ this_after))
      where
        joined : (p q y z : Bool) (o : Option Subject) → (y && z) ≡ true
            → of_subject s (λ t. t) (if ((p && q) && y) && z then None else o) ≡ (if p && q
            then None else of_subject s (λ t. t) o)
        joined true true true true o f = refl
        joined true false true true o f = refl
        joined false q true true o f = refl
        joined p q true false o f = cc
        joined p q false z o f = cc

        was : of_subject s (λ t. t) (get old.waits (wait_key c m k a)) ≡ stored_wait s c m
            is.broadcast
        was = due.rows_match.waits c m k a ∙ ap (option_and_then (stored_wait s c m))
            (at_key k a e (record_now st s)
            ∙ ap (option_and_then (λ (v : Version). find (λ x. x.attempt == attempt) v.broadcasts))
            is.found ∙ is.sent)
    wait_at c m k a false e =
        ap (of_subject s (λ t. t)) (changed.waits (wait_key c m k a)
        ∙ off ((caller == c) && (minute == m)) (id == k) (attempt == a)
        (get old.waits (wait_key c m k a)) e)
        ∙ due.rows_match.waits c m k a
        ∙ sym (ap (option_and_then (stored_wait s c m)) (same_elsewhere k a (id == k) refl e))
      where
        off : (p y z : Bool) (o : Option Subject) → (y && z) ≡ false
            → (if (p && y) && z then None else o) ≡ o
        off true true true o f = cc
        off true true false o f = refl
        off true false z o f = refl
        off false y z o f = refl

    own_shows : RowsMatch new s (record_after st caller id attempt s)
    own_shows = record {
      versions = λ k. version_at k (id == k) refl;
      broadcasts = λ k a. broadcast_at k a ((id == k) && (attempt == a)) refl;
      waits = λ c m k a. wait_at c m k a ((id == k) && (attempt == a)) refl;
    }

    -- ---- other subjects

    other_rows : (t : Subject) → subject_eq s t ≡ false → SameRows t old new
    other_rows t apart =
        let free : version_with id (record_now st t) ≡ None =
        none_elsewhere st refines.represents.history s t id is.version is.found apart in
        let middle : Content = record new { versions = old.versions } in
        let changed_rest : AppliesChanges (the_changes []) old middle = record {
          carriers = changed.carriers;
          lrns = changed.lrns;
          codes = changed.codes;
          blocks = changed.blocks;
          sets = changed.sets;
          versions = λ k. refl;
          broadcasts = changed.broadcasts;
          waits = changed.waits;
          clock = changed.clock;
        } in
        let rest : SameRows t old middle =
        lagging_aside st old middle (the_changes []) s id (one_version caller minute id attempt last
        s the_row refl) changed_rest t (refines.represents.subjects t) apart free in
        record {
          versions = λ k. ap (of_subject t (λ (x : VersionRow). x.subject)) (changed.versions k)
              ∙ puts_apart st old refines s due takes_over id is.version is.found
              (row_of s finished)
              completes refl t apart k;
          broadcasts = rest.broadcasts;
          waits = rest.waits;
        }

    pub acknowledged-leaves : FramesUnchanged old new st
        (RequestFrom caller (AcknowledgementRequest id attempt))
    acknowledged-leaves =
        leaves_but old new st (RequestFrom caller (AcknowledgementRequest id attempt)) s
        (of_id_found st s id is.version is.found) other_rows

    module _ (none : refusal st (RequestFrom caller (AcknowledgementRequest id attempt)) ≡ None)
        (clock : ClockRow) (clock_is : old.clock ≡ Some clock) where
      abbrev after_it : State
      after_it = accepted st (RequestFrom caller (AcknowledgementRequest id attempt))

      history_after : IsHistory st.windows after_it.history st.now
      history_after = (omega arith, tt, none, refines.represents.history)

      elsewhere : (t : Subject) → subject_eq s t ≡ false → record_now after_it t ≡ record_now st t
      elsewhere t apart = entered-elsewhere st caller (AcknowledgementRequest id attempt) t refl
          (none_with id (record_now st t).versions (none_elsewhere st refines.represents.history s t
          id is.version is.found apart))

      last_id : (b : ℕ) (x : Bool) → subject_eq s (Block b) ≡ x
          → option_map (λ (v : Version). v.id) (last_version (record_now after_it (Block b)))
          ≡ option_map (λ (v : Version). v.id) (last_version (record_now st (Block b)))
      last_id b false e = ap (λ (x : Record). option_map (λ (u : Version). u.id) (last_version x))
          (elsewhere (Block b) e)
      last_id b true e =
          subst (λ t. option_map (λ (x : Version). x.id) (last_version (record_now after_it t))
          ≡ option_map (λ (x : Version). x.id) (last_version (record_now st t)))
          (sym (same_subject s (Block b) e))
          (ap (λ (x : Record). option_map (λ (u : Version). u.id) (last_version x))
          (acknowledged-record st caller id attempt s)
          ∙ last-same (set_now st) st.now id change (acknowledged_id (set_now st) caller attempt
          st.now) (record_now st s).versions)

      here : (t : Subject) → subject_eq s t ≡ true → IsSettled new after_it t
      here t e = subst (IsSettled new after_it) (sym (same_subject s t e)) (record {
        rows_match = subst (RowsMatch new s) (sym (acknowledged-record st caller id attempt s))
            own_shows;
        quiet = subst (λ (x : Record). IsQuiet st.now x.versions)
            (sym (acknowledged-record st caller id attempt s)) (acknowledging-quiet (set_now st)
            st.now caller id attempt (record_now st s).versions due.quiet);
      })

      registry : RegistryShows new after_it
      registry = record {
        clock = clock_same st caller (AcknowledgementRequest id attempt) s id is.version
            (acknowledge-names id attempt s) refines.represents.history is.found refl old new
            refines
            changed.clock;
        written = ap is_some changed.clock ∙ refines.written;
        carriers = λ k. ap is_some (changed.carriers k) ∙ refines.represents.carriers k;
        lrns = λ k. changed.lrns k ∙ refines.represents.lrns k;
        codes = λ k. changed.codes k ∙ refines.represents.codes k;
        blocks = λ b. changed.blocks b ∙ refines.represents.blocks b
            ∙ sym (ap (λ o. option_map (λ donor. let row : BlockRow =
            record { donor = donor; last = o } in row) (donor_of b st.history))
            (last_id b (subject_eq s (Block b)) refl));
      }

      pub acknowledged-stands : Refines new after_it
      acknowledged-stands =
          touched-stands st old new caller (AcknowledgementRequest id attempt) (subject_eq s)
          refines none tt
          refl changed.sets registry (λ t e. (elsewhere t e, other_rows t e)) here

      pub acknowledged-answer : (view : View) → view ≡ view_of after_it (record {
        subject = s;
        version = finished;
      }) → Shown (Some view) ≡ answer_of st after_it
          (RequestFrom caller (AcknowledgementRequest id attempt))
      acknowledged-answer view seen =
          ap (λ x. Shown (Some x)) seen
          ∙ ap (λ x. Shown (Some (view_of after_it (record { subject = s; version = x }))))
          (sym change_is)
          ∙ sym (shown_is after_it s id (change is.version) history_after
          (ap (version_with id) (acknowledged-record st caller id attempt s) ∙ hit))
