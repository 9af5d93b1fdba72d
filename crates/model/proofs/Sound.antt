-- Every reachable state is sound: each subject has at most one version in force and at most one
-- open.
use Rattle.std.proofs.Common.{◌≡◌, ℕ, suc, ◌≤◌, Bool, true, false, ◌&&◌, List, ◌∷◌, ◌++◌, map, Option, Some, None, refl, ap, ◌∙◌}
use Rattle.std.specs.Prelude.{if◌then◌else◌, ◌==◌}
use Rattle.numbers.specs.Subjects.{subject_eq, Subject, Number, Block}
use Rattle.model.specs.Commands.{VersionCommand, RegisterCarrier, OldProviderCreate, NewProviderCreate, OnVersion, Donate, Assign, Release}
use Rattle.model.specs.Statuses.{Delete}
use Rattle.model.specs.Statuses.{Status, Pending, CancelPending}
use Rattle.model.specs.declared.words.Side.TheVariants.{OldProvider}
use Rattle.model.specs.Windows.{Windows, WindowSet}
use Rattle.model.specs.Versions.{Version, Record, in_force}
use Rattle.model.specs.Changes.{next_attempt, completed, acknowledged_by, nobody_is_missing, acknowledged_broadcast, changed_at}
use Rattle.model.specs.Judge.{is_expired, version_on_expiry, judged_version, judge}
use Rattle.model.specs.History.{Request, Entry, CommandRequest, AcknowledgementRequest, subjects_made, version_after_request, version_after_command, with_old_create, with_new_create, lacks_old_create, lacks_new_create, made_version, subjects_made_by, id_among, subject_of_id, next_after, with_made, donor_of, assigned_block, effect, replay_step, replay_of, replay, HasValues, present_set}
use Rattle.model.proofs.Lists.{everywhere}
use Rattle.numbers.proofs.Small.{true-false}
use Rattle.model.proofs.Changed.{changed_by}
use Rattle.model.specs.State.{State, record_now, set_now, next_of, made_now}
use Rattle.model.specs.Refusals.{RequestFrom, refusal}
use Rattle.model.specs.Machine.{IsHistory}
use Rattle.model.proofs.Accepted.{accepted_command}
use Rattle.model.specs.Sound.{is_block, AreSound}
use Rattle.model.proofs.Unique.{changed-sound_by_status, judge-sound}
use Rattle.model.proofs.Kept.{record_after, kept}
use Rattle.model.proofs.Ids.{AreGiven, AreGiven-append, changed-AreGiven, fresh, given-after, id_among-from, id_among-given}
use Rattle.model.specs.Concerns.{has_id}
use Rattle.model.proofs.Entries.{version-sound, acknowledge-respects, register-respects, old_create-respects, new_create-respects, release-sound, all_keep}
use Rattle.model.proofs.Made.{HasRoom, made-sound, old_create-room, new_create-room, assign-room}
use Rattle.model.proofs.Donated.{donate-room}

-- ---- what stays of each version

-- Holds if the version keeps its id, and whether it is protective.
pub record IsSame (u v : Version) : Type 0 where
  pub id : u.id ≡ v.id
  pub protective : u.protective ≡ v.protective

itself : (v : Version) → IsSame v v
itself v = record { id = refl; protective = refl }

either_same : (b : Bool) (u w v : Version) → IsSame u v → IsSame w v → IsSame (if b then u else w) v
either_same true u w v e f = e
either_same false u w v e f = f

version_on_expiry-same : (w : WindowSet) (all_carriers : List ℕ) (j : ℕ) (v : Version)
    (status : Status)
    → IsSame (version_on_expiry w all_carriers j v status) v
version_on_expiry-same w all_carriers j v (CancelPending OldProvider) =
    record { id = refl; protective = refl }
version_on_expiry-same w all_carriers j v _ = record { id = refl; protective = refl }

pub version_on_expiry-id : (w : WindowSet) (all_carriers : List ℕ) (j : ℕ) (v : Version)
    (status : Status)
    → (version_on_expiry w all_carriers j v status).id ≡ v.id
version_on_expiry-id w all_carriers j v status =
    (version_on_expiry-same w all_carriers j v status).id

pub judged_version-same : (w : WindowSet) (all_carriers : List ℕ) (j : ℕ) (v : Version)
    → IsSame (judged_version w all_carriers j v) v
unfolding judged_version
judged_version-same w all_carriers j v =
    either_same (is_expired j v v.status) (version_on_expiry w all_carriers j v v.status) v v
    (version_on_expiry-same w all_carriers j v v.status) (itself v)

pub judged_version-id : (w : WindowSet) (all_carriers : List ℕ) (j : ℕ) (v : Version)
    → (judged_version w all_carriers j v).id ≡ v.id
judged_version-id w all_carriers j v = (judged_version-same w all_carriers j v).id

completed-same : (w : WindowSet) (status : Status) (minute : ℕ) (u v : Version) → IsSame u v
    → IsSame (completed w status minute u) v
completed-same w Pending minute u v is = is
completed-same w _ minute u v is = record { id = is.id; protective = is.protective }

old_create-same : (w : WindowSet) (authorized : Bool) (minute : ℕ) (v : Version)
    → IsSame (with_old_create w authorized minute v) v
old_create-same w true minute v = record { id = refl; protective = refl }
old_create-same w false minute v = record { id = refl; protective = refl }

acknowledged-same : (w : WindowSet) (c attempt minute : ℕ) (v : Version)
    → IsSame (acknowledged_by w c attempt minute v) v
acknowledged-same w c attempt minute v =
    either_same (nobody_is_missing (map (acknowledged_broadcast c attempt) v.broadcasts))
    (completed w v.status minute (record v {
      broadcasts = map (acknowledged_broadcast c attempt) v.broadcasts;
    }))
    (record v { broadcasts = map (acknowledged_broadcast c attempt) v.broadcasts }) v
    (completed-same w v.status minute (record v {
      broadcasts = map (acknowledged_broadcast c attempt) v.broadcasts;
    }) v (record { id = refl; protective = refl })) (record { id = refl; protective = refl })

changed-same : (w : WindowSet) (caller minute : ℕ) (all_carriers : List ℕ) (c : VersionCommand)
    (v : Version) → IsSame (version_after_command w caller minute all_carriers c v) v
changed-same w caller minute all_carriers c v =
    changed_by w (λ (u : Version). IsSame u v) caller minute all_carriers v c (itself v)
    (λ status spent is. record { id = refl; protective = refl }) (λ is release. record {
      id = refl;
      protective = refl;
    }) (λ is action. record { id = refl; protective = refl })

pub version_after_request-same : (w : WindowSet) (s : Subject) (caller minute : ℕ)
    (all_carriers : List ℕ)
    (request : Request) (v : Version)
    → IsSame (version_after_request w s caller minute all_carriers request v) v
version_after_request-same w s caller minute all_carriers (CommandRequest (RegisterCarrier spid))
    v =
    record { id = refl; protective = refl }
version_after_request-same w s caller minute all_carriers
    (CommandRequest (OldProviderCreate tn old_provider new_provider due authorized)) v =
    either_same (subject_eq s (Number tn) && lacks_old_create old_provider new_provider v)
    (with_old_create w authorized minute v) v v (old_create-same w authorized minute v) (itself v)
version_after_request-same w s caller minute all_carriers
    (CommandRequest (NewProviderCreate tn old_provider new_provider due lrn cic)) v =
    either_same (subject_eq s (Number tn) && lacks_new_create old_provider new_provider v)
    (with_new_create (record { lrn = lrn; cic = cic }) minute v) v v (record {
      id = refl;
      protective = refl;
    }) (itself v)
version_after_request-same w s caller minute all_carriers (CommandRequest (OnVersion id c)) v =
    either_same (v.id == id) (version_after_command w caller minute all_carriers c v) v v
    (changed-same w caller minute all_carriers c v) (itself v)
version_after_request-same w s caller minute all_carriers (CommandRequest (Release block)) v =
    either_same (subject_eq s (Block block) && in_force v) (next_attempt w Delete all_carriers
    minute v) v v
    (record { id = refl; protective = refl }) (itself v)
version_after_request-same w s caller minute all_carriers (AcknowledgementRequest id attempt) v =
    either_same (v.id == id) (acknowledged_by w caller attempt minute v) v v
    (acknowledged-same w caller attempt minute v) (itself v)
version_after_request-same w s caller minute all_carriers _ v = itself v

pub version_after_request-id : (w : WindowSet) (s : Subject) (caller minute : ℕ)
    (all_carriers : List ℕ)
    (request : Request) (v : Version)
    → (version_after_request w s caller minute all_carriers request v).id ≡ v.id
version_after_request-id w s caller minute all_carriers request v =
    (version_after_request-same w s caller minute all_carriers request v).id

pub made_version-id : (w : WindowSet) (id caller minute : ℕ) (all_carriers : List ℕ)
    (donor : Option ℕ)
    (request : Request) → (made_version w id caller minute all_carriers donor request).id ≡ id
made_version-id w id caller minute all_carriers donor
    (CommandRequest (OldProviderCreate tn old_provider new_provider due true)) = refl
made_version-id w id caller minute all_carriers donor
    (CommandRequest (OldProviderCreate tn old_provider new_provider due false)) = refl
made_version-id w id caller minute all_carriers donor _ = refl

pub judge-given : (made : List Subject) (s : Subject) (w : WindowSet) (j : ℕ) (r : Record)
    → AreGiven made s r.versions → AreGiven made s (judge w j r).versions
unfolding judge
judge-given made s w j r given =
    changed-AreGiven w made s j (judged_version w r.carriers j) r.versions
    (everywhere (judged_version-id w r.carriers j) r.versions) given

-- ---- one entry

module _ (st : State) (s : Subject) (given : AreGiven (made_now st) s
    (record_now st s).versions) (sound : AreSound s (record_now st s).versions) where
  -- The existing versions stay sound.
  entry-sound : (caller : ℕ) (all_carriers : List ℕ) (request : Request)
      → refusal st (RequestFrom caller request) ≡ None →
      AreSound s (changed_at (set_now st) st.now (version_after_request (set_now st) s caller st.now
      all_carriers
      request) (record_now st s).versions)
  entry-sound caller all_carriers (CommandRequest (RegisterCarrier spid)) ok =
      changed-sound_by_status (set_now st) s st.now _ _ (register-respects st s given caller spid
      all_carriers) sound
  entry-sound caller all_carriers
      (CommandRequest (OldProviderCreate tn old_provider new_provider due authorized)) ok =
      changed-sound_by_status (set_now st) s st.now _ _ (old_create-respects (set_now st) s caller
      st.now all_carriers tn old_provider new_provider due authorized (record_now st s).versions)
      sound
  entry-sound caller all_carriers (CommandRequest (NewProviderCreate tn old_provider new_provider
      due lrn
      cic)) ok = changed-sound_by_status (set_now st) s st.now _ _ (new_create-respects (set_now st)
      s caller st.now all_carriers tn old_provider new_provider due lrn cic
      (record_now st s).versions)
      sound
  entry-sound caller all_carriers (CommandRequest (OnVersion id c)) ok =
      version-sound st s given caller id all_carriers c (accepted_command st caller (OnVersion id c)
      ok)
      sound
  entry-sound caller all_carriers (CommandRequest (Release block)) ok =
      release-sound st s caller block all_carriers (accepted_command st caller (Release block) ok)
      sound
  entry-sound caller all_carriers (AcknowledgementRequest id attempt) ok =
      changed-sound_by_status (set_now st) s st.now _ _ (acknowledge-respects st s given caller id
      attempt all_carriers) sound
  entry-sound caller all_carriers _ ok =
      changed-sound_by_status (set_now st) s st.now _ _ (all_keep s (λ v. v) (λ v. refl)
      (record_now st s).versions) sound

  -- They stay sound with the new version before them.
  new-sound : (caller : ℕ) (all_carriers : List ℕ) (donor : Option ℕ) (first id : ℕ)
      (request : Request)
      → HasValues request → refusal st (RequestFrom caller request) ≡ None →
      id_among s first (subjects_made_by request (record_now st)) ≡ Some id →
      AreSound s (made_version (set_now st) id caller st.now all_carriers donor request ∷ changed_at
      (set_now st) st.now (version_after_request (set_now st) s caller st.now all_carriers request)
      (record_now st s).versions)
  new-sound caller all_carriers donor first id
      (CommandRequest (OldProviderCreate tn old_provider new_provider due authorized)) lines ok
      made =
      let room : (is_block s ≡ false) × HasRoom s (record_now st s).versions =
      old_create-room st caller s first id tn old_provider new_provider due authorized
      (accepted_command st caller (OldProviderCreate tn old_provider new_provider due authorized)
      ok) made sound in
      made-sound (set_now st) s st.now (version_after_request (set_now st) s caller st.now
      all_carriers
      (CommandRequest (OldProviderCreate tn old_provider new_provider due authorized)))
      (record_now st s).versions (made_version (set_now st) id caller st.now all_carriers donor
      (CommandRequest (OldProviderCreate tn old_provider new_provider due authorized)))
      (old_create-respects (set_now st) s caller st.now all_carriers tn old_provider new_provider
      due
      authorized (record_now st s).versions) room.1 (out authorized)
      (λ is. true-false (is_block s) is room.0)
    where
      out : (a : Bool)
          → in_force (made_version (set_now st) id caller st.now all_carriers donor
          (CommandRequest (OldProviderCreate tn old_provider new_provider due a))) ≡ false
      out true = refl
      out false = refl
  new-sound caller all_carriers donor first id
      (CommandRequest (NewProviderCreate tn old_provider new_provider due lrn cic)) lines ok made =
      let room : (is_block s ≡ false) × HasRoom s (record_now st s).versions =
      new_create-room st caller s first id tn old_provider new_provider due lrn cic
      (accepted_command st caller (NewProviderCreate tn old_provider new_provider due lrn cic) ok)
      made sound in
      made-sound (set_now st) s st.now (version_after_request (set_now st) s caller st.now
      all_carriers
      (CommandRequest (NewProviderCreate tn old_provider new_provider due lrn cic)))
      (record_now st s).versions (made_version (set_now st) id caller st.now all_carriers donor
      (CommandRequest (NewProviderCreate tn old_provider new_provider due lrn cic)))
      (new_create-respects (set_now st) s caller st.now all_carriers tn old_provider new_provider
      due
      lrn cic (record_now st s).versions) room.1 refl (λ is. true-false (is_block s) is room.0)
  new-sound caller all_carriers donor first id (CommandRequest (Donate block used lrn cic)) lines ok
      made =
      let room : (is_block s ≡ false) × HasRoom s (record_now st s).versions =
      donate-room st caller s first id block used lrn cic lines
      (accepted_command st caller (Donate block used lrn cic) ok) made given sound in
      made-sound (set_now st) s st.now (λ v. v) (record_now st s).versions
      (made_version (set_now st) id caller st.now all_carriers donor
      (CommandRequest (Donate block used lrn cic)))
      (all_keep s (λ v. v) (λ v. refl) (record_now st s).versions) room.1 refl
      (λ is. true-false (is_block s) is room.0)
  new-sound caller all_carriers donor first id (CommandRequest (Assign block holder lrn cic)) lines
      ok made =
      made-sound (set_now st) s st.now (λ v. v) (record_now st s).versions
      (made_version (set_now st) id caller st.now all_carriers donor
      (CommandRequest (Assign block holder lrn cic)))
      (all_keep s (λ v. v) (λ v. refl) (record_now st s).versions) (assign-room st caller s first id
      block holder lrn cic (accepted_command st caller (Assign block holder lrn cic) ok) made sound)
      refl (λ is. refl)
  new-sound caller all_carriers donor first id _ lines ok made = cc

  changed-given : (caller : ℕ) (all_carriers : List ℕ) (request : Request)
      → AreGiven (made_now st) s (changed_at (set_now st) st.now
      (version_after_request (set_now st) s caller st.now all_carriers request)
      (record_now st s).versions)
  changed-given caller all_carriers request =
      changed-AreGiven (set_now st) (made_now st) s st.now
      (version_after_request (set_now st) s caller st.now all_carriers request)
      (record_now st s).versions
      (everywhere (version_after_request-id (set_now st) s caller st.now all_carriers request)
      (record_now st s).versions) given

  -- The versions after an entry are sound, and have the ids that were given to s.
  entered : (caller : ℕ) (all_carriers : List ℕ) (donor : Option ℕ) (request : Request)
      → HasValues request → refusal st (RequestFrom caller request) ≡ None →
      (o : Option ℕ) → id_among s (next_of st)
      (subjects_made_by request (record_now st)) ≡ o →
      AreSound s (with_made o (λ id. made_version (set_now st) id caller st.now all_carriers donor
      request) (changed_at (set_now st) st.now (version_after_request (set_now st) s caller st.now
      all_carriers
      request) (record_now st s).versions))
      × AreGiven (made_now st ++ subjects_made_by request (record_now st)) s
      (with_made o (λ id. made_version (set_now st) id caller st.now all_carriers donor request)
      (changed_at (set_now st) st.now (version_after_request (set_now st) s caller st.now
      all_carriers request)
      (record_now st s).versions))
  entered caller all_carriers donor request lines ok None unmade = (
    entry-sound caller all_carriers request ok,
    AreGiven-append (made_now st) (subjects_made_by request (record_now st)) s _
        (changed-given caller all_carriers request),
  )
  entered caller all_carriers donor request lines ok (Some id) made =
      let first : ℕ = next_of st in
      let past : first ≤ id =
      id_among-from s (next_of st) id
      (subjects_made_by request (record_now st)) made in (
        new-sound caller all_carriers donor (next_of st) id request
            lines ok made,
        (
          ap (λ k. subject_of_id k 1 (made_now st ++ subjects_made_by request
              (record_now st))) (made_version-id (set_now st) id caller st.now all_carriers donor
              request)
              ∙ given-after id 1 (made_now st) (subjects_made_by request (record_now st))
              past
              ∙ id_among-given s (next_of st) id
              (subjects_made_by request (record_now st)) made,
          ap (λ k. has_id k (changed_at (set_now st) st.now (version_after_request (set_now st) s
              caller st.now
              all_carriers request) (record_now st s).versions)) (made_version-id (set_now st) id
              caller
              st.now all_carriers donor request)
              ∙ fresh (made_now st) s (changed_at (set_now st) st.now
              (version_after_request (set_now st) s caller st.now all_carriers request)
              (record_now st s).versions) id
              (changed-given caller all_carriers request) past,
          AreGiven-append (made_now st) (subjects_made_by request (record_now st)) s _
              (changed-given caller all_carriers request),
        ),
      )

-- ---- every history

module _ (w : Windows) (s : Subject) where
  abbrev SoundWith : List Subject → List Version → Type 0
  SoundWith made vs = AreSound s vs × AreGiven made s vs

  entry_kept : (h : List Entry) (e : Entry) → IsHistory w (e ∷ h) e.minute
      → SoundWith (subjects_made w h) (replay w s h e.minute).versions
      → SoundWith (subjects_made w (e ∷ h)) (record_after w s h e).versions
  unfolding replay_of replay_step effect
  entry_kept h e is before =
      entered (record { windows = w; history = h; now = e.minute }) s before.1 before.0 e.caller
      (replay w s h e.minute).carriers (donor_of (assigned_block e.request) h) e.request is.1 is.2
      (id_among s (next_after (subjects_made w h))
      (subjects_made_by e.request (λ t. replay w t h e.minute))) refl

  -- A subject's record is sound, and its ids are those that were given to it.
  pub replay-sound : (h : List Entry) (now : ℕ) → IsHistory w h now
      → SoundWith (subjects_made w h) (replay w s h now).versions
  replay-sound = kept w s (λ h m r. SoundWith (subjects_made w h) r.versions) (record {
    first = λ m. (tt, tt);
    minute = λ h m is before. (
      judge-sound s (present_set w h) (suc m) (replay w s h m) before.0,
      judge-given (subjects_made w h) s (present_set w h) (suc m) (replay w s h m) before.1,
    );
    entry = entry_kept;
  })
