-- The register's queue of a carrier, and the pending downloads of one subject in it.
use Rattle.std.proofs.Common.{◌≡◌, ℕ, inl, inr, zero, suc, ◌<◌, Bool, true, false, not, ◌&&◌, List, [], ◌∷◌, length, Option, Some, None, refl, ap, sym, ◌∙◌, subst, arith}
use Rattle.std.specs.Prelude.{◌==◌, find, is_none, option_and_then, if◌then◌else◌, is_some, All, slice_index_or}
use Rattle.std.specs.List.{list_any}
use Rattle.std.specs.FinMap.{get}
use Rattle.numbers.specs.Subjects.{Subject, subject_eq}
use Rattle.model.specs.Versions.{Broadcast, Version, is_among, version_with, waiters}
use Rattle.model.specs.History.{AcknowledgementRequest}
use Rattle.model.specs.State.{State, SubjectVersion, Download, record_now, is_carrier, version_of_id, download, is_before, queue}
use Rattle.model.specs.Refusals.{RequestFrom, refusal, tests, first_refusal, no_version, is_download, is_not_among, is_preceded}
use Rattle.model.specs.Content.{Content, VersionRow, of_subject, stored_wait, broadcast_with, row_of, wait_key}
use Rattle.model.proofs.Entered.{found_is}
use Rattle.model.proofs.Ids.{same_subject}
use Rattle.numbers.proofs.Small.{equal_number, and_both, same_number, same_truth}
use Rattle.model.proofs.Lagging.{no_row_now}
use Rattle.model.proofs.Shown.{id_found, some_is, own}
use Rattle.model.proofs.Tended.{AreApart, tended_kept}
use Rattle.model.proofs.KeptVersions.{version_now}
use Rattle.model.proofs.Queues.{found_by_attempt}
use Rattle.model.proofs.Copies.Queue.{queued-from, queued-to}
use Rattle.model.proofs.Lists.{Among, any_there, there_any, found-among}
use Rattle.delivery.specs.declared.download.DownloadKey.{DownloadKey}
use Rattle.delivery.specs.Queues.{IsKeyOf, is_key, is_earlier, has_earlier, is_missing, is_behind, key_refusal}
use Rattle.delivery.proofs.Queues.{key_same, before_same}
use Rattle.settle.specs.Reads.{IsWaiting, AreWaitsAbout}
use Rattle.settle.specs.Settling.{IsSettled}
use Rattle.register.specs.Refinement.{Refines}
use Rattle.register.proofs.EveryCall.Settled.{IdSettled, row_now, row_settled}

-- ---- pending downloads

-- Holds if the carrier has not acknowledged this attempt, sent at the minute, of the version in the
-- subject's record.
pub record IsAwaited (st : State) (carrier : ℕ) (s : Subject) (minute id attempt : ℕ) : Type 0 where
  pub version : Version
  pub broadcast : Broadcast
  pub found : version_with id (record_now st s) ≡ Some version
  pub sent : find (λ b. b.attempt == attempt) version.broadcasts ≡ Some broadcast
  pub sent_at : broadcast.minute ≡ minute
  pub waits : is_among carrier (waiters broadcast) ≡ true

module _ (st : State) (c : Content) (refines : Refines c st) (carrier : ℕ) where
  -- Downloads pending by the rows of the subject are pending in its record.
  pub waiting-awaited : (s : Subject) → IsSettled c st s → (minute id attempt : ℕ)
      → IsWaiting c carrier s minute id attempt → IsAwaited st carrier s minute id attempt
  waiting-awaited s due minute id attempt is =
      by_cases (version_with id (record_now st s)) refl shown
    where
      shown : Some s ≡ option_and_then (stored_wait s carrier minute)
          (broadcast_with id attempt (record_now st s))
      shown = sym (own s (λ t. t) s refl) ∙ ap (of_subject s (λ t. t)) (sym is)
          ∙ due.rows_match.waits carrier minute id attempt

      taken : (v : Version) → version_with id (record_now st s) ≡ Some v → (b : Broadcast)
          → find (λ x. x.attempt == attempt) v.broadcasts ≡ Some b → (k : Bool) →
          ((b.minute == minute) && is_among carrier (waiters b)) ≡ k
          → Some s ≡ (if k then Some s else None) → IsAwaited st carrier s minute id attempt
      taken v found b sent true both e =
          let parts = and_both (b.minute == minute) (is_among carrier (waiters b)) both in
          record {
            version = v;
            broadcast = b;
            found = found;
            sent = sent;
            sent_at = equal_number b.minute minute parts.0;
            waits = parts.1;
          }
      taken v found b sent false both e = cc

      of_version : (v : Version) → version_with id (record_now st s) ≡ Some v
          → (o : Option Broadcast) → find (λ x. x.attempt == attempt) v.broadcasts ≡ o
          → Some s ≡ option_and_then (stored_wait s carrier minute) o →
          IsAwaited st carrier s minute id attempt
      of_version v found None sent e = cc
      of_version v found (Some b) sent e =
          taken v found b sent ((b.minute == minute) && is_among carrier (waiters b)) refl e

      by_cases : (o : Option Version) → version_with id (record_now st s) ≡ o
          → Some s ≡ option_and_then (stored_wait s carrier minute)
          (option_and_then (λ (v : Version). find (λ x. x.attempt == attempt) v.broadcasts) o) →
          IsAwaited st carrier s minute id attempt
      by_cases None found e = cc
      by_cases (Some v) found e = of_version v found (find (λ x. x.attempt == attempt) v.broadcasts)
          refl
          e

  pub awaited-waiting : (s : Subject) → IsSettled c st s → (minute id attempt : ℕ)
      → IsAwaited st carrier s minute id attempt → IsWaiting c carrier s minute id attempt
  awaited-waiting s due minute id attempt is =
      by_cases (get c.waits (wait_key carrier minute id attempt)) refl
    where
      stored : stored_wait s carrier minute is.broadcast ≡ Some s
      stored = ap (λ m. if (m == minute) && is_among carrier (waiters is.broadcast) then Some s
          else None) is.sent_at
          ∙ ap (λ b. if b && is_among carrier (waiters is.broadcast) then Some s
          else None) (same_number minute) ∙ ap (λ b. if b then Some s else None) is.waits

      shown : of_subject s (λ t. t) (get c.waits (wait_key carrier minute id attempt)) ≡ Some s
      shown = due.rows_match.waits carrier minute id attempt
          ∙ ap (λ o. option_and_then (stored_wait s carrier minute)
          (option_and_then (λ (v : Version). find (λ x. x.attempt == attempt) v.broadcasts) o))
          is.found
          ∙ ap (option_and_then (stored_wait s carrier minute)) is.sent ∙ stored

      of_it : (t : Subject) → (b : Bool) → (if b then Some t else None) ≡ Some s → Some t ≡ Some s
      of_it t true e = e
      of_it t false e = cc

      by_cases : (o : Option Subject) → get c.waits (wait_key carrier minute id attempt) ≡ o →
          get c.waits (wait_key carrier minute id attempt) ≡ Some s
      by_cases None e = let no : None ≡ Some s = sym (ap (of_subject s (λ t. t)) e) ∙ shown in cc
      by_cases (Some t) e =
          e ∙ of_it t (subject_eq t s) (sym (ap (of_subject s (λ u. u)) e) ∙ shown)

  -- ---- the queue

  abbrev pub the_download : (s : Subject) (minute id attempt : ℕ)
      → IsAwaited st carrier s minute id attempt → Download
  the_download s minute id attempt is =
      download (record { subject = s; version = is.version }) is.broadcast

  pub attempt_is : (s : Subject) (minute id attempt : ℕ) (is : IsAwaited st carrier s minute id
      attempt) → is.broadcast.attempt ≡ attempt
  attempt_is s minute id attempt is =
      equal_number is.broadcast.attempt attempt
      (found-among (λ (b : Broadcast). b.attempt == attempt) is.version.broadcasts is.broadcast
      is.sent).1

  pub id_is : (s : Subject) (minute id attempt : ℕ) (is : IsAwaited st carrier s minute id attempt)
      → is.version.id ≡ id
  id_is s minute id attempt is = id_found id (record_now st s).versions is.version is.found

  pub awaited-queued : (s : Subject) (minute id attempt : ℕ) (is : IsAwaited st carrier s minute id
      attempt) → Among (the_download s minute id attempt is) (queue st carrier)
  awaited-queued s minute id attempt is =
      queued-to st refines.represents.history s carrier is.version is.broadcast
      (found-among (λ (v : Version). v.id == id) (record_now st s).versions is.version is.found).0
      (found-among (λ (b : Broadcast). b.attempt == attempt) is.version.broadcasts is.broadcast
      is.sent).0 is.waits

  pub queued-awaited : (d : Download) → Among d (queue st carrier)
      → IsAwaited st carrier d.subject d.minute d.id d.attempt
  queued-awaited d there =
      let q = queued-from st carrier d there in
      let s : Subject = q.at.subject in
      let v : Version = q.at.version in
      let apart : AreApart v.broadcasts = (version_now tended_kept st refines.represents.history s
      q.id v q.found).apart in
      let is : IsAwaited st carrier s q.broadcast.minute v.id q.broadcast.attempt = record {
        version = v;
        broadcast = q.broadcast;
        found = subst (λ k. version_with k (record_now st s) ≡ Some v)
            (sym (id_found q.id (record_now st s).versions v q.found)) q.found;
        sent = found_by_attempt v.broadcasts q.broadcast apart q.sent;
        sent_at = refl;
        waits = q.waits;
      } in
      subst (λ (x : Download). IsAwaited st carrier x.subject x.minute x.id x.attempt) (sym q.is) is

  -- ---- the downloads of one subject

  module _ (s : Subject) (due : IsSettled c st s) (keys : List DownloadKey)
      (are : AreWaitsAbout c carrier s keys) where
    all_among : (P : DownloadKey → Type 0) (ks : List DownloadKey) → All P ks → (k : DownloadKey)
        → Among k ks → P k
    all_among P [] all k is = absurd is
    all_among P (x ∷ xs) all k (inl e) = subst P (sym e) (all 0 x (omega arith))
    all_among P (x ∷ xs) all k (inr is) =
        all_among P xs (λ n d lt. all (suc n) d (omega (arith, lt))) k is

    contained : (ks : List DownloadKey) (k : DownloadKey) (n : ℕ) → n < length ks
        → slice_index_or ks n k ≡ k → Among k ks
    contained [] k n lt at = absurd (omega (arith, lt))
    contained (x ∷ xs) k zero lt at = inl (sym at)
    contained (x ∷ xs) k (suc n) lt at = inr (contained xs k n (omega (arith, lt)) at)

    -- The download of each key is in the queue.
    pub key-awaited : (k : DownloadKey) → Among k keys
        → IsAwaited st carrier s k.minute.number k.id k.attempt
    key-awaited k is =
        waiting-awaited s due k.minute.number k.id k.attempt
        (all_among (λ d. IsWaiting c carrier s d.minute.number d.id d.attempt) keys are.only k is)

    of_key : (k : DownloadKey) (is : IsAwaited st carrier s k.minute.number k.id k.attempt)
        → IsKeyOf s k (the_download s k.minute.number k.id k.attempt is)
    of_key k is = record {
      subject = refl;
      minute = is.sent_at;
      id = id_is s k.minute.number k.id k.attempt is;
      attempt = attempt_is s k.minute.number k.id k.attempt is;
    }

    key-queued : (k : DownloadKey) → Among k keys → (d : Download) × Among d (queue st carrier)
        × IsKeyOf s k d
    key-queued k is =
        let awaited = key-awaited k is in (
          the_download s k.minute.number k.id k.attempt awaited,
          awaited-queued s k.minute.number k.id k.attempt awaited,
          of_key k awaited,
        )

    -- Each download of the subject in the queue has its key.
    queued-key : (d : Download) → Among d (queue st carrier) → d.subject ≡ s → (k : DownloadKey)
        × Among k keys × IsKeyOf s k d
    queued-key d is of_it =
        let awaited : IsAwaited st carrier s d.minute d.id d.attempt =
        subst (λ t. IsAwaited st carrier t d.minute d.id d.attempt) of_it (queued-awaited d is) in
        let key = are.each d.minute d.id d.attempt (awaited-waiting s due d.minute d.id d.attempt
        awaited) in (
          key.0,
          contained keys key.0 key.1.0 key.1.1 key.1.2,
          record { subject = of_it; minute = sym key.2; id = sym key.3; attempt = sym key.4 },
        )

    module _ (id attempt : ℕ) (v : Version) (found : version_with id (record_now st s)
        ≡ Some v) where
      -- A download with the id is of the subject.
      of_subject_s : (d : Download) → Among d (queue st carrier) → is_download id attempt d ≡ true
          → d.subject ≡ s
      of_subject_s d is named =
          let awaited = queued-awaited d is in
          let same : d.id ≡ id =
          equal_number d.id id (and_both (d.id == id) (d.attempt == attempt) named).0 in
          ap (λ (x : SubjectVersion). x.subject) (some_is (record {
            subject = d.subject;
            version =
                awaited.version;
          }) (record { subject = s; version = v })
          (sym (found_is st refines.represents.history d.subject d.id awaited.version awaited.found)
          ∙ ap (version_of_id st) same ∙ found_is st refines.represents.history s id v found))

      missing_same : is_missing keys id attempt ≡ is_not_among (queue st carrier) id attempt
      missing_same =
          ap not (same_truth (list_any (is_key id attempt) keys) (list_any (is_download id attempt)
          (queue st carrier))
          (λ e. let k = any_there (is_key id attempt) keys e in let d = key-queued k.0 k.1 in
          there_any (is_download id attempt) d.0 (queue st carrier) d.1
          (key_same s id attempt k.0 d.0 d.2 ∙ k.2))
          (λ e. let d = any_there (is_download id attempt) (queue st carrier) e in let k =
          queued-key d.0 d.1 (of_subject_s d.0 d.1 d.2) in
          there_any (is_key id attempt) k.0 keys k.1 (sym (key_same s id attempt k.0 d.0 k.2)
          ∙ d.2)))

      abbrev precedes : Download → Bool
      precedes d =
          list_any (λ e. subject_eq e.subject d.subject && is_before e d) (queue st carrier)

      earlier_same : (k : DownloadKey) (d : Download) → IsKeyOf s k d
          → has_earlier keys k ≡ precedes d
      earlier_same k d is = same_truth (has_earlier keys k) (precedes d)
          (λ e. let l = any_there (λ x. is_earlier x k) keys e in let x = key-queued l.0 l.1 in
          there_any (λ y. subject_eq y.subject d.subject && is_before y d) x.0 (queue st carrier)
          x.1 (before_same s l.0 k x.0 d x.2 is ∙ l.2))
          (λ e. let x =
          any_there (λ y. subject_eq y.subject d.subject && is_before y d) (queue st carrier) e in
          let parts = and_both (subject_eq x.0.subject d.subject) (is_before x.0 d) x.2 in
          let l = queued-key x.0 x.1 (sym (same_subject x.0.subject d.subject parts.0)
          ∙ is.subject) in
          there_any (λ y. is_earlier y k) l.0 keys l.1 (sym (before_same s l.0 k x.0 d l.2 is)
          ∙ x.2))

      behind_same : is_behind keys id attempt ≡ is_preceded (queue st carrier) id attempt
      behind_same =
          same_truth (is_behind keys id attempt) (is_preceded (queue st carrier) id attempt)
          (λ e. let k = any_there (λ x. is_key id attempt x && has_earlier keys x) keys e in let d =
          key-queued k.0 k.1 in
          there_any (λ x. is_download id attempt x && precedes x) d.0 (queue st carrier) d.1
          (ap (λ b. b && precedes d.0) (key_same s id attempt k.0 d.0 d.2)
          ∙ ap (λ b. is_key id attempt k.0 && b) (sym (earlier_same k.0 d.0 d.2)) ∙ k.2))
          (λ e. let d = any_there (λ x. is_download id attempt x && precedes x) (queue st carrier)
          e in
          let k = queued-key d.0 d.1
          (of_subject_s d.0 d.1 (and_both (is_download id attempt d.0) (precedes d.0) d.2).0) in
          there_any (λ x. is_key id attempt x && has_earlier keys x) k.0 keys k.1
          (ap (λ b. b && has_earlier keys k.0) (sym (key_same s id attempt k.0 d.0 k.2))
          ∙ ap (λ b. is_download id attempt d.0 && b) (earlier_same k.0 d.0 k.2) ∙ d.2))

      -- The keys are refused as the queue is.
      pub keys_refused : key_refusal keys id attempt ≡ first_refusal
          ((25, is_not_among (queue st carrier) id attempt) ∷ (
            26,
            is_preceded (queue st carrier) id
                attempt,
          ) ∷ [])
      keys_refused =
          ap (λ b. first_refusal ((25, b) ∷ (26, is_behind keys id attempt) ∷ [])) missing_same
          ∙ ap (λ b. first_refusal ((25, is_not_among (queue st carrier) id attempt) ∷ (26, b)
          ∷ [])) behind_same

      -- A key that is found is the key of a pending download.
      pub found-awaited : (k : DownloadKey) → find (is_key id attempt) keys ≡ Some k
          → IsAwaited st carrier s k.minute.number id attempt × (k.id ≡ id) × (k.attempt ≡ attempt)
      found-awaited k is =
          let there = found-among (is_key id attempt) keys k is in
          let parts = and_both (k.id == id) (k.attempt == attempt) there.1 in
          let ids : k.id ≡ id = equal_number k.id id parts.0 in
          let attempts : k.attempt ≡ attempt = equal_number k.attempt attempt parts.1 in (
            subst (λ n. IsAwaited st carrier s k.minute.number id n) attempts
                (subst (λ n. IsAwaited st carrier s k.minute.number n k.attempt) ids
                (key-awaited k there.0)),
            ids,
            attempts,
          )

-- ---- refusals of an acknowledgement

abbrev acknowledgement_table : State → (caller id attempt : ℕ) → (known none : Bool) → Option ℕ
acknowledgement_table st caller id attempt known none =
    first_refusal ((1, not known) ∷ (10, none) ∷ (25, is_not_among (queue st caller) id attempt)
    ∷ (26, is_preceded (queue st caller) id attempt) ∷ [])

acknowledgement_by_table : (st : State) (caller id attempt : ℕ) →
    refusal st (RequestFrom caller (AcknowledgementRequest id attempt)) ≡ acknowledgement_table st
    caller id
    attempt (is_carrier st caller) (no_version st id)
unfolding tests
acknowledgement_by_table st caller id attempt = refl

module _ (old : Content) (caller id attempt : ℕ) (st : State) (refines : Refines old st) where
  known_is : (b : Bool) → is_some (get old.carriers caller) ≡ b → is_carrier st caller ≡ b
  known_is b known = sym (refines.represents.carriers caller) ∙ known

  pub refused_unknown : is_some (get old.carriers caller) ≡ false
      → refusal st (RequestFrom caller (AcknowledgementRequest id attempt)) ≡ Some 1
  refused_unknown unknown = acknowledgement_by_table st caller id attempt
      ∙ ap (λ b. acknowledgement_table st caller id attempt b (no_version st id))
      (known_is false unknown)

  pub refused_not_found : is_some (get old.carriers caller) ≡ true → get old.versions id ≡ None
      → refusal st (RequestFrom caller (AcknowledgementRequest id attempt)) ≡ Some 10
  refused_not_found known none =
      acknowledgement_by_table st caller id attempt
      ∙ ap (λ b. acknowledgement_table st caller id attempt b (no_version st id))
      (known_is true known)
      ∙ ap (λ o. acknowledgement_table st caller id attempt true (is_none o))
      (no_row_now st old refines.represents id none)

  -- The refusal by the downloads of the version's subject.
  pub refused_by_keys : IdSettled old st id → (row : VersionRow) (keys : List DownloadKey)
      → is_some (get old.carriers caller) ≡ true → get old.versions id ≡ Some row
      → AreWaitsAbout old caller row.subject keys →
      refusal st (RequestFrom caller (AcknowledgementRequest id attempt)) ≡ key_refusal keys id
      attempt
  refused_by_keys settled row keys known found are =
      let shown : (v : Version) × (version_with id (record_now st row.subject) ≡ Some v)
      × (row ≡ row_of row.subject v) = row_now st old id row refines.represents settled found in
      acknowledgement_by_table st caller id attempt
      ∙ ap (λ b. acknowledgement_table st caller id attempt b (no_version st id))
      (known_is true known)
      ∙ ap (λ o. acknowledgement_table st caller id attempt true (is_none o))
      (found_is st refines.represents.history row.subject id shown.0 shown.1)
      ∙ sym (keys_refused st old refines caller row.subject
      (row_settled st old id row refines.represents settled found) keys are id attempt shown.0
      shown.1)
