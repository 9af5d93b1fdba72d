-- A download that is deleted while its broadcast is pending for another registered carrier too.
use Rattle.std.proofs.Common.{◌≡◌, ℕ, Bool, true, false, cond, List, [], ◌∷◌, Option, Some, None, refl, ap, sym, ◌∙◌, subst, inl}
use Rattle.std.specs.Prelude.{◌==◌, if◌then◌else◌, is_some, option_map, not, IfSome, IfNone}
use Rattle.std.specs.List.{list_any}
use Rattle.std.specs.Cmp.{eq_by_cmp_equiv}
use Rattle.std.specs.Ordering.{nat_cmp}
use Rattle.std.specs.HashMap as hash
use Rattle.std.specs.HashMap.{HashMap}
use Rattle.std.specs.FinMap.{FinMap, get}
use Rattle.numbers.specs.Subjects.{Subject}
use Rattle.numbers.specs.declared.minute.Minute.{Minute}
use Rattle.numbers.specs.declared.spid.Spid.{Spid}
use Rattle.numbers.proofs.Small.{tied, and_both, and_true, equal_number}
use Rattle.model.specs.Content.{Content, VersionRow, BroadcastKey, BroadcastRow, wait_cmp, wait_key, broadcast_key, broadcast_cmp}
use Rattle.model.proofs.KeyOrders.{broadcast_exact}
use Rattle.version.specs.Acknowledging.{is_sending}
use Rattle.delivery.specs.declared.download.DownloadKey.{DownloadKey}
use Rattle.settle.specs.Changes.{put_rows, same_broadcast}
use Rattle.settle.specs.Reads.{AreWaitsAbout, is_last_wait}
use Rattle.settle.specs.Sharing.{TakesShared, answered_row}
use Rattle.store.specs.About.{IsOnly}
use Rattle.store.specs.BroadcastRows.{broadcasts_of, same_id}
use Rattle.store.specs.Maps.{set}
use Rattle.store.specs.QueueRows.{queue_key_of, AreCursors}
use Rattle.store.specs.Sharing.{TakesWait, waits_content}
use Rattle.store.specs.WaitRows.{Download, download_cmp, wait_for, Waiting, waiting_of, waits_of, awaited, spids_of, subject_of_row, is_shared, Index}
use Rattle.store.specs.declared.keys.BroadcastId.{BroadcastId}
use Rattle.store.specs.declared.packed_broadcast.PackedBroadcast.{PackedBroadcast}
use Rattle.store.specs.declared.waiting.Waiting.{Waiting as WaitingImpl}
use Rattle.store.proofs.AboutListed.{awaited-is, one-rises}
use Rattle.store.proofs.BroadcastRows.{same-broadcasts}
use Rattle.store.proofs.Changed.{set_wait, broadcast_tied}
use Rattle.store.proofs.LastWait.{last-is}
use Rattle.store.proofs.Listed.{Among, contained, all-places}
use Rattle.store.proofs.OneRow.{any-seen}
use Rattle.store.proofs.QueueOrder.{cursors-kept, fewer-taken}
use Rattle.store.proofs.RowsChanged.{Agrees}
use Rattle.store.proofs.RowsFlat.{download_total, download_exact, get-waits_of}

-- ---- the download

is_there : {X : Type 0} (b : Bool) (x : X) → is_some (cond b (Some x) None) ≡ b
is_there true x = refl
is_there false x = refl

abbrev broadcast_at : (minute id attempt : ℕ) → Download
broadcast_at minute id attempt = record { minute = minute; id = id; attempt = attempt }

module _ (rows : FinMap download_cmp Waiting) (about : Index) (s : Subject) (id attempt : ℕ)
    (key : DownloadKey) (row : WaitingImpl) (agrees : Agrees rows about)
    (only : IsOnly about s id attempt key)
    (found : get rows (broadcast_at key.minute.number id attempt) ≡ Some (waiting_of row)) where
  abbrev broadcast : Download
  broadcast = broadcast_at key.minute.number id attempt

  same-broadcast : queue_key_of key ≡ broadcast
  same-broadcast = λ i. record {
    minute = key.minute.number;
    id = only.id i;
    attempt = only.attempt i;
  }

  there : get rows (queue_key_of key) ≡ Some (waiting_of row)
  there = ap (get rows) same-broadcast ∙ found

  -- The index has the broadcast, so that its row is of the subject.
  own-subject : subject_of_row row ≡ s
  own-subject =
      let e : Some (subject_of_row row) ≡ Some s =
      sym (ap (option_map (λ (w : Waiting). w.0)) there)
      ∙ agrees.1 s (queue_key_of key) (only.only (queue_key_of key)
      ∙ (eq_by_cmp_equiv download_total).refl (queue_key_of key)) in
      cc

  module _ (registered : FinMap nat_cmp (Unit {0})) (own : Spid)
      (shared : is_shared registered own (spids_of row) ≡ true) where
    abbrev content : Content
    content = waits_content registered (waits_of rows)

    abbrev Waits : (minute version sent : ℕ) → Type 0
    Waits minute version sent =
        get (waits_of rows) (wait_key own.number minute version sent) ≡ Some s

    waits : Waits key.minute.number key.id key.attempt
    waits =
        get-waits_of rows (wait_key own.number key.minute.number key.id key.attempt)
        ∙ ap (λ o. awaited o own.number) there
        ∙ ap (λ b. cond b (Some (subject_of_row row)) None)
        (any-seen own.number (spids_of row) ∙ (and_both _ _ shared).0)
        ∙ ap (λ t. Some t) own-subject

    is-key : (minute version sent : ℕ) → Waits minute version sent
        → queue_key_of key ≡ broadcast_at minute version sent
    is-key minute version sent is =
        let d = broadcast_at minute version sent in
        let w = awaited-is own.number s (get rows d)
        (sym (get-waits_of rows (wait_key own.number minute version sent)) ∙ is) in
        download_exact (queue_key_of key) d (tied _ (sym (only.only d)
        ∙ ap (λ t. about t d) (sym w.2) ∙ agrees.0 d w.0 w.1))

    are-waits : AreWaitsAbout content own.number s (key ∷ [])
    unfolding Among
    are-waits = record {
      each = λ minute version sent is.
          let e = is-key minute version sent is in (
            key,
            contained key (key ∷ []) (inl refl),
            ap (λ (d : Download). d.minute) e,
            ap (λ (d : Download). d.id) e,
            ap (λ (d : Download). d.attempt) e,
          );
      only = all-places (λ (x : DownloadKey). Waits x.minute.number x.id x.attempt) (key ∷ [])
          (waits, tt);
      rises = one-rises key;
    }

    carriers : (k : ℕ) → is_some (get (waits_of rows) (wait_for broadcast k))
        ≡ list_any (λ (c : Spid). k == c.number) (spids_of row)
    carriers k =
        ap is_some (get-waits_of rows (wait_for broadcast k)
        ∙ ap (λ o. awaited o k) found)
        ∙ is_there _ _ ∙ any-seen k (spids_of row)

    pub takes-wait : (new : FinMap wait_cmp Subject)
        → new ≡ set (waits_of rows) (wait_key own.number key.minute.number id attempt) None
        → TakesWait registered (waits_of rows) new s
        (wait_key own.number key.minute.number id attempt)
    takes-wait new deleted = record {
      only = record {
        download = key;
        about = are-waits;
        minute = refl;
        id = only.id;
        attempt = only.attempt;
      };
      shared = sym (last-is registered (waits_of rows) own broadcast (spids_of row) carriers)
          ∙ ap not (and_both _ _ shared).1;
      deleted = deleted;
    }

-- Its deletion leaves the cursors.
pub cursors-taken : (cursors : List (ℕ × DownloadKey)) (registered : FinMap nat_cmp (Unit {0}))
    (old new : FinMap wait_cmp Subject) (s : Subject) (own id attempt : ℕ) (minute : Option Minute)
    → IfNone minute (new ≡ old)
    → IfSome minute (λ m. TakesWait registered old new s (wait_key own m.number id attempt))
    → AreCursors cursors old → AreCursors cursors new
cursors-taken cursors registered old new s own id attempt None same taken are =
    subst (AreCursors cursors) (sym same) are
cursors-taken cursors registered old new s own id attempt (Some m) same taken are =
    let wait = wait_key own m.number id attempt in
    subst (AreCursors cursors) (sym taken.deleted)
    (cursors-kept cursors old (set old wait None) (fewer-taken old wait) are)

-- ---- its broadcast's row

-- Writing a row back changes nothing.
pub written-back : {S : Type 0} (m n : HashMap BroadcastId PackedBroadcast S) (key : BroadcastId)
    (v : PackedBroadcast) → hash.get same_id m key ≡ Some v
    → ((q : BroadcastId) → hash.get same_id n q
    ≡ cond (same_id key q) (Some v) (hash.get same_id m q)) → broadcasts_of n ≡ broadcasts_of m
written-back m n key v there written =
    same-broadcasts m n (λ q. written q ∙ by_cases q (same_id key q) refl)
  where
    by_cases : (q : BroadcastId) (b : Bool) → same_id key q ≡ b
        → cond b (Some v) (hash.get same_id m q) ≡ hash.get same_id m q
    by_cases q true t =
        let both = and_both (key.id == q.id) (key.attempt == q.attempt) t in
        sym there ∙ (λ i. hash.get same_id m (record {
          id = equal_number key.id q.id both.0 i;
          attempt = equal_number key.attempt q.attempt both.1 i;
        }))
    by_cases q false t = refl

-- Marking a row that is marked already changes nothing.
marked-twice : (b : BroadcastRow) → b.any ≡ true → answered_row false b ≡ b
marked-twice b any = λ i. record b { is_open = and_true b.is_open i; any = sym any i }

module _ (c : Content) (id attempt : ℕ) (b : BroadcastRow)
    (marked : FinMap broadcast_cmp BroadcastRow)
    (stored : get c.broadcasts (broadcast_key id attempt) ≡ Some b)
    (mark : (k : BroadcastKey) → get marked k
    ≡ (if same_broadcast (broadcast_key id attempt) k then Some (answered_row false b)
    else get c.broadcasts k)) where
  -- The row is written, or it was marked already.
  marks : (any : Bool) → b.any ≡ any → (k : BroadcastKey) → get marked k ≡ put_rows same_broadcast
      (if any then [] else (broadcast_key id attempt, answered_row false b) ∷ []) k
      (get c.broadcasts k)
  marks false e k = mark k
  marks true e k = mark k ∙ by_cases (same_broadcast (broadcast_key id attempt) k) refl
    where
      by_cases : (t : Bool) → same_broadcast (broadcast_key id attempt) k ≡ t
          → cond t (Some (answered_row false b)) (get c.broadcasts k) ≡ get c.broadcasts k
      by_cases true t =
          ap (λ r. Some r) (marked-twice b e) ∙ sym stored
          ∙ ap (get c.broadcasts) (broadcast_exact (broadcast_key id attempt) k
          (tied _ (broadcast_tied (broadcast_key id attempt) k ∙ t)))
      by_cases false t = refl

  pub takes-shared : (registered : FinMap nat_cmp (Unit {0})) (own minute : ℕ) (row : VersionRow)
      (next : FinMap wait_cmp Subject) → c.carriers ≡ registered
      → is_some (get c.carriers own) ≡ true → get c.versions id ≡ Some row
      → is_sending row.status ≡ true
      → TakesWait registered c.waits next row.subject (wait_key own minute id attempt)
      → TakesShared c (record c { broadcasts = marked; waits = next }) own id attempt row
  takes-shared registered own minute row next same known found sends taken = record {
    minute = minute;
    broadcast = b;
    shared = record {
      known = known;
      found = found;
      sends = sends;
      only = record {
        download = taken.only.download;
        about = record {
          each = taken.only.about.each;
          only = taken.only.about.only;
          rises = taken.only.about.rises;
        };
        minute = taken.only.minute;
        id = taken.only.id;
        attempt = taken.only.attempt;
      };
      shared = ap (λ cs. is_last_wait (record c { carriers = cs })
          (wait_key own minute id attempt)) same ∙ taken.shared;
      stored = stored;
    };
    changed = record {
      carriers = λ k. refl;
      lrns = λ k. refl;
      codes = λ k. refl;
      blocks = λ k. refl;
      versions = λ k. refl;
      broadcasts = marks b.any refl;
      waits = λ k. ap (λ m. get m k) taken.deleted
          ∙ set_wait c.waits (wait_key own minute id attempt) None k;
      sets = λ k. refl;
      clock = refl;
    };
  }
