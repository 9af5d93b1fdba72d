-- The broadcasts of a subject that are pending for a carrier, as the index lists them.
use Rattle.std.proofs.Common.{◌≡◌, ℕ, Bool, true, false, cond, List, [], ◌∷◌, Option, Some, None, refl, ap, sym, ◌∙◌, subst, inl}
use Rattle.std.specs.Prelude.{◌==◌, ◌&&◌, filter, option_map, is_some}
use Rattle.std.specs.List.{AllByRecursion, list_any}
use Rattle.std.specs.List.Sorted.{IsStrictlySortedBy}
use Rattle.std.specs.Option.{option_eq}
use Rattle.std.specs.Ordering.{on, eq_by_cmp}
use Rattle.std.specs.BTreeMap.{BTreeMap, is_at}
use Rattle.std.specs.FinMap.{get, get-empty, from_entries}
use Rattle.std.proofs.lemmas.List.Kept.{IsStrictlySortedBy-filter}
use Rattle.std.proofs.Props.{props}
use Rattle.numbers.specs.Subjects.{Subject, subject_key}
use Rattle.numbers.specs.Abstraction.{subject_of, key_of}
use Rattle.numbers.specs.Digits.{IsMinute}
use Rattle.numbers.specs.declared.minute.Minute.{Minute}
use Rattle.numbers.specs.declared.ported.Subject.{Subject as SubjectImpl}
use Rattle.numbers.specs.declared.spid.Spid.{Spid}
use Rattle.numbers.proofs.SubjectKeys.{subject_key-exact}
use Rattle.model.specs.Content.{Content, empty_content, wait_key}
use Rattle.delivery.specs.declared.download.DownloadKey.{DownloadKey}
use Rattle.settle.specs.Abstraction.{spid_of}
use Rattle.settle.specs.Reads.{AreWaitsAbout, IsWaiting, download_cmp as queue_cmp}
use Rattle.store.specs.Lists.{is_subject}
use Rattle.store.specs.WaitRows.{Download, row_key_of, row_key_in, row_in, Waiting, waiting_of, rows_of, waits_of, awaited, is_for, download_cmp, AreAbout}
use Rattle.store.specs.QueueRows.{queue_key_of, order_of}
use Rattle.store.specs.About.{has, has_at, has_in, key_in, keys_in, broadcasts_of, about_of, IsKey, IsSameIndex, IsPresence}
use Rattle.store.specs.declared.about.Broadcasts.{Broadcasts}
use Rattle.store.specs.declared.about.Broadcasts.TheVariants.{One, More}
use Rattle.store.specs.declared.keys.RowKey.{RowKey as RowKeyImpl}
use Rattle.store.specs.declared.short.ShortMinute.{ShortMinute}
use Rattle.store.specs.declared.waiting.Waiting.{Waiting as WaitingImpl}
use Rattle.store.specs.Maps.{IsSet, seen_entries}
use Rattle.store.proofs.Maps.{get-seen, entry-of, key-set}
use Rattle.store.proofs.Listed.{Among, contained, all-places}
use Rattle.store.proofs.SubjectsListed.{found-entry, filtered-among, key-among}
use Rattle.numbers.proofs.Small.{equal_number, tied, same_number}
use Rattle.store.proofs.RowsFlat.{download_total, download_exact, get-waits_of}

-- ---- one subject's broadcasts

-- Minutes with one number are equal.
pub same_minute : (m n : Minute) → m.number ≡ n.number → m ≡ n
same_minute m n e =
    subst (λ k. (v : IsMinute k) → m ≡ record { number = k; valid = v }) e
    (λ v. ap (λ (w : IsMinute m.number). record m { valid = w }) (one_proof m.number m.valid v))
    n.valid
  where
    one_proof : (k : ℕ) (v w : IsMinute k) → v ≡ w
    one_proof k = hlevel props

-- Writing a key of the ordered map, or deleting it.
pub more-set : (m n : BTreeMap DownloadKey (Unit {0})) (key : DownloadKey) (v : Option (Unit {0}))
    → IsSet (on queue_key_of download_cmp) m n key v
    → IsPresence (has_in m) (has_in n) (queue_key_of key) (is_some v)
more-set m n key v is q =
    ap is_some (key-set queue_key_of (λ (u : Unit {0}). u) download_total download_exact m n key
    (queue_key_of key) v refl is q)
    ∙ by_cases (eq_by_cmp download_cmp (queue_key_of key) q) v (get (order_of m) q)
  where
    by_cases : (b : Bool) (w x : Option (Unit {0}))
        → is_some (cond b (option_map (λ u. u) w) x) ≡ cond b (is_some w) (is_some x)
    by_cases true None x = refl
    by_cases true (Some u) x = refl
    by_cases false w x = refl

pub has-none : (m : BTreeMap DownloadKey (Unit {0})) → m.entries ≡ [] → (q : Download)
    → has_in m q ≡ false
has-none m none q =
    ap (λ es. is_some (get (from_entries {R = download_cmp} (seen_entries queue_key_of
    (λ (u : Unit {0}). u) es)) q)) none
    ∙ ap is_some (get-empty download_cmp q)

-- A map with two keys, in place of the first.
pub two-keys : (minute : ShortMinute) (id attempt : ℕ) (key : DownloadKey)
    (m0 m1 m2 : BTreeMap DownloadKey (Unit {0}))
    → m0.entries ≡ []
    → IsSet (on queue_key_of download_cmp) m0 m1 (key_in minute id attempt) (Some tt)
    → IsSet (on queue_key_of download_cmp) m1 m2 key (Some tt)
    → IsPresence (has (One minute id attempt)) (has_in m2) (queue_key_of key) true
two-keys minute id attempt key m0 m1 m2 none first second q =
    more-set m1 m2 key (Some tt) second q
    ∙ ap (cond (eq_by_cmp download_cmp (queue_key_of key) q) true)
    (more-set m0 m1 (key_in minute id attempt) (Some tt) first q
    ∙ ap (cond (has (One minute id attempt) q) true) (has-none m0 none q)
    ∙ itself (has (One minute id attempt) q))
  where
    itself : (b : Bool) → cond b true false ≡ b
    itself true = refl
    itself false = refl

-- ---- one subject's broadcasts changed

module _ (old new : List (ℕ × Broadcasts)) (s : Subject) (o : Option Broadcasts)
    (is : (r : ℕ) → broadcasts_of new r ≡ cond (subject_key s == r) o (broadcasts_of old r)) where
  at : (t : Subject) (q : Download) → about_of new t q
      ≡ has_at (cond (subject_key s == subject_key t) o (broadcasts_of old (subject_key t))) q
  at t q = ap (λ x. has_at x q) (is (subject_key t))

  -- One broadcast of one subject is added or deleted.
  pub about-set : (d : Download) (b : Bool)
      → IsPresence (has_at (broadcasts_of old (subject_key s))) (has_at o) d b
      → IsKey (about_of old) (about_of new) s d b
  about-set d b one t q = at t q ∙ by_cases (subject_key s == subject_key t) refl
    where
      by_cases : (x : Bool) → (subject_key s == subject_key t) ≡ x
          → has_at (cond x o (broadcasts_of old (subject_key t))) q
          ≡ cond (x && eq_by_cmp download_cmp d q) b (about_of old t q)
      by_cases true e =
          one q ∙ ap (λ n. cond (eq_by_cmp download_cmp d q) b (has_at (broadcasts_of old n) q))
          (equal_number (subject_key s) (subject_key t) e)
      by_cases false e = refl

  -- No broadcast of the subject is added or deleted.
  pub about-same : ((q : Download) → has_at o q ≡ has_at (broadcasts_of old (subject_key s)) q)
      → IsSameIndex (about_of old) (about_of new)
  about-same same t q = at t q ∙ by_cases (subject_key s == subject_key t) refl
    where
      by_cases : (x : Bool) → (subject_key s == subject_key t) ≡ x
          → has_at (cond x o (broadcasts_of old (subject_key t))) q ≡ about_of old t q
      by_cases true e =
          same q ∙ ap (λ n. has_at (broadcasts_of old n) q)
          (equal_number (subject_key s) (subject_key t) e)
      by_cases false e = refl

-- ---- a subject's broadcasts that are pending for a carrier

is-subject : (s : Subject) (o : Option Subject) → is_subject s o ≡ true → o ≡ Some s
is-subject s None e = let f : false ≡ true = e in cc
is-subject s (Some t) e =
    ap (λ x. Some x) (subject_key-exact t s (equal_number (subject_key t) (subject_key s) e))

-- Comparing subjects of the code is comparing their models.
pub compared : (r : Option SubjectImpl) (s : SubjectImpl) → option_eq (on key_of ◌==◌) r (Some s)
    ≡ is_subject (subject_of s) (option_map subject_of r)
compared None s = refl
compared (Some t) s = refl

-- Holds if there is a row, of this subject.
abbrev pub IsAwaited : Option Waiting → Subject → Type 0
IsAwaited o s = (w : Waiting) × (o ≡ Some w) × (w.0 ≡ s)

pub awaited-is : (c : ℕ) (s : Subject) (o : Option Waiting) → awaited o c ≡ Some s → IsAwaited o s
awaited-is c s None e = let f : None ≡ Some s = e in cc
awaited-is c s (Some w) e = (w, refl, by_cases (list_any (λ k. c == k) w.1) e)
  where
    by_cases : (b : Bool) → cond b (Some w.0) None ≡ Some s → w.0 ≡ s
    by_cases true f = let g : Some w.0 ≡ Some s = f in cc
    by_cases false f = let g : None ≡ Some s = f in cc

-- The only broadcast is listed if it passes.
pub only-one : (test : DownloadKey → Bool) (k : DownloadKey) (b : Bool) → test k ≡ b
    → cond b (k ∷ []) [] ≡ filter test (k ∷ [])
only-one test k b t = sym (ap (λ x. cond x (k ∷ []) []) t)

pub one-rises : (k : DownloadKey) → IsStrictlySortedBy (on queue_key_of download_cmp) (k ∷ [])
unfolding IsStrictlySortedBy
one-rises k = (tt, tt)

-- A broadcast that is among a subject's has its key among theirs.
has-key : (b : Broadcasts) (d : Download) → has b d ≡ true → (k : DownloadKey)
    × Among k (keys_in b) × (queue_key_of k ≡ d)
unfolding Among
has-key (One minute id attempt) d is =
    let k = key_in minute id attempt in
    (k, inl refl, download_exact (queue_key_of k) d (tied _ is))
has-key (More more) d is =
    let m = more.value in
    let q = entry-of queue_key_of (λ (u : Unit {0}). u) download_total download_exact m d is in
    let e = found-entry (is_at (on queue_key_of download_cmp q.0)) m.entries q.2 in (
      e.0.0,
      key-among e.0 m.entries e.1,
      sym (download_exact (queue_key_of q.0) (queue_key_of e.0.0) (tied _ e.2)) ∙ q.1,
    )

module _ (rows : List (RowKeyImpl × WaitingImpl)) (carrier : Spid) (subject : SubjectImpl)
    (about : List (ℕ × Broadcasts)) (indexed : AreAbout (rows_of rows) (about_of about)) where
  abbrev content : Content
  content = record empty_content { waits = waits_of (rows_of rows) }

  abbrev Waits : (minute id attempt : ℕ) → Type 0
  Waits minute id attempt = IsWaiting content carrier.number (subject_of subject) minute id attempt

  row-of : (b : DownloadKey) → get (rows_of rows) (queue_key_of b)
      ≡ option_map waiting_of (row_in rows (row_key_in b))
  row-of b = get-seen row_key_of waiting_of download_total download_exact rows (row_key_in b)

  -- A pending broadcast is in the index under its subject.
  in-index : (minute id attempt : ℕ) → Waits minute id attempt
      → has_at (broadcasts_of about (key_of subject))
      (record { minute = minute; id = id; attempt = attempt }) ≡ true
  in-index minute id attempt is =
      let d : Download = record { minute = minute; id = id; attempt = attempt } in
      let w = awaited-is carrier.number (subject_of subject) (get (rows_of rows) d)
      (sym (get-waits_of (rows_of rows) (wait_key carrier.number minute id attempt)) ∙ is) in
      ap (λ s. has_at (broadcasts_of about (subject_key s)) d) (sym w.2) ∙ indexed d w.0 w.1

  pub none-about : broadcasts_of about (key_of subject) ≡ None
      → AreWaitsAbout content (spid_of carrier) (subject_of subject) []
  unfolding IsStrictlySortedBy
  none-about none = record {
    each = λ minute id attempt is.
        let f : false ≡ true =
        sym (ap (λ o. has_at o (record { minute = minute; id = id; attempt = attempt })) none)
        ∙ in-index minute id attempt is in
        cc;
    only = all-places (λ (x : DownloadKey). Waits x.minute.number x.id x.attempt) [] tt;
    rises = tt;
  }

  pub about-are : (b : Broadcasts) → broadcasts_of about (key_of subject) ≡ Some b
      → IsStrictlySortedBy (on queue_key_of download_cmp) (keys_in b)
      → (found : List DownloadKey) → found ≡ filter (λ k. is_for rows k carrier subject) (keys_in b)
      → AreWaitsAbout content (spid_of carrier) (subject_of subject) found
  about-are b there rises found is_found = record {
    each = λ minute id attempt is.
        let d : Download = record { minute = minute; id = id; attempt = attempt } in
        let k = has-key b d (sym (ap (λ o. has_at o d) there) ∙ in-index minute id attempt is) in (
          k.0,
          contained k.0 found (subst (Among k.0) (sym is_found)
              (filtered-among test k.0 (keys_in b) k.1 (own k.0 d k.2 is))),
          ap (λ (v : Download). v.minute) k.2,
          ap (λ (v : Download). v.id) k.2,
          ap (λ (v : Download). v.attempt) k.2,
        );
    only = all-places (λ x. Waits x.minute.number x.id x.attempt) found
        (subst (AllByRecursion (λ x. Waits x.minute.number x.id x.attempt)) (sym is_found)
        (all-tested (keys_in b)));
    rises = subst (IsStrictlySortedBy queue_cmp) (sym is_found)
        (IsStrictlySortedBy-filter queue_cmp test (keys_in b) rises);
  }
    where
      test : DownloadKey → Bool
      test k = is_for rows k carrier subject

      own : (k : DownloadKey) (d : Download) → queue_key_of k ≡ d → Waits d.minute d.id d.attempt
          → test k ≡ true
      own k d same is =
          ap (is_subject (subject_of subject))
          (ap (λ o. awaited o carrier.number) (sym (row-of k) ∙ ap (get (rows_of rows)) same)
          ∙ sym (get-waits_of (rows_of rows) (wait_key carrier.number d.minute d.id d.attempt))
          ∙ is)
          ∙ same_number (key_of subject)

      tested : (k : DownloadKey) → test k ≡ true → Waits k.minute.number k.id k.attempt
      tested k t =
          get-waits_of (rows_of rows) (wait_key carrier.number k.minute.number k.id k.attempt)
          ∙ ap (λ o. awaited o carrier.number) (row-of k) ∙ is-subject (subject_of subject) _ t

      all-tested : (ks : List DownloadKey)
          → AllByRecursion (λ x. Waits x.minute.number x.id x.attempt) (filter test ks)
      all-tested [] = tt
      all-tested (k ∷ ks) = by_cases (all-tested ks) (test k) refl
        where
          by_cases : AllByRecursion (λ x. Waits x.minute.number x.id x.attempt) (filter test ks)
              → (t : Bool) → test k ≡ t
              → AllByRecursion (λ x. Waits x.minute.number x.id x.attempt)
              (cond t (k ∷ filter test ks) (filter test ks))
          by_cases more true e = (tested k e, more)
          by_cases more false e = more
