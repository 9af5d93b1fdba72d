-- The first downloads of a carrier's queue, as a loop over the order lists them.
use Rattle.std.proofs.Common.{◌≡◌, ◌≤◌, ◌⊎◌, inl, inr, ℕ, Bool, true, false, cond, List, [], ◌∷◌, ◌++◌, length, map, Option, Some, None, refl, ap, sym, ◌∙◌, subst}
use Rattle.std.specs.Prelude.{option_map, is_some, IsSome, Contains, get_or}
use Rattle.std.specs.declared.cmp.Ordering.{Ordering}
use Rattle.std.specs.declared.cmp.Ordering.TheVariants.{Less}
use Rattle.std.specs.List.{AllByRecursion, filter_map}
use Rattle.std.specs.List.Sorted.{IsStrictlySortedBy}
use Rattle.std.specs.Ordering.{on}
use Rattle.std.specs.Map.{lookup, keys_of}
use Rattle.std.specs.FinMap.{FinMap, get}
use Rattle.numbers.specs.Subjects.{Subject}
use Rattle.numbers.specs.declared.spid.Spid.{Spid}
use Rattle.model.specs.Content.{Content, BroadcastRow, WaitKey, broadcast_cmp, wait_cmp, empty_content, broadcast_key, wait_key}
use Rattle.delivery.specs.declared.download.Download.{Download as DownloadImpl}
use Rattle.delivery.specs.declared.download.DownloadKey.{DownloadKey as DownloadKeyImpl}
use Rattle.settle.specs.Reads.{AreFirst, IsBehind, IsQueued, IsWaitingDownload}
use Rattle.settle.specs.Abstraction.{spid_of}
use Rattle.store.specs.WaitRows.{Download, download_cmp, download_of, wait_for}
use Rattle.store.specs.QueueRows.{queue_key_of, Sent, sent_of, sent_from, download_at, pending_at}
use Rattle.store.proofs.Listed.{Among, contained, all-places, all-mapped, among-mapped, sorted-mapped, all-listed, listed-sorted, among-listed}

-- ---- lists

among-parts : {A : Type 0} (x : A) (xs ys : List A) → Among x (xs ++ ys) → Among x xs ⊎ Among x ys
unfolding Among
among-parts x [] ys is = inr is
among-parts x (z ∷ zs) ys (inl e) = inl (inl e)
among-parts x (z ∷ zs) ys (inr is) = by_cases (among-parts x zs ys is)
  where
    by_cases : Among x zs ⊎ Among x ys → Among x (z ∷ zs) ⊎ Among x ys
    by_cases (inl there) = inl (inr there)
    by_cases (inr there) = inr there

no-member : {A : Type 0} (x : A) → Among x [] → ⊥
unfolding Among
no-member x is = is

all-front : {A : Type 0} (P : A → Type 0) (xs ys : List A) → AllByRecursion P (xs ++ ys)
    → AllByRecursion P xs
all-front P [] ys is = tt
all-front P (x ∷ xs) ys is = (is.0, all-front P xs ys is.1)

all-pick : {A : Type 0} (P : A → Type 0) (xs ys : List A) (y : A) → AllByRecursion P (xs ++ ys)
    → Among y ys → P y
unfolding Among
all-pick P (x ∷ xs) ys y is there = all-pick P xs ys y is.1 there
all-pick P [] [] y is there = absurd there
all-pick P [] (z ∷ zs) y is (inl e) = subst P e is.0
all-pick P [] (z ∷ zs) y is (inr there) = all-pick P [] zs y is.1 there

sorted-front : {A : Type 0} (D : A → A → Ordering) (xs ys : List A)
    → IsStrictlySortedBy D (xs ++ ys) → IsStrictlySortedBy D xs
unfolding IsStrictlySortedBy
sorted-front D [] ys is = tt
sorted-front D (x ∷ xs) ys is =
    (all-front (λ z. D x z ≡ Less) xs ys is.0, sorted-front D xs ys is.1)

sorted-before : {A : Type 0} (D : A → A → Ordering) (xs ys : List A) (y : A)
    → IsStrictlySortedBy D (xs ++ ys) → Among y ys → AllByRecursion (λ x. D x y ≡ Less) xs
unfolding IsStrictlySortedBy
sorted-before D [] ys y is there = tt
sorted-before D (x ∷ xs) ys y is there = (
  all-pick (λ z. D x z ≡ Less) xs ys y is.0 there,
  sorted-before D xs ys y is.1 there,
)

pub found-own : {K X : Type 0} (at : K → Bool) (es : List (K × X)) (e : K × X) → Among e es
    → at e.0 ≡ true → IsSome (lookup at es)
unfolding Among
found-own at [] e there t = absurd there
found-own at (x ∷ xs) e (inl same) t =
    ap (λ b. is_some (cond b (Some x.1) (lookup at xs))) (ap (λ z. at z.0) same ∙ t)
found-own at (x ∷ xs) e (inr there) t = by_cases (found-own at xs e there t) (at x.0)
  where
    by_cases : IsSome (lookup at xs) → (b : Bool) → IsSome (cond b (Some x.1) (lookup at xs))
    by_cases later true = refl
    by_cases later false = later

in_part : {A : Type 0} (b : Bool) (o : Option A) (d : A) → cond b o None ≡ Some d
    → (b ≡ true) × (o ≡ Some d)
in_part true o d e = (refl, e)
in_part false o d e = let f : None ≡ Some d = e in cc

-- Holds if the list has each broadcast that is pending for the carrier.
abbrev pub HasAll : FinMap wait_cmp Subject → (carrier : ℕ) → List (DownloadKeyImpl × Unit {0})
    → Type 0
HasAll waits carrier es = (k : WaitKey) → k.carrier ≡ carrier → is_some (get waits k) ≡ true
    → (e : DownloadKeyImpl × Unit {0}) × Among e es × (queue_key_of e.0 ≡ download_of k)

abbrev sent_cmp : Sent → Sent → Ordering
sent_cmp a b = download_cmp a.key b.key

module _ (waits : FinMap wait_cmp Subject) (broadcasts : FinMap broadcast_cmp BroadcastRow)
    (carrier : Spid) (many : ℕ) (part : List (DownloadKeyImpl × Unit {0})) where
  abbrev content : Content
  content = record empty_content {
    waits = waits;
    broadcasts = broadcasts;
  }

  -- Holds if the download is pending for the carrier, and its broadcast's row says this of it.
  abbrev IsSent : Sent → Type 0
  IsSent s = (row : BroadcastRow)
      × IsQueued content carrier.number s.key.minute s.key.id s.key.attempt row
      × (s.subject ≡ row.subject) × (s.action ≡ row.action) × (s.routing ≡ row.routing)

  download_at-is : (k : DownloadKeyImpl) (s : Sent) → download_at broadcasts k ≡ Some s →
      (row : BroadcastRow) × (get broadcasts (broadcast_key k.id k.attempt) ≡ Some row)
      × (sent_from k row ≡ s)
  download_at-is k s e = by_cases (get broadcasts (broadcast_key k.id k.attempt)) refl e
    where
      by_cases : (o : Option BroadcastRow) → get broadcasts (broadcast_key k.id k.attempt) ≡ o
          → option_map (sent_from k) o ≡ Some s →
          (row : BroadcastRow) × (get broadcasts (broadcast_key k.id k.attempt) ≡ Some row)
          × (sent_from k row ≡ s)
      by_cases None at f = let no : None ≡ Some s = f in cc
      by_cases (Some row) at f =
          (row, at, (let g : Some (sent_from k row) ≡ Some s = f in cc))

  abbrev listed : DownloadKeyImpl → Option Sent
  listed = pending_at waits broadcasts carrier.number

  -- A listed key is that of a download pending for the carrier.
  waits-is : (k : DownloadKeyImpl) (s : Sent) → listed k ≡ Some s → IsSent s
  waits-is k s is =
      let p = in_part (is_some (get waits (wait_for (queue_key_of k) carrier.number)))
      (download_at broadcasts k) s is in
      let t = download_at-is k s p.1 in
      subst IsSent t.2 (t.0, (p.0, t.1), refl, refl, refl)

  rise : (x y : DownloadKeyImpl) (a b : Sent) → listed x ≡ Some a → listed y ≡ Some b
      → on queue_key_of download_cmp x y ≡ Less → sent_cmp a b ≡ Less
  rise x y a b p q less =
      let px = in_part (is_some (get waits (wait_for (queue_key_of x) carrier.number)))
      (download_at broadcasts x) a p in
      let py = in_part (is_some (get waits (wait_for (queue_key_of y) carrier.number)))
      (download_at broadcasts y) b q in
      let tx = download_at-is x a px.1 in
      let ty = download_at-is y b py.1 in
      (λ i. sent_cmp (sym tx.2 i) (sym ty.2 i)) ∙ less

  module _ (whole : HasAll waits carrier.number part)
      (ordered : IsStrictlySortedBy (on queue_key_of download_cmp) (keys_of part))
      (found : List DownloadImpl) (later : List Sent)
      (all : map sent_of found ++ later
      ≡ filter_map (λ (e : DownloadKeyImpl × Unit {0}). listed e.0) part)
    where
      sorted : IsStrictlySortedBy sent_cmp (map sent_of found ++ later)
      sorted = subst (IsStrictlySortedBy sent_cmp) (sym all)
          (listed-sorted listed (on queue_key_of download_cmp) sent_cmp rise part ordered)

      -- A pending download is listed.
      listed-there : (minute id attempt : ℕ) (row : BroadcastRow)
          → IsQueued content carrier.number minute id attempt row →
          (s : Sent) × Among s (map sent_of found ++ later) × ((s.key.minute ≡ minute)
          × (s.key.id ≡ id) × (s.key.attempt ≡ attempt))
      listed-there minute id attempt row is =
          let m = whole (wait_key carrier.number minute id attempt) refl is.0 in
          let at : get broadcasts (broadcast_key m.0.0.id m.0.0.attempt) ≡ Some row =
          (λ i. get broadcasts (broadcast_key ((m.2 i).id) ((m.2 i).attempt))) ∙ is.1 in (
            sent_from m.0.0 row,
            subst (Among (sent_from m.0.0 row)) (sym all)
                (among-listed listed part m.0 (sent_from m.0.0 row) m.1
                (ap (λ b. cond b (download_at broadcasts m.0.0) None)
                (ap (λ d. is_some (get waits (wait_for d carrier.number))) m.2 ∙ is.0)
                ∙ ap (option_map (sent_from m.0.0)) at)),
            (
              ap (λ (v : Download). v.minute) m.2,
              ap (λ (v : Download). v.id) m.2,
              ap (λ (v : Download). v.attempt) m.2,
            ),
          )

      described : (d : DownloadImpl) → IsSent (sent_of d)
          → IsWaitingDownload content carrier.number d
      described d is =
          (is.0, is.1, record { subject = is.2; action = is.3; routing = is.4 })

      all-sent : AllByRecursion (λ d. IsSent (sent_of d)) found
      all-sent = all-mapped IsSent sent_of found (all-front IsSent (map sent_of found) later
          (subst (AllByRecursion IsSent) (sym all) (all-listed listed IsSent waits-is part)))

      front-are : (later ≡ []) ⊎ (length found ≡ many) → length found ≤ many
          → AreFirst content (spid_of carrier) many found
      front-are ends most = record {
        each = λ minute id attempt row is.
            let m = listed-there minute id attempt row is in
            place minute id attempt m.0 m.2 (among-parts m.0 (map sent_of found) later m.1) ends;
        only = λ k d inside. described (get_or found k d)
            (all-places (λ x. IsSent (sent_of x)) found all-sent k d inside);
        rises = sorted-mapped sent_of sent_cmp found
            (sorted-front sent_cmp (map sent_of found) later sorted);
        most = most;
      }
        where
          place : (minute id attempt : ℕ) (s : Sent)
              → (s.key.minute ≡ minute) × (s.key.id ≡ id) × (s.key.attempt ≡ attempt)
              → Among s (map sent_of found) ⊎ Among s later → (later ≡ [])
              ⊎ (length found ≡ many) →
              ((x : DownloadImpl) × Contains found x × (x.minute.number ≡ minute) × (x.id ≡ id)
              × (x.attempt ≡ attempt)) ⊎ ((length found ≡ many) × IsBehind minute id attempt found)
          place minute id attempt s same (inl there) ends =
              let m = among-mapped sent_of s found there in
              inl (
                m.0,
                contained m.0 found m.1,
                ap (λ (x : Sent). x.key.minute) m.2 ∙ same.0,
                ap (λ (x : Sent). x.key.id) m.2 ∙ same.1,
                ap (λ (x : Sent). x.key.attempt) m.2 ∙ same.2,
              )
          place minute id attempt s same (inr there) (inl none) =
              absurd (no-member s (subst (Among s) none there))
          place minute id attempt s same (inr there) (inr full) = inr (full, behind)
            where
              behind : IsBehind minute id attempt found
              behind = subst (λ m. IsBehind m id attempt found) same.0
                  (subst (λ i. IsBehind s.key.minute i attempt found) same.1
                  (subst (λ a. IsBehind s.key.minute s.key.id a found) same.2
                  (all-places (λ x. sent_cmp (sent_of x) s ≡ Less) found
                  (all-mapped (λ x. sent_cmp x s ≡ Less) sent_of found
                  (sorted-before sent_cmp (map sent_of found) later s sorted there)))))

  -- The loop's list is the list of the part.
  pub walked : HasAll waits carrier.number part
      → IsStrictlySortedBy (on queue_key_of download_cmp) (keys_of part)
      → (found : List DownloadImpl) (rest : List (DownloadKeyImpl × Unit {0}))
      → map sent_of found ++ filter_map (λ e. listed e.0) rest
      ≡ filter_map (λ e. listed e.0) part
      → (rest ≡ []) ⊎ (length found ≡ many) → length found ≤ many
      → AreFirst content (spid_of carrier) many found
  walked whole ordered found rest so_far ends most =
      front-are whole ordered found (filter_map (λ e. listed e.0) rest) so_far (over ends) most
    where
      over : (rest ≡ []) ⊎ (length found ≡ many)
          → (filter_map (λ (e : DownloadKeyImpl × Unit {0}). listed e.0) rest ≡ [])
          ⊎ (length found ≡ many)
      over (inl none) = inl (ap (filter_map (λ e. listed e.0)) none)
      over (inr full) = inr full
