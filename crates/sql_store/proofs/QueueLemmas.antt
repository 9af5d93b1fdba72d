-- The first downloads of a queue.
use Rattle.std.proofs.Common.{◌≡◌, ◌⊎◌, inl, inr, ℕ, ◌≤◌, List, [], ◌∷◌, ◌++◌, map, filter, take, drop, get_or, length, zero, suc, ◌+◌, ◌<◌, true, cond, Option, Some, None, refl, sym, ap, subst, ◌∙◌, Less, Equal, arith}
use Rattle.std.specs.Prelude.{is_some, option_to_list}
use Rattle.std.specs.declared.cmp.Ordering.{Ordering}
use Rattle.std.specs.Ordering.{nat_cmp, ordering_then}
use Rattle.std.specs.FinMap.{get}
use Rattle.std.proofs.lemmas.List.Elements.{All-contains, All-push, filter_more}
use Rattle.std.proofs.lemmas.List.{append-nil, length-append, map-append}
use Rattle.std.specs.List.Sorted.{IsStrictlySortedBy}
use Rattle.sqlite_rules.specs.Lists.{Has}
use Rattle.sqlite_rules.proofs.ListLemmas.{all_from, all_has, contains_had, has_filtered, has_kept}
use Rattle.std.proofs.lemmas.List.Kept.{IsStrictlySortedBy-filter}
use Rattle.numbers.specs.Subjects.{Subject}
use Rattle.delivery.specs.declared.download.Download.{Download}
use Rattle.delivery.specs.declared.download.DownloadKey.{DownloadKey}
use Rattle.model.specs.Content.{Content, WaitKey, broadcast_key, wait_key}
use Rattle.settle.specs.Reads.{AreFirst, IsWaitingDownload, download_cmp}
use Rattle.sql_rows.proofs.Listed.{from_mapped, has_mapped}
use Rattle.sql_rows.proofs.Picked.{Picks}
use Rattle.sql_rows.proofs.QueriesListed.{wait_seen}
use Rattle.sql_store.specs.Lists.{WaitRow, download_of}
use Rattle.sql_store.specs.Queues.{AreFirstWithBroadcasts, AreFront, AreQueued, HaveBroadcasts, IsNext, MatchesBroadcast, has_broadcast, key_in, queue_order}
use Rattle.sql_store.proofs.ListLemmas.{all_there, download_tie}
use Rattle.numbers.proofs.Small.{some_there}

-- ---- lists

module _ {X : Type 0} where
  pub has_taken : (n : ℕ) (xs : List X) (x : X) → Has (take n xs) x → Has xs x
  has_taken zero xs x at = absurd at
  has_taken (suc n) [] x at = absurd at
  has_taken (suc n) (y ∷ ys) x (inl same) = inl same
  has_taken (suc n) (y ∷ ys) x (inr at) = inr (has_taken n ys x at)

  pub taken_or_left : (n : ℕ) (xs : List X) (x : X) → Has xs x → Has (take n xs) x
      ⊎ Has (drop n xs) x
  taken_or_left zero xs x at = inr at
  taken_or_left (suc n) [] x at = absurd at
  taken_or_left (suc n) (y ∷ ys) x (inl same) = inl (inl same)
  taken_or_left (suc n) (y ∷ ys) x (inr at) =
      elim (taken_or_left n ys x at) [ inl first ↦ inl (inr first) | inr rest ↦ inr rest ]

  none_left : (n : ℕ) (xs : List X) (x : X) → length xs ≤ n → Has (drop n xs) x → ⊥
  none_left zero [] x all at = at
  none_left zero (y ∷ ys) x all at = absurd (omega (arith, all))
  none_left (suc n) [] x all at = at
  none_left (suc n) (y ∷ ys) x all at = none_left n ys x (omega (arith, all)) at

  pub has_dropped : (n : ℕ) (xs : List X) (x : X) → Has (drop n xs) x → Has xs x
  has_dropped zero xs x at = at
  has_dropped (suc n) [] x at = at
  has_dropped (suc n) (y ∷ ys) x at = inr (has_dropped n ys x at)

  module _ (cmp : X → X → Ordering) where
    before : (n : ℕ) (xs : List X) → IsStrictlySortedBy cmp xs → (x y : X) → Has (take n xs) x
        → Has (drop n xs) y → cmp x y ≡ Less
    unfolding IsStrictlySortedBy
    before zero xs up x y first rest = absurd first
    before (suc n) [] up x y first rest = absurd first
    before (suc n) (z ∷ zs) up x y (inl same) rest =
        subst (λ x. cmp x y ≡ Less) (sym same) (all_has (λ y. cmp z y ≡ Less) zs y up.0
        (has_dropped n zs y rest))
    before (suc n) (z ∷ zs) up x y (inr first) rest = before n zs up.1 x y first rest

    sorted_take : (n : ℕ) (xs : List X) → IsStrictlySortedBy cmp xs
        → IsStrictlySortedBy cmp (take n xs)
    unfolding IsStrictlySortedBy
    sorted_take zero xs up = tt
    sorted_take (suc n) [] up = tt
    sorted_take (suc n) (x ∷ xs) up = (
      all_from (λ y. cmp x y ≡ Less) (take n xs) (λ y at. all_has (λ y. cmp x y ≡ Less) xs y up.0
          (has_taken n xs y at)),
      sorted_take n xs up.1,
    )

sorted_unmap : {X Y : Type 0} (f : X → Y) (cmp : Y → Y → Ordering) (xs : List X)
    → IsStrictlySortedBy cmp (map f xs) → IsStrictlySortedBy (λ a b. cmp (f a) (f b)) xs
unfolding IsStrictlySortedBy
sorted_unmap f cmp [] up = tt
sorted_unmap f cmp (x ∷ xs) up = (
  all_from (λ y. cmp (f x) (f y) ≡ Less) xs (λ y at. all_has (λ z. cmp (f x) z ≡ Less) (map f xs)
      (f y) up.0 (has_mapped f xs y at)),
  sorted_unmap f cmp xs up.1,
)

-- ---- downloads pending for the carrier

module _ (c : Content) (spid : ℕ) (found : List WaitRow) (items : List DownloadKey)
    (rises : IsStrictlySortedBy download_cmp items)
    (only : (x : DownloadKey) → Has items x → Has (map download_of found) x)
    (each : (x : DownloadKey) → Has (map download_of found) x → (y : DownloadKey) × Has items y
    × (download_cmp x y ≡ Equal)) where
  one_of_them : (k : WaitKey) (w : WaitRow) → Has found w → (wait_seen w).0 ≡ k
      → (d : DownloadKey) × Has items d × (d.minute.number ≡ k.minute) × (d.id ≡ k.id)
      × (d.attempt ≡ k.attempt)
  one_of_them k w at key =
      let y = each (download_of w) (has_mapped download_of found w at) in
      let t = download_tie (download_of w) y.0 y.2 in (
        y.0,
        y.1,
        sym t.0 ∙ ap (λ (k : WaitKey). k.minute) key,
        sym t.1 ∙ ap (λ (k : WaitKey). k.id) key,
        sym t.2 ∙ ap (λ (k : WaitKey). k.attempt) key,
      )

  waits_there : ((x : WaitRow) → Has found x
      → (get c.waits (wait_seen x).0 ≡ Some (wait_seen x).1) × ((wait_seen x).0.carrier ≡ spid))
      → (d : DownloadKey) → Has items d
      → is_some (get c.waits (wait_key spid d.minute.number d.id d.attempt)) ≡ true
  waits_there its d at =
      let w = from_mapped download_of found d (only d at) in
      let it = its w.0 w.1 in
      subst (λ (d : DownloadKey). is_some
      (get c.waits (wait_key spid d.minute.number d.id d.attempt))
      ≡ true) (sym w.2)
      (ap (λ k. is_some (get c.waits (wait_key k w.0.0.minute.number w.0.0.id w.0.0.attempt)))
      (sym it.1) ∙ ap is_some it.0)

  pub queued_are : Picks wait_seen c.waits (λ k v. k.carrier ≡ spid) found
      → AreQueued c spid ⊥ items
  queued_are picks = record {
    each = λ minute id attempt waits.
        let s = some_there (get c.waits (wait_key spid minute id attempt)) waits in
        let w = picks.each (wait_key spid minute id attempt) s.0 s.1 refl in
        inl (one_of_them (wait_key spid minute id attempt) w.0 w.1
        (ap (λ (e : WaitKey × Subject). e.0) w.2));
    only = waits_there picks.only;
    rises = rises;
  }

  pub front_queued : (n : ℕ) (Left : Type 0) → (n ≤ length found → Left) → AreFront c spid n found
      → AreQueued c spid Left items
  front_queued n Left full front = record {
    each = λ minute id attempt waits.
        let k = wait_key spid minute id attempt in
        let s = some_there (get c.waits k) waits in
        elim (front.each k s.0 s.1 refl) [
          | inl w ↦ inl (one_of_them k w.0 w.1 (ap (λ (e : WaitKey × Subject). e.0) w.2))
          | inr left ↦ inr (
            full left.0,
            λ d at.
                let w = from_mapped download_of found d (only d at) in
                subst (λ (d : DownloadKey). queue_order d minute id attempt ≡ Less) (sym w.2)
                (left.1 w.0 w.1),
          )
        ];
    only = waits_there front.only;
    rises = rises;
  }

-- ---- downloads that have a broadcast

module _ (c : Content) (waits : List DownloadKey) (i : ℕ) (wait : DownloadKey)
    (inside : i < length waits) (item : wait ≡ get_or waits i wait) (downloads : List Download)
    (told : HaveBroadcasts c (take i waits) downloads) where
  kept_more : filter (has_broadcast c) (take (i + 1) waits) ≡ filter (has_broadcast c)
      (take i waits) ++ cond
      (has_broadcast c wait) (wait ∷ []) []
  kept_more = filter_more (has_broadcast c) waits i wait inside
      ∙ ap (λ w. filter (has_broadcast c) (take i waits) ++ cond (has_broadcast c w) (w ∷ []) [])
      (sym item)

  told_more : (d : Download) → IsNext c wait (Some d)
      → HaveBroadcasts c (take (i + 1) waits) (downloads ++ d ∷ [])
  told_more d is =
      let has : has_broadcast c wait ≡ true = ap (has_broadcast c) (sym is.0) ∙ ap is_some is.1.1 in
      record {
        keys = map-append key_in downloads (d ∷ []) ∙ ap (λ l. l ++ key_in d ∷ []) told.keys
            ∙ ap (λ k. filter (has_broadcast c) (take i waits) ++ k ∷ []) is.0
            ∙ ap (λ b. filter (has_broadcast c) (take i waits) ++ cond b (wait ∷ []) []) (sym has)
            ∙ sym kept_more;
        told = All-push (MatchesBroadcast c) downloads d told.told is.1;
      }

  told_none : IsNext c wait None → HaveBroadcasts c (take (i + 1) waits) downloads
  told_none none = record {
    keys = told.keys
        ∙ sym (kept_more ∙ ap (λ b. filter (has_broadcast c) (take i waits) ++ cond b (wait ∷ [])
        [])
        (ap is_some none) ∙ append-nil (filter (has_broadcast c) (take i waits)));
    told = told.told;
  }

  pub told_next : (o : Option Download) → IsNext c wait o
      → HaveBroadcasts c (take (i + 1) waits) (downloads ++ option_to_list o)
  told_next (Some d) is = told_more d is
  told_next None none = subst (HaveBroadcasts c (take (i + 1) waits)) (sym (append-nil downloads))
      (told_none none)

pub one_more_fits : (downloads : List Download) (o : Option Download) (many : ℕ)
    → length downloads < many → length (downloads ++ option_to_list o) ≤ many
one_more_fits downloads (Some d) many low = simp length-append (omega (arith, low))
one_more_fits downloads None many low = simp length-append (omega (arith, low))

-- ---- the first downloads

abbrev behind : (minute id attempt : ℕ) → Download → Ordering
behind minute id attempt e =
    ordering_then (nat_cmp e.minute.number minute) (ordering_then (nat_cmp e.id id)
    (nat_cmp e.attempt attempt))

pub first_are : (c : Content) (spid many : ℕ) (Left : Type 0) (waits : List DownloadKey)
    (downloads : List Download) → AreQueued c spid Left waits
    → AreFirstWithBroadcasts c many waits downloads
    → (Left → length downloads ≡ many)
    → AreFirst c spid many downloads
first_are c spid many Left waits downloads queued first enough = record {
  each = λ minute id attempt row at. elim (queued.each minute id attempt at.0) [
    | inr left ↦ inr (
      enough left.0,
      all_there (λ (e : Download). behind minute id attempt e ≡ Less) downloads
          (λ e has. left.1 (key_in e) (has_taken first.passed waits (key_in e) (passed e has))),
    )
    | inl d ↦
        elim (taken_or_left first.passed waits d.0 d.1) [
          | inl taken ↦ inl (
              let has : has_broadcast c d.0 ≡ true =
              ap (λ i. is_some (get c.broadcasts (broadcast_key i d.0.attempt))) d.3
              ∙ ap (λ a. is_some (get c.broadcasts (broadcast_key id a))) d.4
              ∙ ap is_some at.1 in
              let x = from_mapped key_in downloads d.0 (subst (λ l. Has l d.0) (sym first.told.keys)
              (has_kept (has_broadcast c) (take first.passed waits) d.0 taken has)) in (
                x.0,
                contains_had downloads x.0 x.1,
                ap (λ (k : DownloadKey). k.minute.number) (sym x.2) ∙ d.2,
                ap (λ (k : DownloadKey). k.id) (sym x.2) ∙ d.3,
                ap (λ (k : DownloadKey). k.attempt) (sym x.2) ∙ d.4,
              ))
          | inr left ↦ elim first.whole [
            | inl all ↦ absurd (none_left first.passed waits d.0 all left)
            | inr full ↦ inr (
              full,
              all_there (λ (e : Download). behind minute id attempt e ≡ Less) downloads (λ e has.
                  ap (λ m. ordering_then (nat_cmp e.minute.number m)
                  (ordering_then (nat_cmp e.id id) (nat_cmp e.attempt attempt))) (sym d.2)
                  ∙ ap (λ i. ordering_then (nat_cmp e.minute.number d.0.minute.number)
                  (ordering_then (nat_cmp e.id i) (nat_cmp e.attempt attempt))) (sym d.3)
                  ∙ ap (λ a. ordering_then (nat_cmp e.minute.number d.0.minute.number)
                  (ordering_then (nat_cmp e.id d.0.id) (nat_cmp e.attempt a))) (sym d.4)
                  ∙ before download_cmp first.passed waits queued.rises (key_in e) d.0
                  (passed e has) left),
            )
          ]
        ]
  ];
  only = all_there (IsWaitingDownload c spid) downloads (λ d has.
      let told = all_had d has in (
        told.0,
        (queued.only (key_in d) (has_taken first.passed waits (key_in d) (passed d has)), told.1),
        told.2,
      ));
  rises = sorted_unmap key_in download_cmp downloads (subst (IsStrictlySortedBy download_cmp)
      (sym first.told.keys) (IsStrictlySortedBy-filter download_cmp (has_broadcast c)
      (take first.passed waits) (sorted_take download_cmp first.passed waits queued.rises)));
  most = first.most;
}
  where
    passed : (d : Download) → Has downloads d → Has (take first.passed waits) (key_in d)
    passed d has =
        (has_filtered (has_broadcast c) (take first.passed waits) (key_in d)
        (subst (λ l. Has l (key_in d)) first.told.keys (has_mapped key_in downloads d has))).0

    all_had : (d : Download) → Has downloads d → MatchesBroadcast c d
    all_had d has =
        All-contains (MatchesBroadcast c) downloads d first.told.told (contains_had downloads d has)
