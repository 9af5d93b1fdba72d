-- The first downloads of a carrier's queue, as a store lists them, are those of the queue.
use Rattle.std.proofs.Common.{◌≡◌, ◌<◌, ◌≤◌, ◌⊎◌, ℕ, zero, suc, inl, inr, Bool, true, false, List, [], ◌∷◌, length, map, Option, Some, None, refl, ap, sym, ◌∙◌, subst, arith}
use Rattle.std.specs.Prelude.{not, is_some, take, All, Contains, slice_index_or, if◌then◌else◌}
use Rattle.std.specs.declared.cmp.Ordering.TheVariants.{Less}
use Rattle.std.specs.List.{AllByRecursion}
use Rattle.std.specs.List.Sorted.{IsStrictlySortedBy}
use Rattle.std.specs.Ordering.{nat_cmp, ordering_then}
use Rattle.std.specs.FinMap.{get}
use Rattle.std.proofs.lemmas.Bool.Decides.{nat_tests}
use Rattle.numbers.specs.Subjects.{Subject}
use Rattle.model.specs.Content.{Content, BroadcastRow, broadcast_key, wait_key}
use Rattle.model.specs.Machine.{Fetched}
use Rattle.model.specs.State.{State, Download, is_before, is_carrier, queue}
use Rattle.model.specs.Refusals.{QuestionFrom, Fetch, refusal, tests}
use Rattle.model.proofs.Lists.{Among}
use Rattle.model.specs.Laws.{AllLater, IsQueueSorted}
use Rattle.model.proofs.Queues.{behind_each, front_is, queue_rises}
use Rattle.delivery.specs.declared.download.Download.{Download as DownloadImpl}
use Rattle.settle.specs.Reads.{AreFirst, IsBehind, IsWaiting, IsWaitingDownload, queue_cmp}
use Rattle.settle.specs.Settling.{IsSettled}
use Rattle.requests.specs.Calls.{download_of}
use Rattle.register.specs.Refinement.{Refines}
use Rattle.register.specs.Settling.{SimulatesSettledStep}
use Rattle.register.proofs.Downloads.Acknowledged.{broadcast_there, broadcast_read}
use Rattle.register.proofs.Downloads.Answering.{row_was}
use Rattle.register.proofs.EveryCall.Composed.{answers_read}
use Rattle.register.proofs.Downloads.Queued.{IsAwaited, waiting-awaited, awaited-waiting, the_download, id_is, attempt_is, awaited-queued, queued-awaited}

-- ---- lists of the code

mapped-from : (P : DownloadImpl → Type 0) (ds : List DownloadImpl) (x : Download) → All P ds
    → Among x (map download_of ds) → (d : DownloadImpl) × P d × (x ≡ download_of d)
mapped-from P [] x all there = absurd there
mapped-from P (d ∷ ds) x all (inl e) = (d, all 0 d (omega arith), e)
mapped-from P (d ∷ ds) x all (inr there) =
    mapped-from P ds x (λ k z lt. all (suc k) z (omega (arith, lt))) there

mapped-to : (ds : List DownloadImpl) (d : DownloadImpl) (k : ℕ) → k < length ds
    → slice_index_or ds k d ≡ d → Among (download_of d) (map download_of ds)
mapped-to [] d k lt at = absurd (omega (arith, lt))
mapped-to (x ∷ xs) d zero lt at = inl (ap download_of (sym at))
mapped-to (x ∷ xs) d (suc k) lt at = inr (mapped-to xs d k (omega (arith, lt)) at)

length-mapped : (ds : List DownloadImpl) → length (map download_of ds) ≡ length ds
length-mapped [] = refl
length-mapped (d ∷ ds) = omega (arith, length-mapped ds)

-- The order of the code is the order of the queue.
less-before : (a b : Download)
    → ordering_then (nat_cmp a.minute b.minute) (ordering_then (nat_cmp a.id b.id)
    (nat_cmp a.attempt b.attempt)) ≡ Less → is_before a b ≡ true
less-before a b less = grind (arith, nat_tests)

mapped-rises : (ds : List DownloadImpl) → IsStrictlySortedBy queue_cmp ds
    → IsQueueSorted (map download_of ds)
unfolding IsStrictlySortedBy
mapped-rises [] sorted = tt
mapped-rises (d ∷ ds) sorted = (behind ds sorted.0, mapped-rises ds sorted.1)
  where
    behind : (es : List DownloadImpl) → AllByRecursion (λ e. queue_cmp d e ≡ Less) es
        → AllLater (download_of d) (map download_of es)
    behind [] all = tt
    behind (e ∷ es) all = (less-before (download_of d) (download_of e) all.0, behind es all.1)

-- Two downloads of an ascending list with equal keys are the same.
no_place : (a b : Download) → a.minute ≡ b.minute → a.id ≡ b.id → a.attempt ≡ b.attempt
    → is_before a b ≡ true → ⊥
no_place a b m i t before = grind (arith, nat_tests)

one_place : (ds : List Download) (x y : Download) → IsQueueSorted ds → Among x ds → Among y ds
    → x.minute ≡ y.minute → x.id ≡ y.id → x.attempt ≡ y.attempt → x ≡ y
one_place [] x y rises there also m i t = absurd there
one_place (d ∷ ds) x y rises (inl e) (inl f) m i t = e ∙ sym f
one_place (d ∷ ds) x y rises (inl e) (inr also) m i t =
    absurd (no_place x y m i t (subst (λ z. is_before z y ≡ true) (sym e)
    (behind_each d ds y rises.0 also)))
one_place (d ∷ ds) x y rises (inr there) (inl f) m i t =
    absurd (no_place y x (sym m) (sym i) (sym t) (subst (λ z. is_before z x ≡ true) (sym f)
    (behind_each d ds x rises.0 there)))
one_place (d ∷ ds) x y rises (inr there) (inr also) m i t =
    one_place ds x y rises.1 there also m i t

module _ (st : State) (c : Content) (refines : Refines c st) (settled : (s : Subject)
    → IsSettled c st s) (carrier many : ℕ) where
  -- A download pending in the store is in the queue.
  waits-queued : (d : DownloadImpl) → IsWaitingDownload c carrier d
      → Among (download_of d) (queue st carrier)
  waits-queued d w = by_cases (get c.waits (wait_key carrier d.minute.number d.id d.attempt)) refl
      w.1.0
    where
      told : (s : Subject) (is : IsAwaited st carrier s d.minute.number d.id d.attempt)
          → w.0 ≡ row_was carrier is.broadcast is.waits s → Among (download_of d) (queue st carrier)
      told s is row =
          let same : the_download st c refines carrier s d.minute.number d.id d.attempt is
          ≡ download_of d =
          (λ i. record {
            id = id_is st c refines carrier s d.minute.number d.id d.attempt is i;
            attempt = attempt_is st c refines carrier s d.minute.number d.id d.attempt is i;
            minute = is.sent_at i;
            subject = (ap (λ (r : BroadcastRow). r.subject) (sym row) ∙ sym w.2.subject) i;
            action = (ap (λ (r : BroadcastRow). r.action) (sym row) ∙ sym w.2.action) i;
            routing = (ap (λ (r : BroadcastRow). r.routing) (sym row) ∙ sym w.2.routing) i;
          }) in
          subst (λ x. Among x (queue st carrier)) same (awaited-queued st c refines carrier s
          d.minute.number d.id d.attempt is)

      by_cases : (o : Option Subject)
          → get c.waits (wait_key carrier d.minute.number d.id d.attempt) ≡ o
          → is_some (get c.waits (wait_key carrier d.minute.number d.id d.attempt)) ≡ true →
          Among (download_of d) (queue st carrier)
      by_cases None e there = let f : false ≡ true = sym (ap is_some e) ∙ there in cc
      by_cases (Some s) e there =
          let is : IsAwaited st carrier s d.minute.number d.id d.attempt =
          waiting-awaited st c refines carrier s (settled s) d.minute.number d.id d.attempt e in
          told s is (broadcast_read st c refines carrier s (settled s) d.minute.number d.id
          d.attempt
          is w.0 w.1.1)

  module _ (downloads : List DownloadImpl) (are : AreFirst c carrier many downloads) where
    forth : (x : Download) → Among x (map download_of downloads) → Among x (queue st carrier)
    forth x there =
        let d = mapped-from (IsWaitingDownload c carrier) downloads x are.only there in
        subst (λ y. Among y (queue st carrier)) (sym d.2) (waits-queued d.0 d.1)

    back : (q : Download) → Among q (queue st carrier) →
        Among q (map download_of downloads) ⊎ ((length (map download_of downloads) ≡ many)
        × ((x : Download) → Among x (map download_of downloads) → is_before x q ≡ true))
    back q there = by_cases (get c.broadcasts (broadcast_key q.id q.attempt)) refl
      where
        awaited : IsAwaited st carrier q.subject q.minute q.id q.attempt
        awaited = queued-awaited st c refines carrier q there

        waiting : IsWaiting c carrier q.subject q.minute q.id q.attempt
        waiting = awaited-waiting st c refines carrier q.subject (settled q.subject) q.minute q.id
            q.attempt awaited

        found : ((d : DownloadImpl) × Contains downloads d × (d.minute.number ≡ q.minute)
            × (d.id ≡ q.id) × (d.attempt ≡ q.attempt))
            ⊎ ((length downloads ≡ many) × IsBehind q.minute q.id q.attempt downloads) →
            Among q (map download_of downloads) ⊎ ((length (map download_of downloads) ≡ many)
            × ((x : Download) → Among x (map download_of downloads) → is_before x q ≡ true))
        found (inl d) =
            let listed : Among (download_of d.0) (map download_of downloads) =
            mapped-to downloads d.0 d.1.0 d.1.1 d.1.2 in
            inl (subst (λ x. Among x (map download_of downloads))
            (one_place (queue st carrier) (download_of d.0) q
            (queue_rises st refines.represents.history carrier) (forth (download_of d.0) listed)
            there d.2 d.3 d.4) listed)
        found (inr full) = inr (
          length-mapped downloads ∙ full.0,
          (λ x is.
              let d = mapped-from (λ (y : DownloadImpl). ordering_then
              (nat_cmp y.minute.number q.minute) (ordering_then (nat_cmp y.id q.id)
              (nat_cmp y.attempt q.attempt)) ≡ Less) downloads x full.1 is in
              subst (λ y. is_before y q ≡ true) (sym d.2) (less-before (download_of d.0) q d.1)),
        )

        by_cases : (o : Option BroadcastRow) → get c.broadcasts (broadcast_key q.id q.attempt) ≡ o →
            Among q (map download_of downloads) ⊎ ((length (map download_of downloads) ≡ many)
            × ((x : Download) → Among x (map download_of downloads) → is_before x q ≡ true))
        by_cases None e =
            absurd (broadcast_there st c refines carrier q.subject (settled q.subject) q.minute q.id
            q.attempt awaited e)
        by_cases (Some row) e = found (are.each q.minute q.id q.attempt row (ap is_some waiting, e))

    -- The store's list is the list of the definitions.
    pub front_fetched : map download_of downloads ≡ take many (queue st carrier)
    front_fetched =
        front_is many (map download_of downloads) (queue st carrier)
        (mapped-rises downloads are.rises) (queue_rises st refines.represents.history carrier) forth
        back
        (subst (λ n. n ≤ many) (sym (length-mapped downloads)) are.most)

-- ---- who may fetch

abbrev pub may_fetch : (known : Bool) → Option ℕ
may_fetch known = if not known then Some 1 else None

pub fetch_by : (st : State) (caller n : ℕ)
    → refusal st (QuestionFrom caller (Fetch n)) ≡ may_fetch (is_carrier st caller)
unfolding tests
fetch_by st caller n = refl

pub by_caller : (known b : Bool) → known ≡ b → may_fetch known ≡ (if b then None
    else Some 1)
by_caller true b is = ap (λ x. if x then None else Some 1) is
by_caller false b is = ap (λ x. if x then None else Some 1) is

pub fetch_refused : (old : Content) (caller n : ℕ) (known : Bool)
    → is_some (get old.carriers caller) ≡ known → (st : State) → Refines old st
    → refusal st (QuestionFrom caller (Fetch n)) ≡ (if known then None else Some 1)
fetch_refused old caller n known is st refines =
    fetch_by st caller n ∙ by_caller (is_carrier st caller) known
    (sym (refines.represents.carriers caller) ∙ is)

pub answers_fetched : (old new : Content) (caller many : ℕ) (downloads : List DownloadImpl)
    → is_some (get old.carriers caller) ≡ true → new ≡ old → AreFirst old caller many downloads →
    SimulatesSettledStep old new (QuestionFrom caller (Fetch many))
    (Some (Fetched (map download_of downloads)))
answers_fetched old new caller many downloads known same are =
    answers_read old new (QuestionFrom caller (Fetch many)) (Fetched (map download_of downloads))
    same
    (λ st. refl)
    (λ st refines settled. (
      fetch_refused old caller many true known st refines,
      ap (λ xs. Fetched xs) (front_fetched st old refines (λ s. settled s refl) caller many
          downloads
          are),
    ))
