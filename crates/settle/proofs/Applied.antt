-- Rows written one after the other, and the content after them.
use Rattle.std.proofs.Common.{◌≡◌, ℕ, Bool, cond, ◌&&◌, List, [], ◌∷◌, ◌++◌, map, Option, Some, refl, ap, sym, ◌∙◌}
use Rattle.std.specs.Prelude.{◌==◌, flat_map, if◌then◌else◌}
use Rattle.std.specs.declared.cmp.Ordering.{Ordering}
use Rattle.std.specs.Ordering.{nat_cmp, ordering_then, eq_by_cmp}
use Rattle.std.specs.Cmp.{IsTotalOrder, nat_cmp_total, unsigned_tied, tied_then}
use Rattle.std.specs.FinMap.{FinMap, get, insert, get-insert}
use Rattle.std.proofs.lemmas.Cmp.{then_total, on_total}
use Rattle.numbers.specs.Subjects.{Subject}
use Rattle.model.specs.Statuses.{Send}
use Rattle.model.specs.Windows.{WindowSet}
use Rattle.model.specs.Versions.{Record}
use Rattle.model.specs.Changes.{routing_sent}
use Rattle.model.specs.Content.{Content, VersionRow, BroadcastRow, BroadcastKey, WaitKey, broadcast_cmp, wait_cmp, RowsMatch, of_subject, broadcast_key, wait_key}
use Rattle.settle.specs.Changes.{Changes, AppliesChanges, put_rows, same_broadcast, same_wait}
use Rattle.settle.specs.Sending.{SendingVersion, begun_version, begun_broadcast, begun_waits, send_changes, sends_changes}
use Rattle.numbers.proofs.Small.{numbers_turned, grouped}

-- ---- one table

pub put_rows-append : {K R : Type 0} (same : K → K → Bool) (ps qs : List (K × R)) (k : K)
    (before : Option R) → put_rows same (ps ++ qs) k before ≡ put_rows same qs k
    (put_rows same ps k before)
put_rows-append same [] qs k before = refl
put_rows-append same (p ∷ ps) qs k before =
    put_rows-append same ps qs k (if same p.0 k then Some p.1 else before)

abbrev pub put_all : {K X : Type 0} {R : K → K → Ordering} → FinMap R X → List (K × X) → FinMap R X
put_all m [] = m
put_all m (p ∷ ps) = put_all (insert m p.0 p.1) ps

module _ {K X : Type 0} {R : K → K → Ordering} (o : IsTotalOrder R) (same : K → K
    → Bool) (ties : (a b : K) → eq_by_cmp R b a ≡ same a b) where
  pub get-put_all : (m : FinMap R X) (ps : List (K × X)) (q : K)
      → get (put_all m ps) q ≡ put_rows same ps q (get m q)
  get-put_all m [] q = refl
  get-put_all m (p ∷ ps) q =
      get-put_all (insert m p.0 p.1) ps q ∙ ap (put_rows same ps q) (get-insert o m p.0 p.1 q
      ∙ ap (λ b. cond b (Some p.1) (get m q)) (ties p.0 q))

-- ---- the three tables

number_ties : (a b : ℕ) → eq_by_cmp nat_cmp b a ≡ (a == b)
number_ties a b = unsigned_tied b a ∙ numbers_turned b a

broadcast_total : IsTotalOrder broadcast_cmp
broadcast_total =
    then_total (on_total (λ (k : BroadcastKey). k.id) nat_cmp_total)
    (on_total (λ (k : BroadcastKey). k.attempt) nat_cmp_total)

broadcast_ties : (a b : BroadcastKey) → eq_by_cmp broadcast_cmp b a ≡ same_broadcast a b
broadcast_ties a b = sym (tied_then (nat_cmp b.id a.id) (nat_cmp b.attempt a.attempt))
    ∙ ap (λ x. x && eq_by_cmp nat_cmp b.attempt a.attempt) (number_ties a.id b.id)
    ∙ ap (λ x. (a.id == b.id) && x) (number_ties a.attempt b.attempt)

wait_total : IsTotalOrder wait_cmp
wait_total =
    then_total (on_total (λ (k : WaitKey). k.carrier) nat_cmp_total)
    (then_total (on_total (λ (k : WaitKey). k.minute) nat_cmp_total)
    (then_total (on_total (λ (k : WaitKey). k.id) nat_cmp_total)
    (on_total (λ (k : WaitKey). k.attempt) nat_cmp_total)))

wait_ties : (a b : WaitKey) → eq_by_cmp wait_cmp b a ≡ same_wait a b
wait_ties a b =
    sym (tied_then (nat_cmp b.carrier a.carrier) (ordering_then (nat_cmp b.minute a.minute)
    (ordering_then (nat_cmp b.id a.id) (nat_cmp b.attempt a.attempt))))
    ∙ ap (λ x. eq_by_cmp nat_cmp b.carrier a.carrier && x)
    (sym (tied_then (nat_cmp b.minute a.minute) (ordering_then (nat_cmp b.id a.id)
    (nat_cmp b.attempt a.attempt))))
    ∙ ap (λ x. eq_by_cmp nat_cmp b.carrier a.carrier && (eq_by_cmp nat_cmp b.minute a.minute && x))
    (sym (tied_then (nat_cmp b.id a.id) (nat_cmp b.attempt a.attempt)))
    ∙ (λ i. number_ties a.carrier b.carrier i && (number_ties a.minute b.minute i
    && (number_ties a.id b.id i && number_ties a.attempt b.attempt i)))
    ∙ grouped (a.carrier == b.carrier) (a.minute == b.minute) (a.id == b.id)
    (a.attempt == b.attempt)

-- The content with the rows of versions, broadcasts and downloads written.
abbrev pub applied : Changes → Content → Content
applied changes c = record c {
  versions = put_all c.versions changes.versions;
  broadcasts = put_all c.broadcasts changes.broadcasts;
  waits = put_all c.waits changes.waits;
}

-- Holds if `new` has the versions, broadcasts and downloads of `old` with those of the changes
-- written.
pub record Puts (changes : Changes) (old new : Content) : Type 0 where
  pub versions : (k : ℕ) → get new.versions k ≡ put_rows ◌==◌ changes.versions k
      (get old.versions k)
  pub broadcasts : (k : BroadcastKey)
      → get new.broadcasts k ≡ put_rows same_broadcast changes.broadcasts k (get old.broadcasts k)
  pub waits : (k : WaitKey) → get new.waits k ≡ put_rows same_wait changes.waits k (get old.waits k)

pub applied_puts : (changes : Changes) (c : Content) → Puts changes c (applied changes c)
applied_puts changes c = record {
  versions = λ k. get-put_all nat_cmp_total ◌==◌ number_ties c.versions changes.versions k;
  broadcasts = λ k. get-put_all broadcast_total same_broadcast broadcast_ties c.broadcasts
      changes.broadcasts k;
  waits = λ k. get-put_all wait_total same_wait wait_ties c.waits changes.waits k;
}

-- ---- versions that begin to send, one after the other

module _ (w : WindowSet) (minute : ℕ) (action : Send) (all_carriers : List ℕ) where
  abbrev pub sending_one : SendingVersion → Changes
  sending_one b =
      send_changes b.id minute action b.subject b.version (routing_sent action b.version)
      all_carriers

  abbrev pub sent_in_turn : List SendingVersion → Content → Content
  sent_in_turn [] c = c
  sent_in_turn (b ∷ bs) c = sent_in_turn bs (applied (sending_one b) c)

  pub sent_puts : (bs : List SendingVersion) (c : Content)
      → Puts (sends_changes minute action bs all_carriers) c (sent_in_turn bs c)
  sent_puts [] c = record { versions = λ k. refl; broadcasts = λ k. refl; waits = λ k. refl }
  sent_puts (b ∷ bs) c =
      let later = sent_puts bs (applied (sending_one b) c) in
      let first = applied_puts (sending_one b) c in
      record {
        versions = λ k. later.versions k ∙ ap (put_rows ◌==◌ (map (begun_version) bs) k)
            (first.versions k);
        broadcasts =
            λ k. later.broadcasts k
            ∙ ap (put_rows same_broadcast (map (begun_broadcast minute action) bs) k)
            (first.broadcasts k);
        waits = λ k. later.waits k
            ∙ ap (put_rows same_wait (flat_map (begun_waits minute all_carriers) bs) k)
            (first.waits k)
            ∙ sym (put_rows-append same_wait (begun_waits minute all_carriers b)
            (flat_map (begun_waits minute all_carriers) bs) k (get c.waits k));
      }

  -- One version's rows applied are its changes.
  pub one_changed : (b : SendingVersion) (c : Content)
      → AppliesChanges (sending_one b) c (applied (sending_one b) c)
  one_changed b c =
      let puts = applied_puts (sending_one b) c in
      record {
        carriers = λ k. refl;
        lrns = λ k. refl;
        codes = λ k. refl;
        blocks = λ k. refl;
        versions = puts.versions;
        broadcasts = puts.broadcasts;
        waits = puts.waits;
        sets = λ k. refl;
        clock = refl;
      }

-- Two contents with the same rows written match the same records.
pub same_shows : (changes : Changes) (old one other : Content) → Puts changes old one
    → Puts changes old other → (w : WindowSet) (s : Subject) (r : Record) → RowsMatch one s r
    → RowsMatch other s r
same_shows changes old one other is its w s r shows = record {
  versions = λ k. ap (of_subject s (λ (v : VersionRow). v.subject)) (its.versions k
      ∙ sym (is.versions k)) ∙ shows.versions k;
  broadcasts =
      λ k a. ap (of_subject s (λ (b : BroadcastRow). b.subject)) (its.broadcasts (broadcast_key k a)
      ∙ sym (is.broadcasts (broadcast_key k a))) ∙ shows.broadcasts k a;
  waits = λ c m k a. ap (of_subject s (λ t. t)) (its.waits (wait_key c m k a)
      ∙ sym (is.waits (wait_key c m k a)))
      ∙ shows.waits c m k a;
}
