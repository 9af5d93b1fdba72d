-- A carrier's queue ascends by minute, id and attempt: no two downloads have the same id and
-- attempt.
use Rattle.std.proofs.Common.{◌≡◌, ◌<◌, ◌≤◌, ◌⊎◌, ℕ, zero, suc, inl, inr, Bool, true, false, List, [], ◌∷◌, ◌++◌, length, Option, Some, None, refl, ap, sym, ◌∙◌, subst, arith}
use Rattle.std.specs.Prelude.{⊤, ◌==◌, ◌&&◌, not, cond, find, option_and_then, flat_map, filter, map, take, if◌then◌else◌}
use Rattle.std.specs.List.{cons_option}
use Rattle.std.proofs.lemmas.Bool.Decides.{nat_tests}
use Rattle.numbers.specs.Subjects.{Subject}
use Rattle.model.specs.Versions.{Broadcast, Version, Record, is_among, is_withdrawn, unacknowledged, waiters, version_with}
use Rattle.model.specs.History.{subject_of_id}
use Rattle.model.specs.State.{State, SubjectVersion, Download, record_now, of_its_subject, versions_made, all_versions, version_of_id, download, downloads_of, is_before, inserted, sorted, queue, made_now}
use Rattle.model.specs.Laws.{AllLater, IsQueueSorted, IsSentTo, QueueIsPending}
use Rattle.model.specs.Machine.{HasHistory}
use Rattle.model.proofs.Lists.{Among, mapped-from, filtered-from, flat-from, found-among, contained, all_of}
use Rattle.model.proofs.Shown.{id_found}
use Rattle.model.proofs.Tended.{AreBelow, AreApart, tended_kept}
use Rattle.model.proofs.KeptVersions.{version_now}
use Rattle.numbers.proofs.Small.{some_is}
use Rattle.model.proofs.Entered.{found_is}
use Rattle.model.proofs.Copies.Published.{among_filter}
use Rattle.model.proofs.Copies.Queue.{listed-from, sorted-from, queued-from, queued-to}

-- ---- the order of a queue

before_trans : (a b c : Download) → is_before a b ≡ true → is_before b c ≡ true
    → is_before a c ≡ true
before_trans a b c p q = grind (arith, nat_tests)

-- Of two downloads, at most one is before the other.
pub before_apart : (a b : Download) → is_before a b ≡ true → is_before b a ≡ true → ⊥
before_apart a b p q = grind (arith, nat_tests)

abbrev pub IsSame : Download → Download → Type 0
IsSame a b = (a.id ≡ b.id) × (a.attempt ≡ b.attempt)

before_or : (a b : Download) → (IsSame a b → ⊥) → is_before a b ≡ false → is_before b a ≡ true
before_or a b differs p = by_cases (a.id == b.id) refl (a.attempt == b.attempt) refl
  where
    by_cases : (i : Bool) → (a.id == b.id) ≡ i → (t : Bool) → (a.attempt == b.attempt) ≡ t
        → is_before b a ≡ true
    by_cases true e true f = absurd (differs (grind (arith, nat_tests), grind (arith, nat_tests)))
    by_cases true e false f = grind (arith, nat_tests)
    by_cases false e t f = grind (arith, nat_tests)

pub behind_each : (d : Download) (xs : List Download) (x : Download) → AllLater d xs → Among x xs
    → is_before d x ≡ true
behind_each d [] x all there = absurd there
behind_each d (y ∷ ys) x all (inl e) = subst (λ z. is_before d z ≡ true) (sym e) all.0
behind_each d (y ∷ ys) x all (inr there) = behind_each d ys x all.1 there

behind_more : (a b : Download) (xs : List Download) → is_before a b ≡ true → AllLater b xs
    → AllLater a xs
behind_more a b [] p all = tt
behind_more a b (x ∷ xs) p all = (before_trans a b x p all.0, behind_more a b xs p all.1)

behind_inserted : (a d : Download) (es : List Download) → is_before a d ≡ true → AllLater a es
    → AllLater a (inserted d es)
behind_inserted a d [] p all = (p, tt)
behind_inserted a d (e ∷ es) p all = by_cases (is_before d e) (behind_inserted a d es p all.1)
  where
    by_cases : (b : Bool) → AllLater a (inserted d es) → AllLater a (if b then d ∷ e ∷ es
        else e ∷ inserted d es)
    by_cases true later = (p, all)
    by_cases false later = (all.0, later)

inserted-rises : (d : Download) (es : List Download) → IsQueueSorted es
    → ((x : Download) → Among x es → IsSame x d → ⊥) → IsQueueSorted (inserted d es)
inserted-rises d [] rises differs = (tt, tt)
inserted-rises d (e ∷ es) rises differs =
    by_cases (is_before d e) refl (inserted-rises d es rises.1 (λ x there. differs x (inr there)))
  where
    by_cases : (b : Bool) → is_before d e ≡ b → IsQueueSorted (inserted d es)
        → IsQueueSorted (if b then d ∷ e ∷ es else e ∷ inserted d es)
    by_cases true t later = ((t, behind_more d e es t rises.0), rises)
    by_cases false t later = (
      behind_inserted e d es (before_or d e (λ same. differs e (inl refl) (sym same.0, sym same.1))
          t) rises.0,
      later,
    )

-- ---- no id and attempt occur twice

abbrev pub Apart : List Download → Type 0
Apart [] = ⊤
Apart (d ∷ ds) = ((x : Download) → Among x ds → IsSame x d → ⊥) × Apart ds

sorted-rises : (ds : List Download) → Apart ds → IsQueueSorted (sorted ds)
sorted-rises [] apart = tt
sorted-rises (d ∷ ds) apart =
    inserted-rises d (sorted ds) (sorted-rises ds apart.1)
    (λ x there. apart.0 x (sorted-from ds x there))

among_parts : (x : Download) (xs ys : List Download) → Among x (xs ++ ys) → Among x xs ⊎ Among x ys
among_parts x [] ys there = inr there
among_parts x (z ∷ zs) ys (inl e) = inl (inl e)
among_parts x (z ∷ zs) ys (inr there) = by_cases (among_parts x zs ys there)
  where
    by_cases : Among x zs ⊎ Among x ys → Among x (z ∷ zs) ⊎ Among x ys
    by_cases (inl is) = inl (inr is)
    by_cases (inr is) = inr is

apart_append : (xs ys : List Download) → Apart xs → Apart ys → ((x y : Download) → Among x xs
    → Among y ys → IsSame y x → ⊥) → Apart (xs ++ ys)
apart_append [] ys first second differs = second
apart_append (x ∷ xs) ys first second differs = (
  (λ y there. by_cases y (among_parts y xs ys there)),
  apart_append xs ys first.1 second (λ z y there also. differs z y (inr there) also),
)
  where
    by_cases : (y : Download) → Among y xs ⊎ Among y ys → IsSame y x → ⊥
    by_cases y (inl there) = first.0 y there
    by_cases y (inr there) = differs x y (inl refl) there

pub below_each : (n : ℕ) (bs : List Broadcast) (b : Broadcast) → AreBelow n bs → Among b bs
    → b.attempt < n
below_each n [] b below there = absurd there
below_each n (x ∷ xs) b below (inl e) = subst (λ (y : Broadcast). y.attempt < n) (sym e) below.0
below_each n (x ∷ xs) b below (inr there) = below_each n xs b below.1 there

-- The downloads of one version are apart.
apart_sent : (test : Broadcast → Bool) (e : SubjectVersion) (bs : List Broadcast) → AreApart bs
    → Apart (map (download e) (filter test bs))
apart_sent test e [] apart = tt
apart_sent test e (b ∷ bs) apart = by_cases (test b) (apart_sent test e bs apart.1)
  where
    other : (x : Download) → Among x (map (download e) (filter test bs)) → IsSame x (download e b)
        → ⊥
    other x there same =
        let from = mapped-from (download e) (filter test bs) x there in
        let less : from.0.attempt < b.attempt =
        below_each b.attempt bs from.0 apart.0 (filtered-from test bs from.0 from.1).0 in
        let equal : from.0.attempt ≡ b.attempt = ap (λ (d : Download). d.attempt) (sym from.2)
        ∙ same.1 in
        absurd (omega (arith, less, equal))

    by_cases : (t : Bool) → Apart (map (download e) (filter test bs))
        → Apart (map (download e) (if t then b ∷ filter test bs else filter test bs))
    by_cases true later = (other, later)
    by_cases false later = later

-- The downloads of all versions are apart, since ids ascend.
listed_above : (at : Subject → Record) (from : ℕ) (ss : List Subject) (e : SubjectVersion)
    → Among e (versions_made at from ss) → from ≤ e.version.id
listed_above at from [] e there = absurd there
listed_above at from (s ∷ ss) e there =
    by_cases (λ is. listed_above at (suc from) ss e is) (version_with from (at s)) refl there
  where
    by_cases : (Among e (versions_made at (suc from) ss) → suc from ≤ e.version.id)
        → (o : Option Version)
        → version_with from (at s) ≡ o
        → Among e (cons_option (of_its_subject s o) (versions_made at (suc from) ss))
        → from ≤ e.version.id
    by_cases later None found is = omega (arith, later is)
    by_cases later (Some v) found (inl same) = let id : e.version.id ≡ from =
        ap (λ (x : SubjectVersion). x.version.id) same ∙ id_found from (at s).versions v found in
        omega (arith, id)
    by_cases later (Some v) found (inr is) = omega (arith, later is)

apart_listed : (at : Subject → Record) (test : Broadcast → Bool) (from : ℕ) (ss : List Subject)
    → ((e : SubjectVersion) → Among e (versions_made at from ss) → AreApart e.version.broadcasts) →
    Apart (flat_map (downloads_of test) (versions_made at from ss))
apart_listed at test from [] apart = tt
apart_listed at test from (s ∷ ss) apart =
    by_cases (λ each. apart_listed at test (suc from) ss each) (version_with from (at s)) refl apart
  where
    by_cases : (((e : SubjectVersion) → Among e (versions_made at (suc from) ss)
        → AreApart e.version.broadcasts)
        → Apart (flat_map (downloads_of test) (versions_made at (suc from) ss)))
        → (o : Option Version) → version_with from (at s) ≡ o →
        ((e : SubjectVersion)
        → Among e (cons_option (of_its_subject s o) (versions_made at (suc from) ss))
        → AreApart e.version.broadcasts) →
        Apart (flat_map (downloads_of test) (cons_option (of_its_subject s o)
        (versions_made at (suc from) ss)))
    by_cases later None found each = later each
    by_cases later (Some v) found each =
        let e : SubjectVersion = record { subject = s; version = v } in
        apart_append (downloads_of test e)
        (flat_map (downloads_of test) (versions_made at (suc from) ss))
        (apart_sent test e v.broadcasts (each e (inl refl))) (later (λ x there. each x (inr there)))
        (λ x y there also same.
        let first = mapped-from (download e) (filter test v.broadcasts) x there in
        let second = flat-from (downloads_of test) (versions_made at (suc from) ss) y also in
        let told = mapped-from (download second.0) (filter test second.0.version.broadcasts) y
        second.2 in
        let id : x.id ≡ from = ap (λ (d : Download). d.id) first.2 ∙ id_found from (at s).versions v
        found in
        let above : suc from ≤ second.0.version.id =
        listed_above at (suc from) ss second.0 second.1 in
        let its : y.id ≡ second.0.version.id = ap (λ (d : Download). d.id) told.2 in
        absurd (omega (arith, id, above, its, same.0)))

-- The queue ascends.
pub queue_rises : (st : State) → HasHistory st → (c : ℕ)
    → IsQueueSorted (queue st c)
unfolding queue
queue_rises st is c =
    sorted-rises (flat_map (downloads_of (λ b. is_among c (waiters b))) (all_versions st))
    (apart_listed (record_now st) (λ b. is_among c (waiters b)) 1 (made_now st)
    (λ e there.
    let found = listed-from (record_now st) 1 (made_now st) e there in
    (version_now tended_kept st is e.subject found.0 e.version found.1).apart))

-- ---- the downloads in a queue

-- A broadcast is found by its attempt.
pub found_by_attempt : (bs : List Broadcast) (b : Broadcast) → AreApart bs → Among b bs
    → find (λ x. x.attempt == b.attempt) bs ≡ Some b
found_by_attempt [] b apart there = absurd there
found_by_attempt (x ∷ xs) b apart (inl e) =
    let attempts : x.attempt ≡ b.attempt = ap (λ (y : Broadcast). y.attempt) (sym e) in
    let same : (x.attempt == b.attempt) ≡ true = grind (arith, nat_tests) in
    ap (λ k. cond k (Some x) (find (λ y. y.attempt == b.attempt) xs)) same
    ∙ ap (λ y. Some y) (sym e)
found_by_attempt (x ∷ xs) b apart (inr there) =
    let below : b.attempt < x.attempt = below_each x.attempt xs b apart.0 there in
    let differs : (x.attempt == b.attempt) ≡ false = grind (arith, nat_tests) in
    ap (λ k. cond k (Some x) (find (λ y. y.attempt == b.attempt) xs)) differs
    ∙ found_by_attempt xs b apart.1 there

-- A broadcast is pending for a carrier that it was sent to and that has not acknowledged it, unless
-- it is withdrawn.
waits_is : (c : ℕ) (b : Broadcast)
    → is_among c (waiters b)
    ≡ (not (is_withdrawn b) && (not (is_among c b.acknowledged) && is_among c b.recipients))
waits_is c b = by_cases (is_withdrawn b)
  where
    by_cases : (w : Bool) → is_among c (if w then [] else unacknowledged b)
        ≡ (not w && (not (is_among c b.acknowledged) && is_among c b.recipients))
    by_cases true = refl
    by_cases false = among_filter c (λ k. not (is_among k b.acknowledged)) b.recipients

three : (w a r : Bool) → (not w && (not a && r)) ≡ true → (w ≡ false) × (r ≡ true) × (a ≡ false)
three false false true e = (refl, refl, refl)
three true a r e = let f : false ≡ true = e in cc
three false true r e = let f : false ≡ true = e in cc
three false false false e = let f : false ≡ true = e in cc

module _ (st : State) (is : HasHistory st) (c : ℕ) where
  sent_to : (d : Download) → Among d (queue st c) → IsSentTo st c d
  sent_to d there =
      let q = queued-from st c d there in
      let id : d.id ≡ q.id =
      ap (λ (x : Download). x.id) q.is ∙ id_found q.id (record_now st q.at.subject).versions
      q.at.version q.found in
      let apart : AreApart q.at.version.broadcasts =
      (version_now tended_kept st is q.at.subject q.id q.at.version q.found).apart in
      let parts = three (is_withdrawn q.broadcast) (is_among c q.broadcast.acknowledged)
      (is_among c q.broadcast.recipients) (sym (waits_is c q.broadcast) ∙ q.waits) in
      record {
        at = q.at;
        broadcast = q.broadcast;
        stands = ap (version_of_id st) id ∙ found_is st is q.at.subject q.id q.at.version q.found;
        sent = ap (λ (x : Download). find (λ b. b.attempt == x.attempt) q.at.version.broadcasts)
            q.is ∙ found_by_attempt q.at.version.broadcasts q.broadcast apart q.sent;
        is = q.is;
        kept = parts.0;
        recipient = parts.1;
        missing = parts.2;
      }

  -- The version that is found by an id is in its subject's record.
  version_stands : (id : ℕ) (e : SubjectVersion) → version_of_id st id ≡ Some e
      → version_with id (record_now st e.subject) ≡ Some e.version
  version_stands id e found = by_cases (subject_of_id id 1 (made_now st)) found
    where
      inner : (t : Subject) (o : Option Version) → version_with id (record_now st t) ≡ o
          → of_its_subject t o ≡ Some e → version_with id (record_now st e.subject) ≡ Some e.version
      inner t (Some v) at f =
          let same : record { subject = t; version = v } ≡ e =
          some_is (record { subject = t; version = v }) e f in
          subst (λ (x : SubjectVersion). version_with id (record_now st x.subject) ≡ Some x.version)
          same at
      inner t None at f = let no : None ≡ Some e = f in cc

      by_cases : (o : Option Subject)
          → option_and_then (λ t. of_its_subject t (version_with id (record_now st t))) o ≡ Some e
          → version_with id (record_now st e.subject) ≡ Some e.version
      by_cases (Some t) f = inner t (version_with id (record_now st t)) refl f
      by_cases None f = let no : None ≡ Some e = f in cc

  sent_queued : (d : Download) → IsSentTo st c d → Among d (queue st c)
  sent_queued d sent =
      let version =
      found-among (λ (v : Version). v.id == d.id) (record_now st sent.at.subject).versions
      sent.at.version (version_stands d.id sent.at sent.stands) in
      let broadcast =
      found-among (λ (b : Broadcast). b.attempt == d.attempt) sent.at.version.broadcasts
      sent.broadcast sent.sent in
      let waits : is_among c (waiters sent.broadcast) ≡ true =
      waits_is c sent.broadcast
      ∙ (λ i. not (sent.kept i) && (not (sent.missing i) && sent.recipient i)) in
      subst (λ x. Among x (queue st c)) (sym sent.is) (queued-to st is sent.at.subject c
      sent.at.version sent.broadcast version.0 broadcast.0 waits)

pub queue_is_what_waits : QueueIsPending
queue_is_what_waits st is c = (
  queue_rises st is.history c,
  all_of (IsSentTo st c) (queue st c) (sent_to st is.history c),
  (λ d sent. contained (queue st c) d (sent_queued st is.history c d sent)),
)

-- ---- the first downloads of a queue

-- An ascending part of a queue that all its other downloads follow is the queue's first `many`
-- downloads, or all of them.
pub front_is : (many : ℕ) (xs qs : List Download) → IsQueueSorted xs → IsQueueSorted qs
    → ((x : Download) → Among x xs → Among x qs) →
    ((q : Download) → Among q qs → Among q xs ⊎ ((length xs ≡ many) × ((x : Download) → Among x xs
    → is_before x q ≡ true))) → length xs ≤ many → xs ≡ take many qs
front_is zero [] qs rx rq forth back most = refl
front_is (suc many) [] [] rx rq forth back most = refl
front_is (suc many) [] (q ∷ qs) rx rq forth back most = by_cases (back q (inl refl))
  where
    by_cases : Among q [] ⊎ ((zero ≡ suc many) × ((x : Download) → Among x []
        → is_before x q ≡ true))
        → [] ≡ take (suc many) (q ∷ qs)
    by_cases (inl there) = absurd there
    by_cases (inr full) = absurd (omega (arith, full.0))
front_is many (x ∷ xs) [] rx rq forth back most = absurd (forth x (inl refl))
front_is zero (x ∷ xs) (q ∷ qs) rx rq forth back most = absurd (omega (arith, most))
front_is (suc many) (x ∷ xs) (q ∷ qs) rx rq forth back most =
    let rest : xs ≡ take many qs =
    front_is many xs qs rx.1 rq.1 (λ y there. further y there (forth y (inr there)))
    (λ y there. left y there (back y (inr there))) (omega (arith, most)) in
    (λ i. same i ∷ rest i)
  where
    same : x ≡ q
    same = by_cases (forth x (inl refl)) (back q (inl refl))
      where
        by_cases : (x ≡ q) ⊎ Among x qs → Among q (x ∷ xs) ⊎ ((length (x ∷ xs) ≡ suc many)
            × ((z : Download) → Among z (x ∷ xs) → is_before z q ≡ true)) → x ≡ q
        by_cases (inl e) there = e
        by_cases (inr later) (inl (inl e)) = sym e
        by_cases (inr later) (inl (inr there)) =
            absurd (before_apart x q (behind_each x xs q rx.0 there)
            (behind_each q qs x rq.0 later))
        by_cases (inr later) (inr full) =
            absurd (before_apart x q (full.1 x (inl refl)) (behind_each q qs x rq.0 later))

    not_first : (y : Download) → Among y xs → y ≡ q → ⊥
    not_first y there e =
        let p : is_before x x ≡ true =
        subst (λ z. is_before x z ≡ true) (e ∙ sym same) (behind_each x xs y rx.0 there) in
        before_apart x x p p

    further : (y : Download) → Among y xs → (y ≡ q) ⊎ Among y qs → Among y qs
    further y there (inl e) = absurd (not_first y there e)
    further y there (inr is) = is

    nor_here : (y : Download) → Among y qs → y ≡ x → ⊥
    nor_here y there e =
        let p : is_before q q ≡ true =
        subst (λ z. is_before q z ≡ true) (e ∙ same) (behind_each q qs y rq.0 there) in
        before_apart q q p p

    left : (y : Download) → Among y qs → Among y (x ∷ xs) ⊎ ((length (x ∷ xs) ≡ suc many)
        × ((z : Download) → Among z (x ∷ xs) → is_before z y ≡ true)) →
        Among y xs ⊎ ((length xs ≡ many) × ((z : Download) → Among z xs → is_before z y ≡ true))
    left y there (inl (inl e)) = absurd (nor_here y there e)
    left y there (inl (inr is)) = inl is
    left y there (inr full) = inr (omega (arith, full.0), (λ z is. full.1 z (inr is)))
