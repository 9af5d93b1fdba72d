-- What a carrier's own acknowledgement makes of its broadcasts: one is acknowledged, after all
-- before it.
use Rattle.std.proofs.Common.{◌≡◌, ℕ, ◌<◌, Bool, true, false, cond, not, ◌&&◌, ◌||◌, List, [], ◌∷◌, ◌++◌, map, Some, None, refl, ap, sym, ◌∙◌, subst, arith, inl, inr}
use Rattle.std.specs.Prelude.{◌==◌, filter, flat_map, if◌then◌else◌}
use Rattle.std.specs.List.{list_any, AllByRecursion}
use Rattle.std.proofs.lemmas.Bool.Decides.{nat_tests}
use Rattle.numbers.specs.Subjects.{Subject, subject_eq}
use Rattle.model.specs.Versions.{Broadcast, Version, with_number, is_among, is_withdrawn, waiters, unacknowledged}
use Rattle.model.specs.Changes.{acknowledged_broadcast, acknowledged_by, changed_at, of_id}
use Rattle.model.specs.History.{AcknowledgementRequest}
use Rattle.model.specs.State.{State, SubjectVersion, Download, record_now, version_of_id, download, downloads_of, downloads_acknowledged, first_of, is_before, queue, set_now}
use Rattle.model.specs.Refusals.{RequestFrom, refusal, tests, is_download, is_preceded}
use Rattle.model.specs.Machine.{HasHistory}
use Rattle.numbers.proofs.Small.{same_number, true-false, and_first, and_second, denied, some_is, equal_number, negated, true_both}
use Rattle.model.proofs.Lists.{Among, any_there, there_any, mapped-from, mapped-to, filtered-from, filtered-to, flat-from, flat-to, each, each_there, each-among}
use Rattle.model.proofs.Accepted.{none_holds}
use Rattle.model.proofs.Entered.{found_is, subject_eq-refl}
use Rattle.model.proofs.Shown.{id_found}
use Rattle.model.proofs.Begun.{HasBegun, begun_kept}
use Rattle.model.proofs.Tended.{AreApart, IsTended, tended_kept}
use Rattle.model.proofs.Rising.{among-with_number}
use Rattle.model.proofs.KeptVersions.{versions_kept}
use Rattle.model.proofs.Copies.{Carrier, Placed, stands_for, place, own_of, own, placed, download_of, AreInOrder, AllMarked, each_own, each_placed}
use Rattle.model.proofs.Copies.Queue.{IsQueued, queued-from, found_by_id}
use Rattle.model.proofs.Copies.Published.{waits_or_not, answered_else, map_append}
use Rattle.model.proofs.Copies.Followed.{IsNext, IsMarkedNow, thinned_is, next_thinned}
use Rattle.model.proofs.Copies.Steps.{changed_placed}
use Rattle.model.proofs.Copies.Order.{IsLower, AreLower}
use Rattle.model.proofs.Copies.Passing.{completed_own}
use Rattle.model.specs.Windows.{WindowSet}
use Rattle.model.proofs.Queues.{below_each}

-- ---- one of a list is marked

abbrev matches : (id attempt : ℕ) → Placed → Bool
matches id attempt p = (p.id == id) && (p.attempt == attempt)

abbrev marked_if : Bool → Placed → Placed
marked_if b p = if b then record p { marked = true } else p

abbrev mark : (id attempt : ℕ) → Placed → Placed
mark id attempt p = marked_if (matches id attempt p) p

module _ (id attempt : ℕ) where
  unmarked : (ps : List Placed) → AllByRecursion (λ p. matches id attempt p ≡ false) ps
      → map (mark id attempt) ps ≡ ps
  unmarked [] none = refl
  unmarked (p ∷ ps) none = ap (λ b. marked_if b p ∷ map (mark id attempt) ps) none.0
      ∙ ap (λ qs. p ∷ qs) (unmarked ps none.1)

  -- What is marked stays marked.
  answered_marked : (ps : List Placed) → AllMarked ps → map (mark id attempt) ps ≡ ps
  answered_marked [] all = refl
  answered_marked (p ∷ ps) all =
      ap (λ q. q ∷ map (mark id attempt) ps) (by_cases (matches id attempt p))
      ∙ ap (λ qs. p ∷ qs) (answered_marked ps all.1)
    where
      by_cases : (b : Bool) → marked_if b p ≡ p
      by_cases true = ap (λ x. let q : Placed = record p { marked = x } in q) (sym all.0)
      by_cases false = refl

  higher_differs : (p q : Placed) → IsLower p q → matches id attempt q ≡ true
      → matches id attempt p ≡ false
  higher_differs p q under is =
      by_cases under (equal_number q.id id (and_first (q.id == id) (q.attempt == attempt) is))
      (equal_number q.attempt attempt (and_second (q.id == id) (q.attempt == attempt) is))
    where
      drop : (b : Bool) → (b && false) ≡ false
      drop true = refl
      drop false = refl

      by_cases : IsLower p q → q.id ≡ id → q.attempt ≡ attempt → matches id attempt p ≡ false
      by_cases (inl below) e f = let no : (p.id == id) ≡ false = grind (arith, nat_tests) in
          ap (λ b. b && (p.attempt == attempt)) no
      by_cases (inr below) e f =
          let under_it : q.attempt < p.attempt = below.1 in
          let no : (p.attempt == attempt) ≡ false = grind (arith, nat_tests) in
          ap (λ b. (p.id == id) && b) no ∙ drop (p.id == id)

  -- The one that matches is marked, and all before it are marked already.
  mark_answers : (s : Subject) (p : Placed) → matches id attempt p ≡ true → p.marked ≡ false
      → (ps : List Placed) → AreInOrder s ps → AreLower ps →
      AllByRecursion (λ q. is_before (download_of s q) (download_of s p) ≡ true
      → q.marked ≡ true) ps → Among p ps → IsMarkedNow p.routing ps (map (mark id attempt) ps)
  mark_answers s p is waits [] order lower done there = absurd there
  mark_answers s p is waits (q ∷ qs) order lower done (inl e) =
      subst (λ (x : Placed). IsMarkedNow x.routing (q ∷ qs) (map (mark id attempt) (q ∷ qs)))
      (sym e)
      (inl (
        ap (λ (x : Placed). x.marked) (sym e) ∙ waits,
        ap (λ b. (marked_if b q).marked) here,
        ap (λ b. (marked_if b q).routing) here,
        answered_marked qs behind,
        behind,
      ))
    where
      here : matches id attempt q ≡ true
      here = ap (matches id attempt) (sym e) ∙ is

      all_before : (xs : List Placed)
          → AllByRecursion (λ x. is_before (download_of s x) (download_of s q) ≡ true) xs
          → AllByRecursion (λ x. is_before (download_of s x) (download_of s p) ≡ true
          → x.marked ≡ true) xs → AllMarked xs
      all_before [] before each_done = tt
      all_before (x ∷ xs) before each_done = (
        each_done.0 (ap (λ (y : Placed). is_before (download_of s x) (download_of s y)) e
            ∙ before.0),
        all_before xs before.1 each_done.1,
      )

      behind : AllMarked qs
      behind = all_before qs order.0 done.1
  mark_answers s p is waits (q ∷ qs) order lower done (inr there) =
      inr (
        ap (λ b. marked_if b q) (higher_differs q p (each-among (IsLower q) qs p lower.0 there) is),
        mark_answers s p is waits qs order.1 lower.1 done.1 there,
      )

-- ---- an acknowledgement marks

module _ (w : WindowSet) (c id attempt : ℕ) where
  own_marked : (i : ℕ) → (i == id) ≡ true → (bs : List Broadcast)
      → own_of (Carrier c) i (map (acknowledged_broadcast c attempt) bs) ≡ map (mark id attempt)
      (own_of (Carrier c) i bs)
  own_marked i same [] = refl
  own_marked i same (b ∷ bs) =
      ap (λ t. map (place (Carrier c) i) (cond t (acknowledged_broadcast c attempt b ∷ rest) rest))
      (stands (b.attempt == attempt)) ∙ by_cases (stands_for (Carrier c) b) (own_marked i same bs)
    where
      rest : List Broadcast
      rest = filter (stands_for (Carrier c)) (map (acknowledged_broadcast c attempt) bs)

      stands : (t : Bool) → stands_for (Carrier c) (if t then record b {
        acknowledged =
            with_number c b.acknowledged;
      } else b) ≡ stands_for (Carrier c) b
      stands true = refl
      stands false = refl

      first : (a : Bool) → a ≡ true → (t : Bool)
          → place (Carrier c) i (if t then record b { acknowledged = with_number c b.acknowledged }
          else b) ≡ marked_if (a && t) (place (Carrier c) i b)
      first true e true = ap (λ x. let p : Placed = record {
        id = i;
        attempt = b.attempt;
        minute = b.minute;
        action = b.action;
        routing = b.routing;
        marked = x;
      } in p)
          (among-with_number c c b.acknowledged ∙ ap (λ x. x || is_among c b.acknowledged)
          (same_number c))
      first true e false = refl
      first false e t = cc

      by_cases : (t : Bool) → map (place (Carrier c) i) rest ≡ map (mark id attempt)
          (own_of (Carrier c) i bs) →
          map (place (Carrier c) i) (cond t (acknowledged_broadcast c attempt b ∷ rest) rest)
          ≡ map (mark id attempt)
          (map (place (Carrier c) i) (cond t (b ∷ filter (stands_for (Carrier c)) bs)
          (filter (stands_for (Carrier c)) bs)))
      by_cases true later =
          ap (λ p. p ∷ map (place (Carrier c) i) rest) (first (i == id) same (b.attempt == attempt))
          ∙ ap (λ ps. mark id attempt (place (Carrier c) i b) ∷ ps) later
      by_cases false later = later

  -- Another version has none that matches.
  others_unmarked : (i : ℕ) → (i == id) ≡ false → (bs : List Broadcast)
      → own_of (Carrier c) i bs ≡ map (mark id attempt) (own_of (Carrier c) i bs)
  others_unmarked i differs bs =
      sym (unmarked id attempt (own_of (Carrier c) i bs)
      (each_own (Carrier c) (λ p. matches id attempt p ≡ false) i bs (none bs)))
    where
      none : (xs : List Broadcast) → AllByRecursion (λ x. stands_for (Carrier c) x ≡ true
          → matches id attempt (place (Carrier c) i x) ≡ false) xs
      none [] = tt
      none (x ∷ xs) = (λ stands. ap (λ b. b && (x.attempt == attempt)) differs, none xs)

  placed_marked : (minute : ℕ) (vs : List Version) → AllByRecursion HasBegun vs
      → placed (Carrier c) (map (of_id id (acknowledged_by w c attempt minute)) vs)
      ≡ map (mark id attempt) (placed (Carrier c) vs)
  placed_marked minute [] begun = refl
  placed_marked minute (v ∷ vs) begun =
      ap (λ ps. own (Carrier c) (of_id id (acknowledged_by w c attempt minute) v) ++ ps)
      (placed_marked minute vs begun.1)
      ∙ ap (λ ps. ps ++ map (mark id attempt) (placed (Carrier c) vs)) (by_cases (v.id == id) refl)
      ∙ sym (map_append (mark id attempt) (own (Carrier c) v) (placed (Carrier c) vs))
    where
      by_cases : (b : Bool) → (v.id == id) ≡ b
          → own (Carrier c) (if b then acknowledged_by w c attempt minute v
          else v) ≡ map (mark id attempt) (own (Carrier c) v)
      by_cases true e = completed_own w (Carrier c) [] tt c attempt minute v begun.0
          ∙ own_marked v.id e v.broadcasts
      by_cases false e = others_unmarked v.id e v.broadcasts

-- ---- the broadcasts of a version

-- An attempt is one broadcast's.
one_attempt : (bs : List Broadcast) (a b : Broadcast) → AreApart bs → Among a bs → Among b bs
    → a.attempt ≡ b.attempt → a ≡ b
one_attempt [] a b apart here there same = absurd here
one_attempt (x ∷ xs) a b apart (inl e) (inl f) same = e ∙ sym f
one_attempt (x ∷ xs) a b apart (inl e) (inr there) same =
    let under : b.attempt < x.attempt = below_each x.attempt xs b apart.0 there in
    let at : a.attempt ≡ x.attempt = ap (λ (y : Broadcast). y.attempt) e in
    let no : ⊥ = omega arith in absurd no
one_attempt (x ∷ xs) a b apart (inr here) (inl f) same =
    let under : a.attempt < x.attempt = below_each x.attempt xs a apart.0 here in
    let at : b.attempt ≡ x.attempt = ap (λ (y : Broadcast). y.attempt) f in
    let no : ⊥ = omega arith in absurd no
one_attempt (x ∷ xs) a b apart (inr here) (inr there) same =
    one_attempt xs a b apart.1 here there same

-- A broadcast that is pending for a carrier is selected for it.
waiting_stands : (c : ℕ) (b : Broadcast) → is_among c (waiters b) ≡ true
    → stands_for (Carrier c) b ≡ true
waiting_stands c b waits = by_cases (is_withdrawn b) refl
  where
    filtered : (test : ℕ → Bool) (cs : List ℕ) → is_among c (filter test cs) ≡ true
        → is_among c cs ≡ true
    filtered test cs is =
        let found = any_there (λ d. d == c) (filter test cs) is in
        there_any (λ d. d == c) found.0 cs (filtered-from test cs found.0 found.1).0 found.2

    both : (x y : Bool) → x ≡ true → y ≡ false → (x && not y) ≡ true
    both true false e f = refl
    both x true e f = cc
    both false false e f = cc

    by_cases : (t : Bool) → is_withdrawn b ≡ t → stands_for (Carrier c) b ≡ true
    by_cases true e = let none : false ≡ true =
        sym (ap (λ k. is_among c (if k then [] else unacknowledged b)) e) ∙ waits in cc
    by_cases false e = both (is_among c b.recipients) (is_withdrawn b)
        (filtered (λ k. not (is_among k b.acknowledged)) b.recipients
        (sym (ap (λ k. is_among c (if k then [] else unacknowledged b)) e) ∙ waits)) e

-- ---- an accepted acknowledgement

abbrev pub as_listed : Subject → Version → SubjectVersion
as_listed s v = record { subject = s; version = v }

first_among : (ds : List Download) (d : Download) → first_of ds ≡ Some d → Among d ds
first_among [] d e = cc
first_among (x ∷ xs) d e = inl (sym (some_is x d e))

pub none_first : (ds : List Download) (d : Download) → first_of ds ≡ None → Among d ds → ⊥
none_first [] d e there = there
none_first (x ∷ xs) d e there = cc

module _ (st : State) (is : HasHistory st) (s : Subject)
    (c id attempt : ℕ) where
  abbrev pub versions : List Version
  versions = (record_now st s).versions

  abbrev pub answered_downloads : SubjectVersion → List Download
  answered_downloads e = downloads_acknowledged c c (AcknowledgementRequest id attempt) e

  abbrev pub acknowledged : List Download
  acknowledged = flat_map answered_downloads (map (as_listed s) versions)

  -- The broadcasts of the version with the attempt are acknowledged.
  pub of_version : (v : Version) (b : Broadcast) → Among v versions → Among b v.broadcasts
      → (v.id == id) ≡ true → (b.attempt == attempt) ≡ true
      → Among (download (as_listed s v) b) acknowledged
  of_version v b there sent same at =
      flat-to answered_downloads (map (as_listed s) versions) (as_listed s v)
      (download (as_listed s v) b) (mapped-to (as_listed s) versions v there)
      (subst (λ t. Among (download (as_listed s v) b) (if t && (v.id == id)
      then downloads_of (λ x. x.attempt == attempt) (as_listed s v) else [])) (sym (same_number c))
      (subst (λ t. Among (download (as_listed s v) b) (if true && t
      then downloads_of (λ x. x.attempt == attempt) (as_listed s v) else [])) (sym same)
      (mapped-to (download (as_listed s v)) (filter (λ (x : Broadcast). x.attempt == attempt)
      v.broadcasts) b (filtered-to (λ (x : Broadcast). x.attempt == attempt) v.broadcasts b sent
      at))))

  -- If the subject has none of them, none of its selected ones matches.
  none_matches : first_of acknowledged ≡ None
      → AllByRecursion (λ p. matches id attempt p ≡ false) (placed (Carrier c) versions)
  none_matches none = each_placed (Carrier c) (λ p. matches id attempt p ≡ false) versions
      (each_there (λ (v : Version). AllByRecursion (λ b. stands_for (Carrier c) b ≡ true
      → matches id attempt (place (Carrier c) v.id b) ≡ false) v.broadcasts) versions
      (λ v there. each_there (λ b. stands_for (Carrier c) b ≡ true
      → matches id attempt (place (Carrier c) v.id b) ≡ false) v.broadcasts
      (λ b sent stands. by_cases v b there sent ((v.id == id) && (b.attempt == attempt)) refl)))
    where
      by_cases : (v : Version) (b : Broadcast) → Among v versions → Among b v.broadcasts
          → (t : Bool)
          → ((v.id == id) && (b.attempt == attempt)) ≡ t → t ≡ false
      by_cases v b there sent false e = refl
      by_cases v b there sent true e =
          absurd (none_first acknowledged (download (as_listed s v) b) none
          (of_version v b there sent (and_first (v.id == id) (b.attempt == attempt) e)
          (and_second (v.id == id) (b.attempt == attempt) e)))

  -- The first of them, with its version and its broadcast.
  pub record IsOf (d : Download) : Type 0 where
    pub version : Version
    pub broadcast : Broadcast
    pub there : Among version versions
    pub sent : Among broadcast version.broadcasts
    pub has_id : version.id ≡ id
    pub has_attempt : broadcast.attempt ≡ attempt
    pub is_its : d ≡ download (as_listed s version) broadcast

  pub it_is_of : (d : Download) → first_of acknowledged ≡ Some d → IsOf d
  it_is_of d first =
      from (flat-from answered_downloads (map (as_listed s) versions) d
      (first_among acknowledged d first))
    where
      inner : (v : Version) → Among v versions → (a b : Bool) → (v.id == id) ≡ b
          → Among d (if a && b then downloads_of (λ x. x.attempt == attempt) (as_listed s v)
          else []) → IsOf d
      inner v there true true e is =
          let mapped =
          mapped-from (download (as_listed s v)) (filter (λ (x : Broadcast). x.attempt == attempt)
          v.broadcasts) d is in
          let sent = filtered-from (λ (x : Broadcast). x.attempt == attempt) v.broadcasts mapped.0
          mapped.1 in
          record {
            version = v;
            broadcast = mapped.0;
            there = there;
            sent = sent.0;
            has_id = equal_number v.id id e;
            has_attempt = equal_number mapped.0.attempt attempt sent.1;
            is_its = mapped.2;
          }
      inner v there true false e is = absurd is
      inner v there false b e is = absurd is

      from : (e : SubjectVersion) × Among e (map (as_listed s) versions)
          × Among d (answered_downloads e) → IsOf d
      from (e, there, is) =
          let mapped = mapped-from (as_listed s) versions e there in
          inner mapped.0 mapped.1 (c == c) (mapped.0.id == id) refl
          (subst (λ x. Among d (answered_downloads x)) mapped.2 is)

  -- A pending download with this id and attempt is of that version and broadcast.
  pub same_download : (d : Download) → (one : IsOf d) → (x : Download) → Among x (queue st c)
      → is_download id attempt x ≡ true →
      (x ≡ download (as_listed s one.version) one.broadcast)
      × (is_among c (waiters one.broadcast) ≡ true)
  same_download d one x there matched =
      let of_it : IsQueued st c x = queued-from st c x there in
      let its_id : of_it.at.version.id ≡ id = ap (λ (y : Download). y.id) (sym of_it.is)
      ∙ equal_number x.id id (and_first (x.id == id) (x.attempt == attempt) matched) in
      let its_attempt : of_it.broadcast.attempt ≡ attempt =
      ap (λ (y : Download). y.attempt) (sym of_it.is) ∙ equal_number x.attempt attempt
      (and_second (x.id == id) (x.attempt == attempt) matched) in
      let by_its_id : of_it.id ≡ id =
      sym (id_found of_it.id (record_now st of_it.at.subject).versions of_it.at.version of_it.found)
      ∙ its_id in
      let same : as_listed s one.version ≡ of_it.at = some_is (as_listed s one.version) of_it.at
      (sym (found_is st is s one.version.id one.version (found_by_id st is s one.version one.there))
      ∙ ap (version_of_id st) (one.has_id ∙ sym by_its_id) ∙ found_is st is of_it.at.subject
      of_it.id of_it.at.version of_it.found) in
      let same_sent : one.broadcast ≡ of_it.broadcast =
      one_attempt one.version.broadcasts one.broadcast of_it.broadcast
      (each-among (IsTended (record_now st s).carriers) versions one.version
      (versions_kept tended_kept st.windows s st.history st.now is) one.there).apart
      one.sent (subst (λ (e : SubjectVersion). Among of_it.broadcast e.version.broadcasts)
      (sym same) of_it.sent) (one.has_attempt ∙ sym its_attempt) in (
        of_it.is ∙ ap (λ e. download e of_it.broadcast) (sym same)
            ∙ ap (download (as_listed s one.version)) (sym same_sent),
        ap (λ b. is_among c (waiters b)) same_sent ∙ of_it.waits,
      )

  module _ (ok : refusal st (RequestFrom c (AcknowledgementRequest id attempt)) ≡ None) where
    -- The download is pending.
    pub queued : list_any (is_download id attempt) (queue st c) ≡ true
    unfolding tests
    queued = denied (list_any (is_download id attempt) (queue st c))
        (none_holds (tests st (RequestFrom c (AcknowledgementRequest id attempt))) ok).1.1.0

    in_turn : is_preceded (queue st c) id attempt ≡ false
    unfolding tests
    in_turn = (none_holds (tests st (RequestFrom c (AcknowledgementRequest id attempt))) ok).1.1.1.0

    -- No earlier download of the subject is pending.
    first_in_turn : (d : Download) → Among d (queue st c) → is_download id attempt d ≡ true
        → list_any (λ e. subject_eq e.subject d.subject && is_before e d) (queue st c) ≡ false
    first_in_turn d there is =
        by_cases (list_any (λ e. subject_eq e.subject d.subject && is_before e d) (queue st c)) refl
      where
        by_cases : (t : Bool) → list_any (λ e. subject_eq e.subject d.subject && is_before e d)
            (queue st c) ≡ t → t ≡ false
        by_cases false e = refl
        by_cases true e = true-false (is_preceded (queue st c) id attempt)
            (there_any (λ x. is_download id attempt x && list_any
            (λ y. subject_eq y.subject x.subject && is_before y x) (queue st c)) d (queue st c)
            there (true_both (is_download id attempt d) _ is e)) in_turn

    -- The pending download is of the version and broadcast that the entry acknowledges.
    waits_for : (d : Download) → (own_one : IsOf d)
        → Among (download (as_listed s own_one.version) own_one.broadcast) (queue st c)
        × (is_among c (waiters own_one.broadcast) ≡ true)
    waits_for d one = from (any_there (is_download id attempt) (queue st c) queued)
      where
        from : (x : Download) × Among x (queue st c) × (is_download id attempt x ≡ true)
            → Among (download (as_listed s one.version) one.broadcast) (queue st c)
            × (is_among c (waiters one.broadcast) ≡ true)
        from (x, there, matched) = let same = same_download d one x there matched in
            (subst (λ y. Among y (queue st c)) same.0 there, same.1)

    abbrev olds : List Placed
    olds = placed (Carrier c) versions

    abbrev news : List Placed
    news = placed (Carrier c) (changed_at (set_now st) st.now
        (of_id id (acknowledged_by (set_now st) c attempt st.now)) versions)

    marked : news ≡ map (mark id attempt) olds
    marked = changed_placed (set_now st) (Carrier c) st.now
        (of_id id (acknowledged_by (set_now st) c attempt st.now)) versions
        ∙ placed_marked (set_now st) c id attempt st.now versions
        (versions_kept begun_kept st.windows s st.history st.now is)

    -- If the acknowledgement is of another subject, nothing changes.
    pub elsewhere_next : first_of acknowledged ≡ None → IsNext st.now olds news
    elsewhere_next none =
        next_thinned st.now olds news
        (thinned_is olds news (marked ∙ unmarked id attempt olds (none_matches none)))

    pub here_answers : (d : Download) → first_of acknowledged ≡ Some d → AreInOrder s olds
        → AreLower olds → IsMarkedNow d.routing olds news
    here_answers d first order lower =
        let one : IsOf d = it_is_of d first in
        let waits : Among (download (as_listed s one.version) one.broadcast) (queue st c)
        × (is_among c (waiters one.broadcast) ≡ true) = waits_for d one in
        let p : Placed = place (Carrier c) one.version.id one.broadcast in
        let stands : stands_for (Carrier c) one.broadcast ≡ true =
        waiting_stands c one.broadcast waits.1 in
        let is_it : matches id attempt p ≡ true =
        ap (λ k. (k == id) && (one.broadcast.attempt == attempt)) one.has_id
        ∙ ap (λ k. (id == id) && (k == attempt)) one.has_attempt
        ∙ ap (λ b. b && (attempt == attempt)) (same_number id) ∙ same_number attempt in
        let not_yet : is_among c one.broadcast.acknowledged ≡ false =
        negated (is_among c one.broadcast.acknowledged) (sym (waits_or_not c one.broadcast stands)
        ∙ waits.1) in
        let before : list_any (λ e. subject_eq e.subject s && is_before e (download_of s p))
        (queue st c) ≡ false =
        first_in_turn (download (as_listed s one.version) one.broadcast) waits.0 is_it in
        subst (λ r. IsMarkedNow r olds news) (ap (λ (x : Download). x.routing) (sym one.is_its))
        (subst (λ ps. IsMarkedNow p.routing olds ps) (sym marked)
        (mark_answers id attempt s p is_it not_yet olds order lower
        (each (λ q done earlier. done (ap (λ b. b && is_before (download_of s q) (download_of s p))
        (subject_eq-refl s) ∙ earlier)) olds
        (answered_else st is c s (λ e. subject_eq e.subject s && is_before e (download_of s p))
        before))
        (flat-to (own (Carrier c)) versions one.version p one.there
        (mapped-to (place (Carrier c) one.version.id) (filter (stands_for (Carrier c))
        one.version.broadcasts) one.broadcast
        (filtered-to (stands_for (Carrier c)) one.version.broadcasts one.broadcast one.sent
        stands)))))
