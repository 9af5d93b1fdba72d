-- A registration: the records after it, and the rows that match them.
use Rattle.std.proofs.Common.{◌≡◌, ℕ, Bool, true, false, cond, not, ◌&&◌, ◌||◌, List, [], ◌∷◌, map, Option, Some, None, refl, ap, sym, ◌∙◌, arith}
use Rattle.std.specs.Prelude.{◌==◌, find, filter, option_map, option_and_then, if◌then◌else◌}
use Rattle.std.specs.FinMap.{get, entries, entries_sorted, get-entries}
use Rattle.std.proofs.lemmas.Bool.Decides.{nat_tests}
use Rattle.numbers.specs.Subjects.{Subject, subject_eq}
use Rattle.model.specs.Commands.{RegisterCarrier}
use Rattle.model.specs.Windows.{WindowSet}
use Rattle.model.specs.Versions.{Version, Record, Broadcast, in_force, is_among, with_number, is_open_broadcast, is_open_outcome, is_withdrawn_outcome, unacknowledged, waiters, version_with}
use Rattle.model.specs.declared.words.Outcome.{Outcome}
use Rattle.model.specs.declared.words.Outcome.TheVariants.{Open, AllAcknowledged, SomeAcknowledged, NoneAcknowledged}
use Rattle.model.specs.Changes.{joined_by, joined_broadcast, changed_at, retired}
use Rattle.model.specs.Laws.{IsQuiet}
use Rattle.model.specs.History.{CommandRequest, effect, replay_step, replay_of, donor_of}
use Rattle.model.specs.State.{State, record_now, set_now}
use Rattle.model.specs.Refusals.{RequestFrom}
use Rattle.model.specs.Machine.{accepted}
use Rattle.model.specs.Content.{Content, VersionRow, BroadcastRow, WaitKey, RowsMatch, row_of, of_subject, stored_broadcast, stored_wait, broadcast_with, is_nonempty, broadcast_key, wait_key}
use Rattle.model.proofs.Entered.{judged-now}
use Rattle.model.proofs.Minutes.{retired-never}
use Rattle.model.proofs.Rising.{among-with_number}
use Rattle.model.proofs.Shown.{own, some_is}
use Rattle.settle.specs.Changes.{AppliesChanges}
use Rattle.register.specs.Joining.{registration_changes}
use Rattle.register.proofs.Registering.JoinedWaits.{joined_at, joined-put}
use Rattle.model.proofs.Attempts.{joined_same}
use Rattle.numbers.proofs.Small.{no_takeover}

-- ---- the record of a subject

joined-map : (w : WindowSet) (c minute : ℕ) (vs : List Version)
    → changed_at w minute (joined_by c) vs ≡ map (joined_by c) vs
joined-map w c minute [] = refl
joined-map w c minute (v ∷ vs) =
    ap (λ b. joined_by c v ∷ map (retired w b minute) (changed_at w minute (joined_by c) vs))
    (no_takeover (in_force v))
    ∙ ap (λ us. joined_by c v ∷ us) (retired-never w minute (changed_at w minute (joined_by c) vs)
    ∙ joined-map w c minute vs)

abbrev pub joined_record : ℕ → Record → Record
joined_record c r = record {
  carriers = with_number c r.carriers;
  versions = map (joined_by c) r.versions;
}

pub registered-record : (st : State) (caller c : ℕ) (s : Subject)
    → record_now (accepted st (RequestFrom caller (CommandRequest (RegisterCarrier c)))) s
    ≡ joined_record c
    (record_now st s)
unfolding replay_of replay_step effect
registered-record st caller c s =
    judged-now (set_now st) st.now (effect (set_now st) s None (donor_of 0 st.history) (record {
      minute = st.now;
      caller = caller;
      request = CommandRequest (RegisterCarrier c);
    }) (record_now st s))
    ∙ ap (λ vs. record {
      carriers = with_number c (record_now st s).carriers;
      versions = vs;
    }) (joined-map (set_now st) c st.now (record_now st s).versions)

pub joined-quiet : (w : WindowSet) (c now : ℕ) (vs : List Version) → IsQuiet now vs
    → IsQuiet now (map (joined_by c) vs)
joined-quiet w c now [] quiet = tt
joined-quiet w c now (v ∷ vs) quiet = (quiet.0, joined-quiet w c now vs quiet.1)

-- ---- versions and broadcasts of it

joined_version : (c id : ℕ) (vs : List Version) → find (λ u. u.id == id) (map (joined_by c) vs)
    ≡ option_map (joined_by c) (find (λ u. u.id == id) vs)
joined_version c id [] = refl
joined_version c id (v ∷ vs) = by_cases (joined_version c id vs) (v.id == id)
  where
    by_cases : find (λ u. u.id == id) (map (joined_by c) vs) ≡ option_map (joined_by c)
        (find (λ u. u.id == id) vs) → (b : Bool) →
        cond b (Some (joined_by c v)) (find (λ u. u.id == id) (map (joined_by c) vs))
        ≡ option_map (joined_by c) (cond b (Some v) (find (λ u. u.id == id) vs))
    by_cases later true = refl
    by_cases later false = later

joined_found : (c attempt : ℕ) (bs : List Broadcast)
    → find (λ b. b.attempt == attempt) (map (joined_broadcast c) bs)
    ≡ option_map (joined_broadcast c) (find (λ b. b.attempt == attempt) bs)
joined_found c attempt [] = refl
joined_found c attempt (b ∷ bs) =
    ap (λ n. cond (n == attempt) (Some (joined_broadcast c b)) (find (λ x. x.attempt == attempt)
    (map (joined_broadcast c) bs))) (joined_same c b)
    ∙ by_cases (joined_found c attempt bs) (b.attempt == attempt)
  where
    by_cases : find (λ x. x.attempt == attempt) (map (joined_broadcast c) bs)
        ≡ option_map (joined_broadcast c) (find (λ x. x.attempt == attempt) bs) → (t : Bool) →
        cond t (Some (joined_broadcast c b)) (find (λ x. x.attempt == attempt)
        (map (joined_broadcast c) bs)) ≡ option_map (joined_broadcast c)
        (cond t (Some b) (find (λ x. x.attempt == attempt) bs))
    by_cases later true = refl
    by_cases later false = later

pub joined_with : (c id attempt : ℕ) (r : Record) → broadcast_with id attempt (joined_record c r)
    ≡ option_map (joined_broadcast c) (broadcast_with id attempt r)
joined_with c id attempt r =
    ap (option_and_then (λ (v : Version). find (λ b. b.attempt == attempt) v.broadcasts))
    (joined_version c id r.versions) ∙ by_cases (find (λ u. u.id == id) r.versions)
  where
    by_cases : (o : Option Version)
        → option_and_then (λ (v : Version). find (λ b. b.attempt == attempt) v.broadcasts)
        (option_map (joined_by c) o)
        ≡ option_map (joined_broadcast c)
        (option_and_then (λ (v : Version). find (λ b. b.attempt == attempt) v.broadcasts) o)
    by_cases None = refl
    by_cases (Some v) = joined_found c attempt v.broadcasts

-- ---- the rows of a broadcast

joined_row : (s : Subject) (c : ℕ) (b : Broadcast) → stored_broadcast s (joined_broadcast c b)
    ≡ stored_broadcast s b
joined_row s c b = by_cases (is_open_broadcast b) refl
  where
    by_cases : (t : Bool) → is_open_broadcast b ≡ t
        → stored_broadcast s (if t then record b { recipients = with_number c b.recipients }
        else b) ≡ stored_broadcast s b
    by_cases true e =
        ap (λ t. if t || is_nonempty (waiters (record b {
          recipients =
              with_number c b.recipients;
        })) then Some (record {
          minute = b.minute;
          subject = s;
          action = b.action;
          routing = b.routing;
          is_open = is_open_broadcast b;
          any = is_nonempty b.acknowledged;
        }) else None) e
        ∙ sym (ap (λ t. if t || is_nonempty (waiters b) then Some (record {
          minute = b.minute;
          subject = s;
          action = b.action;
          routing = b.routing;
          is_open = is_open_broadcast b;
          any = is_nonempty b.acknowledged;
        }) else None) e)
    by_cases false e = refl

among-filter : (p : ℕ → Bool) (k : ℕ) (xs : List ℕ)
    → is_among k (filter p xs) ≡ (p k && is_among k xs)
among-filter p k [] = none (p k)
  where
    none : (b : Bool) → false ≡ (b && false)
    none true = refl
    none false = refl
among-filter p k (x ∷ xs) = by_cases (among-filter p k xs) (p x) (x == k) refl refl
  where
    equal : (x == k) ≡ true → x ≡ k
    equal e = grind (arith, nat_tests)

    kept : (a b c : Bool) → a ≡ true → (b || (a && c)) ≡ (a && (b || c))
    kept true b c e = refl
    kept false b c e = cc

    lost : (a c : Bool) → a ≡ false → (a && c) ≡ (a && true)
    lost false c e = refl
    lost true c e = cc

    by_cases : is_among k (filter p xs) ≡ (p k && is_among k xs) → (a b : Bool) → p x ≡ a
        → (x == k) ≡ b
        → is_among k (cond a (x ∷ filter p xs) (filter p xs)) ≡ (p k && (b || is_among k xs))
    by_cases later true true e f = ap (λ z. z || is_among k (filter p xs)) f
        ∙ sym (ap (λ z. z && true) (sym (ap p (equal f)) ∙ e))
    by_cases later true false e f = ap (λ z. z || is_among k (filter p xs)) f ∙ later
    by_cases later false true e f = later ∙ lost (p k) (is_among k xs) (sym (ap p (equal f)) ∙ e)
    by_cases later false false e f = later

-- An open broadcast is pending for the new carrier, and for others as before.
open_waits : (c k : ℕ) (b : Broadcast) → is_open_broadcast b ≡ true
    → is_among c b.acknowledged ≡ false →
    is_among k (waiters (record b { recipients = with_number c b.recipients }))
    ≡ ((c == k) || is_among k (waiters b))
open_waits c k b opens new =
    ap (λ t. is_among k (if t then []
    else unacknowledged (record b { recipients = with_number c b.recipients })))
    (not_withdrawn b.outcome opens)
    ∙ among-filter (λ x. not (is_among x b.acknowledged)) k (with_number c b.recipients)
    ∙ ap (λ t. not (is_among k b.acknowledged) && t) (among-with_number k c b.recipients)
    ∙ by_cases (c == k) refl
    ∙ sym (ap (λ t. (c == k) || t) (ap (λ t. is_among k (if t then [] else unacknowledged b))
    (not_withdrawn b.outcome opens) ∙ among-filter (λ x. not (is_among x b.acknowledged)) k
    b.recipients))
  where
    not_withdrawn : (o : Outcome) → is_open_outcome o ≡ true → is_withdrawn_outcome o ≡ false
    not_withdrawn Open e = refl
    not_withdrawn AllAcknowledged e = refl
    not_withdrawn SomeAcknowledged e = refl
    not_withdrawn NoneAcknowledged e = cc

    equal : (c == k) ≡ true → c ≡ k
    equal e = grind (arith, nat_tests)

    by_cases : (t : Bool) → (c == k) ≡ t
        → (not (is_among k b.acknowledged) && (t || is_among k b.recipients))
        ≡ (t || (not (is_among k b.acknowledged) && is_among k b.recipients))
    by_cases true e = ap (λ z. not z && true) (ap (λ n. is_among n b.acknowledged) (sym (equal e))
        ∙ new)
    by_cases false e = refl

-- ---- the row at the key of a download

module _ (s : Subject) (c k m : ℕ) (key : WaitKey) (carrier : key.carrier ≡ k) (minute : key.minute
    ≡ m) where
  abbrev seen : Option Subject → Option Subject
  seen o = of_subject s (λ t. t) o

  foreign : (row : BroadcastRow) (b : Bool) (before : Option Subject)
      → subject_eq row.subject s ≡ false → seen before ≡ None → seen (if b then Some row.subject
      else before) ≡ None
  foreign row true before apart gone = ap (λ t. if t then Some row.subject else None) apart
  foreign row false before apart gone = gone

  not_its : (row : BroadcastRow) → (if subject_eq row.subject s then Some row else None) ≡ None
      → subject_eq row.subject s ≡ false
  not_its row e = by_cases (subject_eq row.subject s) e
    where
      by_cases : (t : Bool) → (if t then Some row else None) ≡ None → t ≡ false
      by_cases false f = refl
      by_cases true f = cc

  -- The broadcast has no row.
  at_none : (o : Option BroadcastRow) (before : Option Subject)
      → of_subject s (λ (b : BroadcastRow). b.subject) o ≡ None → seen before ≡ None
      → seen (joined_at c key o before) ≡ None
  at_none None before row gone = gone
  at_none (Some row) before not_row gone =
      foreign row (row.is_open && ((c == key.carrier) && (row.minute == key.minute))) before
      (not_its row not_row) gone

  abbrev row_seen : Broadcast → BroadcastRow
  row_seen b = record {
    minute = b.minute;
    subject = s;
    action = b.action;
    routing = b.routing;
    is_open = is_open_broadcast b;
    any = is_nonempty b.acknowledged;
  }

  -- The broadcast is open.
  at_open : (b : Broadcast) (before : Option Subject) → is_open_broadcast b ≡ true
      → is_among c b.acknowledged ≡ false → seen before ≡ stored_wait s k m b →
      seen (joined_at c key (Some (row_seen b)) before) ≡ stored_wait s k m (record b {
        recipients =
            with_number c b.recipients;
      })
  at_open b before opens new was =
      ap (λ t. seen (if t && ((c == key.carrier) && (b.minute == key.minute)) then Some s
      else before)) opens
      ∙ ap (λ n. seen (if (c == n) && (b.minute == key.minute) then Some s else before)) carrier
      ∙ ap (λ n. seen (if (c == k) && (b.minute == n) then Some s else before)) minute
      ∙ by_cases (c == k) (b.minute == m) was
      ∙ sym (ap (λ t. if (b.minute == m) && t then Some s else None) (open_waits c k b opens new))
    where
      by_cases : (x y : Bool) → seen before ≡ (if y && is_among k (waiters b) then Some s else None)
          → seen (if x && y then Some s else before) ≡ (if y && (x || is_among k (waiters b))
          then Some s else None)
      by_cases true true e = own s (λ t. t) s refl
      by_cases true false e = e
      by_cases false true e = e
      by_cases false false e = e

  -- The broadcast is closed.
  at_closed : (o : Option BroadcastRow) (b : Broadcast) (before : Option Subject)
      → is_open_broadcast b ≡ false → of_subject s (λ (x : BroadcastRow). x.subject) o
      ≡ stored_broadcast s b →
      seen before ≡ stored_wait s k m b → seen (joined_at c key o before) ≡ stored_wait s k m b
  at_closed None b before closed stored was = was
  at_closed (Some row) b before closed stored was =
      by_cases (subject_eq row.subject s) (is_nonempty (waiters b)) refl refl (stored
      ∙ ap (λ t. if t || is_nonempty (waiters b) then Some (row_seen b) else None) closed)
    where
      nobody : (xs : List ℕ) → is_nonempty xs ≡ false → is_among k xs ≡ false
      nobody [] e = refl
      nobody (x ∷ xs) e = cc

      none_waits : (x : Bool) → (if x && false then Some s else None) ≡ None
      none_waits true = refl
      none_waits false = refl

      by_cases : (p q : Bool) → subject_eq row.subject s ≡ p → is_nonempty (waiters b) ≡ q
          → (if p then Some row else None) ≡ (if q then Some (row_seen b) else None)
          → seen (joined_at c key (Some row) before) ≡ stored_wait s k m b
      by_cases true true e f same =
          ap (λ t. seen (if t && ((c == key.carrier) && (row.minute == key.minute))
          then Some row.subject else before)) (ap (λ (x : BroadcastRow). x.is_open)
          (some_is row (row_seen b) same) ∙ closed) ∙ was
      by_cases true false e f same = cc
      by_cases false true e f same = cc
      by_cases false false e f same =
          let gone : stored_wait s k m b ≡ None = ap (λ t. if (b.minute == m) && t then Some s
          else None) (nobody (waiters b) f) ∙ none_waits (b.minute == m) in
          foreign row (row.is_open && ((c == key.carrier) && (row.minute == key.minute))) before e
          (was ∙ gone) ∙ sym gone

  the_row : (o : Option BroadcastRow) (row : BroadcastRow)
      → of_subject s (λ (x : BroadcastRow). x.subject) o ≡ Some row → o ≡ Some row
  the_row None row e = cc
  the_row (Some x) row e = by_cases (subject_eq x.subject s) e
    where
      by_cases : (t : Bool) → (if t then Some x else None) ≡ Some row → Some x ≡ Some row
      by_cases true f = f
      by_cases false f = cc

  pub at_key : (o : Option BroadcastRow) (found : Option Broadcast) (before : Option Subject)
      → of_subject s (λ (x : BroadcastRow). x.subject) o ≡ option_and_then (stored_broadcast s)
      found →
      seen before ≡ option_and_then (stored_wait s k m) found → ((b : Broadcast) → found ≡ Some b
      → is_among c b.acknowledged ≡ false) →
      seen (joined_at c key o before) ≡ option_and_then (stored_wait s k m)
      (option_map (joined_broadcast c) found)
  at_key o None before stored was new = at_none o before stored was
  at_key o (Some b) before stored was new = by_cases (is_open_broadcast b) refl
    where
      by_cases : (t : Bool) → is_open_broadcast b ≡ t
          → seen (joined_at c key o before) ≡ stored_wait s k m (if t then record b {
            recipients =
                with_number c b.recipients;
          } else b)
      by_cases true e =
          ap (λ x. seen (joined_at c key x before))
          (the_row o (row_seen b) (stored ∙ ap (λ t. if t || is_nonempty (waiters b)
          then Some (row_seen b) else None) e))
          ∙ at_open b before e (new b refl) was
      by_cases false e = at_closed o b before e stored was

-- ---- the rows of a subject

pub joined-shows : (w : WindowSet) (s : Subject) (c : ℕ) (old new : Content) (r : Record)
    → AppliesChanges (registration_changes c (filter (λ e. e.1.is_open) (entries old.broadcasts)))
    old new →
    ((id attempt : ℕ) (b : Broadcast) → broadcast_with id attempt r ≡ Some b
    → is_among c b.acknowledged ≡ false) → RowsMatch old s r → RowsMatch new s (joined_record c r)
joined-shows w s c old new r changed newcomer shows = record {
  versions = λ id. ap (of_subject s (λ (x : VersionRow). x.subject)) (changed.versions id)
      ∙ shows.versions id ∙ kept (version_with id r)
      ∙ sym (ap (option_map (row_of s)) (joined_version c id r.versions));
  broadcasts =
      λ id a. ap (of_subject s (λ (x : BroadcastRow). x.subject))
      (changed.broadcasts (broadcast_key id a)) ∙ shows.broadcasts id a
      ∙ sent (broadcast_with id a r)
      ∙ sym (ap (option_and_then (stored_broadcast s)) (joined_with c id a r));
  waits = λ k m id a. ap (of_subject s (λ t. t)) (
      changed.waits (wait_key k m id a)
      ∙ joined-put c (entries old.broadcasts) (entries_sorted old.broadcasts) (wait_key k m id a)
      (get old.waits (wait_key k m id a))
      ∙ ap (λ o. joined_at c (wait_key k m id a) o
      (get old.waits (wait_key k m id a)))
      (sym (get-entries old.broadcasts (broadcast_key id a))))
      ∙ at_key s c k m (wait_key k m id a) refl refl
      (get old.broadcasts (broadcast_key id a)) (broadcast_with id a r)
      (get old.waits (wait_key k m id a))
      (shows.broadcasts id a) (shows.waits k m id a) (newcomer id a)
      ∙ sym (ap (option_and_then (stored_wait s k m)) (joined_with c id a r));
}
  where
    kept : (o : Option Version)
        → option_map (row_of s) o ≡ option_map (row_of s) (option_map (joined_by c) o)
    kept None = refl
    kept (Some v) = refl

    sent : (o : Option Broadcast) → option_and_then (stored_broadcast s) o ≡ option_and_then
        (stored_broadcast s) (option_map (joined_broadcast c) o)
    sent None = refl
    sent (Some b) = sym (joined_row s c b)
