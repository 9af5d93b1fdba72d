-- What an entry of this minute makes of each record, and what every history keeps.
use Rattle.std.proofs.Common.{◌≡◌, ℕ, zero, suc, ◌+◌, ◌-◌, ◌≤◌, Bool, true, false, cond, not, ◌&&◌, ◌||◌, List, [], ◌∷◌, ◌++◌, map, length, Option, Some, None, refl, ap, sym, ◌∙◌, arith}
use Rattle.std.specs.Prelude.{⊤, ◌==◌, nat_lt, find, is_none, if◌then◌else◌}
use Rattle.std.specs.List.{list_any}
use Rattle.std.proofs.lemmas.Bool.Decides.{nat_tests}
use Rattle.numbers.specs.Subjects.{Subject, Number, Block, subject_eq}
use Rattle.model.specs.Commands.{Command, OldProviderCreate, NewProviderCreate, Donate, Assign}
use Rattle.model.specs.Windows.{Windows, WindowSet}
use Rattle.model.specs.Versions.{Version, Record, in_force, version_with}
use Rattle.model.specs.Changes.{changed_at, of_id, retired}
use Rattle.model.specs.Sound.{AreSound}
use Rattle.model.specs.Judge.{judge, judged_for, judged}
use Rattle.model.specs.History.{Request, CommandRequest, AcknowledgementRequest, Entry, carriers, carrier_named, carrier_added, effect, replay_step, replay_of, replay, lacks_old_create, lacks_new_create, subjects_made_by, subjects_made, next_id, next_after, id_among, made_version, with_made, version_after_request, donor_of, assigned_block, present_set}
use Rattle.model.specs.State.{State, record_now, version_of_id, SubjectVersion, set_now, next_of, made_now}
use Rattle.model.specs.Conditions.{limit}
use Rattle.model.specs.Refusals.{RequestFrom, refusal, second_of, ids_run_out}
use Rattle.model.specs.Machine.{accepted, IsHistory, HasHistory}
use Rattle.numbers.proofs.Small.{impossible, no_takeover, or_second, some_is, equal_number}
use Rattle.model.proofs.Accepted.{AcceptedCommand, accepted_command}
use Rattle.model.proofs.Made.{none_lacks, and_rest}
use Rattle.model.specs.Concerns.{concerns, has_id}
use Rattle.model.proofs.Elsewhere.{replay_step-elsewhere}
use Rattle.model.proofs.Minutes.{retired-never}
use Rattle.model.proofs.Ids.{AreGiven, version_of_id_is}
use Rattle.model.proofs.Sound.{replay-sound}

-- ---- this minute

pub judged-now : (w : WindowSet) (m : ℕ) (r : Record) → judged w m m r ≡ r
unfolding judged_for
judged-now w m r = ap (λ n. judged_for w m n r) (let e : m - m ≡ 0 = omega arith in e)

-- An entry that registers no carrier puts the version that it makes before the versions that it
-- changes.
pub entered-record : (st : State) (caller : ℕ) (request : Request) (s : Subject)
    (news : List Subject) → subjects_made_by request (record_now st) ≡ news
    → carrier_named request ≡ None
    → record_now (accepted st (RequestFrom caller request)) s ≡ record {
      carriers = (record_now st s).carriers;
      versions = with_made (id_among s (next_of st) news)
          (λ id. made_version (set_now st) id caller st.now (record_now st s).carriers
          (donor_of (assigned_block request) st.history) request)
          (changed_at (set_now st) st.now (version_after_request (set_now st) s caller st.now
          (record_now st s).carriers request) (record_now st s).versions);
    }
unfolding replay_of replay_step effect
entered-record st caller request s news new no_carrier =
    let donor = donor_of (assigned_block request) st.history in
    let entry : Entry = record { minute = st.now; caller = caller; request = request } in
    judged-now (set_now (accepted st (RequestFrom caller request))) st.now
    (effect (set_now st) s (id_among s (next_of st) (subjects_made_by request (record_now st)))
    donor entry
    (record_now st s))
    ∙ ap (λ ss. effect (set_now st) s (id_among s (next_of st) ss) donor entry (record_now st s))
    new
    ∙ ap (λ o. record {
      carriers = carrier_added o (record_now st s).carriers;
      versions = with_made (id_among s (next_of st) news)
          (λ id. made_version (set_now st) id caller st.now (record_now st s).carriers donor
          request)
          (changed_at (set_now st) st.now (version_after_request (set_now st) s caller st.now
          (record_now st s).carriers request) (record_now st s).versions);
    }) no_carrier

pub length-more : (xs ys : List Subject) → length (xs ++ ys) ≡ length xs + length ys
length-more [] ys = omega arith
length-more (x ∷ xs) ys = let later : length (xs ++ ys) ≡ length xs + length ys =
    length-more xs ys in omega arith

-- It gives as many ids as it makes versions.
pub entered-ids : (st : State) (caller : ℕ) (request : Request) (news : List Subject)
    → subjects_made_by request (record_now st) ≡ news
    → next_of (accepted st (RequestFrom caller request)) ≡ next_of st + length news
unfolding replay_of replay_step
entered-ids st caller request news new =
    ap (λ ss. 1 + length (made_now st ++ ss)) new
    ∙ (let all : length (made_now st ++ news) ≡ length (made_now st) + length news =
    length-more (made_now st) news in omega arith)

-- An entry that makes no version leaves the records that it does not concern.
pub entered-elsewhere : (st : State) (caller : ℕ) (request : Request) (s : Subject)
    → subjects_made_by request (record_now st) ≡ [] →
    concerns request s (record_now st s).versions ≡ false
    → record_now (accepted st (RequestFrom caller request)) s ≡ record_now st s
unfolding replay_of
entered-elsewhere st caller request s unmade none =
    replay_step-elsewhere (set_now st) (record {
      minute = st.now;
      caller = caller;
      request = request;
    }) (donor_of (assigned_block request) st.history) (replay_of st.windows st.history) s st.now
    none
    (ap (id_among s (next_of st)) unmade)
    ∙ judged-now (set_now (accepted st (RequestFrom caller request))) st.now (record_now st s)

-- An entry that makes no version gives no id.
pub next_id-same : (st : State) (caller : ℕ) (request : Request)
    → subjects_made_by request (record_now st) ≡ [] →
    next_of (accepted st (RequestFrom caller request)) ≡ next_of st
next_id-same st caller request unmade =
    entered-ids st caller request [] unmade ∙ (let e : next_of st + 0 ≡ next_of st =
    omega arith in e)

-- ---- the carriers of a record

pub judged_for-carriers : (w : WindowSet) (from n : ℕ) (r : Record)
    → (judged_for w from n r).carriers ≡ r.carriers
unfolding judged_for judge
judged_for-carriers w from zero r = refl
judged_for-carriers w from (suc n) r = judged_for-carriers w from n r

pub record-carriers : (w : Windows) (h : List Entry) (s : Subject) (m : ℕ)
    → (replay w s h m).carriers ≡ carriers h
unfolding replay_of replay_step effect
record-carriers w [] s m = refl
record-carriers w (e ∷ h) s m =
    judged_for-carriers (present_set w (e ∷ h)) e.minute (m - e.minute)
    (effect (present_set w h) s (id_among s (next_after (subjects_made w h))
    (subjects_made_by e.request (λ t. replay w t h e.minute))) (donor_of (assigned_block e.request)
    h) e
    (replay w s h e.minute))
    ∙ ap (carrier_added (carrier_named e.request)) (record-carriers w h s e.minute)

-- ---- ids

-- The next id is not past the limit.
not_past : (n : ℕ) → n ≤ limit → nat_lt limit (n + 0) ≡ false
not_past n below = grind (arith, nat_tests)

create_fits : (st : State) (tn : ℕ) (lacks : Version → Bool) →
    (is_none (second_of st tn lacks) && ids_run_out st 1) ≡ false →
    next_of st ≤ limit →
    nat_lt limit (next_of st + length
    (if list_any lacks (record_now st (Number tn)).versions then [] else Number tn ∷ [])) ≡ false
create_fits st tn lacks room below =
    by_cases (list_any lacks (record_now st (Number tn)).versions) refl
  where
    by_cases : (b : Bool) → list_any lacks (record_now st (Number tn)).versions ≡ b →
        nat_lt limit (next_of st + length
        (if b then [] else Number tn ∷ [])) ≡ false
    by_cases true e = not_past (next_of st) below
    by_cases false e =
        and_rest (is_none (second_of st tn lacks)) (ids_run_out st 1)
        (ap is_none (none_lacks lacks (record_now st (Number tn)).versions e)) room

-- The versions that an accepted command makes have ids within the limit.
versions_fit : (st : State) (caller : ℕ) (c : Command) → AcceptedCommand st caller c →
    next_of st ≤ limit →
    nat_lt limit (next_of st + length (subjects_made_by (CommandRequest c) (record_now st)))
    ≡ false
versions_fit st caller (OldProviderCreate tn old_provider new_provider due authorized) accepted
    below = create_fits st tn (lacks_old_create old_provider new_provider) (accepted 28) below
versions_fit st caller (NewProviderCreate tn old_provider new_provider due lrn cic) accepted
    below = create_fits st tn (lacks_new_create old_provider new_provider) (accepted 28) below
versions_fit st caller (Donate block used lrn cic) accepted below = accepted 28
versions_fit st caller (Assign block holder lrn cic) accepted below = accepted 28
versions_fit st caller _ accepted below = not_past (next_of st) below

next_id-bound : (st : State) (caller : ℕ) (request : Request)
    → refusal st (RequestFrom caller request) ≡ None → next_of st ≤ limit →
    1 + length (made_now st ++ subjects_made_by request (record_now st)) ≤ limit
next_id-bound st caller (CommandRequest c) none below =
    let room : nat_lt limit (next_of st + length
    (subjects_made_by (CommandRequest c) (record_now st))) ≡ false =
    versions_fit st caller c (accepted_command st caller c none) below in
    let all : length (made_now st ++ subjects_made_by (CommandRequest c) (record_now st))
    ≡ length (made_now st) + length (subjects_made_by (CommandRequest c) (record_now st)) =
    length-more (made_now st) (subjects_made_by (CommandRequest c) (record_now st)) in
    grind (arith, nat_tests)
next_id-bound st caller (AcknowledgementRequest id attempt) none below =
    let all : length (made_now st ++ []) ≡ length (made_now st)
    + 0 = length-more (made_now st) [] in
    omega arith

-- The next id never passes the limit.
pub next_id-below : (w : Windows) (h : List Entry) (now : ℕ) → IsHistory w h now
    → next_id w h ≤ limit
unfolding replay_of replay_step
next_id-below w [] now is = omega arith
next_id-below w (e ∷ h) now is = next_id-bound (record { windows = w; history = h; now = e.minute })
    e.caller e.request is.2 (next_id-below w h e.minute is.3)

-- ---- subjects

pub subject_eq-refl : (s : Subject) → subject_eq s s ≡ true
subject_eq-refl (Number n) = grind (arith, nat_tests)
subject_eq-refl (Block b) = grind (arith, nat_tests)

-- The versions of a subject are sound in every reachable state.
pub sound_now : (st : State) → HasHistory st → (s : Subject)
    → AreSound s (record_now st s).versions
sound_now st is s = (replay-sound st.windows s st.history st.now is).0

-- ---- the version of an id

pub given_now : (st : State) → HasHistory st → (s : Subject)
    → AreGiven (made_now st) s (record_now st s).versions
given_now st is s = (replay-sound st.windows s st.history st.now is).1

pub found_is : (st : State) → HasHistory st
    → (s : Subject) (id : ℕ) (v : Version) → version_with id (record_now st s) ≡ Some v →
    version_of_id st id ≡ Some (record { subject = s; version = v })
found_is st is s id v found = version_of_id_is st s id v (given_now st is s) found

-- No other subject has a version with that id.
pub none_elsewhere : (st : State) → HasHistory st
    → (s t : Subject) (id : ℕ) (v : Version) → version_with id (record_now st s) ≡ Some v →
    subject_eq s t ≡ false → version_with id (record_now st t) ≡ None
none_elsewhere st is s t id v found apart = by_cases (version_with id (record_now st t)) refl
  where
    subject_is : (x y : SubjectVersion) → Some x ≡ Some y → x.subject ≡ y.subject
    subject_is x y f = let g : x ≡ y = cc in ap (λ (z : SubjectVersion). z.subject) g

    by_cases : (o : Option Version) → version_with id (record_now st t) ≡ o
        → version_with id (record_now st t) ≡ None
    by_cases None e = e
    by_cases (Some u) e =
        let both : Some (record { subject = s; version = v }) ≡ Some (record {
          subject = t;
          version = u;
        }) = sym (found_is st is s id v found) ∙ found_is st is t id u e in
        let same : s ≡ t = subject_is (record { subject = s; version = v }) (record {
          subject = t;
          version = u;
        }) both in
        impossible (sym (subject_eq-refl s) ∙ ap (subject_eq s) same ∙ apart)

pub none_with : (id : ℕ) (vs : List Version) → find (λ v. v.id == id) vs ≡ None
    → has_id id vs ≡ false
none_with id [] none = refl
none_with id (v ∷ vs) none = by_cases (λ rest. none_with id vs rest) (v.id == id) none
  where
    by_cases : (find (λ v. v.id == id) vs ≡ None → has_id id vs ≡ false) → (b : Bool)
        → cond b (Some v) (find (λ u. u.id == id) vs) ≡ None → (b || has_id id vs) ≡ false
    by_cases later true e = cc
    by_cases later false e = later e

-- ---- a change of the version of one id

module _ (id : ℕ) (f : Version → Version) (keeps : (v : Version) → (f v).id ≡ v.id) where
  pub version_with-changed : (vs : List Version) (v : Version) → find (λ u. u.id == id) vs ≡ Some v
      → find (λ u. u.id == id) (map (of_id id f) vs) ≡ Some (f v)
  version_with-changed [] v found = cc
  version_with-changed (u ∷ us) v found =
      by_cases (λ rest. version_with-changed us v rest) (u.id == id) refl found
    where
      by_cases : (find (λ x. x.id == id) us ≡ Some v → find (λ x. x.id == id) (map (of_id id f) us)
          ≡ Some (f v)) → (b : Bool) → (u.id == id) ≡ b
          → cond b (Some u) (find (λ x. x.id == id) us) ≡ Some v →
          cond ((if b then f u else u).id == id) (Some (if b then f u else u))
          (find (λ x. x.id == id) (map (of_id id f) us)) ≡ Some (f v)
      by_cases later true e g =
          ap (λ n. cond (n == id) (Some (f u)) (find (λ x. x.id == id) (map (of_id id f) us)))
          (keeps u)
          ∙ ap (λ b. cond b (Some (f u)) (find (λ x. x.id == id) (map (of_id id f) us))) e
          ∙ ap (λ x. Some (f x)) (some_is u v g)
      by_cases later false e g =
          ap (λ b. cond b (Some u) (find (λ x. x.id == id) (map (of_id id f) us)))
          e ∙ later g

  pub version_with-other : (other : ℕ) (vs : List Version) → (id == other) ≡ false
      → find (λ u. u.id == other) (map (of_id id f) vs) ≡ find (λ u. u.id == other) vs
  version_with-other other [] apart = refl
  version_with-other other (u ∷ us) apart =
      by_cases (version_with-other other us apart) (u.id == id) refl
    where
      not_other : (a b c : ℕ) → (a == b) ≡ true → (b == c) ≡ false → (a == c) ≡ false
      not_other a b c e g = grind (arith, nat_tests)

      by_cases : find (λ x. x.id == other) (map (of_id id f) us) ≡ find (λ x. x.id == other) us
          → (b : Bool) → (u.id == id) ≡ b →
          cond ((if b then f u else u).id == other) (Some (if b then f u else u))
          (find (λ x. x.id == other) (map (of_id id f) us)) ≡ cond (u.id == other) (Some u)
          (find (λ x. x.id == other) us)
      by_cases later true e =
          ap (λ n. cond (n == other) (Some (f u)) (find (λ x. x.id == other) (map (of_id id f) us)))
          (keeps u)
          ∙ ap (λ b. cond b (Some (f u)) (find (λ x. x.id == other) (map (of_id id f) us)))
          (not_other u.id id other e apart)
          ∙ later
          ∙ sym (ap (λ b. cond b (Some u) (find (λ x. x.id == other) us))
          (not_other u.id id other e apart))
      by_cases later false e = ap (λ o. cond (u.id == other) (Some u) o) later

  -- Holds if the change brings none of these versions into force.
  abbrev pub BringsNone : List Version → Type 0
  BringsNone [] = ⊤
  BringsNone (v ∷ vs) = ((not (in_force v) && in_force (of_id id f v)) ≡ false) × BringsNone vs

  pub changed_at-map_where : (w : WindowSet) (minute : ℕ) (vs : List Version) → BringsNone vs
      → changed_at w minute (of_id id f) vs ≡ map (of_id id f) vs
  changed_at-map_where w minute [] never = refl
  changed_at-map_where w minute (v ∷ vs) never =
      ap (λ b. of_id id f v ∷ map (retired w b minute) (changed_at w minute (of_id id f) vs))
      never.0
      ∙ ap (λ us. of_id id f v ∷ us) (retired-never w minute (changed_at w minute (of_id id f) vs)
      ∙ changed_at-map_where w minute vs never.1)

  brings_none-without : (vs : List Version) → has_id id vs ≡ false → BringsNone vs
  brings_none-without [] none = tt
  brings_none-without (v ∷ vs) none = (
    by_cases (v.id == id) none,
    brings_none-without vs (or_second (v.id == id) (has_id id vs) none),
  )
    where
      by_cases : (b : Bool) → (b || has_id id vs) ≡ false
          → (not (in_force v) && in_force (if b then f v else v)) ≡ false
      by_cases true e = cc
      by_cases false e = no_takeover (in_force v)

  -- Only the version with the id matters, if ids were given without duplicates.
  pub brings_none : (made : List Subject) (s : Subject) (vs : List Version) (v : Version)
      → AreGiven made s vs → find (λ u. u.id == id) vs ≡ Some v →
      (not (in_force v) && in_force (f v)) ≡ false → BringsNone vs
  brings_none made s [] v given found never = tt
  brings_none made s (u ∷ us) v given found never =
      by_cases (λ e. brings_none made s us v given.2 e never) (u.id == id) refl found
    where
      by_cases : (find (λ x. x.id == id) us ≡ Some v → BringsNone us) → (b : Bool)
          → (u.id == id) ≡ b
          → cond b (Some u) (find (λ x. x.id == id) us) ≡ Some v →
          ((not (in_force u) && in_force (if u.id == id then f u else u)) ≡ false) × BringsNone us
      by_cases later true e g = (
        ap (λ b. not (in_force u) && in_force (if b then f u else u)) e
            ∙ ap (λ x. not (in_force x) && in_force (f x)) (some_is u v g) ∙ never,
        brings_none-without us (ap (λ k. has_id k us) (sym (equal_number u.id id e)) ∙ given.1),
      )
      by_cases later false e g = (
        ap (λ b. not (in_force u) && in_force (if b then f u else u)) e ∙ no_takeover (in_force u),
        later g,
      )
