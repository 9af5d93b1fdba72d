-- A second create: the record after it, and the rows that match it.
use Rattle.std.proofs.Common.{◌≡◌, ℕ, Bool, true, false, cond, not, ◌&&◌, ◌||◌, List, [], ◌∷◌, map, Option, Some, None, refl, ap, sym, ◌∙◌}
use Rattle.std.specs.Prelude.{◌==◌, find, is_some, is_none, option_and_then, if◌then◌else◌}
use Rattle.std.specs.List.{AllByRecursion}
use Rattle.numbers.specs.Subjects.{Subject, Number, subject_eq}
use Rattle.model.specs.Windows.{AreWindows, WindowSet, Windows}
use Rattle.model.specs.Statuses.{Status, Pending, Conflict, CancelPending, Sending, Active, PartialFailure, Failed, DisconnectPending, Old, Canceled}
use Rattle.model.specs.Versions.{Version, Record, Broadcast, in_force, is_open, version_with}
use Rattle.model.specs.Changes.{of_id, changed_at, retired}
use Rattle.model.specs.Judge.{is_expired, has_expired}
use Rattle.model.specs.Laws.{IsQuiet}
use Rattle.model.specs.History.{Request, CommandRequest, carrier_named, subjects_made_by, version_after_request, awaits_creates}
use Rattle.model.specs.State.{State, record_now, set_now, made_now}
use Rattle.model.specs.Refusals.{RequestFrom}
use Rattle.model.specs.Machine.{accepted}
use Rattle.model.specs.Content.{Content, RowsMatch}
use Rattle.model.proofs.Settling.{newborn}
use Rattle.model.specs.Concerns.{has_id}
use Rattle.model.proofs.Ids.{AreGiven}
use Rattle.model.proofs.Shown.{some_is}
use Rattle.model.proofs.Entered.{entered-record, subject_eq-refl, version_with-changed, version_with-other, changed_at-map_where, brings_none}
use Rattle.model.proofs.Creates.{lacks_old-open, lacks_new-open}
use Rattle.version.specs.declared.create.Creator.{Creator}
use Rattle.version.specs.declared.create.Creator.TheVariants.{OldProvider, NewProvider}
use Rattle.version.specs.Creates.{command_by, lacks, with_create}
use Rattle.settle.specs.Changes.{AppliesChanges, ClockMove}
use Rattle.settle.specs.Sending.{version_changes}
use Rattle.settle.proofs.Passing.{NonePass, OnePasses, none_found}
use Rattle.register.proofs.OnVersions.FirstCreate.{retained_newborn}
use Rattle.model.proofs.HasCreate.{HasCreate, HasCreateAs}
use Rattle.numbers.proofs.Small.{true-false, no_takeover, equal_number, still_false, or_first, or_second}
use Rattle.register.proofs.OnVersions.FirstCreate.{put-shows}

-- ---- equal changes

-- Holds if both changes are equal on each version.
abbrev pub SameEach : (g h : Version → Version) → List Version → Type 0
SameEach g h vs = AllByRecursion (λ v. g v ≡ h v) vs

pub changed_at-each : (w : WindowSet) (minute : ℕ) (g h : Version → Version) (vs : List Version)
    → SameEach g h vs → changed_at w minute g vs ≡ changed_at w minute h vs
changed_at-each w minute g h [] same = refl
changed_at-each w minute g h (v ∷ vs) same =
    ap (λ u. u ∷ map (retired w (not (in_force v) && in_force u) minute) (changed_at w minute g vs))
    same.0
    ∙ ap (λ us. h v ∷ map (retired w (not (in_force v) && in_force (h v)) minute) us)
    (changed_at-each w minute g h vs same.1)

-- If no version passes the test and none has the id, both changes leave all.
same_leaving : (test : Version → Bool) (f : Version → Version) (id : ℕ) (vs : List Version)
    → NonePass test vs → has_id id vs ≡ false → SameEach (λ v. if test v then f v
    else v) (of_id id f) vs
same_leaving test f id [] none gone = tt
same_leaving test f id (v ∷ vs) none gone = (
  ap (λ b. if b then f v else v) none.0
      ∙ sym (ap (λ b. if b then f v else v) (or_first (v.id == id) (has_id id vs) gone)),
  same_leaving test f id vs none.1 (or_second (v.id == id) (has_id id vs) gone),
)

-- Changing the version that passes the test is changing the version with its id.
pub same_change : (made : List Subject) (s : Subject) (test : Version → Bool) (f : Version
    → Version) (id : ℕ) (vs : List Version) (v : Version) → AreGiven made s vs → OnePasses test vs →
    find (λ u. u.id == id) vs ≡ Some v → test v ≡ true → SameEach (λ u. if test u then f u
    else u) (of_id id f) vs
same_change made s test f id [] v given one found passes = tt
same_change made s test f id (u ∷ us) v given one found passes =
    by_cases (λ g. same_change made s test f id us v given.2 one.1 g passes) (u.id == id) refl found
  where
    by_cases : (find (λ x. x.id == id) us ≡ Some v → SameEach (λ x. if test x then f x
        else x) (of_id id f) us) → (b : Bool) → (u.id == id) ≡ b
        → cond b (Some u) (find (λ x. x.id == id) us) ≡ Some v →
        ((if test u then f u else u) ≡ (if u.id == id then f u else u)) × SameEach (λ x. if test x
        then f x else x) (of_id id f) us
    by_cases later true e g =
        let it : test u ≡ true = ap test (some_is u v g) ∙ passes in (
          ap (λ b. if b then f u else u) it ∙ sym (ap (λ b. if b then f u else u) e),
          same_leaving test f id us (one.0 it) (ap (λ k. has_id k us) (sym (equal_number u.id id e))
              ∙ given.1),
        )
    by_cases later false e g = (
      ap (λ b. if b then f u else u) (fails (test u) refl) ∙ sym (ap (λ b. if b then f u else u) e),
      later g,
    )
      where
        fails : (b : Bool) → test u ≡ b → test u ≡ false
        fails true t = true-false (test v) passes (none_found test id us v (one.0 t) g)
        fails false t = t

-- If only open versions pass a test, at most one does.
none_of : (test other : Version → Bool) → ((v : Version) → test v ≡ true → other v ≡ true)
    → (vs : List Version) → NonePass other vs → NonePass test vs
none_of test other implies [] none = tt
none_of test other implies (v ∷ vs) none =
    (by_cases (test v) refl, none_of test other implies vs none.1)
  where
    by_cases : (b : Bool) → test v ≡ b → test v ≡ false
    by_cases true e = true-false (other v) (implies v e) none.0
    by_cases false e = e

pub one_of : (test other : Version → Bool) → ((v : Version) → test v ≡ true → other v ≡ true)
    → (vs : List Version) → OnePasses other vs → OnePasses test vs
one_of test other implies [] one = tt
one_of test other implies (v ∷ vs) one = (
  (λ passes. none_of test other implies vs (one.0 (implies v passes))),
  one_of test other implies vs one.1,
)

-- ---- a create's change of the version that lacks it

pub lacking-open : (creator : Creator) (n old_provider new_provider : ℕ) (v : Version)
    → lacks creator old_provider new_provider v ≡ true → is_open (Number n) v ≡ true
lacking-open (OldProvider authorized) n old_provider new_provider v is =
    lacks_old-open n old_provider new_provider v is
lacking-open (NewProvider routing) n old_provider new_provider v is =
    lacks_new-open n old_provider new_provider v is

pub with_create-id : (w : WindowSet) (creator : Creator) (minute : ℕ) (v : Version)
    → (with_create w creator minute v).id ≡ v.id
with_create-id w (OldProvider true) minute v = refl
with_create-id w (OldProvider false) minute v = refl
with_create-id w (NewProvider routing) minute v = refl

pub with_create-broadcasts : (w : WindowSet) (creator : Creator) (minute : ℕ) (v : Version)
    → (with_create w creator minute v).broadcasts ≡ v.broadcasts
with_create-broadcasts w (OldProvider true) minute v = refl
with_create-broadcasts w (OldProvider false) minute v = refl
with_create-broadcasts w (NewProvider routing) minute v = refl

with_create-forces_none : (w : WindowSet) (creator : Creator) (minute : ℕ) (v : Version)
    → (not (in_force v) && in_force (with_create w creator minute v)) ≡ false
with_create-forces_none w (OldProvider true) minute v = no_takeover (in_force v)
with_create-forces_none w (OldProvider false) minute v = still_false (in_force v)
with_create-forces_none w (NewProvider routing) minute v = no_takeover (in_force v)

done_by : (w : WindowSet) (creator : Creator) (caller minute tn old_provider new_provider due : ℕ)
    (all_carriers : List ℕ) (v : Version) →
    version_after_request w (Number tn) caller minute all_carriers
    (CommandRequest (command_by creator tn old_provider new_provider due)) v
    ≡ (if subject_eq (Number tn) (Number tn) && lacks creator old_provider new_provider v
    then with_create w creator minute v else v)
done_by w (OldProvider authorized) caller minute tn old_provider new_provider due all_carriers v =
    refl
done_by w (NewProvider routing) caller minute tn old_provider new_provider due all_carriers v = refl

done_each : (w : WindowSet) (creator : Creator) (caller minute tn old_provider new_provider due : ℕ)
    (all_carriers : List ℕ) (vs : List Version) →
    SameEach (version_after_request w (Number tn) caller minute all_carriers
    (CommandRequest (command_by creator tn old_provider new_provider due)))
    (λ v. if lacks creator old_provider new_provider v then with_create w creator minute v
    else v) vs
done_each w creator caller minute tn old_provider new_provider due all_carriers [] = tt
done_each w creator caller minute tn old_provider new_provider due all_carriers (v ∷ vs) = (
  done_by w creator caller minute tn old_provider new_provider due all_carriers v
      ∙ ap (λ b. if b && lacks creator old_provider new_provider v
      then with_create w creator minute v else v) (subject_eq-refl (Number tn)),
  done_each w creator caller minute tn old_provider new_provider due all_carriers vs,
)

pub create-carrier : (creator : Creator) (tn old_provider new_provider due : ℕ)
    → carrier_named (CommandRequest (command_by creator tn old_provider new_provider due)) ≡ None
create-carrier (OldProvider authorized) tn old_provider new_provider due = refl
create-carrier (NewProvider routing) tn old_provider new_provider due = refl

-- The record after a second create.
pub second-record : (st : State) (caller : ℕ) (creator : Creator) (tn old_provider new_provider due
    id : ℕ) (v : Version) →
    subjects_made_by (CommandRequest (command_by creator tn old_provider new_provider due))
    (record_now st) ≡ [] →
    AreGiven (made_now st) (Number tn) (record_now st (Number tn)).versions
    → OnePasses (lacks creator old_provider new_provider) (record_now st (Number tn)).versions →
    version_with id (record_now st (Number tn)) ≡ Some v → lacks creator old_provider new_provider v
    ≡ true →
    record_now (accepted st
    (RequestFrom caller (CommandRequest (command_by creator tn old_provider new_provider due))))
    (Number tn)
    ≡ record {
      carriers = (record_now st (Number tn)).carriers;
      versions = map (of_id id (with_create (set_now st) creator st.now))
          (record_now st (Number tn)).versions;
    }
second-record st caller creator tn old_provider new_provider due id v unmade given one found
    lacking =
    let request : Request = CommandRequest (command_by creator tn old_provider new_provider due) in
    entered-record st caller request (Number tn) [] unmade
    (create-carrier creator tn old_provider new_provider due)
    ∙ ap (λ vs. record { carriers = (record_now st (Number tn)).carriers; versions = vs })
    (changed_at-each (set_now st) st.now (version_after_request (set_now st) (Number tn) caller
    st.now
    (record_now st (Number tn)).carriers request) (λ u. if lacks creator old_provider new_provider u
    then with_create (set_now st) creator st.now u else u) (record_now st (Number tn)).versions
    (done_each (set_now st) creator caller st.now tn old_provider new_provider due
    (record_now st (Number tn)).carriers (record_now st (Number tn)).versions)
    ∙ changed_at-each (set_now st) st.now (λ u. if lacks creator old_provider new_provider u
    then with_create (set_now st) creator st.now u
    else u) (of_id id (with_create (set_now st) creator st.now))
    (record_now st (Number tn)).versions
    (same_change (made_now st) (Number tn)
    (lacks creator old_provider new_provider) (with_create (set_now st) creator st.now) id
    (record_now st (Number tn)).versions v given one found lacking)
    ∙ changed_at-map_where id (with_create (set_now st) creator st.now)
    (with_create-id (set_now st) creator st.now) (set_now st) st.now
    (record_now st (Number tn)).versions
    (brings_none id (with_create (set_now st) creator st.now) (with_create-id (set_now st) creator
    st.now) (made_now st) (Number tn) (record_now st (Number tn)).versions v given
    found (with_create-forces_none (set_now st) creator st.now v)))

-- ---- timers that have not expired

still_quiet : (w : WindowSet) (now : ℕ) (id : ℕ) (f : Version → Version) (vs : List Version)
    → has_id id vs ≡ false → IsQuiet now vs → IsQuiet now (map (of_id id f) vs)
still_quiet w now id f [] gone quiet = tt
still_quiet w now id f (v ∷ vs) gone quiet = (
  by_cases (v.id == id) (or_first (v.id == id) (has_id id vs) gone),
  still_quiet w now id f vs (or_second (v.id == id) (has_id id vs) gone) quiet.1,
)
  where
    by_cases : (b : Bool) → b ≡ false → is_expired now (if b then f v else v) (if b then f v
        else v).status
        ≡ false
    by_cases true e = cc
    by_cases false e = quiet.0

-- If no timer of the changed version has expired, none of the record has.
pub changed-quiet : (w : WindowSet) (now : ℕ) (made : List Subject) (s : Subject) (id : ℕ)
    (f : Version → Version) (vs : List Version) (v : Version) → AreGiven made s vs →
    find (λ u. u.id == id) vs ≡ Some v → is_expired now (f v) (f v).status ≡ false → IsQuiet now vs
    → IsQuiet now (map (of_id id f) vs)
changed-quiet w now made s id f [] v given found new quiet = tt
changed-quiet w now made s id f (u ∷ us) v given found new quiet =
    by_cases (λ g. changed-quiet w now made s id f us v given.2 g new quiet.1) (u.id == id) refl
    found
  where
    by_cases : (find (λ x. x.id == id) us ≡ Some v → IsQuiet now (map (of_id id f) us)) → (b : Bool)
        → (u.id == id) ≡ b → cond b (Some u) (find (λ x. x.id == id) us) ≡ Some v →
        (is_expired now (if b then f u else u) (if b then f u else u).status ≡ false)
        × IsQuiet now (map (of_id id f) us)
    by_cases later true e g = (
      ap (λ (x : Version). is_expired now (f x) (f x).status) (some_is u v g) ∙ new,
      still_quiet w now id f us (ap (λ k. has_id k us) (sym (equal_number u.id id e)) ∙ given.1)
          quiet.1,
    )
    by_cases later false e g = (quiet.0, later g)

awaits_of : (status : Status) (b c : Bool) → ((awaits_creates status && b) && c) ≡ true
    → (awaits_creates status ≡ true) × (c ≡ true)
awaits_of status b c is = by_cases (awaits_creates status) b c is
  where
    by_cases : (x y z : Bool) → ((x && y) && z) ≡ true → (x ≡ true) × (z ≡ true)
    by_cases true true z e = (refl, e)
    by_cases true false z e = cc
    by_cases false y z e = cc

-- An old provider's create expires no timer of a version with the new provider's create.
old_quiet : (w : Windows) (now due : ℕ) (old_at new_at : Option ℕ) (since : ℕ) (status : Status)
    → awaits_creates status ≡ true → is_none old_at ≡ true
    → ((is_some old_at || is_some new_at) ≡ true) →
    has_expired w now due old_at new_at since status ≡ false
    → has_expired w now due (Some now) new_at since status ≡ false
old_quiet w now due old_at (Some m) since Pending awaits lacks has quiet = quiet
old_quiet w now due None None since Pending awaits lacks has quiet = cc
old_quiet w now due (Some k) None since Pending awaits lacks has quiet = cc
old_quiet w now due old_at new_at since Conflict awaits lacks has quiet = quiet
old_quiet w now due old_at new_at since (CancelPending by) awaits lacks has quiet = cc
old_quiet w now due old_at new_at since (Sending action) awaits lacks has quiet = cc
old_quiet w now due old_at new_at since Active awaits lacks has quiet = cc
old_quiet w now due old_at new_at since PartialFailure awaits lacks has quiet = cc
old_quiet w now due old_at new_at since Failed awaits lacks has quiet = cc
old_quiet w now due old_at new_at since (DisconnectPending release) awaits lacks has quiet = cc
old_quiet w now due old_at new_at since Old awaits lacks has quiet = cc
old_quiet w now due old_at new_at since Canceled awaits lacks has quiet = cc

-- A version with the new provider's create is retained from now on.
new_quiet : (w : Windows) → AreWindows w → (now due : ℕ) (old_at new_at : Option ℕ) (since : ℕ)
    (status : Status) → awaits_creates status ≡ true →
    has_expired w now due old_at new_at since status ≡ false
    → has_expired w now due old_at (Some now) since status ≡ false
new_quiet w windows now due old_at new_at since Pending awaits quiet =
    retained_newborn w.pending_retention due since now windows.pending_retention
new_quiet w windows now due old_at new_at since Conflict awaits quiet = quiet
new_quiet w windows now due old_at new_at since (CancelPending by) awaits quiet = cc
new_quiet w windows now due old_at new_at since (Sending action) awaits quiet = cc
new_quiet w windows now due old_at new_at since Active awaits quiet = cc
new_quiet w windows now due old_at new_at since PartialFailure awaits quiet = cc
new_quiet w windows now due old_at new_at since Failed awaits quiet = cc
new_quiet w windows now due old_at new_at since (DisconnectPending release) awaits quiet = cc
new_quiet w windows now due old_at new_at since Old awaits quiet = cc
new_quiet w windows now due old_at new_at since Canceled awaits quiet = cc

awaiting_needs : (old_at new_at : Option ℕ) (status : Status) → awaits_creates status ≡ true
    → HasCreateAs old_at new_at status → (is_some old_at || is_some new_at) ≡ true
awaiting_needs old_at new_at Pending awaits has = has refl
awaiting_needs old_at new_at Conflict awaits has = has refl
awaiting_needs old_at new_at (CancelPending by) awaits has = cc
awaiting_needs old_at new_at (Sending action) awaits has = cc
awaiting_needs old_at new_at Active awaits has = cc
awaiting_needs old_at new_at PartialFailure awaits has = cc
awaiting_needs old_at new_at Failed awaits has = cc
awaiting_needs old_at new_at (DisconnectPending release) awaits has = cc
awaiting_needs old_at new_at Old awaits has = cc
awaiting_needs old_at new_at Canceled awaits has = cc

-- A version is judged by the windows that it held, or by the present ones.
pub with_create-quiet : (w : WindowSet) → AreWindows w.windows →
    (creator : Creator) (old_provider new_provider now : ℕ) (v : Version) →
    AreWindows v.held.windows →
    lacks creator old_provider new_provider v ≡ true → HasCreate v →
    is_expired now v v.status ≡ false
    → is_expired now (with_create w creator now v) (with_create w creator now v).status ≡ false
with_create-quiet w windows (OldProvider true) old_provider new_provider now v held lacking has
    quiet =
    let parts : (awaits_creates v.status ≡ true) × (is_none v.old_at ≡ true) =
    awaits_of v.status ((v.old_provider == old_provider) && (v.new_provider == new_provider))
    (is_none v.old_at) lacking in
    old_quiet v.held.windows now v.due v.old_at v.new_at v.since v.status parts.0 parts.1
    (awaiting_needs v.old_at v.new_at v.status parts.0 has) quiet
with_create-quiet w windows (OldProvider false) old_provider new_provider now v held lacking has
    quiet =
    newborn w.windows.conflict_expiration now windows.conflict_expiration
with_create-quiet w windows (NewProvider routing) old_provider new_provider now v held lacking has
    quiet =
    let parts : (awaits_creates v.status ≡ true) × (is_none v.new_at ≡ true) =
    awaits_of v.status ((v.old_provider == old_provider) && (v.new_provider == new_provider))
    (is_none v.new_at) lacking in
    new_quiet v.held.windows held now v.due v.old_at v.new_at v.since v.status parts.0 quiet

-- A version holds the set that it held, or the present set.
pub with_create-holds : (K : WindowSet → Type 0) (w : WindowSet) (creator : Creator) (minute : ℕ)
    (v : Version) → K w → K v.held → K (with_create w creator minute v).held
with_create-holds K w (OldProvider true) minute v now before = before
with_create-holds K w (OldProvider false) minute v now before = now
with_create-holds K w (NewProvider routing) minute v now before = before

-- ---- rows

-- The rows match the record with a version changed whose broadcasts stay.
pub changed-shows : (w : WindowSet) (s : Subject) (id : ℕ) (f : Version → Version)
    → ((u : Version) → (f u).id ≡ u.id) → (v : Version) → (f v).broadcasts ≡ v.broadcasts
    → (r : Record) (clock : Option ClockMove) (old new : Content) →
    AppliesChanges (version_changes id s (f v) clock) old new → version_with id r ≡ Some v
    → RowsMatch old s r
    → RowsMatch new s (record {
      carriers = r.carriers;
      versions = map (of_id id f) r.versions;
    })
changed-shows w s id f keeps v same r clock old new changed found shows =
    put-shows s id (f v) clock old new changed r
    (record { carriers = r.carriers; versions = map (of_id id f) r.versions }) shows
    (λ k e. ap (λ j. version_with j (record {
      carriers = r.carriers;
      versions = map (of_id id f) r.versions;
    })) (sym (equal_number id k e)) ∙ version_with-changed id f keeps r.versions v found)
    (λ k e. version_with-other id f keeps k r.versions e)
    (λ k a e. ap (option_and_then (λ (x : Version). find (λ b. b.attempt == a) x.broadcasts))
    (ap (λ j. version_with j r) (sym (equal_number id k e)) ∙ found)
    ∙ sym (ap (λ bs. find (λ (b : Broadcast). b.attempt == a) bs) same))
