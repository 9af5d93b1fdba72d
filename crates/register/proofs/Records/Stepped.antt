-- A request that steps one version: the state after it is represented, whatever the request.
use Rattle.std.proofs.Common.{◌≡◌, ℕ, ◌+◌, Bool, true, false, not, ◌&&◌, List, [], map, Option, Some, None, refl, ap, sym, ◌∙◌, subst}
use Rattle.std.specs.Prelude.{◌==◌, find, option_map, if◌then◌else◌}
use Rattle.std.specs.FinMap.{get, keys}
use Rattle.numbers.specs.Subjects.{Subject}
use Rattle.model.specs.Statuses.{Send, Create, Delete, Modify}
use Rattle.model.specs.Windows.{AreWindows, WindowSet}
use Rattle.model.specs.Versions.{Version, Record, in_force, is_among, version_with}
use Rattle.model.specs.Changes.{next_attempt, of_id, routing_sent}
use Rattle.model.specs.Judge.{is_expired}
use Rattle.model.specs.History.{Request, version_after_request}
use Rattle.model.specs.State.{State, View, record_now, view_of, set_now, made_now}
use Rattle.model.specs.Refusals.{RequestFrom, refusal}
use Rattle.model.specs.Machine.{Shown, accepted, shown, HasHistory}
use Rattle.model.specs.Content.{Content, VersionRow, ClockRow, RowsMatch, ClockRowMatches, row_of, of_subject}
use Rattle.model.proofs.Attempts.{counted_kept, none_past}
use Rattle.model.proofs.KeptVersions.{version_now}
use Rattle.model.proofs.Entered.{entered-record, version_with-changed, version_with-other, changed_at-map_where, brings_none, given_now}
use Rattle.numbers.proofs.Small.{equal_number}
use Rattle.model.proofs.Settling.{newborn}
use Rattle.model.proofs.Shown.{own}
use Rattle.version.proofs.Commanded.{IsStepped}
use Rattle.settle.specs.Changes.{AppliesChanges, AreOfVersion}
use Rattle.settle.specs.Sending.{send_changes}
use Rattle.settle.specs.Settling.{IsSettled}
use Rattle.settle.specs.Transition.{transition_changes}
use Rattle.settle.proofs.SentRows.{next_attempt-broadcasts, next_attempt-waits}
use Rattle.register.specs.Refinement.{Refines}
use Rattle.register.specs.Settling.{FramesUnchanged, changes_then}
use Rattle.register.proofs.OnVersions.Created.{found_quiet}
use Rattle.register.proofs.OnVersions.FirstCreate.{version_changes-are}
use Rattle.register.proofs.OnVersions.OnVersion.{LeavesRegistry, NamesVersion, IsOnOne, on_one, clock_same, on_version-stands, others_stay, shown_is}
use Rattle.register.proofs.OnVersions.SecondCreate.{SameEach, changed_at-each, changed-quiet, changed-shows}
use Rattle.register.proofs.EveryCall.HeldSets.{windows-now}
use Rattle.register.proofs.Records.Sent.{send_changes-are, carriers_agree}
use Rattle.register.proofs.EveryCall.Settled.{leaves_but}

-- ---- the record of the subject

-- A request that changes the version with one id, and does not bring it into force.
pub stepped-record : (st : State) (caller : ℕ) (request : Request) (s : Subject) (id : ℕ)
    (f : Version → Version) (v : Version) →
    HasHistory st → LeavesRegistry caller request
    → NamesVersion id s request →
    SameEach (version_after_request (set_now st) s caller st.now (record_now st s).carriers request)
    (of_id id f)
    (record_now st s).versions → ((u : Version) → (f u).id ≡ u.id) →
    version_with id (record_now st s) ≡ Some v → (not (in_force v) && in_force (f v)) ≡ false →
    record_now (accepted st (RequestFrom caller request)) s ≡ record {
      carriers = (record_now st s).carriers;
      versions = map (of_id id f) (record_now st s).versions;
    }
stepped-record st caller request s id f v history leaves names does keeps found forces_none =
    entered-record st caller request s [] (names.unmade (record_now st)) leaves.carrier
    ∙ ap (λ vs. record { carriers = (record_now st s).carriers; versions = vs })
    (changed_at-each (set_now st) st.now (version_after_request (set_now st) s caller st.now
    (record_now st s).carriers request) (of_id id f) (record_now st s).versions does
    ∙ changed_at-map_where id f keeps (set_now st) st.now (record_now st s).versions
    (brings_none id f keeps (made_now st) s (record_now st s).versions v
    (given_now st history s) found forces_none))

-- ---- rows

pub transition_changes-are : (id : ℕ) (w : WindowSet) (now : ℕ) (a : Option Send) (s : Subject)
    (v : Version)
    (all_carriers : List ℕ) → AreOfVersion id s (transition_changes id now a s v all_carriers)
transition_changes-are id w now None s v all_carriers = version_changes-are id w s v None
transition_changes-are id w now (Some action) s v all_carriers =
    send_changes-are id w now action s v (routing_sent action v) all_carriers

transition_changes-clock : (id : ℕ) (w : WindowSet) (now : ℕ) (a : Option Send) (s : Subject)
    (v : Version)
    (all_carriers : List ℕ) (old new : Content)
    → AppliesChanges (transition_changes id now a s v all_carriers) old new
    → new.clock ≡ old.clock
transition_changes-clock id w now None s v all_carriers old new changed = changed.clock
transition_changes-clock id w now (Some action) s v all_carriers old new changed = changed.clock

same_routing : (w : WindowSet) (action : Send) (all_carriers : List ℕ) (now : ℕ) (v : Version)
    → routing_sent action (next_attempt w action all_carriers now v) ≡ routing_sent action v
same_routing w Create all_carriers now v = refl
same_routing w Delete all_carriers now v = refl
same_routing w (Modify routing) all_carriers now v = refl

module _ (w : WindowSet) (s : Subject) (now id : ℕ) (f : Version → Version) (keeps : (u : Version)
    → (f u).id ≡ u.id) (all_carriers : List ℕ) (v : Version) (r : Record) (old new : Content)
    (found : version_with id r ≡ Some v) (shows : RowsMatch old s r) where
  abbrev changed_record : Record
  changed_record = record { carriers = r.carriers; versions = map (of_id id f) r.versions }

  next_attempt-shows : (action : Send) → f v ≡ next_attempt w action r.carriers now v
      → AppliesChanges (send_changes id now action s (next_attempt w action [] now v)
      (routing_sent action v)
      all_carriers) old new →
      find (λ b. b.attempt == v.attempt + 1) v.broadcasts ≡ None
      → ((k : ℕ) → is_among k all_carriers ≡ is_among k r.carriers) → RowsMatch new s (record {
        carriers = r.carriers;
        versions = map (of_id id f) r.versions;
      })
  next_attempt-shows action is changed unsent agree = record {
    versions = λ k. ap (of_subject s (λ (x : VersionRow). x.subject)) (changed.versions k)
        ∙ version_at k (id == k) refl;
    broadcasts = next_attempt-broadcasts w s now id action all_carriers v r changed_record old new
        changed found
        hit others unsent agree shows;
    waits = next_attempt-waits w s now id action all_carriers v r changed_record old new changed
        found hit
        others unsent agree shows;
  }
    where
      hit : version_with id changed_record ≡ Some (next_attempt w action r.carriers now v)
      hit = version_with-changed id f keeps r.versions v found ∙ ap (λ x. Some x) is

      miss : (k : ℕ) → (id == k) ≡ false → version_with k changed_record ≡ version_with k r
      miss k e = version_with-other id f keeps k r.versions e

      others : (k : ℕ) → (id == k) ≡ false
          → option_map (λ (u : Version). u.broadcasts) (version_with k changed_record)
          ≡ option_map (λ (u : Version). u.broadcasts) (version_with k r)
      others k e = ap (option_map (λ (u : Version). u.broadcasts)) (miss k e)

      version_at : (k : ℕ) (b : Bool) → (id == k) ≡ b
          → of_subject s (λ (x : VersionRow). x.subject) (if b
          then Some (row_of s (next_attempt w action [] now v)) else get old.versions k)
          ≡ option_map (row_of s) (version_with k changed_record)
      version_at k true e =
          own s (λ (x : VersionRow). x.subject) (row_of s (next_attempt w action [] now v)) refl
          ∙ sym (ap (option_map (row_of s)) (ap (λ j. version_with j changed_record)
          (sym (equal_number id k e)) ∙ hit))
      version_at k false e = shows.versions k ∙ sym (ap (option_map (row_of s)) (miss k e))

  -- The rows match, by what is sent.
  pub stepped-shows : (a : Option Send) → IsStepped w now r.carriers v (f v) a
      → AppliesChanges (transition_changes id now a s (f v) all_carriers) old new →
      find (λ b. b.attempt == v.attempt + 1) v.broadcasts ≡ None
      → ((k : ℕ) → is_among k all_carriers ≡ is_among k r.carriers) → RowsMatch new s (record {
        carriers = r.carriers;
        versions = map (of_id id f) r.versions;
      })
  stepped-shows None plain changed unsent agree =
      changed-shows w s id f keeps v plain.broadcasts r None old new changed found shows
  stepped-shows (Some action) is changed unsent agree = next_attempt-shows action is.0
      (subst (λ o. AppliesChanges (send_changes id now action s (next_attempt w action [] now v) o
      all_carriers) old new)
      (same_routing w action r.carriers now v)
      (subst (λ (x : Version). AppliesChanges (send_changes id now action s x
      (routing_sent action x)
      all_carriers) old new) is.0 changed))
      unsent agree

-- ---- timers that have not expired, and versions in force

pub stepped-quiet : (w : WindowSet) → AreWindows w.windows
    → (now : ℕ) (all_carriers : List ℕ) (v u : Version) (a : Option Send)
    → IsStepped w now all_carriers v u a → is_expired now v v.status ≡ false
    → is_expired now u u.status ≡ false
stepped-quiet w windows now all_carriers v u None plain quiet = plain.quiet quiet
stepped-quiet w windows now all_carriers v u (Some action) is quiet =
    ap (λ (x : Version). is_expired now x x.status) is.0 ∙ newborn w.windows.broadcast now
    windows.broadcast

pub stepped-forces_none : (w : WindowSet) (now : ℕ) (all_carriers : List ℕ) (v u : Version)
    (a : Option Send) → IsStepped w now all_carriers v u a
    → (not (in_force v) && in_force u) ≡ false
stepped-forces_none w now all_carriers v u None plain = plain.forces_none
stepped-forces_none w now all_carriers v u (Some action) is =
    ap (λ (x : Version). not (in_force v) && in_force x) is.0 ∙ is.1

-- ---- the whole step

-- Holds if the request changes only the version with one id, by `f`.
pub record StepsOne (st : State) (caller : ℕ) (request : Request) (s : Subject) (id : ℕ)
    (f : Version → Version) (a : Option Send) (v : Version) : Type 0 where
  pub leaves : LeavesRegistry caller request
  pub names : NamesVersion id s request
  pub does : SameEach (version_after_request (set_now st) s caller st.now (record_now st s).carriers
      request)
      (of_id id f) (record_now st s).versions
  pub keeps : (u : Version) → (f u).id ≡ u.id
  pub stepped : IsStepped (set_now st) st.now (record_now st s).carriers v (f v) a
  pub changes : changes_then st (RequestFrom caller request) s ≡ true

module _ (st : State) (old new : Content) (caller : ℕ) (request : Request) (s : Subject) (id : ℕ)
    (f : Version → Version) (a : Option Send) (v : Version) (all_carriers : List ℕ)
    (clock : ClockRow)
    (steps : StepsOne st caller request s id f a v)
    (refines : Refines old st) (due : IsSettled old st s) (found : version_with id (record_now st s)
    ≡ Some v) (clock_is : old.clock ≡ Some clock)
    (none : refusal st (RequestFrom caller request) ≡ None) (are_all : all_carriers
    ≡ keys old.carriers)
    (changed : AppliesChanges (transition_changes id st.now a s (f v) all_carriers) old new) where
  abbrev after_it : State
  after_it = accepted st (RequestFrom caller request)

  abbrev record_after : Record
  record_after = record {
    carriers = (record_now st s).carriers;
    versions = map (of_id id f) (record_now st s).versions;
  }

  record_is : record_now after_it s ≡ record_after
  record_is = stepped-record st caller request s id f v refines.represents.history steps.leaves
      steps.names steps.does steps.keeps found
      (stepped-forces_none (set_now st) st.now (record_now st s).carriers v (f v) a steps.stepped)

  own_shows : RowsMatch new s record_after
  own_shows = stepped-shows (set_now st) s st.now id f steps.keeps all_carriers v (record_now st s)
      old
      new found due.rows_match a steps.stepped changed
      (none_past v.attempt v.broadcasts (version_now counted_kept st refines.represents.history s id
      v found))
      (λ k. carriers_agree old st all_carriers refines.represents are_all s k)

  clock_after : ClockRowMatches new.clock after_it
  clock_after = clock_same st caller request s id v steps.names refines.represents.history found
      steps.leaves.unset old new refines
      (transition_changes-clock id (set_now st) st.now a s (f v) all_carriers old new changed)

  the_one : IsOnOne st caller request s id
  the_one = on_one st caller request s id v steps.names refines.represents.history found f
      steps.keeps (ap (λ (r : Record). r.versions) record_is)

  pub stepped-stands : Refines new after_it
  stepped-stands =
      on_version-stands st old new caller request s id (transition_changes id st.now a s (f v)
      all_carriers)
      record_after
      steps.leaves refines none the_one clock_after (transition_changes-are id (set_now st) st.now a
      s (f v)
      all_carriers) changed record_is own_shows
      (changed-quiet (set_now st) st.now (made_now st) s id f
      (record_now st s).versions v (given_now st refines.represents.history s) found
      (stepped-quiet (set_now st) (windows-now old st refines.represents) st.now
      (record_now st s).carriers v (f v) a steps.stepped
      (found_quiet (set_now st) st.now (λ (u : Version). u.id == id) (record_now st s).versions v
      found due.quiet))
      due.quiet)

  pub stepped-leaves : FramesUnchanged old new st (RequestFrom caller request)
  stepped-leaves = leaves_but old new st (RequestFrom caller request) s steps.changes
      (others_stay st old new caller request s id (transition_changes id st.now a s (f v)
      all_carriers)
      record_after
      steps.leaves refines none the_one clock_after (transition_changes-are id (set_now st) st.now a
      s (f v)
      all_carriers) changed)

  pub stepped-answer : (view : View) → view ≡ view_of after_it (record {
    subject = s;
    version =
        f v;
  }) → Shown (Some view) ≡ shown after_it id
  stepped-answer view is =
      ap (λ x. Shown (Some x)) is
      ∙ sym (shown_is after_it s id (f v) stepped-stands.represents.history
      (ap (version_with id) record_is ∙ version_with-changed id f steps.keeps
      (record_now st s).versions v found))
