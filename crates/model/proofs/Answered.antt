-- An accepted request on a version is answered with that version.
use Rattle.std.proofs.Common.{◌≡◌, ℕ, Bool, true, false, cond, not, ◌||◌, List, [], ◌∷◌, Option, Some, None, refl, ap, sym, ◌∙◌, subst, arith}
use Rattle.std.specs.Prelude.{◌==◌, find, is_none, option_map, option_and_then, if◌then◌else◌}
use Rattle.std.specs.List.{list_any}
use Rattle.numbers.specs.Subjects.{Subject, Number, Block}
use Rattle.model.specs.Commands.{OldProviderCreate, NewProviderCreate, OnVersion, Assign, Release}
use Rattle.model.specs.Versions.{Version, Record, version_with, first_of_versions, last_version}
use Rattle.model.specs.Changes.{changed_at}
use Rattle.model.specs.History.{Request, CommandRequest, AcknowledgementRequest, HasValues, subject_of_id, version_after_request, made_version, subjects_made_by, id_among, with_made, donor_of, assigned_block, effect, replay_step, replay_of, lacks_old_create, lacks_new_create}
use Rattle.model.specs.State.{State, SubjectVersion, record_now, version_of_id, of_its_subject, view_of, set_now, next_of, made_now}
use Rattle.model.specs.Conditions.{holds_of}
use Rattle.model.specs.OnVersion.{is_number}
use Rattle.model.specs.Refusals.{RequestFrom, refusal, tests, second_of}
use Rattle.model.specs.Machine.{IsHistory, Shown, accepted, out, shown, shown_found, id_of_create, answer_of, refused_or}
use Rattle.model.specs.Laws.{IsReachable, is_on_version, id_shown, IsShownWith, VersionIsShown}
use Rattle.model.proofs.Lists.{everywhere}
use Rattle.numbers.proofs.Small.{or_second, or_true, or_right, some_is, same_number}
use Rattle.model.proofs.Accepted.{accepted_command, none_holds}
use Rattle.model.specs.Concerns.{has_id}
use Rattle.model.proofs.Ids.{changed-has_id}
use Rattle.model.proofs.Sound.{version_after_request-id, made_version-id}
use Rattle.model.proofs.Entered.{judged-now, found_is, subject_eq-refl}
use Rattle.model.proofs.Shown.{id_found}

-- ---- found by an id

-- If a version has the id, one is found.
found_with : (id : ℕ) (vs : List Version) → has_id id vs ≡ true → (v : Version)
    × (find (λ u. u.id == id) vs ≡ Some v)
found_with id [] has = cc
found_with id (u ∷ us) has = by_cases (λ later. found_with id us later) (u.id == id) has
  where
    by_cases : (has_id id us ≡ true → (v : Version) × (find (λ x. x.id == id) us ≡ Some v))
        → (b : Bool)
        → (b || has_id id us) ≡ true →
        (v : Version) × (cond b (Some u) (find (λ x. x.id == id) us) ≡ Some v)
    by_cases later true e = (u, refl)
    by_cases later false e = later e

-- The id of a version that a test finds is one of the list's.
found_has_id : (test : Version → Bool) (vs : List Version) (v : Version) → find test vs ≡ Some v
    → has_id v.id vs ≡ true
found_has_id test [] v found = cc
found_has_id test (u ∷ us) v found = by_cases (λ e. found_has_id test us v e) (test u) found
  where
    by_cases : (find test us ≡ Some v → has_id v.id us ≡ true) → (b : Bool)
        → cond b (Some u) (find test us) ≡ Some v → ((u.id == v.id) || has_id v.id us) ≡ true
    by_cases later true e = ap (λ (x : Version). (x.id == v.id) || has_id v.id us) (some_is u v e)
        ∙ ap (λ b. b || has_id v.id us) (same_number v.id)
    by_cases later false e = ap (λ b. (u.id == v.id) || b) (later e) ∙ or_true (u.id == v.id)

-- The version of an id is in its subject's record.
stands_in : (st : State) (id : ℕ) (e : SubjectVersion) → version_of_id st id ≡ Some e
    → has_id id (record_now st e.subject).versions ≡ true
stands_in st id e found = by_cases (subject_of_id id 1 (made_now st)) found
  where
    in_record : (s : Subject) (o : Option Version) → version_with id (record_now st s) ≡ o
        → of_its_subject s o ≡ Some e → has_id id (record_now st e.subject).versions ≡ true
    in_record s None g f = cc
    in_record s (Some v) g f =
        let same : s ≡ e.subject =
        ap (λ (x : SubjectVersion). x.subject) (some_is (record { subject = s; version = v }) e
        f) in
        ap (λ t. has_id id (record_now st t).versions) (sym same)
        ∙ ap (λ k. has_id k (record_now st s).versions)
        (sym (id_found id (record_now st s).versions v g))
        ∙ found_has_id (λ u. u.id == id) (record_now st s).versions v g

    by_cases : (o : Option Subject)
        → option_and_then (λ s. of_its_subject s (version_with id (record_now st s))) o ≡ Some e
        → has_id id (record_now st e.subject).versions ≡ true
    by_cases None f = cc
    by_cases (Some s) f = in_record s (version_with id (record_now st s)) refl f

with_made_has : (o : Option ℕ) (made : ℕ → Version) (vs : List Version) (id : ℕ)
    → has_id id vs ≡ true → has_id id (with_made o made vs) ≡ true
with_made_has None made vs id has = has
with_made_has (Some k) made vs id has = or_right ((made k).id == id) (has_id id vs) has

pub first_has_id : (vs : List Version) (v : Version) → first_of_versions vs ≡ Some v
    → has_id v.id vs ≡ true
first_has_id [] v first = cc
first_has_id (u ∷ us) v first =
    ap (λ (x : Version). (x.id == v.id) || has_id v.id us) (some_is u v first)
    ∙ ap (λ b. b || has_id v.id us) (same_number v.id)

none_of : (test : Version → Bool) (vs : List Version) → find test vs ≡ None
    → list_any test vs ≡ false
none_of test [] none = refl
none_of test (v ∷ vs) none = by_cases (λ later. none_of test vs later) (test v) none
  where
    by_cases : (find test vs ≡ None → list_any test vs ≡ false) → (b : Bool)
        → cond b (Some v) (find test vs) ≡ None → (b || list_any test vs) ≡ false
    by_cases later true e = cc
    by_cases later false e = later e

-- ---- after an accepted request

module _ (st : State) (is : IsReachable st) (caller : ℕ) (request : Request)
    (lines : HasValues request)
    (ok : refusal st (RequestFrom caller request) ≡ None) where
  entered : (s : Subject) → record_now (accepted st (RequestFrom caller request)) s
      ≡ effect (set_now st) s (id_among s (next_of st)
      (subjects_made_by request (record_now st))) (donor_of (assigned_block request) st.history)
      (record {
        minute = st.now;
        caller = caller;
        request = request;
      }) (record_now st s)
  unfolding replay_of replay_step
  entered s = judged-now (set_now (accepted st (RequestFrom caller request))) st.now
      (effect (set_now st) s (id_among s (next_of st)
      (subjects_made_by request (record_now st))) (donor_of (assigned_block request) st.history)
      (record {
        minute = st.now;
        caller = caller;
        request = request;
      }) (record_now st s))

  -- A version that existed before the request still exists.
  stays : (s : Subject) (id : ℕ) → has_id id (record_now st s).versions ≡ true
      → has_id id (record_now (accepted st (RequestFrom caller request)) s).versions ≡ true
  unfolding effect
  stays s id has =
      ap (λ (r : Record). has_id id r.versions) (entered s)
      ∙ with_made_has (id_among s (next_of st) (subjects_made_by request (record_now st)))
      (λ k. made_version (set_now st) k caller st.now (record_now st s).carriers
      (donor_of (assigned_block request) st.history) request)
      (changed_at (set_now st) st.now (version_after_request (set_now st) s caller st.now
      (record_now st s).carriers request) (record_now st s).versions) id
      (changed-has_id (set_now st) st.now id (version_after_request (set_now st) s caller st.now
      (record_now st s).carriers request) (record_now st s).versions
      (everywhere (version_after_request-id (set_now st) s caller st.now (record_now st s).carriers
      request)
      (record_now st s).versions)
      ∙ has)

  -- A version that the request made exists.
  is_made : (s : Subject) (id : ℕ)
      → id_among s (next_of st) (subjects_made_by request (record_now st)) ≡ Some id
      → has_id id (record_now (accepted st (RequestFrom caller request)) s).versions ≡ true
  unfolding effect
  is_made s id made =
      ap (λ (r : Record). has_id id r.versions) (entered s)
      ∙ ap (λ o. has_id id
      (with_made o (λ k. made_version (set_now st) k caller st.now (record_now st s).carriers
      (donor_of (assigned_block request) st.history) request)
      (changed_at (set_now st) st.now (version_after_request (set_now st) s caller st.now
      (record_now st s).carriers request) (record_now st s).versions))) made
      ∙ ap (λ k. (k == id) || has_id id (changed_at (set_now st) st.now
      (version_after_request (set_now st) s caller st.now (record_now st s).carriers request)
      (record_now st s).versions))
      (made_version-id (set_now st) id caller st.now (record_now st s).carriers
      (donor_of (assigned_block request) st.history) request)
      ∙ ap (λ b. b || has_id id (changed_at (set_now st) st.now
      (version_after_request (set_now st) s caller st.now (record_now st s).carriers request)
      (record_now st s).versions)) (same_number id)

  still : IsHistory st.windows (accepted st (RequestFrom caller request)).history st.now
  still = (omega arith, lines, ok, is.history)

  shown_with : (s : Subject) (id : ℕ)
      → has_id id (record_now (accepted st (RequestFrom caller request)) s).versions ≡ true →
      answer_of st (accepted st (RequestFrom caller request)) (RequestFrom caller request)
      ≡ shown (accepted st (RequestFrom caller request)) id → IsShownWith st caller request id
  unfolding out
  shown_with s id has answer =
      let found : (v : Version)
      × (version_with id (record_now (accepted st (RequestFrom caller request)) s) ≡ Some v) =
      found_with id (record_now (accepted st (RequestFrom caller request)) s).versions has in
      let stands : version_of_id (accepted st (RequestFrom caller request)) id
      ≡ Some (record { subject = s; version = found.0 }) =
      found_is (accepted st (RequestFrom caller request)) still s id found.0 found.1 in
      record {
        shown = record { subject = s; version = found.0 };
        has_id = id_found id (record_now (accepted st (RequestFrom caller request)) s).versions
            found.0
            found.1;
        stands = stands;
        answer = ap (λ o. refused_or o (answer_of st (accepted st (RequestFrom caller request))
            (RequestFrom caller request))) ok
            ∙ answer
            ∙ ap (λ o. Shown (option_map (view_of (accepted st (RequestFrom caller request))) o))
            stands;
      }

  -- The request names an existing version.
  of_version : (id : ℕ) → is_none (version_of_id st id) ≡ false →
      answer_of st (accepted st (RequestFrom caller request)) (RequestFrom caller request)
      ≡ shown (accepted st (RequestFrom caller request)) id → IsShownWith st caller request id
  of_version id there answer = by_cases (version_of_id st id) refl there
    where
      by_cases : (o : Option SubjectVersion) → version_of_id st id ≡ o → is_none o ≡ false
          → IsShownWith st caller request id
      by_cases None e none = cc
      by_cases (Some e) found some =
          shown_with e.subject id (stays e.subject id (stands_in st id e found)) answer

  of_number : (id : ℕ)
      → not (holds_of (λ (e : SubjectVersion). is_number e.subject) (version_of_id st id)) ≡ false →
      answer_of st (accepted st (RequestFrom caller request)) (RequestFrom caller request)
      ≡ shown (accepted st (RequestFrom caller request)) id → IsShownWith st caller request id
  of_number id there answer = of_version id (by_cases (version_of_id st id) there) answer
    where
      by_cases : (o : Option SubjectVersion)
          → not (holds_of (λ (e : SubjectVersion). is_number e.subject) o) ≡ false
          → is_none o ≡ false
      by_cases None e = cc
      by_cases (Some x) e = refl

  -- The request is a create.
  of_create : (tn : ℕ) (lacks : Version → Bool)
      → (list_any lacks (record_now st (Number tn)).versions ≡ false
      → subjects_made_by request (record_now st) ≡ Number tn ∷ []) →
      answer_of st (accepted st (RequestFrom caller request)) (RequestFrom caller request)
      ≡ shown (accepted st (RequestFrom caller request)) (id_of_create st tn lacks)
      → IsShownWith st caller request (id_of_create st tn lacks)
  of_create tn lacks makes_it answer = by_cases (second_of st tn lacks) refl
    where
      by_cases : (o : Option Version) → second_of st tn lacks ≡ o
          → IsShownWith st caller request (id_of_create st tn lacks)
      by_cases (Some v) found =
          let the_id : id_of_create st tn lacks ≡ v.id =
          ap (λ (o : Option Version). elim o [
            | Some u ↦ u.id
            | None ↦ next_of st
          ]) found in
          subst (λ k. IsShownWith st caller request k) (sym the_id)
          (shown_with (Number tn) v.id
          (stays (Number tn) v.id (found_has_id lacks (record_now st (Number tn)).versions v
          found))
          (answer ∙ ap (shown (accepted st (RequestFrom caller request))) the_id))
      by_cases None none =
          let the_id : id_of_create st tn lacks ≡ next_of st =
          ap (λ (o : Option Version). elim o [
            | Some u ↦ u.id
            | None ↦ next_of st
          ]) none in
          subst (λ k. IsShownWith st caller request k) (sym the_id)
          (shown_with (Number tn) (next_of st)
          (is_made (Number tn) (next_of st)
          (ap (id_among (Number tn) (next_of st))
          (makes_it (none_of lacks (record_now st (Number tn)).versions none))
          ∙ ap (λ b. if b then Some (next_of st)
          else None) (subject_eq-refl (Number tn))))
          (answer ∙ ap (shown (accepted st (RequestFrom caller request))) the_id))

known : (st : State) (caller id attempt : ℕ)
    → refusal st (RequestFrom caller (AcknowledgementRequest id attempt)) ≡ None
    → is_none (version_of_id st id) ≡ false
unfolding tests
known st caller id attempt ok =
    (none_holds (tests st (RequestFrom caller (AcknowledgementRequest id attempt))) ok).1.0

makes_one : (b : Bool) (s : Subject) → b ≡ false → (if b then [] else s ∷ []) ≡ s ∷ []
makes_one true s e = cc
makes_one false s e = refl

-- The request is a release of a block that has a version.
module _ (st : State) (is : IsReachable st) (caller block : ℕ)
    (ok : refusal st (RequestFrom caller (CommandRequest (Release block))) ≡ None) where
  of_block : (id : ℕ) → id_shown st (CommandRequest (Release block)) ≡ Some id
      → IsShownWith st caller (CommandRequest (Release block)) id
  of_block id e = by_cases (last_version (record_now st (Block block))) refl e
    where
      by_cases : (o : Option Version) → last_version (record_now st (Block block)) ≡ o
          → option_map (λ (v : Version). v.id) o ≡ Some id
          → IsShownWith st caller (CommandRequest (Release block)) id
      by_cases None last f = cc
      by_cases (Some v) last f =
          subst (λ k. IsShownWith st caller (CommandRequest (Release block)) k) (some_is v.id id f)
          (shown_with st is caller (CommandRequest (Release block)) tt ok (Block block) v.id
          (stays st is caller (CommandRequest (Release block)) tt ok (Block block) v.id
          (first_has_id (record_now st (Block block)).versions v last))
          (ap (λ (o : Option Version). shown_found
          (accepted st (RequestFrom caller (CommandRequest (Release block))))
          (option_map (λ (u : Version). u.id) o)) last))

with_id : (st : State) → IsReachable st → (caller : ℕ) (request : Request) → HasValues request
    → refusal st (RequestFrom caller request) ≡ None →
    (id : ℕ) → id_shown st request ≡ Some id → IsShownWith st caller request id
with_id st is caller (CommandRequest (OnVersion n c)) lines ok id e =
    subst (IsShownWith st caller (CommandRequest (OnVersion n c))) (some_is n id e)
    (of_number st is caller (CommandRequest (OnVersion n c)) lines ok n
    (accepted_command st caller (OnVersion n c) ok 10) refl)
with_id st is caller (AcknowledgementRequest n attempt) lines ok id e =
    subst (IsShownWith st caller (AcknowledgementRequest n attempt)) (some_is n id e)
    (of_version st is caller (AcknowledgementRequest n attempt) lines ok n
    (known st caller n attempt ok)
    refl)
with_id st is caller (CommandRequest (OldProviderCreate tn old_provider new_provider due
    authorized))
    lines ok id e =
    subst (IsShownWith st caller
    (CommandRequest (OldProviderCreate tn old_provider new_provider due authorized)))
    (some_is (id_of_create st tn (lacks_old_create old_provider new_provider)) id e)
    (of_create st is caller
    (CommandRequest (OldProviderCreate tn old_provider new_provider due authorized)) lines ok tn
    (lacks_old_create old_provider new_provider)
    (λ none. makes_one (list_any (lacks_old_create old_provider new_provider)
    (record_now st (Number tn)).versions) (Number tn) none) refl)
with_id st is caller (CommandRequest (NewProviderCreate tn old_provider new_provider due lrn cic))
    lines
    ok id e =
    subst (IsShownWith st caller (CommandRequest (NewProviderCreate tn old_provider new_provider due
    lrn
    cic))) (some_is (id_of_create st tn (lacks_new_create old_provider new_provider)) id e)
    (of_create st is caller (CommandRequest (NewProviderCreate tn old_provider new_provider due lrn
    cic))
    lines ok tn (lacks_new_create old_provider new_provider)
    (λ none. makes_one (list_any (lacks_new_create old_provider new_provider)
    (record_now st (Number tn)).versions) (Number tn) none) refl)
with_id st is caller (CommandRequest (Assign block holder lrn cic)) lines ok id e =
    subst (IsShownWith st caller (CommandRequest (Assign block holder lrn cic)))
    (some_is (next_of st) id e)
    (shown_with st is caller (CommandRequest (Assign block holder lrn cic)) lines ok (Block block)
    (next_of st)
    (is_made st is caller (CommandRequest (Assign block holder lrn cic)) lines ok (Block block)
    (next_of st)
    (ap (λ b. if b then Some (next_of st)
    else None) (subject_eq-refl (Block block))))
    refl)
with_id st is caller (CommandRequest (Release block)) lines ok id e =
    of_block st is caller block ok id e
with_id st is caller _ lines ok id e = cc

-- ---- an accepted request has such an id

released_id : (o : Option Version) → is_none o ≡ false
    → (id : ℕ) × (option_map (λ (v : Version). v.id) o ≡ Some id)
released_id None none = cc
released_id (Some v) some = (v.id, refl)

has_an_id : (st : State) (caller : ℕ) (request : Request)
    → refusal st (RequestFrom caller request) ≡ None → is_on_version request ≡ true
    → (id : ℕ) × (id_shown st request ≡ Some id)
has_an_id st caller (AcknowledgementRequest n attempt) ok on = (n, refl)
has_an_id st caller (CommandRequest (OnVersion n c)) ok on = (n, refl)
has_an_id st caller (CommandRequest (OldProviderCreate tn old_provider new_provider due authorized))
    ok
    on =
    (id_of_create st tn (lacks_old_create old_provider new_provider), refl)
has_an_id st caller (CommandRequest (NewProviderCreate tn old_provider new_provider due lrn cic)) ok
    on =
    (id_of_create st tn (lacks_new_create old_provider new_provider), refl)
has_an_id st caller (CommandRequest (Assign block holder lrn cic)) ok on =
    (next_of st, refl)
has_an_id st caller (CommandRequest (Release block)) ok on =
    released_id (last_version (record_now st (Block block)))
    (or_second (is_none (donor_of block st.history))
    (is_none (last_version (record_now st (Block block))))
    (accepted_command st caller (Release block) ok 10))
has_an_id st caller _ ok on = cc

pub version_is_shown : VersionIsShown
version_is_shown st is caller request lines ok on =
    let named : (id : ℕ) × (id_shown st request ≡ Some id) = has_an_id st caller request ok on in
    (named.0, named.1, with_id st is caller request lines ok named.0 named.1)
