-- A carrier's copy is the one that starts with the rows of its registration and takes the downloads
-- that it has acknowledged.
use Rattle.std.proofs.Common.{◌≡◌, ℕ, ◌≤◌, ◌⊎◌, inl, inr, Bool, true, false, ◌||◌, List, [], ◌∷◌, map, Option, Some, None, refl, ap, sym, ◌∙◌, subst, arith}
use Rattle.std.specs.Prelude.{◌==◌, fold, find, flat_map, option_and_then, if◌then◌else◌}
use Rattle.std.specs.List.{list_any, AllByRecursion}
use Rattle.std.proofs.lemmas.List.Sums.{fold-append}
use Rattle.numbers.specs.Subjects.{Subject, subject_eq}
use Rattle.numbers.specs.Routings.{Routing}
use Rattle.model.specs.declared.words.Action.{Action}
use Rattle.model.specs.declared.words.Action.TheVariants.{Create, Delete, Modify}
use Rattle.model.specs.Windows.{Windows, AreWindows}
use Rattle.model.specs.Versions.{Version, version_in_force}
use Rattle.model.specs.History.{Request, CommandRequest, AcknowledgementRequest, Entry, replay}
use Rattle.model.specs.State.{State, Download, InForce, record_now, registers, routing_in_force, all_in_force, downloads_acknowledged, first_of, download, queue, copy_of}
use Rattle.model.specs.Refusals.{RequestFrom, refusal, is_download}
use Rattle.model.specs.Machine.{IsHistory, HasHistory}
use Rattle.model.specs.Laws.{IsReachable, IsRowInForce, CopyIsHanded, FitsAction}
use Rattle.model.specs.Copies.{routing_left, copy_after_download, copy_of_rows, rows_handed, acknowledged_of, and_then, downloads_handed, copy_handed}
use Rattle.numbers.proofs.Small.{same_number, and_first, and_second, equal_number, negated}
use Rattle.model.proofs.Lists.{Among, any_there, there_any, found-among, found-there, each_there}
use Rattle.model.proofs.Ids.{same_subject}
use Rattle.model.proofs.Fitting.{queued_fits}
use Rattle.model.proofs.Entered.{subject_eq-refl}
use Rattle.model.proofs.Listed.{row_is, row_there}
use Rattle.model.proofs.Copies.{Carrier}
use Rattle.model.proofs.Copies.Queue.{IsQueued, queued-from}
use Rattle.model.proofs.Copies.Followed.{acknowledged_now}
use Rattle.model.proofs.Copies.Passing.{is_others}
use Rattle.model.proofs.Copies.Law.{others_none, its_own}
use Rattle.model.proofs.Copies.Answering.{as_listed, IsOf, it_is_of, of_version, none_first, queued, same_download}

-- ---- the rows of a registration

abbrev begun : Subject → Option Routing → InForce → Option Routing
begun s before r = if subject_eq r.subject s then r.routing else before

-- If each row of a subject has the same routing, the copy has that routing.
begun_is : (s : Subject) (want : Option Routing) (rows : List InForce) (before : Option Routing)
    → AllByRecursion (λ (r : InForce). subject_eq r.subject s ≡ true → r.routing ≡ want) rows →
    (before ≡ want) ⊎ (list_any (λ (r : InForce). subject_eq r.subject s) rows ≡ true)
    → fold (begun s) before rows ≡ want
begun_is s want [] before all (inl e) = e
begun_is s want [] before all (inr e) = cc
begun_is s want (r ∷ rs) before all has =
    by_cases (λ next some. begun_is s want rs next all.1 some) (subject_eq r.subject s) refl has
  where
    by_cases : ((next : Option Routing) → (next ≡ want)
        ⊎ (list_any (λ (q : InForce). subject_eq q.subject s) rs ≡ true)
        → fold (begun s) next rs ≡ want) → (b : Bool) → subject_eq r.subject s ≡ b →
        (before ≡ want) ⊎ (list_any (λ (q : InForce). subject_eq q.subject s) (r ∷ rs) ≡ true)
        → fold (begun s) (begun s before r) rs ≡ want
    by_cases later true e some =
        later (begun s before r) (inl (ap (λ t. if t then r.routing else before) e ∙ all.0 e))
    by_cases later false e (inl f) =
        later (begun s before r) (inl (ap (λ t. if t then r.routing else before) e ∙ f))
    by_cases later false e (inr f) =
        later (begun s before r)
        (inr (sym (ap (λ t. t || list_any (λ (q : InForce). subject_eq q.subject s) rs) e) ∙ f))

-- A copy that starts with all rows in force has each subject's routing in force.
started_is : (st : State) → IsReachable st → (s : Subject)
    → copy_of_rows (all_in_force st) s ≡ routing_in_force (record_now st s)
started_is st is s = by_cases (version_in_force (record_now st s)) refl
  where
    its : (r : InForce) → Among r (all_in_force st) → subject_eq r.subject s ≡ true
        → r.routing ≡ routing_in_force (record_now st s)
    its r there same =
        let row : IsRowInForce st r = row_is st is r there in
        let at : s ≡ r.subject = same_subject r.subject s same in
        row.routing
        ∙ sym (ap (option_and_then (λ (v : Version). v.routing))
        (ap (λ t. version_in_force (record_now st t)) at ∙ row.stands))

    each_its : AllByRecursion (λ (r : InForce). subject_eq r.subject s ≡ true
        → r.routing ≡ routing_in_force (record_now st s)) (all_in_force st)
    each_its = each_there (λ (r : InForce). subject_eq r.subject s ≡ true
        → r.routing ≡ routing_in_force (record_now st s)) (all_in_force st) its

    by_cases : (o : Option Version) → version_in_force (record_now st s) ≡ o
        → copy_of_rows (all_in_force st) s ≡ routing_in_force (record_now st s)
    by_cases None none = begun_is s (routing_in_force (record_now st s)) (all_in_force st) None
        each_its
        (inl (sym (ap (option_and_then (λ (v : Version). v.routing)) none)))
    by_cases (Some v) stands =
        begun_is s (routing_in_force (record_now st s)) (all_in_force st) None
        each_its
        (inr (there_any (λ (r : InForce). subject_eq r.subject s) (record {
          subject = s;
          routing =
              v.routing;
        }) (all_in_force st) (row_there st is s v stands) (subject_eq-refl s)))

-- ---- a download

abbrev taken : Subject → Option Download → Option Routing → Option Routing
taken s (Some d) before = copy_after_download d s before
taken s None before = before

abbrev copied : Option Download → Option Routing → Option Routing
copied o before = elim o [ Some d ↦ d.routing | None ↦ before ]

fold_then : (s : Subject) (start : Option Routing) (ds : List Download) (o : Option Download) →
    fold (λ before d. copy_after_download d s before) start (and_then ds o)
    ≡ taken s o (fold (λ before d. copy_after_download d s before) start ds)
fold_then s start ds None = refl
fold_then s start ds (Some d) =
    fold-append (λ before d. copy_after_download d s before) start ds (d ∷ [])

-- A routing that fits its action is the one that is left.
left_is : (action : Action) (routing : Option Routing) → FitsAction action routing
    → routing_left action routing ≡ routing
left_is Create routing fits = refl
left_is Modify routing fits = refl
left_is Delete None fits = refl
left_is Delete (Some routing) fits = cc

-- The carrier's own acknowledgement says of a subject what the download in the queue says.
module _ (st : State) (is : HasHistory st) (s : Subject) (c id attempt : ℕ)
    (ok : refusal st (RequestFrom c (AcknowledgementRequest id attempt)) ≡ None) where
  abbrev of_it : Option Download
  of_it = first_of (flat_map (downloads_acknowledged c c (AcknowledgementRequest id attempt))
      (map (as_listed s) (record_now st s).versions))

  -- A download of another subject says nothing of this one.
  not_its : (x : Download) → Among x (queue st c) → is_download id attempt x ≡ true → of_it ≡ None
      → subject_eq x.subject s ≡ false
  not_its x there matched none = by_cases (subject_eq x.subject s) refl
    where
      stands : IsQueued st c x
      stands = queued-from st c x there

      its_id : stands.at.version.id ≡ id
      its_id = ap (λ (y : Download). y.id) (sym stands.is)
          ∙ equal_number x.id id (and_first (x.id == id) (x.attempt == attempt) matched)

      its_attempt : stands.broadcast.attempt ≡ attempt
      its_attempt = ap (λ (y : Download). y.attempt) (sym stands.is)
          ∙ equal_number x.attempt attempt (and_second (x.id == id) (x.attempt == attempt) matched)

      never : s ≡ stands.at.subject → ⊥
      never same =
          none_first (flat_map (downloads_acknowledged c c (AcknowledgementRequest id attempt))
          (map (as_listed s) (record_now st s).versions)) (download (as_listed s stands.at.version)
          stands.broadcast) none
          (of_version st is s c id attempt stands.at.version stands.broadcast
          (subst (λ t. Among stands.at.version (record_now st t).versions) (sym same)
          (found-among _ (record_now st stands.at.subject).versions stands.at.version
          stands.found).0)
          stands.sent (ap (λ k. k == id) its_id ∙ same_number id)
          (ap (λ k. k == attempt) its_attempt ∙ same_number attempt))

      by_cases : (b : Bool) → subject_eq x.subject s ≡ b → b ≡ false
      by_cases false e = refl
      by_cases true e =
          absurd (never (same_subject x.subject s e ∙ ap (λ (y : Download). y.subject) stands.is))

  says : (x : Download) → find (is_download id attempt) (queue st c) ≡ Some x
      → (before : Option Routing) → copied of_it before ≡ copy_after_download x s before
  says x found before = by_cases of_it refl
    where
      there : Among x (queue st c) × (is_download id attempt x ≡ true)
      there = found-among (is_download id attempt) (queue st c) x found

      by_cases : (o : Option Download) → of_it ≡ o
          → copied o before ≡ copy_after_download x s before
      by_cases None none =
          sym (ap (λ b. if b then routing_left x.action x.routing else before)
          (not_its x there.0 there.1 none))
      by_cases (Some d) some =
          let one : IsOf st is s c id attempt d = it_is_of st is s c id attempt d some in
          let same : x ≡ d = (same_download st is s c id attempt d one x there.0 there.1).0
          ∙ sym one.is_its in
          let about : subject_eq d.subject s ≡ true =
          ap (λ (y : Download). subject_eq y.subject s) one.is_its ∙ subject_eq-refl s in
          let fits : FitsAction d.action d.routing =
          subst (λ (y : Download). FitsAction y.action y.routing) same
          (queued_fits st is c x there.0) in
          sym (ap (λ y. copy_after_download y s before) same ∙ ap (λ b. if b
          then routing_left d.action d.routing else before) about
          ∙ left_is d.action d.routing fits)

  own_says : (before : Option Routing)
      → copied of_it before ≡ taken s (acknowledged_of c c (AcknowledgementRequest id attempt)
      (queue st c))
      before
  own_says before =
      let waits =
      any_there (is_download id attempt) (queue st c) (queued st is s c id attempt ok) in
      let found = found-there (is_download id attempt) (queue st c) waits.0 waits.1 waits.2 in
      says found.0 found.1 before
      ∙ sym (ap (λ o. taken s o before) (ap (λ b. if b
      then find (is_download id attempt) (queue st c) else None) (same_number c) ∙ found.1))

-- ---- every history

-- Another's request takes no download.
others_take : (c caller : ℕ) (request : Request) (waiting : List Download)
    → is_others (Carrier c) caller request ≡ true → acknowledged_of c caller request waiting ≡ None
others_take c caller (CommandRequest command) waiting other = refl
others_take c caller (AcknowledgementRequest id attempt) waiting other =
    ap (λ b. if b then find (is_download id attempt) waiting
    else None) (negated (caller == c) other)

module _ (w : Windows) (are : AreWindows w) (c : ℕ) (s : Subject) where
  abbrev at : List Entry → Entry → State
  at h e = record { windows = w; history = h; now = e.minute }

  abbrev Says : List Entry → Entry → Type 0
  Says h e = IsHistory w (e ∷ h) e.minute → (before : Option Routing)
      → copied (acknowledged_now w c s h e) before ≡ taken s (acknowledged_of c e.caller e.request
      (queue (at h e) c)) before

  -- An entry that does not register the carrier.
  entry_says : (h : List Entry) (e : Entry) → registers c e.request ≡ false → Says h e
  entry_says h e unregistered = by_cases (is_others (Carrier c) e.caller e.request) refl
    where
      by_cases : (b : Bool) → is_others (Carrier c) e.caller e.request ≡ b → Says h e
      by_cases true other = λ is before.
          ap (λ o. copied o before) (others_none c e.caller e.request
          (map (as_listed s) (replay w s h e.minute).versions) other)
          ∙ sym (ap (λ o. taken s o before) (others_take c e.caller e.request (queue (at h e) c)
          other))
      by_cases false own =
          let its = its_own c e.caller e.request unregistered own in
          subst (Says h) (ap (λ k. let x : Entry = record {
            minute = e.minute;
            caller = k;
            request = AcknowledgementRequest its.0 its.1;
          } in x) (sym its.3) ∙ ap (λ q. let x : Entry = record {
            minute = e.minute;
            caller = e.caller;
            request = q;
          } in x) (sym its.2))
          (λ is before. own_says (at h e) is.3 s c its.0 its.1 is.2 before)

  handed : (h : List Entry) (now : ℕ) → IsHistory w h now → copy_of w c s h ≡ copy_handed w c h s
  unfolding copy_of
  handed [] now is = refl
  handed (e ∷ h) now is = by_cases (handed h e.minute is.3) (registers c e.request) refl
    where
      here : IsHistory w (e ∷ h) e.minute
      here = (let same : e.minute ≤ e.minute = omega arith in same, is.1, is.2, is.3)

      by_cases : copy_of w c s h ≡ copy_handed w c h s → (b : Bool) → registers c e.request ≡ b →
          (if registers c e.request then routing_in_force (replay w s h e.minute)
          else copied (acknowledged_now w c s h e) (copy_of w c s h)) ≡ copy_handed w c (e ∷ h) s
      by_cases before true f =
          ap (λ b. if b then routing_in_force (replay w s h e.minute)
          else copied (acknowledged_now w c s h e) (copy_of w c s h)) f
          ∙ sym (started_is (at h e) (record { windows = are; history = is.3 }) s)
          ∙ sym (ap (λ b. fold (λ had d. copy_after_download d s had) (copy_of_rows (if b
          then all_in_force (at h e)
          else rows_handed w c h) s)
          (if b then []
          else and_then (downloads_handed w c h) (acknowledged_of c e.caller e.request
          (queue (at h e) c)))) f)
      by_cases before false f =
          ap (λ b. if b then routing_in_force (replay w s h e.minute)
          else copied (acknowledged_now w c s h e) (copy_of w c s h)) f
          ∙ ap (copied (acknowledged_now w c s h e)) before
          ∙ entry_says h e f here (copy_handed w c h s)
          ∙ sym (fold_then s (copy_of_rows (rows_handed w c h) s) (downloads_handed w c h)
          (acknowledged_of c e.caller e.request (queue (at h e) c)))
          ∙ sym (ap (λ b. fold (λ had d. copy_after_download d s had) (copy_of_rows (if b
          then all_in_force (at h e)
          else rows_handed w c h) s)
          (if b then []
          else and_then (downloads_handed w c h) (acknowledged_of c e.caller e.request
          (queue (at h e) c)))) f)

-- This holds in every reachable state.
pub copy_is_handed : CopyIsHanded
copy_is_handed st is c s = handed st.windows is.windows c s st.history st.now is.history
