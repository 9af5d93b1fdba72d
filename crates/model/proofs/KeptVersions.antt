-- Every version of every record has what each move keeps.
use Rattle.std.proofs.Common.{◌≡◌, ℕ, suc, Bool, true, false, not, ◌&&◌, List, [], ◌∷◌, map, Option, Some, None, refl, arith}
use Rattle.std.specs.Prelude.{◌==◌, if◌then◌else◌}
use Rattle.std.specs.List.{AllByRecursion}
use Rattle.numbers.specs.Subjects.{Subject}
use Rattle.model.specs.Statuses.{Old}
use Rattle.model.specs.Windows.{Windows, WindowSet}
use Rattle.model.specs.Versions.{Version, Record, in_force, version_with}
use Rattle.model.specs.Changes.{with_status, changed_at, retired}
use Rattle.model.specs.Judge.{judge, judged_version}
use Rattle.model.specs.History.{Entry, effect, replay, subjects_made_by, subjects_made, made_version, with_made, version_after_request, next_after, id_among, carrier_named, carrier_added, donor_of, assigned_block, present_set}
use Rattle.model.specs.State.{State, record_now}
use Rattle.model.specs.Machine.{IsHistory, HasHistory}
use Rattle.model.proofs.Ids.{given_apart, all_found}
use Rattle.model.proofs.Entered.{given_now}
use Rattle.model.proofs.Lists.{each, each_two, found_has}
use Rattle.model.proofs.Kept.{record_after, kept}
use Rattle.model.proofs.Moves.{Property, MovesKeep, judged_kept, done_kept, made_kept}

abbrev pub AllKept : Property → ℕ → Record → Type 0
AllKept P m r = AllByRecursion (P m r.carriers) r.versions

module _ {P : Property} {w : WindowSet} (keeps : MovesKeep w P) where
  retired_kept : (b : Bool) (m : ℕ) (cs : List ℕ) (vs : List Version) → AllByRecursion (P m cs) vs →
      AllByRecursion (P m cs) (map (retired w b m) vs)
  retired_kept b m cs [] all = tt
  retired_kept b m cs (v ∷ vs) all = (by_cases b (in_force v) refl, retired_kept b m cs vs all.1)
    where
      by_cases : (x y : Bool) → in_force v ≡ y → P m cs (if x && y then with_status w Old m v
          else v)
      by_cases true true e = keeps.old m cs v e all.0
      by_cases true false e = all.0
      by_cases false y e = all.0

  -- A change that gives each version the property keeps it.
  changed_kept : (m : ℕ) (cs : List ℕ) (change : Version → Version) (vs : List Version) →
      AllByRecursion (λ v. P m cs (change v)) vs
      → AllByRecursion (P m cs) (changed_at w m change vs)
  changed_kept m cs change [] all = tt
  changed_kept m cs change (v ∷ vs) all = (
    all.0,
    retired_kept (not (in_force v) && in_force (change v)) m cs (changed_at w m change vs)
        (changed_kept m cs change vs all.1),
  )

  -- A minute keeps the property.
  pub judge_kept : (m : ℕ) (r : Record) → AllByRecursion (P m r.carriers) r.versions →
      AllByRecursion (P m (judge w m r).carriers) (judge w m r).versions
  unfolding judge
  judge_kept m r all = changed_kept m r.carriers (judged_version w r.carriers m) r.versions
      (each (λ v p. judged_kept keeps r.carriers m v p) r.versions all)

-- ---- one step of a history, by the moves with its present set of windows

module _ {P : Property} (w : Windows) (s : Subject) (h : List Entry)
    (keeps : MovesKeep (present_set w h) P) where
  pub minute_kept : (m : ℕ) → AllKept P m (replay w s h m) →
      AllKept P (suc m) (judge (present_set w h) (suc m) (replay w s h m))
  minute_kept m all =
      judge_kept keeps (suc m) (replay w s h m)
      (each (λ v p. keeps.later m (suc m) (replay w s h m).carriers v (omega arith) p)
      (replay w s h m).versions all)

  pub entry_kept : (e : Entry) → IsHistory w (e ∷ h) e.minute →
      AllKept P e.minute (replay w s h e.minute) → AllKept P e.minute (record_after w s h e)
  unfolding effect
  entry_kept e is all =
      let st : State = record { windows = w; history = h; now = e.minute } in
      let r : Record = replay w s h e.minute in
      let cs : List ℕ = carrier_added (carrier_named e.request) r.carriers in
      let donor : Option ℕ = donor_of (assigned_block e.request) h in
      let change : Version → Version =
      version_after_request (present_set w h) s e.caller e.minute r.carriers e.request in
      with_new cs (λ id. made_version (present_set w h) id e.caller e.minute r.carriers donor
      e.request) (changed_at (present_set w h) e.minute change r.versions)
      (changed_kept keeps e.minute cs change r.versions
      (each_two (λ v found p. done_kept st keeps is.3 s e.caller e.request is.2 v found p)
      r.versions (all_found r.versions (given_apart (subjects_made w h) s r.versions
      (given_now st is.3 s))) all))
      (id_among s (next_after (subjects_made w h)) (subjects_made_by e.request (record_now st)))
      (λ id made. made_kept st keeps is.3 s e.caller donor (next_after (subjects_made w h)) id
      e.request
      is.2 made)
    where
      with_new : (cs : List ℕ) (made : ℕ → Version) (vs : List Version) →
          AllByRecursion (P e.minute cs) vs →
          (o : Option ℕ) → ((id : ℕ) → o ≡ Some id → P e.minute cs (made id))
          → AllByRecursion (P e.minute cs) (with_made o made vs)
      with_new cs made vs olds None new = olds
      with_new cs made vs olds (Some id) new = (new id refl, olds)

-- ---- every history, by the moves with any set

module _ {P : Property} (keeps : (w : WindowSet) → MovesKeep w P) where
  -- Every version of every record of every history has the property.
  pub versions_kept : (w : Windows) (s : Subject) (h : List Entry) (m : ℕ) → IsHistory w h m →
      AllByRecursion (P m (replay w s h m).carriers) (replay w s h m).versions
  versions_kept w s = kept w s (λ h m r. AllKept P m r) (record {
    first = λ m. tt;
    minute = λ h m is all. minute_kept w s h (keeps (present_set w h)) m all;
    entry = λ h e is all. entry_kept w s h (keeps (present_set w h)) e is all;
  })

  -- Every version of this minute has it.
  pub version_now : (st : State) → HasHistory st →
      (s : Subject) (id : ℕ) (v : Version) → version_with id (record_now st s) ≡ Some v →
      P st.now (record_now st s).carriers v
  version_now st is s id v found =
      found_has (P st.now (record_now st s).carriers) (λ (u : Version). u.id == id)
      (record_now st s).versions v (versions_kept st.windows s st.history st.now is) found
