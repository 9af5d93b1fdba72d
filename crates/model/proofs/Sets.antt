-- The sets of windows of a history: each window is at least a minute, each number is one set's, and
-- every version holds one of the sets.
use Rattle.std.proofs.Common.{◌≡◌, ℕ, ◌+◌, ◌≤◌, Bool, true, false, List, [], ◌∷◌, Option, Some, None, refl, ap, ◌∙◌, arith}
use Rattle.std.specs.Prelude.{◌==◌, if◌then◌else◌}
use Rattle.std.specs.List.{AllByRecursion}
use Rattle.std.proofs.lemmas.Bool.Decides.{nat_tests}
use Rattle.numbers.specs.Subjects.{Subject}
use Rattle.model.specs.Commands.{SetWindows}
use Rattle.model.specs.Windows.{Windows, AreWindows, WindowSet, first_set}
use Rattle.model.specs.Versions.{Version, version_with}
use Rattle.model.specs.History.{Entry, Request, CommandRequest, HasValues, windows_named, set_added, present_set, set_named, set_of_number, replay}
use Rattle.model.specs.State.{State, record_now}
use Rattle.model.specs.Machine.{IsHistory, HasHistory}
use Rattle.model.proofs.Lists.{each, found_has}
use Rattle.model.proofs.Kept.{record_after, kept}
use Rattle.model.proofs.Moves.{MovesKeep}
use Rattle.model.proofs.KeptVersions.{minute_kept, entry_kept}
use Rattle.numbers.proofs.Small.{same_number}

-- ---- windows of at least a minute

added-are : (request : Request) (set : WindowSet) → HasValues request → AreWindows set.windows
    → AreWindows (set_added (windows_named request) set).windows
added-are (CommandRequest (SetWindows windows)) set has are = has
added-are _ set has are = are

pub present-are : (w : Windows) (h : List Entry) (now : ℕ) → AreWindows w → IsHistory w h now
    → AreWindows (present_set w h).windows
present-are w [] now are is = are
present-are w (e ∷ h) now are is =
    added-are e.request (present_set w h) is.1 (present-are w h e.minute are is.3)

-- ---- numbers

-- Holds if the set is the one with its number.
abbrev pub IsSetOf : Windows → List Entry → WindowSet → Type 0
IsSetOf w h set = set_of_number set.number w h ≡ Some set

-- A set's number is not above the present one's.
set-below : (w : Windows) (h : List Entry) (number : ℕ) (set : WindowSet)
    → set_of_number number w h ≡ Some set → number ≤ (present_set w h).number
set-below w [] number set is = by_cases (1 == number) refl is
  where
    by_cases : (b : Bool) → (1 == number) ≡ b → (if b then Some (first_set w) else None) ≡ Some set
        → number ≤ 1
    by_cases true e f = grind (arith, nat_tests)
    by_cases false e f = cc
set-below w (e ∷ h) number set is = by_cases (set-below w h number set) (windows_named e.request) is
  where
    by_cases : (set_of_number number w h ≡ Some set → number ≤ (present_set w h).number)
        → (o : Option Windows) → set_named number o (present_set w h) (set_of_number number w h)
        ≡ Some set →
        number ≤ (set_added o (present_set w h)).number
    by_cases before None f = before f
    by_cases before (Some windows) f = new ((present_set w h).number + 1 == number) refl f
      where
        new : (b : Bool) → ((present_set w h).number + 1 == number) ≡ b
            → (if b then Some (set_added (Some windows) (present_set w h))
            else set_of_number number w h) ≡ Some set → number ≤ (present_set w h).number + 1
        new true g f = grind (arith, nat_tests)
        new false g f = let below : number ≤ (present_set w h).number = before f in omega arith

-- A set stays the one with its number.
pub set-stays : (w : Windows) (e : Entry) (h : List Entry) (set : WindowSet) → IsSetOf w h set
    → IsSetOf w (e ∷ h) set
set-stays w e h set is = by_cases (windows_named e.request)
  where
    apart : set.number ≤ (present_set w h).number → ((present_set w h).number + 1 == set.number)
        ≡ false
    apart below = grind (arith, nat_tests)

    by_cases : (o : Option Windows)
        → set_named set.number o (present_set w h) (set_of_number set.number w h) ≡ Some set
    by_cases None = is
    by_cases (Some windows) = ap (λ b. if b then Some (set_added (Some windows) (present_set w h))
        else set_of_number set.number w h) (apart (set-below w h set.number set is)) ∙ is

-- The present set is the one with its number.
pub present-is : (w : Windows) (h : List Entry) → IsSetOf w h (present_set w h)
present-is w [] = refl
present-is w (e ∷ h) = by_cases (present-is w h) (windows_named e.request)
  where
    by_cases : IsSetOf w h (present_set w h) → (o : Option Windows)
        → set_named (set_added o (present_set w h)).number o (present_set w h)
        (set_of_number (set_added o (present_set w h)).number w h)
        ≡ Some (set_added o (present_set w h))
    by_cases is None = is
    by_cases is (Some windows) =
        ap (λ b. if b then Some (set_added (Some windows) (present_set w h))
        else set_of_number ((present_set w h).number + 1) w h)
        (same_number ((present_set w h).number + 1))

-- ---- the set that a version holds

-- What holds of the present set and of the set that a version holds, every move keeps.
held_kept : (w : WindowSet) (K : WindowSet → Type 0) → K w → MovesKeep w (λ m cs v. K v.held)
held_kept w K now = record {
  later = λ m n cs v up is. is;
  joined = λ c m cs v is. is;
  made_old = λ m cs id old_provider new_provider due some. now;
  made_new = λ routing m cs id old_provider new_provider due some. now;
  made_sent = λ routing protective m cs id old_provider new_provider due some. now;
  old_create = λ m cs v awaits is. is;
  new_create = λ routing m cs v awaits is. is;
  pending = λ m cs v from is. now;
  conflict = λ spent m cs v from is. now;
  cancel_pending = λ by m cs v from is. now;
  canceled = λ m cs v from is. now;
  active = λ m cs v from is. now;
  planned = λ release m cs v may is. now;
  old = λ m cs v force is. now;
  activated = λ m cs v may is. now;
  disconnected = λ m cs v may is. now;
  released = λ m cs v from is. now;
  modified = λ routing m cs v may is. now;
  ended = λ action m cs v from is. now;
  answered = λ c attempt m cs v may is. is;
  closed = λ c attempt action m cs v may is. now;
  whole = λ c attempt m cs v may is. now;
}

-- Every version of every record holds a set of the history.
pub versions_hold : (w : Windows) (s : Subject) (h : List Entry) (m : ℕ) → IsHistory w h m
    → AllByRecursion (λ v. IsSetOf w h v.held) (replay w s h m).versions
versions_hold w s =
    kept w s (λ h m r. AllByRecursion (λ (v : Version). IsSetOf w h v.held) r.versions) (record {
      first = λ m. tt;
      minute = λ h m is all. minute_kept {P = λ n cs v. IsSetOf w h v.held} w s h
          (held_kept (present_set w h) (IsSetOf w h) (present-is w h)) m all;
      entry = λ h e is all. each (λ v one. set-stays w e h v.held one)
          (record_after w s h e).versions
          (entry_kept {P = λ n cs v. IsSetOf w h v.held} w s h
          (held_kept (present_set w h) (IsSetOf w h) (present-is w h)) e is all);
    })

-- The set that a version holds is the one with its number.
pub held-is : (st : State) → HasHistory st
    → (s : Subject) (id : ℕ) (v : Version) → version_with id (record_now st s) ≡ Some v
    → IsSetOf st.windows st.history v.held
held-is st is s id v found =
    found_has (λ (u : Version). IsSetOf st.windows st.history u.held) (λ (u : Version). u.id == id)
    (record_now st s).versions v (versions_hold st.windows s st.history st.now is) found
