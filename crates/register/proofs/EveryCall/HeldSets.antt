-- The sets of windows in a settled state: the set read for a version is the set that it holds.
use Rattle.std.proofs.Common.{◌≡◌, ℕ, Bool, true, false, List, [], ◌∷◌, Option, Some, None, refl, ap, sym, ◌∙◌, subst, arith}
use Rattle.std.specs.Prelude.{◌+◌, ◌==◌, option_map, if◌then◌else◌}
use Rattle.std.specs.FinMap.{get}
use Rattle.std.proofs.lemmas.Bool.Decides.{nat_tests}
use Rattle.numbers.specs.Subjects.{Subject}
use Rattle.model.specs.Content.{Content, ClockRow, ClockRowMatches, Represents, VersionRow, row_of, stored_set}
use Rattle.model.specs.History.{Entry, present_set, set_added, set_named, set_of_number, windows_named}
use Rattle.model.specs.Machine.{IsHistory}
use Rattle.model.specs.State.{State, record_now, set_now}
use Rattle.model.specs.Versions.{Version, version_with}
use Rattle.model.specs.Windows.{Windows, WindowSet, AreWindows, first_set}
use Rattle.numbers.proofs.Small.{equal_number}
use Rattle.model.proofs.Sets.{IsSetOf, held-is, present-are, present-is}
use Rattle.model.proofs.Shown.{some_is}
use Rattle.register.specs.Refinement.{Refines}
use Rattle.register.specs.Looking.{AreHeld, HasHeldSet, HasSet}
use Rattle.register.proofs.EveryCall.Settled.{IdSettled, row_now}

-- ---- windows of at least a minute

-- The present windows are of at least a minute.
pub windows-now : (c : Content) (st : State) → Represents c st → AreWindows (set_now st).windows
windows-now c st represents = present-are st.windows st.history st.now represents.windows
    represents.history

-- The windows of each set of the history are of at least a minute.
set-are : (w : Windows) (h : List Entry) (now number : ℕ) (set : WindowSet) → AreWindows w →
    IsHistory w h now →
    set_of_number number w h ≡ Some set → AreWindows set.windows
set-are w [] now number set are is found = by_cases (1 == number) found
  where
    by_cases : (b : Bool) → (if b then Some (first_set w) else None) ≡ Some set
        → AreWindows set.windows
    by_cases true e = subst (λ (x : WindowSet). AreWindows x.windows) (some_is (first_set w) set e)
        are
    by_cases false e = let never : None ≡ Some set = e in cc
set-are w (e ∷ h) now number set are is found =
    by_cases (set-are w h e.minute number set are is.3) (windows_named e.request) refl found
  where
    by_cases : (set_of_number number w h ≡ Some set → AreWindows set.windows) → (o : Option Windows)
        →
        windows_named e.request ≡ o →
        set_named number o (present_set w h) (set_of_number number w h) ≡ Some set →
        AreWindows set.windows
    by_cases before None named f = before f
    by_cases before (Some windows) named f = new ((present_set w h).number + 1 == number) f
      where
        windows_are : AreWindows windows
        windows_are = subst (λ p. AreWindows (set_added p (present_set w h)).windows) named
            (present-are w (e ∷ h) now are is)

        new : (b : Bool) → (if b then Some (set_added (Some windows) (present_set w h)) else
            set_of_number number w h) ≡ Some set →
            AreWindows set.windows
        new true g = subst (λ (x : WindowSet). AreWindows x.windows)
            (some_is (set_added (Some windows) (present_set w h)) set g) windows_are
        new false g = before g

-- ---- a set of the history

module _ (st : State) (c : Content) (clock : ClockRow) (represents : Represents c st)
    (clock_is : c.clock ≡ Some clock)
    (set : WindowSet) (its : IsSetOf st.windows st.history set) where
  present_now : clock.present ≡ set_now st
  present_now = ap (λ (k : ClockRow). k.present)
      (subst (λ o. ClockRowMatches o st) clock_is represents.clock)

  stored : get c.sets set.number ≡ Some set.windows
  stored = represents.sets set.number ∙ ap (λ o. stored_set o st set.number) clock_is
      ∙ ap (option_map (λ (x : WindowSet). x.windows)) its

  -- The store has the set.
  pub has_set : HasSet c clock set.number
  has_set = λ other none. let no : None ≡ Some set.windows = sym none ∙ stored in cc

  -- A set with the present set's number is the present set.
  pub same_set : set.number ≡ clock.present.number → set ≡ clock.present
  same_set is = some_is set clock.present (sym its
      ∙ ap (λ k. set_of_number k st.windows st.history)
      (is ∙ ap (λ (x : WindowSet). x.number) present_now)
      ∙ present-is st.windows st.history ∙ ap (λ x. Some x) (sym present_now))

  -- The windows of the set are those of its number.
  pub are_held : AreHeld c clock set.number set.windows
  are_held = record {
    present = λ is. ap (λ (x : WindowSet). x.windows) (same_set is);
    earlier = λ other. stored;
  }

  -- The windows read by the set's number are its windows.
  pub held_read : (w : Windows) → AreHeld c clock set.number w → w ≡ set.windows
  held_read w are = by_cases (set.number == clock.present.number) refl
    where
      apart : set.number ≡ clock.present.number → (set.number == clock.present.number) ≡ false → ⊥
      apart same e = grind (arith, nat_tests)

      by_cases : (b : Bool) → (set.number == clock.present.number) ≡ b → w ≡ set.windows
      by_cases true e =
          let same : set.number ≡ clock.present.number =
          equal_number set.number clock.present.number e in
          are.present same ∙ sym (ap (λ (x : WindowSet). x.windows) (same_set same))
      by_cases false e = some_is w set.windows (sym (are.earlier (λ same. apart same e)) ∙ stored)

-- ---- the set that a version holds

-- The windows of the set that a version holds are of at least a minute.
pub held-are : (st : State) (c : Content) → Represents c st → (s : Subject) (id : ℕ) (v : Version) →
    version_with id (record_now st s) ≡ Some v →
    AreWindows v.held.windows
held-are st c represents s id v found =
    set-are st.windows st.history st.now v.held.number v.held represents.windows represents.history
    (held-is st represents.history s id v found)

-- The windows read with the row of a settled version.
pub row_held : (st : State) (c : Content) (clock : ClockRow) → Represents c st → c.clock
    ≡ Some clock →
    (s : Subject) (id : ℕ) (v : Version) → version_with id (record_now st s) ≡ Some v →
    (row : VersionRow) → row ≡ row_of s v → (w : Windows) → AreHeld c clock row.held w → w
    ≡ v.held.windows
row_held st c clock represents clock_is s id v found row is w are =
    held_read st c clock represents clock_is v.held (held-is st represents.history s id v found) w
    (subst (λ (r : VersionRow). AreHeld c clock r.held w) is are)

-- The set that a version of a settled subject holds is in the store.
pub has_held_set : (st : State) (c : Content) (id : ℕ) → Refines c st → IdSettled c st id →
    HasHeldSet c id
has_held_set st c id refines settled = record {
  written = refines.written;
  has_set = λ clock row is there.
      let found : (v : Version) × (version_with id (record_now st row.subject) ≡ Some v) ×
      (row ≡ row_of row.subject v) = row_now st c id row refines.represents settled there in
      subst (λ (r : VersionRow). HasSet c clock r.held) (sym found.2)
      (has_set st c clock refines.represents is found.0.held
      (held-is st refines.represents.history row.subject id found.0 found.1));
}
