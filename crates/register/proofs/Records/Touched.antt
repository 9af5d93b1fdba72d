-- A request that touches some subjects: the state after it is represented if their rows match and
-- all others stay.
use Rattle.std.proofs.Common.{◌≡◌, ℕ, Bool, true, false, None, refl, sym, subst, arith, Option, Some, ap, ◌∙◌}
use Rattle.std.specs.Prelude.{is_some, option_map}
use Rattle.std.specs.FinMap.{get}
use Rattle.numbers.specs.Subjects.{Subject}
use Rattle.model.specs.Content.{Content, RowsCatchUp, ClockRowMatches, SameRows, stored_block, ClockRow, stored_set}
use Rattle.model.specs.History.{Request, HasValues, carriers, lrn_owner, code_holder, next_id, windows_named, set_added}
use Rattle.model.specs.Machine.{IsHistory, accepted}
use Rattle.model.specs.State.{State, record_now, set_now, next_of}
use Rattle.model.specs.Refusals.{RequestFrom, refusal}
use Rattle.model.specs.Versions.{is_among}
use Rattle.model.proofs.Represented.{same_rows_lag}
use Rattle.settle.specs.Changes.{ClockMove, clock_after}
use Rattle.settle.specs.Settling.{IsSettled}
use Rattle.register.specs.Refinement.{Refines}
use Rattle.register.proofs.EveryCall.Settled.{due_lags}
use Rattle.model.proofs.SettingWindows.{sets-same}
use Rattle.model.specs.Windows.{WindowSet}

-- Holds if the rows of the registry and of the clock are those of the state.
pub record RegistryShows (c : Content) (st : State) : Type 0 where
  pub clock : ClockRowMatches c.clock st
  pub written : is_some c.clock ≡ true
  pub carriers : (k : ℕ) → is_some (get c.carriers k) ≡ is_among k (carriers st.history)
  pub lrns : (k : ℕ) → get c.lrns k ≡ lrn_owner k st.history
  pub codes : (k : ℕ) → get c.codes k ≡ code_holder k st.history
  pub blocks : (k : ℕ) → get c.blocks k ≡ stored_block st k

-- If a request sets no windows, the present set stays.
pub present-stays : (st : State) (caller : ℕ) (request : Request) → windows_named request ≡ None
    → set_now (accepted st (RequestFrom caller request)) ≡ set_now st
present-stays st caller request unset = ap (λ o. set_added o (set_now st)) unset

-- If only the next id of the clock's row moves, to that after the request, the row is that of the
-- state after it.
pub clock-moves : (st : State) (caller : ℕ) (request : Request) → windows_named request ≡ None →
    (old new : Content) → Refines old st → (m : ClockMove) → new.clock
    ≡ clock_after (Some m) None old.clock →
    m ≡ record {
      minute = st.now;
      next_id = next_id st.windows
          (accepted st (RequestFrom caller request)).history;
    } →
    ClockRowMatches new.clock (accepted st (RequestFrom caller request))
clock-moves st caller request unset old new refines m moved is =
    by_cases old.clock refines.represents.clock refines.written moved
  where
    after_it : State
    after_it = accepted st (RequestFrom caller request)

    row : ClockMove → WindowSet → ClockRow
    row k p = record { minute = k.minute; next_id = k.next_id; present = p }

    last : ClockMove
    last = record {
      minute = st.now;
      next_id =
          next_id st.windows (accepted st (RequestFrom caller request)).history;
    }

    by_cases : (o : Option ClockRow) → ClockRowMatches o st → is_some o ≡ true → new.clock
        ≡ clock_after (Some m) None o →
        ClockRowMatches new.clock (accepted st (RequestFrom caller request))
    by_cases None shows written e = let never : true ≡ false = sym written in cc
    by_cases (Some r) shows written e = subst (λ o. ClockRowMatches o after_it) (sym e)
        (ap (λ k. row k r.present) is
        ∙ ap (row last) (ap (λ (k : ClockRow). k.present) shows
        ∙ sym (present-stays st caller request unset)))

-- If the clock's row stays and no id is given, the row is that of the state after it.
pub clock-stays : (st : State) (caller : ℕ) (request : Request) → windows_named request ≡ None →
    next_id st.windows (accepted st (RequestFrom caller request)).history
    ≡ next_of st →
    (old new : Content) → Refines old st → new.clock ≡ old.clock →
    ClockRowMatches new.clock (accepted st (RequestFrom caller request))
clock-stays st caller request unset ids old new refines same =
    by_cases old.clock refines.represents.clock refines.written same
  where
    after_it : State
    after_it = accepted st (RequestFrom caller request)

    row : ℕ → WindowSet → ClockRow
    row k p = record { minute = st.now; next_id = k; present = p }

    by_cases : (o : Option ClockRow) → ClockRowMatches o st → is_some o ≡ true → new.clock ≡ o →
        ClockRowMatches new.clock (accepted st (RequestFrom caller request))
    by_cases None shows written e = let never : true ≡ false = sym written in cc
    by_cases (Some r) shows written e = subst (λ o. ClockRowMatches o after_it) (sym e)
        (shows ∙ ap (λ k. row k (set_now st)) (sym ids)
        ∙ ap (row (next_id st.windows (accepted st (RequestFrom caller request)).history))
        (sym (present-stays st caller request unset)))

-- A clock's row that was written stays written.
pub clock-written : (m : Option ClockMove) (set : Option WindowSet) (o : Option ClockRow) →
    is_some o ≡ true →
    is_some (clock_after m set o) ≡ true
clock-written None None o is = is
clock-written (Some m) None (Some row) is = refl
clock-written (Some m) None None is = is
clock-written None (Some set) (Some row) is = refl
clock-written None (Some set) None is = is
clock-written (Some m) (Some set) o is = refl

-- The sets with each number stay.
sets-stay : (st : State) (caller : ℕ) (request : Request) → windows_named request ≡ None
    → (o n : Option ClockRow) → is_some o ≡ true → is_some n ≡ true → (k : ℕ) →
    stored_set o st k ≡ stored_set n (accepted st (RequestFrom caller request)) k
sets-stay st caller request unset (Some a) (Some b) was is k =
    sym (ap (option_map (λ (x : WindowSet). x.windows)) (sets-same st.windows (record {
      minute = st.now;
      caller = caller;
      request = request;
    }) st.history k unset))
sets-stay st caller request unset None n was is k = cc
sets-stay st caller request unset (Some a) None was is k = cc

module _ (st : State) (old new : Content) (caller : ℕ) (request : Request) (touched : Subject
    → Bool)
    (refines : Refines old st) (none : refusal st (RequestFrom caller request) ≡ None)
    (lines : HasValues request)
    (unset : windows_named request ≡ None) (same_sets : (k : ℕ) → get new.sets k ≡ get old.sets k)
    (registry : RegistryShows new (accepted st (RequestFrom caller request)))
    (elsewhere : (t : Subject) → touched t ≡ false
    → (record_now (accepted st (RequestFrom caller request)) t ≡ record_now st t)
    × SameRows t old new)
    (here : (t : Subject) → touched t ≡ true
    → IsSettled new (accepted st (RequestFrom caller request))
    t) where
  abbrev after_it : State
  after_it = accepted st (RequestFrom caller request)

  pub history_after : IsHistory st.windows after_it.history st.now
  history_after = (omega arith, lines, none, refines.represents.history)

  lags_at : (t : Subject) (b : Bool) → touched t ≡ b
      → RowsCatchUp st.windows (set_now after_it) new st.now t (record_now after_it t)
  lags_at t false e =
      subst (λ (p : WindowSet). RowsCatchUp st.windows p new st.now t (record_now after_it t))
      (sym (present-stays st caller request unset))
      (subst (RowsCatchUp st.windows (set_now st) new st.now t) (sym (elsewhere t e).0)
      (same_rows_lag st.windows (set_now st) st.now t old new (record_now st t) (elsewhere t e).1
      (refines.represents.subjects t)))
  lags_at t true e = due_lags new after_it history_after t (here t e).rows_match (here t e).quiet

  pub touched-stands : Refines new after_it
  touched-stands = record {
    represents = record {
      windows = refines.represents.windows;
      before_limit = refines.represents.before_limit;
      history = history_after;
      clock = registry.clock;
      sets = λ k. same_sets k ∙ refines.represents.sets k ∙ sets-stay st caller request unset
          old.clock new.clock refines.written registry.written k;
      carriers = registry.carriers;
      lrns = registry.lrns;
      codes = registry.codes;
      blocks = registry.blocks;
      subjects = λ t. lags_at t (touched t) refl;
    };
    written = registry.written;
  }
