-- Setting windows changes no record, and no rows if everything that was due is settled.
use Rattle.std.proofs.Common.{◌≡◌, ◌≤◌, ℕ, List, ◌∷◌, None, refl, sym, subst, arith}
use Rattle.numbers.specs.Subjects.{Subject}
use Rattle.model.specs.Commands.{SetWindows}
use Rattle.model.specs.Windows.{Windows, AreWindows}
use Rattle.model.specs.Versions.{Record}
use Rattle.model.specs.Laws.{IsQuiet}
use Rattle.model.specs.History.{Entry, CommandRequest, windows_named, set_of_number, next_id}
use Rattle.model.specs.State.{State, set_now, record_now, next_of}
use Rattle.model.specs.Refusals.{RequestFrom, refusal}
use Rattle.model.specs.Machine.{IsHistory, accepted, HasHistory}
use Rattle.model.specs.Content.{Content, RowsMatch, RowsCatchUp}
use Rattle.model.proofs.Entered.{entered-elsewhere, next_id-same}
use Rattle.model.proofs.Represented.{reached_now}
use Rattle.model.proofs.Settling.{caught_up-quiet}

-- The state after windows are set.
abbrev pub after_windows : State → ℕ → Windows → State
after_windows st caller windows =
    accepted st (RequestFrom caller (CommandRequest (SetWindows windows)))

pub windows-record : (st : State) (caller : ℕ) (windows : Windows) (s : Subject)
    → record_now (after_windows st caller windows) s ≡ record_now st s
windows-record st caller windows s =
    entered-elsewhere st caller (CommandRequest (SetWindows windows)) s refl refl

pub windows-next_id : (st : State) (caller : ℕ) (windows : Windows)
    → next_id st.windows (after_windows st caller windows).history ≡ next_of st
windows-next_id st caller windows =
    next_id-same st caller (CommandRequest (SetWindows windows)) refl

-- Every other entry leaves the sets.
pub sets-same : (w : Windows) (e : Entry) (h : List Entry) (number : ℕ)
    → windows_named e.request ≡ None → set_of_number number w (e ∷ h) ≡ set_of_number number w h
sets-same w e h number none = rw none refl

pub windows-history : (st : State) (caller : ℕ) (windows : Windows) → AreWindows windows
    → HasHistory st →
    refusal st (RequestFrom caller (CommandRequest (SetWindows windows))) ≡ None
    → IsHistory st.windows (after_windows st caller windows).history st.now
windows-history st caller windows are is ok = (
  let same : st.now ≤ st.now = omega arith in
      same,
  are,
  ok,
  is,
)

-- Rows that match a subject's quiet record catch up with it under the new set too.
pub windows-lag : (st : State) (caller : ℕ) (windows : Windows) → AreWindows windows
    → HasHistory st →
    refusal st (RequestFrom caller (CommandRequest (SetWindows windows))) ≡ None
    → (c : Content) (s : Subject) → RowsMatch c s (record_now st s)
    → IsQuiet st.now (record_now st s).versions →
    RowsCatchUp st.windows (set_now (after_windows st caller windows)) c st.now s
    (record_now (after_windows st caller windows) s)
windows-lag st caller windows are is ok c s shows quiet =
    let new : State = after_windows st caller windows in
    let same : record_now st s ≡ record_now (after_windows st caller windows) s =
    sym (windows-record st caller windows s) in
    record {
      kept = record_now new s;
      rows_match = subst (RowsMatch c s) same shows;
      reached = reached_now (after_windows st caller windows) (windows-history st caller windows are
          is ok) s;
      catches_up =
          caught_up-quiet (set_now new) st.now (record_now new s)
          (subst (λ (r : Record). IsQuiet st.now r.versions) same quiet);
    }
