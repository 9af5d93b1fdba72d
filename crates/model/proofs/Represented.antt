-- How a content keeps its meaning.
use Rattle.std.proofs.Common.{ℕ, [], ◌∷◌, ◌≤◌, ◌<◌, refl, ap, sym, ◌∙◌, subst, arith}
use Rattle.std.specs.Prelude.{is_some}
use Rattle.std.specs.FinMap.{get-empty}
use Rattle.std.specs.Ordering.{nat_cmp}
use Rattle.numbers.specs.Subjects.{Subject}
use Rattle.model.specs.Windows.{Windows, AreWindows, WindowSet}
use Rattle.model.specs.Versions.{Record, nothing}
use Rattle.model.specs.Judge.{judge, judged_for}
use Rattle.model.specs.History.{replay_of}
use Rattle.model.specs.State.{State, first_state, record_now, set_now}
use Rattle.model.specs.Machine.{HasHistory}
use Rattle.model.specs.Content.{IsReachableRecord, Content, RowsMatch, RowsCatchUp, SameRows, Represents, VersionRow, BroadcastRow, of_subject, empty_content, broadcast_cmp, wait_cmp, broadcast_key, wait_key}
use Rattle.model.specs.Laws.{IsQuiet}
use Rattle.model.proofs.Settling.{fired_at_deadline, caught_up-quiet}

-- ---- the first state

-- The empty content represents the first state.
pub empty-represents : (w : Windows) → AreWindows w → Represents empty_content (first_state w)
unfolding replay_of judged_for judge
empty-represents w windows = record {
  windows = windows;
  before_limit = omega arith;
  history = tt;
  clock = (refl, refl);
  sets = λ k. get-empty nat_cmp k;
  carriers = λ k. ap is_some (get-empty nat_cmp k);
  lrns = λ k. get-empty nat_cmp k;
  codes = λ k. get-empty nat_cmp k;
  blocks = λ k. get-empty nat_cmp k;
  subjects = λ s. record {
    kept = nothing;
    rows_match = record {
      versions = λ id. ap (of_subject s (λ (v : VersionRow). v.subject)) (get-empty nat_cmp id);
      broadcasts =
          λ id attempt. ap (of_subject s (λ (b : BroadcastRow). b.subject))
          (get-empty broadcast_cmp (broadcast_key id attempt));
      waits = λ carrier minute id attempt. ap (of_subject s (λ t. t))
          (get-empty wait_cmp (wait_key carrier minute id attempt));
    };
    reached = record { entries = []; until = 0; are_entries = tt; minutes = []; is = refl };
    catches_up = refl;
  };
}

-- The record as it is now is reachable.
pub reached_now : (st : State) → HasHistory st → (s : Subject)
    → IsReachableRecord st.windows (set_now st) s (record_now st s)
reached_now st is s = record {
  entries = st.history;
  until = st.now;
  are_entries = is;
  minutes = [];
  is = refl;
}

-- ---- a change of one subject's rows

pub same_rows_show : (s : Subject) (old new : Content) (r : Record) → SameRows s old new
    → RowsMatch old s r → RowsMatch new s r
same_rows_show s old new r same shows = record {
  versions = λ id. same.versions id ∙ shows.versions id;
  broadcasts = λ id attempt. same.broadcasts id attempt ∙ shows.broadcasts id attempt;
  waits = λ carrier minute id attempt. same.waits carrier minute id attempt
      ∙ shows.waits carrier minute id attempt;
}

-- A subject whose rows are not changed lags as before.
pub same_rows_lag : (w : Windows) (present : WindowSet) (now : ℕ) (s : Subject) (old new : Content)
    (r : Record) → SameRows s old new → RowsCatchUp w present old now s r
    → RowsCatchUp w present new now s r
same_rows_lag w present now s old new r same lags = record {
  kept = lags.kept;
  rows_match = same_rows_show s old new lags.kept same lags.rows_match;
  reached = lags.reached;
  catches_up = lags.catches_up;
}

-- Rows that are judged only at their deadline keep their meaning.
pub fired_lag : (w : Windows) (present : WindowSet) (now : ℕ) (s : Subject) (old new : Content)
    (r : Record) (d : ℕ) → AreWindows present.windows → d ≤ now
    → (lags : RowsCatchUp w present old now s r) →
    ((j : ℕ) → j < d → IsQuiet j lags.kept.versions) → RowsMatch new s (judge present d lags.kept)
    → RowsCatchUp w present new now s r
fired_lag w present now s old new r d windows before lags quiet shows = record {
  kept = judge present d lags.kept;
  rows_match = shows;
  reached = record {
    entries = lags.reached.entries;
    until = lags.reached.until;
    are_entries = lags.reached.are_entries;
    minutes = d ∷ lags.reached.minutes;
    is = ap (judge present d) lags.reached.is;
  };
  catches_up = fired_at_deadline present windows d now lags.kept before quiet ∙ lags.catches_up;
}

-- Rows whose timers have not expired match the record as it is now.
pub settled_shows : (w : Windows) (present : WindowSet) (c : Content) (now : ℕ) (s : Subject)
    (r : Record) → (lags : RowsCatchUp w present c now s r) → IsQuiet now lags.kept.versions
    → RowsMatch c s r
settled_shows w present c now s r lags quiet =
    subst (RowsMatch c s) (sym (caught_up-quiet present now lags.kept quiet) ∙ lags.catches_up)
    lags.rows_match
