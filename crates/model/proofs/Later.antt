-- What a state is at a later minute, with the same rows.
use Rattle.std.proofs.Common.{◌≡◌, ℕ, zero, suc, ◌+◌, ◌-◌, ◌≤◌, List, [], ◌∷◌, Some, refl, ap, sym, ◌∙◌, arith}
use Rattle.std.specs.Prelude.{option_map}
use Rattle.numbers.specs.Subjects.{Subject, Block}
use Rattle.model.specs.Windows.{Windows, WindowSet}
use Rattle.model.specs.Versions.{Version, Record, nothing, last_version, first_of_versions}
use Rattle.model.specs.Changes.{changed_at}
use Rattle.model.specs.Content.{BlockRow, Content, SameRows, RowsCatchUp, stored_block}
use Rattle.model.specs.History.{Entry, replay_of, replay_step, replay, donor_of, present_set}
use Rattle.model.specs.Judge.{judge, judged, judged_for, judged_version}
use Rattle.model.specs.Machine.{IsHistory, accepted, HasHistory}
use Rattle.model.specs.State.{State, record_now, set_now}
use Rattle.model.specs.Refusals.{ClockMoment}
pub use Rattle.model.proofs.Kept.{later-history}
use Rattle.model.proofs.Minutes.{judged-trans, judged-quiet}
use Rattle.model.proofs.Represented.{same_rows_show}
use Rattle.model.proofs.Sound.{judged_version-id}

replay-later : (w : Windows) (h : List Entry) (now m : ℕ) → now ≤ m → IsHistory w h now
    → (s : Subject) → replay w s h m ≡ judged (present_set w h) now m (replay w s h now)
unfolding replay_of replay_step
replay-later w [] now m up is s = sym (judged-quiet (present_set w []) now m nothing up tt)
replay-later w (e ∷ h) now m up is s =
    sym (judged-trans (present_set w (e ∷ h)) e.minute now m _ is.0 up)

pub record-later : (st : State) (m : ℕ) → st.now ≤ m → HasHistory st
    → (s : Subject) →
    record_now (accepted st (ClockMoment m)) s ≡ judged (set_now st) st.now m (record_now st s)
record-later st m up is s = replay-later st.windows st.history st.now m up is s

-- ---- the last version keeps its id

judge-last : (w : WindowSet) (j : ℕ) (x : Record)
    → option_map (λ (v : Version). v.id) (last_version (judge w j x))
    ≡ option_map (λ (v : Version). v.id) (last_version x)
unfolding judge
judge-last w j x = by_cases x.versions
  where
    by_cases : (vs : List Version)
        → option_map (λ (v : Version). v.id)
        (first_of_versions (changed_at w j (judged_version w x.carriers j) vs))
        ≡ option_map (λ (v : Version). v.id) (first_of_versions vs)
    by_cases [] = refl
    by_cases (v ∷ vs) = ap (λ k. Some k) (judged_version-id w x.carriers j v)

judged-last : (w : WindowSet) (from n : ℕ) (r : Record)
    → option_map (λ (v : Version). v.id) (last_version (judged_for w from n r))
    ≡ option_map (λ (v : Version). v.id) (last_version r)
unfolding judged_for
judged-last w from zero r = refl
judged-last w from (suc n) r = judge-last w (suc (from + n)) (judged_for w from n r)
    ∙ judged-last w from n r

pub block-later : (st : State) (m : ℕ) → st.now ≤ m → HasHistory st
    → (b : ℕ) → stored_block (accepted st (ClockMoment m)) b ≡ stored_block st b
block-later st m up is b =
    ap (λ last. option_map (λ donor. let row : BlockRow = record { donor = donor; last = last } in
    row) (donor_of b st.history))
    (ap (λ r. option_map (λ (v : Version). v.id) (last_version r))
    (record-later st m up is (Block b)) ∙ judged-last (set_now st) st.now (m - st.now)
    (record_now st (Block b)))

-- ---- rows that stay lag by the minutes that pass

pub lags-later : (st : State) (m : ℕ) (old new : Content) (s : Subject) → st.now ≤ m
    → HasHistory st → SameRows s old new →
    RowsCatchUp st.windows (set_now st) old st.now s (record_now st s)
    → RowsCatchUp st.windows (set_now st) new m s (record_now (accepted st (ClockMoment m)) s)
lags-later st m old new s up is same lags = record {
  kept = lags.kept;
  rows_match = same_rows_show s old new lags.kept same lags.rows_match;
  reached = lags.reached;
  catches_up =
      sym (judged-trans (set_now st) 0 st.now m (judge (set_now st) 0 lags.kept) (omega arith) up)
      ∙ ap (judged (set_now st) st.now m) lags.catches_up ∙ sym (record-later st m up is s);
}
