-- One induction over histories and the minutes after them: what the first record has, and each
-- minute and each accepted entry keeps, every record has.
use Rattle.std.proofs.Common.{◌≡◌, ℕ, zero, suc, ◌+◌, ◌-◌, ◌≤◌, List, [], ◌∷◌, ap, sym, ◌∙◌, subst, arith}
use Rattle.numbers.specs.Subjects.{Subject}
use Rattle.model.specs.Windows.{Windows}
use Rattle.model.specs.Versions.{Record, nothing}
use Rattle.model.specs.Judge.{judge, judged_for}
use Rattle.model.specs.History.{Entry, effect, replay_step, replay_of, replay, subjects_made_by, subjects_made, next_after, id_among, donor_of, assigned_block, present_set}
use Rattle.model.specs.Machine.{IsHistory}

-- A history is one at every later minute.
pub later-history : (w : Windows) (h : List Entry) (now m : ℕ) → now ≤ m → IsHistory w h now →
    IsHistory w h m
later-history w [] now m up is = tt
later-history w (e ∷ h) now m up is = (
  let before : e.minute ≤ now = is.0 in
      omega arith,
  is.1,
  is.2,
  is.3,
)

-- The record of s right after one more entry, at the minute of that entry.
abbrev pub record_after : Windows → Subject → List Entry → Entry → Record
record_after w s h e =
    effect (present_set w h) s (id_among s (next_after (subjects_made w h))
    (subjects_made_by e.request (λ t. replay w t h e.minute))) (donor_of (assigned_block e.request)
    h) e
    (replay w s h e.minute)

-- Holds if the steps keep P, which is of a history, a minute that is not before its newest entry,
-- and the record of s then. Each step may use whatever is known of the history so far.
pub record IsKept (w : Windows) (s : Subject) (P : List Entry → ℕ → Record → Type 0) : Type 0 where
  pub first : (m : ℕ) → P [] m nothing
  pub minute : (h : List Entry) (m : ℕ) → IsHistory w h m → P h m (replay w s h m) →
      P h (suc m) (judge (present_set w h) (suc m) (replay w s h m))
  pub entry : (h : List Entry) (e : Entry) → IsHistory w (e ∷ h) e.minute →
      P h e.minute (replay w s h e.minute) → P (e ∷ h) e.minute (record_after w s h e)

module _ (w : Windows) (s : Subject) (P : List Entry → ℕ → Record
    → Type 0) (keeps : IsKept w s P) where
  moved : (h : List Entry) (a b : ℕ) (x y : Record) → a ≡ b → x ≡ y → P h a x → P h b y
  moved h a b x y e f is = subst (λ k. P h k y) e (subst (λ r. P h a r) f is)

  -- The record n minutes after the entry.
  minutes_after : (h : List Entry) (e : Entry) (n : ℕ) →
      replay w s (e ∷ h) (e.minute + n) ≡ judged_for (present_set w (e ∷ h)) e.minute n
      (record_after w s h e)
  unfolding replay_of replay_step
  minutes_after h e n =
      ap (λ k. judged_for (present_set w (e ∷ h)) e.minute k (record_after w s h e))
      (let same : (e.minute + n) - e.minute ≡ n = omega arith in same)

  kept_after : (h : List Entry) (e : Entry) → IsHistory w (e ∷ h) e.minute →
      P (e ∷ h) e.minute (record_after w s h e) → (n : ℕ) →
      P (e ∷ h) (e.minute + n) (replay w s (e ∷ h) (e.minute + n))
  unfolding judged_for
  kept_after h e is now zero =
      moved (e ∷ h) e.minute (e.minute + zero) (record_after w s h e)
      (replay w s (e ∷ h) (e.minute + zero)) (omega arith) (sym (minutes_after h e zero)) now
  kept_after h e is now (suc n) =
      moved (e ∷ h) (suc (e.minute + n)) (e.minute + suc n)
      (judge (present_set w (e ∷ h)) (suc (e.minute + n)) (replay w s (e ∷ h) (e.minute + n)))
      (replay w s (e ∷ h) (e.minute + suc n)) (omega arith)
      (ap (judge (present_set w (e ∷ h)) (suc (e.minute + n))) (minutes_after h e n)
      ∙ sym (minutes_after h e (suc n)))
      (keeps.minute (e ∷ h) (e.minute + n) (later-history w (e ∷ h) e.minute (e.minute + n)
      (omega arith) is) (kept_after h e is now n))

  -- Every record of every history has P.
  pub kept : (h : List Entry) (m : ℕ) → IsHistory w h m → P h m (replay w s h m)
  unfolding replay_of
  kept [] m is = keeps.first m
  kept (e ∷ h) m is =
      let here : IsHistory w (e ∷ h) e.minute = (
        let same : e.minute ≤ e.minute = omega arith in same,
        is.1,
        is.2,
        is.3,
      ) in
      let before : e.minute ≤ m = is.0 in
      let sum : e.minute + (m - e.minute) ≡ m = omega arith in
      subst (λ k. P (e ∷ h) k (replay w s (e ∷ h) k)) sum
      (kept_after h e here (keeps.entry h e here (kept h e.minute is.3)) (m - e.minute))
