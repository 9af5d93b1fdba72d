-- In every record the broadcasts of a version have attempts up to the version's.
use Rattle.std.proofs.Common.{◌≡◌, ℕ, ◌+◌, ◌≤◌, Bool, true, false, cond, List, [], ◌∷◌, map, Some, None, refl, ap, sym, ◌∙◌, subst, arith}
use Rattle.std.specs.Prelude.{⊤, ◌==◌, find, if◌then◌else◌}
use Rattle.std.proofs.lemmas.Bool.Decides.{nat_tests}
use Rattle.model.specs.declared.words.Outcome.{Outcome}
use Rattle.model.specs.Versions.{Broadcast, Version, with_number, is_open_broadcast}
use Rattle.model.specs.Changes.{on_newest, acknowledged_broadcast, joined_broadcast}
use Rattle.model.proofs.Moves.{MovesKeep}
use Rattle.model.proofs.Sends.{sends_kept}
use Rattle.model.specs.Windows.{WindowSet}

abbrev pub AreUpTo : ℕ → List Broadcast → Type 0
AreUpTo n [] = ⊤
AreUpTo n (b ∷ bs) = (b.attempt ≤ n) × AreUpTo n bs

abbrev pub IsCounted : Version → Type 0
IsCounted v = AreUpTo v.attempt v.broadcasts

-- ---- broadcasts

pub up_to_more : (n : ℕ) (bs : List Broadcast) → AreUpTo n bs → AreUpTo (n + 1) bs
up_to_more n [] up = tt
up_to_more n (b ∷ bs) up = (let h : b.attempt ≤ n = up.0 in omega arith, up_to_more n bs up.1)

pub up_to_each : (n : ℕ) (f : Broadcast → Broadcast) → ((b : Broadcast) → (f b).attempt ≡ b.attempt)
    → (bs : List Broadcast) → AreUpTo n bs → AreUpTo n (map f bs)
up_to_each n f same [] up = tt
up_to_each n f same (b ∷ bs) up =
    (subst (λ k. k ≤ n) (sym (same b)) up.0, up_to_each n f same bs up.1)

pub up_to_newest : (n : ℕ) (outcome : Outcome) (bs : List Broadcast) → AreUpTo n bs
    → AreUpTo n (on_newest (λ b. record b { outcome = outcome }) bs)
up_to_newest n outcome [] up = tt
up_to_newest n outcome (b ∷ bs) up = up

pub none_past : (n : ℕ) (bs : List Broadcast) → AreUpTo n bs
    → find (λ b. b.attempt == n + 1) bs ≡ None
none_past n [] up = refl
none_past n (b ∷ bs) up =
    let h : b.attempt ≤ n = up.0 in
    let apart : (b.attempt == n + 1) ≡ false = grind (arith, nat_tests) in
    ap (λ c. cond c (Some b) (find (λ x. x.attempt == n + 1) bs)) apart ∙ none_past n bs up.1

-- ---- what becomes of a version

-- An acknowledgement, and a carrier that registers, leave a broadcast's attempt.
pub answered_same : (c attempt : ℕ) (b : Broadcast) → (acknowledged_broadcast c attempt b).attempt
    ≡ b.attempt
answered_same c attempt b = by_cases (b.attempt == attempt)
  where
    by_cases : (t : Bool) → (if t then record b { acknowledged = with_number c b.acknowledged }
        else b).attempt ≡ b.attempt
    by_cases true = refl
    by_cases false = refl

pub joined_same : (c : ℕ) (b : Broadcast) → (joined_broadcast c b).attempt ≡ b.attempt
joined_same c b = by_cases (is_open_broadcast b)
  where
    by_cases : (t : Bool) → (if t then record b { recipients = with_number c b.recipients }
        else b).attempt ≡ b.attempt
    by_cases true = refl
    by_cases false = refl

-- Every move keeps it.
pub counted_kept : (w : WindowSet) → MovesKeep w (λ m cs v. IsCounted v)
counted_kept w = sends_kept (record {
  later = λ m n cs attempt bs up is. is;
  joined = λ c m cs attempt. up_to_each attempt (joined_broadcast c) (joined_same c);
  none = λ m cs. tt;
  sends = λ action m cs v is. (omega arith, up_to_more v.attempt v.broadcasts is);
  closes = λ outcome closed m cs attempt. up_to_newest attempt outcome;
  answers = λ c attempt m cs last bs among.
      up_to_each last (acknowledged_broadcast c attempt) (answered_same c attempt) bs;
})
