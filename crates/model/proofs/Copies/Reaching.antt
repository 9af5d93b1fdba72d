-- In every record an open broadcast is to every registered carrier.
use Rattle.std.proofs.Common.{◌≡◌, ℕ, Bool, true, false, ◌||◌, List, [], ◌∷◌, map, refl, ap, sym, ◌∙◌}
use Rattle.std.specs.Prelude.{◌==◌, if◌then◌else◌}
use Rattle.std.specs.List.{AllByRecursion}
use Rattle.model.specs.declared.words.Outcome.{Outcome}
use Rattle.model.specs.declared.words.Outcome.TheVariants.{Open}
use Rattle.model.specs.Versions.{Broadcast, is_among, with_number, is_open_broadcast, is_open_outcome}
use Rattle.model.specs.Changes.{on_newest, acknowledged_broadcast, joined_broadcast}
use Rattle.model.proofs.Rising.{among-with_number}
use Rattle.model.proofs.Moves.{MovesKeep}
use Rattle.model.proofs.Sends.{sends_kept}
use Rattle.model.specs.Windows.{WindowSet}

abbrev pub Reaches : List ℕ → Broadcast → Type 0
Reaches cs b = b.outcome ≡ Open → (k : ℕ) → is_among k cs ≡ true → is_among k b.recipients ≡ true

abbrev pub AllReach : List ℕ → List Broadcast → Type 0
AllReach cs bs = AllByRecursion (Reaches cs) bs

-- A broadcast that closes is not open.
closed_reach : (cs : List ℕ) (outcome : Outcome) (bs : List Broadcast) → (outcome ≡ Open → ⊥)
    → AllReach cs bs → AllReach cs (on_newest (λ b. record b { outcome = outcome }) bs)
closed_reach cs outcome [] closed all = tt
closed_reach cs outcome (b ∷ bs) closed all = (λ opened. absurd (closed opened), all.1)

answered_reach : (cs : List ℕ) (c attempt : ℕ) (bs : List Broadcast) → AllReach cs bs
    → AllReach cs (map (acknowledged_broadcast c attempt) bs)
answered_reach cs c attempt [] all = tt
answered_reach cs c attempt (b ∷ bs) all =
    (by_cases (b.attempt == attempt), answered_reach cs c attempt bs all.1)
  where
    by_cases : (t : Bool) → Reaches cs (if t then record b {
      acknowledged =
          with_number c b.acknowledged;
    }
        else b)
    by_cases true = all.0
    by_cases false = all.0

-- A carrier that registers is a recipient of it too.
joined_reach : (cs : List ℕ) (c : ℕ) (bs : List Broadcast) → AllReach cs bs
    → AllReach (with_number c cs) (map (joined_broadcast c) bs)
joined_reach cs c [] all = tt
joined_reach cs c (b ∷ bs) all = (by_cases (is_open_broadcast b) refl, joined_reach cs c bs all.1)
  where
    either : (x y z : Bool) → (y ≡ true → z ≡ true) → (x || y) ≡ true → (x || z) ≡ true
    either true y z step is = refl
    either false y z step is = step is

    by_cases : (t : Bool) → is_open_broadcast b ≡ t → Reaches (with_number c cs) (if t
        then record b { recipients = with_number c b.recipients } else b)
    by_cases true e = λ opened k is. among-with_number k c b.recipients
        ∙ either (c == k) (is_among k cs)
        (is_among k b.recipients) (all.0 opened k) (sym (among-with_number k c cs) ∙ is)
    by_cases false e = λ opened k is. let no : true ≡ false = sym (ap is_open_outcome opened) ∙ e in
        cc

-- Every move keeps it.
pub reach_kept : (w : WindowSet) → MovesKeep w (λ m cs v. AllReach cs v.broadcasts)
reach_kept w = sends_kept (record {
  later = λ m n cs attempt bs up is. is;
  joined = λ c m cs attempt. joined_reach cs c;
  none = λ m cs. tt;
  sends = λ action m cs v is. (λ opened k among. among, is);
  closes = λ outcome closed m cs attempt bs. closed_reach cs outcome bs closed;
  answers = λ c attempt m cs last bs among. answered_reach cs c attempt bs;
})
