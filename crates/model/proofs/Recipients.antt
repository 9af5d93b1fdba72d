-- In every record the recipients of a broadcast, and those that acknowledged it, are registered.
use Rattle.std.proofs.Common.{◌≡◌, ℕ, Bool, true, false, ◌||◌, List, [], ◌∷◌, map, Option, Some, None, refl, sym, ◌∙◌, subst, arith}
use Rattle.std.specs.Prelude.{◌==◌, find, option_and_then, if◌then◌else◌}
use Rattle.std.specs.List.{AllByRecursion}
use Rattle.std.proofs.lemmas.Bool.Decides.{nat_tests}
use Rattle.numbers.specs.Subjects.{Subject}
use Rattle.model.specs.Statuses.{Send}
use Rattle.model.specs.declared.words.Outcome.{Outcome}
use Rattle.model.specs.Versions.{Broadcast, Version, is_among, with_number, is_open_broadcast, version_with}
use Rattle.model.specs.Changes.{next_attempt, on_newest, acknowledged_broadcast, joined_broadcast}
use Rattle.model.specs.History.{carriers}
use Rattle.model.specs.State.{State, record_now}
use Rattle.model.specs.Content.{broadcast_with}
use Rattle.model.specs.Machine.{HasHistory}
use Rattle.numbers.proofs.Small.{or_right}
use Rattle.model.proofs.Entered.{record-carriers}
use Rattle.model.proofs.Moves.{MovesKeep}
use Rattle.model.proofs.Sends.{sends_kept}
use Rattle.model.proofs.Rising.{among-with_number}
use Rattle.model.proofs.Lists.{found_has}
use Rattle.model.proofs.KeptVersions.{version_now}
use Rattle.model.specs.Windows.{WindowSet}

-- ---- broadcasts

-- Holds if the recipients of a broadcast, and those that acknowledged it, are among these carriers.
pub record AreKnown (cs : List ℕ) (b : Broadcast) : Type 0 where
  pub recipients : (k : ℕ) → is_among k b.recipients ≡ true → is_among k cs ≡ true
  pub acknowledged : (k : ℕ) → is_among k b.acknowledged ≡ true → is_among k cs ≡ true

abbrev pub AllKnown : List ℕ → List Broadcast → Type 0
AllKnown cs bs = AllByRecursion (AreKnown cs) bs

abbrev pub IsKnown : List ℕ → Version → Type 0
IsKnown cs v = AllKnown cs v.broadcasts

module _ (w : WindowSet) (cs : List ℕ) where
  newest_known : (outcome : Outcome) (bs : List Broadcast) → AllKnown cs bs
      → AllKnown cs (on_newest (λ b. record b { outcome = outcome }) bs)
  newest_known outcome [] known = tt
  newest_known outcome (b ∷ bs) known = (
    record { recipients = known.0.recipients; acknowledged = known.0.acknowledged },
    known.1,
  )

  sent_known : (action : Send) (minute : ℕ) (v : Version) → IsKnown cs v
      → IsKnown cs (next_attempt w action cs minute v)
  sent_known action minute v known =
      (record { recipients = λ k e. e; acknowledged = λ k e. cc }, known)

  -- The carrier that acknowledges is one of them.
  answered_known : (c attempt : ℕ) → is_among c cs ≡ true → (bs : List Broadcast) → AllKnown cs bs
      → AllKnown cs (map (acknowledged_broadcast c attempt) bs)
  answered_known c attempt carrier [] known = tt
  answered_known c attempt carrier (b ∷ bs) known = (
    by_cases (b.attempt == attempt),
    answered_known c attempt carrier bs known.1,
  )
    where
      either : (k : ℕ) (x y : Bool) → (c == k) ≡ x → is_among k b.acknowledged ≡ y → (x || y) ≡ true
          → is_among k cs ≡ true
      either k true y e f is = subst (λ n. is_among n cs ≡ true) (let same : c ≡ k =
          grind (arith, nat_tests) in same) carrier
      either k false y e f is = known.0.acknowledged k (f ∙ is)

      by_cases : (t : Bool) → AreKnown cs (if t then record b {
        acknowledged =
            with_number c b.acknowledged;
      } else b)
      by_cases true = record {
        recipients = known.0.recipients;
        acknowledged =
            λ k e. either k (c == k) (is_among k b.acknowledged) refl refl
            (sym (among-with_number k c b.acknowledged) ∙ e);
      }
      by_cases false = known.0

  joined_known : (c : ℕ) (bs : List Broadcast) → AllKnown cs bs
      → AllKnown (with_number c cs) (map (joined_broadcast c) bs)
  joined_known c [] known = tt
  joined_known c (b ∷ bs) known = (by_cases (is_open_broadcast b), joined_known c bs known.1)
    where
      kept : (k : ℕ) → is_among k cs ≡ true → is_among k (with_number c cs) ≡ true
      kept k e = among-with_number k c cs ∙ or_right (c == k) (is_among k cs) e

      either : (k : ℕ) (x y : Bool) → is_among k b.recipients ≡ y → (x || y) ≡ true
          → (x || is_among k cs) ≡ true
      either k true y f is = refl
      either k false y f is = known.0.recipients k (f ∙ is)

      by_cases : (t : Bool) → AreKnown (with_number c cs) (if t then record b {
        recipients =
            with_number c b.recipients;
      } else b)
      by_cases true = record {
        recipients = λ k e. among-with_number k c cs ∙ either k (c == k) (is_among k b.recipients)
            refl (sym (among-with_number k c b.recipients) ∙ e);
        acknowledged = λ k e. kept k (known.0.acknowledged k e);
      }
      by_cases false = record {
        recipients = λ k e. kept k (known.0.recipients k e);
        acknowledged = λ k e. kept k (known.0.acknowledged k e);
      }

-- Every move keeps it.
pub known_kept : (w : WindowSet) → MovesKeep w (λ m cs v. IsKnown cs v)
known_kept w = sends_kept (record {
  later = λ m n cs attempt bs up is. is;
  joined = λ c m cs attempt. joined_known w cs c;
  none = λ m cs. tt;
  sends = λ action m cs v. sent_known w cs action m v;
  closes = λ outcome closed m cs attempt. newest_known w cs outcome;
  answers = λ c attempt m cs last bs among. answered_known w cs c attempt among bs;
})

-- The recipients of a broadcast, and those that acknowledged it, are registered carriers.
pub broadcast_known : (st : State) → HasHistory st
    → (s : Subject) (id attempt : ℕ) (b : Broadcast) → broadcast_with id attempt (record_now st s)
    ≡ Some b → AreKnown (carriers st.history) b
broadcast_known st is s id attempt b found = by_cases (version_with id (record_now st s)) refl found
  where
    by_cases : (o : Option Version) → version_with id (record_now st s) ≡ o
        → option_and_then (λ (v : Version). find (λ x. x.attempt == attempt) v.broadcasts) o
        ≡ Some b → AreKnown (carriers st.history) b
    by_cases None e f = cc
    by_cases (Some v) e f =
        subst (λ cs. AreKnown cs b) (record-carriers st.windows st.history s st.now)
        (found_has (AreKnown (record_now st s).carriers) (λ x. x.attempt == attempt) v.broadcasts b
        (version_now known_kept st is s id v e) f)
