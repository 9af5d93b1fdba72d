-- Judgements of contents, and of the members of lists.
use Rattle.std.proofs.Common.{◌≡◌, ◌∙◌, ◌≤◌, ◌||◌, ℕ, suc, Bool, true, false, List, [], ◌∷◌, length, map, take, Result, Ok, Err, Option, Some, None, ap, arith, refl, sym, subst}
use Rattle.std.specs.Prelude.{◌==◌, All, IfOk, is_some}
use Rattle.std.specs.FinMap.{get}
use Rattle.std.proofs.lemmas.List.{take_all}
use Rattle.numbers.proofs.Small.{equal_number, impossible}
use Rattle.numbers.specs.declared.spid.Spid.{Spid}
use Rattle.model.specs.Content.{ClockRow, Content}
use Rattle.model.specs.Versions.{is_among}
use Rattle.settle.proofs.Among.{among_keys}
use Rattle.settle.specs.Abstraction.{spid_of}
use Rattle.settle.specs.Reads.{AreCarriers, Reflects}
use Rattle.version.specs.Abstraction.{no_windows}
use Rattle.settle.specs.declared.store.StoreFault.{StoreFault}
use Rattle.invariants.specs.Flaws.{HasFlaw, Judges, JudgesRows}
use Rattle.invariants.specs.Sound.{AreVersionsSound, HaveBroadcasts}
use Rattle.invariants.specs.declared.flaw.Flaw.{Flaw}

-- A clock, for judgements that found no flaw and do not depend on it.
abbrev pub any_clock : ClockRow
any_clock = record {
  minute = 0;
  next_id = 0;
  present = record { number = 0; windows = no_windows };
}

-- What was judged of a content is judged of the same content, by its name before.
pub judged_at : (Sound : Content → Type 0) (a b : Content) (clock : ClockRow)
    (found is : Option Flaw) → a ≡ b → found ≡ is → Judges a clock (Sound a) found
    → Judges b clock (Sound b) is
judged_at Sound a b clock found is same e judged =
    subst (λ m. Judges m clock (Sound m) is) same
    (subst (λ o. Judges a clock (Sound a) o) e judged)

-- A flaw found in a content is found in the same content.
pub flawed_at : (a b : Content) (clock : ClockRow) (found : Option Flaw) (flaw : Flaw)
    (Sound : Type 0) → a ≡ b → found ≡ Some flaw → Judges a clock Sound found
    → HasFlaw b clock flaw
flawed_at a b clock found flaw Sound same e judged =
    subst (λ m. HasFlaw m clock flaw) same (subst (Judges a clock Sound) e judged)

pub judged_with : (c : Content) (clock : ClockRow) (P Q : Type 0) (found : Option Flaw) → P
    → Judges c clock Q found → Judges c clock (P × Q) found
judged_with c clock P Q None p q = (p, q)
judged_with c clock P Q (Some flaw) p judged = judged

-- What a Boolean reflects, by the content before.
pub reflected : (P : Content → Type 0) (a b : Content) (found is : Bool) → a ≡ b → found ≡ is
    → Reflects found (P a) → Reflects is (P b)
reflected P a b found is same e r =
    subst (λ m. Reflects is (P m)) same (subst (λ t. Reflects t (P a)) e r)

-- All members were passed.
pub all_passed : {X : Type 0} (P : X → Type 0) (xs : List X) (n : ℕ) → length xs ≤ n
    → All P (take n xs) → All P xs
all_passed P xs n end all = subst (All P) (take_all n xs end) all

each_among : (P : ℕ → Type 0) (k : ℕ) (xs : List Spid) → All (λ s. P (spid_of s)) xs
    → is_among k (map spid_of xs) ≡ true → P k
each_among P k [] all e = impossible (sym e)
each_among P k (x ∷ xs) all e =
    by_cases (each_among P k xs (λ n d less. all (suc n) d (omega (arith, less)))) (spid_of x == k)
    refl
  where
    by_cases : (is_among k (map spid_of xs) ≡ true → P k) → (b : Bool) → (spid_of x == k) ≡ b → P k
    by_cases later true same = subst P (equal_number (spid_of x) k same) (all 0 x (omega arith))
    by_cases later false other = later (sym (ap (λ b. b || is_among k (map spid_of xs)) other) ∙ e)

-- What holds of all carriers holds of each that is registered.
pub all_registered : (P : ℕ → Type 0) (c : Content) (carriers : List Spid) → AreCarriers c carriers
    → All (λ s. P (spid_of s)) carriers → (k : ℕ) → is_some (get c.carriers k) ≡ true → P k
all_registered P c carriers are all k registered = each_among P k carriers all
    (ap (is_among k) are ∙ among_keys c.carriers k ∙ registered)

-- The versions are sound, and the downloads are judged: so are all rows.
pub judged_rows : (c : Content) (clock : ClockRow) → c.clock ≡ Some clock
    → AreVersionsSound c clock → (result : Result (Option Flaw) StoreFault)
    → IfOk result (Judges c clock (HaveBroadcasts c)) → IfOk result (JudgesRows c)
judged_rows c clock has versions (Ok None) judged = record {
  clock = clock;
  has_clock = has;
  versions = versions;
  downloads = judged;
}
judged_rows c clock has versions (Ok (Some flaw)) judged = (clock, has, judged)
judged_rows c clock has versions (Err fault) judged = judged
