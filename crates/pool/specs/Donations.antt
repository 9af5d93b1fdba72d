-- Donations: their effects and refusals.
use Rattle.std.specs.Prelude.{ℕ, suc, ◌+◌, ◌≡◌, ◌≢◌, Bool, not, ◌&&◌, ◌==◌, nat_lt, List, [], ◌∷◌, ◌++◌, map, filter, length, Option, Some, None, is_none, is_some, option_map, Result, Ok, Err, ⊤}
use Rattle.std.specs.List.{list_any}
use Rattle.std.specs.BTreeSet.{BTreeSet, keys}
use Rattle.numbers.specs.Subjects.{Subject, Number, subject_eq}
use Rattle.numbers.specs.Abstraction.{subject_of}
use Rattle.numbers.specs.declared.cic.Cic.{Cic}
use Rattle.numbers.specs.declared.line.Line.{Line}
use Rattle.numbers.specs.declared.tn.Tn.{Tn}
use Rattle.version.specs.declared.version.Version.{Version as VersionImpl}
use Rattle.version.specs.declared.in_use.NumberInUse.{NumberInUse}
use Rattle.version.specs.Abstraction.{HasModel}
use Rattle.model.specs.Commands.{Command, Donate}
use Rattle.model.specs.Conditions.{limit, is_the}
use Rattle.model.specs.History.{CommandRequest, used_numbers, made_version}
use Rattle.model.specs.declared.refusal.Refusal.{Refusal}
use Rattle.model.specs.declared.refusal.Refusal.TheVariants.{NoMemory}
use Rattle.model.specs.RefusalNumbers.{number_of}
use Rattle.model.specs.Refusals.{first_refusal}
use Rattle.pool.specs.declared.donation.Donation.{Donation}
use Rattle.pool.specs.declared.facts.BlockFacts.{BlockFacts}
use Rattle.pool.specs.Facts.{carrier_number, in_force_numbers, is_in_force, has_open_port}
use Rattle.model.specs.Windows.{WindowSet}

-- ---- the model of a donation

abbrev pub lines_of : List Line → List ℕ
lines_of lines = map (λ (l : Line). l.number) lines

abbrev pub command_of : Donation → Command
command_of d =
    Donate d.block.number (lines_of d.used.now) d.routing.lrn.number
    (option_map (λ (c : Cic). c.number) d.routing.cic)

-- The numbers in use of a donation, ascending, without duplicates.
abbrev pub used_by : Donation → List Subject
used_by d = used_numbers d.block.number (lines_of d.used.now)

-- The numbers in a set.
abbrev pub tn_subject : Tn → Subject
tn_subject t = Number t.number

abbrev pub numbers_in : BTreeSet Tn → List Subject
numbers_in s = map tn_subject (keys s)

-- ---- numbers of a block, over the used ones and those in force

-- The numbers in force that the donation does not name.
abbrev pub unnamed : (used in_force : List Subject) → List Subject
unnamed used in_force = filter (λ s. not (list_any (subject_eq s) used)) in_force

abbrev pub contaminated_numbers : (used in_force : List Subject) → List Subject
contaminated_numbers used in_force = used ++ unnamed used in_force

-- The used numbers that have no version in force and get one.
abbrev pub made_numbers : (used in_force : List Subject) → List Subject
made_numbers used in_force = filter (λ s. not (list_any (subject_eq s) in_force)) used

-- Whether more than a hundred numbers of the block are in use.
abbrev pub is_contaminated : (used : List Subject) → BlockFacts → Bool
is_contaminated used facts =
    nat_lt 100 (length (contaminated_numbers used (in_force_numbers facts.numbers.now)))

-- ---- the same over a set of the used numbers

abbrev pub is_named : BTreeSet Tn → Tn → Bool
is_named used tn = list_any (λ (t : Tn). tn.number == t.number) (keys used)

-- Whether the number is in force and not among the used ones.
abbrev pub is_unnamed : BTreeSet Tn → NumberInUse → Bool
is_unnamed used n = n.is_in_force && not (is_named used n.tn)

-- Whether the number has no version in force.
abbrev pub is_unprotected : BlockFacts → Tn → Bool
is_unprotected facts t = not (list_any (is_in_force t.number) facts.numbers.now)

-- ---- refusals

-- The tests of the donor.
abbrev pub donor_tests : (caller : ℕ) → BlockFacts → List (ℕ × Bool)
donor_tests caller facts =
    (3, is_none facts.code_holder) ∷ (7, not facts.is_lrn_good)
    ∷ (11, not (is_the caller (carrier_number facts.code_holder))) ∷ []

-- The tests of the block, with these used numbers and `versions` new versions.
abbrev pub tests_by : (used : List Subject) → (versions : ℕ) → BlockFacts → List (ℕ × Bool)
tests_by used versions facts =
    (22, is_contaminated used facts) ∷ (23, has_open_port facts.numbers.now)
    ∷ (24, is_some facts.donor) ∷ (28, nat_lt limit (facts.next_id + versions)) ∷ []

abbrev pub block_tests : (used : List Subject) → BlockFacts → List (ℕ × Bool)
block_tests used facts =
    tests_by used (length (made_numbers used (in_force_numbers facts.numbers.now))) facts

-- The refusal of a donation by a registered carrier: the least that holds.
abbrev pub donation_refusal : (caller : ℕ) → Donation → BlockFacts → Option ℕ
donation_refusal caller d facts =
    first_refusal (donor_tests caller facts ++ block_tests (used_by d) facts)

-- Holds if the result is this refusal, or succeeds without one. An allocation failure says
-- nothing about it.
abbrev pub IsRefusedAs : {A : Type 0} → Option ℕ → Result A Refusal → Type 0
IsRefusedAs refusal (Ok value) = refusal ≡ None
IsRefusedAs refusal (Err r) = r ≢ NoMemory → refusal ≡ Some (number_of r)

-- ---- effects

-- Holds if v is the version that the donation makes for s. Its only broadcast is its create.
pub record IsProtective (present : WindowSet) (caller minute : ℕ) (d : Donation) (s : Subject)
    (v : VersionImpl) : Type 0 where
  pub subject : subject_of v.subject ≡ s
  pub version : (id : ℕ) (all_carriers : List ℕ) (donor : Option ℕ) →
      let made = made_version present id caller minute all_carriers donor
      (CommandRequest (command_of d)) in
      HasModel v made

-- Holds if there is a version for each of these subjects, in their order, with consecutive ids.
abbrev pub AreProtective : WindowSet → (caller minute : ℕ) → Donation → (from : ℕ) → List Subject
    → List (ℕ × VersionImpl) → Type 0
AreProtective present caller minute d from [] [] = ⊤
AreProtective present caller minute d from (s ∷ ss) (e ∷ es) =
    (e.0 ≡ from) × IsProtective present caller minute d s e.1
    × AreProtective present caller minute d (suc from) ss es
AreProtective present caller minute d from [] (e ∷ es) = ⊥
AreProtective present caller minute d from (s ∷ ss) [] = ⊥

-- Holds if these are the versions that the donation makes, by the facts.
abbrev pub IsPlanned : WindowSet → (caller minute : ℕ) → Donation → BlockFacts
    → List (ℕ × VersionImpl) → Type 0
IsPlanned present caller minute d facts versions =
    AreProtective present caller minute d facts.next_id
    (made_numbers (used_by d) (in_force_numbers facts.numbers.now)) versions
