-- The versions that a donation plans, as they begin to send.
use Rattle.std.proofs.Common.{◌≡◌, ◌<◌, ℕ, suc, Bool, true, false, cond, ◌||◌, List, [], ◌∷◌, map, Option, None, refl, ap, ◌∙◌, arith}
use Rattle.std.specs.Prelude.{⊤, ◌==◌, filter, option_map}
use Rattle.std.specs.List.{list_any}
use Rattle.std.proofs.lemmas.Bool.Decides.{nat_tests}
use Rattle.numbers.specs.Digits.{number_in}
use Rattle.numbers.specs.Subjects.{Subject, Number, subject_eq}
use Rattle.numbers.specs.declared.cic.Cic.{Cic}
use Rattle.model.specs.History.{rising, used_numbers}
use Rattle.model.specs.Versions.{Version, in_force}
use Rattle.model.proofs.Rising.{AreAbove, Rise, rising-rise}
use Rattle.model.specs.Windows.{WindowSet}
use Rattle.version.specs.declared.version.Version.{Version as VersionImpl}
use Rattle.settle.specs.Sending.{SendingVersion, begun_of}
use Rattle.pool.specs.declared.donation.Donation.{Donation}
use Rattle.pool.specs.Donations.{AreProtective}
use Rattle.register.proofs.OnBlocks.BlockCommands.{protective}
use Rattle.register.proofs.Records.MadeSent.{AreApart, AreBegun, bare}

-- ---- each begins to send as it is made

abbrev pub cic_of : Donation → Option ℕ
cic_of d = option_map (λ (c : Cic). c.number) d.routing.cic

module _ (w : WindowSet) (all_carriers : List ℕ) (caller minute : ℕ) (d : Donation) where
  pub planned-begun : (from : ℕ) (ss : List Subject) (es : List (ℕ × VersionImpl))
      → AreProtective w caller minute d from ss es →
      AreBegun w minute all_carriers (protective w caller minute d.routing.lrn.number (cic_of d))
      (λ id. refl) (λ id. refl) (λ id. refl) from (map (begun_of w.windows) es)
  planned-begun from [] [] are = tt
  planned-begun from (s ∷ ss) (e ∷ es) are = (
    are.0,
    ap bare (are.1.version from [] None),
    planned-begun (suc from) ss es are.2,
  )
  planned-begun from [] (e ∷ es) are = absurd are
  planned-begun from (s ∷ ss) [] are = absurd are

pub planned-subjects : (w : WindowSet) (caller minute : ℕ) (d : Donation) (from : ℕ)
    (ss : List Subject) (es : List (ℕ × VersionImpl)) → AreProtective w caller minute d from ss es →
    map (λ (b : SendingVersion). b.subject) (map (begun_of w.windows) es) ≡ ss
planned-subjects w caller minute d from [] [] are = refl
planned-subjects w caller minute d from (s ∷ ss) (e ∷ es) are =
    ap (λ t. t ∷ map (λ (b : SendingVersion). b.subject) (map (begun_of w.windows) es))
    are.1.subject
    ∙ ap (λ ts. s ∷ ts) (planned-subjects w caller minute d (suc from) ss es are.2)
planned-subjects w caller minute d from [] (e ∷ es) are = absurd are
planned-subjects w caller minute d from (s ∷ ss) [] are = absurd are

-- ---- the used numbers have no duplicates

abbrev pub Once : List Subject → Type 0
Once [] = ⊤
Once (s ∷ ss) = (list_any (subject_eq s) ss ≡ false) × Once ss

unnamed_above : (block k : ℕ) (test : Subject → Bool) (ns : List ℕ) → AreAbove k ns
    → list_any (subject_eq (Number (number_in block k)))
    (filter test (map (λ line. Number (number_in block line)) ns)) ≡ false
unnamed_above block k test [] above = refl
unnamed_above block k test (n ∷ ns) above =
    by_cases (unnamed_above block k test ns above.1) (test (Number (number_in block n)))
  where
    apart : (a b c : ℕ) → b < c → (number_in a b == number_in a c) ≡ false
    apart a b c less = grind (arith, nat_tests)

    by_cases : list_any (subject_eq (Number (number_in block k)))
        (filter test (map (λ line. Number (number_in block line)) ns)) ≡ false → (c : Bool) →
        list_any (subject_eq (Number (number_in block k)))
        (cond c (Number (number_in block n) ∷ filter test
        (map (λ line. Number (number_in block line)) ns))
        (filter test (map (λ line. Number (number_in block line)) ns))) ≡ false
    by_cases later true =
        ap (λ b. b || list_any (subject_eq (Number (number_in block k)))
        (filter test (map (λ line. Number (number_in block line)) ns))) (apart block k n above.0)
        ∙ later
    by_cases later false = later

numbers_once : (block : ℕ) (test : Subject → Bool) (ns : List ℕ) → Rise ns
    → Once (filter test (map (λ line. Number (number_in block line)) ns))
numbers_once block test [] rise = tt
numbers_once block test (n ∷ ns) rise =
    by_cases (numbers_once block test ns rise.1) (test (Number (number_in block n)))
  where
    by_cases : Once (filter test (map (λ line. Number (number_in block line)) ns)) → (c : Bool) →
        Once (cond c (Number (number_in block n) ∷ filter test
        (map (λ line. Number (number_in block line)) ns))
        (filter test (map (λ line. Number (number_in block line)) ns)))
    by_cases later true = (unnamed_above block n test ns rise.0, later)
    by_cases later false = later

pub used_once : (block : ℕ) (test : Subject → Bool) (used : List ℕ)
    → Once (filter test (used_numbers block used))
used_once block test used = numbers_once block test (rising used) (rising-rise used)

named : (s : Subject) (bs : List SendingVersion)
    → list_any (λ (b : SendingVersion). subject_eq s b.subject) bs
    ≡ list_any (subject_eq s) (map (λ (b : SendingVersion). b.subject) bs)
named s [] = refl
named s (b ∷ bs) = ap (λ c. subject_eq s b.subject || c) (named s bs)

-- Each of the versions is of a subject of its own.
module _ (w : WindowSet) (minute : ℕ) (all_carriers : List ℕ) (blank : ℕ
    → Version) (is_id : (id : ℕ)
    → (blank id).id ≡ id) (unsent : (id : ℕ) → (blank id).broadcasts ≡ []) (quiet : (id : ℕ)
    → in_force (blank id) ≡ false) where
  pub once-apart : (bs : List SendingVersion) → Once (map (λ (b : SendingVersion). b.subject) bs)
      → AreApart w minute all_carriers blank is_id unsent quiet bs
  once-apart [] once = tt
  once-apart (b ∷ bs) once = (named b.subject bs ∙ once.0, once-apart bs once.1)
