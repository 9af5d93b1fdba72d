-- The registered carriers as a list that ascends by their numbers.
use Rattle.std.specs.Prelude.{◌≡◌, ◌<◌, ◌≤◌, ℕ, true, List, length, map}
use Rattle.std.specs.Coded.{Coded, coded_ℕ}
use base.Stored.{coded_unit}
use Rattle.std.specs.FinMap.{FinMap, from_entries, is_sorted, code}
use Rattle.std.specs.List.{AllWithin}
use Rattle.std.specs.Ordering.{nat_cmp}
use Rattle.numbers.specs.declared.spid.Spid.{Spid}
use Rattle.settle.specs.Abstraction.{spid_of}

abbrev pub coded_carriers : Coded (FinMap nat_cmp (Unit {0}))
coded_carriers = code coded_ℕ coded_unit

-- The entries of the carriers in a map by their numbers.
abbrev pub carrier_entries : List Spid → List (ℕ × Unit {0})
carrier_entries cs = map {B = ℕ × Unit {0}} (λ c. (spid_of c, tt)) cs

-- The carriers by their numbers.
abbrev pub registered_in : List Spid → FinMap nat_cmp (Unit {0})
registered_in cs = from_entries {R = nat_cmp} (carrier_entries cs)

-- Holds if the carriers ascend by their numbers, each once.
abbrev pub AreAscending : List Spid → Type 0
AreAscending cs = is_sorted nat_cmp (carrier_entries cs) ≡ true

-- Holds if all carriers before the place have smaller numbers, and all others have larger ones.
pub record IsPlaceFor (cs : List Spid) (number place : ℕ) : Type 0 where
  pub within : place ≤ length cs
  pub before : AllWithin (λ (c : Spid). c.number < number) cs 0 place
  pub after : AllWithin (λ (c : Spid). number < c.number) cs place (length cs)
