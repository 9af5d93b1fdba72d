-- What is read of a version that a caller names.
use Rattle.std.specs.Prelude.{◌≢◌, ◌≡◌, ◌⊎◌, ℕ, Bool, true, false, is_some, nat_lt, Some, None}
use Rattle.std.specs.FinMap.{get}
use Rattle.model.specs.Content.{Content, ClockRow}
use Rattle.model.specs.RefusalNumbers.{number_of}
use Rattle.model.specs.declared.refusal.Refusal.{Refusal}
use Rattle.model.specs.declared.refusal.Refusal.TheVariants.{UnknownCarrier, NotFound}
use Rattle.settle.specs.declared.rows.VersionRow.{VersionRow}
use Rattle.model.specs.Windows.{Windows}

-- ---- the set of windows that a version holds

-- Holds if these are the windows of the set with this number: the present set, or an earlier one.
pub record AreHeld (c : Content) (clock : ClockRow) (number : ℕ) (windows : Windows) : Type 0 where
  pub present : number ≡ clock.present.number → windows ≡ clock.present.windows
  pub earlier : number ≢ clock.present.number → get c.sets number ≡ Some windows

-- Holds if there is such a set.
abbrev pub HasSet : Content → ClockRow → (number : ℕ) → Type 0
HasSet c clock number = number ≢ clock.present.number → get c.sets number ≡ None → ⊥

-- Holds if the content has a clock's row, and the set that the version with this id holds.
pub record HasHeldSet (c : Content) (id : ℕ) : Type 0 where
  pub written : is_some c.clock ≡ true
  pub has_set : (clock : ClockRow) (row : VersionRow) → c.clock ≡ Some clock → get c.versions id
      ≡ Some row → HasSet c clock row.held

-- ---- look-ups

-- Holds if the caller is known, and these are the clock's row, the version's row, and the windows
-- of the set that the version holds.
pub record IsLookedUp (c : Content) (is_known : Bool) (id : ℕ) (clock : ClockRow) (row : VersionRow)
    (held : Windows) : Type 0 where
  pub known : is_known ≡ true
  pub clock_is : c.clock ≡ Some clock
  pub found : get c.versions id ≡ Some row
  pub are_held : AreHeld c clock row.held held

-- Holds if the refusal is `UnknownCarrier` and the caller is not known, or it is `NotFound` and no
-- version has the id, or it is no refusal of the machine's.
abbrev pub IsLookupRefused : Content → (is_known : Bool) → (id : ℕ) → Refusal → Type 0
IsLookupRefused c is_known id r =
    ((r ≡ UnknownCarrier) × (is_known ≡ false))
    ⊎ (((r ≡ NotFound) × (is_known ≡ true) × (get c.versions id ≡ None))
    ⊎ (nat_lt (number_of r) 29 ≡ false))
