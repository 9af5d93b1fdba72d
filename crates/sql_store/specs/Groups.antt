-- Groups of commits.
use Rattle.std.specs.Prelude.{◌≡◌, ◌⊎◌, ◌≤◌, ℕ, Bool, true, false, IfOk, IsTrue, OnErr, Result, Ok, Err, is_ok, ⊤, refl}
use mathlib.Core.HLevel.{Π_prop}
use Rattle.sqlite.specs.State.{State}
use Rattle.settle.specs.Reads.{HasDeviceFailed}
use Rattle.settle.specs.StoreContract.{CountsFailure}
use Rattle.settle.specs.declared.store.StoreFault.{StoreFault}
use Rattle.settle.specs.declared.store.StoreFault.TheVariants.{Storage}
use Rattle.sql_rows.specs.declared.fault.Fault.{Fault}
use Rattle.sql_store.specs.Store.{IsIdle, IsIdle-prop}
use Rattle.sql_store.specs.declared.group.Group.{Group}
use Rattle.sql_store.specs.declared.group.Group.TheVariants.{None, Begun, Failed}

-- Whether a group has begun, and not ended.
abbrev pub has_begun : Group → Bool
has_begun None = false
has_begun Begun = true
has_begun (Failed fault) = true

-- Whether no call inside the group has failed.
abbrev pub is_sound : Group → Bool
is_sound None = true
is_sound Begun = true
is_sound (Failed fault) = false

-- A result with this fault.
abbrev pub reported : StoreFault → Result ⊤ StoreFault
reported fault = Err fault

-- Holds if the result is the answer, unless a call inside the group has failed, and each failure of
-- the device is counted. A failure inside a group fails the group.
pub record IsCounted {A : Type 0} (answer : Result A Fault) (result : Result A StoreFault)
    (old new : Group) (before after : ℕ) : Type 0 where
  pub ok : IfOk result (λ a. (answer ≡ Ok a) × IsTrue (is_sound new))
  pub err : OnErr result ((is_ok answer ≡ false) ⊎ (is_sound old ≡ false))
  pub sound : IsTrue (is_sound new) → IsTrue (is_sound old)
  pub fails : OnErr result (IsTrue (has_begun old) → is_sound new ≡ false)
  pub begun : has_begun new ≡ has_begun old
  pub counts : CountsFailure result before after
  pub rises : before ≤ after
  pub storage : result ≡ Err Storage → HasDeviceFailed before after

pub unbegun : (group : Group) → (IsTrue (has_begun group) → ⊥) → has_begun group ≡ false
unbegun None not = refl
unbegun Begun not = absurd (not refl)
unbegun (Failed fault) not = absurd (not refl)

-- The type of a ghost field must be a proposition.
pub idle_if_unbegun : (group : Group) (s : State)
    → IsProp (has_begun group ≡ false → IsTrue s.is_open → IsIdle s)
idle_if_unbegun group s = Π_prop (λ _. Π_prop (λ _. IsIdle-prop s))
