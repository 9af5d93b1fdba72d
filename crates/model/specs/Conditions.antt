-- Conditions of refusals over one version. They take its status and its other fields, so that they
-- apply to its row too.
use Rattle.std.specs.Prelude.{ℕ, ◌+◌, ◌-◌, Bool, true, false, not, ◌&&◌, ◌||◌, ◌==◌, nat_lt, nat_le, Option, Some, None, is_some, is_none}
use Rattle.model.specs.Statuses.{Send}
use Rattle.model.specs.Statuses.{Create, Delete, Modify}
use Rattle.model.specs.declared.words.Side.{Side}
use Rattle.model.specs.declared.words.Side.TheVariants.{OldProvider, NewProvider}
use Rattle.model.specs.Statuses.{Status, Pending, Conflict, CancelPending, Sending, Active, PartialFailure, Failed, DisconnectPending, Old, Canceled}
use Rattle.model.specs.Windows.{Windows}

-- The limit of minutes, ids and attempts: they stay below 2^40.
abbrev pub limit : ℕ
limit = 1099511627776

-- Whether there is a value, and it passes the test.
abbrev pub holds_of : {A : Type 0} → (A → Bool) → Option A → Bool
holds_of test None = false
holds_of test (Some x) = test x

-- Whether there is a value, and it is c.
abbrev pub is_the : ℕ → Option ℕ → Bool
is_the c None = false
is_the c (Some d) = c == d

-- ---- tests of a status

abbrev pub is_cancel_pending : Status → Bool
is_cancel_pending (CancelPending by) = true
is_cancel_pending _ = false

abbrev pub is_active : Status → Bool
is_active Active = true
is_active _ = false

abbrev pub is_delete : Send → Bool
is_delete Create = false
is_delete Delete = true
is_delete (Modify routing) = false

-- Whether a block with this status is being released.
abbrev pub is_delete_sent : Status → Bool
is_delete_sent (Sending action) = is_delete action
is_delete_sent _ = false

abbrev pub can_activate : Status → Bool
can_activate Pending = true
can_activate Failed = true
can_activate Conflict = false
can_activate (CancelPending by) = false
can_activate (Sending action) = false
can_activate Active = false
can_activate PartialFailure = false
can_activate (DisconnectPending release) = false
can_activate Old = false
can_activate Canceled = false

abbrev pub can_cancel : Status → Bool
can_cancel Pending = true
can_cancel Conflict = true
can_cancel Failed = true
can_cancel (DisconnectPending release) = true
can_cancel (CancelPending by) = false
can_cancel (Sending action) = false
can_cancel Active = false
can_cancel PartialFailure = false
can_cancel Old = false
can_cancel Canceled = false

abbrev pub is_pending : Status → Bool
is_pending Pending = true
is_pending _ = false

abbrev pub is_conflict : Status → Bool
is_conflict Conflict = true
is_conflict _ = false

abbrev pub is_failed : Status → Bool
is_failed Failed = true
is_failed _ = false

-- Whether this status of a block's newest version prevents an assignment.
abbrev pub takes_block : Status → Bool
takes_block (Sending action) = true
takes_block Active = true
takes_block PartialFailure = true
takes_block (DisconnectPending release) = false
takes_block Pending = false
takes_block Conflict = false
takes_block (CancelPending by) = false
takes_block Failed = false
takes_block Old = false
takes_block Canceled = false

-- ---- creates

-- Whether there is no room for a first create. That is so if a version of the number is open, or if
-- the one in force is not active. With none in force it is so if the number's block is being
-- released.
abbrev pub has_no_room : (opened in_force block_in_force : Option Status) → Bool
has_no_room (Some status) in_force block_in_force = true
has_no_room None (Some status) block_in_force = not (is_active status)
has_no_room None None block_in_force = holds_of is_delete_sent block_in_force

-- Whether the minute is before now.
abbrev pub is_past : (now minute : ℕ) → Bool
is_past now minute = nat_lt minute now

-- Whether the due minute of a second create differs from the version's.
abbrev pub is_another_due : (due its_due : ℕ) → Bool
is_another_due due its_due = not (its_due == due)

-- Whether a conflict comes too late: fewer minutes are left before the due minute than the window
-- of conflict restriction has.
abbrev pub is_late_conflict : Windows → (now due : ℕ) → Bool
is_late_conflict w now due = nat_lt due (now + w.conflict_restriction)

-- ---- activation

-- Whether the new provider made its create, and the old provider made its own or let both
-- concurrence windows end.
abbrev pub has_concurred : Windows → (now : ℕ) → (old_at new_at : Option ℕ) → (since : ℕ) → Bool
has_concurred w now old_at new_at since =
    is_some new_at && (is_some old_at || nat_le (w.initial_concurrence + w.final_concurrence)
    (now - since))

-- Whether an activation lacks concurrence. Only a pending version needs it; a failed one, which can
-- be activated too, does not.
abbrev pub lacks_concurrence : Windows → (now : ℕ) → Status → (old_at new_at : Option ℕ)
    → (since : ℕ) → Bool
lacks_concurrence w now status old_at new_at since =
    is_pending status && not (has_concurred w now old_at new_at since)

-- Whether an activation comes before the due minute. Only a pending version waits for it.
abbrev pub is_not_yet_due : (now : ℕ) → Status → (due : ℕ) → Bool
is_not_yet_due now status due = is_pending status && nat_lt now due

-- Whether the next attempt would reach the limit.
abbrev pub has_no_attempt_left : ℕ → Bool
has_no_attempt_left attempt = nat_le limit (attempt + 1)

-- ---- providers

abbrev pub is_neither : (caller old_provider new_provider : ℕ) → Bool
is_neither caller old_provider new_provider =
    not (caller == old_provider) && not (caller == new_provider)

-- Whether the caller's own create is missing.
abbrev pub lacks_own_create : (caller old_provider new_provider : ℕ) → (old_at new_at : Option ℕ)
    → Bool
lacks_own_create caller old_provider new_provider old_at new_at =
    ((caller == old_provider) && is_none old_at) || ((caller == new_provider) && is_none new_at)

-- Whether the provider may not cancel, by the status. A pending version or one in conflict: a
-- provider whose own create is missing. A failed or disconnect-pending one: any but the new
-- provider.
abbrev pub may_not_cancel : (caller old_provider new_provider : ℕ) → (old_at new_at : Option ℕ)
    → Status → Bool
may_not_cancel caller old_provider new_provider old_at new_at Pending =
    lacks_own_create caller old_provider new_provider old_at new_at
may_not_cancel caller old_provider new_provider old_at new_at Conflict =
    lacks_own_create caller old_provider new_provider old_at new_at
may_not_cancel caller old_provider new_provider old_at new_at Failed = not (caller == new_provider)
may_not_cancel caller old_provider new_provider old_at new_at (DisconnectPending release) =
    not (caller == new_provider)
may_not_cancel caller old_provider new_provider old_at new_at (CancelPending by) = false
may_not_cancel caller old_provider new_provider old_at new_at (Sending action) = false
may_not_cancel caller old_provider new_provider old_at new_at Active = false
may_not_cancel caller old_provider new_provider old_at new_at PartialFailure = false
may_not_cancel caller old_provider new_provider old_at new_at Old = false
may_not_cancel caller old_provider new_provider old_at new_at Canceled = false

-- The provider on this side.
abbrev pub provider_of : Side → (old_provider new_provider : ℕ) → ℕ
provider_of OldProvider old_provider new_provider = old_provider
provider_of NewProvider old_provider new_provider = new_provider

-- Whether the caller is the provider that cancelled, and not the one whose acknowledgement is
-- missing.
abbrev pub is_cancellers : (caller old_provider new_provider : ℕ) → Status → Bool
is_cancellers caller old_provider new_provider (CancelPending by) =
    caller == provider_of by old_provider new_provider
is_cancellers caller old_provider new_provider Pending = false
is_cancellers caller old_provider new_provider Conflict = false
is_cancellers caller old_provider new_provider (Sending action) = false
is_cancellers caller old_provider new_provider Active = false
is_cancellers caller old_provider new_provider PartialFailure = false
is_cancellers caller old_provider new_provider Failed = false
is_cancellers caller old_provider new_provider (DisconnectPending release) = false
is_cancellers caller old_provider new_provider Old = false
is_cancellers caller old_provider new_provider Canceled = false

-- ---- removal from conflict, and protection

-- Whether the new provider removes a conflict before it has lasted its window of resolution. The
-- old provider need not wait.
abbrev pub is_early_removal : Windows → (now caller new_provider since : ℕ) → Bool
is_early_removal w now caller new_provider since =
    (caller == new_provider) && nat_lt (now - since) w.conflict_resolution

-- Whether the version is protected from a cancel: it is protective, and failed.
abbrev pub is_protected : Status → (protective : Bool) → Bool
is_protected status protective = is_failed status && protective
