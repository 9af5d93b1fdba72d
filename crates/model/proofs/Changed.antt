-- What a command makes of the version that it names: it sends, enters a status, or stays.
use Rattle.std.proofs.Common.{◌≡◌, ℕ, Bool, true, false, List, Option, Some, None, refl, sym}
use Rattle.std.specs.Prelude.{if◌then◌else◌, nat_lt}
use Rattle.model.specs.Commands.{VersionCommand, Activate, PutInConflict, RemoveFromConflict, Cancel, OldProviderCancellationAcknowledge, NewProviderCancellationAcknowledge, Disconnect, ModifyRouting}
use Rattle.model.specs.Statuses.{Send}
use Rattle.model.specs.Statuses.{Create, Delete, Modify}
use Rattle.model.specs.Statuses.{Status, Pending, Conflict, CancelPending, Active, Failed, DisconnectPending, Canceled}
use Rattle.model.specs.Versions.{Version}
use Rattle.model.specs.Changes.{with_status, next_attempt}
use Rattle.model.specs.History.{version_after_command, cancelled_by, side_of, has_both_creates, disconnected}
use Rattle.model.specs.Windows.{WindowSet}

-- Whether a command enters this status at once, without planning anything.
abbrev pub is_rest : Status → Bool
is_rest Pending = true
is_rest Conflict = true
is_rest (CancelPending by) = true
is_rest Active = true
is_rest Canceled = true
is_rest _ = false

-- Whether a command sends, or plans to send.
abbrev pub needs_attempt : VersionCommand → Bool
needs_attempt Activate = true
needs_attempt (Disconnect release) = true
needs_attempt (ModifyRouting lrn cic) = true
needs_attempt _ = false

-- A property of the version after a command, from four cases: the version stays, enters a status,
-- plans a disconnect, or sends. The last two are only for commands that send or plan to.
module _ (w : WindowSet) (P : Version → Type 0) (caller minute : ℕ) (all_carriers : List ℕ)
    (v : Version) (c : VersionCommand)
    (stays : P v) (rests : (status : Status) (spent : Bool) → is_rest status ≡ true
    → P (record (with_status w status minute v) { spent = spent }))
    (plans : needs_attempt c ≡ true → (release : ℕ)
    → P (with_status w (DisconnectPending release) minute v))
    (sends : needs_attempt c ≡ true → (action : Send)
    → P (next_attempt w action all_carriers minute v)) where
  either : (b : Bool) (u w : Version) → P u → P w → P (if b then u else w)
  either true u w one other = one
  either false u w one other = other

  before_sending : P (if has_both_creates v.old_at v.new_at
      then with_status w (CancelPending (side_of caller v.old_provider)) minute v
      else with_status w Canceled minute v)
  before_sending =
      either (has_both_creates v.old_at v.new_at)
      (with_status w (CancelPending (side_of caller v.old_provider)) minute v)
      (with_status w Canceled minute v)
      (rests (CancelPending (side_of caller v.old_provider)) v.spent refl)
      (rests Canceled v.spent refl)

  cancelled : (status : Status) → P (cancelled_by w status caller minute v)
  cancelled Pending = before_sending
  cancelled Conflict = before_sending
  cancelled Failed = rests Canceled v.spent refl
  cancelled (DisconnectPending release) = rests Active v.spent refl
  cancelled _ = stays

  disconnects : needs_attempt c ≡ true → (release : Option ℕ)
      → P (disconnected w release all_carriers minute v)
  disconnects is None = sends is Delete
  disconnects is (Some release) =
      either (nat_lt minute release) (with_status w (DisconnectPending release) minute v)
      (next_attempt w Delete all_carriers minute v) (plans is release) (sends is Delete)

  made : (d : VersionCommand) → needs_attempt d ≡ needs_attempt c
      → P (version_after_command w caller minute all_carriers d v)
  made Activate e = sends (sym e) Create
  made PutInConflict e = rests Conflict true refl
  made RemoveFromConflict e = rests Pending v.spent refl
  made Cancel e = cancelled v.status
  made OldProviderCancellationAcknowledge e = rests Canceled v.spent refl
  made NewProviderCancellationAcknowledge e = rests Canceled v.spent refl
  made (Disconnect release) e = disconnects (sym e) release
  made (ModifyRouting lrn cic) e = sends (sym e) (Modify (record { lrn = lrn; cic = cic }))

  pub changed_by : P (version_after_command w caller minute all_carriers c v)
  changed_by = made c refl
