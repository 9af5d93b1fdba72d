-- The versions of one number, and what they sent.
use Rattle.std.specs.Prelude.{◌≡◌, ℕ, zero, suc, ◌+◌, ◌++◌, Bool, false, ◌==◌, List, [], ◌∷◌, map, flat_map, Option, Some, None, is_some, All, if◌then◌else◌}
use Rattle.std.specs.FinMap.{get}
use Rattle.numbers.specs.Subjects.{Subject, Number, Block}
use Rattle.model.specs.Content.{BroadcastKey, Content, VersionRow, broadcast_key}
use Rattle.settle.specs.Abstraction.{broadcast_key_of, broadcast_row_of}
use Rattle.settle.specs.Reads.{AreWaiters}
use Rattle.settle.specs.declared.rows.NumberedRow.{NumberedRow}
use Rattle.report.specs.declared.life.Sent.{Sent}

-- The numbers below `n` that pass the test, ascending.
abbrev pub those_below : (ℕ → Bool) → (n : ℕ) → List ℕ
those_below test zero = []
those_below test (suc n) = those_below test n ++ (if test n then n ∷ [] else [])

-- Whether the subject is the number, if there is one.
abbrev pub is_of : Option ℕ → Subject → Bool
is_of None subject = false
is_of (Some tn) (Number n) = n == tn
is_of (Some tn) (Block b) = false

abbrev pub is_row_of : Option ℕ → Option VersionRow → Bool
is_row_of number None = false
is_row_of number (Some row) = is_of number row.subject

-- Holds if these are the version rows of the number with ids below `n`, ascending.
pub record AreVersionsOf (c : Content) (number : Option ℕ) (n : ℕ)
    (versions : List NumberedRow) : Type 0 where
  pub ids : map (λ (v : NumberedRow). v.id) versions
      ≡ those_below (λ id. is_row_of number (get c.versions id)) n
  pub rows : All (λ (v : NumberedRow). get c.versions v.id ≡ Some v.row) versions

-- Holds if the broadcast has this row, and is pending for these carriers.
pub record IsSent (c : Content) (sent : Sent) : Type 0 where
  pub row : get c.broadcasts (broadcast_key_of sent.key) ≡ Some (broadcast_row_of sent.broadcast)
  pub pending : AreWaiters c sent.broadcast.minute.number sent.key.id sent.key.attempt
      sent.pending.items

abbrev pub is_kept : Content → BroadcastKey → Bool
is_kept c key = is_some (get c.broadcasts key)

-- The key, if its broadcast is stored.
abbrev pub key_if_kept : Content → BroadcastKey → List BroadcastKey
key_if_kept c key = if is_kept c key then key ∷ [] else []

-- The keys of a version's broadcasts that are stored, of its attempts 1 to `n`, ascending.
abbrev pub keys_up_to : Content → (id n : ℕ) → List BroadcastKey
keys_up_to c id zero = []
keys_up_to c id (suc n) = keys_up_to c id n ++ key_if_kept c (broadcast_key id (n + 1))

-- The keys of the broadcasts of a version that are stored.
abbrev pub keys_of : Content → NumberedRow → List BroadcastKey
keys_of c v = keys_up_to c v.id v.row.attempt

-- Holds if broadcasts with these keys are appended, each as it is stored.
pub record AddsSent (c : Content) (added : List BroadcastKey) (old new : List Sent) : Type 0 where
  pub keys : map (λ (s : Sent). broadcast_key_of s.key) new
      ≡ map (λ (s : Sent). broadcast_key_of s.key) old ++ added
  pub each : All (IsSent c) old → All (IsSent c) new

-- Holds if these are the stored broadcasts of the versions, ordered as the versions are and by
-- attempt.
pub record AreSent (c : Content) (versions : List NumberedRow) (sent : List Sent) : Type 0 where
  pub keys : map (λ (s : Sent). broadcast_key_of s.key) sent ≡ flat_map (keys_of c) versions
  pub each : All (IsSent c) sent
