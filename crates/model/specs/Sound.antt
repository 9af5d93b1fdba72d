-- What holds of a subject's versions, newest first, in every reachable state.
use Rattle.std.specs.Prelude.{◌≡◌, Bool, true, false, List, [], ◌∷◌, ⊤}
use Rattle.numbers.specs.Subjects.{Subject, Number, Block}
use Rattle.model.specs.Statuses.{Status, Pending, Conflict, CancelPending, Sending, Active, PartialFailure, Failed, DisconnectPending, Old, Canceled}
use Rattle.model.specs.Versions.{Version, in_force, is_open}

-- Holds if none of the versions is in force.
abbrev pub NoneInForce : List Version → Type 0
NoneInForce [] = ⊤
NoneInForce (v ∷ vs) = (in_force v ≡ false) × NoneInForce vs

-- Holds if at most one of the versions is in force.
abbrev pub OneInForce : List Version → Type 0
OneInForce [] = ⊤
OneInForce (v ∷ vs) = (in_force v ≡ true → NoneInForce vs) × OneInForce vs

-- Holds if none of the versions is open.
abbrev pub NoneOpen : Subject → List Version → Type 0
NoneOpen s [] = ⊤
NoneOpen s (v ∷ vs) = (is_open s v ≡ false) × NoneOpen s vs

-- Holds if each version in force is active.
abbrev pub InForceIsActive : List Version → Type 0
InForceIsActive [] = ⊤
InForceIsActive (v ∷ vs) = (in_force v ≡ true → v.status ≡ Active) × InForceIsActive vs

-- Whether a block's version can have this status.
abbrev pub block_status : Status → Bool
block_status (Sending action) = true
block_status Active = true
block_status PartialFailure = true
block_status Failed = true
block_status Old = true
block_status Pending = false
block_status Conflict = false
block_status (CancelPending by) = false
block_status (DisconnectPending release) = false
block_status Canceled = false

abbrev pub HaveBlockStatus : List Version → Type 0
HaveBlockStatus [] = ⊤
HaveBlockStatus (v ∷ vs) = (block_status v.status ≡ true) × HaveBlockStatus vs

abbrev pub is_block : Subject → Bool
is_block (Number n) = false
is_block (Block b) = true

-- Holds if only the newest version may be open, at most one is in force, and beside an open one it
-- is active. Of a block's versions only the newest may be in force, and they have only the statuses
-- of blocks.
abbrev pub AreSound : Subject → List Version → Type 0
AreSound s [] = ⊤
AreSound s (v ∷ vs) = NoneOpen s vs × OneInForce (v ∷ vs) × (is_open s v ≡ true
    → InForceIsActive vs)
    × (is_block s ≡ true → HaveBlockStatus (v ∷ vs) × NoneInForce vs)
