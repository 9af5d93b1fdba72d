-- The counts taken before a call is made, and the memory reserved for its reply.
use Rattle.std.specs.Prelude.{◌≡◌, ℕ, ◌+◌, ◌*◌, ◌≤◌, List, length, Option}
use Rattle.model.specs.Commands.{RegisterCarrier, Donate}
use Rattle.model.specs.History.{CommandRequest}
use Rattle.model.specs.State.{State, all_in_force}
use Rattle.model.specs.Refusals.{Fetch}
use Rattle.requests.specs.Calls.{ModelCall, RequestCall, QuestionCall}
use Rattle.json_api.specs.declared.response.ResponseBuffer.{ResponseBuffer}
use Rattle.json_api.specs.ResponseBuffers.{HasCapacity}
use Rattle.api.specs.declared.reply.ReplyBounds.{ReplyBounds}

-- Holds if the counts bound the reply: the rows of a registration, the downloads that a fetch asks
-- for, and the hundred ids of a donation at most.
pub record AreReplyBounds (st : State) (called : ModelCall) (bounds : ReplyBounds) : Type 0 where
  pub rows : (spid : ℕ) → called ≡ RequestCall (CommandRequest (RegisterCarrier spid))
      → length (all_in_force st) ≡ bounds.rows
  pub downloads : (n : ℕ) → called ≡ QuestionCall (Fetch n) → n ≡ bounds.downloads
  pub ids : (block : ℕ) (used : List ℕ) (lrn : ℕ) (cic : Option ℕ)
      → called ≡ RequestCall (CommandRequest (Donate block used lrn cic)) → 100 ≤ bounds.ids

-- Holds if a body with the counted rows fits, one with the counted downloads, and one with the
-- counted ids.
pub record HasCapacityFor (bounds : ReplyBounds) (r : ResponseBuffer) : Type 0 where
  pub rows : HasCapacity (64 + bounds.rows * 64) r
  pub downloads : HasCapacity (64 + bounds.downloads * 192) r
  pub ids : HasCapacity (64 + bounds.ids * 21) r
