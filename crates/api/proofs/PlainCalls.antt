-- Calls whose bodies are written plainly.
use Rattle.std.proofs.Common.{ℕ, List, sym}
use Rattle.model.specs.Content.{Content}
use Rattle.settle.specs.declared.store_model.StoreModel.{Ghosts}
use Rattle.http_messages.specs.declared.paths.Route.{Route}
use Rattle.json_api.specs.Forms.{ApiCall}
use Rattle.json_api.specs.Plain.{IsAsked}
use Rattle.api.specs.Crashes.{LeavesCall, LeavesDispatched}
use Rattle.api.specs.Step.{BodyAsks, DispatchesCallOn, Performs}
use Rattle.api.proofs.Left.{Leaves, asks_body, dispatched, left_as}
use Rattle.api.proofs.StepLemmas.{calls_carried}

-- What a body asks is dispatched.
pub plain_calls : (from to : ℕ) (old new : Content) (route : Route) (caller : ℕ) (body : List ℕ)
    (call : ApiCall) (text : List ℕ) → IsAsked route body call
    → Performs from to old new caller call text
    → DispatchesCallOn from to old new (BodyAsks route body) caller text
plain_calls from to old new route caller body call text asked performs = λ st s.
    calls_carried from to new st route caller body asked.value call text (sym asked.json) asked.form
    (performs st s)

-- What a crash in it may leave.
pub plain_left : {S : Type 0} (store : Ghosts S) (old new : S) (route : Route) (caller : ℕ)
    (body : List ℕ) (call : ApiCall) → IsAsked route body call
    → Leaves store old new (λ m. LeavesCall (store.content old) m caller call)
    → Leaves store old new
    (λ m. LeavesDispatched (store.content old) m (BodyAsks route body) caller)
plain_left store old new route caller body call asked left =
    left_as store old new (λ m. LeavesCall (store.content old) m caller call)
    (λ m. LeavesDispatched (store.content old) m (BodyAsks route body) caller) left
    (λ m. dispatched (store.content old) m (BodyAsks route body) caller call
    (asks_body route body asked.value call (sym asked.json) asked.form))
