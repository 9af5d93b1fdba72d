-- A message as a list of the machine's inputs: the supplied minute, and what the message asks.
use Rattle.std.proofs.Common.{◌≡◌, ◌⊎◌, ℕ, List, [], ◌∷◌, ◌++◌, Option, Some, None, Bool, true, false, refl, sym, subst, ◌∙◌, inl, inr}
use Rattle.model.specs.Content.{Content}
use Rattle.model.specs.Machine.{next, state_after}
use Rattle.model.specs.State.{State}
use Rattle.model.specs.Refusals.{Input, ClockMoment}
use Rattle.register.specs.Refinement.{Refines}
use Rattle.json_api.specs.Forms.{ApiCall, RegisterCall, UriQuery}
use Rattle.requests.specs.Calls.{input_of}
use Rattle.http_messages.specs.Table.{allows_method, offered_route}
use Rattle.http_messages.specs.declared.paths.Method.{Method}
use Rattle.http_messages.specs.declared.paths.Route.{Route}
use Rattle.http_messages.specs.declared.message.Request.{Request}
use Rattle.numbers.specs.declared.spid.Spid.{Spid}
use Rattle.api.specs.Serving.{RefinesReachable}
use Rattle.api.specs.Step.{RespondsToAdmitted, RespondsTo, Dispatches, DispatchesPath, DispatchesCall, PathAsks, Step, IsUnavailable, IsTickUnavailable, ticked, caller_refusal}

-- Holds if some inputs of the machine lead from `st` to `after`.
abbrev Leads : State → State → Type 0
Leads st after = (inputs : List Input) × (after ≡ state_after st inputs)

stays : (st after : State) → after ≡ st → Leads st after
stays st after e = ([], e)

admitted : (st : State) (caller_refused : Option ℕ) (input : Input) (text : List ℕ) (after : State)
    → RespondsToAdmitted st caller_refused input text after → Leads st after
admitted st (Some number) input text after x = stays st after x.1
admitted st None input text after x = (input ∷ [], x.1)

withheld : (from to : ℕ) (st : State) (text : List ℕ) (after : State)
    → IsUnavailable from to st text after → Leads st after
withheld from to st text after x = stays st after x.1

asked_leads : (from to : ℕ) (st : State) (caller : ℕ) (asked : ApiCall) (text : List ℕ)
    (after : State) → RespondsTo from to st caller asked text after → Leads st after
asked_leads from to st caller (RegisterCall called) text after (inl short) =
    withheld from to st text after short
asked_leads from to st caller (RegisterCall called) text after (inr answered) =
    admitted st (caller_refusal st caller called) (input_of caller called) text after answered
asked_leads from to st caller (UriQuery uri) text after (inl short) =
    withheld from to st text after short
asked_leads from to st caller (UriQuery uri) text after (inr answered) = stays st after answered.1

call_leads : (from to : ℕ) (st : State) (IsAsked : ApiCall → Type 0) (caller : ℕ) (text : List ℕ)
    (after : State) → DispatchesCall from to st IsAsked caller text after → Leads st after
call_leads from to st IsAsked caller text after (inl short) = withheld from to st text after short
call_leads from to st IsAsked caller text after (inr (inl refused)) = stays st after refused.1.1
call_leads from to st IsAsked caller text after (inr (inr x)) =
    asked_leads from to st caller x.0 text after x.2

path_leads : (from to : ℕ) (st : State) (route : Route) (has_method : Bool) (caller : Option Spid)
    (body text : List ℕ) (after : State) → DispatchesPath from to st route has_method caller body
    text
    after → Leads st after
path_leads from to st route false caller body text after x = stays st after x.1
path_leads from to st route true None body text after x = stays st after x.1
path_leads from to st route true (Some caller) body text after x =
    call_leads from to st (PathAsks route body) caller.number text after x

meets_leads : (from to : ℕ) (st : State) (route : Option Route) (method : Method)
    (caller : Option Spid) (body text : List ℕ) (after : State)
    → Dispatches from to st route method caller body text after → Leads st after
meets_leads from to st None method caller body text after x = stays st after x.1
meets_leads from to st (Some route) method caller body text after x =
    path_leads from to st route (allows_method route method) caller body text after x

tick_leads : (st : State) (tick : Option ℕ) (after : State) → Leads (ticked st tick) after
    → Leads st after
tick_leads st None after x = x
tick_leads st (Some minute) after x = (ClockMoment minute ∷ x.0, x.1)

tick_withheld_leads : (from to : ℕ) (st : State) (tick : Option ℕ) (text : List ℕ) (after : State)
    → IsTickUnavailable from to st tick text after → Leads st after
tick_withheld_leads from to st None text after x = absurd x
tick_withheld_leads from to st (Some minute) text after x = withheld from to st text after x

step_leads : (offered : Bool) (tick : Option ℕ) (from to : ℕ) (st : State) (request : Request)
    (body text : List ℕ) (after : State) → Step offered tick from to st request body text after
    → Leads st after
step_leads offered tick from to st request body text after x = by_outcome x.outcome
  where
    by_outcome : IsTickUnavailable from to st tick text after
        ⊎ Dispatches from to (ticked st tick) (offered_route offered request.route) request.method
        request.caller body text after → Leads st after
    by_outcome (inl short) = tick_withheld_leads from to st tick text after short
    by_outcome (inr dispatched) =
        tick_leads st tick after (meets_leads from to (ticked st tick)
        (offered_route offered request.route) request.method request.caller body text after
        dispatched)

leads_on : (inputs more : List Input) (st : State)
    → state_after st (inputs ++ more) ≡ state_after (state_after st inputs) more
leads_on [] more st = refl
leads_on (input ∷ inputs) more st = leads_on inputs more (next st input)

-- A state that the machine can reach stays reachable after a message.
pub follows_on : (offered : Bool) (tick : Option ℕ) (from to : ℕ) (st : State) (old new : Content)
    (request : Request) (body text : List ℕ) → RefinesReachable st old
    → ((mid : State) → Refines old mid → (after : State) × Step offered tick from to mid request
    body
    text after × Refines new after) → RefinesReachable st new
follows_on offered tick from to st old new request body text x responds =
    let mid = state_after st x.0 in
    let r = responds mid x.1 in
    let l = step_leads offered tick from to mid request body text r.0 r.1 in
    let whole : r.0 ≡ state_after st (x.0 ++ l.0) = l.1 ∙ sym (leads_on x.0 l.0 st) in
    (x.0 ++ l.0, subst (Refines new) whole r.2)
