-- A message has one answer and leads to one state, unless the device or an allocation fails.
use Rattle.std.proofs.Common.{◌≡◌, ◌⊎◌, ℕ, List, Bool, true, false, Option, Some, None, IsSomeAnd, inl, inr, ap, subst, sym, ◌∙◌}
use Rattle.numbers.specs.declared.spid.Spid.{Spid}
use Rattle.serde_json.specs.Data.{Data}
use Rattle.model.specs.State.{State}
use Rattle.model.specs.Refusals.{Input, QuestionFrom, Knows, Fetch, ShowVersion, Query, Ids}
use Rattle.model.specs.Machine.{Reply, Refused, Known, out}
use Rattle.telnp.specs.declared.fault.TelFault.{TelFault}
use Rattle.json_api.specs.declared.fault.Failure.TheVariants.{Uri}
use Rattle.http_messages.specs.declared.fault.MessageFault.{MessageFault}
use Rattle.http_messages.specs.declared.message.Request.{Request}
use Rattle.http_messages.specs.declared.paths.Method.{Method}
use Rattle.http_messages.specs.declared.paths.Route.{Route}
use Rattle.http_messages.specs.declared.paths.Route.TheVariants.{Carriers, Clock, RoutingNumbers, Codes, OldProviderCreate, NewProviderCreate, OnVersion, OnBlock, Acknowledge, Query as QueryPath, Windows as WindowsPath, Version, Number, Downloads}
use Rattle.http_messages.specs.Table.{allows_method, offered_route}
use Rattle.requests.specs.Calls.{QuestionCall, input_of}
use Rattle.json_api.specs.Forms.{ApiCall, RegisterCall, UriQuery, HasForm, json_of}
use Rattle.json_api.specs.Failures.{failure_text}
use Rattle.json_api.specs.RefusalTexts.{refusal_text}
use Rattle.api.specs.Step.{Step, Dispatches, DispatchesPath, DispatchesCall, PathAsks, RespondsTo, RespondsToAdmitted, caller_refusal, RespondsToQuery, RespondsToUri, RespondsRefusal, IsUnavailable, IsTickUnavailable, IsOnce, IsUnavailableText, ticked, routed_text}
use Rattle.telnp.specs.Answer.{Uri as TelUri}
use Rattle.json_api.proofs.ClearLemmas.{same_form}
use Rattle.api.proofs.UriLemmas.{faultless, not_asked, same_fault, same_uri, same_number as same_asked_number}
use Rattle.numbers.proofs.Small.{some_is}

refuses_once : (st : State) (fault : MessageFault) (text other : List ℕ) (after later : State)
    → RespondsRefusal st fault text after → RespondsRefusal st fault other later
    → IsOnce text other after later
refuses_once st fault text other after later x y = inr (inr (x.0 ∙ sym y.0, x.1 ∙ sym y.1))

withheld : (from to : ℕ) (st : State) (text : List ℕ) (after : State)
    → IsUnavailable from to st text after → IsUnavailableText text
withheld from to st text after (inl x, e) = inl x.0
withheld from to st text after (inr x, e) = inr x

not_both : (reply : Reply) (k : ℕ) → reply ≡ Refused k → ¬ (reply ≡ Known)
not_both reply k e f = let h : Refused k ≡ Known = sym e ∙ f in cc

same_number : (reply : Reply) (j k : ℕ) → reply ≡ Refused j → reply ≡ Refused k → j ≡ k
same_number reply j k e f = cc

uri_once : (st : State) (caller : ℕ) (uri : TelUri) (text other : List ℕ)
    → RespondsToUri st caller uri text → RespondsToUri st caller uri other → text ≡ other
uri_once st caller uri text other (inl x) (inl y) = x.1 ∙ sym y.1
uri_once st caller uri text other (inl x) (inr y) = absurd (not_asked uri y.0 x.0 y.1)
uri_once st caller uri text other (inr x) (inl y) = absurd (not_asked uri x.0 y.0 x.1)
uri_once st caller uri text other (inr x) (inr y) =
    x.2 ∙ ap (λ (tn : ℕ). routed_text uri (out st (QuestionFrom caller (Query tn))))
    (same_asked_number uri x.0 y.0 x.1 y.1) ∙ sym y.2

query_once : (st : State) (caller : ℕ) (uri text other : List ℕ)
    → RespondsToQuery st caller uri text
    → RespondsToQuery st caller uri other → text ≡ other
query_once st caller uri text other (inl x) (inl y) =
    x.2 ∙ ap refusal_text (same_number (out st (QuestionFrom caller Knows)) x.0 y.0 x.1 y.1)
    ∙ sym y.2
query_once st caller uri text other (inl x) (inr (inl y)) =
    absurd (not_both (out st (QuestionFrom caller Knows)) x.0 x.1 y.0)
query_once st caller uri text other (inl x) (inr (inr y)) =
    absurd (not_both (out st (QuestionFrom caller Knows)) x.0 x.1 y.0)
query_once st caller uri text other (inr (inl x)) (inl y) =
    absurd (not_both (out st (QuestionFrom caller Knows)) y.0 y.1 x.0)
query_once st caller uri text other (inr (inr x)) (inl y) =
    absurd (not_both (out st (QuestionFrom caller Knows)) y.0 y.1 x.0)
query_once st caller uri text other (inr (inl x)) (inr (inl y)) =
    x.1.2 ∙ ap (λ (fault : TelFault). failure_text (Uri fault)) (same_fault uri x.1.0 y.1.0 x.1.1
    y.1.1) ∙ sym y.1.2
query_once st caller uri text other (inr (inl x)) (inr (inr y)) =
    absurd (faultless uri y.1.0 x.1.0 y.1.1 x.1.1)
query_once st caller uri text other (inr (inr x)) (inr (inl y)) =
    absurd (faultless uri x.1.0 y.1.0 x.1.1 y.1.1)
query_once st caller uri text other (inr (inr x)) (inr (inr y)) =
    let e : x.1.0 ≡ y.1.0 = same_uri uri x.1.0 y.1.0 x.1.1 y.1.1 in
    let moved : RespondsToUri st caller y.1.0 text =
    subst (λ (u : TelUri). RespondsToUri st caller u text) e x.1.2 in
    uri_once st caller y.1.0 text other moved y.1.2

-- A call has one response and one state after it.
admitted_once : (st : State) (caller_refused : Option ℕ) (input : Input) (text other : List ℕ)
    (after later : State) → RespondsToAdmitted st caller_refused input text after
    → RespondsToAdmitted st caller_refused input other later → (text ≡ other) × (after ≡ later)
admitted_once st (Some number) input text other after later x y = (x.0 ∙ sym y.0, x.1 ∙ sym y.1)
admitted_once st None input text other after later x y = (x.0 ∙ sym y.0, x.1 ∙ sym y.1)

answers_once : (from to from' to' : ℕ) (st : State) (caller : ℕ) (asked : ApiCall)
    (text other : List ℕ) (after later : State) → RespondsTo from to st caller asked text after
    → RespondsTo from' to' st caller asked other later → IsOnce text other after later
answers_once from to from' to' st caller (RegisterCall called) text other after later (inl x) y =
    inl (withheld from to st text after x)
answers_once from to from' to' st caller (RegisterCall called) text other after later (inr x)
    (inl y) =
    inr (inl (withheld from' to' st other later y))
answers_once from to from' to' st caller (RegisterCall called) text other after later (inr x)
    (inr y) =
    inr (inr (admitted_once st (caller_refusal st caller called) (input_of caller called) text other
    after later x y))
answers_once from to from' to' st caller (UriQuery uri) text other after later (inl x) y =
    inl (withheld from to st text after x)
answers_once from to from' to' st caller (UriQuery uri) text other after later (inr x) (inl y) =
    inr (inl (withheld from' to' st other later y))
answers_once from to from' to' st caller (UriQuery uri) text other after later (inr x) (inr y) =
    inr (inr (query_once st caller uri text other x.0 y.0, x.1 ∙ sym y.1))

same_asked : (route : Route) (read : Option Data) (a b : ApiCall)
    → IsSomeAnd read (λ (d : Data). HasForm route d a)
    → IsSomeAnd read (λ (d : Data). HasForm route d b) → a ≡ b
same_asked route None a b x y = absurd x
same_asked route (Some d) a b x y = same_form route d a b x y

-- A message on a path asks at most one thing.
asks_once : (route : Route) (body : List ℕ) (a b : ApiCall) → PathAsks route body a
    → PathAsks route body b → a ≡ b
asks_once (Version number) body a b x y =
    x.3 ∙ ap (λ (id : ℕ). RegisterCall (QuestionCall (ShowVersion id)))
    (some_is x.0 y.0 (sym x.1 ∙ y.1))
    ∙ sym y.3
asks_once (Number number) body a b x y =
    x.4 ∙ ap (λ (tn : ℕ). RegisterCall (QuestionCall (Ids tn))) (some_is x.0 y.0 (sym x.1 ∙ y.1))
    ∙ sym y.4
asks_once (Downloads count) body a b x y =
    x.5 ∙ ap (λ (n : ℕ). RegisterCall (QuestionCall (Fetch n))) (some_is x.0 y.0 (sym x.1 ∙ y.1))
    ∙ sym y.5
asks_once Carriers body a b x y = same_asked Carriers (json_of body) a b x y
asks_once Clock body a b x y = same_asked Clock (json_of body) a b x y
asks_once RoutingNumbers body a b x y = same_asked RoutingNumbers (json_of body) a b x y
asks_once Codes body a b x y = same_asked Codes (json_of body) a b x y
asks_once OldProviderCreate body a b x y = same_asked OldProviderCreate (json_of body) a b x y
asks_once NewProviderCreate body a b x y = same_asked NewProviderCreate (json_of body) a b x y
asks_once (OnVersion path) body a b x y = same_asked (OnVersion path) (json_of body) a b x y
asks_once (OnBlock path) body a b x y = same_asked (OnBlock path) (json_of body) a b x y
asks_once Acknowledge body a b x y = same_asked Acknowledge (json_of body) a b x y
asks_once QueryPath body a b x y = same_asked QueryPath (json_of body) a b x y
asks_once WindowsPath body a b x y = same_asked WindowsPath (json_of body) a b x y

calls_once : (from to from' to' : ℕ) (st : State) (IsAsked : ApiCall → Type 0) (caller : ℕ)
    (text other : List ℕ) (after later : State) → ((a b : ApiCall) → IsAsked a → IsAsked b → a ≡ b)
    →
    DispatchesCall from to st IsAsked caller text after
    → DispatchesCall from' to' st IsAsked caller other later
    → IsOnce text other after later
calls_once from to from' to' st IsAsked caller text other after later one (inl x) y =
    inl (withheld from to st text after x)
calls_once from to from' to' st IsAsked caller text other after later one (inr (inl x)) (inl y) =
    inr (inl (withheld from' to' st other later y))
calls_once from to from' to' st IsAsked caller text other after later one (inr (inr x)) (inl y) =
    inr (inl (withheld from' to' st other later y))
calls_once from to from' to' st IsAsked caller text other after later one (inr (inl x))
    (inr (inl y)) = inr (inr (x.1.0 ∙ sym y.1.0, x.1.1 ∙ sym y.1.1))
calls_once from to from' to' st IsAsked caller text other after later one (inr (inl x))
    (inr (inr y)) = absurd (x.0 y.0 y.1)
calls_once from to from' to' st IsAsked caller text other after later one (inr (inr x))
    (inr (inl y)) = absurd (y.0 x.0 x.1)
calls_once from to from' to' st IsAsked caller text other after later one (inr (inr x))
    (inr (inr y)) =
    let e : x.0 ≡ y.0 = one x.0 y.0 x.1 y.1 in
    let moved : RespondsTo from to st caller y.0 text after =
    subst (λ (a : ApiCall). RespondsTo from to st caller a text after) e x.2 in
    answers_once from to from' to' st caller y.0 text other after later moved y.2

path_once : (from to from' to' : ℕ) (st : State) (route : Route) (has_method : Bool)
    (caller : Option Spid) (body text other : List ℕ) (after later : State) →
    DispatchesPath from to st route has_method caller body text after
    → DispatchesPath from' to' st route has_method caller body other later
    → IsOnce text other after later
path_once from to from' to' st route false caller body text other after later x y =
    refuses_once st _ text other after later x y
path_once from to from' to' st route true None body text other after later x y =
    refuses_once st _ text other after later x y
path_once from to from' to' st route true (Some caller) body text other after later x y =
    calls_once from to from' to' st (PathAsks route body) caller.number text other after later
    (asks_once route body) x y

met_once : (from to from' to' : ℕ) (st : State) (route : Option Route) (method : Method)
    (caller : Option Spid) (body text other : List ℕ) (after later : State) →
    Dispatches from to st route method caller body text after
    → Dispatches from' to' st route method caller body other later → IsOnce text other after later
met_once from to from' to' st None method caller body text other after later x y =
    refuses_once st _ text other after later x y
met_once from to from' to' st (Some route) method caller body text other after later x y =
    path_once from to from' to' st route (allows_method route method) caller body text other after
    later x y

tick_withheld : (from to : ℕ) (st : State) (tick : Option ℕ) (text : List ℕ) (after : State)
    → IsTickUnavailable from to st tick text after → IsUnavailableText text
tick_withheld from to st None text after x = absurd x
tick_withheld from to st (Some minute) text after x = withheld from to st text after x

-- A message has one response, whether it ends when the clock moves or later.
step_once : (tick : Option ℕ) (from to from' to' : ℕ) (st : State) (route : Option Route)
    (method : Method) (caller : Option Spid) (body text other : List ℕ) (after later : State) →
    IsTickUnavailable from to st tick text after ⊎ Dispatches from to (ticked st tick) route method
    caller
    body text after →
    IsTickUnavailable from' to' st tick other later ⊎ Dispatches from' to' (ticked st tick) route
    method
    caller body other later → IsOnce text other after later
step_once tick from to from' to' st route method caller body text other after later (inl x) y =
    inl (tick_withheld from to st tick text after x)
step_once tick from to from' to' st route method caller body text other after later (inr x)
    (inl y) =
    inr (inl (tick_withheld from' to' st tick other later y))
step_once tick from to from' to' st route method caller body text other after later (inr x)
    (inr y) =
    met_once from to from' to' (ticked st tick) route method caller body text other after later x y

pub steps_once : (offered : Bool) (tick : Option ℕ) (from to from' to' : ℕ) (st : State)
    (request : Request) (body text other : List ℕ) (after later : State) →
    Step offered tick from to st request body text after
    → Step offered tick from' to' st request body other later → IsOnce text other after later
steps_once offered tick from to from' to' st request body text other after later x y =
    step_once tick from to from' to' st (offered_route offered request.route) request.method
    request.caller body text other after later x.outcome y.outcome
