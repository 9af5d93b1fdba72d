-- One message: its response, and the state it leads to.
use Rattle.std.specs.Prelude.{◌≡◌, ◌≢◌, ◌⊎◌, ⊤, ℕ, ◌==◌, ◌<◌, ◌≤◌, List, [], length, codes, Bool, true, false, if◌then◌else◌, Option, Some, None, IsSomeAnd, Result, Ok, Err}
use Rattle.numbers.specs.Digits.{IsTn}
use Rattle.numbers.specs.declared.spid.Spid.{Spid}
use Rattle.model.specs.declared.refusal.Refusal.{Refusal}
use Rattle.model.specs.declared.refusal.Refusal.TheVariants.{Storage, NoMemory}
use Rattle.model.specs.Content.{Content}
use Rattle.model.specs.RefusalNumbers.{number_of}
use Rattle.model.specs.State.{State}
use Rattle.model.specs.Refusals.{Input, ClockMoment, QuestionFrom, Knows, Fetch, ShowVersion, Query, AllInForce, Waiting, Ids, npac, refusal}
use Rattle.model.specs.Machine.{Reply, Refused, Moved, Registered, LrnAdded, CodeOpened, Shown, Donated, Known, Fetched, Answered, Rows, Awaited, Found, WindowsSet, out, next}
use Rattle.settle.specs.Reads.{HasDeviceFailed}
use Rattle.register.specs.Refinement.{Refines}
use Rattle.requests.specs.Calls.{ModelCall, RequestCall, QuestionCall, MomentCall, input_of}
use Rattle.telnp.specs.declared.fault.TelFault.{TelFault}
use Rattle.telnp.specs.Answer.{Uri as TelUri}
use Rattle.telnp.specs.Faults.{fault_of}
use Rattle.telnp.specs.Grammar.{has_name}
use Rattle.telnp.specs.Numbers.{HasTn}
use Rattle.telnp.specs.Uri.{IsTelUri}
use Rattle.json_api.specs.declared.fault.Failure.{Failure}
use Rattle.json_api.specs.declared.fault.Failure.TheVariants.{Refused as FailureRefused, Uri, Message}
use Rattle.http_messages.specs.declared.fault.MessageFault.{MessageFault}
use Rattle.http_messages.specs.declared.fault.MessageFault.TheVariants.{BadRequest, NoPath, BadMethod}
use Rattle.http_messages.specs.declared.message.Request.{Request}
use Rattle.http_messages.specs.declared.paths.Method.{Method}
use Rattle.http_messages.specs.declared.paths.Route.{Route}
use Rattle.http_messages.specs.declared.paths.Route.TheVariants.{Version, Number, Downloads}
use Rattle.api.specs.declared.reply.ReplyBounds.{ReplyBounds}
use Rattle.json_api.specs.Response.{response}
use Rattle.json_api.specs.Failures.{failure_text}
use Rattle.json_api.specs.RefusalTexts.{refusal_text}
use Rattle.json_api.specs.Forms.{ApiCall, RegisterCall, UriQuery, HasForm, json_of}
use Rattle.http_messages.specs.Table.{allows_method, offered_route}
use Rattle.json_api.specs.Texts.{registered_text, donated_text, routing_number_text, opened_code_text, ids_text, now_text, windows_set_text, view_text, downloads_text, looked_up, uri_text}

-- ---- the answers to what was asked, byte for byte

-- The whole response to a message that was executed.
unfoldable pub success : List ℕ → List ℕ
success body = response 200 body

-- The response for the machine's reply to a call. Replies without text answer a query, or inputs
-- without a path.
abbrev pub reply_text : Reply → List ℕ
reply_text (Refused number) = refusal_text number
reply_text (Registered spid rows) = success (registered_text spid rows)
reply_text (LrnAdded lrn spid) = success (routing_number_text lrn spid)
reply_text (CodeOpened code spid) = success (opened_code_text code spid)
reply_text (Shown (Some view)) = success (view_text view)
reply_text (Shown None) = []
reply_text (Moved now) = success (now_text now)
reply_text (Donated block ids) = success (donated_text block ids)
reply_text Known = []
reply_text (Fetched downloads) = success (downloads_text downloads)
reply_text (Answered answered) = []
reply_text (Rows rows) = []
reply_text (Awaited subjects) = []
reply_text (Found in_force opened) = success (ids_text in_force opened)
reply_text (WindowsSet now number) = success (windows_set_text now number)

-- The response for the machine's reply to a query on the number of a URI.
abbrev pub routed_text : TelUri → Reply → List ℕ
routed_text uri (Refused number) = refusal_text number
routed_text uri (Answered answered) = success (uri_text (looked_up uri answered))
routed_text uri (Registered spid rows) = []
routed_text uri (LrnAdded lrn spid) = []
routed_text uri (CodeOpened code spid) = []
routed_text uri (Shown view) = []
routed_text uri (Moved now) = []
routed_text uri (Donated block ids) = []
routed_text uri Known = []
routed_text uri (Fetched downloads) = []
routed_text uri (Rows rows) = []
routed_text uri (Awaited subjects) = []
routed_text uri (Found in_force opened) = []
routed_text uri (WindowsSet now number) = []

-- The response to a call: success with the body, or the failure.
abbrev pub response_text : {A : Type 0} → Result A Failure → (body : List ℕ) → List ℕ
response_text (Ok done) body = success body
response_text (Err failure) body = failure_text failure

-- Holds if a message got a reply, be it a refusal, other than `storage` and `no_memory`.
abbrev pub IsReplyAvailable : {A : Type 0} → Result A Failure → Type 0
IsReplyAvailable (Ok done) = ⊤
IsReplyAvailable (Err (FailureRefused refusal)) = (refusal ≢ Storage) × (refusal ≢ NoMemory)
IsReplyAvailable (Err (Uri fault)) = ⊤
IsReplyAvailable (Err (Message fault)) = ⊤

-- Holds if a call is refused because an allocation failed; or because the device failed, and the
-- count of its failures rose.
abbrev pub IsUnavailableRefusal : (from to : ℕ) → Refusal → Type 0
IsUnavailableRefusal from to refusal = ((refusal ≡ Storage) × HasDeviceFailed from to) ⊎ (refusal
    ≡ NoMemory)

-- Holds if a registration shows more rows, a fetch more downloads, or a donation more ids, than
-- were counted.
abbrev pub Outgrows : ReplyBounds → Reply → Type 0
Outgrows bounds (Registered spid rows) = bounds.rows < length rows
Outgrows bounds (Fetched downloads) = bounds.downloads < length downloads
Outgrows bounds (Donated block ids) = bounds.ids < length ids
Outgrows bounds _ = ⊥

-- ---- what a message does to a state; `from` and `to` count the device's failures before and after

-- Holds if the text answers `storage` (29) or `no_memory` (30).
abbrev pub IsUnavailableText : List ℕ → Type 0
IsUnavailableText text = (text ≡ refusal_text 29) ⊎ (text ≡ refusal_text 30)

-- Holds if the text answers `storage` and the device failed meanwhile, or the text answers
-- `no_memory`; the state stays.
abbrev pub IsUnavailable : (from to : ℕ) → State → (text : List ℕ) → (after : State) → Type 0
IsUnavailable from to st text after =
    (((text ≡ refusal_text 29) × HasDeviceFailed from to) ⊎ (text ≡ refusal_text 30)) × (after ≡ st)

-- Holds if the message is refused, and the state stays.
abbrev pub RespondsRefusal : State → MessageFault → (text : List ℕ) → (after : State) → Type 0
RespondsRefusal st fault text after = (text ≡ failure_text (Message fault)) × (after ≡ st)

-- Holds if the text and the next state are the machine's for this input.
abbrev pub RespondsAsMachine : State → Input → (text : List ℕ) → (after : State) → Type 0
RespondsAsMachine st input text after = (text ≡ reply_text (out st input)) × (after ≡ next st input)

-- ---- queries

-- Holds if the text is a `tel` URI of the grammar with these parts.
pub record IsUri (text : List ℕ) (uri : TelUri) : Type 0 where
  pub same : uri.text ≡ text
  pub parts : IsTelUri text uri.number uri.parameters

-- Holds if the register is not asked: the URI has been looked up already, or its digits are not 1
-- and a telephone number.
abbrev pub IsReturnedAsIs : TelUri → Type 0
IsReturnedAsIs uri = (has_name (codes "npdi") uri.parameters ≡ true) ⊎ ((tn : ℕ) → IsTn tn
    → ¬ (HasTn uri.number tn))

-- Holds if the register is asked for this telephone number: the URI has not been looked up, and its
-- digits are 1 and the number.
pub record AsksFor (uri : TelUri) (tn : ℕ) : Type 0 where
  pub valid : IsTn tn
  pub new : has_name (codes "npdi") uri.parameters ≡ false
  pub digits : HasTn uri.number tn

-- Holds for a valid URI if its text comes back byte for byte, or if the text is the answer on its
-- number.
abbrev pub RespondsToUri : State → (caller : ℕ) → (uri : TelUri) → (text : List ℕ) → Type 0
RespondsToUri st caller uri text =
    (IsReturnedAsIs uri × (text ≡ success (uri_text uri.text)))
    ⊎ ((tn : ℕ) × AsksFor uri tn
    × (text ≡ routed_text uri (out st (QuestionFrom caller (Query tn)))))

-- Holds if the text answers a query. The caller is judged first, then the URI, then the code of its
-- number.
abbrev pub RespondsToQuery : State → (caller : ℕ) → (uri : List ℕ) → (text : List ℕ) → Type 0
RespondsToQuery st caller uri text =
    ((number : ℕ) × (out st (QuestionFrom caller Knows) ≡ Refused number)
    × (text ≡ refusal_text number))
    ⊎ ((out st (QuestionFrom caller Knows) ≡ Known)
    × ((fault : TelFault) × (fault_of uri ≡ Some fault)
    × (text ≡ failure_text (Uri fault))))
    ⊎ ((out st (QuestionFrom caller Knows) ≡ Known) × ((read : TelUri) × IsUri uri read
    × RespondsToUri st caller read text))

-- ---- calls

-- The refusal of a caller, for calls whose caller the machine does not judge: only the
-- administrator moves the clock; only a caller that the register knows sees the ids of a number.
abbrev pub caller_refusal : State → (caller : ℕ) → ModelCall → Option ℕ
caller_refusal st caller (MomentCall minute) = if caller == npac then None else Some 2
caller_refusal st caller (QuestionCall (Ids tn)) = refusal st (QuestionFrom caller Knows)
caller_refusal st caller (QuestionCall Knows) = None
caller_refusal st caller (QuestionCall (Fetch n)) = None
caller_refusal st caller (QuestionCall (ShowVersion id)) = None
caller_refusal st caller (QuestionCall (Query tn)) = None
caller_refusal st caller (QuestionCall AllInForce) = None
caller_refusal st caller (QuestionCall Waiting) = None
caller_refusal st caller (RequestCall request) = None

-- Holds if the caller may make the call.
abbrev pub IsCallerAdmitted : State → (caller : ℕ) → ModelCall → Type 0
IsCallerAdmitted st caller called = caller_refusal st caller called ≡ None

-- Holds if the caller may not make the call, or if a failure prevented the decision.
abbrev pub IsCallerRefused : (from to : ℕ) → State → (caller : ℕ) → ModelCall → Refusal → Type 0
IsCallerRefused from to st caller called reason =
    IsUnavailableRefusal from to reason ⊎ (caller_refusal st caller called
    ≡ Some (number_of reason))

-- Holds if a call that is refused for its caller changes nothing, and the machine takes any other.
abbrev pub RespondsToAdmitted : State → (caller_refused : Option ℕ) → Input → (text : List ℕ)
    → (after : State)
    → Type 0
RespondsToAdmitted st (Some number) input text after = (text ≡ refusal_text number) × (after ≡ st)
RespondsToAdmitted st None input text after = RespondsAsMachine st input text after

abbrev pub RespondsToCall : State → (caller : ℕ) → ModelCall → (text : List ℕ) → (after : State)
    → Type 0
RespondsToCall st caller called text after =
    RespondsToAdmitted st (caller_refusal st caller called) (input_of caller called) text after

-- ---- what a caller asks

-- Holds if the text answers what the caller asks, or is `storage` or `no_memory`.
abbrev pub RespondsTo : (from to : ℕ) → State → (caller : ℕ) → ApiCall → (text : List ℕ)
    → (after : State) → Type 0
RespondsTo from to st caller (RegisterCall called) text after = IsUnavailable from to st text after
    ⊎ RespondsToCall st caller called text after
RespondsTo from to st caller (UriQuery uri) text after = IsUnavailable from to st text after
    ⊎ (RespondsToQuery st caller uri text × (after ≡ st))

-- ---- messages

-- Holds if the body is JSON of the route's form, and asks this.
abbrev pub BodyAsks : Route → (body : List ℕ) → ApiCall → Type 0
BodyAsks route body asked = IsSomeAnd (json_of body) (λ d. HasForm route d asked)

-- Holds if the path ends in an id, the body is empty, and the request is for that version.
abbrev pub IdAsks : Option ℕ → (body : List ℕ) → ApiCall → Type 0
IdAsks number body asked = (id : ℕ) × (number ≡ Some id) × (body ≡ [])
    × (asked ≡ RegisterCall (QuestionCall (ShowVersion id)))

-- Holds if the path ends in a telephone number, the body is empty, and the request is for the ids
-- of that number.
abbrev pub NumberAsks : Option ℕ → (body : List ℕ) → ApiCall → Type 0
NumberAsks number body asked = (tn : ℕ) × (number ≡ Some tn) × IsTn tn × (body ≡ [])
    × (asked ≡ RegisterCall (QuestionCall (Ids tn)))

-- Holds if the path ends in a number from 1 to 100, the body is empty, and the request is for that
-- many downloads.
abbrev pub CountAsks : Option ℕ → (body : List ℕ) → ApiCall → Type 0
CountAsks count body asked = (n : ℕ) × (count ≡ Some n) × (1 ≤ n) × (n ≤ 100) × (body ≡ [])
    × (asked ≡ RegisterCall (QuestionCall (Fetch n)))

-- Holds if a message on the route asks this.
abbrev pub PathAsks : Route → (body : List ℕ) → ApiCall → Type 0
PathAsks (Version number) body asked = IdAsks number body asked
PathAsks (Number number) body asked = NumberAsks number body asked
PathAsks (Downloads count) body asked = CountAsks count body asked
PathAsks route body asked = BodyAsks route body asked

-- Holds if a message that asks nothing is refused, and any other is answered.
abbrev pub DispatchesCall : (from to : ℕ) → State → (IsAsked : ApiCall → Type 0) → (caller : ℕ)
    → (text : List ℕ) → (after : State) → Type 0
DispatchesCall from to st IsAsked caller text after =
    IsUnavailable from to st text after
    ⊎ (((asked : ApiCall) → ¬ (IsAsked asked)) × RespondsRefusal st BadRequest text after)
    ⊎ ((asked : ApiCall) × IsAsked asked × RespondsTo from to st caller asked text after)

-- Holds if, on a route, the method is judged first, then the caller, then the request.
abbrev pub DispatchesPath : (from to : ℕ) → State → Route → (has_method : Bool)
    → (caller : Option Spid)
    → (body text : List ℕ) → (after : State) → Type 0
DispatchesPath from to st route false caller body text after =
    RespondsRefusal st BadMethod text after
DispatchesPath from to st route true None body text after = RespondsRefusal st BadRequest text after
DispatchesPath from to st route true (Some caller) body text after =
    DispatchesCall from to st (PathAsks route body) caller.number text after

-- Holds if the path is judged before the method, the caller and the request.
abbrev pub Dispatches : (from to : ℕ) → State → Option Route → Method → (caller : Option Spid)
    → (body text : List ℕ) → (after : State) → Type 0
Dispatches from to st None method caller body text after = RespondsRefusal st NoPath text after
Dispatches from to st (Some route) method caller body text after =
    DispatchesPath from to st route (allows_method route method) caller body text after

-- The state after the supplied minute, if there is one. A minute below the present one changes
-- nothing.
abbrev pub ticked : State → (tick : Option ℕ) → State
ticked st None = st
ticked st (Some minute) = next st (ClockMoment minute)

-- Holds if the clock's move to the supplied minute fails with `storage` or `no_memory`. The message
-- is answered with that and not executed.
abbrev pub IsTickUnavailable : (from to : ℕ) → State → (tick : Option ℕ) → (text : List ℕ)
    → (after : State) → Type 0
IsTickUnavailable from to st None text after = ⊥
IsTickUnavailable from to st (Some minute) text after = IsUnavailable from to st text after

-- Holds if `text` answers the message and `st` becomes `after`: first the clock moves to the
-- supplied minute, then the message is executed. `offered` says whether `POST /clock` is served.
-- The count of the device's failures never falls.
pub record Step (offered : Bool) (tick : Option ℕ) (from to : ℕ) (st : State) (request : Request)
    (body text : List ℕ) (after : State) : Type 0 where
  pub rises : from ≤ to
  pub outcome :
      IsTickUnavailable from to st tick text after
      ⊎ Dispatches from to (ticked st tick) (offered_route offered request.route) request.method
      request.caller body text after

-- Holds if both responses and both states are the same, unless a response is `storage` or
-- `no_memory`.
abbrev pub IsOnce : (text other : List ℕ) → (after later : State) → Type 0
IsOnce text other after later = IsUnavailableText text ⊎ IsUnavailableText other
    ⊎ ((text ≡ other) × (after ≡ later))

-- Holds if a message with its supplied minute has one response and leads to one state, unless the
-- device or an allocation fails.
abbrev pub StepIsDeterministic : Type 0
StepIsDeterministic =
    (offered : Bool) (tick : Option ℕ) (from to from' to' : ℕ) (st : State) (request : Request)
    (body text other : List ℕ) (after later : State) →
    Step offered tick from to st request body text after
    → Step offered tick from' to' st request body other later → IsOnce text other after later

-- Holds if the response `storage` (29) implies that the device failed during its message, and that
-- at most the clock moved to the supplied minute.
abbrev pub StorageReportsFailure : Type 0
StorageReportsFailure =
    (offered : Bool) (tick : Option ℕ) (from to : ℕ) (st : State) (request : Request)
    (body : List ℕ) (after : State) →
    Step offered tick from to st request body (refusal_text 29) after → HasDeviceFailed from to
    × ((after ≡ st) ⊎ (after ≡ ticked st tick))

-- ---- contents that refine states

-- Holds if the text answers what the caller asks, and the content refines the state afterwards.
abbrev pub IsPerformed : (from to : ℕ) → (new : Content) → State → (caller : ℕ) → ApiCall
    → (text : List ℕ) → Type 0
IsPerformed from to new st caller asked text =
    (after : State) × RespondsTo from to st caller asked text after × Refines new after

-- Holds if `IsPerformed` does for each state that the old content refines.
abbrev pub Performs : (from to : ℕ) → (old new : Content) → (caller : ℕ) → ApiCall → (text : List ℕ)
    → Type 0
Performs from to old new caller asked text = (st : State) → Refines old st
    → IsPerformed from to new st caller asked text

-- Holds if, for each state that the old content refines, a request is dispatched: refused if it
-- asks nothing, else answered.
abbrev pub DispatchesCallOn : (from to : ℕ) → (old new : Content) → (IsAsked : ApiCall → Type 0)
    → (caller : ℕ) → (text : List ℕ) → Type 0
DispatchesCallOn from to old new IsAsked caller text = (st : State) → Refines old st
    → (after : State) × DispatchesCall from to st IsAsked caller text after × Refines new after
