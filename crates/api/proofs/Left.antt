-- What a crash may leave, call after call and message after message.
use Rattle.std.proofs.Common.{◌≡◌, ◌≢◌, ◌⊎◌, inl, inr, ℕ, List, [], ◌++◌, Option, Some, None, Bool, true, false, refl, sym, subst, append_assoc, append-nil}
use Rattle.std.specs.Prelude.{IfSome, IsSomeAnd}
use Rattle.std.specs.Io.KnownBytes.{Appends}
use Rattle.std.proofs.KnownBytes.{Appends-trans}
use Rattle.std.proofs.Math.Nat.{le_refl}
use Rattle.numbers.specs.declared.spid.Spid.{Spid}
use Rattle.model.specs.Content.{Content}
use Rattle.model.specs.Machine.{next, out}
use Rattle.model.specs.State.{State}
use Rattle.register.specs.Crashes.{KeepsOrTakesStep, KeepsState}
use Rattle.register.specs.Refinement.{Refines}
use Rattle.requests.specs.Calls.{ModelCall, input_of}
use Rattle.settle.specs.StoreContract.{AddsOnlyCrashStates}
use Rattle.settle.specs.declared.store_model.StoreModel.{Ghosts}
use Rattle.serde_json.specs.Data.{Data}
use Rattle.json_api.specs.Failures.{failure_text}
use Rattle.json_api.specs.Forms.{ApiCall, HasForm, RegisterCall, UriQuery, json_of}
use Rattle.json_api.specs.RefusalTexts.{refusal_text}
use Rattle.json_api.specs.declared.fault.Failure.TheVariants.{Message}
use Rattle.http_messages.specs.Parsing.{IsNextMessage}
use Rattle.http_messages.specs.Table.{allows_method, offered_route}
use Rattle.http_messages.specs.declared.fault.MessageFault.TheVariants.{BadMethod, BadRequest, NoPath}
use Rattle.http_messages.specs.declared.message.NextMessage.{NextMessage}
use Rattle.http_messages.specs.declared.message.Request.{Request}
use Rattle.http_messages.specs.declared.paths.Method.{Method}
use Rattle.http_messages.specs.declared.paths.Route.{Route}
use Rattle.http_messages.specs.declared.paths.Route.TheVariants.{Downloads, Number, Version}
use Rattle.api.specs.Crashes.{LeavesCall, LeavesDispatched, LeavesNext, LeavesPrefix, LeavesStep, RefinesStep}
use Rattle.api.specs.Run.{responses}
use Rattle.api.specs.Step.{BodyAsks, Dispatches, DispatchesPath, IsCallerAdmitted, IsPerformed, PathAsks, RespondsToAdmitted, reply_text, ticked}
use Rattle.api.proofs.Going.{Progress, at_rest}
use Rattle.api.proofs.StepLemmas.{calls_met, met_since, path_carried}

-- ---- one call after another

module _ {S : Type 0} (store : Ghosts S) where
  abbrev pub Leaves : (old new : S) → (Made : Content → Type 0) → Type 0
  Leaves old new Made = AddsOnlyCrashStates store old new (λ m. store.IsUsable old × Made m)

  -- The same in other words.
  pub left_as : (old new : S) (Made Said : Content → Type 0) → Leaves old new Made
      → ((m : Content) → Made m → Said m) → Leaves old new Said
  left_as old new Made Said left says = λ honest m may. by_cases m (left honest m may)
    where
      by_cases : (m : Content) → store.IsCrashState old m ⊎ (store.IsUsable old × Made m)
          → store.IsCrashState old m ⊎ (store.IsUsable old × Said m)
      by_cases m (inl before) = inl before
      by_cases m (inr made) = inr (made.0, says m made.1)

  -- One call and then another.
  pub left_after : (old mid new : S) (First Second Both : Content → Type 0)
      → (store.HasHonestDevice new → store.HasHonestDevice mid)
      → (store.IsUsable mid → store.IsUsable old) → Leaves old mid First → Leaves mid new Second
      → ((m : Content) → First m → Both m)
      → (store.IsUsable mid → (m : Content) → Second m → Both m) → Leaves old new Both
  left_after old mid new First Second Both honest usable first second by_first by_second =
      λ done m may. by_cases done m (second done m may)
    where
      on_first : (m : Content) → store.IsCrashState old m ⊎ (store.IsUsable old × First m)
          → store.IsCrashState old m ⊎ (store.IsUsable old × Both m)
      on_first m (inl before) = inl before
      on_first m (inr made) = inr (made.0, by_first m made.1)

      by_cases : store.HasHonestDevice new → (m : Content)
          → store.IsCrashState mid m ⊎ (store.IsUsable mid × Second m)
          → store.IsCrashState old m ⊎ (store.IsUsable old × Both m)
      by_cases done m (inl before) = on_first m (first (honest done) m before)
      by_cases done m (inr made) = inr (usable made.0, by_second made.0 m made.1)

-- ---- a call

pub kept_call : (old m : Content) (caller : ℕ) (asked : ApiCall) → KeepsState old m
    → LeavesCall old m caller asked
kept_call old m caller (RegisterCall called) keeps = λ n st s.
    (refusal_text 30, (st, inl (inr refl, refl), keeps st s))
kept_call old m caller (UriQuery uri) keeps = λ n st s.
    (refusal_text 30, (st, inl (inr refl, refl), keeps st s))

module _ (old m : Content) (caller : ℕ) (called : ModelCall) where
  taken : (n : ℕ) (st : State) → IsCallerAdmitted st caller called
      → Refines m st ⊎ Refines m (next st (input_of caller called))
      → (text : List ℕ) × IsPerformed n n m st caller (RegisterCall called) text
  taken n st admits (inl same) = (refusal_text 30, (st, inl (inr refl, refl), same))
  taken n st admits (inr after) =
      let input = input_of caller called in
      let text = reply_text (out st input) in (
        text,
        (
          next st input,
          inr (subst (λ (o : Option ℕ). RespondsToAdmitted st o input text (next st input))
              (sym admits) (refl, refl)),
          after,
        ),
      )

  -- A call of a caller that may make it.
  pub taken_call : KeepsOrTakesStep old (input_of caller called) m
      → ((st : State) → Refines old st → IsCallerAdmitted st caller called)
      → LeavesCall old m caller (RegisterCall called)
  taken_call keeps admits = λ n st s. taken n st (admits st s) (keeps st s)

-- The request of a path.
pub dispatched : (old m : Content) (IsAsked : ApiCall → Type 0) (caller : ℕ) (asked : ApiCall)
    → IsAsked asked → LeavesCall old m caller asked → LeavesDispatched old m IsAsked caller
dispatched old m IsAsked caller asked asks leaves = λ n st s.
    let x = leaves n st s in (x.0, x.1.0, inr (inr (asked, asks, x.1.1)), x.1.2)

-- What a body asks.
pub asks_body : (route : Route) (body : List ℕ) (d : Data) (asked : ApiCall)
    → Some d ≡ json_of body → HasForm route d asked → BodyAsks route body asked
asks_body route body d asked e form =
    subst (λ (o : Option Data). IsSomeAnd o (λ (given : Data). HasForm route given asked)) e form

-- On a path without id, telephone number and count, the body makes the request.
pub path_left : (old m : Content) (route : Route) (caller : ℕ) (body : List ℕ)
    → ((number : Option ℕ) → route ≢ Version number)
    → ((number : Option ℕ) → route ≢ Number number)
    → ((count : Option ℕ) → route ≢ Downloads count)
    → LeavesDispatched old m (BodyAsks route body) caller
    → LeavesDispatched old m (PathAsks route body) caller
path_left old m route caller body other another third leaves = λ n st s.
    let x = leaves n st s in
    let y = path_carried n n m st route caller body x.0 other another third (x.1, x.2, x.3) in
    (x.0, y.0, y.1, y.2)

-- ---- a message

-- The request of a route and a caller.
pub message_left : (offered : Bool) (old m : Content) (request : Request) (route : Route)
    (caller : Spid) (body : List ℕ) → offered_route offered request.route ≡ Some route
    → allows_method route request.method ≡ true → request.caller ≡ Some caller
    → LeavesDispatched old m (PathAsks route body) caller.number
    → LeavesStep offered None old m request body
message_left offered old m request route caller body e f g leaves = λ n st s.
    let x = leaves n st s in
    let y = calls_met offered n n m st request route caller body x.0 (le_refl n) e f g
    (x.1, x.2, x.3) in
    (x.0, y.0, y.1, y.2)

-- Some response leaves the state.
some_response : (n : ℕ) (st : State) (route : Option Route) (method : Method)
    (caller : Option Spid) (body : List ℕ)
    → (text : List ℕ) × Dispatches n n st route method caller body text st
some_response n st None method caller body = (failure_text (Message NoPath), (refl, refl))
some_response n st (Some route) method caller body = on_path (allows_method route method) caller
  where
    on_path : (has_method : Bool) (caller : Option Spid)
        → (text : List ℕ) × DispatchesPath n n st route has_method caller body text st
    on_path false caller = (failure_text (Message BadMethod), (refl, refl))
    on_path true None = (failure_text (Message BadRequest), (refl, refl))
    on_path true (Some caller) = (refusal_text 30, inl (inr refl, refl))

module _ (offered : Bool) (request : Request) (body : List ℕ) (n : ℕ) (st : State) (m : Content)
  where
    only_ticked : (tick : Option ℕ) → Refines m (ticked st tick)
        → RefinesStep offered tick n n st request body m
    only_ticked tick s =
        let some = some_response n (ticked st tick) (offered_route offered request.route)
        request.method request.caller body in
        (some.0, ticked st tick, record { rises = le_refl n; outcome = inr some.1 }, s)

    -- At most the clock moved.
    pub tick_left : (tick : Option ℕ) → Refines m st ⊎ Refines m (ticked st tick)
        → RefinesStep offered tick n n st request body m
    tick_left None (inl s) = only_ticked None s
    tick_left (Some minute) (inl s) = (
      refusal_text 30,
      st,
      record { rises = le_refl n; outcome = inl (inr refl, refl) },
      s,
    )
    tick_left tick (inr s) = only_ticked tick s

    -- The clock moved, and then the message was executed.
    pub step_left : (tick : Option ℕ) → RefinesStep offered None n n (ticked st tick) request body m
        → RefinesStep offered tick n n st request body m
    step_left tick (text, after, step, s) = (
      text,
      after,
      record {
        rises = le_refl n;
        outcome = met_since n n n st tick (offered_route offered request.route) request.method
            request.caller body text after (le_refl n) (le_refl n) step.outcome;
      },
      s,
    )

-- ---- messages

module _ (offered : Bool) (from : ℕ) (old : Content) (input : List ℕ)
    (ticks_before : Option (List (Option ℕ))) (had : List ℕ) where
  -- Holds if a prefix of the messages leads to this content.
  abbrev pub IsOfPrefix : (has : List ℕ) → Content → Type 0
  IsOfPrefix has m = (st : State) → Refines old st
      → LeavesPrefix offered from st input ticks_before had has m

  -- More was appended.
  pub more_appended : (has has' text : List ℕ) (m : Content) → Appends (Some has) (Some has') text
      → IsOfPrefix has m → IsOfPrefix has' m
  more_appended has has' text m appends is = λ st s.
      let p = is st s in
      record {
        exchanges = p.exchanges;
        between = p.between;
        mid = p.mid;
        rest = p.rest;
        run = p.run;
        remaining_ticks = p.remaining_ticks;
        supplied = p.supplied;
        more = p.more ++ text;
        written = subst (Appends (Some had) (Some has'))
            (append_assoc (responses p.exchanges) p.more text)
            (Appends-trans (Some had) (Some has) (Some has') (responses p.exchanges ++ p.more) text
            p.written appends);
        tick = p.tick;
        ticks_after = p.ticks_after;
        next_tick = p.next_tick;
        request = p.request;
        body = p.body;
        rest_after = p.rest_after;
        parses = p.parses;
        refines = p.refines;
      }

  -- The messages so far, and the next.
  pub next_left : (between k : ℕ) (mid : Content) (has : List ℕ) (left left' : Option (List ℕ))
      (remaining_ticks ticks_after : Option (List (Option ℕ))) (next : NextMessage)
      (body : List ℕ) (m : Content)
      → Progress offered from between old mid (Some input) left (Some had) (Some has) ticks_before
      remaining_ticks k → IfSome left (λ rest. IsNextMessage rest next body left')
      → LeavesNext offered remaining_ticks ticks_after mid m next body → IsOfPrefix has m
  next_left between k mid has left left' remaining_ticks ticks_after (NextMessage.Message request)
      body m progress comes (tick, consumes, leaves) = λ st s.
      let g = (progress st s).1 in
      let c = at_rest left g.rest (λ i. IsNextMessage i (NextMessage.Message request) body left')
      g.left_is comes in
      record {
        exchanges = g.exchanges;
        between = between;
        mid = g.end;
        rest = g.rest;
        run = g.run;
        remaining_ticks = remaining_ticks;
        supplied = g.supplied;
        more = [];
        written = subst (Appends (Some had) (Some has)) (sym (append-nil (responses g.exchanges)))
            g.written;
        tick = tick;
        ticks_after = ticks_after;
        next_tick = consumes;
        request = request;
        body = body;
        rest_after = c.0;
        parses = c.2;
        refines = λ n. leaves n g.end g.refines;
      }
  next_left between k mid has left left' remaining_ticks ticks_after (NextMessage.Refused fault)
      body m progress comes leaves = absurd leaves

-- One message more. What was appended after it is `text`.
module _ {S : Type 0} (store : Ghosts S) (offered : Bool) (begun mid new : S) (input : List ℕ)
    (ticks_before : Option (List (Option ℕ))) (had has has' text : List ℕ) where
  abbrev LeavesPrefixes : (new : S) → (has : List ℕ) → Type 0
  LeavesPrefixes new has = Leaves store begun new
      (IsOfPrefix offered (store.failed begun) (store.content begun) input ticks_before had has)

  pub left_on : (k : ℕ) (left left' : Option (List ℕ))
      (remaining_ticks ticks_after : Option (List (Option ℕ))) (next : NextMessage)
      (body : List ℕ) → (store.HasHonestDevice new → store.HasHonestDevice mid)
      → (store.IsUsable mid → store.IsUsable begun) → LeavesPrefixes mid has
      → (store.IsUsable mid → Progress offered (store.failed begun) (store.failed mid)
      (store.content begun) (store.content mid) (Some input) left (Some had) (Some has)
      ticks_before remaining_ticks k)
      → IfSome left (λ rest. IsNextMessage rest next body left')
      → Leaves store mid new
      (λ m. LeavesNext offered remaining_ticks ticks_after (store.content mid) m next body)
      → Appends (Some has) (Some has') text → LeavesPrefixes new has'
  left_on k left left' remaining_ticks ticks_after next body honest usable before progress comes
      leaves appends =
      let from = store.failed begun in
      let old = store.content begun in
      left_after store begun mid new (IsOfPrefix offered from old input ticks_before had has)
      (λ m. LeavesNext offered remaining_ticks ticks_after (store.content mid) m next body)
      (IsOfPrefix offered from old input ticks_before had has') honest usable before leaves
      (λ m. more_appended offered from old input ticks_before had has has' text m appends)
      (λ used m is. more_appended offered from old input ticks_before had has has' text m appends
      (next_left offered from old input ticks_before had (store.failed mid) k (store.content mid)
      has left left' remaining_ticks ticks_after next body m (progress used) comes is))
