-- The progress of a run, and the input left.
use Rattle.std.proofs.Common.{◌≡◌, ℕ, ◌+◌, ◌≤◌, List, [], ◌∷◌, ◌++◌, take, length, Option, Some, None, Bool, true, false, cond, refl, sym, ap, ◌∙◌, subst, inl, inr, arith, append-nil, length-append}
use Rattle.std.specs.Prelude.{IfSome}
use Rattle.std.specs.Io.KnownBytes.{Appends, IsAtEnd, prepend_known}
use Rattle.std.proofs.KnownBytes.{Appends-nil, Appends-trans}
use Rattle.std.proofs.lemmas.Grind.{flat_map-append}
use Rattle.std.proofs.lemmas.List.{map-append}
use Rattle.model.specs.Content.{Content}
use Rattle.model.specs.State.{State}
use Rattle.register.specs.Refinement.{Refines}
use Rattle.http_messages.specs.Parsing.{IsNextMessage, ParsesAs, EndOfInput, WholeMessage}
use Rattle.http_messages.specs.Reading.{HasNoWholeMessage, IsReadAhead, IsReadTo}
use Rattle.http_messages.specs.Sending.{AppendsPrefix}
use Rattle.http_messages.specs.declared.fault.MessageFault.{MessageFault}
use Rattle.http_messages.specs.declared.message.NextMessage.{NextMessage}
use Rattle.http_messages.specs.declared.message.Request.{Request}
use Rattle.api.specs.Run.{Exchange, Run, responses, ticks_of}
use Rattle.api.specs.Serving.{AfterExchanges, AfterClose, AfterRefusal, AfterPartialResponse, EndsAt, FailsAt, RefinesReachable, Responds, IoTrace, end_of, message_refusal_text}
use Rattle.api.specs.Step.{Step}
use Rattle.api.specs.Ticks.{later_ticks, ConsumesTick, ConsumesTicks}
use Rattle.api.specs.declared.serving.End.{End}
use Rattle.api.specs.declared.serving.End.TheVariants.{Input, Closed, Refused}
use Rattle.api.specs.declared.serving.Fault.TheVariants as fault
use Rattle.api.proofs.Follows.{follows_on}

-- Holds if `k` messages had their step and were answered, and `left` is the input left.
pub record Going (offered : Bool) (from to : ℕ) (st : State) (new : Content) (input : List ℕ)
    (left had has : Option (List ℕ)) (ticks_before ticks_after : Option (List (Option ℕ)))
    (k : ℕ) : Type 0 where
  pub exchanges : List Exchange
  pub end : State
  pub rest : List ℕ
  pub run : Run offered from to st input exchanges end rest
  pub refines : Refines new end
  pub count : length exchanges ≡ k
  pub supplied : ConsumesTicks ticks_before (ticks_of exchanges) ticks_after
  pub written : Appends had has (responses exchanges)
  pub left_is : left ≡ Some rest

-- Holds if there is such progress from each state that the old content refines.
abbrev pub Progress : (offered : Bool) → (from to : ℕ) → Content → Content
    → (all left had has : Option (List ℕ)) → (ticks_before ticks_after : Option (List (Option ℕ)))
    → ℕ → Type 0
Progress offered from to old new all left had has ticks_before ticks_after k =
    (st : State) → Refines old st
    → RefinesReachable st new
    × IfSome all (λ input. Going offered from to st new input left had has ticks_before
    ticks_after k)

-- Holds if no more was read than the response to this needs. `left` was left of the input before,
-- and `left'` is afterwards.
abbrev pub ReadsFor : (left left' unread : Option (List ℕ)) → NextMessage → Type 0
ReadsFor left left' unread (NextMessage.Message request) =
    (rest : List ℕ) → left' ≡ Some rest → IsReadAhead rest unread
ReadsFor left left' unread (NextMessage.Refused fault) =
    IfSome left (λ rest. IsReadTo fault rest unread)

-- Holds if serving ended so. `left` was left of the input before the last response, and `left'` is
-- afterwards.
abbrev pub HasEnded : End → (offered : Bool) → (from to : ℕ) → State → Content → IoTrace → (k : ℕ)
    → (left left' : Option (List ℕ)) → Type 0
HasEnded Input offered from to st new trace k left left' = ⊥
HasEnded Closed offered from to st new trace k left left' =
    (closed : AfterClose offered from to st new trace k) × (left' ≡ Some closed.rest_after)
HasEnded (Refused fault) offered from to st new trace k left left' =
    (refusal : AfterRefusal fault offered from to st new trace k) × (left ≡ Some refusal.rest)

pub known : (all : Option (List ℕ)) (P Q : List ℕ → Type 0) → ((input : List ℕ) → P input → Q input)
    → IfSome all P → IfSome all Q
known None P Q f p = tt
known (Some input) P Q f p = f input p

pub at_rest : (left : Option (List ℕ)) (rest : List ℕ) (P : List ℕ → Type 0) → left ≡ Some rest
    → IfSome left P → P rest
at_rest left rest P e p = subst (λ l. IfSome l P) e p

-- What was read and not consumed is buffered.
pub buffered_ahead : (buffered : List ℕ) (unread : Option (List ℕ)) (rest : List ℕ)
    → length buffered ≤ 8192 → prepend_known buffered unread ≡ Some rest → IsReadAhead rest unread
buffered_ahead buffered unread rest short e = record { read = buffered; short = short; all = e }

-- ---- the supplied minutes

hands_in_more : (ticks_before mid ticks_after : Option (List (Option ℕ))) (ticks : List (Option ℕ))
    (tick : Option ℕ) → ConsumesTicks ticks_before ticks mid → ConsumesTick mid tick ticks_after
    → ConsumesTicks ticks_before (ticks ++ tick ∷ []) ticks_after
hands_in_more None mid ticks_after ticks tick x y = tt
hands_in_more (Some minutes) mid ticks_after [] tick x y =
    subst (λ (m : Option (List (Option ℕ))). ConsumesTick m tick ticks_after) x y
hands_in_more (Some minutes) mid ticks_after (t ∷ ticks) tick x y = (
  x.0,
  hands_in_more (Some (later_ticks minutes)) mid ticks_after ticks tick x.1 y,
)

supplied_then : (ticks_before mid ticks_after : Option (List (Option ℕ))) (xs : List Exchange)
    (x : Exchange)
    → ConsumesTicks ticks_before (ticks_of xs) mid → ConsumesTick mid x.tick ticks_after
    → ConsumesTicks ticks_before (ticks_of (xs ++ x ∷ [])) ticks_after
supplied_then ticks_before mid ticks_after xs x supplied hands =
    subst (λ (ts : List (Option ℕ)). ConsumesTicks ticks_before ts ticks_after)
    (sym (map-append (λ (y : Exchange). y.tick) xs (x ∷ []))) (hands_in_more ticks_before mid
    ticks_after
    (ticks_of xs) x.tick supplied hands)

supplied_none : (ticks_before : Option (List (Option ℕ)))
    → ConsumesTicks ticks_before [] ticks_before
supplied_none None = tt
supplied_none (Some minutes) = refl

-- ---- one more exchange

responses-then : (xs : List Exchange) (x : Exchange)
    → responses (xs ++ x ∷ []) ≡ responses xs ++ x.response
responses-then xs x = flat_map-append (λ (y : Exchange). y.response) xs (x ∷ [])
    ∙ ap (λ (t : List ℕ). responses xs ++ t) (append-nil x.response)

Run-then : (offered : Bool) (from between to : ℕ) (st mid end : State) (input rest left : List ℕ)
    (xs : List Exchange) (x : Exchange) → Run offered from between st input xs mid rest
    → ParsesAs rest (WholeMessage x.request x.body left) → x.request.closes ≡ false
    → Step offered x.tick between to mid x.request x.body x.response end
    → Run offered from to st input (xs ++ x ∷ []) end left
Run-then offered from between to st mid end input rest left [] x run parses stays step = (
  to,
  end,
  left,
  subst (λ (i : List ℕ). ParsesAs i (WholeMessage x.request x.body left)) run.2 parses,
  stays,
  subst (λ (n : ℕ). Step offered x.tick n to st x.request x.body x.response end) run.0
      (subst (λ (s : State). Step offered x.tick between to s x.request x.body x.response end) run.1
      step),
  (refl, refl, refl),
)
Run-then offered from between to st mid end input rest left (y ∷ ys) x run parses stays step = (
  run.0,
  run.1,
  run.2,
  run.3,
  run.4,
  run.5,
  Run-then offered run.0 between to run.1 mid end run.2 rest left ys x run.6 parses stays step,
)

-- ---- the start

start_of : (offered : Bool) (n : ℕ) (c : Content) (all had : Option (List ℕ))
    (ticks_before : Option (List (Option ℕ))) (st : State) → Refines c st
    → IfSome all (λ input. Going offered n n st c input (prepend_known [] all) had had ticks_before
    ticks_before
    0)
start_of offered n c None had ticks_before st s = tt
start_of offered n c (Some input) had ticks_before st s =
    record {
      exchanges = [];
      end = st;
      rest = input;
      run = (refl, refl, refl);
      refines = s;
      count = refl;
      supplied = supplied_none ticks_before;
      written = Appends-nil had;
      left_is = refl;
    }

pub started : (offered : Bool) (n : ℕ) (c : Content) (buffer : List ℕ) (all had : Option (List ℕ))
    (ticks_before : Option (List (Option ℕ))) → buffer ≡ []
    → Progress offered n n c c all (prepend_known buffer all) had had ticks_before ticks_before 0
started offered n c buffer all had ticks_before e =
    subst (λ (h : List ℕ). Progress offered n n c c all (prepend_known h all) had had ticks_before
    ticks_before
    0) (sym e) (λ st s. (([], s), start_of offered n c all had ticks_before st s))

-- ---- the end of serving

open_of : (b : Bool) → cond b (Some Closed) None ≡ None → b ≡ false
open_of true e = cc
open_of false e = refl

no_end : (end : End) → Some end ≡ None → ⊥
no_end end e = cc

open_next : (next : NextMessage) → end_of next ≡ None → (request : Request)
    × (next ≡ NextMessage.Message request)
    × (request.closes ≡ false)
open_next (NextMessage.Message request) e = (request, refl, open_of request.closes e)
open_next (NextMessage.Refused fault) e = absurd (no_end (Refused fault) e)

closed_of : (b : Bool) (end : End) → cond b (Some Closed) None ≡ Some end
    → (b ≡ true) × (Closed ≡ end)
closed_of true end e = (refl, cc)
closed_of false end e = cc

pub some_inj : (a b : End) → Some a ≡ Some b → a ≡ b
some_inj a b e = cc

pub not_refused : (b : Bool) (fault : MessageFault)
    → cond b (Some Closed) None ≡ Some (Refused fault) → ⊥
not_refused true fault e = cc
not_refused false fault e = cc

module _ (offered : Bool) (from between : ℕ) (old mid : Content)
    (all left had has : Option (List ℕ)) (ticks_before remaining_ticks : Option (List (Option ℕ)))
    (k : ℕ)
    (progress : Progress offered from between old mid all left had has ticks_before remaining_ticks
    k) where
  -- The trace if no more messages were answered.
  abbrev pub trace : List ℕ → Option (List ℕ) → IoTrace
  trace input unread = record {
    input = input;
    unread = unread;
    ticks_before = ticks_before;
    ticks_after = remaining_ticks;
    written_before = had;
    written_after = has;
  }

  abbrev pub whole_of : (st : State) (input : List ℕ) (unread : Option (List ℕ))
      → Going offered from between st mid input left had has ticks_before remaining_ticks k
      → AfterExchanges offered from between st mid (trace input unread) k
  whole_of st input unread g = record {
    exchanges = g.exchanges;
    end = g.end;
    rest = g.rest;
    run = g.run;
    refines = g.refines;
    count = g.count;
    supplied = g.supplied;
    written = g.written;
  }

  -- All that was executed was answered.
  pub whole_to : (unread : Option (List ℕ)) → (st : State) → Refines old st
      → IfSome all (λ input. (whole : AfterExchanges offered from between st mid
      (trace input unread) k) × (left ≡ Some whole.rest))
  whole_to unread st s =
      known all _ (λ input. (whole : AfterExchanges offered from between st mid
      (trace input unread) k) × (left ≡ Some whole.rest))
      (λ input g. (whole_of st input unread g, g.left_is)) (progress st s).1

  -- The input ended.
  pub ended : (unread : Option (List ℕ)) → IfSome left (λ rest. ParsesAs rest EndOfInput)
      → IfSome left (λ rest. IsAtEnd unread) → (st : State) → Refines old st
      → IfSome all (λ input. EndsAt Input offered from between st mid (trace input unread) k)
  ended unread done end st s =
      known all _ (λ input. EndsAt Input offered from between st mid (trace input unread) k)
      (λ input g. (
        whole_of st input unread g,
        at_rest left g.rest (λ rest. ParsesAs rest EndOfInput) g.left_is done,
        at_rest left g.rest (λ rest. IsAtEnd unread) g.left_is end,
      )) (progress st s).1

  pub failed_read : (unread : Option (List ℕ)) → IfSome left (λ rest. HasNoWholeMessage rest unread)
      → (st : State) → Refines old st
      → IfSome all (λ input. FailsAt (fault.Read k) offered from between st mid
      (trace input unread))
  failed_read unread none st s =
      known all _ (λ input. FailsAt (fault.Read k) offered from between st mid (trace input unread))
      (λ input g. (
        whole_of st input unread g,
        at_rest left g.rest (λ rest. HasNoWholeMessage rest unread) g.left_is none,
      )) (progress st s).1

  pub no_memory : (unread : Option (List ℕ)) → IfSome left (λ rest. IsReadAhead rest unread)
      → (st : State) → Refines old st
      → IfSome all (λ input. FailsAt (fault.Memory k) offered from between st mid
      (trace input unread))
  no_memory unread ahead st s =
      known all _ (λ input. FailsAt (fault.Memory k) offered from between st mid
      (trace input unread)) (λ input g. (
        whole_of st input unread g,
        inl (at_rest left g.rest (λ rest. IsReadAhead rest unread) g.left_is ahead),
      )) (progress st s).1

  -- There are more messages than can be counted.
  pub full : (unread : Option (List ℕ)) → k ≡ 18446744073709551615 → (st : State) → Refines old st
      → IfSome all (λ input. FailsAt (fault.Memory k) offered from between st mid
      (trace input unread))
  full unread most st s =
      known all _ (λ input. FailsAt (fault.Memory k) offered from between st mid
      (trace input unread)) (λ input g. (whole_of st input unread g, inr most)) (progress st s).1

  -- A message or a refusal came, and `text` answers it. `left'` is the input left.
  module _ (to : ℕ) (new : Content) (left' : Option (List ℕ))
      (ticks_after : Option (List (Option ℕ))) (body text : List ℕ) where
    abbrev Came : NextMessage → Type 0
    Came next = IfSome left (λ rest. IsNextMessage rest next body left')

    abbrev Answered : NextMessage → Type 0
    Answered next = Responds offered remaining_ticks ticks_after between to next body text mid new

    pub state_then : (next : NextMessage) → Answered next → (st : State) → Refines old st
        → RefinesReachable st new
    state_then (NextMessage.Message request) responds st s =
        follows_on offered responds.0 between to st mid new request body text (progress st s).0
        responds.2
    state_then (NextMessage.Refused fault) responds st s =
        subst (λ (c : Content). RefinesReachable st c) (sym responds.1) (progress st s).0

    module _ (has' unread : Option (List ℕ)) where
      -- The trace after this response.
      abbrev pub trace' : List ℕ → IoTrace
      trace' input = record {
        input = input;
        unread = unread;
        ticks_before = ticks_before;
        ticks_after = ticks_after;
        written_before = had;
        written_after = has';
      }

      -- The message with its response.
      abbrev exchange : (request : Request) → Answered (NextMessage.Message request) → Exchange
      exchange request responds =
          record { tick = responds.0; request = request; body = body; response = text }

      going_then : (request : Request) → request.closes ≡ false → Came (NextMessage.Message request)
          → Answered (NextMessage.Message request) → Appends has has' text
          → (st : State) (input : List ℕ) → Going offered from between st mid input left had has
          ticks_before remaining_ticks k
          → Going offered from to st new input left' had has' ticks_before ticks_after (k + 1)
      going_then request stays comes responds sent st input g =
          let c = at_rest left g.rest (λ i. IsNextMessage i (NextMessage.Message request) body
          left') g.left_is
          comes in
          let r = responds.2 g.end g.refines in
          let x = exchange request responds in
          record {
            exchanges = g.exchanges ++ x ∷ [];
            end = r.0;
            rest = c.0;
            run = Run-then offered from between to st g.end r.0 input g.rest c.0 g.exchanges x g.run
                c.2 stays r.1;
            refines = r.2;
            count = length-append g.exchanges (x ∷ []) ∙ ap (λ (n : ℕ). n + 1) g.count;
            supplied = supplied_then ticks_before remaining_ticks ticks_after g.exchanges x
                g.supplied responds.1;
            written = subst (Appends had has') (sym (responses-then g.exchanges x))
                (Appends-trans had has has' (responses g.exchanges) text g.written sent);
            left_is = c.1;
          }

      on_message : (request : Request) → request.closes ≡ false → Came (NextMessage.Message request)
          → Answered (NextMessage.Message request) → Appends has has' text
          → Progress offered from to old new all left' had has' ticks_before ticks_after (k + 1)
      on_message request stays comes responds sent = λ st s. (
        state_then (NextMessage.Message request) responds st s,
        known all _ (λ input. Going offered from to st new input left' had has' ticks_before
            ticks_after
            (k + 1)) (going_then request stays comes responds sent st) (progress st s).1,
      )

      pub went_on : (next : NextMessage) → end_of next ≡ None → Came next → Answered next
          → Appends has has' text → Progress offered from to old new all left' had has' ticks_before
          ticks_after (k + 1)
      went_on next goes comes responds sent =
          let o = open_next next goes in
          on_message o.0 o.2 (subst Came o.1 comes) (subst Answered o.1 responds) sent

      close_of : (request : Request) → request.closes ≡ true → Came (NextMessage.Message request)
          → Answered (NextMessage.Message request) → Appends has has' text
          → (st : State) (input : List ℕ) → Going offered from between st mid input left had has
          ticks_before remaining_ticks k → (closed : AfterClose offered from to st new
          (trace' input) (k + 1)) × (left' ≡ Some closed.rest_after)
      close_of request closes comes responds sent st input g =
          let c = at_rest left g.rest (λ i. IsNextMessage i (NextMessage.Message request) body
          left') g.left_is
          comes in
          let r = responds.2 g.end g.refines in
          let x = exchange request responds in (
            record {
              exchanges = g.exchanges;
              between = between;
              mid = g.end;
              rest = g.rest;
              run = g.run;
              last = x;
              rest_after = c.0;
              parses = c.2;
              closes = closes;
              end = r.0;
              step = r.1;
              refines = r.2;
              count = ap (λ (n : ℕ). n + 1) g.count;
              supplied = supplied_then ticks_before remaining_ticks ticks_after g.exchanges x
                  g.supplied responds.1;
              written = Appends-trans had has has' (responses g.exchanges) text g.written sent;
            },
            c.1,
          )

      refusal_of : (fault : MessageFault) → Came (NextMessage.Refused fault)
          → Answered (NextMessage.Refused fault) → Appends has has' text
          → (st : State) (input : List ℕ) → (g : Going offered from between st mid input left had
          has
          ticks_before remaining_ticks k)
          → (refusal : AfterRefusal fault offered from to st new (trace' input) (k + 1))
          × (left ≡ Some refusal.rest)
      refusal_of fault comes responds sent st input g = (
        record {
          exchanges = g.exchanges;
          end = g.end;
          rest = g.rest;
          run = subst (λ (n : ℕ). Run offered from n st input g.exchanges g.end g.rest)
              (sym responds.2) g.run;
          refused = at_rest left g.rest (λ i. IsNextMessage i (NextMessage.Refused fault) body
              left')
              g.left_is
              comes;
          refines = subst (λ (c : Content). Refines c g.end) (sym responds.1) g.refines;
          count = ap (λ (n : ℕ). n + 1) g.count;
          supplied = subst (ConsumesTicks ticks_before (ticks_of g.exchanges)) (sym responds.3)
              g.supplied;
          written = Appends-trans had has has' (responses g.exchanges) (message_refusal_text fault)
              g.written
              (subst (Appends has has') responds.0 sent);
        },
        g.left_is,
      )

      pub ends_with : (next : NextMessage) (end : End) → end_of next ≡ Some end → Came next
          → Answered next → Appends has has' text → (st : State) → Refines old st
          → IfSome all (λ input. HasEnded end offered from to st new (trace' input) (k + 1) left
          left')
      ends_with (NextMessage.Message request) end ends comes responds sent st s =
          let is = closed_of request.closes end ends in
          subst (λ (e : End). IfSome all (λ input. HasEnded e offered from to st new (trace' input)
          (k + 1) left left')) is.1
          (known all _ (λ input. HasEnded Closed offered from to st new (trace' input) (k + 1) left
          left') (close_of request is.0 comes responds sent st) (progress st s).1)
      ends_with (NextMessage.Refused fault) end ends comes responds sent st s =
          subst (λ (e : End). IfSome all (λ input. HasEnded e offered from to st new (trace' input)
          (k + 1) left left')) (some_inj (Refused fault) end ends)
          (known all _ (λ input. HasEnded (Refused fault) offered from to st new (trace' input)
          (k + 1) left left') (refusal_of fault comes responds sent st) (progress st s).1)

      read_so : (next : NextMessage) (end : End) → end_of next ≡ Some end
          → ReadsFor left left' unread next → (st : State) (input : List ℕ)
          → HasEnded end offered from to st new (trace' input) (k + 1) left left'
          → EndsAt end offered from to st new (trace' input) (k + 1)
      read_so (NextMessage.Message request) Input ends reads st input has = absurd has
      read_so (NextMessage.Message request) Closed ends reads st input has =
          (has.0, reads has.0.rest_after has.1)
      read_so (NextMessage.Message request) (Refused fault) ends reads st input has =
          absurd (not_refused request.closes fault ends)
      read_so (NextMessage.Refused fault) end ends reads st input has =
          refused_so fault end (some_inj (Refused fault) end ends) reads st input has
        where
          refused_so : (fault : MessageFault) (end : End) → Refused fault ≡ end
              → IfSome left (λ rest. IsReadTo fault rest unread) → (st : State) (input : List ℕ)
              → HasEnded end offered from to st new (trace' input) (k + 1) left left'
              → EndsAt end offered from to st new (trace' input) (k + 1)
          refused_so fault end e reads st input has =
              subst (λ (e : End). EndsAt e offered from to st new (trace' input) (k + 1)) e
              (let h = subst (λ (e : End). HasEnded e offered from to st new (trace' input) (k + 1)
              left left') (sym e) has in
              (h.0, at_rest left h.0.rest (λ rest. IsReadTo fault rest unread) h.1 reads))

      pub finished : (next : NextMessage) (end : End) → end_of next ≡ Some end → Came next
          → ReadsFor left left' unread next → Answered next → Appends has has' text
          → (st : State) → Refines old st
          → IfSome all (λ input. EndsAt end offered from to st new (trace' input) (k + 1))
      finished next end ends comes reads responds sent st s =
          known all _ (λ input. EndsAt end offered from to st new (trace' input) (k + 1))
          (read_so next end ends reads st) (ends_with next end ends comes responds sent st s)

      part_of : (next : NextMessage) → Came next → ReadsFor left left' unread next → Answered next
          → (sent : AppendsPrefix has has' text)
          → (st : State) (input : List ℕ) → Going offered from between st mid input left had has
          ticks_before remaining_ticks k
          → (partial : AfterPartialResponse offered from to st new (trace' input) k)
          × (partial.part ≡ sent.0)
      part_of (NextMessage.Message request) comes reads responds sent st input g =
          let c = at_rest left g.rest (λ i. IsNextMessage i (NextMessage.Message request) body
          left') g.left_is
          comes in
          let r = responds.2 g.end g.refines in
          let x = exchange request responds in (
            record {
              exchanges = g.exchanges;
              between = between;
              mid = g.end;
              rest = g.rest;
              run = g.run;
              remaining_ticks = remaining_ticks;
              supplied = g.supplied;
              response = text;
              end = r.0;
              next = inl (
                x,
                c.0,
                c.2,
                reads c.0 c.1,
                responds.1,
                r.1,
                refl,
              );
              refines = r.2;
              count = g.count;
              part = sent.0;
              written = Appends-trans had has has' (responses g.exchanges) (take sent.0 text)
                  g.written
                  sent.2;
            },
            refl,
          )
      part_of (NextMessage.Refused fault) comes reads responds sent st input g = (
        record {
          exchanges = g.exchanges;
          between = between;
          mid = g.end;
          rest = g.rest;
          run = g.run;
          remaining_ticks = remaining_ticks;
          supplied = g.supplied;
          response = text;
          end = g.end;
          next = inr (
            fault,
            at_rest left g.rest (λ i. IsNextMessage i (NextMessage.Refused fault) body left')
                g.left_is comes,
            at_rest left g.rest (λ i. IsReadTo fault i unread) g.left_is reads,
            responds.3,
            responds.0,
            refl,
            responds.2,
          );
          refines = subst (λ (c : Content). Refines c g.end) (sym responds.1) g.refines;
          count = g.count;
          part = sent.0;
          written = Appends-trans had has has' (responses g.exchanges) (take sent.0 text) g.written
              sent.2;
        },
        refl,
      )

      -- The next response was written in part.
      pub parted : (next : NextMessage) → Came next → ReadsFor left left' unread next
          → Answered next → (sent : AppendsPrefix has has' text) → (st : State) → Refines old st
          → IfSome all (λ input. (partial : AfterPartialResponse offered from to st new
          (trace' input) k) × (partial.part ≡ sent.0))
      parted next comes reads responds sent st s =
          known all _ (λ input. (partial : AfterPartialResponse offered from to st new
          (trace' input) k) × (partial.part ≡ sent.0))
          (part_of next comes reads responds sent st) (progress st s).1

      pub partly : (next : NextMessage) → Came next → ReadsFor left left' unread next
          → Answered next → AppendsPrefix has has' text → (st : State) → Refines old st
          → IfSome all (λ input. FailsAt (fault.Write k) offered from to st new (trace' input))
      partly next comes reads responds sent st s =
          known all _ (λ input. AfterPartialResponse offered from to st new (trace' input) k)
          (λ input p. p.0) (parted next comes reads responds sent st s)

-- The buffers could not be allocated, and nothing was read.
pub not_begun : (offered : Bool) (n : ℕ) (c : Content) (all had : Option (List ℕ))
    (ticks_before : Option (List (Option ℕ))) (st : State) → Refines c st
    → IfSome all (λ input. FailsAt (fault.Memory 0) offered n n st c (record {
      input = input;
      unread = all;
      ticks_before = ticks_before;
      ticks_after = ticks_before;
      written_before = had;
      written_after = had;
    }))
not_begun offered n c None had ticks_before st s = tt
not_begun offered n c (Some input) had ticks_before st s = (
  record {
    exchanges = [];
    end = st;
    rest = input;
    run = (refl, refl, refl);
    refines = s;
    count = refl;
    supplied = supplied_none ticks_before;
    written = Appends-nil had;
  },
  inl (record { read = []; short = omega arith; all = refl }),
)
