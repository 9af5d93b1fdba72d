-- What a turn, an arrival, an end and a sending make of a client's messages and their responses.
use Rattle.std.proofs.Common.{◌≡◌, ◌⊎◌, inl, inr, ℕ, List, [], ◌∷◌, ◌++◌, take, drop, Option, Some, Result, Ok, Err, Bool, true, false, not, ◌&&◌, refl, sym, ap, ◌∙◌, subst, append_assoc, append-nil}
use Rattle.std.proofs.lemmas.List.{take-append-drop}
use Rattle.std.specs.Prelude.{if◌then◌else◌}
use Rattle.numbers.proofs.Small.{impossible}
use Rattle.model.specs.Content.{Content}
use Rattle.model.specs.State.{State}
use Rattle.http_messages.specs.Arrived.{HasArrived}
use Rattle.http_messages.specs.Parsing.{ParsesAs, RefusedMessage, WholeMessage}
use Rattle.http_messages.specs.declared.arrived.Arrived.TheVariants as arrived
use Rattle.http_messages.specs.declared.fault.MessageFault.{MessageFault}
use Rattle.http_messages.proofs.AtHandLemmas.{message_more}
use Rattle.api.specs.Executing.{Executes, ExecutesTo, consumed_of}
use Rattle.api.specs.Run.{Exchange, responses, ticks_of}
use Rattle.api.specs.Serving.{AfterClose, AfterExchanges, AfterPartialResponse, AfterRefusal, IoTrace, IsNextResponse, message_refusal_text}
use Rattle.api.specs.Ticks.{ConsumesTicks}
use Rattle.api.specs.declared.executor.Executed.{Executed}
use Rattle.api.specs.declared.executor.Lost.{Lost as LostResponse}
use Rattle.api.specs.declared.executor.Progress.{Progress}
use Rattle.api.specs.declared.executor.Progress.TheVariants.{Wants, Paused, Ended as EndsWith}
use Rattle.api.specs.declared.serving.End.TheVariants.{Input, Closed, Refused}
use Rattle.hub.specs.Connections.{ConnectionModel, has_work, is_open, phase_after, with_end, with_executed, with_input, with_sent}
use Rattle.hub.specs.Schedules.{Answers, AnswersButLast, AnswersTo, Begins, BeginsToClose, Chain, TakesSteps}
use Rattle.hub.specs.declared.connection.Phase.{Phase}
use Rattle.hub.specs.declared.connection.Phase.TheVariants.{Open, Stopped, Ended, Lost}
use Rattle.hub.proofs.Chains.{begins_more, begins_then, chain_then, responses-last, responses-then, run_begins, run_chain, supplied_last, supplied_then}

-- ---- a turn

-- The client's bytes when more is appended.
more_output : (received had has more : List ℕ) (xs : List Exchange) → has ≡ had ++ more
    → received ++ had ≡ responses xs → received ++ has ≡ responses xs ++ more
more_output received had has more xs e was =
    ap (λ (t : List ℕ). received ++ t) e ∙ sym (append_assoc received had more)
    ∙ ap (λ (t : List ℕ). t ++ more) was

module _ (offered : Bool) (from to : ℕ) (st : State) (new : Content) (has_ended : Bool)
    (unread had has : List ℕ) (left : Option (List ℕ)) (before after : Option (List (Option ℕ)))
    (input received : List ℕ) (xs : List Exchange) (begins : Begins input xs unread)
    (was : received ++ had ≡ responses xs) where
  abbrev trace : IoTrace
  trace = record {
    input = unread;
    unread = left;
    ticks_before = before;
    ticks_after = after;
    written_before = Some had;
    written_after = Some has;
  }

  -- The messages with those of the turn.
  begins_on : (ys : List Exchange) (rest : List ℕ) → Begins unread ys rest
      → Begins input (xs ++ ys) rest
  begins_on ys rest on = begins_then input unread rest xs ys begins on

  output_on : (ys : List Exchange) → has ≡ had ++ responses ys
      → received ++ has ≡ responses (xs ++ ys)
  output_on ys e = more_output received had has (responses ys) xs e was ∙ sym (responses-then xs ys)

  exchanged : (k : ℕ) (rest : List ℕ) (Holds : List Exchange → Type 0)
      → (whole : AfterExchanges offered from to st new trace k) → whole.rest ≡ rest
      → (Begins input (xs ++ whole.exchanges) rest
      → received ++ has ≡ responses (xs ++ whole.exchanges) → Holds whole.exchanges)
      → TakesSteps offered from to st new before after Holds
  exchanged k rest Holds whole is_rest holds = record {
    exchanges = whole.exchanges;
    end = whole.end;
    chain = run_chain offered from to st unread whole.exchanges whole.end whole.rest whole.run;
    refines = whole.refines;
    supplied = whole.supplied;
    holds = holds
        (begins_on whole.exchanges rest
        (subst (λ (r : List ℕ). Begins unread whole.exchanges r) is_rest
        (run_begins offered from to st unread whole.exchanges whole.end whole.rest whole.run)))
        (output_on whole.exchanges whole.written);
  }

  closed : (k : ℕ) → (is : AfterClose offered from to st new trace k)
      → TakesSteps offered from to st new before after
      (λ ys. BeginsToClose input (xs ++ ys) × (received ++ has ≡ responses (xs ++ ys)))
  closed k is =
      let ys = is.exchanges ++ is.last ∷ [] in
      record {
        exchanges = is.exchanges ++ is.last ∷ [];
        end = is.end;
        chain = chain_then offered from is.between to st is.mid is.end is.exchanges (is.last ∷ [])
            (run_chain offered from is.between st unread is.exchanges is.mid is.rest is.run)
            (to, is.end, is.step, (refl, refl));
        refines = is.refines;
        supplied = is.supplied;
        holds = (
          record {
            earlier = xs ++ is.exchanges;
            last = is.last;
            rest = is.rest;
            rest_after = is.rest_after;
            all = sym (append_assoc xs is.exchanges (is.last ∷ []));
            begins = begins_on is.exchanges is.rest
                (run_begins offered from is.between st unread is.exchanges is.mid is.rest is.run);
            parses = is.parses;
            closes = is.closes;
          },
          output_on ys
              (is.written ∙ ap (λ (t : List ℕ). had ++ t)
              (sym (responses-last is.exchanges is.last))),
        );
      }

  refused : (fault : MessageFault) (k : ℕ) (rest : List ℕ)
      → (is : AfterRefusal fault offered from to st new trace k) → is.rest ≡ rest
      → HasArrived rest has_ended (arrived.Refused fault)
      → TakesSteps offered from to st new before after
      (λ ys. Answers (Ended (Refused fault)) rest input has_ended (xs ++ ys) (received ++ has))
  refused fault k rest is is_rest arrived = record {
    exchanges = is.exchanges;
    end = is.end;
    chain = run_chain offered from to st unread is.exchanges is.end is.rest is.run;
    refines = is.refines;
    supplied = is.supplied;
    holds = (
      rest,
      begins_on is.exchanges rest
          (subst (λ (r : List ℕ). Begins unread is.exchanges r) is_rest
          (run_begins offered from to st unread is.exchanges is.end is.rest is.run)),
      arrived,
      more_output received had has (responses is.exchanges ++ message_refusal_text fault) xs
          is.written was
          ∙ sym (append_assoc (responses xs) (responses is.exchanges) (message_refusal_text fault))
          ∙ ap (λ (t : List ℕ). t ++ message_refusal_text fault)
          (sym (responses-then xs is.exchanges)),
    );
  }

  executed : (progress : Progress) (k : ℕ) (rest : List ℕ)
      → ExecutesTo progress offered has_ended from to st new trace k rest
      → TakesSteps offered from to st new before after
      (λ ys. Answers (phase_after progress) rest input has_ended (xs ++ ys) (received ++ has))
  executed (Wants wanted) k rest is =
      exchanged k rest _ is.0 is.1 (λ begins output. (begins, output))
  executed Paused k rest is = exchanged k rest _ is.0 is.1 (λ begins output. (begins, output))
  executed (EndsWith Input) k rest is =
      exchanged k rest _ is.0 is.1 (λ begins output. (rest, begins, is.2, output))
  executed (EndsWith Closed) k rest is = closed k is.0
  executed (EndsWith (Refused fault)) k rest is = refused fault k rest is.0 is.1 is.2

  -- The output when the next response is lost.
  kept_output : (ys : List Exchange) (part : ℕ) (response : List ℕ) → part ≡ 0
      → has ≡ had ++ (responses ys ++ take part response)
      → received ++ has ≡ responses (xs ++ ys)
  kept_output ys part response none written = output_on ys
      (written
      ∙ ap (λ (n : ℕ). had ++ (responses ys ++ take n response)) none
      ∙ ap (λ (t : List ℕ). had ++ t) (append-nil (responses ys)))

  next_lost : (k : ℕ) → (is : AfterPartialResponse offered from to st new trace k) → is.part ≡ 0
      → IsNextResponse offered is.between to is.mid is.rest left is.remaining_ticks after
      is.response is.end
      → TakesSteps offered from to st new before after
      (λ ys. AnswersButLast input (xs ++ ys) (received ++ has))
  next_lost k is none (inl next) = record {
    exchanges = is.exchanges ++ next.0 ∷ [];
    end = is.end;
    chain = chain_then offered from is.between to st is.mid is.end is.exchanges (next.0 ∷ [])
        (run_chain offered from is.between st unread is.exchanges is.mid is.rest is.run)
        (to, is.end, next.5, (refl, refl));
    refines = is.refines;
    supplied = supplied_then before is.remaining_ticks after is.exchanges (next.0 ∷ []) is.supplied
        (supplied_last is.remaining_ticks after next.0 next.4);
    holds = record {
      answered = xs ++ is.exchanges;
      rest = is.rest;
      begins = begins_on is.exchanges is.rest
          (run_begins offered from is.between st unread is.exchanges is.mid is.rest is.run);
      answers = kept_output is.exchanges is.part is.response none is.written;
      last = inr (next.0, next.1, next.2, sym (append_assoc xs is.exchanges (next.0 ∷ [])));
    };
  }
  next_lost k is none (inr next) = record {
    exchanges = is.exchanges;
    end = is.end;
    chain = subst (λ (s : State). Chain offered from to st is.exchanges s) (sym next.5)
        (subst (λ (n : ℕ). Chain offered from n st is.exchanges is.mid) (sym next.6)
        (run_chain offered from is.between st unread is.exchanges is.mid is.rest is.run));
    refines = is.refines;
    supplied = subst (λ (t : Option (List (Option ℕ))). ConsumesTicks before
        (ticks_of is.exchanges) t) (sym next.3) is.supplied;
    holds = record {
      answered = xs ++ is.exchanges;
      rest = is.rest;
      begins = begins_on is.exchanges is.rest
          (run_begins offered from is.between st unread is.exchanges is.mid is.rest is.run);
      answers = kept_output is.exchanges is.part is.response none is.written;
      last = inl refl;
    };
  }

-- ---- the other events

module _ (input more : List ℕ) (xs : List Exchange) where
  close_more : BeginsToClose input xs → BeginsToClose (input ++ more) xs
  close_more is = record {
    earlier = is.earlier;
    last = is.last;
    rest = is.rest ++ more;
    rest_after = is.rest_after ++ more;
    all = is.all;
    begins = begins_more input is.rest more is.earlier is.begins;
    parses = message_more is.rest is.last.request is.last.body is.rest_after more is.parses;
    closes = is.closes;
  }

  last_more : (rest : List ℕ) (answered : List Exchange)
      → (xs ≡ answered) ⊎ ((x : Exchange) × (rest_after : List ℕ)
      × ParsesAs rest (WholeMessage x.request x.body rest_after) × (xs ≡ answered ++ x ∷ []))
      → (xs ≡ answered) ⊎ ((x : Exchange) × (rest_after : List ℕ)
      × ParsesAs (rest ++ more) (WholeMessage x.request x.body rest_after)
      × (xs ≡ answered ++ x ∷ []))
  last_more rest answered (inl e) = inl e
  last_more rest answered (inr is) = inr
      (is.0, is.1 ++ more, message_more rest is.0.request is.0.body is.1 more is.2, is.3)

  lost_more : (output : List ℕ) → AnswersButLast input xs output
      → AnswersButLast (input ++ more) xs output
  lost_more output is = record {
    answered = is.answered;
    rest = is.rest ++ more;
    begins = begins_more input is.rest more is.answered is.begins;
    answers = is.answers;
    last = last_more is.rest is.answered is.last;
  }

  refused_more : (rest : List ℕ) (fault : MessageFault)
      → HasArrived rest false (arrived.Refused fault)
      → HasArrived (rest ++ more) false (arrived.Refused fault)
  refused_more rest fault is = λ m follows.
      subst (λ (t : List ℕ). ParsesAs t (RefusedMessage fault)) (sym (append_assoc rest more m))
      (is (more ++ m) (λ e. impossible (sym e)))

  arrived_more : (phase : Phase) (unread output : List ℕ)
      → Answers phase unread input false xs output
      → Answers phase (if is_open phase && true then unread ++ more else unread) (input ++ more)
      false xs output
  arrived_more Open unread output is = (begins_more input unread more xs is.0, is.1)
  arrived_more Stopped unread output is =
      (is.0 ++ more, begins_more input is.0 more xs is.1, is.2)
  arrived_more (Ended Input) unread output is = impossible (sym is.2.0)
  arrived_more (Ended Closed) unread output is = (close_more is.0, is.1)
  arrived_more (Ended (Refused fault)) unread output is = (
    is.0 ++ more,
    begins_more input is.0 more xs is.1,
    refused_more is.0 fault is.2,
    is.3,
  )
  arrived_more Lost unread output is = lost_more output is

  -- More has arrived.
  pub arrives : (c : ConnectionModel) (received : List ℕ) → c.has_ended ≡ false
      → AnswersTo c input received xs → AnswersTo (with_input c more) (input ++ more) received xs
  arrives c received runs is =
      subst (λ b. Answers c.phase (if is_open c.phase && not b then c.unread ++ more else c.unread)
      (input ++ more) b xs (received ++ c.unsent)) (sym runs)
      (arrived_more c.phase c.unread (received ++ c.unsent)
      (subst (λ b. Answers c.phase c.unread input b xs (received ++ c.unsent)) runs is))

module _ (input : List ℕ) (xs : List Exchange) where
  ended_input : (phase : Phase) (unread output : List ℕ) (has_ended : Bool)
      → Answers phase unread input has_ended xs output → Answers phase unread input true xs output
  ended_input Open unread output has_ended is = is
  ended_input Stopped unread output has_ended is = is
  ended_input (Ended Input) unread output has_ended is = (is.0, is.1, (refl, is.2.1), is.3)
  ended_input (Ended Closed) unread output has_ended is = is
  ended_input (Ended (Refused fault)) unread output has_ended is =
      (is.0, is.1, (λ more follows. is.2 more (λ e. follows refl)), is.3)
  ended_input Lost unread output has_ended is = is

  -- The input has ended.
  pub ends : (c : ConnectionModel) (received : List ℕ) → AnswersTo c input received xs
      → AnswersTo (with_end c) input received xs
  ends c received is = ended_input c.phase c.unread (received ++ c.unsent) c.has_ended is

  -- Some bytes were sent.
  pub sends : (c : ConnectionModel) (received : List ℕ) (n : ℕ) → AnswersTo c input received xs
      → AnswersTo (with_sent c n) input (received ++ take n c.unsent) xs
  sends c received n is =
      subst (λ (o : List ℕ). Answers c.phase c.unread input c.has_ended xs o)
      (sym (append_assoc received (take n c.unsent) (drop n c.unsent)
      ∙ ap (λ (t : List ℕ). received ++ t) (take-append-drop n c.unsent))) is

-- ---- a turn of a connection

first_of : (a b : Bool) → (a && b) ≡ true → a ≡ true
first_of true b e = refl
first_of false b e = impossible (sym e)

is_open_then : (phase : Phase) → is_open phase ≡ true → phase ≡ Open
is_open_then Open e = refl
is_open_then Stopped e = impossible (sym e)
is_open_then (Ended end) e = impossible (sym e)
is_open_then Lost e = impossible (sym e)

pub open_with_work : (c : ConnectionModel) → has_work c ≡ true → c.phase ≡ Open
open_with_work c e = is_open_then c.phase (first_of (is_open c.phase) _ (first_of _ _ e))

module _ (offered : Bool) (from to : ℕ) (st : State) (new : Content)
    (before after : Option (List (Option ℕ))) (c d : ConnectionModel) where
  abbrev pub turn_trace : Result Executed LostResponse → IoTrace
  turn_trace result = record {
    input = c.unread;
    unread = Some (drop (consumed_of result) c.unread);
    ticks_before = before;
    ticks_after = after;
    written_before = Some c.unsent;
    written_after = Some d.unsent;
  }

  turned_so : (result : Result Executed LostResponse) (input received : List ℕ)
      (xs : List Exchange)
      → Executes result offered c.has_ended from to st new (turn_trace result)
      → Begins input xs c.unread → received ++ c.unsent ≡ responses xs
      → TakesSteps offered from to st new before after
      (λ ys. AnswersTo (with_executed c result d.unsent) input received (xs ++ ys))
  turned_so (Ok done) input received xs is begins was =
      executed offered from to st new c.has_ended c.unread c.unsent d.unsent
      (Some (drop done.consumed c.unread)) before after input received xs begins was done.progress
      done.count (drop done.consumed c.unread) is
  turned_so (Err lost) input received xs is begins was =
      next_lost offered from to st new c.has_ended c.unread c.unsent d.unsent is.0 before after
      input
      received xs begins was lost.count is.1 is.2 is.1.next

  pub turned : (result : Result Executed LostResponse) (input received : List ℕ)
      (xs : List Exchange)
      → Executes result offered c.has_ended from to st new (turn_trace result)
      → d ≡ with_executed c result d.unsent → c.phase ≡ Open → AnswersTo c input received xs
      → TakesSteps offered from to st new before after (λ ys. AnswersTo d input received (xs ++ ys))
  turned result input received xs is e opened was =
      let at_open = subst (λ p. Answers p c.unread input c.has_ended xs (received ++ c.unsent))
      opened was in
      subst (λ m. TakesSteps offered from to st new before after
      (λ ys. AnswersTo m input received (xs ++ ys))) (sym e)
      (turned_so result input received xs is at_open.0 at_open.1)
