-- What was fed, as runs: how feeding ends.
use Rattle.std.proofs.Common.{◌≡◌, ℕ, ◌+◌, List, [], ◌∷◌, ◌++◌, length, Option, Some, None, Ok, Err, Bool, true, refl, sym, ap, ◌∙◌, subst}
use Rattle.std.specs.Io.KnownBytes.{Appends, IsAtEnd}
use Rattle.model.specs.Content.{Content}
use Rattle.model.specs.State.{State}
use Rattle.http_messages.proofs.AtHandLemmas.{message_more, nothing_at, refused_at}
use Rattle.http_messages.specs.Parsing.{ParsesAs, WholeMessage}
use Rattle.http_messages.specs.declared.fault.MessageFault.{MessageFault}
use Rattle.http_messages.specs.declared.message.Request.{Request}
use Rattle.http_messages.specs.Arrived.{HasArrived}
use Rattle.http_messages.specs.declared.arrived.Arrived.TheVariants as begins_with
use Rattle.api.specs.Run.{Exchange, Run, responses, ticks_of}
use Rattle.register.specs.Refinement.{Refines}
use Rattle.api.specs.Serving.{AfterClose, AfterExchanges, AfterRefusal, IoTrace, message_refusal_text}
use Rattle.api.specs.Ticks.{ConsumesTicks}
use Rattle.api.specs.Step.{Step}
use Rattle.api.specs.declared.serving.End.{End}
use Rattle.api.specs.declared.serving.End.TheVariants.{Input, Closed, Refused}
use Rattle.hub.specs.Feeding.{FeedsAs, WritesAll, io_of}
use Rattle.hub.specs.Schedules.{Begins, BeginsToClose, Chain}
use Rattle.hub.specs.declared.connection.Phase.TheVariants.{Open, Ended}
use Rattle.hub.specs.declared.feeding.FeedFault.TheVariants as fault
use Rattle.hub.proofs.Chains.{begins_more, responses-last}

pub run_of : (from to : ℕ) (st : State) (input : List ℕ) (xs : List Exchange) (end : State)
    (rest : List ℕ) → Chain true from to st xs end → Begins input xs rest
    → Run true from to st input xs end rest
run_of from to st input [] end rest chain begins = (chain.0, chain.1, begins)
run_of from to st input (x ∷ xs) end rest chain begins = (
  chain.0,
  chain.1,
  begins.0,
  begins.1,
  begins.2,
  chain.2,
  run_of chain.0 to chain.1 begins.0 xs end rest chain.3 begins.3,
)

-- A chain whose last step is a message's.
abbrev pub EndsWithStep : (from to : ℕ) → State → List Exchange → Exchange → State → Type 0
EndsWithStep from to st xs x end =
    (between : ℕ) × (mid : State) × Chain true from between st xs mid
    × Step true x.tick between to mid x.request x.body x.response end

pub last_step : (from to : ℕ) (st : State) (xs : List Exchange) (x : Exchange) (end : State)
    → Chain true from to st (xs ++ x ∷ []) end → EndsWithStep from to st xs x end
last_step from to st [] x end chain = (
  from,
  st,
  (refl, refl),
  subst (λ (s : State). Step true x.tick from to st x.request x.body x.response s)
      (sym chain.3.1)
      (subst (λ (k : ℕ). Step true x.tick from k st x.request x.body x.response chain.1)
      (sym chain.3.0) chain.2),
)
last_step from to st (y ∷ xs) x end chain =
    let later = last_step chain.0 to chain.1 xs x end chain.3 in
    (later.0, later.1, (chain.0, chain.1, chain.2, later.2), later.3)

module _ (from to : ℕ) (st : State) (new : Content) (input more : List ℕ)
    (had has : Option (List ℕ))
  where
    abbrev known : IoTrace
    known = io_of input (Some more) had has

    module _ (arrived output : List ℕ) (is_read : input ≡ arrived ++ more) (xs : List Exchange)
        (end : State) (refines : Refines new end)
        (supplied : ConsumesTicks (Some []) (ticks_of xs) (Some []))
        (written : Appends had has output) where
      runs : (late : ℕ) (mid : State) (ys : List Exchange) (rest : List ℕ)
          → Chain true from late st ys mid
          → Begins arrived ys rest → Run true from late st input ys mid (rest ++ more)
      runs late mid ys rest chain begins =
          run_of from late st input ys mid (rest ++ more) chain
          (subst (λ (t : List ℕ). Begins t ys (rest ++ more)) (sym is_read)
          (begins_more arrived rest more ys begins))

      abbrev exchanged : (rest : List ℕ) → Chain true from to st xs end → Begins arrived xs rest
          → output ≡ responses xs → AfterExchanges true from to st new known (length xs)
      exchanged rest chain begins answers = record {
        exchanges = xs;
        end = end;
        rest = rest ++ more;
        run = runs to end xs rest chain begins;
        refines = refines;
        count = refl;
        supplied = supplied;
        written = subst (λ (t : List ℕ). Appends had has t) answers written;
      }

      abbrev closed : Chain true from to st xs end → (is : BeginsToClose arrived xs)
          → output ≡ responses xs
          → AfterClose true from to st new known (length is.earlier + 1)
      closed chain is answers =
          let by = last_step from to st is.earlier is.last end
          (subst (λ ys. Chain true from to st ys end) is.all chain) in
          record {
            exchanges = is.earlier;
            between = by.0;
            mid = by.1;
            rest = is.rest ++ more;
            run = runs by.0 by.1 is.earlier is.rest by.2 is.begins;
            last = is.last;
            rest_after = is.rest_after ++ more;
            parses = message_more is.rest is.last.request is.last.body is.rest_after more is.parses;
            closes = is.closes;
            end = end;
            step = by.3;
            refines = refines;
            count = refl;
            supplied = subst (λ ys. ConsumesTicks (Some []) (ticks_of ys) (Some [])) is.all
                supplied;
            written = subst (λ (t : List ℕ). Appends had has t)
                (answers ∙ ap responses is.all ∙ responses-last is.earlier is.last) written;
          }

      abbrev refused : (fault : MessageFault) (rest : List ℕ) (has_ended : Bool)
          → (has_ended ≡ true → IsAtEnd (Some more)) → Chain true from to st xs end
          → Begins arrived xs rest → HasArrived rest has_ended (begins_with.Refused fault)
          → output ≡ responses xs ++ message_refusal_text fault
          → AfterRefusal fault true from to st new known (length xs + 1)
      refused fault rest has_ended at_end chain begins arrives answers = record {
        exchanges = xs;
        end = end;
        rest = rest ++ more;
        run = runs to end xs rest chain begins;
        refused = refused_at rest (Some more) fault (has_ended, at_end, arrives);
        refines = refines;
        count = refl;
        supplied = supplied;
        written = subst (λ (t : List ℕ). Appends had has t) answers written;
      }

    module _ (left : List ℕ) where
      -- Feeding has ended.
      ends_known : (end : End) → WritesAll from to st new known (Ended end) left
          → FeedsAs (Ok end) from to st new known
      ends_known Input is =
          let a = is.answered in let s = a.steps in let h = s.holds in (
            length s.exchanges,
            (
              exchanged a.arrived is.output a.read s.exchanges s.end s.refines s.supplied is.written
                  h.0 s.chain h.1 h.3,
              nothing_at h.0 (Some more) (a.has_ended, a.ended, h.2),
              a.ended h.2.0,
            ),
          )
      ends_known Closed is =
          let a = is.answered in let s = a.steps in let h = s.holds in (
            length h.0.earlier + 1,
            closed a.arrived is.output a.read s.exchanges s.end s.refines s.supplied is.written
                s.chain h.0 h.1,
            (h.0.rest_after, refl),
          )
      ends_known (Refused fault) is =
          let a = is.answered in let s = a.steps in let h = s.holds in (
            length s.exchanges + 1,
            refused a.arrived is.output a.read s.exchanges s.end s.refines s.supplied is.written
                fault h.0 a.has_ended a.ended s.chain h.1 h.2 h.3,
            (h.0, refl),
          )

      -- The reader has failed.
      unread_known : WritesAll from to st new known Open left
          → ((request : Request) (body rest : List ℕ)
          → ¬ (ParsesAs left (WholeMessage request body rest)))
          → FeedsAs (Err fault.Read) from to st new known
      unread_known is none =
          let a = is.answered in let s = a.steps in let h = s.holds in (
            length s.exchanges,
            exchanged a.arrived is.output a.read s.exchanges s.end s.refines s.supplied is.written
                left s.chain h.0 h.1,
            record { read = left; all = refl; none = none },
          )

module _ (from to : ℕ) (st : State) (new : Content) (input : List ℕ)
    (had has : Option (List ℕ)) where
  pub feeds_end : (unread : Option (List ℕ)) (end : End) (left : List ℕ)
      → WritesAll from to st new (io_of input unread had has) (Ended end) left
      → FeedsAs (Ok end) from to st new (io_of input unread had has)
  feeds_end None end left is = absurd is.answered.read
  feeds_end (Some more) end left is = ends_known from to st new input more had has left end is

  pub feeds_unread : (unread : Option (List ℕ)) (left : List ℕ)
      → WritesAll from to st new (io_of input unread had has) Open left
      → ((request : Request) (body rest : List ℕ)
      → ¬ (ParsesAs left (WholeMessage request body rest)))
      → FeedsAs (Err fault.Read) from to st new (io_of input unread had has)
  feeds_unread None left is none = absurd is.answered.read
  feeds_unread (Some more) left is none =
      unread_known from to st new input more had has left is none
