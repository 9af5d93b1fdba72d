-- What reads, groups of commits and writes make of what was fed.
use Rattle.std.proofs.Common.{◌≡◌, ◌⊎◌, inl, inr, ℕ, suc, ◌+◌, ◌<◌, ◌≤◌, List, [], ◌∷◌, ◌++◌, length, take, drop, Option, Some, None, Result, Ok, Err, Bool, true, false, refl, sym, ap, ◌∙◌, subst, append_assoc, append-nil, arith}
use Rattle.std.specs.Prelude.{not, ◌&&◌, ◌||◌, nat_le, IfSome, if◌then◌else◌, ⊤}
use Rattle.std.specs.Io.KnownBytes.{Appends, Consumes, IsAtEnd}
use Rattle.std.proofs.KnownBytes.{Appends-nil, Appends-trans, Consumes-trans}
use Rattle.std.proofs.Math.Nat.{le_refl, le_trans}
use Rattle.std.proofs.lemmas.Bool.Decides.{leb_tells}
use Rattle.std.proofs.lemmas.List.{length-append, take_all}
use Rattle.http_messages.specs.Sending.{AppendsPrefix}
use Rattle.numbers.proofs.Small.{impossible}
use Rattle.model.specs.Content.{Content}
use Rattle.model.specs.State.{State}
use Rattle.register.specs.Refinement.{Refines}
use Rattle.settle.specs.StoreContract.{BeginsGroup, BeginsNoGroup, EndsGroup, EndsNoGroup}
use Rattle.settle.specs.declared.store.StoreFault.{StoreFault}
use Rattle.settle.specs.declared.store_model.StoreModel.{Ghosts}
use Rattle.httparse.specs.Grammar.{RequestHead, print_blank, print_end, print_request, print_section, print_version}
use Rattle.httparse.specs.Ascii.{space}
use Rattle.http_messages.specs.Arrived.{WantsMore}
use Rattle.api.specs.Executing.{Executes, ExecutesTo}
use Rattle.api.specs.Run.{Exchange}
use Rattle.api.specs.Serving.{IoTrace}
use Rattle.api.specs.declared.executor.Executed.{Executed}
use Rattle.api.specs.declared.executor.Lost.{Lost as LostResponse}
use Rattle.api.specs.declared.executor.Progress.{Progress}
use Rattle.api.specs.declared.executor.Progress.TheVariants.{Wants, Paused, Ended as EndsWith}
use Rattle.http_messages.specs.Parsing.{ParsesAs, WholeMessage}
use Rattle.http_messages.specs.declared.message.Request.{Request}
use Rattle.hub.specs.Connections.{ConnectionModel, wanted_after, is_open, new_connection, takes_input, wants_input, with_end, with_executed, with_input, with_sent}
use Rattle.hub.specs.Feeding.{GoesOn, HasAnswered, IsFed, IsSent, Receives, StepsOn, WritesAll, WritesPart, io_of}
use Rattle.hub.specs.Rows.{RowsFollow}
use Rattle.hub.specs.Schedules.{Answers, AnswersTo, TakesSteps}
use Rattle.hub.specs.declared.connection.Phase.{Phase}
use Rattle.hub.specs.declared.connection.Phase.TheVariants.{Open, Stopped, Ended, Lost}
use Rattle.hub.proofs.Chains.{chain_then, supplied_then}
use Rattle.hub.proofs.Played.{no_steps}
use Rattle.hub.proofs.RowsLemmas.{same_as_begun}
use Rattle.hub.proofs.Since.{steps_since}
use Rattle.hub.proofs.Turns.{arrives, ends, sends, turn_trace, turned}

module _ (offered : Bool) (ticks : Option (List (Option ℕ))) where
  -- ---- executing

  -- Some steps, and then others. Between them, failures may be counted.
  pub steps_then : (from past between to : ℕ) (st : State) (mid new : Content)
      (Was Is : List Exchange → Type 0) → past ≤ between
      → TakesSteps offered from past st mid ticks ticks Was
      → ((later : State) → Refines mid later → (xs : List Exchange) → Was xs
      → (last : ℕ) × (last ≤ to)
      × TakesSteps offered between last later new ticks ticks (λ ys. Is (xs ++ ys)))
      → (last : ℕ) × (last ≤ to) × TakesSteps offered from last st new ticks ticks Is
  steps_then from past between to st mid new Was Is before was on =
      let later = on was.end was.refines was.exchanges was.holds in
      let (last, at_most, more) = steps_since offered ticks ticks past between later.0 was.end new _ before later.2 in (
        last,
        le_trans at_most later.1,
        record {
          exchanges = was.exchanges ++ more.exchanges;
          end = more.end;
          chain = chain_then offered from past last st was.end more.end was.exchanges more.exchanges
              was.chain more.chain;
          refines = more.refines;
          supplied = supplied_then ticks ticks ticks was.exchanges more.exchanges
              was.supplied more.supplied;
          holds = more.holds;
        },
      )

  pub steps_stay : (from to : ℕ) (st : State) (new : Content) (c : ConnectionModel) → from ≤ to
      → Refines new st → StepsOn offered ticks from to st new c c
  steps_stay from to st new c rises refines = λ input received earlier was. (
    from,
    rises,
    no_steps offered from st new ticks (λ xs. IsFed c input received (earlier ++ xs)) refines
        (subst (λ xs. IsFed c input received xs) (sym (append-nil earlier)) was),
  )

  -- What is so of the messages of some steps.
  holds_on : (from to : ℕ) (st : State) (new : Content) (Was Is : List Exchange → Type 0)
      → ((xs : List Exchange) → Was xs → Is xs)
      → TakesSteps offered from to st new ticks ticks Was
      → TakesSteps offered from to st new ticks ticks Is
  holds_on from to st new Was Is on was = record {
    exchanges = was.exchanges;
    end = was.end;
    chain = was.chain;
    refines = was.refines;
    supplied = was.supplied;
    holds = on was.exchanges was.holds;
  }

  module _ {S : Type 0} (store : Ghosts S) where
    -- Nothing was executed.
    pub goes_same : (old new : S) (c d : ConnectionModel) → d ≡ c
        → store.failed old ≤ store.failed new
        → (store.IsUsable new → store.content new ≡ store.content old) → GoesOn offered ticks
        store old new c d
    goes_same old new c d kept rises is = record {
      same_end = ap (λ (m : ConnectionModel). m.has_ended) kept;
      steps = λ usable st refines.
          subst (λ (m : ConnectionModel). StepsOn offered ticks (store.failed old) (store.failed
          new) st
          (store.content new) c m) (sym kept)
          (steps_stay (store.failed old) (store.failed new) st (store.content new) c rises
          (subst (λ (m : Content). Refines m st) (sym (is usable)) refines));
    }

    pub goes_stay : (s : S) (c : ConnectionModel) → GoesOn offered ticks store s s c c
    goes_stay s c = goes_same s s c c refl (le_refl (store.failed s)) (λ usable. refl)

    pub goes_then : (old mid new : S) (c m d : ConnectionModel) → RowsFollow store mid new
        → GoesOn offered ticks store old mid c m → GoesOn offered ticks store mid new m d → GoesOn
        offered ticks store old new c d
    goes_then old mid new c m d behind first second = record {
      same_end = second.same_end ∙ first.same_end;
      steps = λ usable st refines input received earlier was.
          let (past, at_most, steps) =
          first.steps (behind.usable usable) st refines input received earlier was in
          steps_then (store.failed old) past (store.failed mid) (store.failed new) st
          (store.content mid) (store.content new)
          (λ xs. IsFed m input received (earlier ++ xs))
          (λ xs. IsFed d input received (earlier ++ xs)) at_most steps
          (λ later r xs is. let (last, within, more) =
          second.steps usable later r input received (earlier ++ xs) is in (
            last,
            within,
            holds_on (store.failed mid) last later (store.content new)
                (λ ys. IsFed d input received ((earlier ++ xs) ++ ys))
                (λ ys. IsFed d input received (earlier ++ (xs ++ ys)))
                (λ ys. subst (λ zs. IsFed d input received zs) (append_assoc earlier xs ys)) more,
          ));
    }

-- ---- how many bytes a connection wants

longer : (xs ys : List ℕ) → 1 ≤ length ys → 1 ≤ length (xs ++ ys)
longer xs ys some = omega (arith, some, length-append xs ys)

grown : (xs ys : List ℕ) → 1 ≤ length xs → 1 ≤ length (xs ++ ys)
grown xs ys some = omega (arith, some, length-append xs ys)

no_head_in_nothing : (h : RequestHead) (rest : List ℕ) → ¬ ([] ≡ print_request h ++ rest)
unfolding print_request
no_head_in_nothing h rest e =
    let asked : List ℕ = print_blank h.blank ++ h.method ++ space ∷ h.target in
    let versioned : List ℕ = asked ++ space ∷ print_version h.minor in
    let some : 1 ≤ length (print_request h) =
    grown (versioned ++ print_end h.line_end) (print_section h.fields h.last)
    (grown versioned (print_end h.line_end) (grown asked (space ∷ print_version h.minor)
    (longer (print_blank h.blank ++ h.method) (space ∷ h.target) (omega arith)))) in
    absurd (omega (arith, some, ap length e, length-append (print_request h) rest))

no_message_in_nothing : (bytes : List ℕ) → length bytes < 1
    → (request : Request) (body rest : List ℕ)
    → ¬ (ParsesAs bytes (WholeMessage request body rest))
no_message_in_nothing [] none request body rest is =
    no_head_in_nothing is.head (body ++ rest) is.front.reads.1
no_message_in_nothing (b ∷ bytes) none request body rest is = absurd (omega (arith, none))

-- A message has a byte.
pub wants_one : (bytes : List ℕ) → WantsMore bytes 1
wants_one bytes = λ more short. no_message_in_nothing (bytes ++ more) short

pub wants_on : (bytes more : List ℕ) (wanted : ℕ) → WantsMore bytes wanted
    → WantsMore (bytes ++ more) wanted
wants_on bytes more wanted wants = λ further short request body rest.
    let e = append_assoc bytes more further in
    subst (λ (t : List ℕ). ¬ (ParsesAs t (WholeMessage request body rest))) (sym e)
    (wants (more ++ further) (subst (λ (t : List ℕ). length t < wanted) e short) request body rest)

pub same_end_after : (c d : ConnectionModel) (result : Result Executed LostResponse)
    → d ≡ with_executed c result d.unsent → d.has_ended ≡ c.has_ended
same_end_after c d (Ok done) e = ap (λ (m : ConnectionModel). m.has_ended) e
same_end_after c d (Err lost) e = ap (λ (m : ConnectionModel). m.has_ended) e

module _ (offered : Bool) (from to : ℕ) (st : State) (new : Content) (c d : ConnectionModel) where
  wants_so : (result : Result Executed LostResponse) (trace : IoTrace) → trace.input ≡ c.unread
      → Executes result offered c.has_ended from to st new trace
      → WantsMore c.unread c.wanted
      → WantsMore (with_executed c result d.unsent).unread
      (with_executed c result d.unsent).wanted
  wants_so (Ok done) trace same is wants =
      by_cases done.progress (subst (λ (t : List ℕ). ExecutesTo done.progress offered c.has_ended
      from to st new trace done.count (drop done.consumed t)) same is)
    where
      by_cases : (progress : Progress) → ExecutesTo progress offered c.has_ended from to st new
          trace done.count (drop done.consumed c.unread)
          → WantsMore (drop done.consumed c.unread) (wanted_after progress)
      by_cases (Wants wanted) is = is.2.2
      by_cases Paused is = wants_one (drop done.consumed c.unread)
      by_cases (EndsWith end) is = wants_one (drop done.consumed c.unread)
  wants_so (Err lost) trace same is wants = wants

  -- A turn of a connection that is fed.
  pub steps_turned : (ticks : Option (List (Option ℕ))) (result : Result Executed LostResponse)
      → Executes result offered c.has_ended from to st new (turn_trace offered from to st new
      ticks ticks c d result)
      → d ≡ with_executed c result d.unsent → c.phase ≡ Open
      → StepsOn offered ticks from to st new c d
  steps_turned ticks result is e opened = λ input received earlier was.
      let steps = turned offered from to st new ticks ticks c d result input received
      earlier is e opened was.0 in
      let wants = subst (λ (m : ConnectionModel). WantsMore m.unread m.wanted) (sym e)
      (wants_so result _ refl is was.1) in (
        to,
        le_refl to,
        record {
          exchanges = steps.exchanges;
          end = steps.end;
          chain = steps.chain;
          refines = steps.refines;
          supplied = steps.supplied;
          holds = (steps.holds, wants);
        },
      )

  -- The same, if the minutes that are supplied are not known.
  pub steps_untimed : (before after : Option (List (Option ℕ)))
      (result : Result Executed LostResponse)
      → Executes result offered c.has_ended from to st new (turn_trace offered from to st new
      before after c d result)
      → d ≡ with_executed c result d.unsent → c.phase ≡ Open
      → StepsOn offered None from to st new c d
  steps_untimed before after result is e opened = λ input received earlier was.
      let steps = turned offered from to st new before after c d result input received
      earlier is e opened was.0 in
      let wants = subst (λ (m : ConnectionModel). WantsMore m.unread m.wanted) (sym e)
      (wants_so result _ refl is was.1) in (
        to,
        le_refl to,
        record {
          exchanges = steps.exchanges;
          end = steps.end;
          chain = steps.chain;
          refines = steps.refines;
          supplied = tt;
          holds = (steps.holds, wants);
        },
      )

-- ---- groups

-- Failures may be counted before the steps, and after them.
steps_wider : (offered : Bool) (ticks : Option (List (Option ℕ))) (early from to late : ℕ)
    (st : State) (new : Content) (c d : ConnectionModel) → early ≤ from → to ≤ late
    → StepsOn offered ticks from to st new c d → StepsOn offered ticks early late st new c d
steps_wider offered ticks early from to late st new c d before behind on =
    λ input received earlier was.
    let (last, at_most, steps) = on input received earlier was in
    let (at, within, more) = steps_since offered ticks ticks early from last st new
    (λ xs. IsFed d input received (earlier ++ xs)) before steps in
    (at, le_trans within (le_trans at_most behind), more)

-- A group of commits that lasts.
module _ (offered : Bool) (ticks : Option (List (Option ℕ))) {S : Type 0} (store : Ghosts S)
    (old begun ran ended : S) (c d : ConnectionModel) (begins : BeginsGroup store old begun (Ok
    true)) (runs : RowsFollow store begun ran) where
  pub goes_grouped : (done : ⊤) → EndsGroup store ran ended (Ok done) → GoesOn offered ticks store
      begun ran c d
      → GoesOn offered ticks store old ended c d
  goes_grouped done ends goes = record {
    same_end = goes.same_end;
    steps = λ usable st refines.
        let at_end = ends.content usable in
        let at_begin = begins.same (runs.usable at_end.0) in
        let on = goes.steps at_end.0 st
        (subst (λ (m : Content). Refines m st) (sym at_begin.1) refines) in
        subst (λ (m : Content). StepsOn offered ticks (store.failed old) (store.failed ended) st m
        c d)
        (sym at_end.1)
        (steps_wider offered ticks (store.failed old) (store.failed begun) (store.failed ran)
        (store.failed ended) st (store.content ran) c d begins.rises ends.leaves.rises on);
  }

  -- A group of commits that does not last: its messages had no step.
  pub goes_undone : (fault : StoreFault) → EndsGroup store ran ended (Err fault)
      → BeginsNoGroup store begun ran → EndsNoGroup store begun ran → GoesOn offered ticks store
      old ended c c
  goes_undone fault ends begins_none ends_none = goes_same offered ticks store old ended c c refl
      (le_trans begins.rises (le_trans runs.rises ends.leaves.rises)) (λ usable.
      (same_as_begun store old begun ran ended begins runs begins_none ends_none ends.content
      usable).1)

-- ---- what was fed

-- Holds if a connection has got this far with what was read of the input.
pub record HasFed (from to : ℕ) (st : State) (new : Content) (trace : IoTrace) (c : ConnectionModel)
    : Type 0 where
  pub arrived : List ℕ
  pub output : List ℕ
  pub read : Consumes (Some trace.input) trace.unread arrived
  pub ended : c.has_ended ≡ true → IsAtEnd trace.unread
  pub written : Appends trace.written_before trace.written_after output
  pub steps : TakesSteps true from to st new (Some []) (Some []) (λ xs. IsFed c arrived output xs)

fewer : (wanted many : ℕ) → ((nat_le wanted many ≡ true) × (wanted ≤ many))
    ⊎ ((nat_le wanted many ≡ false) × (many < wanted)) → not (nat_le wanted many) ≡ true
    → many < wanted
fewer wanted many (inl are) e = impossible (sym (sym (ap not are.0) ∙ e))
fewer wanted many (inr are) e = are.1

pub takes_input_of : (c : ConnectionModel) → wants_input c ≡ true
    → (c.phase ≡ Open) × (c.has_ended ≡ false) × (length c.unread < c.wanted)
takes_input_of c wants = by_cases c.phase c.has_ended refl refl wants
  where
    by_cases : (phase : Phase) (has_ended : Bool) → c.phase ≡ phase → c.has_ended ≡ has_ended
        → (is_open phase && not (has_ended || nat_le c.wanted (length c.unread))) ≡ true
        → (c.phase ≡ Open) × (c.has_ended ≡ false) × (length c.unread < c.wanted)
    by_cases Open false at runs e =
        let few = fewer c.wanted (length c.unread) (leb_tells c.wanted (length c.unread)) e in
        (at, runs, few)
    by_cases Open true at runs e = impossible (sym e)
    by_cases Stopped has_ended at runs e = impossible (sym e)
    by_cases (Ended end) has_ended at runs e = impossible (sym e)
    by_cases Lost has_ended at runs e = impossible (sym e)

module _ (from : ℕ) (st : State) (had : Option (List ℕ)) where
  -- Nothing has been read.
  pub fed_new : (new : Content) (unread : Option (List ℕ)) (c : ConnectionModel)
      → c ≡ new_connection → Refines new st
      → IfSome unread (λ input. HasFed from from st new (io_of input unread had had) c)
  fed_new new None c e refines = tt
  fed_new new (Some input) c e refines =
      subst (λ (m : ConnectionModel). HasFed from from st new (io_of input (Some input) had had) m)
      (sym e)
      (record {
        arrived = [];
        output = [];
        read = refl;
        ended = λ ended. impossible (sym ended);
        written = Appends-nil had;
        steps = no_steps true from st new (Some []) (λ xs. IsFed new_connection [] [] xs) refines
            ((refl, refl), wants_one []);
      })

module _ (from to : ℕ) (st : State) (had : Option (List ℕ)) where
  module _ (new : Content) (input : List ℕ) (unread unread' has : Option (List ℕ))
      (c : ConnectionModel) (wants : wants_input c ≡ true)
      (fed : HasFed from to st new (io_of input unread had has) c) where
    -- More has arrived.
    pub fed_more : (more : List ℕ) → Consumes unread unread' more
        → HasFed from to st new (io_of input unread' had has) (with_input c more)
    fed_more more consumes =
        let at = takes_input_of c wants in
        record {
          arrived = fed.arrived ++ more;
          output = fed.output;
          read = Consumes-trans (Some input) unread unread' fed.arrived more fed.read consumes;
          ended = λ ended. impossible (sym ended ∙ at.1);
          written = fed.written;
          steps = holds_on true (Some []) from to st new (λ xs. IsFed c fed.arrived fed.output xs)
              (λ xs. IsFed (with_input c more) (fed.arrived ++ more) fed.output xs)
              (λ xs is. (
                arrives fed.arrived more xs c fed.output at.1 is.0,
                kept_wants (takes_input c) more is.1,
              )) fed.steps;
        }
      where
        kept_wants : (takes : Bool) (more : List ℕ) → WantsMore c.unread c.wanted
            → WantsMore (if takes then c.unread ++ more else c.unread) c.wanted
        kept_wants true more wants = wants_on c.unread more c.wanted wants
        kept_wants false more wants = wants

    -- The input has ended.
    fed_end : Consumes unread unread' [] → IsAtEnd unread'
        → HasFed from to st new (io_of input unread' had has) (with_end c)
    fed_end consumes at_end = record {
      arrived = fed.arrived ++ [];
      output = fed.output;
      read = Consumes-trans (Some input) unread unread' fed.arrived [] fed.read consumes;
      ended = λ ended. at_end;
      written = fed.written;
      steps = holds_on true (Some []) from to st new (λ xs. IsFed c fed.arrived fed.output xs)
          (λ xs. IsFed (with_end c) (fed.arrived ++ []) fed.output xs)
          (λ xs is. subst (λ (t : List ℕ). IsFed (with_end c) t fed.output xs)
          (sym (append-nil fed.arrived)) (ends fed.arrived xs c fed.output is.0, is.1)) fed.steps;
    }

    pub fed_received : (d : ConnectionModel) → Receives (Ok tt) unread unread' c d
        → HasFed from to st new (io_of input unread' had has) d
    fed_received d (inl (more, consumes, e)) =
        subst (λ (m : ConnectionModel). HasFed from to st new (io_of input unread' had has) m)
        (sym e)
        (fed_more more consumes)
    fed_received d (inr (consumes, at_end, e)) =
        subst (λ (m : ConnectionModel). HasFed from to st new (io_of input unread' had has) m)
        (sym e)
        (fed_end consumes at_end)

  -- What is to be sent was written.
  pub fed_sent : (new : Content) (input : List ℕ) (unread has has' : Option (List ℕ))
      (c d : ConnectionModel) → HasFed from to st new (io_of input unread had has) c
      → IsSent c d has has' → HasFed from to st new (io_of input unread had has') d
  fed_sent new input unread has has' c d fed sent =
      subst (λ (m : ConnectionModel). HasFed from to st new (io_of input unread had has') m)
      (sym sent.0)
      (record {
        arrived = fed.arrived;
        output = fed.output ++ c.unsent;
        read = fed.read;
        ended = fed.ended;
        written = Appends-trans had has has' fed.output c.unsent fed.written sent.1;
        steps = holds_on true (Some []) from to st new (λ xs. IsFed c fed.arrived fed.output xs)
            (λ xs. IsFed (with_sent c (length c.unsent)) fed.arrived (fed.output ++ c.unsent) xs)
            (λ xs is. (
              subst (λ (t : List ℕ). AnswersTo (with_sent c (length c.unsent)) fed.arrived
                  (fed.output ++ t) xs)
                  (take_all (length c.unsent) c.unsent (le_refl (length c.unsent)))
                  (sends fed.arrived xs c fed.output (length c.unsent) is.0),
              is.1,
            )) fed.steps;
      })

-- Messages were executed.
pub fed_went : {S : Type 0} (store : Ghosts S) (from past : ℕ) (st : State)
    (had : Option (List ℕ)) (mid new : S) (c d : ConnectionModel) (input : List ℕ)
    (unread has : Option (List ℕ)) → past ≤ store.failed mid → GoesOn true (Some []) store mid new
    c d
    → store.IsUsable new
    → HasFed from past st (store.content mid) (io_of input unread had has) c
    → (last : ℕ) × (last ≤ store.failed new)
    × HasFed from last st (store.content new) (io_of input unread had has) d
fed_went store from past st had mid new c d input unread has at_most goes usable fed =
    let (last, within, steps) = steps_then true (Some []) from past (store.failed mid)
    (store.failed new) st
    (store.content mid) (store.content new) (λ xs. IsFed c fed.arrived fed.output xs)
    (λ xs. IsFed d fed.arrived fed.output xs) at_most fed.steps
    (λ later r xs is. goes.steps usable later r fed.arrived fed.output xs is) in (
      last,
      within,
      record {
        arrived = fed.arrived;
        output = fed.output;
        read = fed.read;
        ended = λ ended. fed.ended (sym goes.same_end ∙ ended);
        written = fed.written;
        steps = steps;
      },
    )

-- ---- how feeding ends

take_on : (xs ys : List ℕ) (n : ℕ) → take (length xs + n) (xs ++ ys) ≡ xs ++ take n ys
take_on [] ys n =
    let e : length {A = ℕ} [] + n ≡ n = omega arith in ap (λ (k : ℕ). take k ys) e
take_on (x ∷ xs) ys n =
    let e : length (x ∷ xs) + n ≡ suc (length xs + n) = omega arith in
    subst (λ (k : ℕ). take k ((x ∷ xs) ++ ys) ≡ (x ∷ xs) ++ take n ys) (sym e)
    (ap (λ (t : List ℕ). x ∷ t) (take_on xs ys n))

module _ (from to : ℕ) (st : State) (new : Content) (trace : IoTrace) (c : ConnectionModel)
    (fed : HasFed from to st new trace c) where
  answered : (phase : Phase) (output : List ℕ) → c.phase ≡ phase
      → fed.output ++ c.unsent ≡ output → HasAnswered from to st new trace phase c.unread output
  answered phase output at is = record {
    arrived = fed.arrived;
    read = fed.read;
    has_ended = c.has_ended;
    ended = fed.ended;
    steps = holds_on true (Some []) from to st new (λ xs. IsFed c fed.arrived fed.output xs)
        (λ xs. Answers phase c.unread fed.arrived c.has_ended xs output)
        (λ xs was. subst (λ (p : Phase). Answers p c.unread fed.arrived c.has_ended xs output) at
        (subst (λ (o : List ℕ). Answers c.phase c.unread fed.arrived c.has_ended xs o) is was.0))
        fed.steps;
  }

  -- Nothing is unsent.
  pub writes_all : (phase : Phase) → c.phase ≡ phase → c.unsent ≡ []
      → WritesAll from to st new trace phase c.unread
  writes_all phase at none = record {
    output = fed.output;
    answered = answered phase fed.output at
        (ap (λ (t : List ℕ). fed.output ++ t) none ∙ append-nil fed.output);
    written = fed.written;
  }

  -- A part of what is unsent was written.
  pub writes_part : (has : Option (List ℕ)) → AppendsPrefix trace.written_after has c.unsent
      → WritesPart from to st new (record trace { written_after = has })
  writes_part has (part, within, appends) = record {
    phase = c.phase;
    left = c.unread;
    output = fed.output ++ c.unsent;
    answered = let is = answered c.phase (fed.output ++ c.unsent) refl refl in record {
      arrived = is.arrived;
      read = is.read;
      has_ended = is.has_ended;
      ended = is.ended;
      steps = is.steps;
    };
    part = length fed.output + part;
    written = subst (λ (t : List ℕ). Appends trace.written_before has t)
        (sym (take_on fed.output c.unsent part))
        (Appends-trans trace.written_before trace.written_after has fed.output (take part c.unsent)
        fed.written appends);
  }

  pub no_message : wants_input c ≡ true → (request : Request) (body rest : List ℕ)
      → ¬ (ParsesAs c.unread (WholeMessage request body rest))
  no_message wants = λ request body rest.
      subst (λ (t : List ℕ). ¬ (ParsesAs t (WholeMessage request body rest)))
      (append-nil c.unread)
      (fed.steps.holds.1 [] (subst (λ (t : List ℕ). length t < c.wanted)
      (sym (append-nil c.unread)) (takes_input_of c wants).2) request body rest)
