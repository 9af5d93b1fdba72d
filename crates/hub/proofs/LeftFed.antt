-- What a crash may leave, one turn of a connection that is fed after another.
use Rattle.std.proofs.Common.{◌≡◌, ◌⊎◌, ◌≤◌, inl, inr, ℕ, List, [], ◌∷◌, ◌++◌, Option, Some, None, Result, Ok, Bool, true, refl, sym, subst}
use Rattle.std.specs.Prelude.{⊤, IfSome}
use Rattle.std.specs.Io.KnownBytes.{Consumes}
use Rattle.std.proofs.Math.Nat.{le_trans}
use Rattle.model.specs.Content.{Content}
use Rattle.model.specs.State.{State}
use Rattle.register.specs.Refinement.{Refines}
use Rattle.settle.specs.StoreContract.{BeginsGroup, EndsGroup}
use Rattle.settle.specs.declared.store.StoreFault.{StoreFault}
use Rattle.settle.specs.declared.store_model.StoreModel.{Ghosts}
use Rattle.http_messages.proofs.AtHandLemmas.{message_more}
use Rattle.http_messages.specs.Parsing.{ParsesAs, WholeMessage}
use Rattle.api.proofs.Left.{left_after, left_as}
use Rattle.api.specs.Crashes.{LeavesPrefix, RefinesStep}
use Rattle.api.specs.Run.{Exchange, ticks_of}
use Rattle.api.specs.Step.{Step}
use Rattle.api.specs.Ticks.{ConsumesTick, ConsumesTicks}
use Rattle.api.specs.declared.serving.End.TheVariants.{Input, Closed, Refused}
use Rattle.hub.specs.Connections.{ConnectionModel}
use Rattle.hub.specs.Crashes.{LeavesFirst, LeavesFirstMessages, LeavesFirstOf, LeavesMessage, LeavesOfConnection}
use Rattle.hub.specs.Feeding.{GoesOn, IsFed, io_of}
use Rattle.hub.specs.Rows.{RowsFollow}
use Rattle.hub.specs.Schedules.{Answers, Begins, Chain}
use Rattle.hub.specs.declared.connection.Phase.{Phase}
use Rattle.hub.specs.declared.connection.Phase.TheVariants.{Open, Stopped, Ended, Lost}
use Rattle.hub.proofs.Chains.{begins_more, begins_then, chain_then, run_begins, run_chain, supplied_then}
use Rattle.hub.proofs.Fed.{HasFed, goes_same, goes_then}
use Rattle.hub.proofs.FedEnds.{Fed, if_some}
use Rattle.hub.proofs.FedRuns.{last_step, run_of}
use Rattle.hub.proofs.Since.{chain_since, steps_since}

-- ---- without minutes

none_first : (xs ys : List Exchange) (after : Option (List (Option ℕ)))
    → ConsumesTicks (Some []) (ticks_of (xs ++ ys)) after
    → ConsumesTicks (Some []) (ticks_of xs) (Some [])
none_first [] ys after is = refl
none_first (x ∷ xs) ys after is = (is.0, none_first xs ys after is.1)

none_last : (xs : List Exchange) (x : Exchange) (after : Option (List (Option ℕ)))
    → ConsumesTicks (Some []) (ticks_of (xs ++ x ∷ [])) after → x.tick ≡ None
none_last [] x after is = is.0
none_last (y ∷ ys) x after is = none_last ys x after is.1

none_after : (ticks : List (Option ℕ)) (after : Option (List (Option ℕ)))
    → ConsumesTicks (Some []) ticks after → after ≡ Some []
none_after [] after is = is
none_after (t ∷ ticks) after is = none_after ticks after is.1

-- ---- the first messages of an input

module _ (from : ℕ) (st : State) (input : List ℕ) (left : Content) where
  -- More input follows.
  first_more : (more : List ℕ) → LeavesFirst from st input left
      → LeavesFirst from st (input ++ more) left
  first_more more p = record {
    exchanges = p.exchanges;
    between = p.between;
    mid = p.mid;
    rest = p.rest ++ more;
    run = run_of from p.between st (input ++ more) p.exchanges p.mid (p.rest ++ more)
        (run_chain true from p.between st input p.exchanges p.mid p.rest p.run)
        (begins_more input p.rest more p.exchanges
        (run_begins true from p.between st input p.exchanges p.mid p.rest p.run));
    supplied = p.supplied;
    last = by_cases p.mid p.rest p.last;
  }
    where
      by_cases : (mid : State) (rest : List ℕ) → Refines left mid ⊎ LeavesMessage mid rest left
          → Refines left mid ⊎ LeavesMessage mid (rest ++ more) left
      by_cases mid rest (inl s) = inl s
      by_cases mid rest (inr (request, body, after, n, to, parses, step)) = inr (
        request,
        body,
        after ++ more,
        n,
        to,
        message_more rest request body after more parses,
        step,
      )

-- The content after all messages that were executed.
module _ (st : State) (left : Content) (refines : Refines left st) (from past : ℕ) (start : State)
    (input : List ℕ) (earlier : List Exchange) (chain : Chain true from past start earlier st)
    (supplied : ConsumesTicks (Some []) (ticks_of earlier) (Some [])) where
  all_answered : (rest : List ℕ) → Begins input earlier rest → LeavesFirst from start input left
  all_answered rest begins = record {
    exchanges = earlier;
    between = past;
    mid = st;
    rest = rest;
    run = run_of from past start input earlier st rest chain begins;
    supplied = supplied;
    last = inl refines;
  }

  -- The last of them may close the connection, or its response was lost.
  but_last : (ys : List Exchange) (x : Exchange) (rest rest_after : List ℕ)
      → earlier ≡ ys ++ x ∷ [] → Begins input ys rest
      → ParsesAs rest (WholeMessage x.request x.body rest_after)
      → LeavesFirst from start input left
  but_last ys x rest rest_after all begins parses =
      let by = last_step from past start ys x st
      (subst (λ (zs : List Exchange). Chain true from past start zs st) all chain) in
      let ticks = subst (λ (zs : List Exchange). ConsumesTicks (Some []) (ticks_of zs) (Some []))
      all supplied in
      record {
        exchanges = ys;
        between = by.0;
        mid = by.1;
        rest = rest;
        run = run_of from by.0 start input ys by.1 rest by.2 begins;
        supplied = none_first ys (x ∷ []) (Some []) ticks;
        last = inr (
          x.request,
          x.body,
          rest_after,
          by.0,
          past,
          parses,
          (
            x.response,
            st,
            subst (λ (t : Option ℕ). Step true t by.0 past by.1 x.request x.body x.response st)
                (none_last ys x (Some []) ticks) by.3,
            refines,
          ),
        );
      }

  lost : (rest : List ℕ) (answered : List Exchange) → Begins input answered rest
      → (earlier ≡ answered) ⊎ ((x : Exchange) × (rest_after : List ℕ)
      × ParsesAs rest (WholeMessage x.request x.body rest_after)
      × (earlier ≡ answered ++ x ∷ []))
      → LeavesFirst from start input left
  lost rest answered begins (inl e) =
      all_answered rest (subst (λ (zs : List Exchange). Begins input zs rest) (sym e) begins)
  lost rest answered begins (inr (x, rest_after, parses, e)) =
      but_last answered x rest rest_after e begins parses

  all_executed : (phase : Phase) (unread output : List ℕ) (has_ended : Bool)
      → Answers phase unread input has_ended earlier output → LeavesFirst from start input left
  all_executed Open unread output has_ended is = all_answered unread is.0
  all_executed Stopped unread output has_ended is = all_answered is.0 is.1
  all_executed (Ended Input) unread output has_ended is = all_answered is.0 is.1
  all_executed (Ended Closed) unread output has_ended is =
      but_last is.0.earlier is.0.last is.0.rest is.0.rest_after is.0.all is.0.begins is.0.parses
  all_executed (Ended (Refused fault)) unread output has_ended is = all_answered is.0 is.1
  all_executed Lost unread output has_ended is = lost is.rest is.answered is.begins is.last

executed_left : (n : ℕ) (st : State) (d : ConnectionModel) (left : Content) → Refines left st
    → LeavesOfConnection n st d left
executed_left n st d left refines =
    λ from past start input received earlier at_most chain supplied fed.
    all_executed st left refines from past start input earlier chain supplied d.phase d.unread
    (received ++ d.unsent) d.has_ended fed.0

-- A turn of a connection that is fed.
pub turn_left : (n : ℕ) (st : State) (c : ConnectionModel) (has : List ℕ) (left : Content)
    → c.phase ≡ Open → LeavesPrefix true n st c.unread (Some []) c.unsent has left
    → LeavesOfConnection n st c left
turn_left n st c has left opened p =
    λ from past start input received earlier at_most chain supplied fed.
    let begins = (subst (λ (phase : Phase). Answers phase c.unread input c.has_ended earlier
    (received ++ c.unsent)) opened fed.0).0 in
    let (last, within, on) = chain_since true past n p.between st p.exchanges p.mid at_most
    (run_chain true n p.between st c.unread p.exchanges p.mid p.rest p.run) in
    let none = none_after (ticks_of p.exchanges) p.remaining_ticks p.supplied in
    let next = subst (λ (t : Option (List (Option ℕ))). ConsumesTick t p.tick p.ticks_after) none
    p.next_tick in
    record {
      exchanges = earlier ++ p.exchanges;
      between = last;
      mid = p.mid;
      rest = p.rest;
      run = run_of from last start input (earlier ++ p.exchanges) p.mid p.rest
          (chain_then true from past last start st p.mid earlier p.exchanges chain on)
          (begins_then input c.unread p.rest earlier p.exchanges begins
          (run_begins true n p.between st c.unread p.exchanges p.mid p.rest p.run));
      supplied = supplied_then (Some []) (Some []) (Some []) earlier p.exchanges supplied
          (subst (λ (t : Option (List (Option ℕ))). ConsumesTicks (Some [])
          (ticks_of p.exchanges) t) none p.supplied);
      last = inr (
        p.request,
        p.body,
        p.rest_after,
        0,
        0,
        p.parses,
        subst (λ (t : Option ℕ). RefinesStep true t 0 0 p.mid p.request p.body left) next.0
            (p.refines 0),
      );
    }

-- ---- one after another

module _ {S : Type 0} (store : Ghosts S) where
  abbrev OfConnection : S → ConnectionModel → Content → Type 0
  OfConnection s c m = (st : State) → Refines (store.content s) st
      → LeavesOfConnection (store.failed s) st c m

  pub left_then : (old mid new : S) (c d : ConnectionModel)
      → (store.HasHonestDevice new → store.HasHonestDevice mid)
      → (store.IsUsable mid → store.IsUsable old) → GoesOn true (Some []) store old mid c d
      → LeavesFirstOf store old mid c → LeavesFirstOf store mid new d
      → LeavesFirstOf store old new c
  left_then old mid new c d honest usable goes first second =
      left_after store old mid new (OfConnection old c) (OfConnection mid d) (OfConnection old c)
      honest usable first second (λ m is. is) further
    where
      further : store.IsUsable mid → (m : Content) → OfConnection mid d m → OfConnection old c m
      further used m is =
          λ st refines from past start input received earlier at_most chain supplied fed.
          let (was, at, steps) = goes.steps used st refines input received earlier fed in
          let (last, within, more) = steps_since true (Some []) (Some []) past (store.failed old)
          was st
          (store.content mid) (λ xs. IsFed d input received (earlier ++ xs)) at_most steps in
          is more.end more.refines from last start input received (earlier ++ more.exchanges)
          (le_trans within at)
          (chain_then true from past last start st more.end earlier more.exchanges chain
          more.chain)
          (supplied_then (Some []) (Some []) (Some []) earlier more.exchanges supplied
          more.supplied) more.holds

  -- A group of commits, whether it lasts or not.
  pub left_grouped : (old begun ran ended : S) (c d : ConnectionModel)
      (result : Result ⊤ StoreFault) → BeginsGroup store old begun (Ok true)
      → RowsFollow store begun ran → GoesOn true (Some []) store begun ran c d
      → LeavesFirstOf store begun ran c → EndsGroup store ran ended result
      → LeavesFirstOf store old ended c
  left_grouped old begun ran ended c d result begins runs goes left ends =
      let begun_goes = goes_same true (Some []) store old begun c c refl begins.rises
      (λ usable. (begins.same usable).1) in
      let begun_left : LeavesFirstOf store old begun c =
      λ honest m may. inl (begins.left honest m may) in
      let ended_left : LeavesFirstOf store ran ended d =
      left_as store ran ended (λ m. m ≡ store.content ran) (OfConnection ran d) ends.left
      (λ m same st refines. executed_left (store.failed ran) st d m
      (subst (λ (t : Content). Refines t st) (sym same) refines)) in
      left_then old ran ended c d ends.leaves.honest
      (λ usable. (begins.same (runs.usable usable)).0)
      (goes_then true (Some []) store old begun ran c c d runs begun_goes goes)
      (left_then old begun ran c c runs.honest (λ usable. (begins.same usable).0) begun_goes
      begun_left left) ended_left

  -- Nothing was executed.
  pub left_same : (s : S) (c : ConnectionModel) → LeavesFirstOf store s s c
  left_same s c = λ honest m may. inl may

  module _ (start mid new : S) (had all unread has : Option (List ℕ)) (c : ConnectionModel) where
    abbrev OfInput : Content → Type 0
    OfInput m = (st : State) → Refines (store.content start) st
        → IfSome all (λ input. LeavesFirst (store.failed start) st input m)

    read_so : (st : State) (m : Content) (input arrived : List ℕ) (unread : Option (List ℕ))
        → Consumes (Some input) unread arrived → LeavesFirst (store.failed start) st arrived m
        → LeavesFirst (store.failed start) st input m
    read_so st m input arrived None read is = absurd read
    read_so st m input arrived (Some more) read is =
        subst (λ (t : List ℕ). LeavesFirst (store.failed start) st t m) (sym read)
        (first_more (store.failed start) st arrived m more is)

    of_input : (st : State) (m : Content) (input : List ℕ) (last : ℕ) → last ≤ store.failed mid
        → HasFed (store.failed start) last st (store.content mid) (io_of input unread had has) c
        → OfConnection mid c m → LeavesFirst (store.failed start) st input m
    of_input st m input last within is_fed is =
        let steps = is_fed.steps in
        read_so st m input is_fed.arrived unread is_fed.read
        (is steps.end steps.refines (store.failed start) last st is_fed.arrived is_fed.output
        steps.exchanges within steps.chain steps.supplied steps.holds)

    -- Messages of what was read were executed.
    pub left_fed : (store.HasHonestDevice new → store.HasHonestDevice mid)
        → (store.IsUsable mid → store.IsUsable start)
        → (store.IsUsable mid → (st : State) → Refines (store.content start) st
        → Fed (store.failed start) (store.failed mid) st had all (store.content mid) unread has c)
        → LeavesFirstMessages store start mid all → LeavesFirstOf store mid new c
        → LeavesFirstMessages store start new all
    left_fed honest usable fed first second =
        left_after store start mid new OfInput (OfConnection mid c) OfInput honest usable first
        second (λ m is. is)
        (λ used m is st refines. if_some all _ _
        (λ input (last, within, is_fed). of_input st m input last within is_fed is)
        (fed used st refines))
