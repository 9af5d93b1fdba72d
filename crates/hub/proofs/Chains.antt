-- Chains of steps, the messages at the start of an input, and their responses.
use Rattle.std.proofs.Common.{◌≡◌, ℕ, List, [], ◌∷◌, ◌++◌, drop, Option, Some, None, Result, Ok, Err, Bool, refl, sym, ap, ◌∙◌, subst, append-nil}
use Rattle.std.proofs.lemmas.Grind.{flat_map-append}
use Rattle.std.proofs.lemmas.List.{map-append}
use Rattle.model.specs.State.{State}
use Rattle.http_messages.proofs.AtHandLemmas.{message_more}
use Rattle.api.specs.Run.{Exchange, Run, responses, ticks_of}
use Rattle.api.specs.Ticks.{ConsumesTick, ConsumesTicks, later_ticks}
use Rattle.api.specs.declared.executor.Executed.{Executed}
use Rattle.api.specs.declared.executor.Lost.{Lost}
use Rattle.hub.specs.Connections.{ConnectionModel, with_executed}
use Rattle.hub.specs.Schedules.{Begins, Chain}

pub run_chain : (offered : Bool) (from to : ℕ) (st : State) (input : List ℕ) (xs : List Exchange)
    (end : State) (rest : List ℕ) → Run offered from to st input xs end rest
    → Chain offered from to st xs end
run_chain offered from to st input [] end rest run = (run.0, run.1)
run_chain offered from to st input (x ∷ xs) end rest run =
    (run.0, run.1, run.5, run_chain offered run.0 to run.1 run.2 xs end rest run.6)

pub run_begins : (offered : Bool) (from to : ℕ) (st : State) (input : List ℕ) (xs : List Exchange)
    (end : State) (rest : List ℕ) → Run offered from to st input xs end rest
    → Begins input xs rest
run_begins offered from to st input [] end rest run = run.2
run_begins offered from to st input (x ∷ xs) end rest run =
    (run.2, run.3, run.4, run_begins offered run.0 to run.1 run.2 xs end rest run.6)

pub chain_then : (offered : Bool) (from between to : ℕ) (st mid end : State) (xs ys : List Exchange)
    → Chain offered from between st xs mid → Chain offered between to mid ys end
    → Chain offered from to st (xs ++ ys) end
chain_then offered from between to st mid end [] ys first second =
    subst (λ (s : State). Chain offered from to s ys end) first.1
    (subst (λ (n : ℕ). Chain offered n to mid ys end) first.0 second)
chain_then offered from between to st mid end (x ∷ xs) ys first second = (
  first.0,
  first.1,
  first.2,
  chain_then offered first.0 between to first.1 mid end xs ys first.3 second,
)

pub begins_then : (input mid rest : List ℕ) (xs ys : List Exchange) → Begins input xs mid
    → Begins mid ys rest → Begins input (xs ++ ys) rest
begins_then input mid rest [] ys first second =
    subst (λ (t : List ℕ). Begins t ys rest) first second
begins_then input mid rest (x ∷ xs) ys first second =
    (first.0, first.1, first.2, begins_then first.0 mid rest xs ys first.3 second)

-- The same messages begin a longer input.
pub begins_more : (input rest more : List ℕ) (xs : List Exchange) → Begins input xs rest
    → Begins (input ++ more) xs (rest ++ more)
begins_more input rest more [] begins = ap (λ (t : List ℕ). t ++ more) begins
begins_more input rest more (x ∷ xs) begins = (
  begins.0 ++ more,
  message_more input x.request x.body begins.0 more begins.1,
  begins.2,
  begins_more begins.0 rest more xs begins.3,
)

pub responses-then : (xs ys : List Exchange)
    → responses (xs ++ ys) ≡ responses xs ++ responses ys
responses-then xs ys = flat_map-append (λ (x : Exchange). x.response) xs ys

pub responses-last : (xs : List Exchange) (x : Exchange)
    → responses (xs ++ x ∷ []) ≡ responses xs ++ x.response
responses-last xs x =
    responses-then xs (x ∷ []) ∙ ap (λ (t : List ℕ). responses xs ++ t) (append-nil x.response)

ticks_then : (before mid after : Option (List (Option ℕ))) (first second : List (Option ℕ))
    → ConsumesTicks before first mid → ConsumesTicks mid second after
    → ConsumesTicks before (first ++ second) after
ticks_then None mid after first second was is = tt
ticks_then (Some known) mid after [] second was is =
    subst (λ (t : Option (List (Option ℕ))). ConsumesTicks t second after) was is
ticks_then (Some known) mid after (t ∷ first) second was is =
    (was.0, ticks_then (Some (later_ticks known)) mid after first second was.1 is)

pub supplied_then : (before mid after : Option (List (Option ℕ))) (xs ys : List Exchange)
    → ConsumesTicks before (ticks_of xs) mid → ConsumesTicks mid (ticks_of ys) after
    → ConsumesTicks before (ticks_of (xs ++ ys)) after
supplied_then before mid after xs ys was is =
    subst (λ (ts : List (Option ℕ)). ConsumesTicks before ts after)
    (sym (map-append (λ (x : Exchange). x.tick) xs ys))
    (ticks_then before mid after (ticks_of xs) (ticks_of ys) was is)

pub supplied_last : (before after : Option (List (Option ℕ))) (x : Exchange)
    → ConsumesTick before x.tick after → ConsumesTicks before (ticks_of (x ∷ [])) after
supplied_last None after x is = tt
supplied_last (Some known) after x is = is

pub supplied_none : (before : Option (List (Option ℕ))) → ConsumesTicks before [] before
supplied_none None = tt
supplied_none (Some known) = refl

-- What is so of bytes is so of the same bytes, however they are named.
pub renamed : (P : List ℕ → List ℕ → List ℕ → Type 0) (input input' had had' has : List ℕ)
    (start : ℕ) → input ≡ input' → had ≡ had' → start ≡ 0 → P input had has
    → P input' had' (drop start has)
renamed P input input' had had' has start e f g p =
    subst (λ (t : List ℕ). P t had' (drop start has)) e
    (subst (λ (t : List ℕ). P input t (drop start has)) f
    (subst (λ (n : ℕ). P input had (drop n has)) (sym g) p))

-- What is unsent after messages were executed.
pub unsent_after : (new old : ConnectionModel) (executed : Result Executed Lost) (unsent : List ℕ)
    → new ≡ with_executed old executed unsent → new.unsent ≡ unsent
unsent_after new old (Ok done) unsent same = ap (λ (c : ConnectionModel). c.unsent) same
unsent_after new old (Err lost) unsent same = ap (λ (c : ConnectionModel). c.unsent) same
