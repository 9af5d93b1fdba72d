-- The answers to questions, over contents.
use Rattle.std.proofs.Common.{◌≡◌, ℕ, Bool, true, false, not, ◌&&◌, ◌||◌, List, map, Option, Some, None, refl, ap, sym, ◌∙◌}
use Rattle.std.specs.Prelude.{◌==◌, is_some, option_map, option_and_then, if◌then◌else◌}
use Rattle.std.specs.FinMap.{get}
use Rattle.numbers.specs.Subjects.{Subject, Number, Block}
use Rattle.numbers.specs.Digits.{code_of, block_of}
use Rattle.numbers.specs.Routings.{Routing}
use Rattle.model.specs.Versions.{Version, version_in_force}
use Rattle.model.specs.History.{code_holder}
use Rattle.model.specs.State.{State, record_now, is_carrier, routing_of}
use Rattle.model.specs.Refusals.{QuestionFrom, Knows, Query, AllInForce, refusal, tests, npac}
use Rattle.model.specs.Machine.{Known, Answered, Answer, Closed, Opened, Rows}
use Rattle.model.specs.Content.{Content, VersionRow}
use Rattle.settle.specs.Reads.{AreInForce, IsRoutingInForce}
use Rattle.delivery.specs.declared.mirror.RoutedRow.{RoutedRow}
use Rattle.settle.specs.Settling.{IsSettled}
use Rattle.register.specs.Refinement.{Refines}
use Rattle.register.specs.Settling.{SimulatesSettledStep, AreSettled, is_of_number}
use Rattle.register.proofs.EveryCall.Settled.{number_of_number, block_of_number}
use Rattle.requests.specs.Calls.{in_force_of}
use Rattle.register.proofs.Registering.Starting.{in_force_listed}
use Rattle.register.proofs.EveryCall.Composed.{answers_read}
use Rattle.register.proofs.Asking.Alone.{row_is_held, none_held, one_in_force}
use Rattle.model.specs.Versions.{in_force}

-- ---- who may ask

abbrev may_ask : (known is_admin : Bool) → Option ℕ
may_ask known is_admin = if not known && not is_admin then Some 1 else None

by_caller : (known is_admin b : Bool) → (is_admin || known) ≡ b → may_ask known is_admin ≡ (if b
    then None else Some 1)
by_caller true true b is = ap (λ x. if x then None else Some 1) is
by_caller true false b is = ap (λ x. if x then None else Some 1) is
by_caller false true b is = ap (λ x. if x then None else Some 1) is
by_caller false false b is = ap (λ x. if x then None else Some 1) is

knows_by : (st : State) (caller : ℕ)
    → refusal st (QuestionFrom caller Knows) ≡ may_ask (is_carrier st caller) (caller == npac)
unfolding tests
knows_by st caller = refl

query_by : (st : State) (caller tn : ℕ)
    → refusal st (QuestionFrom caller (Query tn)) ≡ may_ask (is_carrier st caller) (caller == npac)
unfolding tests
query_by st caller tn = refl

module _ (old : Content) (caller : ℕ) (known : Bool)
    (is : (caller == npac || is_some (get old.carriers caller)) ≡ known) (st : State)
    (refines : Refines old st) where
  asked : may_ask (is_carrier st caller) (caller == npac) ≡ (if known then None else Some 1)
  asked = by_caller (is_carrier st caller) (caller == npac) known
      (ap (λ b. caller == npac || b) (sym (refines.represents.carriers caller)) ∙ is)

  pub knows_refused : refusal st (QuestionFrom caller Knows) ≡ (if known then None else Some 1)
  knows_refused = knows_by st caller ∙ asked

  pub query_refused : (tn : ℕ) → refusal st (QuestionFrom caller (Query tn)) ≡ (if known then None
      else Some 1)
  query_refused tn = query_by st caller tn ∙ asked

pub answers_known : (old new : Content) (caller : ℕ)
    → (caller == npac || is_some (get old.carriers caller)) ≡ true → new ≡ old
    → SimulatesSettledStep old new (QuestionFrom caller Knows) (Some Known)
answers_known old new caller known same =
    answers_read old new (QuestionFrom caller Knows) Known same (λ st. refl)
    (λ st refines settled. (knows_refused old caller true known st refines, refl))

-- ---- routings

module _ (st : State) (c : Content) (refines : Refines c st) where
  routing_read : (s : Subject) → IsSettled c st s → (o : Option (Option Routing))
      → IsRoutingInForce c s o
      → option_map (λ (v : Version). v.routing) (version_in_force (record_now st s)) ≡ o
  routing_read s due None absent =
      ap (option_map (λ (v : Version). v.routing)) (none_held st c refines s due (λ t v. in_force v)
      (λ (x : VersionRow). x.holds) (λ t v. refl) (one_in_force st c refines s) absent)
  routing_read s due (Some routing) is =
      let held = row_is_held st c refines s due (λ t v. in_force v) (λ (x : VersionRow). x.holds)
      (λ t v. refl) (one_in_force st c refines s) is.0 is.1 is.2 is.3 in
      ap (option_map (λ (v : Version). v.routing)) held.1 ∙ ap (λ (x : VersionRow). Some x.routing)
      (sym held.3) ∙ ap (λ x. Some x) is.4

  abbrev routed_else : Option (Option Routing) → Option (Option Routing) → Option Routing
  routed_else (Some routing) other = routing
  routed_else None (Some routing) = routing
  routed_else None None = None

  by_force : (tn : ℕ) (o p : Option Version) →
      (elim o [ Some v ↦ v.routing | None ↦ option_and_then (λ (v : Version). v.routing) p ])
      ≡ routed_else (option_map (λ (v : Version). v.routing) o)
      (option_map (λ (v : Version). v.routing) p)
  by_force tn (Some v) p = refl
  by_force tn None (Some v) = refl
  by_force tn None None = refl

  pub routed_by : (tn : ℕ) → ((s : Subject) → is_of_number tn st s ≡ true → IsSettled c st s)
      → (o p : Option (Option Routing)) → IsRoutingInForce c (Number tn) o
      → IsRoutingInForce c (Block (block_of tn)) p →
      routing_of st tn ≡ routed_else o p
  routed_by tn settled o p number block =
      by_force tn (version_in_force (record_now st (Number tn)))
      (version_in_force (record_now st (Block (block_of tn))))
      ∙ ap (λ x. routed_else x (option_map (λ (v : Version). v.routing)
      (version_in_force (record_now st (Block (block_of tn))))))
      (routing_read (Number tn) (settled (Number tn) (number_of_number st tn)) o number)
      ∙ ap (routed_else o) (routing_read (Block (block_of tn))
      (settled (Block (block_of tn)) (block_of_number st tn)) p block)

  -- The routing of the number's own version.
  pub routed_by_number : (tn : ℕ) → ((s : Subject) → is_of_number tn st s ≡ true → IsSettled c st s)
      → (routing : Option Routing) → IsRoutingInForce c (Number tn) (Some routing)
      → routing_of st tn ≡ routing
  routed_by_number tn settled routing number =
      by_force tn (version_in_force (record_now st (Number tn)))
      (version_in_force (record_now st (Block (block_of tn))))
      ∙ ap (λ x. routed_else x (option_map (λ (v : Version). v.routing)
      (version_in_force (record_now st (Block (block_of tn))))))
      (routing_read (Number tn) (settled (Number tn) (number_of_number st tn)) (Some routing)
      number)

-- ---- queries

pub answers_query : (old new : Content) (caller tn : ℕ) (answer : Answer)
    → (caller == npac || is_some (get old.carriers caller)) ≡ true → new ≡ old →
    ((st : State) → Refines old st → AreSettled old st (QuestionFrom caller (Query tn))
    → answer ≡ (if is_some (code_holder (code_of tn) st.history) then Opened (routing_of st tn)
    else Closed)) →
    SimulatesSettledStep old new (QuestionFrom caller (Query tn)) (Some (Answered answer))
answers_query old new caller tn answer known same is =
    answers_read old new (QuestionFrom caller (Query tn)) (Answered answer) same (λ st. refl)
    (λ st refines settled. (
      query_refused old caller true known st refines tn,
      ap (λ a. Answered a) (is st refines settled),
    ))

pub answers_closed : (old new : Content) (caller tn : ℕ)
    → (caller == npac || is_some (get old.carriers caller)) ≡ true → new ≡ old
    → get old.codes (code_of tn) ≡ None →
    SimulatesSettledStep old new (QuestionFrom caller (Query tn)) (Some (Answered Closed))
answers_closed old new caller tn known same closed =
    answers_query old new caller tn Closed known same
    (λ st refines settled. sym (ap (λ o. if is_some o then Opened (routing_of st tn)
    else Closed) (sym (refines.represents.codes (code_of tn)) ∙ closed)))

pub answers_opened : (old new : Content) (caller tn : ℕ) (routing : Option Routing)
    → (caller == npac || is_some (get old.carriers caller)) ≡ true → new ≡ old →
    is_some (get old.codes (code_of tn)) ≡ true → ((st : State) → Refines old st
    → AreSettled old st (QuestionFrom caller (Query tn)) → routing ≡ routing_of st tn)
    → SimulatesSettledStep old new (QuestionFrom caller (Query tn))
    (Some (Answered (Opened routing)))
answers_opened old new caller tn routing known same opened is =
    answers_query old new caller tn (Opened routing) known same (λ st refines settled.
    ap (λ r. Opened r) (is st refines settled)
    ∙ sym (ap (λ b. if b then Opened (routing_of st tn)
    else Closed) (sym (ap is_some (refines.represents.codes (code_of tn))) ∙ opened)))

-- ---- all versions in force

in_force_by : (st : State) → refusal st (QuestionFrom 0 AllInForce) ≡ None
unfolding tests
in_force_by st = refl

pub answers_in_force : (old new : Content) (rows : List RoutedRow) → new ≡ old → AreInForce old rows
    → SimulatesSettledStep old new (QuestionFrom 0 AllInForce) (Some (Rows (map in_force_of rows)))
answers_in_force old new rows same are =
    answers_read old new (QuestionFrom 0 AllInForce) (Rows (map in_force_of rows)) same (λ st. refl)
    (λ st refines settled. (
      in_force_by st,
      ap (λ xs. Rows xs) (in_force_listed st old refines (λ s. settled s refl) rows are),
    ))
