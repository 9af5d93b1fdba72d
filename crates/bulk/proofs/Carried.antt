-- The results of executed commands.
use Rattle.std.proofs.Common.{◌≡◌, ℕ, Bool, true, false, Option, Some, None, Result, Ok, Err, IfOk, OnErr, refl, sym, ap, subst, ◌∙◌}
use Rattle.std.specs.Prelude.{nat_lt, if◌then◌else◌}
use Rattle.model.specs.Commands.{Command, RegisterCarrier, RegisterRoutingNumber, OpenCode, OldProviderCreate, NewProviderCreate, OnVersion, Donate, Assign, Release, SetWindows}
use Rattle.model.specs.Content.{Content}
use Rattle.model.specs.History.{CommandRequest}
use Rattle.model.specs.Machine.{Reply, Refused, out, next, accepted, reply_of, refused_or}
use Rattle.model.specs.State.{State}
use Rattle.model.specs.RefusalNumbers.{number_of}
use Rattle.model.specs.Refusals.{Input, RequestFrom, refusal}
use Rattle.model.specs.declared.refusal.Refusal.{Refusal}
use Rattle.model.specs.declared.refusal.Refusal.TheVariants as r
use Rattle.json_api.specs.RefusalTexts.{refusal_of}
use Rattle.requests.specs.Calls.{refused_with}
use Rattle.register.specs.Refinement.{Refines, SimulatesStep}
use Rattle.bulk.specs.Making.{IsCommandReply, IsResultOf, is_of_number}
use Rattle.bulk.specs.Report.{reply_line, command_for, input_for}
use Rattle.bulk.specs.declared.request.Operation.{Operation}
use Rattle.bulk.specs.declared.request.Operation.TheVariants as operation
use Rattle.version.specs.declared.create.Creator.TheVariants as creator
use Rattle.bulk.specs.declared.fault.FaultKind.{FaultKind}
use Rattle.bulk.specs.declared.command_result.CommandResult.{CommandResult}

-- The number of a refusal determines it.
found_again : (x : Refusal) → refusal_of (number_of x) ≡ Some x
found_again r.UnknownCarrier = refl
found_again r.NotAdmin = refl
found_again r.UnknownCode = refl
found_again r.CarrierTaken = refl
found_again r.CodeTaken = refl
found_again r.LrnTaken = refl
found_again r.BadLrn = refl
found_again r.InPool = refl
found_again r.WrongOld = refl
found_again r.NotFound = refl
found_again r.NotYours = refl
found_again r.Busy = refl
found_again r.WrongStatus = refl
found_again r.DuePast = refl
found_again r.DueMismatch = refl
found_again r.NotConcurred = refl
found_again r.BeforeDue = refl
found_again r.ConflictSpent = refl
found_again r.TooLate = refl
found_again r.TooEarly = refl
found_again r.Protected = refl
found_again r.Contaminated = refl
found_again r.OpenPorts = refl
found_again r.BlockTaken = refl
found_again r.NotQueued = refl
found_again r.OutOfOrder = refl
found_again r.ClockBack = refl
found_again r.Full = refl
found_again r.Storage = refl
found_again r.NoMemory = refl

said_or : (o : Option ℕ) (reply : Reply) → IsCommandReply reply
    → IsCommandReply (refused_or o reply)
said_or None reply h = h
said_or (Some k) reply h = tt

replied_of : (st new : State) (caller : ℕ) (c : Command) → is_of_number c ≡ true
    → IsCommandReply (reply_of st new caller c)
replied_of st new caller (OldProviderCreate tn old_provider new_provider due authorized) e = tt
replied_of st new caller (NewProviderCreate tn old_provider new_provider due lrn cic) e = tt
replied_of st new caller (OnVersion id command) e = tt
replied_of st new caller (RegisterCarrier spid) e = cc
replied_of st new caller (RegisterRoutingNumber lrn) e = cc
replied_of st new caller (OpenCode code spid) e = cc
replied_of st new caller (SetWindows windows) e = cc
replied_of st new caller (Donate block used lrn cic) e = cc
replied_of st new caller (Assign block holder lrn cic) e = cc
replied_of st new caller (Release block) e = cc

pub is_said : (st : State) (caller : ℕ) (c : Command) (reply : Reply) → is_of_number c ≡ true
    → reply ≡ out st (RequestFrom caller (CommandRequest c)) → IsCommandReply reply
unfolding out
is_said st caller c reply e same =
    subst IsCommandReply (sym same) (said_or (refusal st (RequestFrom caller (CommandRequest c)))
    (reply_of st (accepted st (RequestFrom caller (CommandRequest c))) caller c)
    (replied_of st (accepted st (RequestFrom caller (CommandRequest c))) caller c e))

-- A refusal with a number below 29 is the machine's reply; others are not.
pub by_machine : (old new : Content) (input : Input) (k : ℕ) → nat_lt k 29 ≡ true
    → SimulatesStep old new input (refused_with k) → SimulatesStep old new input (Some (Refused k))
by_machine old new input k e h = let P : Bool → Type 0 =
    λ b. SimulatesStep old new input (if b then Some (Refused k) else None) in subst P e h

pub by_none : (old new : Content) (input : Input) (k : ℕ) → nat_lt k 29 ≡ false
    → SimulatesStep old new input (refused_with k) → SimulatesStep old new input None
by_none old new input k e h = let P : Bool → Type 0 =
    λ b. SimulatesStep old new input (if b then Some (Refused k) else None) in subst P e h

-- Holds if the result of a command is the machine's, provided the store is usable.
abbrev IsOutcomeOf : Type 0 → Content → Content → Input → CommandResult → Type 0
IsOutcomeOf U old new input t = U → (st : State) → Refines old st → IsResultOf t (out st input)
    × Refines new (next st input)

pub outcome_by_reply :
    (U : Type 0) (old new : Content) (input : Input) (o : Result CommandResult FaultKind)
    (reply : Reply)
    → (U → SimulatesStep old new input (Some reply)) →
    IfOk o (λ t. IsResultOf t reply) → IfOk o (IsOutcomeOf U old new input)
outcome_by_reply U old new input (Err kind) reply h t = tt
outcome_by_reply U old new input (Ok outcome) reply h t = λ u st s. let x = h u st s in
    (λ row tn. t row tn ∙ ap (reply_line row tn) x.0, x.1)

pub outcome_by_refusal :
    (U : Type 0) (old new : Content) (input : Input) (o : Result CommandResult FaultKind) (k : ℕ)
    → (U → SimulatesStep old new input (refused_with k)) →
    IfOk o (λ t. (nat_lt k 29 ≡ true) × IsResultOf t (Refused k))
    → IfOk o (IsOutcomeOf U old new input)
outcome_by_refusal U old new input (Err kind) k h t = tt
outcome_by_refusal U old new input (Ok outcome) k h t =
    outcome_by_reply U old new input (Ok outcome) (Refused k) (λ u. by_machine old new input k t.0
    (h u))
    t.1

pub kept_by_refusal :
    (U : Type 0) (old new : Content) (caller : ℕ) (c : Command) (o : Result CommandResult FaultKind)
    (k : ℕ)
    → (U → SimulatesStep old new (RequestFrom caller (CommandRequest c)) (refused_with k)) →
    OnErr o (nat_lt k 29 ≡ false) → OnErr o (U → (st : State) → Refines old st
    → is_of_number c ≡ true → Refines new st)
kept_by_refusal U old new caller c (Ok outcome) k h e = tt
kept_by_refusal U old new caller c (Err kind) k h e =
    λ u st s of. by_none old new (RequestFrom caller (CommandRequest c)) k e (h u) st s

pub kept_by_reply :
    (U : Type 0) (old new : Content) (caller : ℕ) (c : Command) (o : Result CommandResult FaultKind)
    (reply : Reply)
    → (U → SimulatesStep old new (RequestFrom caller (CommandRequest c)) (Some reply)) →
    OnErr o (¬ (IsCommandReply reply)) → OnErr o (U → (st : State) → Refines old st → is_of_number c
    ≡ true
    → Refines new st)
kept_by_reply U old new caller c (Ok outcome) reply h other = tt
kept_by_reply U old new caller c (Err kind) reply h other =
    λ u st s of. absurd (other (is_said st caller c reply of (h u st s).0))

-- An operation on a number is a create or a command on a version.
of_number : (st : State) (tn : ℕ) (w : Operation) → is_of_number (command_for st tn w) ≡ true
of_number st tn (operation.Create old_provider new_provider due (creator.OldProvider authorized)) =
    refl
of_number st tn (operation.Create old_provider new_provider due (creator.NewProvider routing)) =
    refl
of_number st tn (operation.OnVersion command) = refl

-- The result of an operation is that of its command.
pub outcome_for :
    (U V : Type 0) (old mid new : Content) (caller tn : ℕ) (w : Operation) (c : Command)
    (o : Result CommandResult FaultKind) → (U → V) →
    (V → (st : State) → Refines old st → c ≡ command_for st tn w)
    → (V → (st : State) → Refines old st
    → Refines mid st) →
    IfOk o (IsOutcomeOf U mid new (RequestFrom caller (CommandRequest c))) →
    IfOk o (λ t. U → (st : State) → Refines old st
    → IsResultOf t (out st (input_for st caller tn w))
    × Refines new (next st (input_for st caller tn w)))
outcome_for U V old mid new caller tn w c (Err kind) before is kept h = tt
outcome_for U V old mid new caller tn w c (Ok outcome) before is kept h = λ u st s.
    let v = before u in
    subst (λ (d : Command). IsResultOf outcome (out st (RequestFrom caller (CommandRequest d)))
    × Refines new (next st (RequestFrom caller (CommandRequest d)))) (is v st s)
    (h u st (kept v st s))

pub kept_for :
    (U V : Type 0) (old mid new : Content) (tn : ℕ) (w : Operation) (c : Command)
    (o : Result CommandResult FaultKind) → (U → V) →
    (V → (st : State) → Refines old st → c ≡ command_for st tn w)
    → (V → (st : State) → Refines old st
    → Refines mid st) →
    OnErr o (U → (st : State) → Refines mid st → is_of_number c ≡ true → Refines new st)
    → OnErr o (U → (st : State) → Refines old st → Refines new st)
kept_for U V old mid new tn w c (Ok outcome) before is kept h = tt
kept_for U V old mid new tn w c (Err kind) before is kept h = λ u st s.
    let v = before u in h u st (kept v st s) (ap is_of_number (is v st s) ∙ of_number st tn w)
