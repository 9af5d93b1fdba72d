-- Runs over tasks, in order.
use Rattle.std.proofs.Common.{◌≡◌, ℕ, ◌+◌, List, [], ◌∷◌, ◌++◌, take, Option, Result, Ok, Err, inl, inr, refl, ap, sym, subst, ◌∙◌, arith, append_assoc, append-nil, length-append}
use Rattle.std.specs.List.{concat}
use Rattle.std.specs.Io.KnownBytes.{Appends}
use Rattle.std.proofs.KnownBytes.{Appends-nil, Appends-trans}
use Rattle.std.proofs.lemmas.List.Folds.{concat-append}
use Rattle.model.specs.Content.{Content}
use Rattle.model.specs.Machine.{next, state_after as machine_after}
use Rattle.model.specs.State.{State}
use Rattle.model.specs.Refusals.{Input}
use Rattle.register.specs.Refinement.{Refines}
use Rattle.http_messages.specs.Sending.{AppendsPrefix}
use Rattle.bulk.specs.Report.{Task, Bad, CommandTask, input_for, line_of, lines_of, next_state, state_after}
use Rattle.bulk.specs.Faults.{IsUnavailableKind, IsUnread}
use Rattle.bulk.specs.Running.{RefinesReachable, DoesAll, DoesFirst, BreaksAt, FailsIn, RunsTo, SendsOne}
use Rattle.bulk.specs.declared.fault.BulkFault.{BulkFault}
use Rattle.bulk.specs.declared.fault.FaultKind.{FaultKind}
use Rattle.bulk.specs.declared.fault.FaultKind.TheVariants.{BadHeader, BadFile, UnknownCarrier, Storage, NoMemory, Read, Write}

state_after-append : (st : State) (xs ys : List Task)
    → state_after st (xs ++ ys) ≡ state_after (state_after st xs) ys
state_after-append st [] ys = refl
state_after-append st (x ∷ xs) ys = state_after-append (next_state st x) xs ys

lines_of-append : (st : State) (xs ys : List Task)
    → lines_of st (xs ++ ys) ≡ lines_of st xs ++ lines_of (state_after st xs) ys
lines_of-append st [] ys = refl
lines_of-append st (x ∷ xs) ys =
    ap (λ (ls : List (List ℕ)). line_of st x ∷ ls) (lines_of-append (next_state st x) xs ys)

pub texts-append : (st : State) (xs ys : List Task)
    → concat (lines_of st xs) ++ concat (lines_of (state_after st xs) ys)
    ≡ concat (lines_of st (xs ++ ys))
texts-append st xs ys = sym (concat-append (lines_of st xs) (lines_of (state_after st xs) ys))
    ∙ ap concat (sym (lines_of-append st xs ys))

-- No task has been executed yet.
pub nothing : (st : State) (c : Content) (had : Option (List ℕ)) (from : ℕ) → Refines c st
    → DoesAll st [] c had had from from
nothing st c had from s = record { refines = s; sent = Appends-nil had; count = omega arith }

pub all_then :
    (st : State) (xs ys : List Task) (mid new : Content) (had at has : Option (List ℕ))
    (from j k : ℕ) →
    DoesAll st xs mid had at from j → DoesAll (state_after st xs) ys new at has j k
    → DoesAll st (xs ++ ys) new had has from k
all_then st xs ys mid new had at has from j k before now = record {
  refines = subst (Refines new) (sym (state_after-append st xs ys)) now.refines;
  sent = subst (Appends had has) (texts-append st xs ys)
      (Appends-trans had at has (concat (lines_of st xs)) (concat (lines_of (state_after st xs) ys))
      before.sent now.sent);
  count = omega (arith, before.count, now.count, length-append xs ys);
}

first_then :
    (st : State) (xs ys : List Task) (mid new : Content) (had at has : Option (List ℕ))
    (from j k : ℕ) →
    DoesAll st xs mid had at from j → DoesFirst (state_after st xs) ys new at has j k
    → DoesFirst st (xs ++ ys) new had has from k
first_then st xs ys mid new had at has from j k before now = record {
  first = xs ++ now.first;
  others = now.others;
  all = ap (λ (ts : List Task). xs ++ ts) now.all ∙ sym (append_assoc xs now.first now.others);
  done = all_then st xs now.first mid new had at has from j k before now.done;
}

break_then :
    (st : State) (xs ys : List Task) (mid new : Content) (had at has : Option (List ℕ))
    (from j k : ℕ) →
    DoesAll st xs mid had at from j → BreaksAt (state_after st xs) ys new at has j k
    → BreaksAt st (xs ++ ys) new had has from k
break_then st xs ys mid new had at has from j k before now =
    let after = state_after-append st xs now.first in
    let front : List ℕ =
    take now.part (line_of (state_after (state_after st xs) now.first) now.task) in
    record {
      first = xs ++ now.first;
      task = now.task;
      others = now.others;
      all = ap (λ (ts : List Task). xs ++ ts) now.all
          ∙ sym (append_assoc xs now.first (now.task ∷ now.others));
      refines = subst (λ (s : State). Refines new (next_state s now.task)) (sym after)
          now.refines;
      part = now.part;
      sent = subst (λ (s : State). Appends had has (concat (lines_of st (xs ++ now.first)) ++ take
          now.part (line_of s now.task))) (sym after)
          (subst (Appends had has)
          (sym (append_assoc (concat (lines_of st xs))
          (concat (lines_of (state_after st xs) now.first)) front) ∙ ap (λ (t : List ℕ). t ++ front)
          (texts-append st xs now.first))
          (Appends-trans had at has (concat (lines_of st xs))
          (concat (lines_of (state_after st xs) now.first) ++ front) before.sent now.sent));
      count = omega (arith, before.count, now.count, length-append xs now.first);
    }

fails_then :
    (kind : FaultKind) (st : State) (xs ys : List Task) (mid new : Content)
    (had at has : Option (List ℕ)) (from j k : ℕ) →
    DoesAll st xs mid had at from j → FailsIn kind (state_after st xs) ys new at has j k
    → FailsIn kind st (xs ++ ys) new had has from k
fails_then Write st xs ys mid new had at has from j k before now =
    break_then st xs ys mid new had at has from j k before now
fails_then Storage st xs ys mid new had at has from j k before now =
    first_then st xs ys mid new had at has from j k before now
fails_then NoMemory st xs ys mid new had at has from j k before now =
    first_then st xs ys mid new had at has from j k before now
fails_then Read st xs ys mid new had at has from j k before now =
    first_then st xs ys mid new had at has from j k before now
fails_then BadHeader st xs ys mid new had at has from j k before now = now
fails_then BadFile st xs ys mid new had at has from j k before now = now
fails_then UnknownCarrier st xs ys mid new had at has from j k before now = now

pub runs_then :
    (st : State) (xs ys : List Task) (mid new : Content) (had at has : Option (List ℕ)) (from j : ℕ)
    (r : Result ℕ BulkFault) →
    DoesAll st xs mid had at from j → RunsTo (state_after st xs) ys new at has j r
    → RunsTo st (xs ++ ys) new had has from r
runs_then st xs ys mid new had at has from j (Ok k) before now =
    all_then st xs ys mid new had at has from j k before now
runs_then st xs ys mid new had at has from j (Err fault) before now =
    fails_then fault.kind st xs ys mid new had at has from j fault.rows before now

-- A run that failed before more tasks fails with them too.
first_more : (st : State) (xs ys : List Task) (new : Content) (had has : Option (List ℕ))
    (from k : ℕ) → DoesFirst st xs new had has from k → DoesFirst st (xs ++ ys) new had has from k
first_more st xs ys new had has from k h =
    record {
      first = h.first;
      others = h.others ++ ys;
      all = ap (λ (ts : List Task). ts ++ ys) h.all ∙ append_assoc h.first h.others ys;
      done = h.done;
    }

break_more : (st : State) (xs ys : List Task) (new : Content) (had has : Option (List ℕ))
    (from k : ℕ) → BreaksAt st xs new had has from k → BreaksAt st (xs ++ ys) new had has from k
break_more st xs ys new had has from k h =
    record {
      first = h.first;
      task = h.task;
      others = h.others ++ ys;
      all = ap (λ (ts : List Task). ts ++ ys) h.all ∙ append_assoc h.first (h.task ∷ h.others) ys;
      refines = h.refines;
      part = h.part;
      sent = h.sent;
      count = h.count;
    }

pub fails_more :
    (kind : FaultKind) (st : State) (xs ys : List Task) (new : Content) (had has : Option (List ℕ))
    (from k : ℕ) →
    FailsIn kind st xs new had has from k → FailsIn kind st (xs ++ ys) new had has from k
fails_more Write st xs ys new had has from k h = break_more st xs ys new had has from k h
fails_more Storage st xs ys new had has from k h = first_more st xs ys new had has from k h
fails_more NoMemory st xs ys new had has from k h = first_more st xs ys new had has from k h
fails_more Read st xs ys new had has from k h = first_more st xs ys new had has from k h
fails_more BadHeader st xs ys new had has from k h = h
fails_more BadFile st xs ys new had has from k h = h
fails_more UnknownCarrier st xs ys new had has from k h = h

-- No task was executed.
pub none_done : (st : State) (tasks : List Task) (new : Content) (had : Option (List ℕ)) (from : ℕ)
    → Refines new st → DoesFirst st tasks new had had from from
none_done st tasks new had from s = record {
  first = [];
  others = tasks;
  all = refl;
  done = nothing st new had from s;
}

-- One task was executed.
pub one_done : (st : State) (task : Task) (new : Content) (had has : Option (List ℕ)) (from : ℕ)
    → Refines new (next_state st task) → Appends had has (line_of st task)
    → DoesAll st (task ∷ []) new had has from (from + 1)
one_done st task new had has from s sent = record {
  refines = s;
  sent = subst (Appends had has) (sym (append-nil (line_of st task))) sent;
  count = refl;
}

pub one_broken : (st : State) (task : Task) (new : Content) (had has : Option (List ℕ)) (from : ℕ)
    → Refines new (next_state st task) → AppendsPrefix had has (line_of st task)
    → BreaksAt st (task ∷ []) new had has from from
one_broken st task new had has from s sent = record {
  first = [];
  task = task;
  others = [];
  all = refl;
  refines = s;
  part = sent.0;
  sent = sent.2;
  count = omega arith;
}

-- One line was sent, or broke off.
broken_at : (st : State) (task : Task) (new : Content) (had has : Option (List ℕ)) (count : ℕ)
    (kind : FaultKind) (k : ℕ) → kind ≡ Write → k ≡ count
    → BreaksAt st (task ∷ []) new had has count count
    → FailsIn kind st (task ∷ []) new had has count k
broken_at st task new had has count kind k is same h =
    let P : ℕ → FaultKind → Type 0 = λ n w. FailsIn w st (task ∷ []) new had has count n in
    let at_write : P k Write = let Q : ℕ → Type 0 = λ n. P n Write in subst Q (sym same) h in
    let R : FaultKind → Type 0 = λ w. P k w in subst R (sym is) at_write

pub one_sent :
    (st : State) (task : Task) (new : Content) (had has : Option (List ℕ)) (count : ℕ)
    (text : List ℕ) (r : Result ℕ BulkFault) →
    text ≡ line_of st task → Refines new (next_state st task) → SendsOne had has text count r
    → RunsTo st (task ∷ []) new had has count r
one_sent st task new had has count text (Ok k) e s sent =
    let h = one_done st task new had has count s (subst (Appends had has) e sent.0) in
    let P : ℕ → Type 0 = λ n. DoesAll st (task ∷ []) new had has count n in subst P (sym sent.1) h
one_sent st task new had has count text (Err fault) e s sent =
    broken_at st task new had has count fault.kind fault.rows sent.1 sent.2
    (one_broken st task new had has count s (subst (AppendsPrefix had has) e sent.0))

-- Nothing was executed, because the device or an allocation failed.
pub short_stop : (kind : FaultKind) (st : State) (tasks : List Task) (new : Content)
    (had : Option (List ℕ)) (from : ℕ) → IsUnavailableKind kind → Refines new st
    → FailsIn kind st tasks new had had from from
short_stop kind st tasks new had from (inl e) s =
    let P : FaultKind → Type 0 = λ w. FailsIn w st tasks new had had from from in
    subst P (sym e) (none_done st tasks new had from s)
short_stop kind st tasks new had from (inr e) s =
    let P : FaultKind → Type 0 = λ w. FailsIn w st tasks new had had from from in
    subst P (sym e) (none_done st tasks new had from s)

-- All tasks were executed, and then no more could be read.
stopped : (st : State) (tasks : List Task) (new : Content) (had has : Option (List ℕ)) (from k : ℕ)
    → DoesAll st tasks new had has from k → DoesFirst st tasks new had has from k
stopped st tasks new had has from k h = record {
  first = tasks;
  others = [];
  all = sym (append-nil tasks);
  done = h;
}

pub stops_here : (kind : FaultKind) (st : State) (tasks : List Task) (new : Content)
    (had has : Option (List ℕ)) (from k : ℕ) → IsUnread kind → DoesAll st tasks new had has from k
    → FailsIn kind st tasks new had has from k
stops_here kind st tasks new had has from k (inl e) h =
    let P : FaultKind → Type 0 = λ w. FailsIn w st tasks new had has from k in
    subst P (sym e) (stopped st tasks new had has from k h)
stops_here kind st tasks new had has from k (inr e) h =
    let P : FaultKind → Type 0 = λ w. FailsIn w st tasks new had has from k in
    subst P (sym e) (stopped st tasks new had has from k h)

-- The state after a task is one after some inputs of the machine.
input_behind : (st : State) (task : Task) → (inputs : List Input)
    × (next_state st task ≡ machine_after st inputs)
input_behind st (Bad row) = ([], refl)
input_behind st (CommandTask row caller tn w) = (input_for st caller tn w ∷ [], refl)

machine-append : (st : State) (xs ys : List Input)
    → machine_after st (xs ++ ys) ≡ machine_after (machine_after st xs) ys
machine-append st [] ys = refl
machine-append st (x ∷ xs) ys = machine-append (next st x) xs ys

inputs_of : (st : State) (tasks : List Task) → (inputs : List Input)
    × (state_after st tasks ≡ machine_after st inputs)
inputs_of st [] = ([], refl)
inputs_of st (task ∷ tasks) =
    let (one, e) = input_behind st task in
    let (more, f) = inputs_of (next_state st task) tasks in
    (one ++ more, f ∙ ap (λ (s : State). machine_after s more) e ∙ sym (machine-append st one more))

follows_tasks : (st : State) (tasks : List Task) (new : Content)
    → Refines new (state_after st tasks)
    → RefinesReachable st new
follows_tasks st tasks new s = let (inputs, e) = inputs_of st tasks in
    (inputs, subst (Refines new) e s)

fails_follows : (kind : FaultKind) (st : State) (tasks : List Task) (new : Content)
    (had has : Option (List ℕ)) (from k : ℕ) → FailsIn kind st tasks new had has from k
    → RefinesReachable st new
fails_follows Write st tasks new had has from k h =
    follows_tasks st (h.first ++ h.task ∷ []) new
    (subst (Refines new) (sym (state_after-append st h.first (h.task ∷ []))) h.refines)
fails_follows Storage st tasks new had has from k h = follows_tasks st h.first new h.done.refines
fails_follows NoMemory st tasks new had has from k h = follows_tasks st h.first new h.done.refines
fails_follows Read st tasks new had has from k h = follows_tasks st h.first new h.done.refines
fails_follows BadHeader st tasks new had has from k h = absurd h
fails_follows BadFile st tasks new had has from k h = absurd h
fails_follows UnknownCarrier st tasks new had has from k h = absurd h

pub run_follows : (st : State) (tasks : List Task) (new : Content) (had has : Option (List ℕ))
    (from : ℕ) (r : Result ℕ BulkFault) → RunsTo st tasks new had has from r
    → RefinesReachable st new
run_follows st tasks new had has from (Ok k) h = follows_tasks st tasks new h.refines
run_follows st tasks new had has from (Err fault) h =
    fails_follows fault.kind st tasks new had has from fault.rows h

pub follows_then : (st : State) (mid new : Content) → RefinesReachable st mid
    → ((later : State) → Refines mid later → RefinesReachable later new) → RefinesReachable st new
follows_then st mid new before now =
    let h = now (machine_after st before.0) before.1 in
    (before.0 ++ h.0, subst (Refines new) (sym (machine-append st before.0 h.0)) h.1)

pub follows_none : (st : State) (c : Content) → Refines c st → RefinesReachable st c
follows_none st c s = ([], s)
