-- Runs that end with `storage` or `no_memory`: only their lines are known.
use Rattle.std.proofs.Common.{ℕ, List, [], ◌++◌, Option, Result, Ok, Err, inl, inr, refl, ap, sym, subst, ◌∙◌, arith, append_assoc, length-append}
use Rattle.std.specs.Prelude.{◌⊎◌}
use Rattle.std.specs.List.{concat}
use Rattle.std.specs.Io.KnownBytes.{Appends}
use Rattle.std.proofs.KnownBytes.{Appends-nil, Appends-trans}
use Rattle.model.specs.Content.{Content}
use Rattle.model.specs.State.{State}
use Rattle.bulk.specs.Faults.{IsUnavailableKind}
use Rattle.bulk.specs.Report.{Task, lines_of, state_after}
use Rattle.bulk.specs.Running.{DoesAll, RunsUntil}
use Rattle.bulk.specs.declared.fault.BulkFault.{BulkFault}
use Rattle.bulk.proofs.Runs.{texts-append}

-- The store is usable, or something follows.
pub or_then : {U A B : Type 0} → U ⊎ A → (A → B) → U ⊎ B
or_then (inl usable) f = inl usable
or_then (inr a) f = inr (f a)

-- No line was sent.
pub until_none : (st : State) (tasks : List Task) (had : Option (List ℕ)) (fault : BulkFault)
    → IsUnavailableKind fault.kind → RunsUntil st tasks had had fault.rows (Err fault)
until_none st tasks had fault is = (
  is,
  record { first = []; others = tasks; all = refl; sent = Appends-nil had; count = omega arith },
)

-- A run that ended so after other tasks.
pub until_then :
    (st : State) (xs ys : List Task) (mid : Content) (had at has : Option (List ℕ)) (from j : ℕ)
    (r : Result ℕ BulkFault) →
    DoesAll st xs mid had at from j → RunsUntil (state_after st xs) ys at has j r
    → RunsUntil st (xs ++ ys) had has from r
until_then st xs ys mid had at has from j (Ok k) before now = now
until_then st xs ys mid had at has from j (Err fault) before now =
    let sends = now.1 in (
      now.0,
      record {
        first = xs ++ sends.first;
        others = sends.others;
        all = ap (λ (ts : List Task). xs ++ ts) sends.all
            ∙ sym (append_assoc xs sends.first sends.others);
        sent = subst (Appends had has) (texts-append st xs sends.first)
            (Appends-trans had at has (concat (lines_of st xs))
            (concat (lines_of (state_after st xs) sends.first)) before.sent sends.sent);
        count = omega (arith, before.count, sends.count, length-append xs sends.first);
      },
    )

-- A run that ended so before more tasks.
pub until_more :
    (st : State) (xs ys : List Task) (had has : Option (List ℕ)) (from : ℕ)
    (r : Result ℕ BulkFault) →
    RunsUntil st xs had has from r → RunsUntil st (xs ++ ys) had has from r
until_more st xs ys had has from (Ok k) h = h
until_more st xs ys had has from (Err fault) h =
    let sends = h.1 in (
      h.0,
      record {
        first = sends.first;
        others = sends.others ++ ys;
        all = ap (λ (ts : List Task). ts ++ ys) sends.all
            ∙ append_assoc sends.first sends.others ys;
        sent = sends.sent;
        count = sends.count;
      },
    )
