-- The progress of a run over the rows of a file.
use Rattle.std.proofs.Common.{◌≡◌, ℕ, ◌+◌, true, false, List, [], ◌∷◌, ◌++◌, length, Option, Ok, Err, refl, ap, sym, subst, ◌∙◌, arith, append_assoc, append-nil, length-append, add-zero}
use Rattle.csv.specs.declared.reader.Reader.{Reader}
use Rattle.model.specs.Content.{Content}
use Rattle.model.specs.State.{State}
use Rattle.register.specs.Refinement.{Refines}
use Rattle.bulk.specs.Faults.{IsUnread}
use Rattle.bulk.specs.Requests.{ParsesRow}
use Rattle.bulk.specs.Report.{AreRead, Task, state_after, tasks_from, tasks_of}
use Rattle.bulk.specs.Rows.{Row, HasRows, Takes}
use Rattle.bulk.specs.Running.{DoesAll, FailsIn, RunsAll, RunsFirst, RunsRowsUntil, RunsTo, RunsUntil, SendsFirst}
use Rattle.bulk.specs.declared.fault.BulkFault.{BulkFault}
use Rattle.bulk.specs.declared.fault.FaultKind.{FaultKind}
use Rattle.bulk.specs.declared.request.BulkRequest.{BulkRequest}
use Rattle.bulk.proofs.Runs.{nothing, runs_then, stops_here}
use Rattle.bulk.proofs.Until.{until_then}

-- Holds if the first rows were run, and the reader has the others.
pub record Passes {R : Type 0} (rem : R → Option (List ℕ)) (st : State) (rows : List Row)
    (reader : Reader R) (new : Content) (had has : Option (List ℕ)) (row k : ℕ) : Type 0 where
  pub first : List Row
  pub others : List Row
  pub all : rows ≡ first ++ others
  pub left : HasRows rem reader others
  pub requests : List (Option BulkRequest)
  pub read : AreRead first requests
  pub next : row ≡ 1 + length requests
  pub done : DoesAll st (tasks_from 1 requests) new had has 0 k

tasks_from-then : (row : ℕ) (os : List (Option BulkRequest)) (o : Option BulkRequest)
    → tasks_from row (os ++ o ∷ []) ≡ tasks_from row os ++ tasks_of (row + length os) o
tasks_from-then row [] o =
    append-nil (tasks_of row o) ∙ ap (λ (n : ℕ). tasks_of n o) (sym (add-zero row))
tasks_from-then row (p ∷ os) o =
    let at : row + 1 + length os ≡ row + length (p ∷ os) = omega arith in
    ap (λ (ts : List Task). tasks_of row p ++ ts) (tasks_from-then (row + 1) os o
    ∙ ap (λ (n : ℕ). tasks_from (row + 1) os ++ tasks_of n o) at)
    ∙ sym (append_assoc (tasks_of row p) (tasks_from (row + 1) os) (tasks_of (row + length (p ∷ os))
    o))

read_then : (rows : List Row) (os : List (Option BulkRequest)) (row : Row) (o : Option BulkRequest)
    → AreRead rows os → ParsesRow row o → AreRead (rows ++ row ∷ []) (os ++ o ∷ [])
read_then [] [] row o h r = (r, tt)
read_then (x ∷ rows) (p ∷ os) row o h r = (h.0, read_then rows os row o h.1 r)
read_then [] (p ∷ os) row o h r = absurd h
read_then (x ∷ rows) [] row o h r = absurd h

pub begins : {R : Type 0} (rem : R → Option (List ℕ)) (st : State) (rows : List Row)
    (reader : Reader R) (c : Content) (had : Option (List ℕ)) → Refines c st
    → HasRows rem reader rows → Passes rem st rows reader c had had 1 0
begins rem st rows reader c had s h = record {
  first = [];
  others = rows;
  all = refl;
  left = h;
  requests = [];
  read = tt;
  next = refl;
  done = nothing st c had 0 s;
}

module _ {R : Type 0} (rem : R → Option (List ℕ)) (st : State) (rows : List Row)
    (at reader : Reader R) (mid : Content) (had has : Option (List ℕ)) (row k : ℕ)
    (p : Passes rem st rows at mid had has row k) where
  -- The last row has been read.
  pub ends : (raw : Row) → ((rest : List Row) → HasRows rem at rest
      → Takes rem reader false raw rest) → RunsAll st rows mid had has k
  ends raw takes =
      let none : p.others ≡ [] = takes p.others p.left in
      let whole : rows ≡ p.first = p.all ∙ ap (λ (rs : List Row). p.first ++ rs) none
      ∙ append-nil p.first in
      let P : List Row → Type 0 = λ rs. AreRead rs p.requests in
      record { requests = p.requests; read = subst P (sym whole) p.read; done = p.done }

  -- The reader failed, or there are more rows than can be counted.
  pub unread : (kind : FaultKind) → IsUnread kind → RunsFirst kind st rows mid had has k
  unread kind is = record {
    first = p.first;
    others = p.others;
    all = p.all;
    requests = p.requests;
    read = p.read;
    failed = stops_here kind st (tasks_from 1 p.requests) mid had has 0 k is p.done;
  }

  -- One more row was read.
  module _ (raw : Row) (o : Option BulkRequest) (new : Content) (then : Option (List ℕ))
      (reads : ParsesRow raw o) (takes : (rest : List Row) → HasRows rem at rest
      → Takes rem reader true raw rest) where
    taken : (more : List Row) × (p.others ≡ raw ∷ more) × HasRows rem reader more
    taken = takes p.others p.left

    rows_are : rows ≡ (p.first ++ raw ∷ []) ++ taken.0
    rows_are = p.all ∙ ap (λ (rs : List Row). p.first ++ rs) taken.1
        ∙ sym (append_assoc p.first (raw ∷ []) taken.0)

    tasks_are : tasks_from 1 p.requests ++ tasks_of row o ≡ tasks_from 1 (p.requests ++ o ∷ [])
    tasks_are = ap (λ (n : ℕ). tasks_from 1 p.requests ++ tasks_of n o) p.next
        ∙ sym (tasks_from-then 1 p.requests o)

    pub passes_row : (j : ℕ) → RunsTo (state_after st (tasks_from 1 p.requests)) (tasks_of row o)
        new
        has then k (Ok j) → Passes rem st rows reader new had then (row + 1) j
    passes_row j run =
        let P : List Task → Type 0 = λ ts. DoesAll st ts new had then 0 j in
        record {
          first = p.first ++ raw ∷ [];
          others = taken.0;
          all = rows_are;
          left = taken.2;
          requests = p.requests ++ o ∷ [];
          read = read_then p.first p.requests raw o p.read reads;
          next = omega (arith, p.next, length-append p.requests (o ∷ []));
          done = subst P tasks_are (runs_then st (tasks_from 1 p.requests) (tasks_of row o) mid new
              had has then 0 k (Ok j) p.done run);
        }

    pub fails_row : (fault : BulkFault)
        → RunsTo (state_after st (tasks_from 1 p.requests)) (tasks_of row o) new has
        then k (Err fault) → RunsFirst fault.kind st rows new had then fault.rows
    fails_row fault run =
        let P : List Task → Type 0 = λ ts. FailsIn fault.kind st ts new had then 0 fault.rows in
        record {
          first = p.first ++ raw ∷ [];
          others = taken.0;
          all = rows_are;
          requests = p.requests ++ o ∷ [];
          read = read_then p.first p.requests raw o p.read reads;
          failed = subst P tasks_are (runs_then st (tasks_from 1 p.requests) (tasks_of row o) mid
              new
              had has then 0 k (Err fault) p.done run);
        }

    -- The row ended with `storage` or `no_memory`.
    pub until_row : (fault : BulkFault)
        → RunsUntil (state_after st (tasks_from 1 p.requests)) (tasks_of row o) has then k
        (Err fault) → RunsRowsUntil st rows had then (Err fault)
    until_row fault run =
        let until = until_then st (tasks_from 1 p.requests) (tasks_of row o) mid had has then 0 k
        (Err fault) p.done run in
        let P : List Task → Type 0 = λ ts. SendsFirst st ts had then 0 fault.rows in (
          until.0,
          record {
            first = p.first ++ raw ∷ [];
            others = taken.0;
            all = rows_are;
            requests = p.requests ++ o ∷ [];
            read = read_then p.first p.requests raw o p.read reads;
            sent = subst P tasks_are until.1;
          },
        )
