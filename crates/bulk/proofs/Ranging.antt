-- The numbers of a range.
use Rattle.std.proofs.Common.{◌≡◌, ℕ, zero, suc, ◌+◌, ◌-◌, ◌<◌, ◌≤◌, ◌/◌, List, [], ◌∷◌, ◌++◌, map, Option, Result, inl, inr, ap, sym, subst, ◌∙◌, arith, add-one, add-zero, zero-add}
use Rattle.std.specs.Prelude.{◌⊎◌}
use Rattle.std.proofs.lemmas.List.{map-append}
use Rattle.numbers.specs.Digits.{IsTn, code_of}
use Rattle.model.specs.Content.{Content}
use Rattle.model.specs.State.{State}
use Rattle.register.specs.Refinement.{Refines}
use Rattle.bulk.specs.Report.{Task, rising, state_after}
use Rattle.bulk.specs.Running.{DoesAll, FailsIn, RunsTo, RunsUntil}
use Rattle.bulk.specs.declared.fault.BulkFault.{BulkFault}
use Rattle.bulk.specs.declared.fault.FaultKind.{FaultKind}
use Rattle.bulk.proofs.Runs.{fails_more, runs_then}
use Rattle.bulk.proofs.Until.{until_more, until_then}

pub rising-more : (first many : ℕ) → rising first (many + 1) ≡ rising first many ++ (first + many)
    ∷ []
rising-more first zero = ap (λ (n : ℕ). n ∷ []) (omega arith)
rising-more first (suc many) =
    let same : first + 1 + many ≡ first + suc many = omega arith in
    ap (λ (n : ℕ). rising first n) (add-one (suc many))
    ∙ ap (λ (ns : List ℕ). first ∷ ns) (ap (rising (first + 1)) (sym (add-one many))
    ∙ rising-more (first + 1) many)
    ∙ ap (λ (n : ℕ). first ∷ (rising (first + 1) many ++ n ∷ [])) same

-- One more number.
pub tasks-more : (f : ℕ → Task) (first many n : ℕ) → first + many ≡ n
    → map f (rising first (n + 1 - first)) ≡ map f (rising first (n - first)) ++ f n ∷ []
tasks-more f first many n e =
    let more : n + 1 - first ≡ many + 1 = omega (arith, e) in
    let all : many ≡ n - first = omega (arith, e) in
    ap (λ (k : ℕ). map f (rising first k)) more
    ∙ ap (map f) (rising-more first many)
    ∙ map-append f (rising first many) ((first + many) ∷ [])
    ∙ ap (λ (k : ℕ). map f (rising first many) ++ f k ∷ []) e
    ∙ ap (λ (k : ℕ). map f (rising first k) ++ f n ∷ []) all

-- A number between two of one code is a telephone number.
pub is_between : (a b n : ℕ) → IsTn a → code_of b ≡ code_of a → a ≤ n → n ≤ b → IsTn n
is_between a b n valid code low high =
    let one : n / 10000 ≡ a / 10000 = omega (arith, code, low, high) in
    (omega (arith, one, valid.0), omega (arith, one, valid.1), omega (arith, one, valid.2))

rising-split : (first a b : ℕ) → rising first (a + b) ≡ rising first a ++ rising (first + a) b
rising-split first zero b = ap (λ (k : ℕ). rising first k) (zero-add b) ∙ ap (λ (n : ℕ). rising n b)
    (sym (add-zero first))
rising-split first (suc a) b =
    let more : suc a + b ≡ suc (a + b) = omega arith in
    let at : first + 1 + a ≡ first + suc a = omega arith in
    ap (λ (k : ℕ). rising first k) more
    ∙ ap (λ (ns : List ℕ). first ∷ ns) (rising-split (first + 1) a b)
    ∙ ap (λ (n : ℕ). first ∷ (rising (first + 1) a ++ rising n b)) at

-- A run over the numbers before `n`, and then over `n`.
pub runs_number :
    (f : ℕ → Task) (first n : ℕ) (st : State) (mid new : Content) (had at has : Option (List ℕ))
    (from j : ℕ) (r : Result ℕ BulkFault) → first ≤ n →
    DoesAll st (map f (rising first (n - first))) mid had at from j →
    RunsTo (state_after st (map f (rising first (n - first)))) (f n ∷ []) new at has j r
    → RunsTo st (map f (rising first (n + 1 - first))) new had has from r
runs_number f first n st mid new had at has from j r low before now =
    let P : List Task → Type 0 = λ tasks. RunsTo st tasks new had has from r in
    subst P (sym (tasks-more f first (n - first) n (omega (arith, low))))
    (runs_then st (map f (rising first (n - first))) (f n ∷ []) mid new had at has from j r before
    now)

-- The tasks of the numbers up to `n`, and of those after it.
range_split : (f : ℕ → Task) (first last n : ℕ) → first ≤ n → n < last + 1
    → map f (rising first (n + 1 - first)) ++ map f (rising (first + (n + 1 - first)) (last - n))
    ≡ map f (rising first (last + 1 - first))
range_split f first last n low high =
    let all : n + 1 - first + (last - n) ≡ last + 1 - first = omega (arith, low, high) in
    sym (map-append f (rising first (n + 1 - first)) (rising (first + (n + 1 - first)) (last - n)))
    ∙ ap (map f) (sym (rising-split first (n + 1 - first) (last - n)))
    ∙ ap (λ (m : ℕ). map f (rising first m)) all

-- A run that failed in the first numbers failed in all.
pub fails_among :
    (kind : FaultKind) (f : ℕ → Task) (first last n : ℕ) (st : State) (new : Content)
    (had has : Option (List ℕ)) (from k : ℕ) → first ≤ n → n < last + 1 →
    FailsIn kind st (map f (rising first (n + 1 - first))) new had has from k
    → FailsIn kind st (map f (rising first (last + 1 - first))) new had has from k
fails_among kind f first last n st new had has from k low high h =
    let P : List Task → Type 0 = λ tasks. FailsIn kind st tasks new had has from k in
    subst P (range_split f first last n low high)
    (fails_more kind st (map f (rising first (n + 1 - first)))
    (map f (rising (first + (n + 1 - first)) (last - n))) new had has from k h)

-- A run over the numbers before `n` that ended with `storage` or `no_memory` at `n`.
until_number :
    (f : ℕ → Task) (first last n : ℕ) (st : State) (mid : Content) (had at has : Option (List ℕ))
    (from j : ℕ) (r : Result ℕ BulkFault) → first ≤ n → n < last + 1 →
    DoesAll st (map f (rising first (n - first))) mid had at from j →
    RunsUntil (state_after st (map f (rising first (n - first)))) (f n ∷ []) at has j r
    → RunsUntil st (map f (rising first (last + 1 - first))) had has from r
until_number f first last n st mid had at has from j r low high before now =
    let P : List Task → Type 0 = λ tasks. RunsUntil st tasks had has from r in
    subst P (range_split f first last n low high)
    (until_more st (map f (rising first (n + 1 - first)))
    (map f (rising (first + (n + 1 - first)) (last - n))) had has from r
    (subst P (sym (tasks-more f first (n - first) n (omega (arith, low))))
    (until_then st (map f (rising first (n - first))) (f n ∷ []) mid had at has from j r before
    now)))

pub until_among :
    (U : Type 0) (f : ℕ → Task) (first last n : ℕ) (old mid : Content)
    (had at has : Option (List ℕ)) (from j : ℕ) (r result : Result ℕ BulkFault)
    → result ≡ r → first ≤ n → n < last + 1 →
    ((st : State) → Refines old st
    → DoesAll st (map f (rising first (n - first))) mid had at from j)
    → U ⊎ ((st : State) → Refines mid st → RunsUntil st (f n ∷ []) at has j r)
    → U ⊎ ((st : State) → Refines old st
    → RunsUntil st (map f (rising first (last + 1 - first))) had has from result)
until_among U f first last n old mid had at has from j r result is low high before (inl usable) =
    inl usable
until_among U f first last n old mid had at has from j r result is low high before (inr now) =
    inr (λ st s.
    let done = before st s in
    let P : Result ℕ BulkFault → Type 0 =
    λ said. RunsUntil st (map f (rising first (last + 1 - first))) had has from said in
    subst P (sym is) (until_number f first last n st mid had at has from j r low high done
    (now (state_after st (map f (rising first (n - first)))) done.refines)))

-- After the last number, all are done.
pub does_numbers :
    (f : ℕ → Task) (first last n : ℕ) (st : State) (new : Content) (had has : Option (List ℕ))
    (from k : ℕ) → n ≡ last + 1 →
    DoesAll st (map f (rising first (n - first))) new had has from k
    → DoesAll st (map f (rising first (last + 1 - first))) new had has from k
does_numbers f first last n st new had has from k e h =
    let P : ℕ → Type 0 = λ m. DoesAll st (map f (rising first (m - first))) new had has from k in
    subst P e h
