-- A run of downloads, whose broadcast has no row, is added as one row.
use Rattle.std.proofs.Common.{◌≡◌, ◌≤◌, ◌+◌, ℕ, suc, Bool, true, false, cond, List, [], ◌∷◌, map, take, Option, Some, None, refl, ap, sym, ◌∙◌, ◌&&◌, ◌||◌, arith}
use Rattle.std.specs.Prelude.{◌==◌, ⊤, nat_le}
use Rattle.std.specs.List.{list_any}
use Rattle.std.specs.Ordering.{eq_by_cmp}
use Rattle.std.proofs.lemmas.Bool.Decides.{nat_tests}
use Rattle.std.specs.FinMap.{FinMap, get, same_map}
use Rattle.numbers.specs.Subjects.{Subject, subject_key}
use Rattle.numbers.specs.Abstraction.{subject_of}
use Rattle.numbers.specs.declared.ported.Subject.{Subject as SubjectImpl}
use Rattle.numbers.specs.declared.spid.Spid.{Spid}
use Rattle.numbers.proofs.SubjectKeys.{subject_key-exact}
use Rattle.numbers.proofs.Small.{tied, and_first, and_second, equal_number, numbers_turned}
use Rattle.model.specs.Content.{WaitKey, wait_cmp}
use Rattle.model.proofs.KeyOrders.{wait_total, wait_exact}
use Rattle.settle.specs.Abstraction.{spid_of, wait_key_of}
use Rattle.settle.specs.declared.rows.WaitKey.{WaitKey as WaitKeyImpl}
use Rattle.store.specs.Batch.{AreNew}
use Rattle.store.specs.Maps.{set}
use Rattle.store.specs.QueueRows.{AreOf}
use Rattle.store.specs.Runs.{carriers_in, is_next, run_length}
use Rattle.store.specs.WaitRows.{Download, download_cmp, download_of, wait_for, Waiting, waits_of, awaited}
use Rattle.store.proofs.Maps.{get-set}
use Rattle.store.proofs.OneRow.{any-seen}
use Rattle.store.proofs.RowsChanged.{IsRow}
use Rattle.store.proofs.RowsFlat.{download_exact, wait-ties, get-waits_of}

-- Holds if the downloads are of the broadcast and of the subject, and their carriers ascend from
-- `from` on.
abbrev pub IsRun : Download → Subject → (from : ℕ) → List (WaitKeyImpl × SubjectImpl) → Type 0
IsRun d s from [] = ⊤
IsRun d s from (e ∷ es) =
    ((from ≤ e.0.carrier.number) × ((d ≡ download_of (wait_key_of e.0)) × (s ≡ subject_of e.1)))
    × IsRun d s (e.0.carrier.number + 1) es

at_most : (m n : ℕ) → nat_le m n ≡ true → m ≤ n
at_most m n is = grind (arith, nat_tests, is)

next-is : (d : Download) (s : Subject) (from : ℕ) (e : WaitKeyImpl × SubjectImpl)
    → is_next d s from e ≡ true → (from ≤ e.0.carrier.number)
    × ((d ≡ download_of (wait_key_of e.0)) × (s ≡ subject_of e.1))
next-is d s from e is =
    let rest = and_second (nat_le from e.0.carrier.number) _ is in
    let tie = and_first (eq_by_cmp download_cmp d (download_of (wait_key_of e.0))) _ rest in
    let keys : (subject_key s == subject_key (subject_of e.1)) ≡ true =
    and_second (eq_by_cmp download_cmp d (download_of (wait_key_of e.0))) _ rest in (
      at_most _ _ (and_first (nat_le from e.0.carrier.number) _ is),
      (
        download_exact d (download_of (wait_key_of e.0)) (tied _ tie),
        subject_key-exact s (subject_of e.1) (equal_number _ _ keys),
      ),
    )

-- The first downloads, as many as the length says, are a run.
pub run-first : (d : Download) (s : Subject) (from : ℕ) (es : List (WaitKeyImpl × SubjectImpl))
    → IsRun d s from (take (run_length d s from es) es)
run-first d s from [] = tt
run-first d s from (e ∷ es) =
    by_cases (is_next d s from e) refl (run-first d s (e.0.carrier.number + 1) es)
  where
    by_cases : (b : Bool) → is_next d s from e ≡ b
        → IsRun d s (e.0.carrier.number + 1) (take (run_length d s (e.0.carrier.number + 1) es) es)
        → IsRun d s from (take (cond b (suc (run_length d s (e.0.carrier.number + 1) es)) 0)
        (e ∷ es))
    by_cases false is rest = tt
    by_cases true is rest = (next-is d s from e is, rest)

-- A run is of one broadcast.
pub run-of : (d : Download) (s : Subject) (from : ℕ) (es : List (WaitKeyImpl × SubjectImpl))
    → IsRun d s from es → AreOf d es
run-of d s from [] run = tt
run-of d s from (e ∷ es) run =
    (sym run.0.1.0, run-of d s (e.0.carrier.number + 1) es run.1)

apart : (m n : ℕ) → m + 1 ≤ n → (m == n) ≡ false
apart m n less = grind (arith, nat_tests, less)

-- Downloads that a map lacks are new if the later map differs in them only.
pub run-new : (d : Download) (s : Subject) (from : ℕ) (es : List (WaitKeyImpl × SubjectImpl))
    (old new : FinMap wait_cmp Subject) → ((c : ℕ) → from ≤ c → get old (wait_for d c) ≡ None)
    →
    ((q : WaitKey) → get new q ≡ cond (eq_by_cmp download_cmp d (download_of q)
    && list_any (λ (k : Spid). q.carrier == k.number) (carriers_in es)) (Some s) (get old q))
    → IsRun d s from es → AreNew es old new
run-new d s from [] old new none each run =
    same_map wait_total wait_exact new old
    (λ q. each q ∙ nothing (eq_by_cmp download_cmp d (download_of q)) q)
  where
    nothing : (b : Bool) (q : WaitKey) → cond (b && false) (Some s) (get old q) ≡ get old q
    nothing true q = refl
    nothing false q = refl
run-new d s from (e ∷ es) old new none each run =
    let own : wait_key_of e.0 ≡ wait_for d e.0.carrier.number =
    ap (λ x. wait_for x e.0.carrier.number) (sym run.0.1.0) in (
      ap (get old) own ∙ none e.0.carrier.number run.0.0,
      run-new d s (e.0.carrier.number + 1) es
          (set old (wait_key_of e.0) (Some (subject_of e.1))) new
          (λ c above. get-set wait_total wait_exact old (wait_key_of e.0)
          (Some (subject_of e.1)) (wait_for d c)
          ∙ ap (λ b. cond b (Some (subject_of e.1)) (get old (wait_for d c)))
          (wait-ties (wait_key_of e.0) d c)
          ∙ ap (λ b. cond (b && eq_by_cmp download_cmp (download_of (wait_key_of e.0)) d)
          (Some (subject_of e.1)) (get old (wait_for d c))) (apart e.0.carrier.number c above)
          ∙ none c (later c above run.0.0))
          (λ q. each q
          ∙ by_cases (q.carrier == e.0.carrier.number)
          (eq_by_cmp download_cmp d (download_of q))
          (list_any (λ (k : Spid). q.carrier == k.number) (carriers_in es)) (get old q)
          ∙ ap (cond (eq_by_cmp download_cmp d (download_of q)
          && list_any (λ (k : Spid). q.carrier == k.number) (carriers_in es)) (Some s))
          (sym (was q)))
          run.1,
    )
  where
    later : (c : ℕ) → e.0.carrier.number + 1 ≤ c → from ≤ e.0.carrier.number → from ≤ c
    later c above low = omega (arith, above, low)

    was : (q : WaitKey) → get (set old (wait_key_of e.0) (Some (subject_of e.1))) q
        ≡ cond ((q.carrier == e.0.carrier.number) && eq_by_cmp download_cmp d (download_of q))
        (Some s) (get old q)
    was q =
        get-set wait_total wait_exact old (wait_key_of e.0) (Some (subject_of e.1)) q
        ∙ ap (λ b. cond b (Some (subject_of e.1)) (get old q))
        (wait-ties (wait_key_of e.0) (download_of q) q.carrier)
        ∙ (λ i. cond (numbers_turned e.0.carrier.number q.carrier i
        && eq_by_cmp download_cmp (sym run.0.1.0 i) (download_of q))
        (Some (sym run.0.1.1 i)) (get old q))

    by_cases : (x b y : Bool) (o : Option Subject)
        → cond (b && (x || y)) (Some s) o ≡ cond (b && y) (Some s) (cond (x && b) (Some s) o)
    by_cases true true true o = refl
    by_cases true true false o = refl
    by_cases true false y o = refl
    by_cases false true y o = refl
    by_cases false false y o = refl

-- A row of a run is written.
pub run-waits : (d : Download) (s : Subject) (es : List (WaitKeyImpl × SubjectImpl))
    (old new : FinMap download_cmp Waiting) → get old d ≡ None
    → IsRow old new d (Some (s, map spid_of (carriers_in es))) → IsRun d s 0 es
    → AreNew es (waits_of old) (waits_of new)
run-waits d s es old new none row run = run-new d s 0 es (waits_of old) (waits_of new)
    (λ c low. get-waits_of old (wait_for d c) ∙ ap (λ o. awaited o c) none)
    (λ q. get-waits_of new q ∙ ap (λ o. awaited o q.carrier) (row (download_of q))
    ∙ by_cases q (eq_by_cmp download_cmp d (download_of q)) refl
    ∙ ap (cond (eq_by_cmp download_cmp d (download_of q)
    && list_any (λ (k : Spid). q.carrier == k.number) (carriers_in es)) (Some s))
    (sym (get-waits_of old q)))
    run
  where
    by_cases : (q : WaitKey) (b : Bool) → eq_by_cmp download_cmp d (download_of q) ≡ b
        → awaited (cond b (Some (s, map spid_of (carriers_in es))) (get old (download_of q)))
        q.carrier
        ≡ cond (b && list_any (λ (k : Spid). q.carrier == k.number) (carriers_in es)) (Some s)
        (awaited (get old (download_of q)) q.carrier)
    by_cases q true t =
        (λ i. cond (any-seen q.carrier (carriers_in es) i) (Some s)
        (awaited (sym (ap (get old) (sym (download_exact d (download_of q) (tied _ t))) ∙ none) i)
        q.carrier))
    by_cases q false t = refl
