-- As many subjects in force pass a test as rows in force do.
use Rattle.std.proofs.Common.{◌≡◌, ℕ, suc, ◌<◌, Bool, true, false, cond, List, [], ◌∷◌, length, map, refl, ap, sym, ◌∙◌}
use Rattle.std.specs.Prelude.{filter, if◌then◌else◌}
use Rattle.numbers.specs.Subjects.{Subject, subject_lt}
use Rattle.model.specs.Versions.{in_force}
use Rattle.model.specs.State.{SubjectVersion, InForce, row_inserted, rows_in_force}
use Rattle.model.proofs.Ascending as ascending

-- ---- ascending lists

module _ {A : Type 0} (key : A → ℕ) (p : A → Bool) where
  above_filtered : (k : ℕ) (xs : List A) → ascending.AreAbove key k xs
      → ascending.AreAbove key k (filter p xs)
  above_filtered k [] above = tt
  above_filtered k (x ∷ xs) above = by_cases (above_filtered k xs above.1) (p x)
    where
      by_cases : ascending.AreAbove key k (filter p xs) → (b : Bool)
          → ascending.AreAbove key k (cond b (x ∷ filter p xs) (filter p xs))
      by_cases later true = (above.0, later)
      by_cases later false = later

  -- The items of an ascending list that pass a test ascend.
  pub filtered-rise : (xs : List A) → ascending.Rise key xs → ascending.Rise key (filter p xs)
  filtered-rise [] rise = tt
  filtered-rise (x ∷ xs) rise = by_cases (filtered-rise xs rise.1) (p x)
    where
      by_cases : ascending.Rise key (filter p xs) → (b : Bool)
          → ascending.Rise key (cond b (x ∷ filter p xs) (filter p xs))
      by_cases later true = (above_filtered (key x) xs rise.0, later)
      by_cases later false = later

-- A list that ascends by one number ascends by another that grows with it.
pub rekeyed-rise : {A : Type 0} (key other : A → ℕ)
    → ((x y : A) → key x < key y → other x < other y) → (xs : List A) → ascending.Rise key xs
    → ascending.Rise other xs
rekeyed-rise key other grows [] rise = tt
rekeyed-rise {A} key other grows (x ∷ xs) rise =
    (above xs rise.0, rekeyed-rise key other grows xs rise.1)
  where
    above : (ys : List A) → ascending.AreAbove key (key x) ys
        → ascending.AreAbove other (other x) ys
    above [] all = tt
    above (y ∷ ys) all = (grows x y all.0, above ys all.1)

-- ---- equally many

module _ (p : Subject → Bool) where
  abbrev pub passing_rows : List InForce → List Subject
  passing_rows rows = filter p (map (λ (r : InForce). r.subject) rows)

  abbrev pub passing_versions : List SubjectVersion → List Subject
  passing_versions es =
      filter p (map (λ (e : SubjectVersion). e.subject) (filter (λ e. in_force e.version) es))

  abbrev counted : Bool → ℕ → ℕ
  counted b n = if b then suc n else n

  first_counted : (b : Bool) (s : Subject) (ss : List Subject)
      → length (cond b (s ∷ ss) ss) ≡ counted b (length ss)
  first_counted true s ss = refl
  first_counted false s ss = refl

  counted-swap : (a b : Bool) (n : ℕ) → counted a (counted b n) ≡ counted b (counted a n)
  counted-swap true true n = refl
  counted-swap true false n = refl
  counted-swap false true n = refl
  counted-swap false false n = refl

  -- An inserted row counts as if it were the first.
  length-inserted : (r : InForce) (qs : List InForce) → length (passing_rows (row_inserted r qs))
      ≡ counted (p r.subject) (length (passing_rows qs))
  length-inserted r [] = first_counted (p r.subject) r.subject []
  length-inserted r (q ∷ qs) = by_cases (length-inserted r qs) (subject_lt r.subject q.subject)
    where
      by_cases : length (passing_rows (row_inserted r qs)) ≡ counted (p r.subject)
          (length (passing_rows qs)) → (b : Bool) →
          length (passing_rows (if b then r ∷ q ∷ qs else q ∷ row_inserted r qs))
          ≡ counted (p r.subject) (length (passing_rows (q ∷ qs)))
      by_cases later true = first_counted (p r.subject) r.subject (passing_rows (q ∷ qs))
      by_cases later false =
          first_counted (p q.subject) q.subject (passing_rows (row_inserted r qs))
          ∙ ap (counted (p q.subject)) later
          ∙ counted-swap (p q.subject) (p r.subject) (length (passing_rows qs))
          ∙ ap (counted (p r.subject))
          (sym (first_counted (p q.subject) q.subject (passing_rows qs)))

  pub length-rows : (es : List SubjectVersion)
      → length (passing_versions es) ≡ length (passing_rows (rows_in_force es))
  length-rows [] = refl
  length-rows (e ∷ es) = by_cases (length-rows es) (in_force e.version)
    where
      row : InForce
      row = record { subject = e.subject; routing = e.version.routing }

      by_cases : length (passing_versions es) ≡ length (passing_rows (rows_in_force es))
          → (b : Bool) →
          length (filter p (map (λ (x : SubjectVersion). x.subject)
          (cond b (e ∷ filter (λ x. in_force x.version) es) (filter (λ x. in_force x.version) es))))
          ≡ length (passing_rows (if b then row_inserted (record {
            subject = e.subject;
            routing = e.version.routing;
          }) (rows_in_force es) else rows_in_force es))
      by_cases later true =
          first_counted (p e.subject) e.subject (passing_versions es) ∙ ap (counted (p e.subject))
          later
          ∙ sym (length-inserted (record {
            subject = e.subject;
            routing = e.version.routing;
          }) (rows_in_force es))
      by_cases later false = later
