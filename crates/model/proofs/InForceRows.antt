-- The list of what is in force: ascending by subject, without duplicates, with each version in
-- force.
use Rattle.std.proofs.Common.{◌≡◌, ℕ, inl, inr, suc, ◌≤◌, ◌<◌, Bool, true, false, List, [], ◌∷◌, Option, Some, None, refl, ap, sym, ◌∙◌, subst, arith}
use Rattle.std.specs.Prelude.{◌==◌, ◌⊎◌, nat_lt, if◌then◌else◌}
use Rattle.std.specs.List.{cons_option}
use Rattle.std.proofs.lemmas.Bool.Decides.{nat_tests}
use Rattle.numbers.specs.Subjects.{Subject, subject_key, subject_lt}
use Rattle.numbers.proofs.SubjectKeys.{subject_key-exact}
use Rattle.model.specs.Versions.{Version, Record, in_force, version_with}
use Rattle.model.specs.History.{subject_of_id}
use Rattle.model.specs.State.{SubjectVersion, InForce, of_its_subject, versions_made, row_inserted, rows_in_force}
use Rattle.numbers.proofs.Small.{same_number, less_is, some_is, not_less}
use Rattle.model.proofs.Lists.{Among}
use Rattle.model.proofs.Ascending as ascending

-- ---- ascending lists of rows

abbrev pub key : InForce → ℕ
key r = subject_key r.subject

abbrev pub AreAbove : ℕ → List InForce → Type 0
AreAbove = ascending.AreAbove key

abbrev pub Rise : List InForce → Type 0
Rise = ascending.Rise key

-- ---- a row inserted

inserted-among : (r : InForce) (qs : List InForce) (x : InForce) → Among x (row_inserted r qs)
    → (x ≡ r) ⊎ Among x qs
inserted-among r [] x (inl e) = inl e
inserted-among r [] x (inr is) = absurd is
inserted-among r (q ∷ qs) x is =
    by_cases (inserted-among r qs x) (subject_lt r.subject q.subject) is
  where
    rest : (x ≡ r) ⊎ Among x qs → (x ≡ r) ⊎ Among x (q ∷ qs)
    rest (inl e) = inl e
    rest (inr there) = inr (inr there)

    by_cases : (Among x (row_inserted r qs) → (x ≡ r) ⊎ Among x qs) → (b : Bool)
        → Among x (if b then r ∷ q ∷ qs else q ∷ row_inserted r qs) → (x ≡ r) ⊎ Among x (q ∷ qs)
    by_cases later true (inl e) = inl e
    by_cases later true (inr there) = inr there
    by_cases later false (inl e) = inr (inl e)
    by_cases later false (inr there) = rest (later there)

among-inserted : (r : InForce) (qs : List InForce) (x : InForce) → (x ≡ r) ⊎ Among x qs
    → Among x (row_inserted r qs)
among-inserted r [] x (inl e) = inl e
among-inserted r [] x (inr is) = absurd is
among-inserted r (q ∷ qs) x is =
    by_cases (among-inserted r qs x) (subject_lt r.subject q.subject) is
  where
    by_cases : ((x ≡ r) ⊎ Among x qs → Among x (row_inserted r qs)) → (b : Bool)
        → (x ≡ r) ⊎ Among x (q ∷ qs) → Among x (if b then r ∷ q ∷ qs else q ∷ row_inserted r qs)
    by_cases later true (inl e) = inl e
    by_cases later true (inr there) = inr there
    by_cases later false (inl e) = inr (later (inl e))
    by_cases later false (inr (inl e)) = inl e
    by_cases later false (inr (inr there)) = inr (later (inr there))

more_above : (a b : ℕ) (qs : List InForce) → a < b → AreAbove b qs → AreAbove a qs
more_above a b [] less above = tt
more_above a b (q ∷ qs) less above = (omega (arith, less, above.0), more_above a b qs less above.1)

inserted-rise : (r : InForce) (qs : List InForce) → Rise qs
    → ((q : InForce) → Among q qs → key q ≡ key r → ⊥) → Rise (row_inserted r qs)
inserted-rise r [] rise apart = (tt, tt)
inserted-rise r (q ∷ qs) rise apart =
    by_cases (inserted-rise r qs rise.1 (λ x is. apart x (inr is))) (subject_lt r.subject q.subject)
    refl
  where
    at_most : (a b : ℕ) → a ≤ b → (a ≡ b → ⊥) → a < b
    at_most a b le apart_from = split (nat_lt a b) refl
      where
        split : (c : Bool) → nat_lt a b ≡ c → a < b
        split true f = less_is a b f
        split false f = let ge : b ≤ a = not_less a b f in
            absurd (apart_from (omega (arith, le, ge)))

    by : (x : InForce) → key q < key r → (x ≡ r) ⊎ Among x qs → key q < key x
    by x less (inl f) = subst (λ (y : InForce). key q < key y) (sym f) less
    by x less (inr there) = ascending.above_each key (key q) qs x rise.0 there

    by_cases : Rise (row_inserted r qs) → (b : Bool) → subject_lt r.subject q.subject ≡ b
        → Rise (if b then r ∷ q ∷ qs else q ∷ row_inserted r qs)
    by_cases later true e = let less : key r < key q = less_is (key r) (key q) e in
        ((less, more_above (key r) (key q) qs less rise.0), rise)
    by_cases later false e =
        let less : key q < key r =
        at_most (key q) (key r) (not_less (key r) (key q) e) (apart q (inl refl)) in (
          ascending.all_above key (key q) (row_inserted r qs)
              (λ x is. by x less (inserted-among r qs x is)),
          later,
        )

-- ---- the versions of all subjects

-- Holds if e is the version of an id that was given from `from` on.
pub record IsGiven (at : Subject → Record) (from : ℕ) (ss : List Subject) (e : SubjectVersion)
    (id : ℕ) : Type 0 where
  pub given : subject_of_id id from ss ≡ Some e.subject
  pub found : version_with id (at e.subject) ≡ Some e.version
  pub later : from ≤ id

other_number : (id from : ℕ) → suc from ≤ id → (id == from) ≡ false
other_number id from le = grind (arith, nat_tests)

later-given : (at : Subject → Record) (from : ℕ) (s : Subject) (ss : List Subject)
    (e : SubjectVersion) (id : ℕ) → IsGiven at (suc from) ss e id → IsGiven at from (s ∷ ss) e id
later-given at from s ss e id is = record {
  given = ap (λ b. if b then Some s else subject_of_id id (suc from) ss)
      (other_number id from is.later) ∙ is.given;
  found = is.found;
  later = let le : suc from ≤ id = is.later in omega (arith, le);
}

-- Holds if r is the row of such a version, which is in force.
pub record IsRow (at : Subject → Record) (from : ℕ) (ss : List Subject) (r : InForce) : Type 0 where
  pub e : SubjectVersion
  pub id : ℕ
  pub is : IsGiven at from ss e id
  pub force : in_force e.version ≡ true
  pub row : r ≡ record { subject = e.subject; routing = e.version.routing }

later-row : (at : Subject → Record) (from : ℕ) (s : Subject) (ss : List Subject) (r : InForce)
    → IsRow at (suc from) ss r → IsRow at from (s ∷ ss) r
later-row at from s ss r row = record {
  e = row.e;
  id = row.id;
  is = later-given at from s ss row.e row.id row.is;
  force = row.force;
  row = row.row;
}

-- Each listed row is of a version in force.
pub listed-row : (at : Subject → Record) (from : ℕ) (ss : List Subject) (r : InForce)
    → Among r (rows_in_force (versions_made at from ss)) → IsRow at from ss r
listed-row at from [] r is = absurd is
listed-row at from (s ∷ ss) r is =
    by_cases (λ there. later-row at from s ss r (listed-row at (suc from) ss r there))
    (version_with from (at s)) refl is
  where
    rest : List SubjectVersion
    rest = versions_made at (suc from) ss

    inner : (Among r (rows_in_force (versions_made at (suc from) ss)) → IsRow at from (s ∷ ss) r)
        → (v : Version) → version_with from (at s) ≡ Some v → (b : Bool) → in_force v ≡ b →
        Among r (if b then row_inserted (record { subject = s; routing = v.routing })
        (rows_in_force (versions_made at (suc from) ss))
        else rows_in_force (versions_made at (suc from) ss)) → IsRow at from (s ∷ ss) r
    inner later v found true e there =
        by (inserted-among (record { subject = s; routing = v.routing })
        (rows_in_force (versions_made at (suc from) ss)) r there)
      where
        by : (r ≡ record { subject = s; routing = v.routing })
            ⊎ Among r (rows_in_force (versions_made at (suc from) ss)) → IsRow at from (s ∷ ss) r
        by (inl f) = record {
          e = record { subject = s; version = v };
          id = from;
          is = record {
            given = ap (λ b. if b then Some s else subject_of_id from (suc from) ss)
                (same_number from);
            found = found;
            later = omega arith;
          };
          force = e;
          row = f;
        }
        by (inr more) = later more
    inner later v found false e there = later there

    by_cases : (Among r (rows_in_force (versions_made at (suc from) ss)) → IsRow at from (s ∷ ss) r)
        → (o : Option Version) → version_with from (at s) ≡ o →
        Among r (rows_in_force (cons_option (of_its_subject s o) (versions_made at (suc from) ss)))
        → IsRow at from (s ∷ ss) r
    by_cases later None found there = later there
    by_cases later (Some v) found there = inner later v found (in_force v) refl there

-- Each version in force is listed.
pub row-listed : (at : Subject → Record) (from : ℕ) (ss : List Subject) (e : SubjectVersion)
    (id : ℕ) → subject_of_id id from ss ≡ Some e.subject
    → version_with id (at e.subject) ≡ Some e.version →
    in_force e.version ≡ true → Among (record {
      subject = e.subject;
      routing = e.version.routing;
    }) (rows_in_force (versions_made at from ss))
row-listed at from [] e id given found force = let no : None ≡ Some e.subject = given in cc
row-listed at from (s ∷ ss) e id given found force =
    by_cases (λ g. row-listed at (suc from) ss e id g found force) (id == from) refl given
  where
    wanted : InForce
    wanted = record { subject = e.subject; routing = e.version.routing }

    equal_number : (id == from) ≡ true → id ≡ from
    equal_number f = grind (arith, nat_tests)

    here : s ≡ e.subject → id ≡ from → Among (record {
      subject = e.subject;
      routing = e.version.routing;
    }) (rows_in_force (cons_option (of_its_subject s (version_with from (at s)))
        (versions_made at (suc from) ss)))
    here same at_id =
        let there : version_with from (at s) ≡ Some e.version =
        ap (λ k. version_with k (at s)) (sym at_id) ∙ ap (λ t. version_with id (at t)) same
        ∙ found in
        subst (λ o. Among (record {
          subject = e.subject;
          routing = e.version.routing;
        }) (rows_in_force (cons_option (of_its_subject s o) (versions_made at (suc from) ss))))
        (sym there)
        (subst (λ b. Among (record {
          subject = e.subject;
          routing = e.version.routing;
        }) (if b then row_inserted (record { subject = s; routing = e.version.routing })
        (rows_in_force (versions_made at (suc from) ss))
        else rows_in_force (versions_made at (suc from) ss))) (sym force)
        (among-inserted (record { subject = s; routing = e.version.routing })
        (rows_in_force (versions_made at (suc from) ss)) (record {
          subject = e.subject;
          routing = e.version.routing;
        })
        (inl (ap (λ t. let r : InForce = record { subject = t; routing = e.version.routing } in
        r) (sym same)))))

    past : (o : Option Version) → Among (record {
      subject = e.subject;
      routing = e.version.routing;
    }) (rows_in_force (versions_made at (suc from) ss)) →
        Among (record {
          subject = e.subject;
          routing = e.version.routing;
        }) (rows_in_force (cons_option (of_its_subject s o) (versions_made at (suc from) ss)))
    past None more = more
    past (Some v) more = inner (in_force v)
      where
        inner : (b : Bool) → Among (record {
          subject = e.subject;
          routing = e.version.routing;
        }) (if b then row_inserted (record { subject = s; routing = v.routing })
            (rows_in_force (versions_made at (suc from) ss))
            else rows_in_force (versions_made at (suc from) ss))
        inner true =
            among-inserted (record { subject = s; routing = v.routing })
            (rows_in_force (versions_made at (suc from) ss)) (record {
              subject = e.subject;
              routing = e.version.routing;
            }) (inr more)
        inner false = more

    by_cases : (subject_of_id id (suc from) ss ≡ Some e.subject → Among (record {
      subject = e.subject;
      routing = e.version.routing;
    }) (rows_in_force (versions_made at (suc from) ss))) → (b : Bool) → (id == from) ≡ b →
        (if b then Some s else subject_of_id id (suc from) ss) ≡ Some e.subject →
        Among (record {
          subject = e.subject;
          routing = e.version.routing;
        }) (rows_in_force (cons_option (of_its_subject s (version_with from (at s)))
        (versions_made at (suc from) ss)))
    by_cases later true f g = here (some_is s e.subject g) (equal_number f)
    by_cases later false f g = past (version_with from (at s)) (later g)

-- The rows ascend, if no subject has two versions in force.
pub listed-rise : (at : Subject → Record) (from : ℕ) (ss : List Subject) →
    ((s : Subject) (id other : ℕ) (v u : Version) → version_with id (at s) ≡ Some v
    → version_with other (at s) ≡ Some u → in_force v ≡ true → in_force u ≡ true → id ≡ other) →
    Rise (rows_in_force (versions_made at from ss))
listed-rise at from [] alone = tt
listed-rise at from (s ∷ ss) alone =
    by_cases (listed-rise at (suc from) ss alone) (version_with from (at s)) refl
  where
    apart : (v : Version) → version_with from (at s) ≡ Some v → in_force v ≡ true → (q : InForce)
        → Among q (rows_in_force (versions_made at (suc from) ss)) → key q ≡ subject_key s → ⊥
    apart v found force q is same =
        let row = listed-row at (suc from) ss q is in
        let its : row.e.subject ≡ s = ap (λ (r : InForce). r.subject) (sym row.row)
        ∙ subject_key-exact q.subject s same in
        let there : version_with row.id (at s) ≡ Some row.e.version =
        ap (λ t. version_with row.id (at t)) (sym its) ∙ row.is.found in
        let ids : from ≡ row.id = alone s from row.id v row.e.version found there force row.force in
        let later : suc from ≤ row.id = row.is.later in
        omega (arith, ids, later)

    inner : Rise (rows_in_force (versions_made at (suc from) ss)) → (v : Version)
        → version_with from (at s) ≡ Some v → (b : Bool) → in_force v ≡ b →
        Rise (if b then row_inserted (record { subject = s; routing = v.routing })
        (rows_in_force (versions_made at (suc from) ss))
        else rows_in_force (versions_made at (suc from) ss))
    inner rest v found true e =
        inserted-rise (record { subject = s; routing = v.routing })
        (rows_in_force (versions_made at (suc from) ss)) rest (apart v found e)
    inner rest v found false e = rest

    by_cases : Rise (rows_in_force (versions_made at (suc from) ss)) → (o : Option Version)
        → version_with from (at s) ≡ o
        → Rise (rows_in_force (cons_option (of_its_subject s o) (versions_made at (suc from) ss)))
    by_cases rest None found = rest
    by_cases rest (Some v) found = inner rest v found (in_force v) refl
