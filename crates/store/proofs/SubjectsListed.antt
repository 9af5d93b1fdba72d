-- The subjects of a carrier's downloads, as a loop over the order gathers them.
use Rattle.std.proofs.Common.{◌≡◌, ◌⊎◌, inl, inr, ℕ, Bool, true, false, cond, List, [], ◌∷◌, Option, Some, None, refl, ap, sym, ◌∙◌, subst}
use Rattle.std.specs.Prelude.{is_some, option_map, IsSome, filter, Result, Ok, Err, IfOk}
use Rattle.std.specs.List.{AllByRecursion}
use Rattle.std.specs.List.Sorted.{IsStrictlySortedBy}
use Rattle.std.specs.Ordering.{on, nat_cmp, eq_by_cmp}
use Rattle.std.specs.Cmp.{nat_cmp_total, eq_by_cmp_equiv}
use Rattle.std.specs.Map.{lookup, keys_of}
use Rattle.std.specs.BTreeMap as tree
use Rattle.std.specs.BTreeMap.{BTreeMap, is_at}
use Rattle.std.specs.FinMap.{FinMap, get, empty, get-empty, nat_cmp-IsAntisymmetric}
use Rattle.numbers.specs.Subjects.{Subject, subject_key}
use Rattle.numbers.specs.Abstraction.{subject_of, key_of}
use Rattle.numbers.specs.declared.ported.Subject.{Subject as SubjectImpl}
use Rattle.numbers.specs.declared.spid.Spid.{Spid}
use Rattle.numbers.proofs.SubjectKeys.{subject_key-exact}
use Rattle.model.specs.Content.{Content, wait_cmp, empty_content, wait_key}
use Rattle.settle.specs.Abstraction.{spid_of}
use Rattle.settle.specs.Reads.{AreWaitingSubjects, IsAwaitedBy}
use Rattle.delivery.specs.declared.download.DownloadKey.{DownloadKey as DownloadKeyImpl}
use Rattle.store.specs.WaitRows.{wait_for}
use Rattle.store.specs.QueueRows.{queue_key_of, gathered, with_subject, subjects_of}
use Rattle.store.specs.Maps.{IsSet}
use Rattle.store.proofs.Maps.{get-map_of, set_map_of, entry-of, get-set, get-set_here}
use Rattle.store.proofs.Listed.{Among, contained, all-places}
use Rattle.store.proofs.QueueListed.{HasAll, found-own}
use Rattle.numbers.proofs.Small.{tied}

-- ---- what a loop gathers

abbrev Gathered : Type 0
Gathered = FinMap nat_cmp (Unit {0})

with-keeps : (o : Option Subject) (m : Gathered) (k : ℕ) → is_some (get m k) ≡ true
    → is_some (get (with_subject o m) k) ≡ true
with-keeps None m k is = is
with-keeps (Some s) m k is =
    ap is_some (get-set nat_cmp_total nat_cmp-IsAntisymmetric m (subject_key s) (Some tt) k)
    ∙ by_cases (eq_by_cmp nat_cmp (subject_key s) k)
  where
    by_cases : (b : Bool) → is_some (cond b (Some tt) (get m k)) ≡ true
    by_cases true = refl
    by_cases false = is

with-from : (o : Option Subject) (m : Gathered) (k : ℕ) → is_some (get (with_subject o m) k) ≡ true
    → (is_some (get m k) ≡ true) ⊎ ((s : Subject) × (o ≡ Some s) × (subject_key s ≡ k))
with-from None m k is = inl is
with-from (Some s) m k is =
    by_cases (eq_by_cmp nat_cmp (subject_key s) k) refl
    (sym (ap is_some (get-set nat_cmp_total nat_cmp-IsAntisymmetric m (subject_key s) (Some tt) k))
    ∙ is)
  where
    by_cases : (b : Bool) → eq_by_cmp nat_cmp (subject_key s) k ≡ b
        → is_some (cond b (Some tt) (get m k)) ≡ true → (is_some (get m k) ≡ true)
        ⊎ ((t : Subject) × (Some s ≡ Some t) × (subject_key t ≡ k))
    by_cases true same there = inr (
      s,
      refl,
      nat_cmp-IsAntisymmetric (subject_key s) k (tied (nat_cmp (subject_key s) k) same),
    )
    by_cases false same there = inl there

module _ (waits : FinMap wait_cmp Subject) (carrier : ℕ) where
  abbrev at : DownloadKeyImpl × Unit {0} → Option Subject
  at e = get waits (wait_for (queue_key_of e.0) carrier)

  -- Holds if one of these places has the subject with this key.
  abbrev IsPassed : List (DownloadKeyImpl × Unit {0}) → ℕ → Type 0
  IsPassed es k = (e : DownloadKeyImpl × Unit {0}) × Among e es × (s : Subject) × (at e ≡ Some s)
      × (subject_key s ≡ k)

  gathered-keeps : (es : List (DownloadKeyImpl × Unit {0})) (m : Gathered) (k : ℕ)
      → is_some (get m k) ≡ true → is_some (get (gathered waits carrier es m) k) ≡ true
  gathered-keeps [] m k is = is
  gathered-keeps (e ∷ es) m k is =
      gathered-keeps es (with_subject (at e) m) k (with-keeps (at e) m k is)

  gathered-has : (es : List (DownloadKeyImpl × Unit {0})) (m : Gathered)
      (e : DownloadKeyImpl × Unit {0}) → Among e es → (s : Subject) → at e ≡ Some s
      → is_some (get (gathered waits carrier es m) (subject_key s)) ≡ true
  unfolding Among
  gathered-has [] m e there s is = absurd there
  gathered-has (x ∷ xs) m e (inl same) s is =
      gathered-keeps xs (with_subject (at x) m) (subject_key s)
      (ap (λ o. is_some (get (with_subject o m) (subject_key s))) (ap at same ∙ is)
      ∙ ap is_some (get-set_here nat_cmp_total nat_cmp-IsAntisymmetric m (subject_key s) (Some tt)))
  gathered-has (x ∷ xs) m e (inr there) s is = gathered-has xs (with_subject (at x) m) e there s is

  gathered-from : (es : List (DownloadKeyImpl × Unit {0})) (m : Gathered) (k : ℕ)
      → is_some (get (gathered waits carrier es m) k) ≡ true
      → (is_some (get m k) ≡ true) ⊎ IsPassed es k
  unfolding Among
  gathered-from [] m k is = inl is
  gathered-from (x ∷ xs) m k is = by_cases (gathered-from xs (with_subject (at x) m) k is)
    where
      own : (is_some (get m k) ≡ true) ⊎ ((s : Subject) × (at x ≡ Some s) × (subject_key s ≡ k))
          → (is_some (get m k) ≡ true) ⊎ IsPassed (x ∷ xs) k
      own (inl there) = inl there
      own (inr p) = inr (x, inl refl, p.0, p.1, p.2)

      by_cases : (is_some (get (with_subject (at x) m) k) ≡ true) ⊎ IsPassed xs k
          → (is_some (get m k) ≡ true) ⊎ IsPassed (x ∷ xs) k
      by_cases (inl there) = own (with-from (at x) m k there)
      by_cases (inr p) = inr (p.0, inr p.1, p.2, p.3, p.4)

-- ---- lists

pub filtered-among : {A : Type 0} (b : A → Bool) (x : A) (xs : List A) → Among x xs → b x ≡ true
    → Among x (filter b xs)
unfolding Among
filtered-among b x [] there t = absurd there
filtered-among b x (y ∷ ys) (inl same) t =
    subst (λ c. Among x (cond c (y ∷ filter b ys) (filter b ys))) (sym (ap b same ∙ t)) (inl same)
filtered-among b x (y ∷ ys) (inr there) t = by_cases (filtered-among b x ys there t) (b y)
  where
    by_cases : Among x (filter b ys) → (c : Bool) → Among x (cond c (y ∷ filter b ys) (filter b ys))
    by_cases more true = inr more
    by_cases more false = more

-- An entry that a look-up finds is in the list.
pub found-entry : {K X : Type 0} (is_it : K → Bool) (es : List (K × X)) → IsSome (lookup is_it es)
    → (e : K × X) × Among e es × (is_it e.0 ≡ true)
unfolding Among
found-entry is_it [] there = let f : false ≡ true = there in cc
found-entry {K} {X} is_it (e ∷ es) there = by_cases (found-entry is_it es) (is_it e.0) refl there
  where
    by_cases : (IsSome (lookup is_it es) → (x : K × X) × Among x es × (is_it x.0 ≡ true))
        → (t : Bool)
        → is_it e.0 ≡ t → IsSome (cond t (Some e.1) (lookup is_it es)) → (x : K × X)
        × Among x (e ∷ es) × (is_it x.0 ≡ true)
    by_cases more true t it = (e, inl refl, t)
    by_cases more false t it = let p = more it in (p.0, inr p.1, p.2)

among-key : {K X : Type 0} (k : K) (es : List (K × X)) → Among k (keys_of es) → (e : K × X)
    × Among e es × (e.0 ≡ k)
unfolding Among
among-key k [] is = absurd is
among-key k (e ∷ es) (inl same) = (e, inl refl, same)
among-key k (e ∷ es) (inr there) = let p = among-key k es there in (p.0, inr p.1, p.2)

pub key-among : {K X : Type 0} (e : K × X) (es : List (K × X)) → Among e es → Among e.0 (keys_of es)
unfolding Among
key-among e [] is = absurd is
key-among e (x ∷ xs) (inl same) = inl (ap (λ z. z.0) same)
key-among e (x ∷ xs) (inr there) = inr (key-among e xs there)

pub all-of : {A : Type 0} (P : A → Type 0) (xs : List A) → ((x : A) → Among x xs → P x)
    → AllByRecursion P xs
unfolding Among
all-of P [] each = tt
all-of P (x ∷ xs) each = (each x (inl refl), all-of P xs (λ y there. each y (inr there)))

-- ---- the carrier's subjects

module _ (waits : FinMap wait_cmp Subject) (carrier : Spid)
    (subjects : BTreeMap SubjectImpl (Unit {0})) (part : List (DownloadKeyImpl × Unit {0}))
    (whole : HasAll waits carrier.number part)
    (all : subjects_of subjects ≡ gathered waits carrier.number part empty) where
  abbrev content : Content
  content = record empty_content { waits = waits }

  -- A gathered subject is of a download pending for the carrier.
  awaited : (x : SubjectImpl) → is_some (get (subjects_of subjects) (key_of x)) ≡ true
      → IsAwaitedBy content carrier.number (subject_of x)
  awaited x there =
      by_cases (gathered-from waits carrier.number part empty (key_of x)
      (ap (λ m. is_some (get m (key_of x))) (sym all) ∙ there))
    where
      none_at : Gathered
      none_at = empty

      by_cases : (is_some (get none_at (key_of x)) ≡ true)
          ⊎ IsPassed waits carrier.number part (key_of x)
          → IsAwaitedBy content carrier.number (subject_of x)
      by_cases (inl none) = let f : false ≡ true = sym (ap is_some (get-empty nat_cmp (key_of x)))
          ∙ none in cc
      by_cases (inr p) = (
        p.0.0.minute.number,
        p.0.0.id,
        p.0.0.attempt,
        p.3 ∙ ap (λ s. Some s) (subject_key-exact p.2 (subject_of x) p.4),
      )

  -- The subject of each download pending for the carrier is gathered.
  gathered-there : (s : Subject) → IsAwaitedBy content carrier.number s
      → is_some (get (subjects_of subjects) (subject_key s)) ≡ true
  gathered-there s is =
      let e = whole (wait_key carrier.number is.0 is.1 is.2) refl (ap is_some is.3) in
      ap (λ m. is_some (get m (subject_key s))) all
      ∙ gathered-has waits carrier.number part empty e.0 e.1 s
      (ap (λ d. get waits (wait_for d carrier.number)) e.2 ∙ is.3)

  pub subjects-are : (found : List SubjectImpl) → found ≡ tree.keys subjects
      → tree.IsOrdered (on key_of nat_cmp) subjects
      → AreWaitingSubjects content (spid_of carrier) found
  subjects-are found is ordered = record {
    each = λ s waits_for.
        let q = entry-of key_of (λ (u : Unit {0}). u) nat_cmp_total nat_cmp-IsAntisymmetric subjects
        (subject_key s) (gathered-there s waits_for) in
        let e = found-entry (is_at (on key_of nat_cmp q.0)) subjects.entries q.2 in
        let same : key_of e.0.0 ≡ subject_key s =
        sym (nat_cmp-IsAntisymmetric (key_of q.0) (key_of e.0.0) (tied _ e.2)) ∙ q.1 in (
          e.0.0,
          contained e.0.0 found (subst (Among e.0.0) (sym is) (key-among e.0 subjects.entries e.1)),
          subject_key-exact (subject_of e.0.0) s same,
        );
    only = all-places (λ x. IsAwaitedBy content carrier.number (subject_of x)) found
        (all-of (λ x. IsAwaitedBy content carrier.number (subject_of x)) found
        (λ x there. awaited x (held x (subst (Among x) is there))));
    rises = subst (IsStrictlySortedBy (on key_of nat_cmp)) (sym is) ordered;
  }
    where
      held : (x : SubjectImpl) → Among x (tree.keys subjects)
          → is_some (get (subjects_of subjects) (key_of x)) ≡ true
      held x there =
          let e = among-key x subjects.entries there in
          ap is_some (get-map_of key_of (λ (u : Unit {0}). u) nat_cmp_total nat_cmp-IsAntisymmetric
          subjects x)
          ∙ present (tree.get (on key_of nat_cmp) subjects x)
          (found-own (is_at (on key_of nat_cmp x)) subjects.entries e.0 e.1
          (ap (λ y. is_at (on key_of nat_cmp x) y) e.2 ∙ (eq_by_cmp_equiv nat_cmp_total).refl
          (key_of x)))
        where
          present : (o : Option (Unit {0})) → IsSome o
              → is_some (option_map (λ (u : Unit {0}). u) o) ≡ true
          present (Some u) s = refl
          present None s = s

-- A loop step adds the subject of its key.
pub gathered-step : (waits : FinMap wait_cmp Subject) (carrier : ℕ) (e : DownloadKeyImpl × Unit {0})
    (rest : List (DownloadKeyImpl × Unit {0})) (old new : BTreeMap SubjectImpl (Unit {0}))
    (x : SubjectImpl) → Some (subject_of x) ≡ get waits (wait_for (queue_key_of e.0) carrier)
    → IsSet (on key_of nat_cmp) old new x (Some tt)
    → gathered waits carrier rest (subjects_of new)
    ≡ gathered waits carrier (e ∷ rest) (subjects_of old)
gathered-step waits carrier e rest old new x is written =
    ap (gathered waits carrier rest) (set_map_of key_of (λ (u : Unit {0}). u) nat_cmp_total
    nat_cmp-IsAntisymmetric old new x (Some tt) written)
    ∙ ap (λ o. gathered waits carrier rest (with_subject o (subjects_of old))) is

pub if_ok : {V E : Type 0} {P Q : V → Type 0} → ((v : V) → P v → Q v) → (r : Result V E) → IfOk r P
    → IfOk r Q
if_ok more (Ok v) is = more v is
if_ok more (Err e) is = tt
