-- The elements of a list, and what holds of each of them.
use Rattle.std.proofs.Common.{◌≡◌, zero, suc, inl, inr, Bool, true, false, cond, ◌&&◌, ◌||◌, List, [], ◌∷◌, ◌++◌, map, Some, refl, ap, sym, ◌∙◌, subst, arith}
use Rattle.std.specs.Prelude.{◌⊎◌, find, filter, flat_map, All, Contains}
use Rattle.std.specs.List.{list_all, list_any, AllByRecursion}
use Rattle.numbers.proofs.Small.{true-false, or_true}

-- ---- being an element

abbrev pub Among : {A : Type 0} → A → List A → Type 0
Among a [] = ⊥
Among a (x ∷ xs) = (a ≡ x) ⊎ Among a xs

pub any_there : {A : Type 0} (p : A → Bool) (xs : List A) → list_any p xs ≡ true
    → (x : A) × Among x xs × (p x ≡ true)
any_there p [] is = cc
any_there {A = A} p (x ∷ xs) is = by_cases (λ later. any_there p xs later) (p x) refl is
  where
    by_cases : (list_any p xs ≡ true → (y : A) × Among y xs × (p y ≡ true)) → (b : Bool) → p x ≡ b
        → (b || list_any p xs) ≡ true → (y : A) × Among y (x ∷ xs) × (p y ≡ true)
    by_cases later true e f = (x, inl refl, e)
    by_cases later false e f = let rest = later f in (rest.0, inr rest.1, rest.2)

pub there_any : {A : Type 0} (p : A → Bool) (x : A) (xs : List A) → Among x xs → p x ≡ true
    → list_any p xs ≡ true
there_any p x [] is passes = absurd is
there_any p x (y ∷ ys) (inl e) passes = ap (λ b. b || list_any p ys) (ap p (sym e) ∙ passes)
there_any p x (y ∷ ys) (inr is) passes = ap (λ b. p y || b) (there_any p x ys is passes)
    ∙ or_true (p y)

pub mapped-from : {A B : Type 0} (f : A → B) (xs : List A) (y : B) → Among y (map f xs)
    → (x : A) × Among x xs × (y ≡ f x)
mapped-from f [] y is = absurd is
mapped-from f (x ∷ xs) y (inl e) = (x, inl refl, e)
mapped-from f (x ∷ xs) y (inr is) = let rest = mapped-from f xs y is in (rest.0, inr rest.1, rest.2)

pub mapped-to : {A B : Type 0} (f : A → B) (xs : List A) (x : A) → Among x xs
    → Among (f x) (map f xs)
mapped-to f [] x is = absurd is
mapped-to f (y ∷ ys) x (inl e) = inl (ap f e)
mapped-to f (y ∷ ys) x (inr is) = inr (mapped-to f ys x is)

pub filtered-from : {A : Type 0} (p : A → Bool) (xs : List A) (x : A) → Among x (filter p xs)
    → Among x xs × (p x ≡ true)
filtered-from p [] x is = absurd is
filtered-from p (y ∷ ys) x is = by_cases (λ there. filtered-from p ys x there) (p y) refl is
  where
    by_cases : (Among x (filter p ys) → Among x ys × (p x ≡ true)) → (b : Bool) → p y ≡ b
        → Among x (cond b (y ∷ filter p ys) (filter p ys)) → Among x (y ∷ ys) × (p x ≡ true)
    by_cases later true e (inl f) = (inl f, ap p f ∙ e)
    by_cases later true e (inr there) = let rest = later there in (inr rest.0, rest.1)
    by_cases later false e there = let rest = later there in (inr rest.0, rest.1)

pub filtered-to : {A : Type 0} (p : A → Bool) (xs : List A) (x : A) → Among x xs → p x ≡ true
    → Among x (filter p xs)
filtered-to p [] x is passes = absurd is
filtered-to p (y ∷ ys) x (inl f) passes =
    subst (λ b. Among x (cond b (y ∷ filter p ys) (filter p ys))) (sym (ap p (sym f) ∙ passes))
    (inl f)
filtered-to p (y ∷ ys) x (inr is) passes = by_cases (filtered-to p ys x is passes) (p y)
  where
    by_cases : Among x (filter p ys) → (b : Bool) → Among x (cond b (y ∷ filter p ys) (filter p ys))
    by_cases there true = inr there
    by_cases there false = there

appended-from : {A : Type 0} (xs ys : List A) (x : A) → Among x (xs ++ ys) → Among x xs ⊎ Among x ys
appended-from [] ys x is = inr is
appended-from (z ∷ zs) ys x (inl e) = inl (inl e)
appended-from (z ∷ zs) ys x (inr is) = by_cases (appended-from zs ys x is)
  where
    by_cases : Among x zs ⊎ Among x ys → Among x (z ∷ zs) ⊎ Among x ys
    by_cases (inl there) = inl (inr there)
    by_cases (inr there) = inr there

appended-first : {A : Type 0} (xs ys : List A) (x : A) → Among x xs → Among x (xs ++ ys)
appended-first [] ys x is = absurd is
appended-first (z ∷ zs) ys x (inl e) = inl e
appended-first (z ∷ zs) ys x (inr is) = inr (appended-first zs ys x is)

appended-second : {A : Type 0} (xs ys : List A) (x : A) → Among x ys → Among x (xs ++ ys)
appended-second [] ys x is = is
appended-second (z ∷ zs) ys x is = inr (appended-second zs ys x is)

pub flat-from : {A B : Type 0} (f : A → List B) (xs : List A) (y : B) → Among y (flat_map f xs)
    → (x : A) × Among x xs × Among y (f x)
flat-from f [] y is = absurd is
flat-from {A = A} f (x ∷ xs) y is =
    by_cases (λ there. flat-from f xs y there) (appended-from (f x) (flat_map f xs) y is)
  where
    by_cases : (Among y (flat_map f xs) → (z : A) × Among z xs × Among y (f z)) → Among y (f x)
        ⊎ Among y (flat_map f xs) → (z : A) × Among z (x ∷ xs) × Among y (f z)
    by_cases later (inl there) = (x, inl refl, there)
    by_cases later (inr there) = let rest = later there in (rest.0, inr rest.1, rest.2)

pub flat-to : {A B : Type 0} (f : A → List B) (xs : List A) (x : A) (y : B) → Among x xs
    → Among y (f x) → Among y (flat_map f xs)
flat-to f [] x y is there = absurd is
flat-to f (z ∷ zs) x y (inl e) there =
    appended-first (f z) (flat_map f zs) y (subst (λ u. Among y (f u)) e there)
flat-to f (z ∷ zs) x y (inr is) there =
    appended-second (f z) (flat_map f zs) y (flat-to f zs x y is there)

-- What is found is an element, and passes the test.
pub found-among : {A : Type 0} (test : A → Bool) (xs : List A) (x : A) → find test xs ≡ Some x
    → Among x xs × (test x ≡ true)
found-among test [] x found = cc
found-among test (y ∷ ys) x found = by_cases (λ e. found-among test ys x e) (test y) refl found
  where
    by_cases : (find test ys ≡ Some x → Among x ys × (test x ≡ true)) → (b : Bool) → test y ≡ b
        → cond b (Some y) (find test ys) ≡ Some x → Among x (y ∷ ys) × (test x ≡ true)
    by_cases later true e f = let same : y ≡ x = cc in (inl (sym same), ap test (sym same) ∙ e)
    by_cases later false e f = let rest = later f in (inr rest.0, rest.1)

-- If an element passes the test, one is found.
pub found-there : {A : Type 0} (test : A → Bool) (xs : List A) (x : A) → Among x xs → test x ≡ true
    → (y : A) × (find test xs ≡ Some y)
found-there test [] x is passes = absurd is
found-there {A = A} test (y ∷ ys) x is passes =
    by_cases (λ there. found-there test ys x there passes) (test y) refl is
  where
    by_cases : (Among x ys → (z : A) × (find test ys ≡ Some z)) → (b : Bool) → test y ≡ b
        → Among x (y ∷ ys) → (z : A) × (cond b (Some y) (find test ys) ≡ Some z)
    by_cases later true e there = (y, refl)
    by_cases later false e (inl f) = true-false (test y) (ap test (sym f) ∙ passes) e
    by_cases later false e (inr there) = later there

pub contained : {A : Type 0} (xs : List A) (x : A) → Among x xs → Contains xs x
contained [] x there = absurd there
contained (y ∷ ys) x (inl e) = (0, omega arith, sym e)
contained (y ∷ ys) x (inr there) = let m : Contains ys x = contained ys x there in
    (suc m.0, omega (arith, m.1), m.2)

pub contains-among : {A : Type 0} (xs : List A) (x : A) → Contains xs x → Among x xs
contains-among [] x (k, lt, e) = absurd (omega (arith, lt))
contains-among (y ∷ ys) x (zero, lt, e) = inl (sym e)
contains-among (y ∷ ys) x (suc k, lt, e) = inr (contains-among ys x (k, omega (arith, lt), e))

-- ---- each element

pub everywhere : {A : Type 0} {P : A → Type 0} → ((x : A) → P x) → (xs : List A)
    → AllByRecursion P xs
everywhere step [] = tt
everywhere step (x ∷ xs) = (step x, everywhere step xs)

pub each : {A : Type 0} {P Q : A → Type 0} → ((x : A) → P x → Q x) → (xs : List A)
    → AllByRecursion P xs → AllByRecursion Q xs
each step [] all = tt
each step (x ∷ xs) all = (step x all.0, each step xs all.1)

pub each_two : {A : Type 0} {P Q R : A → Type 0} → ((x : A) → P x → Q x → R x) → (xs : List A)
    → AllByRecursion P xs → AllByRecursion Q xs → AllByRecursion R xs
each_two step [] all both = tt
each_two step (x ∷ xs) all both = (step x all.0 both.0, each_two step xs all.1 both.1)

pub each-among : {A : Type 0} (P : A → Type 0) (xs : List A) (x : A) → AllByRecursion P xs
    → Among x xs → P x
each-among P [] x all is = absurd is
each-among P (y ∷ ys) x all (inl e) = subst P (sym e) all.0
each-among P (y ∷ ys) x all (inr is) = each-among P ys x all.1 is

pub each_mapped : {A B : Type 0} (f : A → B) (P : B → Type 0) (xs : List A)
    → AllByRecursion (λ x. P (f x)) xs → AllByRecursion P (map f xs)
each_mapped f P [] all = tt
each_mapped f P (x ∷ xs) all = (all.0, each_mapped f P xs all.1)

-- What holds of every element holds of each in turn.
pub each_there : {A : Type 0} (P : A → Type 0) (xs : List A) → ((x : A) → Among x xs → P x)
    → AllByRecursion P xs
each_there P [] step = tt
each_there P (x ∷ xs) step = (step x (inl refl), each_there P xs (λ y there. step y (inr there)))

-- What holds of each holds of one that is found.
pub found_has : {A : Type 0} (P : A → Type 0) (test : A → Bool) (xs : List A) (x : A)
    → AllByRecursion P xs → find test xs ≡ Some x → P x
found_has P test xs x all found = each-among P xs x all (found-among test xs x found).0

pub all_of : {A : Type 0} (P : A → Type 0) (xs : List A) → ((x : A) → Among x xs → P x) → All P xs
all_of P [] step k x lt = absurd (omega (arith, lt))
all_of P (y ∷ ys) step zero x lt = step y (inl refl)
all_of P (y ∷ ys) step (suc k) x lt =
    all_of P ys (λ z there. step z (inr there)) k x (omega (arith, lt))

pub filter-map : {A B : Type 0} (f : A → B) (p : A → Bool) (q : B → Bool)
    → ((x : A) → q (f x) ≡ p x)
    → (xs : List A) → map f (filter p xs) ≡ filter q (map f xs)
filter-map f p q same [] = refl
filter-map f p q same (x ∷ xs) =
    by_cases (filter-map f p q same xs) (p x)
    ∙ ap (λ b. cond b (f x ∷ filter q (map f xs)) (filter q (map f xs))) (sym (same x))
  where
    by_cases : map f (filter p xs) ≡ filter q (map f xs) → (b : Bool)
        → map f (cond b (x ∷ filter p xs) (filter p xs)) ≡ cond b (f x ∷ filter q (map f xs))
        (filter q (map f xs))
    by_cases more true = ap (λ ys. f x ∷ ys) more
    by_cases more false = more

pub all-map : {A B : Type 0} (f : A → B) (q : B → Bool) (xs : List A)
    → list_all (λ x. q (f x)) xs ≡ list_all q (map f xs)
all-map f q [] = refl
all-map f q (x ∷ xs) = ap (λ b. q (f x) && b) (all-map f q xs)
