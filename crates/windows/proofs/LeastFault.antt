-- The fault of a text is the least that it has.
use Rattle.std.proofs.Common.{◌≡◌, ℕ, zero, suc, ◌<◌, ◌≤◌, Bool, true, false, cond, List, [], ◌∷◌, map, length, get_or, Option, Some, None, refl, sym, subst, ◌⊎◌, inl, inr, arith}
use Rattle.std.specs.Prelude.{ℤ, ◌&&◌, nat_le, fold, Any}
use Rattle.std.specs.List.{list_all}
use Rattle.std.proofs.lemmas.Bool.Decides.{nat_tests}
use Rattle.toml.specs.Data.{Data, Members, get_member, as_integer}
use Rattle.windows.specs.declared.window.WindowFault.{WindowFault}
use Rattle.windows.specs.declared.window.WindowFault.TheVariants.{Syntax, MissingKey, UnknownKey, NotWhole, OutOfRange, NoMemory}
use Rattle.windows.specs.File.{lesser, number_of, keys_of, fault_in, fault_in_number, fault_in_keys, fault_of, is_window, is_window_name, window_names}
use Rattle.windows.specs.Faults.{IsFaultAt, HasFault, Holds, IsLeastFault, IsFaultOfLeast}

-- ---- some element of a list, by recursion

abbrev SomeOf : {X : Type 0} → (X → Type 0) → List X → Type 0
SomeOf P [] = ⊥
SomeOf P (x ∷ xs) = P x ⊎ SomeOf P xs

any_from : {X : Type 0} (P : X → Type 0) (xs : List X) → SomeOf P xs → Any P xs
any_from P [] h = absurd h
any_from P (x ∷ xs) (inl p) = (0, x, omega arith, refl, p)
any_from P (x ∷ xs) (inr q) = let r = any_from P xs q in
    (suc r.0, r.1, omega (arith, r.2), r.3, r.4)

some_at : {X : Type 0} (P : X → Type 0) (xs : List X) (k : ℕ) (x : X) → k < length xs
    → get_or xs k x ≡ x → P x → SomeOf P xs
some_at P [] k x h e p = absurd (omega arith)
some_at P (y ∷ ys) zero x h e p = inl (subst P (sym e) p)
some_at P (y ∷ ys) (suc k) x h e p = inr (some_at P ys k x (omega arith) e p)

some_from : {X : Type 0} (P : X → Type 0) (xs : List X) → Any P xs → SomeOf P xs
some_from P xs h = some_at P xs h.0 h.1 h.2 h.3 h.4

some_map : {X : Type 0} (P Q : X → Type 0) (xs : List X) → ((x : X) → P x → Q x) → SomeOf P xs
    → SomeOf Q xs
some_map P Q [] f h = absurd h
some_map P Q (x ∷ xs) f (inl p) = inl (f x p)
some_map P Q (x ∷ xs) f (inr q) = inr (some_map P Q xs f q)

-- ---- the lesser of two faults is one of them, and no greater than either

-- Holds if there is a fault, and it is no greater than this one.
abbrev IsAtMost : Option WindowFault → WindowFault → Type 0
IsAtMost None g = ⊥
IsAtMost (Some f) g = number_of f ≤ number_of g

either : (b : Bool) (g h f : WindowFault) → cond b (Some g) (Some h) ≡ Some f → (Some g ≡ Some f)
    ⊎ (Some h ≡ Some f)
either true g h f e = inl e
either false g h f e = inr e

lesser_either : (a b : Option WindowFault) (f : WindowFault) → lesser a b ≡ Some f → (a ≡ Some f)
    ⊎ (b ≡ Some f)
unfolding lesser
lesser_either None b f e = inr e
lesser_either (Some g) None f e = inl e
lesser_either (Some g) (Some h) f e = either (nat_le (number_of g) (number_of h)) g h f e

first_at_most : (b : Bool) (f k g : WindowFault) → nat_le (number_of f) (number_of k) ≡ b
    → number_of f ≤ number_of g → IsAtMost (cond b (Some f) (Some k)) g
first_at_most true f k g e h = h
first_at_most false f k g e h = grind (arith, nat_tests)

second_at_most : (b : Bool) (f k g : WindowFault) → nat_le (number_of f) (number_of k) ≡ b
    → number_of k ≤ number_of g → IsAtMost (cond b (Some f) (Some k)) g
second_at_most true f k g e h = grind (arith, nat_tests)
second_at_most false f k g e h = h

lesser_first : (a b : Option WindowFault) (g : WindowFault) → IsAtMost a g → IsAtMost (lesser a b) g
unfolding lesser
lesser_first None b g h = absurd h
lesser_first (Some f) None g h = h
lesser_first (Some f) (Some k) g h = first_at_most (nat_le (number_of f) (number_of k)) f k g refl h

lesser_second : (a b : Option WindowFault) (g : WindowFault) → IsAtMost b g
    → IsAtMost (lesser a b) g
unfolding lesser
lesser_second None b g h = h
lesser_second (Some f) None g h = absurd h
lesser_second (Some f) (Some k) g h =
    second_at_most (nat_le (number_of f) (number_of k)) f k g refl h

-- ---- the least of a list of faults

module _ (fault : List ℕ → Option WindowFault) where
  one_of : (names : List (List ℕ)) (a : Option WindowFault) (f : WindowFault)
      → fold lesser a (map fault names) ≡ Some f → (a ≡ Some f)
      ⊎ SomeOf (λ name. fault name ≡ Some f) names
  one_of [] a f e = inl e
  one_of (name ∷ names) a f e =
      elim (one_of names (lesser a (fault name)) f e) [
        | inl first ↦ elim (lesser_either a (fault name) f first) [
          | inl p ↦ inl p
          | inr q ↦ inr (inl q)
        ]
        | inr later ↦ inr (inr later)
      ]

  at_most_first : (names : List (List ℕ)) (a : Option WindowFault) (g : WindowFault) → IsAtMost a g
      → IsAtMost (fold lesser a (map fault names)) g
  at_most_first [] a g h = h
  at_most_first (name ∷ names) a g h =
      at_most_first names (lesser a (fault name)) g (lesser_first a (fault name) g h)

  at_most_each : (names : List (List ℕ)) (a : Option WindowFault) (g : WindowFault)
      → SomeOf (λ name. fault name ≡ Some g) names → IsAtMost (fold lesser a (map fault names)) g
  at_most_each [] a g h = absurd h
  at_most_each (name ∷ names) a g (inl e) =
      at_most_first names (lesser a (fault name)) g (lesser_second a (fault name) g
      (subst (λ (o : Option WindowFault). IsAtMost o g) (sym e) (omega arith)))
  at_most_each (name ∷ names) a g (inr h) = at_most_each names (lesser a (fault name)) g h

-- ---- the fault of a value, and of the keys

range_fault : (z : ℤ) (b : Bool) (f : WindowFault) (d : Data) → as_integer d ≡ Some z
    → is_window z ≡ b → cond b None (Some OutOfRange) ≡ Some f → IsFaultAt f (Some d)
range_fault z true f d e t h = cc
range_fault z false f d e t h = let same : OutOfRange ≡ f = cc in
    subst (λ (g : WindowFault). IsFaultAt g (Some d)) same (z, e, t)

number_fault : (o : Option ℤ) (f : WindowFault) (d : Data) → as_integer d ≡ o
    → fault_in_number o ≡ Some f → IsFaultAt f (Some d)
number_fault None f d e h = let same : NotWhole ≡ f = cc in
    subst (λ (g : WindowFault). IsFaultAt g (Some d)) same e
number_fault (Some z) f d e h = range_fault z (is_window z) f d e refl h

value_fault : (v : Option Data) (f : WindowFault) → fault_in v ≡ Some f → IsFaultAt f v
value_fault None f h = let same : MissingKey ≡ f = cc in
    subst (λ (g : WindowFault). IsFaultAt g None) same refl
value_fault (Some d) f h = number_fault (as_integer d) f d refl h

fault_value : (v : Option Data) (f : WindowFault) → IsFaultAt f v → fault_in v ≡ Some f
fault_value v Syntax h = absurd h
fault_value v MissingKey h = rw h refl
fault_value v UnknownKey h = absurd h
fault_value None NotWhole h = absurd h
fault_value (Some d) NotWhole h = rw h refl
fault_value None OutOfRange h = absurd h
fault_value (Some d) OutOfRange h = rw (h.1, h.2) refl
fault_value v NoMemory h = absurd h

and_false : (a b : Bool) → (a ≡ false) ⊎ (b ≡ false) → (a && b) ≡ false
and_false a b (inl e) = rw e refl
and_false true b (inr e) = e
and_false false b (inr e) = refl

false_and : (a b : Bool) → (a && b) ≡ false → (a ≡ false) ⊎ (b ≡ false)
false_and true b e = inr e
false_and false b e = inl refl

not_all : (test : List ℕ → Bool) (xs : List (List ℕ)) → SomeOf (λ x. test x ≡ false) xs
    → list_all test xs ≡ false
not_all test [] h = absurd h
not_all test (x ∷ xs) (inl e) = and_false (test x) (list_all test xs) (inl e)
not_all test (x ∷ xs) (inr h) = and_false (test x) (list_all test xs) (inr (not_all test xs h))

some_not : (test : List ℕ → Bool) (xs : List (List ℕ)) → list_all test xs ≡ false
    → SomeOf (λ x. test x ≡ false) xs
some_not test [] e = cc
some_not test (x ∷ xs) e = elim (false_and (test x) (list_all test xs) e) [
  | inl p ↦ inl p
  | inr q ↦ inr (some_not test xs q)
]

keys_fault_at : (ms : Members) (b : Bool) (f : WindowFault)
    → list_all is_window_name (keys_of ms) ≡ b → cond b None (Some UnknownKey) ≡ Some f
    → HasFault ms f
keys_fault_at ms true f e h = cc
keys_fault_at ms false f e h =
    let same : UnknownKey ≡ f = cc in
    subst (λ (g : WindowFault). HasFault ms g) same (any_from (λ key. is_window_name key ≡ false)
    (keys_of ms) (some_not is_window_name (keys_of ms) e))

keys_fault : (ms : Members) (f : WindowFault) → fault_in_keys ms ≡ Some f → HasFault ms f
unfolding fault_in_keys
keys_fault ms f h = keys_fault_at ms (list_all is_window_name (keys_of ms)) f refl h

fault_keys : (ms : Members) → HasFault ms UnknownKey → fault_in_keys ms ≡ Some UnknownKey
unfolding fault_in_keys
fault_keys ms h =
    rw (not_all is_window_name (keys_of ms) (some_from (λ key. is_window_name key ≡ false)
    (keys_of ms) h)) refl

-- ---- the faults of a table

-- The fault at a name.
abbrev fault_by : Members → List ℕ → Option WindowFault
fault_by ms name = fault_in (get_member name ms)

has_at_name : (ms : Members) (f : WindowFault)
    → SomeOf (λ name. fault_by ms name ≡ Some f) window_names
    → Any (λ name. IsFaultAt f (get_member name ms)) window_names
has_at_name ms f h =
    any_from (λ name. IsFaultAt f (get_member name ms)) window_names
    (some_map (λ name. fault_by ms name ≡ Some f) (λ name. IsFaultAt f (get_member name ms))
    window_names (λ name e. value_fault (get_member name ms) f e) h)

at_name_has : (ms : Members) (f : WindowFault)
    → Any (λ name. IsFaultAt f (get_member name ms)) window_names
    → SomeOf (λ name. fault_by ms name ≡ Some f) window_names
at_name_has ms f h =
    some_map (λ name. IsFaultAt f (get_member name ms)) (λ name. fault_by ms name ≡ Some f)
    window_names (λ name p. fault_value (get_member name ms) f p)
    (some_from (λ name. IsFaultAt f (get_member name ms)) window_names h)

no_fault_at : (f : WindowFault) (ms : Members) → ((v : Option Data) → ¬ (IsFaultAt f v))
    → ¬ (Any (λ name. IsFaultAt f (get_member name ms)) window_names)
no_fault_at f ms never h = never (get_member h.1 ms) h.4

has_fault : (ms : Members) (f : WindowFault)
    → Any (λ name. IsFaultAt f (get_member name ms)) window_names → HasFault ms f
has_fault ms Syntax h = no_fault_at Syntax ms (λ v p. p) h
has_fault ms MissingKey h = h
has_fault ms UnknownKey h = absurd (no_fault_at UnknownKey ms (λ v p. p) h)
has_fault ms NotWhole h = h
has_fault ms OutOfRange h = h
has_fault ms NoMemory h = no_fault_at NoMemory ms (λ v p. p) h

table_has : (ms : Members) (f : WindowFault) → fault_of (Some ms) ≡ Some f → HasFault ms f
table_has ms f e =
    elim (one_of (fault_by ms) window_names (fault_in_keys ms) f e) [
      | inl first ↦ keys_fault ms f first
      | inr later ↦ has_fault ms f (has_at_name ms f later)
    ]

table_at_most : (ms : Members) (g : WindowFault) → HasFault ms g → IsAtMost (fault_of (Some ms)) g
table_at_most ms Syntax h = absurd h
table_at_most ms MissingKey h =
    at_most_each (fault_by ms) window_names (fault_in_keys ms) MissingKey
    (at_name_has ms MissingKey h)
table_at_most ms UnknownKey h =
    at_most_first (fault_by ms) window_names (fault_in_keys ms) UnknownKey
    (subst (λ (o : Option WindowFault). IsAtMost o UnknownKey) (sym (fault_keys ms h))
    (omega arith))
table_at_most ms NotWhole h = at_most_each (fault_by ms) window_names (fault_in_keys ms) NotWhole
    (at_name_has ms NotWhole h)
table_at_most ms OutOfRange h =
    at_most_each (fault_by ms) window_names (fault_in_keys ms) OutOfRange
    (at_name_has ms OutOfRange h)
table_at_most ms NoMemory h = absurd h

least : (document : Option Members) (f : WindowFault) → fault_of document ≡ Some f
    → IsLeastFault document f
least None f e =
    let same : f ≡ Syntax = cc in
    record { holds = same; least = λ g h. rw (same, h) (omega arith) }
least (Some ms) f e =
    record {
      holds = table_has ms f e;
      least = λ g h. subst (λ (o : Option WindowFault). IsAtMost o g) e (table_at_most ms g h);
    }

no_fault : (document : Option Members) (f : WindowFault) → fault_of document ≡ None
    → ¬ (Holds document f)
no_fault None f e h = cc
no_fault (Some ms) f e h = subst (λ (o : Option WindowFault). IsAtMost o f) e (table_at_most ms f h)

pub fault_of_least : IsFaultOfLeast
fault_of_least = record { some = least; none = no_fault }
