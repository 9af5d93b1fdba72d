-- Small lemmas about truth values and lists.
use Rattle.std.proofs.Common.{◌≡◌, ◌<◌, ◌≤◌, ℕ, nat_lt, List, [], ◌∷◌, length, Bool, T, true, false, not, ◌&&◌, ◌||◌, Option, None, Some, is_some, Ordering, Less, Equal, Greater, refl, sym, ◌∙◌, arith}
use Rattle.std.specs.Ordering.{is_eq}
use Rattle.std.specs.Prelude.{◌==◌, is_none, nat_le, option_map}
use Rattle.std.proofs.lemmas.Bool.Decides.{nat_tests}

pub impossible : {P : Type 0} → true ≡ false → P
impossible e = cc

pub true-false : {P : Type 0} (b : Bool) → b ≡ true → b ≡ false → P
true-false b e f = impossible (sym e ∙ f)

pub denied : (b : Bool) → not b ≡ false → b ≡ true
denied true e = refl
denied false e = cc

pub negated : (b : Bool) → not b ≡ true → b ≡ false
negated true e = cc
negated false e = refl

pub not_not : (b : Bool) → not (not b) ≡ b
not_not true = refl
not_not false = refl

-- Two Bools that imply each other are equal.
pub same_truth : (b c : Bool) → (b ≡ true → c ≡ true) → (c ≡ true → b ≡ true) → b ≡ c
same_truth true c there back = sym (there refl)
same_truth false true there back = back refl
same_truth false false there back = refl

-- Nothing comes into force that was in force.
pub no_takeover : (b : Bool) → (not b && b) ≡ false
no_takeover true = refl
no_takeover false = refl

pub and_first : (b c : Bool) → (b && c) ≡ true → b ≡ true
and_first true c e = refl
and_first false c e = cc

pub and_second : (b c : Bool) → (b && c) ≡ true → c ≡ true
and_second true c e = e
and_second false c e = cc

pub false_first : (b c : Bool) → b ≡ false → (b && c) ≡ false
false_first true c e = cc
false_first false c e = refl

pub false_second : (b c : Bool) → c ≡ false → (b && c) ≡ false
false_second true c e = e
false_second false c e = refl

pub or_first : (b c : Bool) → (b || c) ≡ false → b ≡ false
or_first true c e = cc
or_first false c e = refl

pub or_second : (b c : Bool) → (b || c) ≡ false → c ≡ false
or_second true c e = cc
or_second false c e = e

pub neither : (b c : Bool) → (b || c) ≡ false → (b ≡ false) × (c ≡ false)
neither b c e = (or_first b c e, or_second b c e)

pub or_swapped : (b c d : Bool) → (b || (c || d)) ≡ (c || (b || d))
or_swapped true true d = refl
or_swapped true false d = refl
or_swapped false c d = refl

pub or_true : (b : Bool) → (b || true) ≡ true
or_true true = refl
or_true false = refl

pub or_left : (b c : Bool) → b ≡ true → (b || c) ≡ true
or_left true c e = refl
or_left false c e = cc

pub or_false : (b : Bool) → (b || false) ≡ b
or_false true = refl
or_false false = refl

pub or_right : (b c : Bool) → c ≡ true → (b || c) ≡ true
or_right true c e = refl
or_right false c e = e

pub some_is : {A : Type 0} (x y : A) → Some x ≡ Some y → x ≡ y
some_is x y e = cc

pub same_number : (n : ℕ) → (n == n) ≡ true
same_number n = grind (arith, nat_tests)

pub number_equal : (m n : ℕ) → m ≡ n → (m == n) ≡ true
number_equal m n e = grind (arith, nat_tests)

pub equal_number : (m n : ℕ) → (m == n) ≡ true → m ≡ n
equal_number m n e = grind (arith, nat_tests)

pub numbers_turned : (a b : ℕ) → (a == b) ≡ (b == a)
numbers_turned a b = grind (arith, nat_tests)

pub is_less : (a b : ℕ) → a < b → nat_lt a b ≡ true
is_less a b less = grind (arith, nat_tests)

pub less_is : (a b : ℕ) → nat_lt a b ≡ true → a < b
less_is a b e = grind (arith, nat_tests)

pub greater_differs : (a b : ℕ) → nat_lt a b ≡ true → (b == a) ≡ false
greater_differs a b e = grind (arith, nat_tests)

pub at_most : (a b : ℕ) → a ≤ b → nat_le a b ≡ true
at_most a b most = grind (arith, nat_tests)

pub not_less : (a b : ℕ) → nat_lt a b ≡ false → b ≤ a
not_less a b e = grind (arith, nat_tests)

pub and_both : (p q : Bool) → (p && q) ≡ true → (p ≡ true) × (q ≡ true)
and_both p q e = (and_first p q e, and_second p q e)

pub true_both : (p q : Bool) → p ≡ true → q ≡ true → (p && q) ≡ true
true_both true q e f = f
true_both false q e f = e

pub and_false : (b : Bool) → (b && false) ≡ false
and_false true = refl
and_false false = refl

pub still_false : (b : Bool) → (not b && false) ≡ false
still_false true = refl
still_false false = refl

pub and_true : (b : Bool) → (b && true) ≡ b
and_true true = refl
and_true false = refl

pub grouped : (x p q r : Bool) → (x && (p && (q && r))) ≡ (((x && p) && q) && r)
grouped true true true r = refl
grouped true true false r = refl
grouped true false q r = refl
grouped false p q r = refl

pub tied : (r : Ordering) → is_eq r ≡ true → r ≡ Equal
tied Equal e = refl
tied Less e = let f : false ≡ true = e in cc
tied Greater e = let f : false ≡ true = e in cc

pub truth : (b : Bool) → T b → b ≡ true
truth true t = refl
truth false t = absurd t

pub some_there : {A : Type 0} (o : Option A) → is_some o ≡ true → (x : A) × (o ≡ Some x)
some_there None e = impossible (sym e)
some_there (Some x) e = (x, refl)

pub none_there : {A : Type 0} (o : Option A) → is_some o ≡ false → o ≡ None
none_there None e = refl
none_there (Some x) e = impossible e

pub is_none_there : {A : Type 0} (o : Option A) → is_none o ≡ true → o ≡ None
is_none_there None e = refl
is_none_there (Some x) e = impossible (sym e)

pub mapped_there : {A B : Type 0} (f : A → B) (o : Option A)
    → is_some (option_map f o) ≡ is_some o
mapped_there f None = refl
mapped_there f (Some x) = refl

-- A list of length 0 is empty.
pub no_members : {A : Type 0} (xs : List A) → length xs ≡ 0 → xs ≡ []
no_members [] e = refl
no_members (x ∷ xs) e = cc
