-- The names of actions: the action of a field, and that no two actions share a name.
use Rattle.std.proofs.Common.{◌≡◌, ◌≢◌, ℕ, Bool, true, false, cond, List, [], ◌∷◌, Option, Some, None, IfSome, IfNone, refl, sym, ap, ◌∙◌, find}
use Rattle.std.specs.Prelude.{⊤}
use Rattle.std.specs.Cmp.Lexicographic.{same_text, other_text}
use Rattle.bulk.specs.Requests.{action_name}
use Rattle.bulk.specs.Fields.{is_action, actions}
use Rattle.bulk.specs.declared.request.ActionName.{ActionName}
use Rattle.bulk.specs.declared.request.ActionName.TheVariants.{OldProviderCreate, NewProviderCreate, Activate, PutInConflict, RemoveFromConflict, Cancel, OldProviderCancellationAcknowledge, NewProviderCancellationAcknowledge, Disconnect, ModifyRouting}

passed_at : {A : Type 0} (p : A → Bool) (x a : A) (b : Bool) (more : Option A) → p x ≡ b
    → (more ≡ Some a → p a ≡ true) → cond b (Some x) more ≡ Some a → p a ≡ true
passed_at p x a true more e by_cases h = let same : x ≡ a = cc in ap p (sym same) ∙ e
passed_at p x a false more e by_cases h = by_cases h

passed : {A : Type 0} (p : A → Bool) (xs : List A) (a : A) → find p xs ≡ Some a → p a ≡ true
passed p [] a e = cc
passed p (x ∷ xs) a e = passed_at p x a (p x) (find p xs) refl (passed p xs a) e

Fails : {A : Type 0} → (A → Bool) → List A → Type 0
Fails p [] = ⊤
Fails p (x ∷ xs) = (p x ≡ false) × Fails p xs

fails_at : {A : Type 0} (p : A → Bool) (x : A) (xs : List A) (b : Bool) → p x ≡ b
    → (find p xs ≡ None → Fails p xs) → cond b (Some x) (find p xs) ≡ None → (p x ≡ false)
    × Fails p xs
fails_at p x xs true e by_cases h = cc
fails_at p x xs false e by_cases h = (e, by_cases h)

fails : {A : Type 0} (p : A → Bool) (xs : List A) → find p xs ≡ None → Fails p xs
unfolding Fails
fails p [] e = tt
fails p (x ∷ xs) e = fails_at p x xs (p x) refl (fails p xs) e

each : (p : ActionName → Bool) → Fails p actions → (a : ActionName) → p a ≡ false
unfolding Fails
each p h OldProviderCreate = h.0
each p h NewProviderCreate = h.1.0
each p h Activate = h.1.1.0
each p h PutInConflict = h.1.1.1.0
each p h RemoveFromConflict = h.1.1.1.1.0
each p h Cancel = h.1.1.1.1.1.0
each p h OldProviderCancellationAcknowledge = h.1.1.1.1.1.1.0
each p h NewProviderCancellationAcknowledge = h.1.1.1.1.1.1.1.0
each p h Disconnect = h.1.1.1.1.1.1.1.1.0
each p h ModifyRouting = h.1.1.1.1.1.1.1.1.1.0

pub found_name : (field : List ℕ) (o : Option ActionName) → o ≡ find (is_action field) actions
    → IfSome o (λ a. field ≡ action_name a)
found_name field None e = tt
found_name field (Some a) e =
    same_text field (action_name a) (sym (passed (is_action field) actions a (sym e)))

pub no_name : (field : List ℕ) (o : Option ActionName) → o ≡ find (is_action field) actions
    → IfNone o ((a : ActionName) → field ≢ action_name a)
no_name field None e =
    λ a. other_text field (action_name a)
    (sym (each (is_action field) (fails (is_action field) actions (sym e)) a))
no_name field (Some a) e = tt

-- The action with a name.
named : List ℕ → Option ActionName
named field = find (is_action field) actions

named-name : (a : ActionName) → named (action_name a) ≡ Some a
unfolding named action_name
named-name OldProviderCreate = refl
named-name NewProviderCreate = refl
named-name Activate = refl
named-name PutInConflict = refl
named-name RemoveFromConflict = refl
named-name Cancel = refl
named-name OldProviderCancellationAcknowledge = refl
named-name NewProviderCancellationAcknowledge = refl
named-name Disconnect = refl
named-name ModifyRouting = refl

-- No two actions have the same name.
pub one_name : (a b : ActionName) → action_name a ≡ action_name b → a ≡ b
one_name a b e =
    let same : Some a ≡ Some b = sym (named-name a) ∙ ap named e ∙ named-name b in cc
