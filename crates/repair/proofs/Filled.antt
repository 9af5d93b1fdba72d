-- The content of a store, a row at a time.
use Rattle.std.proofs.Common.{◌≡◌, ◌∙◌, ◌<◌, ◌+◌, ◌++◌, ℕ, List, [], ◌∷◌, length, get_or, take, Option, Some, None, ap, arith, sym, subst, inl, inr}
use Rattle.std.specs.Prelude.{◌≢◌, Contains}
use Rattle.std.specs.FinMap.{get-empty}
use Rattle.std.specs.Ordering.{nat_cmp}
use Rattle.std.proofs.lemmas.List.{take_more, length-take-le, get_or-take, get_or_default}
use Rattle.std.proofs.lemmas.List.Elements.{Contains-push, Contains-push_cases, Contains-append_left}
use Rattle.model.specs.Content.{Content, broadcast_cmp, empty_content, wait_cmp}
use Rattle.settle.specs.Changes.{AppliesChanges}
use Rattle.repair.specs.Entries.{Entry, Carrier, Lrn, Code, Block, WindowSet, Version, Broadcast, Wait, IsEntry, changes_with, place}
use Rattle.repair.specs.Contents.{HasExactly}
use Rattle.repair.specs.Order.{AreAscending}
use Rattle.repair.proofs.Adding.{Adds, adds}
use Rattle.repair.proofs.Rising.{differs}

nothing_found : {A : Type 0} {P : Type 0} (o : Option A) (x : A) → o ≡ None → o ≡ Some x → P
nothing_found o x none some = cc

-- An empty content has no row.
no_entry : {P : Type 0} (e : Entry) → IsEntry empty_content e → P
no_entry (Carrier k) h = nothing_found _ _ (get-empty nat_cmp k) h
no_entry (Lrn k v) h = nothing_found _ _ (get-empty nat_cmp k) h
no_entry (Code k v) h = nothing_found _ _ (get-empty nat_cmp k) h
no_entry (Block k v) h = nothing_found _ _ (get-empty nat_cmp k) h
no_entry (WindowSet k v) h = nothing_found _ _ (get-empty nat_cmp k) h
no_entry (Version k v) h = nothing_found _ _ (get-empty nat_cmp k) h
no_entry (Broadcast k v) h = nothing_found _ _ (get-empty broadcast_cmp k) h
no_entry (Wait k v) h = nothing_found _ _ (get-empty wait_cmp k) h

pub starts_empty : (c : Content) → c ≡ empty_content → HasExactly [] c
starts_empty c is = subst (HasExactly []) (sym is) (record {
  each = λ e there. let within = there.1 in absurd (omega (arith, within));
  only = λ e h. no_entry e h;
})

more : (es : List Entry) (e : Entry) (old new : Content) → HasExactly es old → Adds e old new
    → ((x : Entry) → Contains es x → place x ≢ place e) → HasExactly (es ++ e ∷ []) new
more es e old new has adding fresh = record {
  each = λ x there. elim (Contains-push_cases es e x there) [
    | inl before ↦ adding.kept x (fresh x before) (has.each x before)
    | inr same ↦ subst (IsEntry new) same adding.put
  ];
  only = λ x h. elim (adding.only x h) [
    | inl before ↦ Contains-append_left es (e ∷ []) x (has.only x before)
    | inr same ↦ subst (Contains (es ++ e ∷ [])) same (Contains-push es e)
  ];
}

-- The next row is written.
pub next_filled : (es : List Entry) → AreAscending es → (i : ℕ) (e : Entry) → i < length es
    → e ≡ get_or es i e → (old new : Content) → HasExactly (take i es) old
    → AppliesChanges (changes_with e) old new → HasExactly (take (i + 1) es) new
next_filled es rise i e within is old new has applies =
    subst (λ xs. HasExactly xs new)
    (sym (take_more es i e within ∙ ap (λ x. take i es ++ x ∷ []) (sym is)))
    (more (take i es) e old new has (adds old new e applies) (λ x there.
    let within_first : there.0 < i = omega (arith, there.1, length-take-le i es (omega arith)) in
    let at : get_or es there.0 x ≡ x =
    sym (get_or-take i es there.0 x within_first) ∙ there.2 in
    λ same. differs es rise x there.0 i within_first within
    (ap place at ∙ same ∙ ap place (is ∙ get_or_default es i e x within))))
