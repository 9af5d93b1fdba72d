-- Calls that keep a store's promises, one after the other.
use Rattle.std.proofs.Common.{◌≡◌, ◌∙◌, true, arith, inl, inr}
use Rattle.std.specs.Prelude.{Result, Ok, Err, OnErr}
use Rattle.settle.specs.StoreContract.{IsGroupBegun, IsUndone, PreservesStore}
use Rattle.settle.specs.declared.store_model.StoreModel.{Ghosts}

module _ {S : Type 0} (store : Ghosts S) where
  pub still : (s : S) → PreservesStore store s s (Unit {0}) ⊥
  still s = record {
    usable = λ u. u;
    honest = λ h. h;
    begins = λ m inside. inside;
    ends = λ u m inside. inside;
    stays = λ answers u h. u;
    rises = omega arith;
    storage = λ never. absurd never;
  }

  pub then_preserves : {A B R : Type 0} (a b c : S) → PreservesStore store a b (Unit {0}) ⊥
      → PreservesStore store b c A R → (B → A) → PreservesStore store a c B ⊥
  then_preserves a b c first second answers = record {
    usable = λ u. first.usable (second.usable u);
    honest = λ h. first.honest (second.honest h);
    begins = λ m inside. first.begins m (second.begins m inside);
    ends = λ u m inside. second.ends u m (first.ends (second.usable u) m inside);
    stays = λ answer u h. second.stays (answers answer) (first.stays tt u (second.honest h)) h;
    rises = let one = first.rises in let two = second.rises in omega arith;
    storage = λ never. absurd never;
  }

  -- The end of a group that was undone, after calls within it.
  module _ {A R : Type 0} (old begun inside new : S)
      (begins : IsGroupBegun store old begun (Ok true)) (within : PreservesStore store begun inside
      A R)
      (undone : IsUndone store inside new) (usable : store.IsUsable new) where
    pub as_before : store.IsUsable old × (store.content new ≡ store.content old)
    as_before = elim (undone usable) [
      | inl left ↦
          let was = begins.1 left.0 (within.begins left.0 left.1) in
          (was.0, left.2 ∙ was.1)
      | inr left ↦
          let ready = within.usable left.0 in
          absurd (left.1 (
            store.content old,
            within.ends left.0 (store.content old)
                (begins.0 ready),
          ))
    ]

pub on_err : {A E P : Type 0} (r : Result A E) → P → OnErr r P
on_err (Ok a) p = tt
on_err (Err e) p = p
