-- Changes of a hash map by numbers are those of its finite map.
use Rattle.std.proofs.Common.{◌≡◌, ℕ, Bool, true, false, cond, Option, Some, None, refl, ap, sym, subst, ◌∙◌}
use Rattle.std.specs.Prelude.{◌==◌, option_map, IfSome}
use Rattle.std.specs.Cmp.{nat_cmp_total, unsigned_tied}
use Rattle.std.specs.Map.{lookup}
use Rattle.std.specs.HashMap as hash
use Rattle.std.specs.HashMap.{HashMap}
use Rattle.std.specs.FinMap.{get, same_map, nat_cmp-IsAntisymmetric}
use Rattle.settle.specs.Changes.{put_row}
use Rattle.model.specs.Windows.{Windows, WindowSet}
use Rattle.version.specs.Abstraction.{set_of, windows_of}
use Rattle.windows.specs.declared.window.WindowSet.{WindowSet as WindowSetImpl}
use Rattle.windows.specs.declared.window.Windows.{Windows as WindowsImpl}
use Rattle.store.specs.Maps.{number_map}
use Rattle.store.proofs.Maps.{get-seen}

module _ {X Y S : Type 0} (g : X → Y) where
  pub get-number : (m : HashMap ℕ X S) (q : ℕ)
      → get (number_map g m) q ≡ option_map g (hash.get ◌==◌ m q)
  get-number m q =
      get-seen (λ n. n) g nat_cmp_total nat_cmp-IsAntisymmetric m.entries q
      ∙ (λ i. option_map g (lookup (λ n. unsigned_tied q n i) m.entries))

  -- Hash maps with the same look-ups have the same finite map.
  pub same-numbers : (m n : HashMap ℕ X S)
      → ((q : ℕ) → hash.get ◌==◌ n q ≡ hash.get ◌==◌ m q) → number_map g n ≡ number_map g m
  same-numbers m n same =
      same_map nat_cmp_total nat_cmp-IsAntisymmetric (number_map g n) (number_map g m)
      (λ q. get-number n q ∙ ap (option_map g) (same q) ∙ sym (get-number m q))

  -- A row that is written in the hash map is written in the finite map.
  pub number-written : (m n : HashMap ℕ X S) (row : Option (ℕ × X))
      → ((q : ℕ) → hash.get ◌==◌ n q ≡ put_row ◌==◌ row q (hash.get ◌==◌ m q)) → (q : ℕ)
      → get (number_map g n) q ≡ put_row ◌==◌ (option_map (λ e. (e.0, g e.1)) row) q
      (get (number_map g m) q)
  number-written m n row is q =
      get-number n q ∙ ap (option_map g) (is q) ∙ mapped row (hash.get ◌==◌ m q)
      ∙ ap (put_row ◌==◌ (option_map (λ e. (e.0, g e.1)) row) q) (sym (get-number m q))
    where
      chosen : (b : Bool) (x : X) (was : Option X) → option_map g (cond b (Some x) was)
          ≡ cond b (Some (g x)) (option_map g was)
      chosen true x was = refl
      chosen false x was = refl

      mapped : (w : Option (ℕ × X)) (was : Option X) → option_map g (put_row ◌==◌ w q was)
          ≡ put_row ◌==◌ (option_map (λ e. (e.0, g e.1)) w) q (option_map g was)
      mapped None was = refl
      mapped (Some e) was = chosen (e.0 == q) e.1 was

-- A row under the number of its key, seen through the row's model.
pub seen-row : {K X Y : Type 0} (f : K → ℕ) (g : X → Y) (o : Option (K × X))
    (row : Option (ℕ × X)) → row ≡ option_map {U = ℕ × X} (λ e. (f e.0, e.1)) o
    → option_map {U = ℕ × Y} (λ e. (e.0, g e.1)) row
    ≡ option_map {U = ℕ × Y} (λ e. (f e.0, g e.1)) o
seen-row {K = K} {X = X} {Y = Y} f g o row e =
    ap (option_map {U = ℕ × Y} (λ x. (x.0, g x.1))) e ∙ by_cases o
  where
    by_cases : (w : Option (K × X)) → option_map {U = ℕ × Y} (λ x. (x.0, g x.1))
        (option_map {U = ℕ × X} (λ x. (f x.0, x.1)) w)
        ≡ option_map {U = ℕ × Y} (λ x. (f x.0, g x.1)) w
    by_cases None = refl
    by_cases (Some x) = refl

-- A set of windows under its number.
pub seen-set : (o : Option WindowSetImpl) (row : Option (ℕ × WindowsImpl))
    → row ≡ option_map {U = ℕ × WindowsImpl} (λ (s : WindowSetImpl). (s.number, s.windows)) o
    → option_map {U = ℕ × Windows} (λ e. (e.0, windows_of e.1)) row
    ≡ option_map {U = ℕ × Windows} (λ (s : WindowSet). (s.number, s.windows)) (option_map set_of o)
seen-set o row e = ap (option_map {U = ℕ × Windows} (λ x. (x.0, windows_of x.1))) e ∙ by_cases o
  where
    by_cases : (w : Option WindowSetImpl) → option_map {U = ℕ × Windows} (λ x. (
      x.0,
      windows_of
          x.1,
    ))
        (option_map {U = ℕ × WindowsImpl} (λ (s : WindowSetImpl). (s.number, s.windows)) w)
        ≡ option_map {U = ℕ × Windows} (λ (s : WindowSet). (s.number, s.windows))
        (option_map set_of w)
    by_cases None = refl
    by_cases (Some x) = refl

-- Room for a row is room for it under its number.
pub if-mapped : {A B : Type 0} (P : Type 0) (f : A → B) (o : Option A) (row : Option B)
    → row ≡ option_map f o → IfSome o (λ x. P) → IfSome row (λ x. P)
if-mapped {A = A} P f o row e room = subst (λ w. IfSome w (λ x. P)) (sym e) (by_cases o room)
  where
    by_cases : (w : Option A) → IfSome w (λ x. P) → IfSome (option_map f w) (λ x. P)
    by_cases None r = tt
    by_cases (Some x) r = r
