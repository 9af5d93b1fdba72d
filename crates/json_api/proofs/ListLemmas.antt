-- Lists of values, and of their models.
use Rattle.std.proofs.Common.{◌≡◌, ℕ, ◌++◌, List, [], ◌∷◌, map, codes, refl, ap}
use Rattle.std.proofs.lemmas.List.Folds.{flat_map-map}
use Rattle.json_api.specs.Texts.{listed}

pub listed_of : {A B : Type 0} (text : B → List ℕ) (seen : A → B) (xs : List A)
    → listed text (map seen xs) ≡ listed (λ x. text (seen x)) xs
listed_of text seen [] = refl
listed_of text seen (x ∷ xs) =
    ap (λ (t : List ℕ). text (seen x) ++ t) (flat_map-map (λ y. codes "," ++ text y) seen xs)
