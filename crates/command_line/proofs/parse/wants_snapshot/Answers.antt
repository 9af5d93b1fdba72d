use Rattle.std.proofs.Common.{◌≡◌, ◌∙◌, ◌||◌, Bool, List, [], ◌∷◌, ap, codes, map, refl, sym}
use Rattle.std.specs.List.{list_any}
use Rattle.std.specs.Str.{bytes_eq}
use Rattle.clap.specs.Words.{Text}
use Rattle.command_line.proofs.parse.wants_snapshot.Goals as goal

any_mapped : {X : Type 0} (f : X → Text) (p : Text → Bool) (xs : List X)
    → list_any p (map f xs) ≡ list_any (λ x. p (f x)) xs
any_mapped f p [] = refl
any_mapped f p (x ∷ xs) = ap (λ (b : Bool). p (f x) || b) (any_mapped f p xs)

pub returns : goal.returns
returns g c = c.has_snapshot_flag.ensures
    ∙ sym (any_mapped g.S.AsStr.text (λ word. bytes_eq word (codes "--snapshot"))
    c.args.words.now)
