use Rattle.std.proofs.Common.{◌≡◌, ◌≤◌, List, [], ◌∷◌, length, get_or, map, ap, sym, ◌∙◌, arith}
use Rattle.std.proofs.lemmas.Slice.Eq.{bytes_eq-Decides}
use Rattle.clap.specs.Words.{Text}
use Rattle.command_line.specs.CommandLine.{HasSecond}
use Rattle.command_line.proofs.parse.is_second.Goals as goal

second_of : {X : Type 0} (f : X → Text) (xs : List X) (x : X) (name : Text) → 2 ≤ length xs
    → x ≡ get_or xs 1 x → f x ≡ name → HasSecond (map f xs) name
second_of f [] x name len is e = absurd (omega arith)
second_of f (a ∷ []) x name len is e = absurd (omega arith)
second_of f (a ∷ b ∷ xs) x name len is e = (
  f a,
  map f xs,
  ap (λ (t : Text). f a ∷ t ∷ map f xs) (ap f (sym is) ∙ e),
)

second_same : {p q a b : Text} {xs ys : List Text} → p ∷ a ∷ xs ≡ q ∷ b ∷ ys → a ≡ b
second_same e = cc

of_second : {X : Type 0} (f : X → Text) (xs : List X) (x : X) (name : Text) → 2 ≤ length xs
    → x ≡ get_or xs 1 x → HasSecond (map f xs) name → f x ≡ name
of_second f [] x name len is has = absurd (omega arith)
of_second f (a ∷ []) x name len is has = absurd (omega arith)
of_second f (a ∷ b ∷ xs) x name len is has = ap f is ∙ second_same has.2

pub returns-in-len2-up : goal.returns-in-len2-up
returns-in-len2-up g c =
    let decides = bytes_eq-Decides c.as_str.result.now c.args.name.now in (
      λ yes. second_of g.S.AsStr.text c.args.words.now c.second-item.result c.args.name.now
          c.in-len2-up.len_at_least c.second-item.is
          (sym c.as_str.ensures ∙ decides.0 (sym c.eq.ensures ∙ yes)),
      λ has. c.eq.ensures ∙ decides.1 (c.as_str.ensures
          ∙ of_second g.S.AsStr.text c.args.words.now c.second-item.result c.args.name.now
          c.in-len2-up.len_at_least c.second-item.is has),
    )
