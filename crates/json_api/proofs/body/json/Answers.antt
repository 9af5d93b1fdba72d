use Rattle.std.proofs.Common.{rules, ◌≡◌, ◌∙◌, List, ℕ, Bool, true, false, None, Option, refl, ap, cond, subst, option_map}
use Rattle.std.specs.Prelude.{IfOk}
use Rattle.std.proofs.lemmas.Str.{IsUtf8-from_is_utf8, is_utf8-from_IsUtf8}
use Rattle.std.specs.Str.{is_utf8, IsUtf8}
use Rattle.serde_json.specs.Data.{Data}
use Rattle.serde_json.specs.Read.{read}
use Rattle.serde_json.specs.View.{view}
use Rattle.json_api.proofs.body.json.Goals as goal

none_of : (body : List ℕ) (d : Option Data) (b : Bool) → is_utf8 body ≡ b → (IsUtf8 body → ⊥)
    → None ≡ cond b d None
none_of body d true e never = absurd (never (IsUtf8-from_is_utf8 body e))
none_of body d false e never = refl

some_of : (body text : List ℕ) (d : Option Data) → IsUtf8 body → text ≡ body → d ≡ read text
    → d ≡ cond (is_utf8 body) (read body) None
some_of body text d utf8 same is = rw (is_utf8-from_IsUtf8 body utf8) (is ∙ ap read same)

pub returns-in_default : goal.returns-in_default
returns-in_default c =
    let never : IsUtf8 c.args.body.now → ⊥ = search rules in
    none_of c.args.body.now _ _ refl never

pub returns : goal.returns
returns c =
    let utf8 : IsUtf8 c.args.body.now = search rules in
    let same : c.in-Ok.text.now ≡ c.args.body.now = search rules in
    subst (λ d. IfOk c.tree.result (λ found. option_map view found ≡ d))
    (some_of c.args.body.now c.in-Ok.text.now (read c.in-Ok.text.now) utf8 same refl) c.tree.ensures
