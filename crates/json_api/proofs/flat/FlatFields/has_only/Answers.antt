use Rattle.std.proofs.Common.{◌∙◌, ap, Bor, List, ℕ}
use Rattle.std.specs.List.{list_any, list_all}
use Rattle.std.specs.Str.{bytes_eq}
use Rattle.json_api.specs.declared.flat.Member.{Member}
use Rattle.json_api.proofs.KeyLemmas.{only_flat}
use Rattle.json_api.proofs.flat.FlatFields.has_only.Goals as goal

pub returns : goal.returns
returns c =
    c.are_known.ensures
    ∙ ap (list_all (λ (m : Member). list_any (λ (s : Bor (List ℕ)). bytes_eq m.key.now s.now)
    c.args.allowed.now)) c.as_slice.ensures.value
    ∙ only_flat c.args.allowed.now c.args.self.now.members.items
