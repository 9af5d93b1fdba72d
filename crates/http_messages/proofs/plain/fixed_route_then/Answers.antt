use Rattle.std.proofs.Common.{◌++◌, List, ℕ, sym, ap, ◌∙◌}
use Rattle.std.proofs.lemmas.List.Sums.{AllPass-from_list_all}
use Rattle.http_messages.specs.Plain.{is_visible}
use Rattle.http_messages.proofs.plain.fixed_route_then.Goals as goal

pub returns : goal.returns
returns g c =
    let path = c.args.path.now in (
      path,
      record {
        all = c.in_ok-after.ensures.some ∙ ap (λ (t : List ℕ). path ++ t) c.in_ok-rest.ensures.some;
        some = c.requires.some;
        path_is = AllPass-from_list_all is_visible path c.requires.visible;
      },
      sym c.requires.route,
    )
