use Rattle.std.proofs.Common.{◌∙◌, sym, ap}
use Rattle.matchit.specs.Seek.{first}
use Rattle.http_messages.proofs.PathLemmas.{found_path, no_path, no_text}
use Rattle.http_messages.proofs.paths.fixed_route_of.Goals as goal

pub returns-in-Ok-at : goal.returns-in-Ok-at
returns-in-Ok-at c =
    found_path c.args.target.now _ (ap (λ r. first r c.args.target.now) (sym c.requires)
    ∙ ap (first c.args.router.now) (sym c.in-Ok.ensures.cases.0) ∙ c.in-Ok-at.ensures.found)

pub returns-in-Err-at : goal.returns-in-Err-at
returns-in-Err-at c =
    no_path c.args.target.now (ap (λ r. first r c.args.target.now) (sym c.requires)
    ∙ ap (first c.args.router.now) (sym c.in-Ok.ensures.cases.0) ∙ c.in-Err-at.ensures.missing)

pub returns-in-Err : goal.returns-in-Err
returns-in-Err c = no_text c.args.target.now c.in-Err.ensures.cases.0
