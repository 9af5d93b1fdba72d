use Rattle.std.proofs.Common.{rules, ◌≡◌, ◌≤◌, length, take, ap, sym, ◌∙◌}
use Rattle.std.proofs.lemmas.List.{take_all}
use Rattle.std.proofs.lemmas.Slice.Eq.{bytes_eq-Decides}
use Rattle.http_messages.specs.Fields.{lower}
use Rattle.http_messages.proofs.head.is_name.Goals as goal

pub returns-then-starts_with : goal.returns-then-starts_with
returns-then-starts_with c =
    let long : length c.args.own.now ≤ length c.args.name.now = search rules in
    let same : c.args.own.now ≡ c.args.name.now =
    sym (take_all (length c.args.name.now) c.args.own.now long)
    ∙ sym ((bytes_eq-Decides c.args.name.now (take (length c.args.name.now) c.args.own.now)).0
    (sym c.starts_with.ensures.value ∙ c.if-starts_with.true)) in
    (λ is. ap lower same ∙ c.requires, λ is. c.if-starts_with.true)
