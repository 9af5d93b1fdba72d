use Rattle.std.proofs.Common.{rules, ◌≡◌, ◌+◌, ◌<◌, ◌++◌, [], ◌∷◌, string_bytes, ap, sym, ◌∙◌}
use Rattle.std.proofs.lemmas.Fmt.{decimal_digit}
use Rattle.json_api.proofs.append.put_digit.Goals as goal

pub returns-clause-bytes : goal.returns-clause-bytes
returns-clause-bytes c =
    let is : c.from.result ≡ 48 + c.args.digit = search rules in
    let small : c.from.result < 128 = search rules in
    c.in-Ok.ensures.bytes ∙ ap (λ cs. string_bytes c.args.out.now ++ cs) (c.push.ensures.ascii small
    ∙ ap (λ n. n ∷ []) is ∙ sym (decimal_digit c.args.digit c.requires.digit))
