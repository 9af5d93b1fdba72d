use Rattle.std.proofs.Common.{◌≡◌, [], ◌∷◌, ◌++◌, true, ap, sym, ◌∙◌, append_assoc}
use Rattle.std.specs.List.{list_all}
use Rattle.json.specs.Print.{escape}
use Rattle.json_api.specs.Scanned.{is_plain}
use Rattle.json_api.proofs.ScanLemmas.{plain_escape}
use Rattle.json_api.proofs.scan.text_at.Goals as goal

pub returns-clause-text : goal.returns-clause-text
returns-clause-text c =
    let text = c.split_at.result.0.now in
    let rest = c.in_ok-rest.rest.now in
    let plain : list_all is_plain text ≡ true = ap (list_all is_plain) c.split_at.ensures.front
    ∙ c.plain_len.ensures.plain in
    let same : escape c.plain_text.result.now ≡ text =
    ap escape c.plain_text.ensures ∙ plain_escape text plain in
    c.in_ok-inner.ensures
    ∙ ap (λ l. 34 ∷ l) (c.split_at.ensures.by_index.0 ∙ ap (λ l. text ++ l) c.in_ok-rest.ensures
    ∙ sym (append_assoc text (34 ∷ []) rest) ∙ ap (λ l. (l ++ 34 ∷ []) ++ rest) (sym same))
