use Rattle.std.proofs.Common.{◌-◌, ◌++◌, List, ℕ, length, take, drop, sym, ap, ◌∙◌}
use Rattle.std.proofs.lemmas.List.{take-append-drop}
use Rattle.http_messages.proofs.PlainLemmas.{all_left}
use Rattle.http_messages.proofs.plain.caller_then.Goals as goal

pub returns : goal.returns
returns c =
    let bytes = c.args.bytes.now in
    sym (take-append-drop 4 bytes)
    ∙ ap (λ (t : List ℕ). take 4 bytes ++ t) (sym (all_left 4 bytes))
    ∙ ap (λ (t : List ℕ). t ++ take (length bytes - 4) (drop 4 bytes)) c.in_ok-caller.ensures
