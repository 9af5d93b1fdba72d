use Rattle.std.proofs.Common.{◌++◌, ℕ, List, take, sym, ap, ◌∙◌, arith}
use Rattle.std.proofs.lemmas.List.{take-append-drop}
use Rattle.std.proofs.lemmas.List.Sums.{AllPass-from_list_all}
use Rattle.http_messages.specs.Plain.{is_visible}
use Rattle.http_messages.proofs.PlainLemmas.{all_left}
use Rattle.http_messages.proofs.plain.path_then.Goals as goal

pub returns : goal.returns
returns c =
    let bytes = c.args.bytes.now in
    let end = c.in_ok-end.end in
    record {
      all = sym (take-append-drop end bytes)
          ∙ ap (λ (t : List ℕ). take end bytes ++ t)
          (sym (all_left end bytes) ∙ c.in_ok-rest.ensures.some);
      some = grind (arith, c.is_empty.ensures, c.if-is_empty.false);
      path_is = AllPass-from_list_all is_visible (take end bytes)
          (sym c.are_visible.ensures ∙ c.if-not-are_visible.false);
    }
