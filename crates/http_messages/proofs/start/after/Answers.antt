use Rattle.std.proofs.Common.{◌≡◌, ◌++◌, List, ℕ, take, drop, true, false, sym, ap, ◌∙◌}
use Rattle.std.proofs.Math.Seq.{take-append_seam}
use Rattle.std.proofs.lemmas.List.{take-append-drop}
use Rattle.http_messages.proofs.start.after.Goals as goal

pub returns-then-are_same-clause-some : goal.returns-then-are_same-clause-some
returns-then-are_same-clause-some g c =
    let bytes = c.args.bytes.now in
    let start = c.args.start.now in
    let parts = c.in_ok-first.ensures.cases in
    let same = c.are_same.ensures.0 c.if-are_same.true in
    sym (take-append-drop g.row.N bytes)
    ∙ ap (λ (t : List ℕ). t ++ drop g.row.N bytes) (sym parts.0 ∙ same)
    ∙ ap (λ (t : List ℕ). start ++ t) (sym parts.1)

pub returns-else-are_same-clause-none : goal.returns-else-are_same-clause-none
returns-else-are_same-clause-none g c = λ rest begins.
    let start = c.args.start.now in
    let first = c.in_ok-first.first.now in
    let same : first ≡ start =
    c.in_ok-first.ensures.cases.0 ∙ ap (take g.row.N) begins
    ∙ ap (λ n. take n (start ++ rest)) (sym c.told-start) ∙ take-append_seam start rest in
    let no : true ≡ false = sym (c.are_same.ensures.1 same) ∙ c.if-are_same.false in
    cc
