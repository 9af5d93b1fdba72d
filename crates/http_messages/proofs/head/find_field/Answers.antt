use Rattle.std.proofs.Common.{◌≡◌, ℕ, List, ◌++◌, get_or, map, take, ap, ◌∙◌, sym, append-nil, length, Bool, true, false}
use Rattle.std.proofs.lemmas.List.Elements.{All-get_or}
use Rattle.httparse.specs.declared.spans.HeaderSpan.{HeaderSpan}
use Rattle.httparse.specs.Spans.{header_bytes, IsHeaderWithin}
use Rattle.http_messages.specs.Fields.{values_in, lower}
use Rattle.http_messages.proofs.FieldLemmas.{values_more, one_value, no_value, found_first, found_again}
use Rattle.http_messages.proofs.head.find_field.Goals.{then-is_name+in-Absent, then-is_name+in_default, else-is_name}
use Rattle.http_messages.proofs.head.find_field.Goals as goal

eq_not_false : {b : Bool} → b ≡ true → b ≡ false → ⊥
eq_not_false e h = cc

pub loop-header-preserved : goal.loop-header-preserved
loop-header-preserved c =
    let buf : List ℕ = c.args.buf.now in
    let name : List ℕ = c.args.name.now in
    let hs : List HeaderSpan = c.args.headers.now in
    let i : ℕ = c.loop-header.header-index in
    let none : HeaderSpan = record {
      name = record { start = 0; end = 0 };
      value = record { start = 0; end = 0 };
    } in
    let h : HeaderSpan = get_or hs i none in
    let before : List (List ℕ) = values_in name (map (header_bytes buf) (take i hs)) in
    let more = values_more name buf hs i none c.loop-header-test.true in
    let text : lower (header_bytes buf h).0 ≡ lower c.of.result.now = ap lower (sym c.of.ensures) in
    elim c.if-is_name.branch [
      | then-is_name+in-Absent w ↦
          let one = one_value name (header_bytes buf h) (text
          ∙ c.is_name.ensures.0 w.if-is_name.true) in
          rw w.found-is (found_first buf c.loop-header.found before _ h.value w.in-Absent.is
          c.loop-header.invariant (more ∙ ap (λ (t : List (List ℕ)). before ++ t) one)
          (All-get_or (IsHeaderWithin (length buf)) hs i none c.loop-header-test.true
          c.requires.within).1)
      | then-is_name+in_default w ↦
          let one = one_value name (header_bytes buf h) (text
          ∙ c.is_name.ensures.0 w.if-is_name.true) in
          rw w.found-is (found_again buf c.loop-header.found before _ _ w.in_default.not-Absent
          c.loop-header.invariant (more ∙ ap (λ (t : List (List ℕ)). before ++ t) one))
      | else-is_name w ↦
          let none_here =
          no_value name (header_bytes buf h) (λ e. eq_not_false (c.is_name.ensures.1 (sym text ∙ e))
          w.if-is_name.false) in
          let same = more ∙ ap (λ (t : List (List ℕ)). before ++ t) none_here ∙ append-nil before in
          rw (w.found-is, same) c.loop-header.invariant
    ]
