use Rattle.std.proofs.Common.{◌≡◌, ℕ, List, ap, ◌∙◌, sym, Bool, true, false}
use Rattle.std.specs.Str.{bytes_eq}
use Rattle.std.proofs.lemmas.Slice.Eq.{bytes_eq-Decides}
use Rattle.httparse.specs.declared.spans.HeaderSpan.{HeaderSpan}
use Rattle.http_messages.specs.Fields.{lower}
use Rattle.http_messages.proofs.FieldLemmas.{any_none, any_other, any_found, eq_false}
use Rattle.http_messages.proofs.head.has_field.Goals.{else-eq_ignore_ascii_case-via-then-eq_ignore_ascii_case+else-eq_ignore_ascii_case-2, else-eq_ignore_ascii_case-via-else-eq_ignore_ascii_case}
use Rattle.http_messages.proofs.head.has_field.Goals as goal

abbrev none : HeaderSpan
none = record { name = record { start = 0; end = 0 }; value = record { start = 0; end = 0 } }

eq_not_false : {b : Bool} → b ≡ true → b ≡ false → ⊥
eq_not_false e h = cc

pub returns-then-eq_ignore_ascii_case-2 : goal.returns-then-eq_ignore_ascii_case-2
returns-then-eq_ignore_ascii_case-2 c =
    let value : List ℕ = c.args.value.now in
    let P = λ (v : List ℕ). bytes_eq (lower v) value in
    let name_is = ap lower (sym c.of.ensures) ∙ c.eq_ignore_ascii_case.ensures.test.0
    c.if-eq_ignore_ascii_case.true ∙ c.requires.lower in
    let value_is = ap lower (sym c.of-then-eq_ignore_ascii_case.ensures)
    ∙ c.eq_ignore_ascii_case-then-eq_ignore_ascii_case.ensures.test.0
    c.if-eq_ignore_ascii_case-2.true ∙ c.requires.lower_value in
    sym (any_found P c.args.name.now c.args.buf.now c.args.headers.now c.loop-header.header-index
    none c.loop-header-test.true name_is ((bytes_eq-Decides _ value).1 value_is))

pub loop-header-preserved : goal.loop-header-preserved
loop-header-preserved c =
    let value : List ℕ = c.args.value.now in
    let P = λ (v : List ℕ). bytes_eq (lower v) value in
    let text = ap lower (sym c.of.ensures) in
    elim c.else-eq_ignore_ascii_case.branch [
      | else-eq_ignore_ascii_case-via-then-eq_ignore_ascii_case+else-eq_ignore_ascii_case-2 w ↦
          let name_is = text ∙ c.eq_ignore_ascii_case.ensures.test.0 w.if-eq_ignore_ascii_case.true
          ∙ c.requires.lower in
          let other = ap lower (sym w.of-then-eq_ignore_ascii_case.ensures) in
          any_other P c.args.name.now c.args.buf.now c.args.headers.now c.loop-header.header-index
          none c.loop-header-test.true c.loop-header.invariant name_is
          (eq_false _ value
          (λ e. eq_not_false (w.eq_ignore_ascii_case-then-eq_ignore_ascii_case.ensures.test.1
          (sym other ∙ e ∙ sym c.requires.lower_value)) w.if-eq_ignore_ascii_case-2.false))
      | else-eq_ignore_ascii_case-via-else-eq_ignore_ascii_case w ↦
          any_none P c.args.name.now c.args.buf.now c.args.headers.now c.loop-header.header-index
          none c.loop-header-test.true c.loop-header.invariant
          (λ e. eq_not_false (c.eq_ignore_ascii_case.ensures.test.1 (sym text ∙ e
          ∙ sym c.requires.lower)) w.if-eq_ignore_ascii_case.false)
    ]
