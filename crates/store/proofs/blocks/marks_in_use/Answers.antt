use Rattle.std.proofs.Common.{rules, ◌≡◌, ◌∷◌, [], Some, true, false, refl, sym, ◌∙◌, ap, subst, drop, ◌+◌}
use Rattle.std.specs.Prelude.{is_some}
use Rattle.std.proofs.lemmas.List.{drop_all}
use Rattle.std.specs.Ordering.{on, nat_cmp}
use Rattle.std.specs.BTreeMap as tree
use Rattle.std.specs.BTreeMap.Range.{entries_between}
use Rattle.std.specs.declared.ops.Bound.TheVariants.{Included}
use Rattle.std.specs.FinMap.{get, empty}
use Rattle.numbers.specs.Subjects.{Number}
use Rattle.settle.specs.Reads.{HasOpenRow}
use Rattle.settle.proofs.Rest.{rest_at}
use Rattle.store.specs.VersionRows.{rows_of}
use Rattle.store.specs.Tables.{content_of, subject_version_cmp, subject_version_of}
use Rattle.store.specs.BlockRows.{tn_of, number_in_force, only_in_force, and_open, marked, marks_of}
use Rattle.store.proofs.BlockListed.{AreMarkedBefore, marked-step, marks-are, all-left, line-marked, line-passed, opened-is, closed-is}
use Rattle.store.proofs.blocks.marks_in_use.Goals as goal
use Rattle.store.proofs.blocks.marks_in_use.Goals.{then-is_some+in_ok-insert-2, else-is_some}

pub loop-key-preserved-in-Some-number_in_force : goal.loop-key-preserved-in-Some-number_in_force
loop-key-preserved-in-Some-number_in_force c =
    let next : c.loop-key.key-iterator ≡ (c.in-Some.key.now, c.in-Some.field-0-1.now)
    ∷ c.next.new.self = search rules in
    let number_is : Some (tn_of c.in-Some-number_in_force.tn) ≡ number_in_force c.args.block.number
    (get (rows_of c.args.tables.now.versions) c.in-Some.key.now.id) = search rules in
    marked-step only_in_force (λ row. row.holds) c.args.block.number (rows_of
    c.args.tables.now.versions)
    (c.in-Some.key.now, c.in-Some.field-0-1.now) c.next.new.self c.loop-key.numbers
    c.insert.new.self c.in-Some-number_in_force.tn
    (record { is_in_force = true; is_open = false }) number_is refl c.in_ok-insert.ensures.updates.0
    ∙ ap (λ es. marked only_in_force (λ row. row.holds) c.args.block.number
    (rows_of c.args.tables.now.versions)
    es (marks_of c.loop-key.numbers)) (sym next) ∙ c.loop-key.invariant

pub returns : goal.returns
returns c =
    let t = c.args.tables.now in
    let in_force : c.into_iter-key-iterator.result ≡ entries_between
    (on subject_version_of subject_version_cmp) (Included c.new.result.start)
    (Included c.new.result.end) t.holds.keys.entries = search rules in
    let end : c.loop-key.key-iterator ≡ [] = search rules in
    let first : marks_of c.loop-key.numbers ≡ marked only_in_force (λ row. row.holds)
    c.args.block.number (rows_of t.versions) c.into_iter-key-iterator.result empty =
    ap (λ es. marked only_in_force (λ row. row.holds) c.args.block.number (rows_of t.versions) es
    (marks_of c.loop-key.numbers)) (sym end) ∙ c.loop-key.invariant in
    marks-are t c.args.block.number c.requires c.new.result.start c.new.result.end (search rules)
    (search rules) c.into_iter-key-iterator.result in_force (marks_of c.loop-key.numbers) first
    (marks_of c.loop-line.numbers)
    (subst (AreMarkedBefore (content_of t) c.args.block.number (marks_of c.loop-key.numbers)
    (marks_of c.loop-line.numbers))
    (drop_all c.loop-line.line-index c.lines_of-line-items.result.now c.loop-line-test.false)
    c.loop-line.invariant)

pub loop-line-init : goal.loop-line-init
loop-line-init c =
    let t = c.args.tables.now in
    let in_force : c.into_iter-key-iterator.result ≡ entries_between
    (on subject_version_of subject_version_cmp) (Included c.new.result.start)
    (Included c.new.result.end) t.holds.keys.entries = search rules in
    let end : c.loop-key.key-iterator ≡ [] = search rules in
    let first : marks_of c.loop-key.numbers ≡ marked only_in_force (λ row. row.holds)
    c.args.block.number (rows_of t.versions) c.into_iter-key-iterator.result empty =
    ap (λ es. marked only_in_force (λ row. row.holds) c.args.block.number (rows_of t.versions) es
    (marks_of c.loop-key.numbers)) (sym end) ∙ c.loop-key.invariant in
    subst (AreMarkedBefore (content_of t) c.args.block.number (marks_of c.loop-key.numbers)
    (marks_of c.loop-key.numbers)) (sym c.lines_of-line-items.ensures)
    (all-left t c.args.block.number c.requires c.new.result.start c.new.result.end (search rules)
    (search rules) c.into_iter-key-iterator.result in_force (marks_of c.loop-key.numbers) first)

pub loop-line-preserved : goal.loop-line-preserved
loop-line-preserved c =
    let content = content_of c.args.tables.now in
    let block = c.args.block.number in
    let items = c.lines_of-line-items.result.now in
    let i = c.loop-line.line-index in
    let first = marks_of c.loop-key.numbers in
    let tn = c.tn-tn.result in
    let left = rest_at items i c.line-item.result c.loop-line-test.true c.line-item.is in
    elim c.if-is_some.branch [
      | then-is_some+in_ok-insert-2 w ↦
          let known : w.copied.result ≡ tree.get (on tn_of nat_cmp) c.loop-line.numbers tn =
          search rules in
          let some : is_some c.open_version.result ≡ true = search rules in
          subst (λ m. AreMarkedBefore content block first (marks_of m) (drop (i + 1) items))
          (sym w.numbers-is)
          (line-marked content block first c.line-item.result (drop i items) (drop (i + 1) items)
          left c.loop-line.numbers w.insert-then-is_some.new.self tn w.and_open-marks.result
          c.tn-tn.ensures
          (opened-is content (Number tn.number) c.open_version.result c.open_version.ensures some)
          (w.and_open-marks.ensures ∙ ap and_open known) w.in_ok-insert-2.ensures.updates.0
          c.loop-line.invariant)
      | else-is_some w ↦
          let none : is_some c.open_version.result ≡ false = search rules in
          subst (λ m. AreMarkedBefore content block first (marks_of m) (drop (i + 1) items))
          (sym w.numbers-is)
          (line-passed content block first c.line-item.result (drop i items) (drop (i + 1) items)
          left (marks_of c.loop-line.numbers)
          (subst (λ n. HasOpenRow content (Number n) → ⊥) c.tn-tn.ensures
          (closed-is content (Number tn.number) c.open_version.result c.open_version.ensures none))
          c.loop-line.invariant)
    ]
