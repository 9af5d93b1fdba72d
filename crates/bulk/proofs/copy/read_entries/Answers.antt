use Rattle.std.proofs.Common.{List, inl, refl, subst, sym}
use Rattle.csv.specs.Records.{fields_of}
use Rattle.delivery.specs.declared.mirror.RoutedRow.{RoutedRow}
use Rattle.bulk.proofs.Copied.{Reading, begins, reads_bad, reads_end, reads_entry}
use Rattle.bulk.proofs.copy.read_entries.Goals as goal

pub loop-row-init : goal.loop-row-init
loop-row-init g c = record {
  plain = c.requires;
  passes = λ rows has. subst (λ (es : List RoutedRow). Reading g.R.Read.remaining rows
      c.args.reader.now es) (sym c.new-entries.ensures.items) (begins g.R.Read.remaining rows
      c.args.reader.now has);
}

pub returns-in-None-clause-other : goal.returns-in-None-clause-other
returns-in-None-clause-other g c =
    inl (
      refl,
      λ rows has.
          let takes = rw c.in-Ok-true.field-0-test at c.in-Ok-true.ensures.takes in
          reads_bad g.R.Read.remaining rows c.loop-row.reader c.next_row.new.reader
          c.loop-row.entries.items (fields_of c.next_row.new.row) takes c.in-None.ensures.none
          (c.loop-row.invariant.passes rows has),
    )

pub returns-in-Ok-false-clause-entries : goal.returns-in-Ok-false-clause-entries
returns-in-Ok-false-clause-entries g c = λ rows has.
    let takes = rw c.in-Ok-false.field-0-test at c.in-Ok-false.ensures.takes in
    reads_end g.R.Read.remaining rows c.loop-row.reader c.next_row.new.reader
    c.loop-row.entries.items (fields_of c.next_row.new.row) takes (c.loop-row.invariant.passes rows
    has)

pub loop-row-preserved : goal.loop-row-preserved
loop-row-preserved g c = record {
  plain = c.in-Ok-true.ensures.plain c.in-Ok-true.field-0-test;
  passes = λ rows has.
      let takes = rw c.in-Ok-true.field-0-test at c.in-Ok-true.ensures.takes in
      subst (λ (es : List RoutedRow). Reading g.R.Read.remaining rows c.next_row.new.reader es)
      (sym c.in-Ok.ensures.items)
      (reads_entry g.R.Read.remaining rows c.loop-row.reader c.next_row.new.reader
      c.loop-row.entries.items (fields_of c.next_row.new.row) c.in-Some.entry takes
      c.in-Some.ensures.some (c.loop-row.invariant.passes rows has));
}
