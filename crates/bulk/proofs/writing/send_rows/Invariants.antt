use Rattle.std.proofs.Common.{◌≡◌, map, take}
use Rattle.bulk.specs.Files.{AreSent}
use Rattle.bulk.proofs.writing.send_rows.Given as goal

abbrev pub invariant-loop-row : goal.invariant-loop-row
invariant-loop-row g l = record {
  counted : l.count ≡ l.row-index;
  sent : AreSent (g.W.Write.contents l.fn.writer) (g.W.Write.contents l.writer)
      (take l.row-index (map g.L.InLine.text l.rows));
}
