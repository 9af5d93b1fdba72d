use Rattle.std.proofs.Common.{◌∙◌, subst}
use Rattle.std.specs.Io.KnownBytes.{Appends}
use Rattle.cli.proofs.checking.show_rows.Goals as goal

pub returns-in-Ok-send_all-clause-shows : goal.returns-in-Ok-send_all-clause-shows
returns-in-Ok-send_all-clause-shows g c = λ usable. record {
  judges = c.in-Ok.ensures.value usable;
  written = subst (Appends (g.W.Write.contents c.args.writer.now)
      (g.W.Write.contents c.send_all.new.writer))
      (c.as_bytes.ensures.value ∙ c.in-Ok-rows_line.ensures) c.in-Ok-send_all.ensures.ok;
}
