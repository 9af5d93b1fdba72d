use Rattle.std.proofs.Common.{◌∙◌, subst}
use Rattle.std.specs.Io.KnownBytes.{Appends}
use Rattle.cli.specs.WindowsText.{ReadsAs}
use Rattle.cli.proofs.showing.show_present.Goals as goal

pub returns-in-Ok-send_all-clause-shows : goal.returns-in-Ok-send_all-clause-shows
returns-in-Ok-send_all-clause-shows g c = λ usable. record {
  set = c.in-Ok.set;
  present = c.in-Ok.ensures.value usable;
  written = subst (Appends (g.W.Write.contents c.args.writer.now)
      (g.W.Write.contents c.send_all.new.writer))
      (c.as_bytes.ensures.value ∙ c.in-Ok-set_text.ensures.text) c.in-Ok-send_all.ensures.ok;
  read = subst (λ t. ReadsAs t c.in-Ok.set.windows) c.in-Ok-set_text.ensures.text
      c.in-Ok-set_text.ensures.reads;
}
