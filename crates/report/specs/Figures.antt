-- The figures of a register.
use Rattle.std.specs.Prelude.{◌≡◌, ℕ, Option, Some, option_map}
use Rattle.numbers.specs.declared.tn.Tn.{Tn}
use Rattle.model.specs.Content.{Content}
use Rattle.settle.specs.Abstraction.{clock_row_of}
use Rattle.report.specs.Carriers.{DescribeCarriers}
use Rattle.report.specs.Counts.{AreCounts}
use Rattle.report.specs.Life.{AreSent, AreVersionsOf}
use Rattle.report.specs.declared.figures.Figures.{Figures}

abbrev pub number_of : Option Tn → Option ℕ
number_of tn = option_map (λ (t : Tn). t.number) tn

-- Holds if the figures are the content's, as of its clock's row.
pub record AreFigures (c : Content) (asked : Option Tn) (figures : Figures) : Type 0 where
  pub clock : c.clock ≡ Some (clock_row_of figures.clock)
  pub versions : AreCounts c figures.clock.minute.number figures.clock.next_id figures.versions
  pub carriers : DescribeCarriers c figures.carriers.items
  pub number : figures.life.number ≡ asked
  pub life : AreVersionsOf c (number_of asked) figures.clock.next_id figures.life.versions.items
  pub sent : AreSent c figures.life.versions.items figures.life.sent.items
