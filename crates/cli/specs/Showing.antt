-- The present windows of a store, written as a windows file.
use Rattle.std.specs.Prelude.{◌≡◌, ℕ, List, Some, Option, option_map}
use Rattle.std.specs.Io.KnownBytes.{Appends}
use Rattle.model.specs.Content.{ClockRow, Content}
use Rattle.version.specs.Abstraction.{set_of}
use Rattle.windows.specs.declared.window.WindowSet.{WindowSet}
use Rattle.cli.specs.WindowsText.{ReadsAs, set_text}

-- Holds if the clock's row of the content has this present set.
abbrev pub HasPresent : Content → WindowSet → Type 0
HasPresent content set =
    option_map (λ (row : ClockRow). row.present) content.clock ≡ Some (set_of set)

-- Holds if the text of the present set was written, and is read as its windows.
pub record ShowsPresent (content : Content) (had has : Option (List ℕ)) : Type 0 where
  pub set : WindowSet
  pub present : HasPresent content set
  pub written : Appends had has (set_text set.number set.windows)
  pub read : ReadsAs (set_text set.number set.windows) set.windows
