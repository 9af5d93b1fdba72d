-- What is written of a page.
use Rattle.std.specs.Prelude.{◌≡◌, ◌⊎◌, ◌++◌, ℕ, List, Option, codes}
use Rattle.std.specs.Io.KnownBytes.{Appends, Keeps}
use Rattle.http_messages.specs.Sending.{AppendsPrefix}

-- Holds if the text begins and ends as a page.
abbrev pub IsPage : List ℕ → Type 0
IsPage text = (inside : List ℕ)
    × (text ≡ codes "<!DOCTYPE html>\n<html lang=\"en\">\n" ++ (inside ++ codes "</html>\n"))

-- Holds if a page was appended.
abbrev pub AppendsPage : (had has : Option (List ℕ)) → Type 0
AppendsPage had has = (text : List ℕ) × IsPage text × Appends had has text

-- Holds if nothing was appended, or a prefix of a page.
abbrev pub AppendsPart : (had has : Option (List ℕ)) → Type 0
AppendsPart had has = Keeps had has
    ⊎ ((text : List ℕ) × IsPage text × AppendsPrefix had has text)
