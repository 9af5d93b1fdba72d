-- The windows file that is written for a set of windows.
use Rattle.std.specs.Prelude.{◌≡◌, ℕ, List, [], ◌∷◌, ◌++◌, codes, decimal, None}
use Rattle.toml.specs.Parse.{parse_document}
use Rattle.windows.specs.File.{Gives, fault_of, minutes_of, window_names}
use Rattle.windows.specs.declared.window.Windows.{Windows}

-- The comment with the number of a set.
abbrev pub comment_line : ℕ → List ℕ
comment_line number = codes "# Set " ++ (decimal number ++ 10 ∷ [])

-- The line of a window.
abbrev pub window_line : List ℕ → (minutes : ℕ) → List ℕ
window_line name minutes = name ++ (codes " = " ++ (decimal minutes ++ 10 ∷ []))

-- The lines of windows with these names and minutes.
abbrev pub window_lines : List (List ℕ) → List ℕ → List ℕ
window_lines (name ∷ names) (minutes ∷ others) =
    window_line name minutes ++ window_lines names others
window_lines _ _ = []

-- The text of a set: a comment with its number, and its windows.
abbrev pub set_text : (number : ℕ) → Windows → List ℕ
set_text number windows = comment_line number ++ window_lines window_names (minutes_of windows)

-- Holds if the text is read as a file that defines these windows, without a fault.
pub record ReadsAs (text : List ℕ) (windows : Windows) : Type 0 where
  pub gives : Gives (parse_document text) windows
  pub faultless : fault_of (parse_document text) ≡ None
