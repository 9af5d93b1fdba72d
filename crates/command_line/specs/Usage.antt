-- Why words are no command line: help, a mistake, or a failed allocation.
use Rattle.std.specs.Prelude.{◌≡◌, ◌≢◌, ◌⊎◌, ℕ, Bool, true, false, List, codes}
use Rattle.clap.specs.Faults.{fault_of}
use Rattle.clap.specs.Kinds.{IsAmong}
use Rattle.clap.specs.declared.error.kind.ErrorKind.{ErrorKind}
use Rattle.clap.specs.declared.error.kind.ErrorKind.TheVariants as kind
use Rattle.command_line.specs.CommandLine.{IsAccepted, IsNoLine, npacd_app, wants_present, wants_snapshot}

-- Holds for the statuses of a usage: help, a mistake, or a failed allocation.
abbrev pub IsUsage : ℕ → Type 0
IsUsage status = (status ≡ 0) ⊎ (status ≡ 2) ⊎ (status ≡ 3)

-- Holds for the statuses of a mistake in the words and of a failed allocation.
abbrev pub IsMistake : ℕ → Type 0
IsMistake status = (status ≡ 2) ⊎ (status ≡ 3)

-- Holds if the words ask for help or for the version, by the rule of `clap`.
abbrev pub AsksForHelp : List (List ℕ) → Type 0
AsksForHelp words = IsAmong kind.DisplayHelp (fault_of (npacd_app (wants_present words)) words)
    ⊎ IsAmong kind.DisplayVersion (fault_of (npacd_app (wants_present words)) words)

-- Holds if `clap` refuses the words, and not only to show help or the version.
abbrev pub IsRefused : List (List ℕ) → Type 0
IsRefused words = (why : ErrorKind) × IsAmong why (fault_of (npacd_app (wants_present words)) words)
    × (why ≢ kind.DisplayHelp) × (why ≢ kind.DisplayVersion)

-- Holds if `clap` accepts the words, and yet they are no command line: `clap` takes a sign before a
-- number, `--windows` beside `--present-windows`, and `--snapshot` without `--db`.
abbrev pub IsAcceptedOnly : List (List ℕ) → Type 0
IsAcceptedOnly words = IsAccepted words × IsNoLine words

-- The text for such words.
abbrev pub mistake_text : (present snapshot : Bool) → List ℕ
mistake_text true snapshot =
    codes "error: --windows stands beside --present-windows, or a number is not in digits\n"
mistake_text false true = codes "error: --snapshot stands without --db\n"
mistake_text false false = codes "error: a number is written in digits\n"

-- Holds if the text explains what is wrong with the words. What `clap` writes is not known.
abbrev pub ExplainsMistake : (words : List (List ℕ)) → (text : List ℕ) → Type 0
ExplainsMistake words text = IsRefused words
    ⊎ (IsAcceptedOnly words
    × (text ≡ mistake_text (wants_present words) (wants_snapshot words)))
