-- How the program ends.
use Rattle.std.proofs.Common.{◌≡◌, ◌⊎◌, ℕ, ◌≤◌, Bool, true, false, List, Option, Result, Ok, Err, arith, inl, inr, refl, subst, sym}
use Rattle.std.specs.Borrow.{Bor}
use Rattle.std.specs.Prelude.{IfErr, OnOk}
use Rattle.bulk.specs.Noting.{ReportsNoting}
use Rattle.bulk.specs.declared.fault.BulkFault.{BulkFault}
use Rattle.settle.specs.Reads.{HasDeviceFailed}
use Rattle.register.specs.declared.register.OpenFault.{OpenFault}
use Rattle.register.specs.declared.register.OpenFault.TheVariants as opening
use Rattle.command_line.specs.CommandLine.{IsLine}
use Rattle.command_line.specs.declared.parse.CommandLine.{CommandLine}
use Rattle.command_line.specs.declared.parse.Parsed.{Parsed}
use Rattle.cli.specs.Faults.{IsOfListening, IsOfSubcommand, JudgesRows, MayEnd, MayEndAs, MayEndLine, MayEndListening, IsOfOpening, outcome_of_commands}
use Rattle.command_line.specs.declared.parse.ServeLimits.{ServeLimits}
use Rattle.command_line.specs.declared.parse.Subcommand.{Subcommand}
use Rattle.command_line.specs.declared.parse.Subcommand.TheVariants as sub
use Rattle.cli.specs.Listening.{IsBeforeServing}
use Rattle.command_line.specs.Usage.{AsksForHelp, ExplainsMistake, IsUsage}
use Rattle.cli.specs.Reporting.{Ends, ReportsHelp, ReportsOutcome, ReportsUsage}
use Rattle.cli.specs.declared.fault.Fault.{Fault}
use Rattle.cli.specs.declared.fault.Fault.TheVariants as fault

module _ (words : List (List ℕ)) (had has : Option (List ℕ)) (status : ℕ) where
  asked : (text : List ℕ) (wrote written : Option (List ℕ)) → AsksForHelp words
      → ReportsHelp text wrote written had has status → Ends words had has status
  asked text wrote written help (inl (is, shown, kept)) = inl (is, inr help, kept)
  asked text wrote written help (inr reported) =
      inr (inl (fault.Write, inr (inl (help, refl)), reported))

  pub usage_ends : (wanted : ℕ) (text : List ℕ) (wrote written : Option (List ℕ)) → IsUsage wanted
      → (wanted ≡ 0 → AsksForHelp words)
      → (wanted ≡ 2 → ExplainsMistake words text)
      → ReportsUsage wanted text wrote written had has status
      → Ends words had has status
  usage_ends wanted text wrote written (inl zero) help mistake reported =
      asked text wrote written (help zero) (reported.help zero)
  usage_ends wanted text wrote written (inr (inl two)) help mistake reported =
      inr (inr (text, mistake two, reported.mistake two))
  usage_ends wanted text wrote written (inr (inr three)) help mistake reported =
      inr (inl (fault.NoMemory, inr (inr refl), reported.memory three))

  -- The command line was executed, or failed.
  pub outcome_ends : (line : Parsed) → IsLine words line → (o : Result (Unit {0}) Fault)
      → IfErr o (MayEndAs line) → ReportsOutcome o had has status → Ends words had has status
  outcome_ends line is (Ok done) may reported = inl (reported.0, inl (line, is), reported.1)
  outcome_ends line is (Err f) may reported = inr (inl (f, inl (line, is, may), reported))

-- A fault that comes before serving is not `storage`.
pub never_storage : (r : Result (Unit {0}) Fault) (f : Fault) (was is : ℕ) → r ≡ Err f
    → IsBeforeServing f
    → IfErr r (λ x. x ≡ fault.Open opening.Storage → HasDeviceFailed was is)
never_storage r f was is e before =
    subst (λ (o : Result (Unit {0}) Fault). IfErr o
    (λ x. x ≡ fault.Open opening.Storage → HasDeviceFailed was is)) (sym e)
    (λ at. absurd (subst IsBeforeServing at before))

never_failed : (was is : ℕ) → was ≤ is → HasDeviceFailed was is → is ≡ 0 → ⊥
never_failed was is rises failed zero = grind arith

-- Serving connections over a register, without a failure of its device.
module _ (line : CommandLine) (port : ℕ) (connections : Option ℕ) (limits : ServeLimits)
    (log : Option (Bor (List ℕ))) (serves : line.subcommand ≡ sub.Serve port connections limits log)
    (was is : ℕ) (rises : was ≤ is) (zero : is ≡ 0) where
  by_serving : (f : Fault) → IsOfListening f → IsOfSubcommand line.subcommand f
  by_serving f may = subst (λ (s : Subcommand). IsOfSubcommand s f) (sym serves) may

  pub serving_ends : (r : Result (Unit {0}) Fault) → IfErr r MayEndListening
      → IfErr r (λ f. f ≡ fault.Open opening.Storage → HasDeviceFailed was is)
      → IfErr r (MayEnd line)
  serving_ends (Ok done) may storage = tt
  serving_ends (Err fault.Listen) may storage = inr (by_serving fault.Listen tt)
  serving_ends (Err fault.Write) may storage = inr (by_serving fault.Write tt)
  serving_ends (Err fault.Read) may storage = tt
  serving_ends (Err fault.NoMemory) may storage = tt
  serving_ends (Err (fault.Open opening.Storage)) may storage =
      absurd (never_failed was is rises (storage refl) zero)
  serving_ends (Err (fault.Open opening.WindowsDiffer)) may storage = absurd may
  serving_ends (Err (fault.Open opening.NoMemory)) may storage = absurd may
  serving_ends (Err (fault.Windows refused)) may storage = absurd may
  serving_ends (Err (fault.Message refused)) may storage = absurd may
  serving_ends (Err (fault.File refused)) may storage = absurd may
  serving_ends (Err fault.RowsRefused) may storage = absurd may

-- A run of a file of commands ends as its report says.
pub rows_judged : (strict noted : Bool) (had has : Option (List ℕ)) (ran : Result ℕ BulkFault)
    → OnOk ran (ReportsNoting had has noted)
    → JudgesRows strict had has (outcome_of_commands strict ran noted)
rows_judged true noted had has (Err refused) reports = tt
rows_judged false noted had has (Err refused) reports = tt
rows_judged true true had has (Ok lines) reports = reports
rows_judged true false had has (Ok lines) reports = reports
rows_judged false noted had has (Ok lines) reports = tt

-- A fault of executing a command line over its own file.
pub line_ends : (line : CommandLine) (r : Result (Unit {0}) Fault) → IfErr r (MayEnd line)
    → IfErr r (MayEndLine line)
line_ends line (Ok done) may = tt
line_ends line (Err refused) may = inl may

-- A fault of opening is a refusal to open.
pub by_opening : (P : Fault → Type 0) → ((refused : OpenFault) → P (fault.Open refused))
    → (f : Fault) → IsOfOpening f → P f
by_opening P may (fault.Open refused) is = may refused
by_opening P may (fault.Windows refused) is = absurd is
by_opening P may (fault.Message refused) is = absurd is
by_opening P may (fault.File refused) is = absurd is
by_opening P may fault.RowsRefused is = absurd is
by_opening P may fault.Listen is = absurd is
by_opening P may fault.Read is = absurd is
by_opening P may fault.Write is = absurd is
by_opening P may fault.NoMemory is = absurd is

-- Work over a file ends with its own fault, or with one of opening or closing the file.
pub work_ends : {A : Type 0} (P : Fault → Type 0) (r : Result A Fault)
    → ((refused : OpenFault) → P (fault.Open refused))
    → IfErr r (λ f. P f ⊎ IsOfOpening f) → IfErr r P
work_ends P (Ok done) may ends = tt
work_ends P (Err f) may (inl own) = own
work_ends P (Err f) may (inr is) = by_opening P may f is
