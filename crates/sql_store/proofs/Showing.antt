-- A write shows no row, whatever the schema of the database.
use Rattle.std.proofs.Common.{◌≡◌, ℕ, List, Bool, true, false, Option, None, Ok, Err, refl, sym, subst, true≢false}
use Rattle.std.specs.Prelude.{if◌then◌else◌, IsSome}
use Rattle.sqlite_ast.specs.declared.Statement.{Statement}
use Rattle.sqlite_ast.specs.declared.Statement.TheVariants as written
use Rattle.sqlite_syntax.specs.declared.statement.Parsed.{Parsed}
use Rattle.sqlite_schema.specs.declared.command.Command.{Command}
use Rattle.sqlite_schema.specs.declared.command.Returning.{Returning}
use Rattle.sqlite_schema.specs.declared.schema.Schema.{Schema}
use Rattle.sqlite_resolve.specs.declared.compiled.Compiled.{Compiled}
use Rattle.sqlite_resolve.specs.declared.error.CompileError.TheVariants.{NoSuchTable}
use Rattle.sqlite_resolve.specs.Lowering.{Checked, and_then}
use Rattle.sqlite_resolve.specs.Compile.{compiled, first, planned, meaning, returning, with_command}
use Rattle.sqlite.specs.Listing.{understood, reads_listing, if_select, is_select, listing_schema}
use Rattle.sqlite.specs.Order.{Row}
use Rattle.sqlite.specs.State.{State, CommitsShowing}
use Rattle.sqlite.specs.Tree.{Trees}
use Rattle.sql_rows.proofs.StatementLemmas.{IsSelect, Selects}

-- Holds if a write shows nothing.
abbrev pub ShowsNone : Checked Compiled → Type 0
ShowsNone (Ok c) = c.returning ≡ None
ShowsNone (Err e) = Unit {0}

abbrev MeansNone : Checked (Command × Option Returning) → Type 0
MeansNone (Ok found) = found.1 ≡ None
MeansNone (Err e) = Unit {0}

meant : (schema : Schema) (base : ℕ) (s : Statement) (c : Checked Command) → IsSelect s
    → MeansNone (and_then (returning schema base s) (λ shown. and_then c (λ k. Ok (k, shown))))
unfolding returning
meant schema base (written.Select q) (Ok k) is = refl
meant schema base (written.Select q) (Err e) is = tt
meant schema base _ c bad = absurd bad

planned_none : (p : Parsed) (formats : List (List ℕ)) (found : Checked (Command × Option Returning))
    → MeansNone found
    → ShowsNone (and_then (and_then found (λ f. Ok (formats, f)))
    (λ plan. Ok (with_command p plan)))
planned_none p formats (Ok found) none = none
planned_none p formats (Err e) none = tt

shown_none : (schema : Schema) (p : Parsed) → IsSelect p.statement
    → ShowsNone (and_then (planned schema p) (λ plan. Ok (with_command p plan)))
unfolding planned meaning
shown_none schema p is = planned_none p _ _ (meant schema _ p.statement _ is)

compiled_none : (schema : Schema) (text : List ℕ) → Selects (first text)
    → ShowsNone (compiled schema text)
unfolding compiled
compiled_none schema text selects = by_cases (first text) selects
  where
    by_cases : (r : Checked Parsed) → Selects r
        → ShowsNone
        (and_then r (λ p. and_then (planned schema p) (λ plan. Ok (with_command p plan))))
    by_cases (Ok p) is = shown_none schema p is
    by_cases (Err e) is = tt

pub understood_none : (schema : Schema) (text : List ℕ) → Selects (first text)
    → ShowsNone (understood schema text)
unfolding understood
understood_none schema text selects = by_cases (reads_listing schema text)
  where
    chosen : (b : Bool) (c : Compiled) → ShowsNone (Ok c)
        → ShowsNone (if b then Ok c else Err NoSuchTable)
    chosen true c none = none
    chosen false c none = tt

    listed : (r : Checked Compiled) → ShowsNone r → ShowsNone (if_select r)
    listed (Ok c) none = chosen (is_select c.command) c none
    listed (Err e) none = tt

    by_cases : (b : Bool) → ShowsNone (if b then if_select (compiled listing_schema text)
        else compiled schema text)
    by_cases true =
        listed (compiled listing_schema text) (compiled_none listing_schema text selects)
    by_cases false = compiled_none schema text selects

pub never_shows : (text : List ℕ) (params : Row) (s : State) (db : Trees) → Selects (first text)
    → ¬ CommitsShowing text params s db
unfolding CommitsShowing
never_shows text params s db selects h = let none : h.0.returning ≡ None =
    subst ShowsNone h.1.is (understood_none s.now.schema text selects) in
    absurd (true≢false (sym (subst IsSome none h.2)))
