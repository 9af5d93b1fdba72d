-- The first word names the subcommand, and its rule reads the rest.
use Rattle.std.proofs.Common.{◌≡◌, Bool, List, [], ◌∷◌, ◌++◌, Option, Some, option_map, refl, ap, sym, ◌∙◌, append-nil, append_assoc, codes, subst}
use Rattle.std.specs.Prelude.{fold}
use Rattle.clap.specs.Words.{Row, Rule, Text, subcommand_of}
use Rattle.clap.specs.Walk.{Names, Walk, walked, walked_from, walk_from, nothing_held}
use Rattle.clap.specs.Simple.{built, names_of, entered}
use Rattle.clap.proofs.OnLiterals.{clap_on_literals}
use Rattle.command_line.specs.declared.parse.Subcommand.{Subcommand}
use Rattle.command_line.specs.declared.parse.Subcommand.TheVariants as sub
use Rattle.command_line.specs.declared.parse.Parsed.{Parsed}
use Rattle.command_line.specs.declared.parse.Parsed.TheVariants as parsed
use Rattle.command_line.specs.CommandLine.{IsNoLine, IsNoParsedOf, IsParsedOf, IsSubcommand, npacd_app, rows_named, wants_present}

abbrev Stop : Type 0
Stop = Text × List Text

met_again : (c : List Rule) (names : Names) (w : Walk) (p : Stop) (word : Text) → w.stopped ≡ Some p
    → (walked c names w word).stopped ≡ Some (p.0, p.1 ++ word ∷ [])
unfolding walked
met_again c names w p word e = ap (λ (o : Option Stop). (walked_from c names o w word).stopped) e

-- After a subcommand, each word belongs to it.
kept : (c : List Rule) (names : Names) (w : Walk) (p : Stop) (rest : List Text)
    → w.stopped ≡ Some p → (fold (walked c names) w rest).stopped ≡ Some (p.0, p.1 ++ rest)
kept c names w p [] e = e ∙ ap (λ (t : List Text). Some (p.0, t)) (sym (append-nil p.1))
kept c names w p (word ∷ rest) e =
    kept c names (walked c names w word) (p.0, p.1 ++ word ∷ []) rest (met_again c names w p word e)
    ∙ ap (λ (t : List Text). Some (p.0, t)) (append_assoc p.1 (word ∷ []) rest)

-- Holds if the first word is recognized as a subcommand's name.
abbrev IsMet : (present : Bool) → Text → Type 0
IsMet present name =
    (walked (built (npacd_app present)).top.rules (names_of (built (npacd_app present)))
    (walk_from nothing_held)
    name).stopped ≡ Some (name, [])

-- The rule of a recognized name reads the words after it.
entered_at : (present : Bool) (program name : Text) (after : List Text) → IsMet present name
    → subcommand_of (npacd_app present) (program ∷ name ∷ after) ≡ entered (built
    (npacd_app present))
    (Some (name, after))
entered_at present program name after met =
    ap (entered (built (npacd_app present))) (kept (built (npacd_app present)).top.rules
    (names_of (built (npacd_app present))) _
    (name, []) after met)

abbrev Pair : Type 0
Pair = Text × List Row

-- Holds if these are the rows of the named subcommand.
abbrev Reads : (present : Bool) → Text → List Text → List Row → Type 0
Reads present name after rows = entered (built (npacd_app present)) (Some (name, after)) ≡ Some
    (name, rows)
    → rows_named present name after ≡ Some rows

-- A subcommand of this name.
record IsNamed (present : Bool) (name : Text) : Type 0 where
  met : IsMet present name
  reads : (after : List Text) (rows : List Row) → Reads present name after rows

feed_named : (present : Bool) → IsNamed present (codes "feed")
unfolding clap_on_literals
feed_named present =
    record { met = refl; reads = λ after rows e. ap (option_map (λ (p : Pair). p.1)) e }

serve_named : (present : Bool) → IsNamed present (codes "serve")
unfolding clap_on_literals
serve_named present =
    record { met = refl; reads = λ after rows e. ap (option_map (λ (p : Pair). p.1)) e }

bulk_named : (present : Bool) → IsNamed present (codes "bulk")
unfolding clap_on_literals
bulk_named present =
    record { met = refl; reads = λ after rows e. ap (option_map (λ (p : Pair). p.1)) e }

export_named : (present : Bool) → IsNamed present (codes "export")
unfolding clap_on_literals
export_named present =
    record { met = refl; reads = λ after rows e. ap (option_map (λ (p : Pair). p.1)) e }

audit_named : (present : Bool) → IsNamed present (codes "audit")
unfolding clap_on_literals
audit_named present =
    record { met = refl; reads = λ after rows e. ap (option_map (λ (p : Pair). p.1)) e }

windows_named : (present : Bool) → IsNamed present (codes "windows")
unfolding clap_on_literals
windows_named present =
    record { met = refl; reads = λ after rows e. ap (option_map (λ (p : Pair). p.1)) e }

check_named : (present : Bool) → IsNamed present (codes "check")
unfolding clap_on_literals
check_named present =
    record { met = refl; reads = λ after rows e. ap (option_map (λ (p : Pair). p.1)) e }

backup_named : (present : Bool) → IsNamed present (codes "backup")
unfolding clap_on_literals
backup_named present =
    record { met = refl; reads = λ after rows e. ap (option_map (λ (p : Pair). p.1)) e }

repair_named : (present : Bool) → IsNamed present (codes "repair")
unfolding clap_on_literals
repair_named present =
    record { met = refl; reads = λ after rows e. ap (option_map (λ (p : Pair). p.1)) e }

report_named : (present : Bool) → IsNamed present (codes "report")
unfolding clap_on_literals
report_named present =
    record { met = refl; reads = λ after rows e. ap (option_map (λ (p : Pair). p.1)) e }

at_name : (present : Bool) (program literal name : Text) (after : List Text) (rows : List Row)
    → IsNamed present literal
    → name ≡ literal
    → subcommand_of (npacd_app present) (program ∷ name ∷ after) ≡ Some (name, rows)
    → rows_named present name after ≡ Some rows
at_name present program literal name after rows named e found =
    let P : Text
    → Type 0 = λ n. subcommand_of (npacd_app present) (program ∷ n ∷ after) ≡ Some (n, rows) in
    let Q : Text → Type 0 = λ n. rows_named present n after ≡ Some rows in
    subst Q (sym e) (named.reads after rows (sym
    (entered_at present program literal after named.met)
    ∙ subst P e found))

second_same : {p q a b : Text} {xs ys : List Text} → p ∷ a ∷ xs ≡ q ∷ b ∷ ys → a ≡ b
second_same e = cc

rest_same : {p q a b : Text} {xs ys : List Text} → p ∷ a ∷ xs ≡ q ∷ b ∷ ys → xs ≡ ys
rest_same e = cc

some_same : {r s : List Row} → Some r ≡ Some s → r ≡ s
some_same e = cc

-- A name is a subcommand's for any rows that make it one.
pub rows_are_named : (present : Bool) (program name : Text) (after : List Text)
    (told rows : List Row)
    (s : Subcommand) → IsSubcommand name told s
    → subcommand_of (npacd_app present) (program ∷ name ∷ after) ≡ Some (name, rows)
    → rows_named present name after ≡ Some rows
rows_are_named present program name after told rows sub.Feed h found =
    at_name present program (codes "feed") name after rows (feed_named present) h found
rows_are_named present program name after told rows
    (sub.Serve port connections limits log) h found =
    at_name present program (codes "serve") name after rows (serve_named present) h.0 found
rows_are_named present program name after told rows (sub.Bulk strict) h found =
    at_name present program (codes "bulk") name after rows (bulk_named present) h.0 found
rows_are_named present program name after told rows sub.Export h found =
    at_name present program (codes "export") name after rows (export_named present) h found
rows_are_named present program name after told rows (sub.Audit spid) h found =
    at_name present program (codes "audit") name after rows (audit_named present) h.0 found

-- A name is that of what is asked for, for any rows that make it so.
pub rows_are_parsed : (present : Bool) (program name : Text) (after : List Text)
    (told rows : List Row)
    (p : Parsed) → IsParsedOf present name told p
    → subcommand_of (npacd_app present) (program ∷ name ∷ after) ≡ Some (name, rows)
    → rows_named present name after ≡ Some rows
rows_are_parsed present program name after told rows (parsed.Windows line) h found =
    at_name present program (codes "windows") name after rows (windows_named present) h.0 found
rows_are_parsed present program name after told rows (parsed.Check line) h found =
    at_name present program (codes "check") name after rows (check_named present) h.0 found
rows_are_parsed present program name after told rows (parsed.Backup line to) h found =
    at_name present program (codes "backup") name after rows (backup_named present) h.0 found
rows_are_parsed present program name after told rows (parsed.Repair line to) h found =
    at_name present program (codes "repair") name after rows (repair_named present) h.0 found
rows_are_parsed present program name after told rows (parsed.Report line to number) h found =
    at_name present program (codes "report") name after rows (report_named present) h.0 found
rows_are_parsed present program name after told rows (parsed.Line line) h found =
    rows_are_named present program name after told rows line.subcommand h.subcommand found

-- If the rows after a word are no command line, the words are none.
pub no_line : (present : Bool) (program name : Text) (after : List Text) (rows : List Row)
    → subcommand_of (npacd_app present) (program ∷ name ∷ after) ≡ Some (name, rows)
    → present ≡ wants_present (program ∷ name ∷ after) → IsNoParsedOf present name rows
    → IsNoLine (program ∷ name ∷ after)
no_line present program name after rows found wanted none line is =
    let same = is.words_are in
    let name_is : is.name ≡ name = sym (second_same same) in
    let after_is : is.after ≡ after = sym (rest_same same) in
    let line_is : IsParsedOf present is.name is.rows line =
    subst (λ (p : Bool). IsParsedOf p is.name is.rows line) (sym wanted) is.line_is in
    let rows_are : rows_named present is.name is.after ≡ Some is.rows =
    subst (λ (p : Bool). rows_named p is.name is.after ≡ Some is.rows) (sym wanted) is.rows_are in
    let told = subst (λ (n : Text). IsParsedOf present n is.rows line) name_is line_is in
    let named : rows_named present name after ≡ Some rows =
    rows_are_parsed present program name after is.rows rows line told found in
    let other : rows_named present name after ≡ Some is.rows =
    subst (λ (n : Text). rows_named present n after ≡ Some is.rows) name_is
    (subst (λ (a : List Text). rows_named present is.name a ≡ Some is.rows) after_is rows_are) in
    let rows_is : is.rows ≡ rows = some_same (sym other ∙ named) in
    none line (subst (λ (n : Text). IsParsedOf present n rows line) name_is
    (subst (λ (r : List Row). IsParsedOf present is.name r line) rows_is line_is))
