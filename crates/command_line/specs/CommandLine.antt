-- The command line: what the rule of `clap` reads from the words.
use Rattle.std.specs.Prelude.{◌≡◌, ℕ, nat_lt, Bool, true, false, not, List, ◌∷◌, [], codes, Option, Some, None, option_map, option_and_then, unwrap_or, IsSome, find, if◌then◌else◌}
use Rattle.clap.specs.declared.builder.action.ArgAction.TheVariants.{SetTrue}
use Rattle.clap.specs.declared.builder.value_parser.ValueParser.TheVariants.{Unsigned}
use Rattle.std.specs.List.{list_any}
use Rattle.std.specs.Option.{option_map_or}
use Rattle.std.specs.Str.{bytes_eq}
use Rattle.http_messages.specs.Fields.{number_of}
use Rattle.numbers.specs.Texts.{tn_text}
use Rattle.numbers.specs.declared.tn.Tn.{Tn}
use Rattle.clap.specs.Walk.{answers_to, rows_after}
use Rattle.clap.specs.Simple.{built, label_of}
use Rattle.clap.specs.Faults.{fault_of}
use Rattle.clap.specs.Words.{App, Row, Rule, Text, first_of, new_app, new_rule, with_rule, with_subcommand}
use Rattle.command_line.specs.declared.parse.ServeLimits.{ServeLimits}
use Rattle.command_line.specs.declared.parse.Subcommand.{Subcommand}
use Rattle.command_line.specs.declared.parse.Subcommand.TheVariants as sub
use Rattle.command_line.specs.declared.parse.CommandLine.{CommandLine}
use Rattle.command_line.specs.declared.parse.FileLine.{FileLine}
use Rattle.command_line.specs.declared.parse.Parsed.{Parsed}
use Rattle.command_line.specs.declared.parse.Parsed.TheVariants as parsed
use Rattle.command_line.specs.declared.parse.WindowsSource.{WindowsSource}
use Rattle.command_line.specs.declared.parse.WindowsSource.TheVariants as source

-- The rule of an option `--id`, which may be required.
abbrev pub option_rule : Text → Bool → Rule
option_rule id required = record (new_rule id) {
  long = Some id;
  value_names = 1;
  required = required;
}

-- The rule of an option whose value is a whole number from 1 to `most`.
abbrev pub number_rule : Text → (most : ℕ) → Bool → Rule
number_rule id most required = record (option_rule id required) { parser = Some (Unsigned 1 most) }

-- The rule of a flag `--id`.
abbrev pub flag_rule : Text → Rule
flag_rule id = record (new_rule id) { long = Some id; action = Some SetTrue }

-- `a` with the options that say where the windows are: in a file of theirs, which is required, or,
-- if `present`, in the database.
abbrev pub with_sources : (present : Bool) → App → App
with_sources present a = with_rule (with_rule a (option_rule (codes "windows") (not present)))
    (flag_rule (codes "present-windows"))

-- `a` with the options of a database, which is required or not.
abbrev pub with_database : (required : Bool) → App → App
with_database required a = with_rule (with_rule (with_rule a (option_rule (codes "db") required))
    (flag_rule (codes "existing"))) (option_rule (codes "explain") false)

-- A subcommand with the options that each subcommand over a register has.
abbrev pub plain_app : (present : Bool) → Text → App
plain_app present name = with_rule (with_database present (with_rule (with_sources present
    (new_app name)) (option_rule (codes "feed") false))) (flag_rule (codes "progress"))

-- `a` with the options that limit connections, and how many messages share a commit.
abbrev pub with_limits : App → App
with_limits a =
    with_rule (with_rule (with_rule (with_rule (with_rule a
    (number_rule (codes "at-once") 1024 false))
    (number_rule (codes "group") 256 false))
    (number_rule (codes "message-limit") 65535 false))
    (number_rule (codes "idle-limit") 65535 false))
    (number_rule (codes "sending-limit") 65535 false)

abbrev pub serve_app : (present : Bool) → App
serve_app present =
    with_limits (with_rule (with_rule (with_rule (plain_app present (codes "serve"))
    (number_rule (codes "port") 65535 true)) (number_rule (codes "connections") 65535 false))
    (option_rule (codes "log") false))

-- A subcommand that only reads the register.
abbrev pub reading_app : (present : Bool) → Text → App
reading_app present name = with_rule (plain_app present name) (flag_rule (codes "snapshot"))

abbrev pub audit_app : (present : Bool) → App
audit_app present =
    with_rule (reading_app present (codes "audit")) (option_rule (codes "spid") true)

abbrev pub bulk_app : (present : Bool) → App
bulk_app present = with_rule (plain_app present (codes "bulk")) (flag_rule (codes "strict"))

-- A subcommand over an existing database, which opens no register.
abbrev pub file_app : Text → App
file_app name = with_database true (new_app name)

-- Such a subcommand that writes a file too.
abbrev pub writing_app : Text → App
writing_app name = with_rule (file_app name) (option_rule (codes "to") true)

abbrev pub report_app : App
report_app = with_rule (writing_app (codes "report")) (option_rule (codes "number") false)

abbrev pub with_wanted_subcommand : App → App
with_wanted_subcommand a = record a { top = record a.top { subcommand_required = true } }

abbrev pub with_version : App → App
with_version a = record a { top = record a.top { has_version = true } }

-- `a` with the subcommands that serve messages added.
abbrev pub with_serving : (present : Bool) → App → App
with_serving present a =
    with_subcommand (with_subcommand a (plain_app present (codes "feed")).top)
    (serve_app present).top

-- `a` with the subcommands that read and write files added.
abbrev pub with_files : (present : Bool) → App → App
with_files present a =
    with_subcommand (with_subcommand (with_subcommand a (bulk_app present).top)
    (reading_app present (codes "export")).top) (audit_app present).top

-- `a` with the subcommands that open no register added.
abbrev pub with_inspection : App → App
with_inspection a =
    with_subcommand (with_subcommand (with_subcommand (with_subcommand (with_subcommand a
    (file_app (codes "windows")).top) (file_app (codes "check")).top)
    (writing_app (codes "backup")).top) (writing_app (codes "repair")).top) report_app.top

-- The whole command. `present` says whether `--present-windows` is given.
abbrev pub npacd_app : (present : Bool) → App
npacd_app present =
    with_inspection (with_files present (with_serving present (with_wanted_subcommand
    (with_version (new_app (codes "npacd"))))))

-- Whether a flag is given.
abbrev pub has_flag : Text → List Row → Bool
has_flag id rows = option_map_or (λ text. bytes_eq text (codes "true")) (first_of id rows) false

-- A number, if it is below 2^16.
abbrev pub small_number : Option ℕ → Option ℕ
small_number o = option_and_then (λ n. if nat_lt n 65536 then Some n else None) o

-- The number below 2^16 that an option's value has in digits.
abbrev pub number_under : Text → List Row → Option ℕ
number_under id rows = small_number (option_and_then number_of (first_of id rows))

-- Holds if this is the number of an option, or none if the option is not given.
abbrev pub IsNumberIfAny : Text → List Row → Option ℕ → Type 0
IsNumberIfAny id rows None = first_of id rows ≡ None
IsNumberIfAny id rows (Some n) = number_under id rows ≡ Some n

-- Holds if an option is given, but not with such a number.
abbrev pub IsNoNumber : Text → List Row → Type 0
IsNoNumber id rows = (number : Option ℕ) → ¬ (IsNumberIfAny id rows number)

-- Holds if this is the number of an option, or the default if the option is not given.
abbrev pub IsNumberOr : Text → (default : ℕ) → List Row → ℕ → Type 0
IsNumberOr id default rows n =
    (given : Option ℕ) × IsNumberIfAny id rows given × (n ≡ unwrap_or given default)

-- Holds if these are the limits of connections: 128 at once, 256 messages in a commit, 10 seconds
-- for a message, 30 between messages, and 10 until further bytes are taken, where the options do
-- not say it.
pub record AreLimits (rows : List Row) (limits : ServeLimits) : Type 0 where
  pub at_once : IsNumberOr (codes "at-once") 128 rows limits.at_once
  pub group : IsNumberOr (codes "group") 256 rows limits.group
  pub message : IsNumberOr (codes "message-limit") 10 rows limits.message
  pub idle : IsNumberOr (codes "idle-limit") 30 rows limits.idle
  pub sending : IsNumberOr (codes "sending-limit") 10 rows limits.sending

abbrev pub AreNoLimits : List Row → Type 0
AreNoLimits rows = (limits : ServeLimits) → ¬ (AreLimits rows limits)

-- Holds if the name and the rows are this subcommand's.
abbrev pub IsSubcommand : Text → List Row → Subcommand → Type 0
IsSubcommand name rows sub.Feed = name ≡ codes "feed"
IsSubcommand name rows (sub.Bulk strict) =
    (name ≡ codes "bulk") × (strict ≡ has_flag (codes "strict") rows)
IsSubcommand name rows sub.Export = name ≡ codes "export"
IsSubcommand name rows (sub.Audit spid) =
    (name ≡ codes "audit") × (first_of (codes "spid") rows ≡ Some spid.now)
IsSubcommand name rows (sub.Serve port connections limits log) =
    (name ≡ codes "serve") × (number_under (codes "port") rows ≡ Some port)
    × IsNumberIfAny (codes "connections") rows connections × AreLimits rows limits
    × (first_of (codes "log") rows ≡ option_map (λ s. s.now) log)

-- Holds if the name and the rows are no subcommand's.
abbrev pub IsNoSubcommand : Text → List Row → Type 0
IsNoSubcommand name rows = (subcommand : Subcommand) → ¬ (IsSubcommand name rows subcommand)

-- Holds if the windows are there: in their file, or, if `present`, in the database.
abbrev pub AreWindowsIn : (present : Bool) → List Row → WindowsSource → Type 0
AreWindowsIn present rows (source.File path) =
    (present ≡ false) × (first_of (codes "windows") rows ≡ Some path.now)
AreWindowsIn present rows (source.Database path) =
    (present ≡ true) × (first_of (codes "windows") rows ≡ None)
    × (first_of (codes "db") rows ≡ Some path.now)

abbrev pub AreNoWindows : (present : Bool) → List Row → Type 0
AreNoWindows present rows = (source : WindowsSource) → ¬ (AreWindowsIn present rows source)

pub record IsLineOf (present : Bool) (name : Text) (rows : List Row)
    (line : CommandLine) : Type 0 where
  pub subcommand : IsSubcommand name rows line.subcommand
  pub windows : AreWindowsIn present rows line.windows
  pub feed : first_of (codes "feed") rows ≡ option_map (λ s. s.now) line.feed
  pub db : first_of (codes "db") rows ≡ option_map (λ s. s.now) line.db
  pub existing : line.existing ≡ has_flag (codes "existing") rows
  pub explain : first_of (codes "explain") rows ≡ option_map (λ s. s.now) line.explain
  pub progress : line.progress ≡ has_flag (codes "progress") rows
  pub snapshot : line.snapshot ≡ has_flag (codes "snapshot") rows
  pub copied : line.snapshot ≡ true → IsSome line.db

abbrev pub IsNoLineOf : (present : Bool) → Text → List Row → Type 0
IsNoLineOf present name rows = (line : CommandLine) → ¬ (IsLineOf present name rows line)

-- Holds if the rows name this database, and say where a fault is explained.
pub record IsOverFile (rows : List Row) (line : FileLine) : Type 0 where
  pub db : first_of (codes "db") rows ≡ Some line.db.now
  pub explain : first_of (codes "explain") rows ≡ option_map (λ s. s.now) line.explain

abbrev pub IsOverNoFile : List Row → Type 0
IsOverNoFile rows = (line : FileLine) → ¬ (IsOverFile rows line)

-- Holds if this is the telephone number of `--number`, or none if the option is not given.
abbrev pub IsTnIfAny : List Row → Option Tn → Type 0
IsTnIfAny rows None = first_of (codes "number") rows ≡ None
IsTnIfAny rows (Some tn) = first_of (codes "number") rows ≡ Some (tn_text tn.number)

abbrev pub IsNoTn : List Row → Type 0
IsNoTn rows = (number : Option Tn) → ¬ (IsTnIfAny rows number)

-- Holds if the name and the rows ask for this.
abbrev pub IsParsedOf : (present : Bool) → Text → List Row → Parsed → Type 0
IsParsedOf present name rows (parsed.Windows line) =
    (name ≡ codes "windows") × IsOverFile rows line
IsParsedOf present name rows (parsed.Check line) = (name ≡ codes "check") × IsOverFile rows line
IsParsedOf present name rows (parsed.Backup line to) =
    (name ≡ codes "backup") × IsOverFile rows line × (first_of (codes "to") rows ≡ Some to.now)
IsParsedOf present name rows (parsed.Repair line to) =
    (name ≡ codes "repair") × IsOverFile rows line × (first_of (codes "to") rows ≡ Some to.now)
IsParsedOf present name rows (parsed.Report line to number) =
    (name ≡ codes "report") × IsOverFile rows line × (first_of (codes "to") rows ≡ Some to.now)
    × IsTnIfAny rows number
IsParsedOf present name rows (parsed.Line line) = IsLineOf present name rows line

abbrev pub IsNoParsedOf : (present : Bool) → Text → List Row → Type 0
IsNoParsedOf present name rows = (parsed : Parsed) → ¬ (IsParsedOf present name rows parsed)

-- The rows that the rule of the named subcommand reads from the words after it.
abbrev pub rows_named : (present : Bool) → Text → List Text → Option (List Row)
rows_named present name words =
    option_map (λ s. rows_after s.rules [] words) (find (λ s. answers_to name (label_of s))
    (built (npacd_app present)).subs)

-- Whether `--present-windows` is among the words.
abbrev pub wants_present : List Text → Bool
wants_present words = list_any (λ word. bytes_eq word (codes "--present-windows")) words

-- Whether `--snapshot` is among the words.
abbrev pub wants_snapshot : List Text → Bool
wants_snapshot words = list_any (λ word. bytes_eq word (codes "--snapshot")) words

-- Holds if `clap` finds no fault in the words: no unknown option, no value out of its range,
-- nothing missing, and nothing that asks for help.
abbrev pub IsAccepted : List Text → Type 0
IsAccepted words = fault_of (npacd_app (wants_present words)) words ≡ []

-- Holds if the words ask for this: `clap` accepts them, the first after the program's name is the
-- subcommand, and its rule reads the values from the words after it.
pub record IsLine (words : List Text) (parsed : Parsed) : Type 0 where
  pub accepted : IsAccepted words
  pub program : Text
  pub name : Text
  pub after : List Text
  pub rows : List Row
  pub words_are : words ≡ program ∷ name ∷ after
  pub rows_are : rows_named (wants_present words) name after ≡ Some rows
  pub line_is : IsParsedOf (wants_present words) name rows parsed

-- Holds if the words are no command line.
abbrev pub IsNoLine : List Text → Type 0
IsNoLine words = (parsed : Parsed) → ¬ (IsLine words parsed)

-- Holds if the second word is `name`.
abbrev pub HasSecond : List Text → Text → Type 0
HasSecond words name = (program : Text) × (after : List Text) × (words ≡ program ∷ name ∷ after)
