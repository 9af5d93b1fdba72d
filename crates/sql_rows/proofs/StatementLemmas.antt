-- The meaning of the texts. Each is compiled once here, to its command if it has no RETURNING and
-- does not read the time; all other facts about it follow from that one computation.
use Rattle.std.proofs.Common.{◌≡◌, ◌∙◌, ℕ, false, if◌then◌else◌, List, [], ◌∷◌, Option, None, Some, Result, Ok, Err, refl, ap, sym, subst}
use Rattle.std.specs.Prelude.{⊤, IfSome}
use Rattle.std.proofs.lemmas.Option.{none-some, same_Some}
use Rattle.sqlite_ast.specs.declared.Statement.{Statement}
use Rattle.sqlite_ast.specs.declared.Statement.TheVariants as written
use Rattle.sqlite_syntax.specs.declared.statement.Parsed.{Parsed}
use Rattle.sqlite_schema.specs.declared.command.Command.{Command}
use Rattle.sqlite_resolve.specs.declared.compiled.Compiled.{Compiled}
use Rattle.sqlite_resolve.specs.declared.error.CompileError.{CompileError}
use Rattle.sqlite_resolve.specs.Lowering.{Checked}
use Rattle.sqlite_resolve.specs.Compile.{compiled, first}
use Rattle.sqlite.specs.Listing.{understood, reads_listing, misses_table, if_select, listing_schema}
use Rattle.sqlite.proofs.Callers.{IsPlain, command_of}
use Rattle.sqlite_tied.specs.Compute.{everything}
use Rattle.sql_rows.specs.Tables.{the_schema}
use Rattle.sql_rows.specs.Statements.{query_text, query_command, delete_text, delete_command, insert_text, insert_command, replace_text, replace_command}
use Rattle.sql_rows.specs.declared.statement.Table.{Table}
use Rattle.sql_rows.specs.declared.statement.Table.TheVariants.{Carrier, Lrn, Code, Block, OldVersion, Broadcast, Wait, OldClock, NextRouting, WindowSet, Version, Clock}
use Rattle.sql_rows.specs.declared.statement.Query.{Query}
use Rattle.sql_rows.specs.declared.statement.Query.TheVariants.{CarrierNamed, LrnNumbered, CodeNumbered, BlockNumbered, ClockNumbered, WindowSetNumbered, NextRoutingNumbered, VersionNumbered, OldVersionNumbered, VersionInForce, VersionOpen, VersionDue, BroadcastKeyed, All, BroadcastsByOpen, WaitsAbout, WaitsFor, WaitsFirst, WaitsOf, WaitOfAnother, InForceAmong, OpenAmong}

-- The command, if it has no RETURNING and does not read the time.
abbrev bare : {R F : Type 0} → Option R → List F → Command → Option Command
bare None [] command = Some command
bare _ _ command = None

abbrev plain_command : Result Compiled CompileError → Option Command
plain_command (Ok c) = bare c.returning c.formats c.command
plain_command (Err e) = None

bare_is : {R F : Type 0} (returning : Option R) (formats : List F) (found command : Command)
    → bare returning formats found ≡ Some command
    → (found ≡ command) × ((returning ≡ None) × (formats ≡ []))
bare_is None [] found command is = (same_Some found command is, (refl, refl))
bare_is None (f ∷ fs) found command is = absurd (none-some command is)
bare_is (Some r) fs found command is = absurd (none-some command is)

-- Facts about a text, from the command that it compiles to.
module _ (text : List ℕ) (command : Command)
    (compiles : plain_command (compiled the_schema text) ≡ Some command) where
  unlisted : reads_listing the_schema text ≡ false
  unlisted = by_cases (compiled the_schema text) compiles where
    by_cases : (x : Result Compiled CompileError) → plain_command x ≡ Some command
        → misses_table x ≡ false
    by_cases (Ok c) is = refl
    by_cases (Err e) is = absurd (none-some command is)

  same : understood the_schema text ≡ compiled the_schema text
  unfolding understood
  same = ap
      (λ b. if b then if_select (compiled listing_schema text) else compiled the_schema text)
      unlisted

  means : command_of (understood the_schema text) ≡ command
  means = ap command_of same ∙ by_cases (compiled the_schema text) compiles where
    by_cases : (x : Result Compiled CompileError) → plain_command x ≡ Some command
        → command_of x ≡ command
    by_cases (Ok c) is = (bare_is c.returning c.formats c.command command is).0
    by_cases (Err e) is = absurd (none-some command is)

  plain : IsPlain (understood the_schema text)
  plain = subst IsPlain (sym same) (by_cases (compiled the_schema text) compiles) where
    by_cases : (x : Result Compiled CompileError) → plain_command x ≡ Some command → IsPlain x
    by_cases (Ok c) is = (bare_is c.returning c.formats c.command command is).1
    by_cases (Err e) is = absurd (none-some command is)

-- ---- queries

query_compiles : (q : Query)
    → plain_command (compiled the_schema (query_text q)) ≡ Some (query_command q)
unfolding compiled everything
query_compiles CarrierNamed = refl
query_compiles LrnNumbered = refl
query_compiles CodeNumbered = refl
query_compiles BlockNumbered = refl
query_compiles ClockNumbered = refl
query_compiles WindowSetNumbered = refl
query_compiles NextRoutingNumbered = refl
query_compiles VersionNumbered = refl
query_compiles OldVersionNumbered = refl
query_compiles VersionInForce = refl
query_compiles VersionOpen = refl
query_compiles VersionDue = refl
query_compiles BroadcastKeyed = refl
query_compiles (All Carrier) = refl
query_compiles (All Lrn) = refl
query_compiles (All Code) = refl
query_compiles (All Block) = refl
query_compiles (All OldVersion) = refl
query_compiles (All Broadcast) = refl
query_compiles (All Wait) = refl
query_compiles (All OldClock) = refl
query_compiles (All NextRouting) = refl
query_compiles (All WindowSet) = refl
query_compiles (All Version) = refl
query_compiles (All Clock) = refl
query_compiles BroadcastsByOpen = refl
query_compiles WaitsAbout = refl
query_compiles WaitsFor = refl
query_compiles WaitsFirst = refl
query_compiles WaitsOf = refl
query_compiles WaitOfAnother = refl
query_compiles InForceAmong = refl
query_compiles OpenAmong = refl

pub query_is : (q : Query) → command_of (understood the_schema (query_text q)) ≡ query_command q
query_is q = means (query_text q) (query_command q) (query_compiles q)

pub query_plain : (q : Query) → IsPlain (understood the_schema (query_text q))
query_plain q = plain (query_text q) (query_command q) (query_compiles q)

pub query_unlisted : (q : Query) → reads_listing the_schema (query_text q) ≡ false
query_unlisted q = unlisted (query_text q) (query_command q) (query_compiles q)

-- Holds if the statement is a query.
abbrev pub IsSelect : Statement → Type 0
IsSelect (written.Select s) = ⊤
IsSelect _ = ⊥

abbrev pub Selects : Checked Parsed → Type 0
Selects (Ok p) = IsSelect p.statement
Selects (Err e) = ⊤

-- Each text begins with a query, whatever tables there are.
pub query_selects : (q : Query) → Selects (first (query_text q))
unfolding first everything
query_selects CarrierNamed = tt
query_selects LrnNumbered = tt
query_selects CodeNumbered = tt
query_selects BlockNumbered = tt
query_selects ClockNumbered = tt
query_selects WindowSetNumbered = tt
query_selects NextRoutingNumbered = tt
query_selects VersionNumbered = tt
query_selects OldVersionNumbered = tt
query_selects VersionInForce = tt
query_selects VersionOpen = tt
query_selects VersionDue = tt
query_selects BroadcastKeyed = tt
query_selects (All Carrier) = tt
query_selects (All Lrn) = tt
query_selects (All Code) = tt
query_selects (All Block) = tt
query_selects (All OldVersion) = tt
query_selects (All Broadcast) = tt
query_selects (All Wait) = tt
query_selects (All OldClock) = tt
query_selects (All NextRouting) = tt
query_selects (All WindowSet) = tt
query_selects (All Version) = tt
query_selects (All Clock) = tt
query_selects BroadcastsByOpen = tt
query_selects WaitsAbout = tt
query_selects WaitsFor = tt
query_selects WaitsFirst = tt
query_selects WaitsOf = tt
query_selects WaitOfAnother = tt
query_selects InForceAmong = tt
query_selects OpenAmong = tt

-- ---- rows deleted and inserted

delete_compiles : (t : Table)
    → plain_command (compiled the_schema (delete_text t)) ≡ Some (delete_command t)
unfolding compiled everything
delete_compiles Carrier = refl
delete_compiles Lrn = refl
delete_compiles Code = refl
delete_compiles Block = refl
delete_compiles OldVersion = refl
delete_compiles Broadcast = refl
delete_compiles Wait = refl
delete_compiles OldClock = refl
delete_compiles NextRouting = refl
delete_compiles WindowSet = refl
delete_compiles Version = refl
delete_compiles Clock = refl

pub delete_is : (t : Table) → command_of (understood the_schema (delete_text t)) ≡ delete_command t
delete_is t = means (delete_text t) (delete_command t) (delete_compiles t)

pub delete_plain : (t : Table) → IsPlain (understood the_schema (delete_text t))
delete_plain t = plain (delete_text t) (delete_command t) (delete_compiles t)

insert_compiles : (t : Table)
    → plain_command (compiled the_schema (insert_text t)) ≡ Some (insert_command t)
unfolding compiled everything
insert_compiles Carrier = refl
insert_compiles Lrn = refl
insert_compiles Code = refl
insert_compiles Block = refl
insert_compiles OldVersion = refl
insert_compiles Broadcast = refl
insert_compiles Wait = refl
insert_compiles OldClock = refl
insert_compiles NextRouting = refl
insert_compiles WindowSet = refl
insert_compiles Version = refl
insert_compiles Clock = refl

pub insert_is : (t : Table) → command_of (understood the_schema (insert_text t)) ≡ insert_command t
insert_is t = means (insert_text t) (insert_command t) (insert_compiles t)

pub insert_plain : (t : Table) → IsPlain (understood the_schema (insert_text t))
insert_plain t = plain (insert_text t) (insert_command t) (insert_compiles t)

replace_compiles : (t : Table) → IfSome (replace_text t)
    (λ text. plain_command (compiled the_schema text) ≡ Some (replace_command t))
unfolding compiled everything
replace_compiles Carrier = refl
replace_compiles Lrn = refl
replace_compiles Code = refl
replace_compiles Block = refl
replace_compiles OldVersion = tt
replace_compiles Broadcast = refl
replace_compiles Wait = refl
replace_compiles OldClock = tt
replace_compiles NextRouting = refl
replace_compiles WindowSet = refl
replace_compiles Version = tt
replace_compiles Clock = refl

module _ (t : Table) (text : List ℕ) (is : replace_text t ≡ Some text) where
  replaces_by : plain_command (compiled the_schema text) ≡ Some (replace_command t)
  replaces_by = subst
      (λ o. IfSome o (λ text. plain_command (compiled the_schema text) ≡ Some (replace_command t)))
      is (replace_compiles t)

  pub replace_is : command_of (understood the_schema text) ≡ replace_command t
  replace_is = means text (replace_command t) replaces_by

  pub replace_plain : IsPlain (understood the_schema text)
  replace_plain = plain text (replace_command t) replaces_by
