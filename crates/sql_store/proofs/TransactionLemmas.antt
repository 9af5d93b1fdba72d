-- The texts that begin and end transactions, and statements in a transaction.
use Rattle.std.proofs.Common.{◌≡◌, ◌⊎◌, inl, inr, ◌∙◌, ℕ, length, List, [], Bool, true, false, IsTrue, Option, None, Some, Result, Ok, Err, refl, sym, ap, subst, true≢false, arith}
use Rattle.std.specs.Prelude.{if◌then◌else◌, codes, IfOk, IfSome, MatchBool, OnErr, OnOk, not, ◌==◌, ◌&&◌, ◌+◌}
use Rattle.std.proofs.lemmas.Bool.{cases_Bool}
use Rattle.sqlite_ast.specs.declared.Conflict.TheVariants as conflict
use Rattle.sqlite_ast.specs.declared.Statement.{Statement}
use Rattle.sqlite_ast.specs.declared.Statement.TheVariants as written
use Rattle.sqlite_syntax.specs.declared.statement.Parsed.{Parsed}
use Rattle.sqlite_schema.specs.declared.command.Command.{Command}
use Rattle.sqlite_schema.specs.declared.command.Command.TheVariants.{Select, Insert, InsertOr, Update, Delete, CreateTable, CreateIndex, DropTable, DropIndex, Begin, Commit, Rollback, Savepoint as Save, Release, RollbackTo, Nothing, CreateView, DropView, Rows}
use Rattle.sqlite_schema.specs.declared.command.Returning.{Returning}
use Rattle.sqlite_schema.specs.declared.schema.Schema.{Schema}
use Rattle.sqlite_resolve.specs.declared.compiled.Compiled.{Compiled}
use Rattle.sqlite_resolve.specs.declared.error.CompileError.TheVariants.{NoSuchTable, Misuse, Unsupported}
use Rattle.sqlite_resolve.specs.Lowering.{Checked, and_then}
use Rattle.sqlite_resolve.specs.Body.{table_at}
use Rattle.sqlite_resolve.specs.Program.{program}
use Rattle.sqlite_resolve.specs.Write.{deleted}
use Rattle.sqlite_resolve.specs.Given.{upserts}
use Rattle.sqlite_resolve.specs.Define as define
use Rattle.sqlite_resolve.specs.Compile.{command, compiled, create_index, create_table, creates, delete, first, insert, insert_or, insert_or_abort, is_attached, is_reserved, meaning, new_rows, on_table, planned, returning, small, target, with_command}
use Rattle.sqlite_resolve.specs.Compile.{timed as formats_in}
use Rattle.sqlite_schema.specs.Names.{table_named, index_named, view_named}
use Rattle.sqlite_schema.specs.declared.schema.Table.{Table as SqlTable}
use Rattle.sqlite_schema.specs.declared.command.Conflict.{Conflict}
use Rattle.sqlite_schema.specs.declared.command.Conflict.TheVariants as how
use Rattle.sqlite_ast.specs.declared.Expr.{Expr}
use Rattle.sqlite_ast.specs.declared.Rows as written_rows
use Rattle.sqlite_ast.specs.declared.Upsert.{Upsert}
use Rattle.sqlite_ast.specs.declared.CreateTable as written_table
use Rattle.sqlite_ast.specs.declared.CreateIndex as written_index
use Rattle.std.specs.Option.{option_or}
use Rattle.sqlite_tied.specs.Compute.{everything}
use Rattle.sqlite.specs.Clock.{timed}
use Rattle.sqlite.specs.declared.error.Error.{Error}
use Rattle.sqlite.specs.declared.error.Error.TheVariants.{ExecuteReturnedResults}
use Rattle.sqlite.specs.Effect.{Database}
use Rattle.sqlite.specs.Listing.{understood, reads_listing, if_select, is_select, listing_schema, misses_table}
use Rattle.sqlite.specs.Order.{Row}
use Rattle.sqlite.specs.State.{State, CommitsBy, Executes, ExecutesIn, ExecutesInside, HasCleanDisk, IsMisplaced, IsNotRun, IsRolledBack, IsUnchanged, MayChange, MayCommit, MayWrite, Runs, RunsCommand, Shows, Survives, shows_rows, text_of}
use Rattle.sqlite.specs.Tree.{Trees}
use Rattle.sqlite.proofs.StateLemmas.{survives_weaker}
use Rattle.sql_rows.specs.declared.migration.NewTable.{NewTable}
use Rattle.sql_rows.specs.declared.migration.NewTable.TheVariants as made
use Rattle.sql_rows.specs.declared.migration.OldTable.{OldTable}
use Rattle.sql_rows.specs.declared.migration.OldTable.TheVariants as former
use Rattle.sql_rows.specs.declared.statement.Table.{Table}
use Rattle.sql_rows.specs.declared.statement.Table.TheVariants.{Carrier, Lrn, Code, Block, OldVersion, Broadcast, Wait, OldClock, NextRouting, WindowSet, Version, Clock}
use Rattle.sql_rows.specs.Migration.{clear_text, create_text, index_text}
use Rattle.sql_rows.specs.Statements.{delete_text, insert_text, replace_text}
use Rattle.sql_store.specs.Transactions.{HasEnded, IsUndone, Stays, StaysInside}

-- ---- the texts that stay in a transaction

-- Holds if the statement writes rows, or creates a table or an index.
abbrev Alters : Statement → Type 0
Alters (written.Insert conflict.Abort name columns rows clauses shown) = Unit {0}
Alters (written.Insert conflict.Replace name columns rows clauses shown) = Unit {0}
Alters (written.Delete name test shown) = Unit {0}
Alters (written.CreateTable def) = Unit {0}
Alters (written.CreateIndex def) = Unit {0}
Alters _ = ⊥

after : {A B : Type 0} (P : A → Type 0) (Q : B → Type 0) (r : Checked A) (f : A → Checked B)
    → IfOk r P → ((a : A) → P a → IfOk (f a) Q) → IfOk (and_then r f) Q
after P Q (Ok a) f is all = all a is
after P Q (Err e) f is all = tt

-- Any value before it.
next : {A B : Type 0} (Q : B → Type 0) (r : Checked A) (f : A → Checked B)
    → ((a : A) → IfOk (f a) Q) → IfOk (and_then r f) Q
next Q (Ok a) f all = all a
next Q (Err e) f all = tt

either : {A : Type 0} (Q : A → Type 0) (b : Bool) (one other : Checked A) → IfOk one Q
    → IfOk other Q → IfOk (if b then one else other) Q
either Q true one other is also = is
either Q false one other is also = also

on_table_stays : (schema : Schema) (name : List ℕ) (f : ℕ → SqlTable → Checked Command)
    → ((at : ℕ) (table : SqlTable) → IfOk (f at table) Stays) → IfOk (on_table schema name f) Stays
on_table_stays schema name f all =
    next Stays (target schema name) (λ at. and_then (table_at schema at) (f at))
    (λ at. next Stays (table_at schema at) (f at) (all at))

insert_stays_so : (schema : Schema) (base : ℕ) (name : List ℕ) (columns : List (List ℕ))
    (rows : written_rows.Rows) → IfOk (insert schema base name columns rows) Stays
unfolding insert
insert_stays_so schema base name columns rows =
    on_table_stays schema name
    (λ at table. and_then (new_rows schema table base columns rows) (λ s. Ok (Insert at s)))
    (λ at table. next Stays (new_rows schema table base columns rows) (λ s. Ok (Insert at s))
    (λ s. tt))

insert_or_stays : (schema : Schema) (base : ℕ) (way : Conflict) (name : List ℕ)
    (columns : List (List ℕ)) (rows : written_rows.Rows) (clauses : List Upsert)
    → IfOk (insert_or schema base way name columns rows clauses) Stays
unfolding insert_or
insert_or_stays schema base way name columns rows clauses =
    on_table_stays schema name
    (λ at table. and_then (new_rows schema table base columns rows) (λ s.
    and_then (upserts schema at table base clauses) (λ found. Ok (InsertOr at way s found))))
    (λ at table. next Stays (new_rows schema table base columns rows) (λ s.
    and_then (upserts schema at table base clauses) (λ found. Ok (InsertOr at way s found)))
    (λ s. next Stays (upserts schema at table base clauses)
    (λ found. Ok (InsertOr at way s found)) (λ found. tt)))

insert_or_abort_stays : (schema : Schema) (base : ℕ) (name : List ℕ) (columns : List (List ℕ))
    (rows : written_rows.Rows) (clauses : List Upsert)
    → IfOk (insert_or_abort schema base name columns rows clauses) Stays
unfolding insert_or_abort
insert_or_abort_stays schema base name columns rows clauses =
    either Stays (length clauses == 0) (insert schema base name columns rows)
    (insert_or schema base how.Abort name columns rows clauses)
    (insert_stays_so schema base name columns rows)
    (insert_or_stays schema base how.Abort name columns rows clauses)

delete_stays_so : (schema : Schema) (name : List ℕ) (test : Option Expr)
    → IfOk (delete schema name test) Stays
unfolding delete
delete_stays_so schema name test =
    on_table_stays schema name
    (λ at table. and_then (deleted schema at table test) (λ d.
    and_then (program schema [] d) (λ p. Ok (Delete at p))))
    (λ at table. next Stays (deleted schema at table test) (λ d.
    and_then (program schema [] d) (λ p. Ok (Delete at p)))
    (λ d. next Stays (program schema [] d) (λ p. Ok (Delete at p)) (λ p. tt)))

create_table_stays : (schema : Schema) (formats : List (List ℕ)) (def : written_table.CreateTable)
    → IfOk (create_table schema formats def) Stays
unfolding create_table
create_table_stays schema formats def = by_cases (is_attached schema def.name)
    (creates def.if_missing def.name
    (option_or (table_named schema def.name) (view_named schema def.name))
    (index_named schema def.name))
  where
    made_so : (b : Bool) → IfOk (if b then Ok CreateTable else Err Unsupported) Stays
    made_so true = tt
    made_so false = tt

    new_so : (b : Bool) → IfOk
        (if b then and_then (define.table formats def) (λ t. if length t.computed
        == length t.stamps.places && not def.resolves then Ok CreateTable else Err Unsupported)
        else Ok Nothing) Stays
    new_so true = next Stays (define.table formats def) (λ t. if length t.computed
        == length t.stamps.places && not def.resolves then Ok CreateTable else Err Unsupported)
        (λ t. made_so (length t.computed == length t.stamps.places && not def.resolves))
    new_so false = tt

    by_cases : (b : Bool) (r : Checked Bool) → IfOk (if b then Err Unsupported else and_then r
        (λ is_new. if is_new then and_then (define.table formats def) (λ t. if length t.computed
        == length t.stamps.places && not def.resolves then Ok CreateTable else Err Unsupported)
        else Ok Nothing)) Stays
    by_cases true r = tt
    by_cases false (Ok b) = new_so b
    by_cases false (Err e) = tt

create_index_stays : (schema : Schema) (def : written_index.CreateIndex)
    → IfOk (create_index schema def) Stays
unfolding create_index
create_index_stays schema def = by_cases (is_reserved def.table)
  where
    new_so : (at : ℕ) (table : SqlTable) (b : Bool) → IfOk
        (if b then and_then (define.index table def) (λ _. Ok (CreateIndex at)) else Ok Nothing)
        Stays
    new_so at table true =
        next Stays (define.index table def) (λ _. Ok (CreateIndex at)) (λ i. tt)
    new_so at table false = tt

    free : Checked Bool
    free = creates def.if_missing def.name (index_named schema def.name)
        (option_or (table_named schema def.name) (view_named schema def.name))

    by_cases : (b : Bool) → IfOk (if b then Err Misuse else and_then (target schema def.table)
        (λ at. and_then (table_at schema at) (λ table. and_then free (λ is_new. if is_new then
        and_then (define.index table def) (λ _. Ok (CreateIndex at)) else Ok Nothing)))) Stays
    by_cases true = tt
    by_cases false = on_table_stays schema def.table (λ at table. and_then free (λ is_new. if is_new
        then and_then (define.index table def) (λ _. Ok (CreateIndex at)) else Ok Nothing))
        (λ at table. next Stays free (λ is_new. if is_new then
        and_then (define.index table def) (λ _. Ok (CreateIndex at)) else Ok Nothing)
        (new_so at table))

commanded : (schema : Schema) (formats : List (List ℕ)) (base : ℕ) (s : Statement) → Alters s
    → IfOk (command schema formats base s) Stays
unfolding command
commanded schema formats base (written.Insert conflict.Abort name columns rows clauses shown) is =
    insert_or_abort_stays schema base name columns rows clauses
commanded schema formats base (written.Insert conflict.Replace name columns rows clauses shown) is =
    insert_or_stays schema base how.Replace name columns rows clauses
commanded schema formats base (written.Delete name test shown) is =
    delete_stays_so schema name test
commanded schema formats base (written.CreateTable def) is = create_table_stays schema formats def
commanded schema formats base (written.CreateIndex def) is = create_index_stays schema def
commanded schema formats base _ bad = absurd bad

abbrev CompiledStays : Compiled → Type 0
CompiledStays c = Stays c.command

meant : (schema : Schema) (p : Parsed) (base : ℕ) → Alters p.statement
    → IfOk (meaning schema p base) (λ f. Stays f.0)
unfolding meaning
meant schema p base alters =
    next (λ (f : Command × Option Returning). Stays f.0) (returning schema base p.statement)
    (λ shown. and_then (command schema p.formats base p.statement) (λ c. Ok (c, shown)))
    (λ shown. after Stays (λ (f : Command × Option Returning). Stays f.0)
    (command schema p.formats base p.statement) (λ c. Ok (c, shown))
    (commanded schema p.formats base p.statement alters) (λ k stays. stays))

planned_stays : (schema : Schema) (p : Parsed) → Alters p.statement
    → IfOk (planned schema p) (λ plan. Stays plan.1.0)
unfolding planned
planned_stays schema p alters =
    let formats = formats_in schema p.formats p.statement in
    after (λ (f : Command × Option Returning). Stays f.0)
    (λ (plan : List (List ℕ) × (Command × Option Returning)). Stays plan.1.0)
    (meaning schema p (small p.names + small formats)) (λ found. Ok (formats, found))
    (meant schema p (small p.names + small formats) alters) (λ found stays. stays)

compiled_stays : (schema : Schema) (text : List ℕ) → IfOk (first text) (λ p. Alters p.statement)
    → IfOk (compiled schema text) CompiledStays
unfolding compiled
compiled_stays schema text is =
    after (λ (p : Parsed). Alters p.statement) CompiledStays (first text)
    (λ p. and_then (planned schema p) (λ plan. Ok (with_command p plan))) is
    (λ p alters. after (λ (plan : List (List ℕ) × (Command × Option Returning)). Stays plan.1.0)
    CompiledStays (planned schema p) (λ plan. Ok (with_command p plan))
    (planned_stays schema p alters) (λ plan stays. stays))

stays_inside : (text : List ℕ) → IfOk (first text) (λ p. Alters p.statement) → StaysInside text
unfolding understood
stays_inside text is schema =
    either CompiledStays (reads_listing schema text) (if_select (compiled listing_schema text))
    (compiled schema text)
    (listed (compiled listing_schema text) (compiled_stays listing_schema text is))
    (compiled_stays schema text is)
  where
    listed : (r : Checked Compiled) → IfOk r CompiledStays → IfOk (if_select r) CompiledStays
    listed (Ok c) stays = either CompiledStays (is_select c.command) (Ok c) (Err NoSuchTable) stays
        tt
    listed (Err e) stays = tt

delete_alters : (t : Table) → IfOk (first (delete_text t)) (λ p. Alters p.statement)
unfolding first everything
delete_alters Carrier = tt
delete_alters Lrn = tt
delete_alters Code = tt
delete_alters Block = tt
delete_alters OldVersion = tt
delete_alters Broadcast = tt
delete_alters Wait = tt
delete_alters OldClock = tt
delete_alters NextRouting = tt
delete_alters WindowSet = tt
delete_alters Version = tt
delete_alters Clock = tt

insert_alters : (t : Table) → IfOk (first (insert_text t)) (λ p. Alters p.statement)
unfolding first everything
insert_alters Carrier = tt
insert_alters Lrn = tt
insert_alters Code = tt
insert_alters Block = tt
insert_alters OldVersion = tt
insert_alters Broadcast = tt
insert_alters Wait = tt
insert_alters OldClock = tt
insert_alters NextRouting = tt
insert_alters WindowSet = tt
insert_alters Version = tt
insert_alters Clock = tt

replace_alters : (t : Table) → IfSome (replace_text t)
    (λ text. IfOk (first text) (λ p. Alters p.statement))
unfolding first everything
replace_alters Carrier = tt
replace_alters Lrn = tt
replace_alters Code = tt
replace_alters Block = tt
replace_alters OldVersion = tt
replace_alters Broadcast = tt
replace_alters Wait = tt
replace_alters OldClock = tt
replace_alters NextRouting = tt
replace_alters WindowSet = tt
replace_alters Version = tt
replace_alters Clock = tt

create_alters : (t : NewTable) → IfOk (first (create_text t)) (λ p. Alters p.statement)
unfolding first everything
create_alters made.NextRouting = tt
create_alters made.WindowSet = tt
create_alters made.Version = tt
create_alters made.Clock = tt

index_alters : IfOk (first index_text) (λ p. Alters p.statement)
unfolding first everything
index_alters = tt

clear_alters : (t : OldTable) → IfOk (first (clear_text t)) (λ p. Alters p.statement)
unfolding first everything
clear_alters former.Version = tt
clear_alters former.Clock = tt

pub delete_stays : (t : Table) → StaysInside (delete_text t)
delete_stays t = stays_inside (delete_text t) (delete_alters t)

pub insert_stays : (t : Table) → StaysInside (insert_text t)
insert_stays t = stays_inside (insert_text t) (insert_alters t)

pub replace_stays : (t : Table) (text : List ℕ) → replace_text t ≡ Some text → StaysInside text
replace_stays t text is = stays_inside text (subst
    (λ o. IfSome o (λ text. IfOk (first text) (λ p. Alters p.statement))) is (replace_alters t))

pub create_stays : (t : NewTable) → StaysInside (create_text t)
create_stays t = stays_inside (create_text t) (create_alters t)

pub index_stays : StaysInside index_text
index_stays = stays_inside index_text index_alters

pub clear_stays : (t : OldTable) → StaysInside (clear_text t)
clear_stays t = stays_inside (clear_text t) (clear_alters t)

-- ---- a statement in a transaction

module _ (sql : List ℕ) (params : Row) (old new : State) where
  -- A statement that fails changes nothing, or rolls back.
  pub fails_so : (e : Error) → Executes sql params old new (Err e)
      → IsUnchanged old new ⊎ IsRolledBack old new
  unfolding ExecutesIn IsNotRun
  fails_so e (inl (inl unrun)) = inl unrun.1
  fails_so e (inl (inr fails)) = inr fails.3
  fails_so e (inr h) = by_cases (shows_rows false h.0) h.2
    where
      full : Row
      full = timed params h.0.formats h.1.now

      by_cases : (b : Bool)
          → MatchBool b
          ((◌≡◌ {A = Result ℕ Error} (Err e) (Err ExecuteReturnedResults)) × IsUnchanged old new)
          (RunsCommand old new sql h.0 full (Err e)) → IsUnchanged old new ⊎ IsRolledBack old new
      by_cases true it = inl it.1
      by_cases false (inl it) = inl it.1
      by_cases false (inr it) = inr it.3

  module _ (stays : StaysInside sql) (inside : IsTrue old.in_transaction) where
    wrote : (committed now : Database)
        → Shows old new now (if old.in_transaction then committed else now) old.in_transaction
        → Shows old new now committed true
    wrote committed now =
        subst (λ b. Shows old new now (if b then committed else now) b
        → Shows old new now committed true) (sym inside) (λ s. s)

    stayed : Shows old new old.now old.committed old.in_transaction
        → Shows old new new.now old.committed true
    stayed s = record {
      was_open = s.was_open;
      is_open = s.is_open;
      now_is = refl;
      committed_is = s.committed_is;
      mode = s.mode ∙ inside;
    }

    ran : (returning : Option Returning) (k : Command) (text : List ℕ) (row : Row) (count : ℕ)
        → Stays k → Runs old new returning k text row count
        → Shows old new new.now old.committed true
    ran returning (Select q names) text row count is h = absurd h
    ran returning (Insert at from) text row count is h = wrote old.committed new.now h.shown
    ran returning (InsertOr at how from clauses) text row count is h =
        wrote old.committed new.now h.shown
    ran returning (Update at q) text row count is h = wrote old.committed new.now h.shown
    ran returning (Delete at q) text row count is h = wrote old.committed new.now h.shown
    ran returning CreateTable text row count is h = wrote old.committed new.now h.shown
    ran returning (CreateIndex at) text row count is h = wrote old.committed new.now h.shown
    ran returning (DropTable at) text row count is h = wrote old.committed new.now h.shown
    ran returning (DropIndex at) text row count is h = wrote old.committed new.now h.shown
    ran returning Begin text row count is h = absurd is
    ran returning Commit text row count is h = absurd is
    ran returning Rollback text row count is h = absurd is
    ran returning (Save name) text row count is h = absurd is
    ran returning (Release name) text row count is h = absurd is
    ran returning (RollbackTo name) text row count is h = absurd is
    ran returning (Rows values width names) text row count is h = stayed h.0.0
    ran returning Nothing text row count is h = stayed h.0.0
    ran returning CreateView text row count is h = wrote old.committed new.now h.shown
    ran returning (DropView at) text row count is h = wrote old.committed new.now h.shown

    command_stays : (c : Compiled) → understood old.now.schema sql ≡ Ok c → Stays c.command
    command_stays c is = subst (λ r. IfOk r CompiledStays) is (stays old.now.schema)

    pub executes_inside : (r : Result ℕ Error) → Executes sql params old new r
        → ExecutesInside 0 sql params old new r
    unfolding ExecutesIn
    executes_inside (Ok count) h =
        let full = timed params h.0.formats h.1.now in
        let runs : Runs old new h.0.returning h.0.command (text_of sql h.0) full count =
        elim (cases_Bool (shows_rows false h.0)) [
          | inl shows ↦ absurd (let e = (rw shows at h.2).0 in cc)
          | inr runs ↦ rw runs at h.2
        ] in (
          h,
          ran h.0.returning h.0.command (text_of sql h.0) full count
              (command_stays h.0 h.1.is) runs,
          λ _. refl,
        )
    executes_inside (Err e) h = inl (h, fails_so e h)

    never_commits : (db : Trees) → ¬ CommitsBy sql params old db
    unfolding CommitsBy
    never_commits db (c, it, inl (inl is, _)) = subst Stays is (command_stays c it.is)
    never_commits db (c, it, inl (inr named, _)) = subst Stays named.2 (command_stays c it.is)
    never_commits db (c, it, inr writes) = true≢false (sym inside ∙ writes.0)

    pub inside_survives : Survives old new (CommitsBy sql params old) → Survives old new (λ _. ⊥)
    inside_survives = survives_weaker old new _ _ (λ _ db h. absurd (never_commits db h))

-- ---- the texts that begin and end a transaction

-- The meaning of a text that is one command of `length` bytes.
abbrev alone : Command → ℕ → Compiled
alone k length = record {
  command = k;
  returning = None;
  names = [];
  formats = [];
  start = 0;
  end = length;
  tail = length;
}

begin_compiles : (schema : Schema) → compiled schema (codes "BEGIN") ≡ Ok (alone Begin 5)
unfolding compiled everything
begin_compiles schema = refl

commit_compiles : (schema : Schema) → compiled schema (codes "COMMIT") ≡ Ok (alone Commit 6)
unfolding compiled everything
commit_compiles schema = refl

roll_back_compiles : (schema : Schema) → compiled schema (codes "ROLLBACK") ≡ Ok (alone Rollback 8)
unfolding compiled everything
roll_back_compiles schema = refl

understood_as : (schema : Schema) (text : List ℕ) (c : Compiled) → compiled schema text ≡ Ok c
    → understood schema text ≡ Ok c
unfolding understood
understood_as schema text c is =
    ap (λ b. if b then if_select (compiled listing_schema text) else compiled schema text)
    (ap misses_table is) ∙ is

-- Holds of a command that ends or begins a transaction.
abbrev Turns : Command → Type 0
Turns Begin = Unit {0}
Turns Commit = Unit {0}
Turns Rollback = Unit {0}
Turns _ = ⊥

module _ (text : List ℕ) (k : Command) (turns : Turns k) (old new : State)
    (is : understood old.now.schema text ≡ Ok (alone k (length text))) where
  same_compiled : (c : Compiled) → understood old.now.schema text ≡ Ok c
      → c ≡ alone k (length text)
  same_compiled c it = cc

  not_shown : (k : Command) → Turns k → shows_rows false (alone k (length text)) ≡ false
  not_shown Begin is = refl
  not_shown Commit is = refl
  not_shown Rollback is = refl
  not_shown _ bad = absurd bad

  no_change : (k : Command) → Turns k → ¬ MayChange (alone k (length text))
  no_change Begin is (inl bad) = bad
  no_change Begin is (inr bad) = true≢false (sym bad)
  no_change Commit is (inl bad) = bad
  no_change Commit is (inr bad) = true≢false (sym bad)
  no_change Rollback is (inl bad) = bad
  no_change Rollback is (inr bad) = true≢false (sym bad)
  no_change _ bad change = bad

  -- The command was executed.
  turned : (count : ℕ) → Executes text [] old new (Ok count)
      → Runs old new None k (text_of text (alone k (length text))) [] count
  unfolding ExecutesIn
  turned count h =
      let same = same_compiled h.0 h.1.is in
      rw (same, not_shown k turns) at h.2

  -- The command was refused, or failed, which rolls back.
  stopped : (e : Error) → Executes text [] old new (Err e)
      → (IsMisplaced old k e × IsUnchanged old new) ⊎ IsRolledBack old new
  unfolding ExecutesIn IsNotRun
  stopped e (inl (inl (inl (fault, bad, _), _))) = absurd cc
  stopped e (inl (inl (inr (c, it, why), _))) =
      let same = same_compiled c it in
      elim (rw same at why) [
        | inl more ↦ absurd (more.0 (omega arith))
        | inr (inl other) ↦ absurd (other.0 refl)
        | inr (inr clock) ↦ absurd (clock.0 refl)
      ]
  stopped e (inl (inr fails)) = inr fails.3
  stopped e (inr h) =
      by_cases (rw (same_compiled h.0 h.1.is, not_shown k turns) at h.2)
    where
      by_cases : RunsCommand old new text (alone k (length text)) [] (Err e)
          → (IsMisplaced old k e × IsUnchanged old new) ⊎ IsRolledBack old new
      by_cases (inl (inl misplaced, same)) = inl (misplaced, same)
      by_cases (inl (inr change, same)) = absurd (no_change k turns change.0)
      by_cases (inr fails) = inr fails.3

  never_writes : (k : Command) → Turns k → (row : Row) (db : Trees)
      → ¬ MayWrite old None k (text_of text (alone k (length text))) row db
  never_writes Begin is row db h = absurd (let e = h.3 in cc)
  never_writes Commit is row db h = absurd (let e = h.3 in cc)
  never_writes Rollback is row db h = absurd (let e = h.3 in cc)
  never_writes _ bad row db h = bad

  may_be : (Commits : Trees → Type 0)
      → ((db : Trees) → k ≡ Commit → db ≡ old.now.trees → Commits db)
      → (db : Trees) → CommitsBy text [] old db → Commits db
  unfolding CommitsBy
  may_be Commits means db h =
      by_cases (timed [] [] h.1.now) (rw (same_compiled h.0 h.1.is) at h.2)
    where
      releases : (k : Command) → Turns k → (name : List ℕ) → ¬ (k ≡ Release name)
      releases Begin is name bad = absurd cc
      releases Commit is name bad = absurd cc
      releases Rollback is name bad = absurd cc
      releases _ bad name e = bad

      by_cases : (row : Row) → MayCommit old None k (text_of text (alone k (length text))) row db
          → Commits db
      by_cases row (inl (inl is, same)) = means db is same
      by_cases row (inl (inr named, same)) = absurd (releases k turns named.0 named.2)
      by_cases row (inr writes) = absurd (never_writes k turns row db writes)

module _ (old new : State) where
  began_as : understood old.now.schema (codes "BEGIN") ≡ Ok (alone Begin 5)
  began_as = understood_as old.now.schema (codes "BEGIN") _ (begin_compiles old.now.schema)

  committed_as : understood old.now.schema (codes "COMMIT") ≡ Ok (alone Commit 6)
  committed_as = understood_as old.now.schema (codes "COMMIT") _ (commit_compiles old.now.schema)

  rolled_as : understood old.now.schema (codes "ROLLBACK") ≡ Ok (alone Rollback 8)
  rolled_as = understood_as old.now.schema (codes "ROLLBACK") _ (roll_back_compiles old.now.schema)

  pub began : (count : ℕ) → Executes (codes "BEGIN") [] old new (Ok count)
      → Shows old new old.now old.committed true
  began count h = (turned (codes "BEGIN") Begin tt old new began_as count h).1

  pub begin_survives : Survives old new (CommitsBy (codes "BEGIN") [] old)
      → Survives old new (λ _. ⊥)
  begin_survives = survives_weaker old new _ _ (λ _. may_be (codes "BEGIN") Begin tt old new began_as
      (λ _. ⊥) (λ db bad. absurd (not_commit bad)))
    where
      not_commit : Begin ≡ Commit → ⊥
      not_commit bad = absurd cc

  pub ended : (count : ℕ) → Executes (codes "COMMIT") [] old new (Ok count)
      → Shows old new old.now old.now false
  ended count h = (turned (codes "COMMIT") Commit tt old new committed_as count h).1

  -- The command was refused outside a transaction.
  commit_idle : (e : Error) → IsMisplaced old Commit e → old.in_transaction ≡ false
  commit_idle e (inl (_, inl (bad, _))) = absurd cc
  commit_idle e (inl (_, inr (_, idle))) = idle
  commit_idle e (inr (_, name, inl bad, _)) = absurd cc
  commit_idle e (inr (_, name, inr bad, _)) = absurd cc

  roll_back_idle : (e : Error) → IsMisplaced old Rollback e → old.in_transaction ≡ false
  roll_back_idle e (inl (_, inl (bad, _))) = absurd cc
  roll_back_idle e (inl (_, inr (_, idle))) = idle
  roll_back_idle e (inr (_, name, inl bad, _)) = absurd cc
  roll_back_idle e (inr (_, name, inr bad, _)) = absurd cc

  pub not_ended : (e : Error) → Executes (codes "COMMIT") [] old new (Err e) → HasEnded old new
  not_ended e h = elim (stopped (codes "COMMIT") Commit tt old new committed_as e h) [
    | inl it ↦ inl (commit_idle e it.0, it.1)
    | inr it ↦ inr it
  ]

  pub commit_survives : Survives old new (CommitsBy (codes "COMMIT") [] old)
      → Survives old new (λ db. db ≡ old.now.trees)
  commit_survives = survives_weaker old new _ _ (λ _. may_be (codes "COMMIT") Commit tt old new
      committed_as (λ db. db ≡ old.now.trees) (λ db is same. same))

  pub undone_of : IsRolledBack old new → IsUndone old new
  undone_of it = record {
    was_open = it.was_open;
    now = λ up. (it.undone up).0;
    committed = λ up. (it.undone up).1;
    autocommit = it.autocommit;
  }

  pub rolled : (r : Result ℕ Error) → IsTrue old.in_transaction
      → Executes (codes "ROLLBACK") [] old new r → IsUndone old new
  rolled (Ok count) inside h =
      undone_of (turned (codes "ROLLBACK") Rollback tt old new rolled_as count h).1
  rolled (Err e) inside h = elim (stopped (codes "ROLLBACK") Rollback tt old new rolled_as e h) [
    | inl it ↦ absurd (true≢false (sym inside ∙ roll_back_idle e it.0))
    | inr it ↦ undone_of it
  ]

  pub roll_back_survives : Survives old new (CommitsBy (codes "ROLLBACK") [] old)
      → Survives old new (λ _. ⊥)
  roll_back_survives = survives_weaker old new _ _ (λ _. may_be (codes "ROLLBACK") Rollback tt old new
      rolled_as (λ _. ⊥) (λ db bad. absurd (not_commit bad)))
    where
      not_commit : Rollback ≡ Commit → ⊥
      not_commit bad = absurd cc

-- Outside a transaction, the database is that of the last commit.
pub undone_still : (s : State) → s.in_transaction ≡ false
    → (IsTrue s.is_open → s.now ≡ s.committed) → IsUndone s s
undone_still s idle settled = record {
  was_open = λ up. up;
  now = settled;
  committed = λ up. refl;
  autocommit = idle;
}

module _ (old new : State) (clean_of : IsTrue new.is_open → HasCleanDisk new) where
  -- If no transaction had begun, none has afterwards.
  pub unbegun_idle : (IsTrue old.is_open → old.in_transaction ≡ false)
      → (HasCleanDisk new → IsUnchanged old new ⊎ IsRolledBack old new) → IsTrue new.is_open
      → new.in_transaction ≡ false
  unbegun_idle idle fails up = elim (fails (clean_of up)) [
    | inl it ↦ it.0.mode ∙ idle it.0.was_open
    | inr it ↦ it.autocommit
  ]

  -- After a commit that succeeded or failed, there is no transaction.
  pub ended_idle : {E : Type 0} (r : Result (Unit {0}) E)
      → (HasCleanDisk new → OnOk r (Shows old new old.now old.now false))
      → (HasCleanDisk new → OnErr r (HasEnded old new)) → IsTrue new.is_open
      → new.in_transaction ≡ false
  ended_idle (Ok u) ok err up = (ok (clean_of up)).mode
  ended_idle (Err e) ok err up = elim (err (clean_of up)) [
    | inl it ↦ it.1.0.mode ∙ it.0
    | inr it ↦ it.autocommit
  ]
