-- The texts of the statements, and their meaning under the schema.
use Rattle.std.specs.Prelude.{ℕ, pos, negsuc, List, [], ◌∷◌, codes, Option, Some, None, false}
use Rattle.sqlite.specs.declared.types.Value.TheVariants.{Null, Int}
use Rattle.sqlite.specs.Term.{Term, lit, col, op2}
use Rattle.sqlite.specs.Query.{Query as Asked, inner, end}
use Rattle.sqlite_sql.specs.declared.ops.BinaryOp.TheVariants.{Compare}
use Rattle.sqlite_sql.specs.declared.ops.CompareOp.TheVariants.{Eq, Le, Ge, Ne}
use Rattle.sqlite.specs.Collation.TheVariants.{Binary}
use Rattle.sqlite_value.specs.Keys.{ascending}
use Rattle.sqlite.specs.Source.TheVariants.{Values}
use Rattle.sqlite.specs.Command.{Command}
use Rattle.sqlite.specs.Command.TheVariants.{Insert, InsertOr, Select, Delete}
use Rattle.sqlite_schema.specs.declared.command.Conflict.TheVariants.{Replace}
use Rattle.sqlite.specs.Table.{Table as SqlTable}
use Rattle.sql_rows.specs.Tables.{carrier_table, lrn_table, code_table, block_table, old_version_table, broadcast_table, wait_table, old_clock_table, next_routing_table, window_set_table, version_table, clock_table}
use Rattle.sql_rows.specs.declared.statement.Table.{Table}
use Rattle.sql_rows.specs.declared.statement.Table.TheVariants.{Carrier, Lrn, Code, Block, OldVersion, Broadcast, Wait, OldClock, NextRouting, WindowSet, Version, Clock}
use Rattle.sql_rows.specs.declared.statement.Query.{Query}
use Rattle.sql_rows.specs.declared.statement.Query.TheVariants.{CarrierNamed, LrnNumbered, CodeNumbered, BlockNumbered, ClockNumbered, WindowSetNumbered, NextRoutingNumbered, VersionNumbered, OldVersionNumbered, VersionInForce, VersionOpen, VersionDue, BroadcastKeyed, All, BroadcastsByOpen, WaitsAbout, WaitsFor, WaitsFirst, WaitsOf, WaitOfAnother, InForceAmong, OpenAmong}

-- ---- the tables

-- The place of a table in the schema.
abbrev pub slot_of : Table → ℕ
slot_of Carrier = 0
slot_of Lrn = 1
slot_of Code = 2
slot_of Block = 3
slot_of OldVersion = 4
slot_of Broadcast = 5
slot_of Wait = 6
slot_of OldClock = 7
slot_of NextRouting = 8
slot_of WindowSet = 9
slot_of Version = 10
slot_of Clock = 11

abbrev pub table_of : Table → SqlTable
table_of Carrier = carrier_table
table_of Lrn = lrn_table
table_of Code = code_table
table_of Block = block_table
table_of OldVersion = old_version_table
table_of Broadcast = broadcast_table
table_of Wait = wait_table
table_of OldClock = old_clock_table
table_of NextRouting = next_routing_table
table_of WindowSet = window_set_table
table_of Version = version_table
table_of Clock = clock_table

-- The tree with the rows of a table.
abbrev pub tree_of : Table → ℕ
tree_of t = (table_of t).tree

-- The test that a column equals a parameter.
abbrev pub column_is : ℕ → ℕ → Term
column_is place at = op2 (Compare Eq Binary) (col 1 place) (col 0 at)

-- The tests that the row has the key.
abbrev pub key_test : Table → List Term
key_test Carrier = column_is 1 0 ∷ []
key_test Lrn = column_is 0 0 ∷ []
key_test Code = column_is 0 0 ∷ []
key_test Block = column_is 0 0 ∷ []
key_test OldVersion = column_is 0 0 ∷ []
key_test Broadcast = column_is 1 0 ∷ column_is 2 1 ∷ []
key_test Wait = column_is 1 0 ∷ column_is 2 1 ∷ column_is 3 2 ∷ column_is 4 3 ∷ []
key_test OldClock = column_is 0 0 ∷ []
key_test NextRouting = column_is 0 0 ∷ []
key_test WindowSet = column_is 0 0 ∷ []
key_test Version = column_is 0 0 ∷ []
key_test Clock = column_is 0 0 ∷ []

-- The places of the columns of the key.
abbrev pub key_places : Table → List ℕ
key_places Carrier = 1 ∷ []
key_places Lrn = 0 ∷ []
key_places Code = 0 ∷ []
key_places Block = 0 ∷ []
key_places OldVersion = 0 ∷ []
key_places Broadcast = 1 ∷ 2 ∷ []
key_places Wait = 1 ∷ 2 ∷ 3 ∷ 4 ∷ []
key_places OldClock = 0 ∷ []
key_places NextRouting = 0 ∷ []
key_places WindowSet = 0 ∷ []
key_places Version = 0 ∷ []
key_places Clock = 0 ∷ []

-- The columns of a row, in the order of the texts.
abbrev pub shown_by : Table → List Term
shown_by Carrier = col 1 1 ∷ []
shown_by Lrn = col 1 0 ∷ col 1 2 ∷ []
shown_by Code = col 1 0 ∷ col 1 2 ∷ []
shown_by Block = col 1 0 ∷ col 1 2 ∷ col 1 3 ∷ []
shown_by OldVersion = col 1 0 ∷ col 1 2 ∷ col 1 3 ∷ col 1 4 ∷ col 1 5 ∷ col 1 6 ∷ col 1 7 ∷ col 1 8
    ∷ col 1 9 ∷ col 1 10 ∷ col 1 11 ∷ col 1 12 ∷ col 1 13 ∷ col 1 14 ∷ col 1 15 ∷ col 1 16 ∷ col 1
    17 ∷ col 1 18 ∷ col 1 19 ∷ col 1 20 ∷ []
shown_by Broadcast = col 1 1 ∷ col 1 2 ∷ col 1 3 ∷ col 1 4 ∷ col 1 5 ∷ col 1 6 ∷ col 1 7 ∷ col 1 8
    ∷ col 1 9 ∷ []
shown_by Wait = col 1 1 ∷ col 1 2 ∷ col 1 3 ∷ col 1 4 ∷ col 1 5 ∷ []
shown_by OldClock = col 1 0 ∷ col 1 2 ∷ col 1 3 ∷ col 1 4 ∷ col 1 5 ∷ col 1 6 ∷ col 1 7 ∷ col 1 8
    ∷ col 1 9 ∷ col 1 10 ∷ col 1 11 ∷ col 1 12 ∷ []
shown_by NextRouting = col 1 0 ∷ col 1 2 ∷ col 1 3 ∷ []
shown_by WindowSet = col 1 0 ∷ col 1 2 ∷ col 1 3 ∷ col 1 4 ∷ col 1 5 ∷ col 1 6 ∷ col 1 7 ∷ col 1 8
    ∷ col 1 9 ∷ col 1 10 ∷ []
shown_by Version = col 1 0 ∷ col 1 2 ∷ col 1 3 ∷ col 1 4 ∷ col 1 5 ∷ col 1 6 ∷ col 1 7 ∷ col 1 8
    ∷ col 1 9 ∷ col 1 10 ∷ col 1 11 ∷ col 1 12 ∷ col 1 13 ∷ col 1 14 ∷ col 1 15 ∷ col 1 16 ∷ col 1
    17 ∷ col 1 18 ∷ col 1 19 ∷ col 1 20 ∷ col 1 21 ∷ []
shown_by Clock = col 1 0 ∷ col 1 2 ∷ col 1 3 ∷ col 1 4 ∷ []

abbrev pub names_of : Table → List (List ℕ)
names_of Carrier = codes "spid" ∷ []
names_of Lrn = codes "lrn" ∷ codes "spid" ∷ []
names_of Code = codes "code" ∷ codes "spid" ∷ []
names_of Block = codes "block" ∷ codes "donor" ∷ codes "last" ∷ []
names_of OldVersion = codes "id" ∷ codes "subject" ∷ codes "old" ∷ codes "new" ∷ codes "due" ∷ codes
    "lrn" ∷ codes "cic" ∷ codes "old_at" ∷ codes "new_at" ∷ codes "status" ∷ codes "sends" ∷ codes
    "since" ∷ codes "attempt" ∷ codes "release" ∷ codes "spent" ∷ codes "protective" ∷ codes
    "cancelled_by" ∷ codes "deadline" ∷ codes "holds" ∷ codes "opens" ∷ []
names_of Broadcast = codes "id" ∷ codes "attempt" ∷ codes "minute" ∷ codes "subject" ∷ codes
    "action" ∷ codes "lrn" ∷ codes "cic" ∷ codes "open" ∷ codes "any" ∷ []
names_of Wait = codes "spid" ∷ codes "minute" ∷ codes "id" ∷ codes "attempt" ∷ codes "subject" ∷ []
names_of OldClock = codes "one" ∷ codes "now" ∷ codes "next_id" ∷ codes "initial_concurrence"
    ∷ codes "final_concurrence" ∷ codes "conflict_restriction" ∷ codes "conflict_resolution" ∷ codes
    "conflict_expiration" ∷ codes "cancellation_initial" ∷ codes "cancellation_final" ∷ codes
    "pending_retention" ∷ codes "broadcast" ∷ []
names_of NextRouting = codes "id" ∷ codes "lrn" ∷ codes "cic" ∷ []
names_of WindowSet = codes "number" ∷ codes "initial_concurrence" ∷ codes "final_concurrence"
    ∷ codes "conflict_restriction" ∷ codes "conflict_resolution" ∷ codes "conflict_expiration"
    ∷ codes "cancellation_initial" ∷ codes "cancellation_final" ∷ codes "pending_retention" ∷ codes
    "broadcast" ∷ []
names_of Version = codes "id" ∷ codes "subject" ∷ codes "old" ∷ codes "new" ∷ codes "due" ∷ codes
    "lrn" ∷ codes "cic" ∷ codes "old_at" ∷ codes "new_at" ∷ codes "status" ∷ codes "sends" ∷ codes
    "since" ∷ codes "attempt" ∷ codes "release" ∷ codes "spent" ∷ codes "protective" ∷ codes
    "cancelled_by" ∷ codes "deadline" ∷ codes "holds" ∷ codes "opens" ∷ codes "held" ∷ []
names_of Clock = codes "one" ∷ codes "now" ∷ codes "next_id" ∷ codes "present" ∷ []

-- The query for the rows of a table that pass the tests, in any order.
abbrev pub plain_query : ℕ → List Term → List Term → Asked
plain_query tree filter project = record {
  from = inner tree end;
  filter = filter;
  group = None;
  project = project;
  distinct = false;
  collations = [];
  order = [];
  limit = lit (Int (negsuc 0));
  offset = lit (Int (pos 0));
}

-- ---- rows deleted and inserted

abbrev pub delete_text : Table → List ℕ
delete_text Carrier = codes "DELETE FROM carrier WHERE spid = ?1"
delete_text Lrn = codes "DELETE FROM lrn WHERE lrn = ?1"
delete_text Code = codes "DELETE FROM code WHERE code = ?1"
delete_text Block = codes "DELETE FROM block WHERE block = ?1"
delete_text OldVersion = codes "DELETE FROM version WHERE id = ?1"
delete_text Broadcast = codes "DELETE FROM broadcast WHERE id = ?1 AND attempt = ?2"
delete_text Wait =
    codes "DELETE FROM wait WHERE spid = ?1 AND minute = ?2 AND id = ?3 AND attempt = ?4"
delete_text OldClock = codes "DELETE FROM clock WHERE one = ?1"
delete_text NextRouting = codes "DELETE FROM next_routing WHERE id = ?1"
delete_text WindowSet = codes "DELETE FROM window_set WHERE number = ?1"
delete_text Version = codes "DELETE FROM version2 WHERE id = ?1"
delete_text Clock = codes "DELETE FROM clock2 WHERE one = ?1"

abbrev pub deleting : Table → Asked
deleting t = plain_query (tree_of t) (key_test t) (col 1 0 ∷ [])

abbrev pub delete_command : Table → Command
delete_command t = Delete (slot_of t) (record { lets = []; body = deleting t })

abbrev pub insert_text : Table → List ℕ
insert_text Carrier = codes "INSERT INTO carrier (spid) VALUES (?1)"
insert_text Lrn = codes "INSERT INTO lrn (lrn, spid) VALUES (?1, ?2)"
insert_text Code = codes "INSERT INTO code (code, spid) VALUES (?1, ?2)"
insert_text Block = codes "INSERT INTO block (block, donor, last) VALUES (?1, ?2, ?3)"
insert_text OldVersion =
    codes "INSERT INTO version (id, subject, old, new, due, lrn, cic, old_at, new_at, status, sends, since, attempt, release, spent, protective, cancelled_by, deadline, holds, opens) VALUES (?1, ?2, ?3, ?4, ?5, ?6, ?7, ?8, ?9, ?10, ?11, ?12, ?13, ?14, ?15, ?16, ?17, ?18, ?19, ?20)"
insert_text Broadcast =
    codes "INSERT INTO broadcast (id, attempt, minute, subject, action, lrn, cic, open, any) VALUES (?1, ?2, ?3, ?4, ?5, ?6, ?7, ?8, ?9)"
insert_text Wait =
    codes "INSERT INTO wait (spid, minute, id, attempt, subject) VALUES (?1, ?2, ?3, ?4, ?5)"
insert_text OldClock =
    codes "INSERT INTO clock (one, now, next_id, initial_concurrence, final_concurrence, conflict_restriction, conflict_resolution, conflict_expiration, cancellation_initial, cancellation_final, pending_retention, broadcast) VALUES (?1, ?2, ?3, ?4, ?5, ?6, ?7, ?8, ?9, ?10, ?11, ?12)"
insert_text NextRouting = codes "INSERT INTO next_routing (id, lrn, cic) VALUES (?1, ?2, ?3)"
insert_text WindowSet =
    codes "INSERT INTO window_set (number, initial_concurrence, final_concurrence, conflict_restriction, conflict_resolution, conflict_expiration, cancellation_initial, cancellation_final, pending_retention, broadcast) VALUES (?1, ?2, ?3, ?4, ?5, ?6, ?7, ?8, ?9, ?10)"
insert_text Version =
    codes "INSERT INTO version2 (id, subject, old, new, due, lrn, cic, old_at, new_at, status, sends, since, attempt, release, spent, protective, cancelled_by, deadline, holds, opens, held) VALUES (?1, ?2, ?3, ?4, ?5, ?6, ?7, ?8, ?9, ?10, ?11, ?12, ?13, ?14, ?15, ?16, ?17, ?18, ?19, ?20, ?21)"
insert_text Clock = codes "INSERT INTO clock2 (one, now, next_id, present) VALUES (?1, ?2, ?3, ?4)"

-- The terms of an inserted row: its rowid, NULL for the rowid's column if there is one, and the
-- other columns.
abbrev pub insert_terms : Table → List Term
insert_terms Carrier = lit Null ∷ col 0 0 ∷ []
insert_terms Lrn = col 0 0 ∷ lit Null ∷ col 0 1 ∷ []
insert_terms Code = col 0 0 ∷ lit Null ∷ col 0 1 ∷ []
insert_terms Block = col 0 0 ∷ lit Null ∷ col 0 1 ∷ col 0 2 ∷ []
insert_terms OldVersion = col 0 0 ∷ lit Null ∷ col 0 1 ∷ col 0 2 ∷ col 0 3 ∷ col 0 4 ∷ col 0 5 ∷ col
    0 6 ∷ col 0 7 ∷ col 0 8 ∷ col 0 9 ∷ col 0 10 ∷ col 0 11 ∷ col 0 12 ∷ col 0 13 ∷ col 0 14 ∷ col 0
    15 ∷ col 0 16 ∷ col 0 17 ∷ col 0 18 ∷ col 0 19 ∷ []
insert_terms Broadcast = lit Null ∷ col 0 0 ∷ col 0 1 ∷ col 0 2 ∷ col 0 3 ∷ col 0 4 ∷ col 0 5 ∷ col
    0 6 ∷ col 0 7 ∷ col 0 8 ∷ []
insert_terms Wait = lit Null ∷ col 0 0 ∷ col 0 1 ∷ col 0 2 ∷ col 0 3 ∷ col 0 4 ∷ []
insert_terms OldClock = col 0 0 ∷ lit Null ∷ col 0 1 ∷ col 0 2 ∷ col 0 3 ∷ col 0 4 ∷ col 0 5 ∷ col 0
    6 ∷ col 0 7 ∷ col 0 8 ∷ col 0 9 ∷ col 0 10 ∷ col 0 11 ∷ []
insert_terms NextRouting = col 0 0 ∷ lit Null ∷ col 0 1 ∷ col 0 2 ∷ []
insert_terms WindowSet = col 0 0 ∷ lit Null ∷ col 0 1 ∷ col 0 2 ∷ col 0 3 ∷ col 0 4 ∷ col 0 5 ∷ col
    0 6 ∷ col 0 7 ∷ col 0 8 ∷ col 0 9 ∷ []
insert_terms Version = col 0 0 ∷ lit Null ∷ col 0 1 ∷ col 0 2 ∷ col 0 3 ∷ col 0 4 ∷ col 0 5 ∷ col 0
    6 ∷ col 0 7 ∷ col 0 8 ∷ col 0 9 ∷ col 0 10 ∷ col 0 11 ∷ col 0 12 ∷ col 0 13 ∷ col 0 14 ∷ col 0
    15 ∷ col 0 16 ∷ col 0 17 ∷ col 0 18 ∷ col 0 19 ∷ col 0 20 ∷ []
insert_terms Clock = col 0 0 ∷ lit Null ∷ col 0 1 ∷ col 0 2 ∷ col 0 3 ∷ []

abbrev pub width_of : Table → ℕ
width_of Carrier = 2
width_of Lrn = 3
width_of Code = 3
width_of Block = 4
width_of OldVersion = 21
width_of Broadcast = 10
width_of Wait = 6
width_of OldClock = 13
width_of NextRouting = 4
width_of WindowSet = 11
width_of Version = 22
width_of Clock = 5

abbrev pub insert_command : Table → Command
insert_command t = Insert (slot_of t) (Values (insert_terms t) (width_of t))

-- The text that inserts a row in place of the one with its key, if the table has no other unique
-- columns and is not of an earlier schema.
abbrev pub replace_text : Table → Option (List ℕ)
replace_text Carrier = Some (codes "INSERT OR REPLACE INTO carrier (spid) VALUES (?1)")
replace_text Lrn = Some (codes "INSERT OR REPLACE INTO lrn (lrn, spid) VALUES (?1, ?2)")
replace_text Code = Some (codes "INSERT OR REPLACE INTO code (code, spid) VALUES (?1, ?2)")
replace_text Block =
    Some (codes "INSERT OR REPLACE INTO block (block, donor, last) VALUES (?1, ?2, ?3)")
replace_text OldVersion = None
replace_text Broadcast =
    Some (codes "INSERT OR REPLACE INTO broadcast (id, attempt, minute, subject, action, lrn, cic, open, any) VALUES (?1, ?2, ?3, ?4, ?5, ?6, ?7, ?8, ?9)")
replace_text Wait =
    Some (codes "INSERT OR REPLACE INTO wait (spid, minute, id, attempt, subject) VALUES (?1, ?2, ?3, ?4, ?5)")
replace_text OldClock = None
replace_text NextRouting =
    Some (codes "INSERT OR REPLACE INTO next_routing (id, lrn, cic) VALUES (?1, ?2, ?3)")
replace_text WindowSet =
    Some (codes "INSERT OR REPLACE INTO window_set (number, initial_concurrence, final_concurrence, conflict_restriction, conflict_resolution, conflict_expiration, cancellation_initial, cancellation_final, pending_retention, broadcast) VALUES (?1, ?2, ?3, ?4, ?5, ?6, ?7, ?8, ?9, ?10)")
replace_text Version = None
replace_text Clock =
    Some (codes "INSERT OR REPLACE INTO clock2 (one, now, next_id, present) VALUES (?1, ?2, ?3, ?4)")

abbrev pub replace_command : Table → Command
replace_command t = InsertOr (slot_of t) Replace (Values (insert_terms t) (width_of t)) []

-- ---- queries

-- The text that selects all rows of a table.
abbrev pub all_text : Table → List ℕ
all_text Carrier = codes "SELECT spid FROM carrier"
all_text Lrn = codes "SELECT lrn, spid FROM lrn"
all_text Code = codes "SELECT code, spid FROM code"
all_text Block = codes "SELECT block, donor, last FROM block"
all_text OldVersion =
    codes "SELECT id, subject, old, new, due, lrn, cic, old_at, new_at, status, sends, since, attempt, release, spent, protective, cancelled_by, deadline, holds, opens FROM version"
all_text Broadcast =
    codes "SELECT id, attempt, minute, subject, action, lrn, cic, open, any FROM broadcast"
all_text Wait = codes "SELECT spid, minute, id, attempt, subject FROM wait"
all_text OldClock =
    codes "SELECT one, now, next_id, initial_concurrence, final_concurrence, conflict_restriction, conflict_resolution, conflict_expiration, cancellation_initial, cancellation_final, pending_retention, broadcast FROM clock"
all_text NextRouting = codes "SELECT id, lrn, cic FROM next_routing"
all_text WindowSet =
    codes "SELECT number, initial_concurrence, final_concurrence, conflict_restriction, conflict_resolution, conflict_expiration, cancellation_initial, cancellation_final, pending_retention, broadcast FROM window_set"
all_text Version =
    codes "SELECT id, subject, old, new, due, lrn, cic, old_at, new_at, status, sends, since, attempt, release, spent, protective, cancelled_by, deadline, holds, opens, held FROM version2"
all_text Clock = codes "SELECT one, now, next_id, present FROM clock2"

abbrev pub query_text : Query → List ℕ
query_text CarrierNamed = codes "SELECT spid FROM carrier WHERE spid = ?1"
query_text LrnNumbered = codes "SELECT lrn, spid FROM lrn WHERE lrn = ?1"
query_text CodeNumbered = codes "SELECT code, spid FROM code WHERE code = ?1"
query_text BlockNumbered = codes "SELECT block, donor, last FROM block WHERE block = ?1"
query_text ClockNumbered = codes "SELECT one, now, next_id, present FROM clock2 WHERE one = ?1"
query_text WindowSetNumbered =
    codes "SELECT number, initial_concurrence, final_concurrence, conflict_restriction, conflict_resolution, conflict_expiration, cancellation_initial, cancellation_final, pending_retention, broadcast FROM window_set WHERE number = ?1"
query_text NextRoutingNumbered = codes "SELECT id, lrn, cic FROM next_routing WHERE id = ?1"
query_text VersionNumbered =
    codes "SELECT id, subject, old, new, due, lrn, cic, old_at, new_at, status, sends, since, attempt, release, spent, protective, cancelled_by, deadline, holds, opens, held FROM version2 WHERE id = ?1"
query_text OldVersionNumbered =
    codes "SELECT id, subject, old, new, due, lrn, cic, old_at, new_at, status, sends, since, attempt, release, spent, protective, cancelled_by, deadline, holds, opens FROM version WHERE id = ?1"
query_text VersionInForce =
    codes "SELECT id, subject, old, new, due, lrn, cic, old_at, new_at, status, sends, since, attempt, release, spent, protective, cancelled_by, deadline, holds, opens, held FROM version2 WHERE holds = ?1"
query_text VersionOpen =
    codes "SELECT id, subject, old, new, due, lrn, cic, old_at, new_at, status, sends, since, attempt, release, spent, protective, cancelled_by, deadline, holds, opens, held FROM version2 WHERE opens = ?1"
query_text VersionDue =
    codes "SELECT id, subject, old, new, due, lrn, cic, old_at, new_at, status, sends, since, attempt, release, spent, protective, cancelled_by, deadline, holds, opens, held FROM version2 WHERE deadline >= 0 AND deadline <= ?1 ORDER BY deadline LIMIT 1"
query_text BroadcastKeyed =
    codes "SELECT id, attempt, minute, subject, action, lrn, cic, open, any FROM broadcast WHERE id = ?1 AND attempt = ?2"
query_text (All t) = all_text t
query_text BroadcastsByOpen =
    codes "SELECT id, attempt, minute, subject, action, lrn, cic, open, any FROM broadcast WHERE open = ?1"
query_text WaitsAbout =
    codes "SELECT spid, minute, id, attempt, subject FROM wait WHERE subject = ?1 AND spid = ?2"
query_text WaitsFor = codes "SELECT spid, minute, id, attempt, subject FROM wait WHERE spid = ?1"
query_text WaitsFirst =
    codes "SELECT spid, minute, id, attempt, subject FROM wait WHERE spid = ?1 ORDER BY minute, id, attempt LIMIT ?2"
query_text WaitsOf =
    codes "SELECT spid, minute, id, attempt, subject FROM wait WHERE id = ?1 AND attempt = ?2"
query_text WaitOfAnother =
    codes "SELECT spid, minute, id, attempt, subject FROM wait WHERE id = ?3 AND attempt = ?4 AND minute = ?2 AND spid <> ?1 LIMIT 1"
query_text InForceAmong =
    codes "SELECT id, subject, old, new, due, lrn, cic, old_at, new_at, status, sends, since, attempt, release, spent, protective, cancelled_by, deadline, holds, opens, held FROM version2 WHERE holds >= ?1 AND holds <= ?2"
query_text OpenAmong =
    codes "SELECT id, subject, old, new, due, lrn, cic, old_at, new_at, status, sends, since, attempt, release, spent, protective, cancelled_by, deadline, holds, opens, held FROM version2 WHERE opens >= ?1 AND opens <= ?2"

abbrev pub asked_of : Query → Table
asked_of CarrierNamed = Carrier
asked_of LrnNumbered = Lrn
asked_of CodeNumbered = Code
asked_of BlockNumbered = Block
asked_of ClockNumbered = Clock
asked_of WindowSetNumbered = WindowSet
asked_of NextRoutingNumbered = NextRouting
asked_of VersionNumbered = Version
asked_of OldVersionNumbered = OldVersion
asked_of VersionInForce = Version
asked_of VersionOpen = Version
asked_of VersionDue = Version
asked_of BroadcastKeyed = Broadcast
asked_of (All t) = t
asked_of BroadcastsByOpen = Broadcast
asked_of WaitsAbout = Wait
asked_of WaitsFor = Wait
asked_of WaitsFirst = Wait
asked_of WaitsOf = Wait
asked_of WaitOfAnother = Wait
asked_of InForceAmong = Version
asked_of OpenAmong = Version

abbrev pub query_test : Query → List Term
query_test CarrierNamed = column_is 1 0 ∷ []
query_test LrnNumbered = column_is 0 0 ∷ []
query_test CodeNumbered = column_is 0 0 ∷ []
query_test BlockNumbered = column_is 0 0 ∷ []
query_test ClockNumbered = column_is 0 0 ∷ []
query_test WindowSetNumbered = column_is 0 0 ∷ []
query_test NextRoutingNumbered = column_is 0 0 ∷ []
query_test VersionNumbered = column_is 0 0 ∷ []
query_test OldVersionNumbered = column_is 0 0 ∷ []
query_test VersionInForce = column_is 19 0 ∷ []
query_test VersionOpen = column_is 20 0 ∷ []
query_test VersionDue =
    op2 (Compare Ge Binary) (col 1 18) (lit (Int (pos 0))) ∷ op2 (Compare Le Binary) (col 1 18)
    (col 0 0) ∷ []
query_test BroadcastKeyed = column_is 1 0 ∷ column_is 2 1 ∷ []
query_test (All t) = []
query_test BroadcastsByOpen = column_is 8 0 ∷ []
query_test WaitsAbout = column_is 5 0 ∷ column_is 1 1 ∷ []
query_test WaitsFor = column_is 1 0 ∷ []
query_test WaitsFirst = column_is 1 0 ∷ []
query_test WaitsOf = column_is 3 0 ∷ column_is 4 1 ∷ []
query_test WaitOfAnother = column_is 3 2 ∷ column_is 4 3 ∷ column_is 2 1
    ∷ op2 (Compare Ne Binary) (col 1 1) (col 0 0) ∷ []
query_test InForceAmong = op2 (Compare Ge Binary) (col 1 19) (col 0 0) ∷ op2 (Compare Le Binary)
    (col 1 19) (col 0 1) ∷ []
query_test OpenAmong = op2 (Compare Ge Binary) (col 1 20) (col 0 0) ∷ op2 (Compare Le Binary)
    (col 1 20) (col 0 1) ∷ []

-- The meaning of each query without an order and a limit.
abbrev pub plainly : Query → Asked
plainly q = plain_query (tree_of (asked_of q)) (query_test q) (shown_by (asked_of q))

abbrev pub query_of : Query → Asked
query_of VersionDue = record (plainly VersionDue) {
  order = (col 1 18, ascending Binary) ∷ [];
  limit = lit (Int (pos 1));
}
query_of WaitsFirst = record (plainly WaitsFirst) {
  order = (col 1 2, ascending Binary) ∷ (col 1 3, ascending Binary) ∷ (col 1 4, ascending Binary)
      ∷ [];
  limit = col 0 1;
}
query_of WaitOfAnother = record (plainly WaitOfAnother) { limit = lit (Int (pos 1)) }
query_of q = plainly q

abbrev pub query_command : Query → Command
query_command q = Select (record { lets = []; body = query_of q }) (names_of (asked_of q))
