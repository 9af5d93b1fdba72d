-- The tables of a register's file, and which of their rows can be read.
use Rattle.std.specs.Prelude.{List, ℕ, Bool, false, codes, is_some}
use Rattle.sqlite.specs.Order.{Row}
use Rattle.sql_rows.specs.Content.{block_row_in, broadcast_in, carrier_in, clock_in, code_row_in, lrn_row_in, next_row_in, set_in, wait_in}
use Rattle.sql_rows.specs.Versions.{version_in}
use Rattle.sql_rows.specs.declared.statement.Table.{Table}
use Rattle.sql_rows.specs.declared.statement.Table.TheVariants as table

abbrev pub table_name : Table → List ℕ
table_name table.Carrier = codes "carrier"
table_name table.Lrn = codes "lrn"
table_name table.Code = codes "code"
table_name table.Block = codes "block"
table_name table.OldVersion = codes "version"
table_name table.Broadcast = codes "broadcast"
table_name table.Wait = codes "wait"
table_name table.OldClock = codes "clock"
table_name table.NextRouting = codes "next_routing"
table_name table.WindowSet = codes "window_set"
table_name table.Version = codes "version2"
table_name table.Clock = codes "clock2"

-- Whether a row of a table can be read. The present format has no row in a table of an earlier one.
abbrev pub is_readable : Table → Row → Bool
is_readable table.Carrier row = is_some (carrier_in row)
is_readable table.Lrn row = is_some (lrn_row_in row)
is_readable table.Code row = is_some (code_row_in row)
is_readable table.Block row = is_some (block_row_in row)
is_readable table.OldVersion row = false
is_readable table.Broadcast row = is_some (broadcast_in row)
is_readable table.Wait row = is_some (wait_in row)
is_readable table.OldClock row = false
is_readable table.NextRouting row = is_some (next_row_in row)
is_readable table.WindowSet row = is_some (set_in row)
is_readable table.Version row = is_some (version_in row)
is_readable table.Clock row = is_some (clock_in row)
