-- The content of a file with an earlier schema.
use Rattle.std.specs.Prelude.{List, [], Some, None, Option}
use Rattle.std.specs.Ordering.{nat_cmp}
use Rattle.std.specs.FinMap.{FinMap, empty, get, insert}
use Rattle.sqlite.specs.Order.{Row}
use Rattle.sqlite.specs.Tree.{Trees}
use Rattle.model.specs.Content.{ClockRow, Content, VersionRow, broadcast_cmp, wait_cmp}
use Rattle.model.specs.Windows.{Windows}
use Rattle.sql_rows.specs.Content.{block_entry, broadcast_entry, carrier_entry, code_entry, content_of, lrn_entry, nexts_in, old_clock_entry, wait_entry}
use Rattle.sql_rows.specs.Over.{over}
use Rattle.sql_rows.specs.Versions.{old_version_entry, rerouted}
use Rattle.sql_rows.specs.declared.migration.SchemaVersion.{SchemaVersion}
use Rattle.sql_rows.specs.declared.migration.SchemaVersion.TheVariants.{First, Modify}

abbrev pub old_versions_in : List Row → FinMap nat_cmp VersionRow
old_versions_in rows = content_of nat_cmp old_version_entry rows

abbrev pub old_clock : List Row → Option ClockRow
old_clock rows = get (content_of nat_cmp old_clock_entry rows) 0

-- The rows of the routings that versions are sending, if the schema has their table.
abbrev pub next_rows : SchemaVersion → Trees → List Row
next_rows First db = []
next_rows Modify db = db 16

-- The windows of the clock's row, as set 1.
abbrev pub first_sets : Option ClockRow → FinMap nat_cmp Windows
first_sets None = empty
first_sets (Some c) = insert empty 1 c.present.windows

-- The content of the tables, with these versions and this clock's row.
abbrev pub content_with : SchemaVersion → FinMap nat_cmp VersionRow → Option ClockRow → Trees
    → Content
content_with f versions clock db = record {
  carriers = content_of nat_cmp carrier_entry (db 0);
  lrns = content_of nat_cmp lrn_entry (db 2);
  codes = content_of nat_cmp code_entry (db 3);
  blocks = content_of nat_cmp block_entry (db 4);
  versions = over rerouted versions (nexts_in (next_rows f db));
  broadcasts = content_of broadcast_cmp broadcast_entry (db 8);
  waits = content_of wait_cmp wait_entry (db 10);
  sets = first_sets clock;
  clock = clock;
}

-- The content of the file: each version holds set 1, the nine windows of the clock's row.
abbrev pub old_content_in : SchemaVersion → Trees → Content
old_content_in f db = content_with f (old_versions_in (db 5)) (old_clock (db 12)) db
