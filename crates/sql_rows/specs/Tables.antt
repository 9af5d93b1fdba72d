-- The tables of a register's file, as `sqlite` parses their texts.
use Rattle.sqlite.specs.Collation.TheVariants.{Binary}
use Rattle.std.specs.Prelude.{true, false, [], ◌∷◌, Some, None, Option, codes, List, ℕ, Bool}
use Rattle.sqlite.specs.declared.types.Value.TheVariants.{Null}
use Rattle.sqlite.specs.Table.{Table}
use Rattle.sqlite.specs.Schema.{Schema}
use Rattle.sqlite.specs.Kind.{Kind}
use Rattle.sqlite.specs.Kind.TheVariants.{Integer, Text}
use Rattle.sqlite_value.specs.declared.keys.Order.{Order}
use Rattle.sqlite_value.specs.Keys.{plain}
use Rattle.sqlite_schema.specs.declared.schema.Column.{Column}
use Rattle.sqlite_schema.specs.declared.schema.Index.{Index}

abbrev pub a_column : List ℕ → Kind → Bool → Column
a_column name kind not_null = record {
  name = name;
  kind = kind;
  is_strict = true;
  not_null = not_null;
  default = Null;
  collation = Binary;
}

abbrev pub number_column : List ℕ → Column
number_column name = a_column name Integer true

abbrev pub number_or_null : List ℕ → Column
number_or_null name = a_column name Integer false

abbrev pub text_column : List ℕ → Column
text_column name = a_column name Text true

abbrev pub text_or_null : List ℕ → Column
text_or_null name = a_column name Text false

-- A table with no constraints other than its keys.
abbrev pub a_table : ℕ → List ℕ → List Column → Option ℕ → List ℕ → List (List ℕ) → List Order
    → Table
a_table tree name columns key primary uniques orders = record {
  name = name;
  tree = tree;
  columns = columns;
  key = key;
  primary = primary;
  uniques = uniques;
  orders = orders;
  checks = [];
  references = [];
  computed = [];
  stamps = record { places = []; terms = []; formats = [] };
  is_counted = false;
}

-- A table whose first column is its rowid.
abbrev pub numbered_table : ℕ → List ℕ → List ℕ → List Column → Table
numbered_table tree name key columns = record {
  name = name;
  tree = tree;
  columns = number_or_null key ∷ columns;
  key = Some 0;
  primary = 0 ∷ [];
  uniques = [];
  orders = [];
  checks = [];
  references = [];
  computed = [];
  stamps = record { places = []; terms = []; formats = [] };
  is_counted = false;
}

-- A table whose key is its first columns.
abbrev pub keyed_table : ℕ → List ℕ → List ℕ → List Column → Table
keyed_table tree name key columns = record {
  name = name;
  tree = tree;
  columns = columns;
  key = None;
  primary = key;
  uniques = key ∷ [];
  orders = plain ∷ [];
  checks = [];
  references = [];
  computed = [];
  stamps = record { places = []; terms = []; formats = [] };
  is_counted = false;
}

abbrev pub carrier_table : Table
carrier_table = keyed_table 0 (codes "carrier") (1 ∷ []) (text_column (codes "spid") ∷ [])

abbrev pub lrn_table : Table
lrn_table = numbered_table 2 (codes "lrn") (codes "lrn") (text_column (codes "spid") ∷ [])

abbrev pub code_table : Table
code_table = numbered_table 3 (codes "code") (codes "code") (text_column (codes "spid") ∷ [])

abbrev pub block_table : Table
block_table =
    numbered_table 4 (codes "block") (codes "block") (text_column (codes "donor") ∷ number_or_null
    (codes "last") ∷ [])

abbrev pub version_columns : List Column → List Column
version_columns more =
    number_column (codes "subject") ∷ text_column (codes "old") ∷ text_column (codes "new")
    ∷ number_column (codes "due") ∷ number_or_null (codes "lrn") ∷ number_or_null (codes "cic")
    ∷ number_or_null (codes "old_at") ∷ number_or_null (codes "new_at") ∷ text_column
    (codes "status") ∷ text_column (codes "sends") ∷ number_column (codes "since")
    ∷ number_column (codes "attempt") ∷ number_or_null (codes "release") ∷ number_column
    (codes "spent") ∷ number_column (codes "protective") ∷ text_or_null (codes "cancelled_by")
    ∷ number_or_null (codes "deadline") ∷ number_column (codes "holds") ∷ number_column
    (codes "opens") ∷ more

-- A table of versions, with two unique columns.
abbrev pub a_version_table : ℕ → List ℕ → List Column → Table
a_version_table tree name columns =
    record (numbered_table tree name (codes "id") columns) {
      uniques = (19 ∷ []) ∷ (20 ∷ []) ∷ [];
      orders = plain ∷ plain ∷ [];
    }

-- The versions of an earlier schema.
abbrev pub old_version_table : Table
old_version_table = a_version_table 5 (codes "version") (version_columns [])

abbrev pub broadcast_table : Table
broadcast_table = keyed_table 8 (codes "broadcast") (1 ∷ 2 ∷ [])
    (number_column (codes "id") ∷ number_column (codes "attempt") ∷ number_column (codes "minute")
    ∷ number_column (codes "subject") ∷ text_column (codes "action")
    ∷ number_or_null (codes "lrn") ∷ number_or_null (codes "cic") ∷ number_column (codes "open")
    ∷ number_column (codes "any") ∷ [])

abbrev pub wait_table : Table
wait_table = keyed_table 10 (codes "wait") (1 ∷ 2 ∷ 3 ∷ 4 ∷ [])
    (text_column (codes "spid") ∷ number_column (codes "minute") ∷ number_column (codes "id")
    ∷ number_column (codes "attempt") ∷ number_column (codes "subject") ∷ [])

-- The columns of the nine windows.
abbrev pub window_columns : List Column
window_columns =
    number_column (codes "initial_concurrence") ∷ number_column (codes "final_concurrence")
    ∷ number_column (codes "conflict_restriction") ∷ number_column (codes "conflict_resolution")
    ∷ number_column (codes "conflict_expiration") ∷ number_column (codes "cancellation_initial")
    ∷ number_column (codes "cancellation_final") ∷ number_column (codes "pending_retention")
    ∷ number_column (codes "broadcast") ∷ []

abbrev pub clock_settings : List Column
clock_settings = number_column (codes "now") ∷ number_column (codes "next_id") ∷ window_columns

abbrev pub clock_columns : List Column
clock_columns = number_or_null (codes "one") ∷ clock_settings

-- The clock of an earlier schema.
abbrev pub old_clock_table : Table
old_clock_table = numbered_table 12 (codes "clock") (codes "one") clock_settings

-- ---- tables created after the indexes: the first schema has none of them

-- The routings that versions are sending in modifies.
abbrev pub next_routing_table : Table
next_routing_table =
    numbered_table 16 (codes "next_routing") (codes "id")
    (number_column (codes "lrn") ∷ number_or_null (codes "cic") ∷ [])

abbrev pub set_columns : List Column
set_columns = number_or_null (codes "number") ∷ window_columns

abbrev pub window_set_table : Table
window_set_table = numbered_table 17 (codes "window_set") (codes "number") window_columns

abbrev pub version_table : Table
version_table =
    a_version_table 18 (codes "version2") (version_columns (number_column (codes "held") ∷ []))

abbrev pub clock_table : Table
clock_table =
    numbered_table 21 (codes "clock2") (codes "one") (number_column (codes "now") ∷ number_column
    (codes "next_id") ∷ number_column (codes "present") ∷ [])

abbrev pub an_index : List ℕ → ℕ → ℕ → List ℕ → Bool → Index
an_index name tree table columns is_unique = record {
  name = name;
  tree = tree;
  table = table;
  columns = columns;
  order = plain;
  is_unique = is_unique;
}

abbrev pub unique_index : List ℕ → ℕ → ℕ → List ℕ → Index
unique_index name tree table columns = record {
  name = name;
  tree = tree;
  table = table;
  columns = columns;
  order = plain;
  is_unique = true;
}

abbrev pub plain_index : List ℕ → ℕ → ℕ → List ℕ → Index
plain_index name tree table columns = record {
  name = name;
  tree = tree;
  table = table;
  columns = columns;
  order = plain;
  is_unique = false;
}

abbrev pub wait_key : Index
wait_key = unique_index (codes "sqlite_autoindex_wait_1") 11 10 (1 ∷ 2 ∷ 3 ∷ 4 ∷ [])

abbrev pub version_deadline : Index
version_deadline = plain_index (codes "version_deadline") 13 5 (18 ∷ [])

abbrev pub wait_subject : Index
wait_subject = plain_index (codes "wait_subject") 14 10 (5 ∷ 1 ∷ [])

abbrev pub wait_broadcast : Index
wait_broadcast = plain_index (codes "wait_broadcast") 15 10 (3 ∷ 4 ∷ [])

abbrev pub version2_deadline : Index
version2_deadline = plain_index (codes "version2_deadline") 22 18 (18 ∷ [])

-- The indexes of the unique columns of the versions.
abbrev pub version_keys : List Index
version_keys = unique_index (codes "sqlite_autoindex_version2_1") 19 18 (19 ∷ []) ∷ unique_index
    (codes "sqlite_autoindex_version2_2") 20 18 (20 ∷ []) ∷ []

abbrev pub new_indexes : List Index
new_indexes =
    unique_index (codes "sqlite_autoindex_version2_1") 19 18 (19 ∷ [])
    ∷ unique_index (codes "sqlite_autoindex_version2_2") 20 18 (20 ∷ [])
    ∷ version2_deadline ∷ []

abbrev pub later_indexes : List Index → List Index
later_indexes more = wait_key ∷ version_deadline ∷ wait_subject ∷ wait_broadcast ∷ more

abbrev pub indexes_with : List Index → List Index
indexes_with more =
    unique_index (codes "sqlite_autoindex_carrier_1") 1 0 (1 ∷ [])
    ∷ unique_index (codes "sqlite_autoindex_version_1") 6 5 (19 ∷ [])
    ∷ unique_index (codes "sqlite_autoindex_version_2") 7 5 (20 ∷ [])
    ∷ unique_index (codes "sqlite_autoindex_broadcast_1") 9 8 (1 ∷ 2 ∷ [])
    ∷ later_indexes more

abbrev pub the_indexes : List Index
the_indexes = indexes_with new_indexes

abbrev pub later_tables : List Table → List Table
later_tables more = old_version_table ∷ broadcast_table ∷ wait_table ∷ old_clock_table ∷ more

abbrev pub tables_with : List Table → List Table
tables_with more = carrier_table ∷ lrn_table ∷ code_table ∷ block_table ∷ later_tables more

abbrev pub set_tables : List Table
set_tables = window_set_table ∷ version_table ∷ clock_table ∷ []

abbrev pub new_tables : List Table
new_tables = next_routing_table ∷ set_tables

abbrev pub the_tables : List Table
the_tables = tables_with new_tables

abbrev pub the_schema : Schema
the_schema = record {
  tables = the_tables;
  indexes = the_indexes;
  views = [];
}

-- The first schema, and the one with modifies but without sets of windows.
abbrev pub first_schema : Schema
first_schema = record { tables = tables_with []; indexes = indexes_with []; views = [] }

abbrev pub modify_schema : Schema
modify_schema = record {
  tables = tables_with (next_routing_table ∷ []);
  indexes = indexes_with [];
  views = [];
}

abbrev pub no_schema : Schema
no_schema = record { tables = []; indexes = []; views = [] }
