-- A version that a query found, with the routing that it sends.
use Rattle.std.specs.Prelude.{ℕ, Option, option_map}
use Rattle.sqlite.specs.Order.{Row}
use Rattle.sqlite.specs.Tree.{Trees}
use Rattle.model.specs.Content.{VersionRow}
use Rattle.settle.specs.declared.rows.NumberedRow.{NumberedRow}
use Rattle.sql_rows.specs.Content.{IsFoundAs}
use Rattle.sql_rows.specs.Found.{IsSoleAnswer}
use Rattle.sql_rows.specs.Versions.{version_in}
use Rattle.sql_rows.specs.declared.statement.Query.{Query}

abbrev pub version_model : NumberedRow → ℕ × VersionRow
version_model v = (v.id, v.row)

-- Holds if the query is answered by no row or by one, and this is that row with its routing.
abbrev pub IsVersionFound : Query → Trees → Row → Option NumberedRow → Type 0
IsVersionFound query db params o = (bare : Option NumberedRow)
    × IsSoleAnswer query version_in db params (option_map version_model bare) × IsFoundAs db bare o
