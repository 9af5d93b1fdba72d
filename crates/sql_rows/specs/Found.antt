-- Values in the rows of a query.
use Rattle.std.specs.Prelude.{◌≡◌, List, [], ◌∷◌, Option, Some, None, map}
use Rattle.sqlite.specs.Order.{Row}
use Rattle.sqlite.specs.Tree.{Trees}
use Rattle.sqlite.specs.Query.{IsAnswer}
use Rattle.sqlite.specs.Program.{overlay}
use Rattle.sql_rows.specs.Statements.{query_of}
use Rattle.sql_rows.specs.declared.statement.Query.{Query}

-- Holds if there is no row, or one that reads as this value.
abbrev pub IsSole : {X : Type 0} → (Row → Option X) → List Row → Option X → Type 0
IsSole read rows None = rows ≡ []
IsSole read rows (Some x) = (row : Row) × (rows ≡ row ∷ []) × (read row ≡ Some x)

-- Holds if the rows read as these values, in order.
abbrev pub AreRead : {X : Type 0} → (Row → Option X) → List Row → List X → Type 0
AreRead read rows xs = map read rows ≡ map Some xs

-- Holds if the query has no row in its answer, or one that reads as this value.
abbrev pub IsSoleAnswer : {X : Type 0} → Query → (Row → Option X) → Trees → Row → Option X → Type 0
IsSoleAnswer query read db params o =
    (rows : List Row) × IsAnswer (query_of query) (overlay db []) params rows × IsSole read rows o

-- Holds if the rows in the query's answer read as these values, in order.
abbrev pub IsListAnswer : {X : Type 0} → Query → (Row → Option X) → Trees → Row → List X → Type 0
IsListAnswer query read db params xs =
    (rows : List Row) × IsAnswer (query_of query) (overlay db []) params rows × AreRead read rows xs
