use Rattle.std.proofs.Common.{◌≡◌, Some, drop}
use Rattle.matchit.specs.Rows.{RowsOf}
use Rattle.matchit.specs.Router.{RouteOf}
use Rattle.http_messages.specs.declared.paths.Route.{Route}
use Rattle.http_messages.specs.Table.{all_placed, texts_of}
use Rattle.http_messages.proofs.paths.insert_paths.Given as goal

-- The rest of the paths makes the rows that all of them make.
abbrev pub invariant-loop-path : goal.invariant-loop-path
invariant-loop-path l = (rows : RowsOf (RouteOf Route))
    → all_placed (texts_of l.paths) l.fn.router ≡ Some rows
    → all_placed (texts_of (drop l.path-index l.paths)) l.router ≡ Some rows
