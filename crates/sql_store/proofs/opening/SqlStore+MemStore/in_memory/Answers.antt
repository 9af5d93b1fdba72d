use Rattle.std.proofs.Common.{refl}
use Rattle.sqlite_trees.proofs.Doubt.{no_doubt}
use Rattle.sql_store.proofs.opening.SqlStore+MemStore.in_memory.Goals as goal

pub returns-in-Ok-create-clause-content : goal.returns-in-Ok-create-clause-content
returns-in-Ok-create-clause-content c = c.in-Ok-create.ensures.content (no_doubt _ refl)
