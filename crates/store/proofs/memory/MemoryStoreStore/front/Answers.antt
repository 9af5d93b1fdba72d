use Rattle.std.proofs.Common.{rules}
use Rattle.std.specs.Prelude.{IfOk}
use Rattle.settle.specs.Abstraction.{spid_of}
use Rattle.settle.specs.Reads.{AreFirst}
use Rattle.store.specs.Tables.{content_of}
use Rattle.store.proofs.Lists.{all-first}
use Rattle.store.proofs.memory.MemoryStoreStore.front.Goals as goal

pub returns-clause-value : goal.returns-clause-value
returns-clause-value c usable =
    let found : IfOk c.front.result (λ downloads. AreFirst (content_of c.args.self.now.tables)
    (spid_of c.args.spid) c.args.many downloads.items) =
    all-first c.args.self.now.tables (spid_of c.args.spid) c.args.many (λ d. d.items) c.front.result
    c.front.ensures.found in
    search rules
