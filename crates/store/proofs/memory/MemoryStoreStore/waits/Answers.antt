use Rattle.std.proofs.Common.{rules}
use Rattle.std.specs.Prelude.{IfOk}
use Rattle.settle.specs.Abstraction.{spid_of}
use Rattle.settle.specs.Reads.{AreWaitingSubjects}
use Rattle.store.specs.Tables.{content_of}
use Rattle.store.proofs.Lists.{all-awaited}
use Rattle.store.proofs.memory.MemoryStoreStore.waits.Goals as goal

pub returns-clause-value : goal.returns-clause-value
returns-clause-value c usable =
    let found : IfOk c.subjects.result (λ subjects. AreWaitingSubjects
    (content_of c.args.self.now.tables)
    (spid_of c.args.spid) subjects.items) =
    all-awaited c.args.self.now.tables (spid_of c.args.spid) (λ s. s.items) c.subjects.result
    c.subjects.ensures.found in
    search rules
