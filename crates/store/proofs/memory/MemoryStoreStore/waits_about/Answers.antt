use Rattle.std.proofs.Common.{rules}
use Rattle.std.specs.Prelude.{IfOk}
use Rattle.numbers.specs.Abstraction.{subject_of}
use Rattle.settle.specs.Abstraction.{spid_of}
use Rattle.settle.specs.Lists.{items_of}
use Rattle.settle.specs.Reads.{AreWaitsAbout}
use Rattle.store.specs.Tables.{content_of}
use Rattle.store.proofs.Lists.{all-about}
use Rattle.store.proofs.memory.MemoryStoreStore.waits_about.Goals as goal

pub returns-clause-value : goal.returns-clause-value
returns-clause-value c usable =
    let found : IfOk c.about.result (λ downloads. AreWaitsAbout (content_of c.args.self.now.tables)
    (spid_of c.args.spid) (subject_of c.args.subject) (items_of downloads)) =
    all-about c.args.self.now.tables (spid_of c.args.spid) (subject_of c.args.subject) items_of
    c.about.result c.about.ensures in
    search rules
