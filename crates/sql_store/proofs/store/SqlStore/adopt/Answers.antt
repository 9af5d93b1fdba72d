use Rattle.std.proofs.Common.{subst}
use Rattle.sqlite.specs.Held.{state}
use Rattle.version.specs.Abstraction.{windows_of}
use Rattle.sql_store.specs.Opened.{HadOtherWindows, IsTakenAs}
use Rattle.sql_store.proofs.OpeningLemmas.{stands_clean}
use Rattle.sql_store.proofs.store.SqlStore.adopt.Goals as goal

pub returns-in-Ok-opened-clause-taken : goal.returns-in-Ok-opened-clause-taken
returns-in-Ok-opened-clause-taken g c = λ clean.
    subst (λ db. IsTakenAs (windows_of c.args.windows.now) db
    (state g.S.Store c.in-Ok-opened.it.db.conn).now.trees)
    (c.in-Ok.ensures.trees (c.in-Ok-opened.ensures.honest clean))
    (c.in-Ok-opened.ensures.taken clean)

pub returns-in-Err-opened-clause-differ : goal.returns-in-Err-opened-clause-differ
returns-in-Err-opened-clause-differ g c = λ told stands.
    let clean = stands_clean g.S.Store c.in-Err-opened.refused.1 stands in
    subst (HadOtherWindows (windows_of c.args.windows.now))
    (c.in-Ok.ensures.trees (c.in-Err-opened.ensures.err_honest clean))
    ((c.in-Err-opened.ensures.refused clean).differ told stands)
