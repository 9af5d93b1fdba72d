use Rattle.std.proofs.Common.{◌≡◌, refl, sym, subst}
use Rattle.std.specs.Prelude.{IfSome}
use Rattle.model.specs.Content.{Content, Represents, empty_content}
use Rattle.model.specs.State.{first_state}
use Rattle.settle.specs.StoreContract.{HasGroup}
use Rattle.version.specs.Abstraction.{windows_of}
use Rattle.version.proofs.Ends.{windows_are}
use Rattle.register.specs.Refinement.{Refines}
use Rattle.register.proofs.EveryCall.Opened.{empty_is_current}
use Rattle.cli.specs.Feeding.{FeedsInGroups, io_of_feed}
use Rattle.cli.proofs.Fed.{fed_since}
use Rattle.cli.proofs.running.feed_in_groups.Goals as goal

pub returns-in-Ok-clause-feeds : goal.returns-in-Ok-clause-feeds
returns-in-Ok-clause-feeds g c =
    let st = first_state (windows_of c.args.windows.now) in
    let fed = c.feed_groups_to-outcome in
    let refines : g.S.StoreModel.IsUsable c.in-Ok.register.store
    → g.S.StoreModel.content c.args.store ≡ empty_content
    → Refines (g.S.StoreModel.content c.in-Ok.register.store) st = λ usable empty.
    c.in-Ok.ensures.refines usable st (subst (λ (m : Content). Represents m st) (sym empty)
    (empty_is_current (windows_of c.args.windows.now) (windows_are c.args.windows.now))) refl in
    subst (λ s. g.S.StoreModel.IsUsable s → g.S.StoreModel.content c.args.store ≡ empty_content
    → IfSome (g.R.Read.remaining c.args.reader.now) (λ input.
    FeedsInGroups (g.S.StoreModel.failed c.args.store) (g.S.StoreModel.failed s) st
    (g.S.StoreModel.content s)
    (io_of_feed input (g.R.Read.remaining fed.new.reader) (g.W.Write.contents c.args.writer.now)
    (g.W.Write.contents fed.new.writer)) fed.result)) (sym c.close.ensures)
    (λ usable empty. fed_since (g.S.StoreModel.failed c.args.store)
    (g.S.StoreModel.failed c.in-Ok.register.store)
    (g.S.StoreModel.failed fed.new.register.store) st
    (g.S.StoreModel.content fed.new.register.store) (g.R.Read.remaining fed.new.reader)
    (g.W.Write.contents c.args.writer.now) (g.W.Write.contents fed.new.writer)
    (g.R.Read.remaining c.args.reader.now) fed.result c.in-Ok.ensures.preserves.rises
    fed.ensures.fault
    (fed.ensures.feeds usable st (refines (fed.ensures.usable usable) empty)))

pub returns-in-Ok-clause-lasts : goal.returns-in-Ok-clause-lasts
returns-in-Ok-clause-lasts g c =
    subst (λ s. g.S.StoreModel.IsUsable s → (¬ HasGroup g.S.StoreModel c.args.store)
    → (m : Content) → g.S.StoreModel.IsCrashState s m → m ≡ g.S.StoreModel.content s)
    (sym c.close.ensures)
    (λ usable alone. c.feed_groups_to-outcome.ensures.lasts usable
    (λ (start, inside). alone (start, c.in-Ok.ensures.preserves.begins start inside)))

pub returns-in-Err-clause-lasts : goal.returns-in-Err-clause-lasts
returns-in-Err-clause-lasts g c = λ usable alone m left.
    g.met.S.Store.leaves_content c.in-Err.store m usable
    (λ (start, inside). alone (start, c.in-Err.ensures.refused.begins start inside)) left
