use Rattle.std.proofs.Common.{ap, sym, ◌∙◌}
use Rattle.sqlite.specs.Effect.{Database}
use Rattle.sqlite.specs.Files.{over_files}
use Rattle.sqlite.specs.WalFiles.{image_at}
use Rattle.sql_store.proofs.FoundLemmas.{found_shaped}
use Rattle.sql_store.proofs.OpeningLemmas.{never_windows, stands_clean}
use Rattle.sql_store.proofs.file.SqlStore+FileStore+FileFrom+S.existing_at.Goals as goal

pub found-requires-clause-opened : goal.found-requires-clause-opened
found-requires-clause-opened g c =
    λ clean. found_shaped (image_at g.S.Start) c.in-Ok.conn (c.in-Ok.ensures.opened clean)
    (c.in-Ok.ensures.found clean).reads

pub returns-in-Ok-found-clause-same : goal.returns-in-Ok-found-clause-same
returns-in-Ok-found-clause-same g c = λ clean db holds.
    let before = c.in-Ok-found.ensures.honest clean in
    c.in-Ok-found.ensures.now clean
    ∙ ap (λ (d : Database). d.trees) (c.in-Ok.ensures.opened before).0.clean
    ∙ (c.in-Ok.ensures.found before).holds db holds

pub returns-in-Err-found-clause-refused : goal.returns-in-Err-found-clause-refused
returns-in-Err-found-clause-refused g c = λ db holds stands.
    let before = c.in-Err-found.ensures.err_honest
    (stands_clean over_files c.in-Err-found.refused stands) in
    c.in-Err-found.ensures.err stands
    ∙ ap (λ (d : Database). d.trees) (c.in-Ok.ensures.opened before).0.clean
    ∙ (c.in-Ok.ensures.found before).holds db holds

pub returns-in-Err-found-clause-fault : goal.returns-in-Err-found-clause-fault
returns-in-Err-found-clause-fault g c = λ told. never_windows _ (sym c.from.ensures ∙ told)
