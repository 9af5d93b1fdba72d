use Rattle.std.proofs.Common.{ap, subst, sym, ◌∙◌}
use Rattle.sqlite.specs.Effect.{Database}
use Rattle.sqlite.specs.Files.{file_state, over_files}
use Rattle.sqlite.specs.WalFiles.{image_at}
use Rattle.sqlite_trees.specs.Objects.{catalog_tree}
use Rattle.sql_rows.specs.Tables.{no_schema}
use Rattle.version.specs.Abstraction.{windows_of}
use Rattle.sql_store.specs.Opened.{IsTakenAs}
use Rattle.sql_store.proofs.FoundLemmas.{found_shaped}
use Rattle.sql_store.proofs.OpeningLemmas.{empty_finds_none, empty_is_unlisted, never_windows, refused_of, sound_as}
use Rattle.sql_store.proofs.file.SqlStore+FileStore+FileFrom+S.at.Goals as goal

pub opened-requires-clause-opened : goal.opened-requires-clause-opened
opened-requires-clause-opened g c =
    λ clean. found_shaped (image_at g.S.Start) c.in-Ok.conn (c.in-Ok.ensures.opened clean)
    (c.in-Ok.ensures.found clean).reads

pub returns-in-Ok-opened-clause-new : goal.returns-in-Ok-opened-clause-new
returns-in-Ok-opened-clause-new g c = λ clean empty.
    let s = file_state c.in-Ok.conn in
    let before = c.in-Ok-opened.ensures.honest clean in
    let opened = c.in-Ok.ensures.opened before in
    let finds = c.in-Ok.ensures.found before in
    let none = ap (λ (d : Database). d.trees catalog_tree) opened.0.clean
    ∙ empty_finds_none (image_at g.S.Start) s empty finds in
    let has = empty_is_unlisted s.now (opened.1 opened.0.is_open).0 none in
    (c.in-Ok-opened.ensures.taken clean).new
    (sound_as s (found_shaped (image_at g.S.Start) c.in-Ok.conn opened finds.reads) no_schema has)

pub returns-in-Ok-opened-clause-taken : goal.returns-in-Ok-opened-clause-taken
returns-in-Ok-opened-clause-taken g c = λ clean db holds.
    let before = c.in-Ok-opened.ensures.honest clean in
    let opened = c.in-Ok.ensures.opened before in
    let finds = c.in-Ok.ensures.found before in
    subst (λ t. IsTakenAs (windows_of c.args.windows.now) t
    (file_state c.in-Ok-opened.it.db.conn).now.trees) (ap (λ (d : Database). d.trees) opened.0.clean
    ∙ finds.holds db holds) (c.in-Ok-opened.ensures.taken clean)

pub returns-in-Err-opened-clause-refused : goal.returns-in-Err-opened-clause-refused
returns-in-Err-opened-clause-refused g c = λ db holds.
    refused_of over_files _ db (file_state c.in-Ok.conn).now.trees _ c.in-Err-opened.refused
    (λ clean.
    let before = c.in-Err-opened.ensures.err_honest clean in
    ap (λ (d : Database). d.trees) (c.in-Ok.ensures.opened before).0.clean
    ∙ (c.in-Ok.ensures.found before).holds db holds) c.in-Err-opened.ensures.refused

pub returns-in-Err-clause-refused : goal.returns-in-Err-clause-refused
returns-in-Err-clause-refused g c = λ db holds told. never_windows _ (sym c.from.ensures ∙ told)
