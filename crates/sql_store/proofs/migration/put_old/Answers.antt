use Rattle.std.proofs.Common.{rules, ◌≡◌, pos, refl, false, is_ok, Some, sym, subst, subst₂}
use Rattle.sqlite.specs.declared.types.Value.TheVariants.{Int}
use Rattle.sqlite.specs.Held.{state}
use Rattle.sqlite.specs.State.{HasCleanDisk, Shown}
use Rattle.sql_rows.specs.Found.{IsSole}
use Rattle.sql_rows.specs.Versions.{old_version_in}
use Rattle.sql_store.specs.Migration.{IsOldPut}
use Rattle.sql_store.specs.Store.{WritesInTransaction}
use Rattle.sql_store.proofs.CallLemmas.{clean_if_open}
use Rattle.sql_store.proofs.LookupLemmas.{one_bound}
use Rattle.sql_store.proofs.MigrationLemmas.{asked_kept, asked_survives, read_put, read_unput, unput}
use Rattle.sql_store.proofs.migration.put_old.Goals as goal

pub returns-in_err-rows : goal.returns-in_err-rows
returns-in_err-rows g c =
    let a = state g.S.Store c.args.conn.now in
    let b = state g.S.Store c.query_all.new.self in
    let key = one_bound c.number.result (Int (pos c.args.id)) refl c.number.ensures in
    let kept = asked_kept a b c.args.id c.text.ensures key (λ found. found.items)
    c.query_all.result (clean_if_open b.is_clean b.is_open (g.met.S.Store.shut_if_dirty _))
    c.query_all.ensures.ok c.query_all.ensures.err in
    let survives = asked_survives a b c.args.id c.text.ensures key c.query_all.ensures.survives in
    let fails : is_ok c.from_residual.result ≡ false = search rules in
    subst (λ d. WritesInTransaction a b d (IsOldPut c.args.id)) (sym fails)
    (unput a b c.args.id kept survives)

pub returns-in_err-found : goal.returns-in_err-found
returns-in_err-found g c =
    let a = state g.S.Store c.args.conn.now in
    let b = state g.S.Store c.query_all.new.self in
    let key = one_bound c.number.result (Int (pos c.args.id)) refl c.number.ensures in
    let kept = asked_kept a b c.args.id c.text.ensures key (λ found. found.items)
    c.query_all.result (clean_if_open b.is_clean b.is_open (g.met.S.Store.shut_if_dirty _))
    c.query_all.ensures.ok c.query_all.ensures.err in
    let survives = asked_survives a b c.args.id c.text.ensures key c.query_all.ensures.survives in
    let fails : is_ok c.from_residual-in_err-found.result ≡ false = search rules in
    subst (λ d. WritesInTransaction a b d (IsOldPut c.args.id)) (sym fails)
    (unput a b c.args.id kept survives)

pub returns-in_default : goal.returns-in_default
returns-in_default g c =
    let a = state g.S.Store c.args.conn.now in
    let b = state g.S.Store c.query_all.new.self in
    let key = one_bound c.number.result (Int (pos c.args.id)) refl c.number.ensures in
    let kept = asked_kept a b c.args.id c.text.ensures key (λ found. found.items)
    c.query_all.result (clean_if_open b.is_clean b.is_open (g.met.S.Store.shut_if_dirty _))
    c.query_all.ensures.ok c.query_all.ensures.err in
    let survives = asked_survives a b c.args.id c.text.ensures key c.query_all.ensures.survives in
    unput a b c.args.id kept survives

pub returns-in_err-put_bare : goal.returns-in_err-put_bare
returns-in_err-put_bare g c =
    let a = state g.S.Store c.args.conn.now in
    let b = state g.S.Store c.query_all.new.self in
    let key = one_bound c.number.result (Int (pos c.args.id)) refl c.number.ensures in
    let kept = asked_kept a b c.args.id c.text.ensures key (λ found. found.items)
    c.query_all.result (clean_if_open b.is_clean b.is_open (g.met.S.Store.shut_if_dirty _))
    c.query_all.ensures.ok c.query_all.ensures.err in
    let survives = asked_survives a b c.args.id c.text.ensures key c.query_all.ensures.survives in
    let d = state g.S.Store c.put_bare.new.conn in
    let fails : is_ok c.from_residual-in_err-put_bare.result ≡ false = search rules in
    subst (λ x. WritesInTransaction a d x (IsOldPut c.args.id)) (sym fails)
    (read_unput a b d c.args.id c.in_ok-rows.rows.items kept survives _
    c.in_err-put_bare.ensures)

pub returns : goal.returns
returns g c =
    let a = state g.S.Store c.args.conn.now in
    let b = state g.S.Store c.query_all.new.self in
    let key = one_bound c.number.result (Int (pos c.args.id)) refl c.number.ensures in
    let kept = asked_kept a b c.args.id c.text.ensures key (λ found. found.items)
    c.query_all.result (clean_if_open b.is_clean b.is_open (g.met.S.Store.shut_if_dirty _))
    c.query_all.ensures.ok c.query_all.ensures.err in
    let survives = asked_survives a b c.args.id c.text.ensures key c.query_all.ensures.survives in
    let d = state g.S.Store c.put_bare.new.conn in
    let sole : IsSole old_version_in c.in_ok-rows.rows.items
    (Some (c.in-Some.found.version.id, c.in-Some.found.version.row)) =
    subst (λ rows. IsSole old_version_in rows
    (Some (c.in-Some.found.version.id, c.in-Some.found.version.row))) c.as_slice.ensures.value
    (rw c.in-Some.is at c.in_ok-found.ensures) in
    read_put a b d c.args.id c.in_ok-rows.rows.items kept survives
    (subst₂ (λ t k. HasCleanDisk b → Shown t k a b c.in_ok-rows.rows.items) c.text.ensures key
    c.in_ok-rows.ensures.ok) c.in-Some.found.version.row c.in-Some.found.version.id sole
    c.in_ok-put_bare.ensures
