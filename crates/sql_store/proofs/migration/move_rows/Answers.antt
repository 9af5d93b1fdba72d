use Rattle.std.proofs.Common.{rules, ◌≡◌, true, false, is_ok, sym, subst}
use Rattle.sqlite.specs.Held.{state}
use Rattle.sql_store.specs.Migration.{AreTreesMigrated, HasMigrated, IsBegunAs, IsMigrated, MigratesInTransaction}
use Rattle.sql_store.proofs.CallLemmas.{clean_if_open}
use Rattle.sql_store.proofs.MigrationLemmas.{begun_as, concluded, given_up, not_begun}
use Rattle.sql_store.proofs.TransactionLemmas.{ended_idle, unbegun_idle}
use Rattle.sql_store.proofs.migration.move_rows.Goals as goal

pub returns-in_err-begin-clause-moves : goal.returns-in_err-begin-clause-moves
returns-in_err-begin-clause-moves g c =
    let f = c.args.schema_version in
    let xs = c.args.ids.now in
    let clock = c.args.clock in
    let old = state g.S.Store c.args.conn.now in
    let new = state g.S.Store c.begin.new.conn in
    let fails : is_ok c.from_residual.result ≡ false = search rules in
    subst (HasMigrated (AreTreesMigrated f xs clock) old new) (sym fails)
    (not_begun f xs clock old new new c.requires.old
    (clean_if_open new.is_clean new.is_open (g.met.S.Store.shut_if_dirty _))
    c.in_err-begin.ensures.err c.in_err-begin.ensures.survives)

pub returns-in_err-begin-clause-idle : goal.returns-in_err-begin-clause-idle
returns-in_err-begin-clause-idle g c =
    let new = state g.S.Store c.begin.new.conn in
    unbegun_idle (state g.S.Store c.args.conn.now) new
    (clean_if_open new.is_clean new.is_open (g.met.S.Store.shut_if_dirty _))
    (λ _. c.requires.idle) c.in_err-begin.ensures.err

pub returns-in-Err-clause-moves : goal.returns-in-Err-clause-moves
returns-in-Err-clause-moves g c =
    let f = c.args.schema_version in
    let xs = c.args.ids.now in
    let clock = c.args.clock in
    let old = state g.S.Store c.args.conn.now in
    let mid = state g.S.Store c.begin.new.conn in
    let end = state g.S.Store c.migrate_tables.new.conn in
    let new = state g.S.Store c.roll_back.new.conn in
    let fails : is_ok c.migrate_tables.result ≡ false = search rules in
    let b = begun_as f old mid end false (IsMigrated f xs clock) c.in_ok-begin.ensures.begun
    (clean_if_open mid.is_clean mid.is_open (g.met.S.Store.shut_if_dirty _))
    c.in_ok-begin.ensures.survives
    (subst (λ d. MigratesInTransaction (IsBegunAs f) mid end d (IsMigrated f xs clock)) fails
    c.migrate_tables.ensures) c.requires.old in
    given_up f xs clock old end new c.requires.old
    (clean_if_open new.is_clean new.is_open (g.met.S.Store.shut_if_dirty _)) b
    c.roll_back.ensures.undone c.roll_back.ensures.survives

pub returns-in-Err-clause-idle : goal.returns-in-Err-clause-idle
returns-in-Err-clause-idle g c up =
    let new = state g.S.Store c.roll_back.new.conn in
    (c.roll_back.ensures.undone (clean_if_open new.is_clean new.is_open
    (g.met.S.Store.shut_if_dirty _) up)).autocommit

pub returns-clause-moves : goal.returns-clause-moves
returns-clause-moves g c =
    let f = c.args.schema_version in
    let xs = c.args.ids.now in
    let clock = c.args.clock in
    let old = state g.S.Store c.args.conn.now in
    let mid = state g.S.Store c.begin.new.conn in
    let end = state g.S.Store c.migrate_tables.new.conn in
    let new = state g.S.Store c.commit.new.conn in
    let done : is_ok c.migrate_tables.result ≡ true = search rules in
    let b = begun_as f old mid end true (IsMigrated f xs clock) c.in_ok-begin.ensures.begun
    (clean_if_open mid.is_clean mid.is_open (g.met.S.Store.shut_if_dirty _))
    c.in_ok-begin.ensures.survives
    (subst (λ d. MigratesInTransaction (IsBegunAs f) mid end d (IsMigrated f xs clock)) done
    c.migrate_tables.ensures) c.requires.old in
    concluded f xs clock old end new c.requires.old
    (clean_if_open new.is_clean new.is_open (g.met.S.Store.shut_if_dirty _)) b
    c.commit.ensures.survives c.commit.result c.commit.ensures.committed c.commit.ensures.err

pub returns-clause-idle : goal.returns-clause-idle
returns-clause-idle g c =
    let new = state g.S.Store c.commit.new.conn in
    ended_idle (state g.S.Store c.migrate_tables.new.conn) new
    (clean_if_open new.is_clean new.is_open (g.met.S.Store.shut_if_dirty _)) c.commit.result
    c.commit.ensures.committed c.commit.ensures.err
