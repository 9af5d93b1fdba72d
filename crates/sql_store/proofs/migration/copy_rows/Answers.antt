use Rattle.std.proofs.Common.{rules, ◌≡◌, [], true, false, is_ok, sym, subst}
use Rattle.sqlite.specs.Held.{state}
use Rattle.sqlite.specs.State.{State}
use Rattle.sql_rows.specs.Migration.{IsCleared}
use Rattle.sql_rows.specs.declared.keyed.OldClock.{OldClock}
use Rattle.sql_rows.specs.declared.migration.OldTable.TheVariants as former
use Rattle.std.specs.Prelude.{ℕ, List, Option}
use Rattle.sql_store.specs.Migration.{MigratesInTransaction, ArePutBut, AreRowsCopied}
use Rattle.sql_store.specs.Store.{IsInTransaction, IsSetPut, AppliesInTransaction, WritesInTransaction}
use Rattle.sql_store.proofs.CallLemmas.{writes_nothing}
use Rattle.sql_store.proofs.MigrationLemmas.{Both, IsChangedBy, alters_as, IsFirstSetPut, cleared_shaped, does_stop, does_then, filled, first_set, from_first_set, from_makes, from_writes, to_writes}
use Rattle.sql_store.proofs.migration.copy_rows.Goals as goal

module _ (xs : List ℕ) (clock : Option OldClock) where
  one : (a b d : State) → WritesInTransaction a b true (ArePutBut [] xs)
      → AppliesInTransaction b d true (first_set clock) → WritesInTransaction b d true IsSetPut
      → MigratesInTransaction IsInTransaction a d true
      (Both (ArePutBut [] xs) (IsFirstSetPut clock))
  one a b d put made set =
      does_then a b d IsInTransaction IsInTransaction (ArePutBut [] xs)
      (IsFirstSetPut clock) true
      (from_writes a b true (ArePutBut [] xs) put) (from_first_set b d true clock made set)
      (λ inside w. record {
        is_open = w.is_open;
        inside = w.inside;
        schema = w.did.schema inside.schema;
        shaped = w.did.shaped inside.shaped;
      })

  two : (a d e : State)
      → MigratesInTransaction IsInTransaction a d true
      (Both (ArePutBut [] xs) (IsFirstSetPut clock))
      → WritesInTransaction d e true (IsCleared former.Version)
      → MigratesInTransaction IsInTransaction a e true
      (Both (Both (ArePutBut [] xs) (IsFirstSetPut clock))
      (IsCleared former.Version))
  two a d e put cleared =
      does_then a d e IsInTransaction IsInTransaction
      (Both (ArePutBut [] xs) (IsFirstSetPut clock))
      (IsCleared former.Version) true put (from_writes d e true (IsCleared former.Version) cleared)
      (λ inside w. record {
        is_open = w.is_open;
        inside = w.inside;
        schema = w.did.2.0.0;
        shaped = w.did.2.0.1;
      })

pub returns-in_err-put_each : goal.returns-in_err-put_each
returns-in_err-put_each g c =
    let a = state g.S.Store c.args.conn.now in
    let b = state g.S.Store c.put_each.new.conn in
    let fails : is_ok c.from_residual.result ≡ false = search rules in
    subst (λ x. WritesInTransaction a b x (AreRowsCopied c.args.ids.now c.args.clock)) (sym fails)
    (writes_nothing a b _ _ c.in_err-put_each.ensures)

pub returns-in_err-put_first_set : goal.returns-in_err-put_first_set
returns-in_err-put_first_set g c =
    let a = state g.S.Store c.args.conn.now in
    let b = state g.S.Store c.put_each.new.conn in
    let d = state g.S.Store c.put_first_set.new.conn in
    let fails : is_ok c.from_residual-in_err-put_first_set.result ≡ false = search rules in
    let Filled = AreRowsCopied c.args.ids.now c.args.clock in
    subst (λ x. WritesInTransaction a d x Filled) (sym fails)
    (to_writes a d false Filled (does_stop a b d IsInTransaction IsInTransaction
    (ArePutBut [] c.args.ids.now)
    (IsChangedBy (first_set c.args.clock)) Filled
    (from_writes a b true (ArePutBut [] c.args.ids.now) c.in_ok-put_each.ensures)
    (from_makes b d false (first_set c.args.clock) c.in_err-put_first_set.ensures.applies)))

pub returns-in_err-clear_versions : goal.returns-in_err-clear_versions
returns-in_err-clear_versions g c =
    let a = state g.S.Store c.args.conn.now in
    let b = state g.S.Store c.put_each.new.conn in
    let d = state g.S.Store c.put_first_set.new.conn in
    let e = state g.S.Store c.clear_versions.new.conn in
    let fails : is_ok c.from_residual-in_err-clear_versions.result ≡ false = search rules in
    let Filled = AreRowsCopied c.args.ids.now c.args.clock in
    let One = Both (ArePutBut [] c.args.ids.now) (IsFirstSetPut c.args.clock) in
    subst (λ x. WritesInTransaction a e x Filled) (sym fails)
    (to_writes a e false Filled (does_stop a d e IsInTransaction IsInTransaction One
    (IsCleared former.Version)
    Filled (one c.args.ids.now c.args.clock a b d c.in_ok-put_each.ensures
    c.in_ok-put_first_set.ensures.applies
    c.in_ok-put_first_set.ensures.others)
    (from_writes d e false (IsCleared former.Version) c.in_err-clear_versions.ensures)))

pub returns-in_err-clear : goal.returns-in_err-clear
returns-in_err-clear g c =
    let a = state g.S.Store c.args.conn.now in
    let b = state g.S.Store c.put_each.new.conn in
    let d = state g.S.Store c.put_first_set.new.conn in
    let e = state g.S.Store c.clear_versions.new.conn in
    let f = state g.S.Store c.clear.new.conn in
    let xs = c.args.ids.now in
    let clock = c.args.clock in
    let fails : is_ok c.from_residual-in_err-clear.result ≡ false = search rules in
    let Filled = AreRowsCopied xs clock in
    let Two = Both (Both (ArePutBut [] xs) (IsFirstSetPut clock))
    (IsCleared former.Version) in
    subst (λ x. WritesInTransaction a f x Filled) (sym fails)
    (to_writes a f false Filled (does_stop a e f IsInTransaction IsInTransaction Two
    (IsCleared former.Clock)
    Filled
    (two xs clock a d e (one xs clock a b d c.in_ok-put_each.ensures
    c.in_ok-put_first_set.ensures.applies
    c.in_ok-put_first_set.ensures.others) c.in_ok-clear_versions.ensures)
    (from_writes e f false (IsCleared former.Clock) c.in_err-clear.ensures)))

pub returns : goal.returns
returns g c =
    let a = state g.S.Store c.args.conn.now in
    let b = state g.S.Store c.put_each.new.conn in
    let d = state g.S.Store c.put_first_set.new.conn in
    let e = state g.S.Store c.clear_versions.new.conn in
    let f = state g.S.Store c.clear.new.conn in
    let xs = c.args.ids.now in
    let clock = c.args.clock in
    let Two = Both (Both (ArePutBut [] xs) (IsFirstSetPut clock))
    (IsCleared former.Version) in
    to_writes a f true (AreRowsCopied xs clock) (alters_as a f IsInTransaction IsInTransaction true
    (Both Two (IsCleared former.Clock)) (AreRowsCopied xs clock)
    (does_then a e f IsInTransaction IsInTransaction Two (IsCleared former.Clock) true
    (two xs clock a d e (one xs clock a b d c.in_ok-put_each.ensures
    c.in_ok-put_first_set.ensures.applies
    c.in_ok-put_first_set.ensures.others) c.in_ok-clear_versions.ensures)
    (from_writes e f true (IsCleared former.Clock) c.in_ok-clear.ensures)
    (λ inside w. let cleared = w.did.2 in record {
      is_open = w.is_open;
      inside = w.inside;
      schema = cleared.schema;
      shaped = cleared_shaped former.Version w.did.0 e.now w.did.2 w.did.1.2.0.1;
    }))
    (λ inside. inside) (λ inside it. filled xs clock a.now f.now inside.shaped it))
