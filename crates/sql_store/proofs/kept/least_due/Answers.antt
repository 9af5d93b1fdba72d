use Rattle.std.proofs.Common.{rules, ◌≡◌, Some, subst, true}
use Rattle.std.specs.Prelude.{nat_le}
use Rattle.sqlite.specs.Held.{state}
use Rattle.numbers.proofs.Small.{none_there, some_is}
use Rattle.settle.specs.Reads.{IsLeastDue}
use Rattle.sql_store.specs.Kept.{IsQuietAt}
use Rattle.sql_store.specs.Store.{content_at}
use Rattle.sql_store.proofs.KeptLemmas.{kept_as_read, kept_queried, none_due, quiet_if_none}
use Rattle.sql_store.proofs.kept.least_due.Goals as goal

pub returns-then-le-clause-value : goal.returns-then-le-clause-value
returns-then-le-clause-value g c up =
    let most : nat_le c.args.now.number c.in-Some.quiet.number ≡ true = search rules in
    none_due (content_at (state g.S.Store c.args.db.now.conn)) c.args.now.number c.in-Some.quiet
    most ((c.args.db.now.are_kept.quiet c.in-Some.quiet c.in-Some.is).is up)

pub returns-then-le-clause-queried : goal.returns-then-le-clause-queried
returns-then-le-clause-queried g c =
    kept_queried IsQuietAt (state g.S.Store c.args.db.now.conn) c.args.db.now.kept.quiet
    c.in-Some.quiet c.in-Some.is c.args.db.now.are_kept.quiet

pub invariant_of-db : goal.invariant_of-db
invariant_of-db g c =
    let old = content_at (state g.S.Store c.args.db.now.conn) in
    let db = c.least_due.new.db in
    record {
      ours = db.ours;
      are_kept = record {
        clock = db.are_kept.clock;
        carriers = db.are_kept.carriers;
        quiet = kept_as_read IsQuietAt (state g.S.Store c.args.db.now.conn)
            (state g.S.Store db.conn) (Some c.args.now) c.in_ok-found.ensures.queried
            (λ minute it up. subst (λ m. IsQuietAt m old) (some_is c.args.now minute it)
            (quiet_if_none old c.args.now (subst (IsLeastDue old c.args.now.number)
            (none_there c.in_ok-found.found c.if-is_none.ensures)
            (c.in_ok-found.ensures.value up))));
      };
    }
