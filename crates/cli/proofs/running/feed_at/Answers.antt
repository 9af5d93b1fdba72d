use Rattle.std.proofs.Common.{◌≡◌, ℕ, subst, sym, true}
use Rattle.std.specs.Prelude.{IfSome}
use Rattle.numbers.proofs.Small.{impossible}
use Rattle.model.specs.State.{first_state}
use Rattle.sql_rows.specs.Content.{content_in}
use Rattle.sql_store.specs.Groups.{has_begun}
use Rattle.sqlite.specs.Files.{file_state}
use Rattle.version.specs.Abstraction.{windows_of}
use Rattle.cli.specs.Feeding.{FeedsInGroups, io_of_feed}
use Rattle.cli.proofs.running.feed_at.Goals as goal

pub returns-clause-feeds : goal.returns-clause-feeds
returns-clause-feeds g c = λ clean sound up empty.
    subst (λ (n : ℕ). IfSome (g.R.Read.remaining c.args.reader.now) (λ input.
    FeedsInGroups n c.feed_in_groups.result.0.failures
    (first_state (windows_of c.args.windows.now))
    (content_in (file_state c.feed_in_groups.result.0.db.conn).now.trees)
    (io_of_feed input (g.R.Read.remaining c.feed_in_groups.new.reader)
    (g.W.Write.contents c.args.writer.now) (g.W.Write.contents c.feed_in_groups.new.writer))
    c.feed_in_groups.result.1)) c.in_ok-store.ensures.none.0
    (c.feed_in_groups.ensures.feeds (sound, up)
    (c.in_ok-store.ensures.new (c.feed_in_groups.ensures.honest clean) empty))

pub returns-clause-lasts : goal.returns-clause-lasts
returns-clause-lasts g c = λ sound up m left.
    c.feed_in_groups.ensures.lasts (sound, up)
    (λ (at, inside). impossible (sym (subst (λ group. has_begun group ≡ true)
    c.in_ok-store.ensures.none.1 inside.0))) m left
