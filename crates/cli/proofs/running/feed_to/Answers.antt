use Rattle.std.specs.Io.Buffered.{writer_buffer, writer_inner}
use Rattle.cli.proofs.Fed.{at_zero, flushed, not_flushed}
use Rattle.cli.proofs.running.feed_to.Goals as goal

pub returns-in-Ok-clause-feeds : goal.returns-in-Ok-clause-feeds
returns-in-Ok-clause-feeds g c = λ usable before after w refines.
    flushed w (g.R.Read.remaining c.serve-served.new.reader) _ _
    (g.W.Write.contents (writer_inner c.flush.new.self)) (writer_buffer c.flush.new.self)
    c.flush.ensures.bytes (g.S.StoreModel.content c.serve-served.new.register.store)
    _ c.serve-served.result c.serving_outcome.result c.in-Ok.ensures.ok
    c.serving_outcome.ensures.outcome
    (at_zero w _ _ _ _ _ _ _ _ before after (c.serve-served.ensures.serves usable _ refines))

pub returns-in-Err-clause-feeds : goal.returns-in-Err-clause-feeds
returns-in-Err-clause-feeds g c = λ usable before after w refines.
    not_flushed w (g.R.Read.remaining c.serve-served.new.reader) _ _
    (g.W.Write.contents (writer_inner c.flush.new.self)) (writer_buffer c.flush.new.self)
    c.flush.ensures.bytes (g.S.StoreModel.content c.serve-served.new.register.store)
    _ c.serve-served.result (at_zero w _ _ _ _ _ _ _ _ before after
    (c.serve-served.ensures.serves usable _ refines))
