use Rattle.std.proofs.Common.{◌≡◌, true, ap, ◌∙◌, subst}
use Rattle.std.specs.Ordering.{eq_by_cmp}
use Rattle.numbers.specs.Abstraction.{subject_of}
use Rattle.store.specs.About.{IsKey, about_of}
use Rattle.store.specs.QueueRows.{has_key}
use Rattle.store.specs.WaitRows.{download_cmp}
use Rattle.store.proofs.waits.add_keys.Goals as goal

pub returns-in-Ok-clause-ok : goal.returns-in-Ok-clause-ok
returns-in-Ok-clause-ok c = (
  subst (λ d. IsKey (about_of c.args.about.now.entries)
      (about_of c.add_broadcast.new.about.entries) (subject_of c.args.subject) d true)
      c.queue_key-own.ensures c.in-Ok.ensures.ok,
  (
    subst (λ d. has_key c.put.new.self d ≡ true) c.queue_key-own.ensures
        c.in_ok-put.ensures.there,
    c.put.ensures.keeps,
  ),
)

pub returns-in-Err-clause-err : goal.returns-in-Err-clause-err
returns-in-Err-clause-err c = (
  c.in-Err.ensures.err,
  λ q apart is. c.delete.ensures.keeps q
      (ap (λ d. eq_by_cmp download_cmp d q) c.queue_key-own.ensures ∙ apart)
      (c.put.ensures.keeps q is),
)
