use Rattle.std.proofs.Common.{false, ap, ◌∙◌, subst}
use Rattle.std.specs.Ordering.{eq_by_cmp}
use Rattle.numbers.specs.Abstraction.{subject_of}
use Rattle.store.specs.About.{IsKey, about_of}
use Rattle.store.specs.WaitRows.{download_cmp}
use Rattle.store.proofs.waits.remove_keys.Goals as goal

pub returns : goal.returns
returns c = (
  subst (λ d. IsKey (about_of c.args.about.now.entries)
      (about_of c.remove_broadcast.new.about.entries) (subject_of c.args.subject) d false)
      c.queue_key.ensures c.remove_broadcast.ensures,
  λ q apart is. c.delete.ensures.keeps q
      (ap (λ d. eq_by_cmp download_cmp d q) c.queue_key-2.ensures ∙ apart) is,
)
