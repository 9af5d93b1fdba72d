use Rattle.std.proofs.Common.{rules, ◌≡◌, true, Some, sym, subst}
use Rattle.std.specs.Ordering.{on}
use Rattle.store.specs.Maps.{IsSet}
use Rattle.store.specs.QueueRows.{queue_key_of}
use Rattle.store.specs.WaitRows.{download_cmp}
use Rattle.store.specs.About.{has, has_in, IsPresence}
use Rattle.store.specs.declared.about.Broadcasts.TheVariants.{One, More}
use Rattle.store.proofs.AboutListed.{more-set, two-keys}
use Rattle.store.proofs.about.Broadcasts.add.Goals as goal

pub returns-in_ok-new-in-One-clause-ok : goal.returns-in_ok-new-in-One-clause-ok
returns-in_ok-new-in-One-clause-ok c =
    let is : c.args.self.now ≡ One c.in-One.minute c.in-One.id c.in-One.attempt = search rules in
    subst (λ b. IsPresence (has b) (has_in c.in_ok-new-in-One.field-0.value)
    (queue_key_of c.args.key) true) (sym is)
    (subst (λ m. IsPresence (has (One c.in-One.minute c.in-One.id c.in-One.attempt)) (has_in m)
    (queue_key_of c.args.key) true) (sym c.in_ok-new-in-One.ensures.ok)
    (two-keys c.in-One.minute c.in-One.id c.in-One.attempt c.args.key c.new-more.result
    c.insert.new.self c.insert-then-ne.new.self c.new-more.ensures.empty
    (subst (λ k. IsSet (on queue_key_of download_cmp) c.new-more.result c.insert.new.self k
    (Some tt)) c.key_with-own.ensures c.in_ok-insert-in-One.ensures.updates.0)
    c.in_ok-insert-in-One-2.ensures.updates.0))

pub returns-in_ok-insert-in-More-clause-ok : goal.returns-in_ok-insert-in-More-clause-ok
returns-in_ok-insert-in-More-clause-ok c =
    let is : c.args.self.now ≡ More c.in-More.more = search rules in
    subst (λ b. IsPresence (has b) (has_in c.insert-in-More.new.self) (queue_key_of c.args.key)
    true) (sym is)
    (more-set c.in-More.more.value c.insert-in-More.new.self c.args.key (Some tt)
    (subst (λ m. IsSet (on queue_key_of download_cmp) m c.insert-in-More.new.self c.args.key
    (Some tt)) c.deref_mut.ensures.value c.in_ok-insert-in-More.ensures.updates.0))
