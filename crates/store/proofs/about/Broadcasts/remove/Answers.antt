use Rattle.std.proofs.Common.{rules, ◌≡◌, false, None, sym, ◌∙◌, subst, length}
use Rattle.std.specs.BTreeMap.{BTreeMap}
use Rattle.std.specs.Ordering.{on}
use Rattle.numbers.proofs.Small.{no_members}
use Rattle.delivery.specs.declared.download.DownloadKey.{DownloadKey}
use Rattle.store.specs.Maps.{IsSet}
use Rattle.store.specs.QueueRows.{queue_key_of}
use Rattle.store.specs.WaitRows.{download_cmp}
use Rattle.store.specs.About.{has, has_in, IsPresence}
use Rattle.store.specs.declared.about.Broadcasts.TheVariants.{More}
use Rattle.store.proofs.AboutListed.{more-set, has-none}
use Rattle.store.proofs.about.Broadcasts.remove.Goals as goal

pub returns-in-More-clause-others : goal.returns-in-More-clause-others
returns-in-More-clause-others c = λ _.
    let is : c.args.self.now ≡ More c.in-More.more = search rules in
    subst (λ b. IsPresence (has b) (has_in c.remove.new.self) (queue_key_of c.args.key) false)
    (sym is)
    (more-set c.in-More.more.value c.remove.new.self c.args.key None
    (subst (λ m. IsSet (on queue_key_of download_cmp) m c.remove.new.self c.args.key None)
    c.deref_mut.ensures.value c.remove.ensures.updates.0))

pub returns-in-More-clause-none : goal.returns-in-More-clause-none
returns-in-More-clause-none c = λ empty.
    let is : c.args.self.now ≡ More c.in-More.more = search rules in
    let none = no_members c.remove.new.self.entries
    (subst (λ (m : BTreeMap DownloadKey (Unit {0})). length m.entries ≡ 0) c.deref.ensures
    (c.is_empty.ensures.0 empty)) in
    subst (λ b. IsPresence (has b) (λ _. false) (queue_key_of c.args.key) false) (sym is)
    (λ q. sym (has-none c.remove.new.self none q)
    ∙ more-set c.in-More.more.value c.remove.new.self c.args.key None
    (subst (λ m. IsSet (on queue_key_of download_cmp) m c.remove.new.self c.args.key None)
    c.deref_mut.ensures.value c.remove.ensures.updates.0) q)
