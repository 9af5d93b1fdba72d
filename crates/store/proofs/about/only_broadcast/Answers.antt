use Rattle.std.proofs.Common.{rules, ◌≡◌, Some, ap, sym, ◌∙◌}
use Rattle.std.specs.Ordering.{eq_by_cmp}
use Rattle.numbers.specs.Subjects.{subject_key}
use Rattle.delivery.specs.declared.download.DownloadKey.{DownloadKey}
use Rattle.store.specs.About.{broadcasts_of, has_at, key_in}
use Rattle.store.specs.QueueRows.{queue_key_of}
use Rattle.store.specs.Ranks.{subject_at}
use Rattle.store.specs.WaitRows.{download_cmp}
use Rattle.store.specs.declared.about.Broadcasts.TheVariants.{One}
use Rattle.store.proofs.Ranks.{key_ranked}
use Rattle.store.proofs.about.only_broadcast.Goals as goal

pub returns-then-sent-attempt : goal.returns-then-sent-attempt
returns-then-sent-attempt c =
    let one = c.in-Some-One in
    let version : one.own ≡ c.args.id = search rules in
    let sent : one.sent ≡ c.args.attempt = search rules in
    let there : broadcasts_of c.args.about.now.entries (subject_key (subject_at c.args.rank))
    ≡ Some (One one.minute one.own one.sent) =
    ap (broadcasts_of c.args.about.now.entries) (key_ranked c.args.rank.number)
    ∙ search rules in
    record {
      id = ap (λ (k : DownloadKey). k.id) c.key_with.ensures;
      attempt = ap (λ (k : DownloadKey). k.attempt) c.key_with.ensures;
      only = λ q. ap (λ o. has_at o q) there
          ∙ ap (λ k. eq_by_cmp download_cmp (queue_key_of k) q)
          ((λ i. key_in one.minute (version i) (sent i)) ∙ sym c.key_with.ensures);
    }
