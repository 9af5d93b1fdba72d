use Rattle.std.proofs.Common.{rules, ◌≡◌, true, false, sym, ◌∙◌, subst, ap}
use Rattle.std.specs.Prelude.{[], ◌∷◌, filter}
use Rattle.std.specs.List.Sorted.{IsStrictlySortedBy}
use Rattle.std.specs.Ordering.{on}
use Rattle.store.specs.QueueRows.{queue_key_of}
use Rattle.store.specs.WaitRows.{is_for, download_cmp}
use Rattle.store.specs.About.{keys_in}
use Rattle.store.proofs.AboutListed.{only-one, one-rises}
use Rattle.store.proofs.about.pending_among.Goals as goal

pub returns-then-is_for : goal.returns-then-is_for
returns-then-is_for c =
    let key = c.key_with-key.result in
    let is : keys_in c.args.broadcasts.now ≡ key ∷ [] =
    ap keys_in c.in-One.is ∙ ap (λ k. k ∷ []) (sym c.key_with-key.ensures) in
    let own : is_for c.args.rows.now.entries key c.args.carrier c.args.subject ≡ true =
    search rules in (
      only-one (λ k. is_for c.args.rows.now.entries k c.args.carrier c.args.subject) key true own
          ∙ ap (filter (λ k. is_for c.args.rows.now.entries k c.args.carrier c.args.subject))
          (sym is),
      subst (IsStrictlySortedBy (on queue_key_of download_cmp)) (sym is) (one-rises key),
    )

pub returns-else-is_for : goal.returns-else-is_for
returns-else-is_for c =
    let key = c.key_with-key.result in
    let is : keys_in c.args.broadcasts.now ≡ key ∷ [] =
    ap keys_in c.in-One.is ∙ ap (λ k. k ∷ []) (sym c.key_with-key.ensures) in
    let own : is_for c.args.rows.now.entries key c.args.carrier c.args.subject ≡ false =
    search rules in (
      only-one (λ k. is_for c.args.rows.now.entries k c.args.carrier c.args.subject) key false own
          ∙ ap (filter (λ k. is_for c.args.rows.now.entries k c.args.carrier c.args.subject))
          (sym is),
      subst (IsStrictlySortedBy (on queue_key_of download_cmp)) (sym is) (one-rises key),
    )
