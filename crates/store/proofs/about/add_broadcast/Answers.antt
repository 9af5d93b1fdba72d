use Rattle.std.proofs.Common.{rules, ◌≡◌, ℕ, Bool, true, false, cond, Some, None, refl, ap, sym, ◌∙◌, subst}
use Rattle.std.specs.Prelude.{◌==◌}
use Rattle.std.specs.Ordering.{eq_by_cmp}
use Rattle.numbers.specs.Abstraction.{subject_of, key_of}
use Rattle.store.specs.QueueRows.{queue_key_of}
use Rattle.store.specs.WaitRows.{download_cmp}
use Rattle.store.specs.About.{has_at, broadcasts_of}
use Rattle.store.proofs.AboutListed.{about-set, about-same}
use Rattle.store.proofs.Steps.{err-then}
use Rattle.store.proofs.about.add_broadcast.Goals as goal

first : (b : Bool) → b ≡ cond b true false
first true = refl
first false = refl

pub returns-in-Some-clause-err : goal.returns-in-Some-clause-err
returns-in-Some-clause-err c =
    let is : (r : ℕ) → broadcasts_of (c.get_mut.follows.lender c.add.new.self).entries r
    ≡ cond (c.rank_of-rank.result == r) (Some c.add.new.self)
    (broadcasts_of c.args.about.now.entries r) = search rules in
    let there : broadcasts_of c.args.about.now.entries (key_of c.args.subject)
    ≡ Some c.in-Some.broadcasts.now =
    ap (broadcasts_of c.args.about.now.entries) (sym c.rank_of-rank.ensures) ∙ search rules in
    err-then c.add.result (λ same. about-same c.args.about.now.entries
    (c.get_mut.follows.lender c.add.new.self).entries (subject_of c.args.subject)
    (Some c.add.new.self)
    (λ r. is r ∙ ap (λ n. cond (n == r) (Some c.add.new.self)
    (broadcasts_of c.args.about.now.entries r)) c.rank_of-rank.ensures)
    (λ q. same q ∙ ap (λ o. has_at o q) (sym there)))
    c.add.ensures.err

pub returns-in-Ok-clause-ok : goal.returns-in-Ok-clause-ok
returns-in-Ok-clause-ok c =
    let one = c.one.result in
    let is : (r : ℕ) → broadcasts_of c.insert.new.self.entries r
    ≡ cond (c.rank_of-rank.result == r) (Some one)
    (broadcasts_of c.args.about.now.entries r) =
    subst (λ m. (r : ℕ) → broadcasts_of c.insert.new.self.entries r
    ≡ cond (c.rank_of-rank.result == r) (Some one) (broadcasts_of m.entries r))
    c.get_mut.follows.holds-at-none c.in-Ok.ensures.updates.0 in
    let none : broadcasts_of c.args.about.now.entries (key_of c.args.subject) ≡ None =
    ap (broadcasts_of c.args.about.now.entries) (sym c.rank_of-rank.ensures) ∙ search rules in
    about-set c.args.about.now.entries c.insert.new.self.entries (subject_of c.args.subject)
    (Some one)
    (λ r. is r ∙ ap (λ n. cond (n == r) (Some one)
    (broadcasts_of c.args.about.now.entries r)) c.rank_of-rank.ensures)
    (queue_key_of c.args.key) true
    (λ q. c.one.ensures q ∙ first (eq_by_cmp download_cmp (queue_key_of c.args.key) q)
    ∙ ap (λ o. cond (eq_by_cmp download_cmp (queue_key_of c.args.key) q) true (has_at o q))
    (sym none))
