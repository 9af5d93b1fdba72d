use Rattle.std.proofs.Common.{true, false, sym, ◌∙◌, subst}
use Rattle.settle.specs.Abstraction.{wait_key_of}
use Rattle.register.specs.Acknowledging.{IsMissing}
use Rattle.settle.proofs.ReadOn.{reads_then}
use Rattle.register.proofs.Downloads.Receipts.{taken_by}
use Rattle.register.proofs.acknowledgement.acknowledge_download.Goals as goal

pub returns-then-branch-clause-taken : goal.returns-then-branch-clause-taken
returns-then-branch-clause-taken g c = λ usable.
    let first =
    c.in_ok-is_last_wait.ensures.looks_up.read_only.same (c.acknowledge_last.ensures.read_only.same
    usable).0 in
    taken_by true (g.S.StoreModel.content c.args.store.now)
    (g.S.StoreModel.content c.is_last_wait.new.self) _
    _ (wait_key_of c.args.wait) _ _ c.acknowledge_last.result first.1
    (sym c.if-branch.true ∙ c.in_ok-is_last_wait.ensures.value
    (c.acknowledge_last.ensures.read_only.same usable).0) (c.acknowledge_last.ensures.taken usable)

pub returns-then-branch-clause-read_only : goal.returns-then-branch-clause-read_only
returns-then-branch-clause-read_only g c =
    reads_then c.in_ok-is_last_wait.ensures.looks_up.read_only tt
    c.acknowledge_last.ensures.read_only
    (λ (usable, there, said).
    let first = c.in_ok-is_last_wait.ensures.looks_up.read_only.same (c.acknowledge_last.ensures.read_only.same usable).0 in (
      usable,
      (λ missing. there (subst (λ m. IsMissing m (wait_key_of c.args.wait)) first.1
          missing)),
      said,
    ))

pub returns-else-branch-clause-taken : goal.returns-else-branch-clause-taken
returns-else-branch-clause-taken g c = λ usable.
    let first =
    c.in_ok-is_last_wait.ensures.looks_up.read_only.same (c.acknowledge_one.ensures.read_only.same
    usable).0 in
    taken_by false (g.S.StoreModel.content c.args.store.now)
    (g.S.StoreModel.content c.is_last_wait.new.self)
    _ _ (wait_key_of c.args.wait) _ _ c.acknowledge_one.result first.1
    (sym c.if-branch.false ∙ c.in_ok-is_last_wait.ensures.value
    (c.acknowledge_one.ensures.read_only.same usable).0) (c.acknowledge_one.ensures.taken usable)

pub returns-else-branch-clause-read_only : goal.returns-else-branch-clause-read_only
returns-else-branch-clause-read_only g c =
    reads_then c.in_ok-is_last_wait.ensures.looks_up.read_only tt
    c.acknowledge_one.ensures.read_only
    (λ (usable, there, said).
    let first = c.in_ok-is_last_wait.ensures.looks_up.read_only.same (c.acknowledge_one.ensures.read_only.same usable).0 in (
      usable,
      (λ missing. there (subst (λ m. IsMissing m (wait_key_of c.args.wait)) first.1
          missing)),
      said,
    ))
