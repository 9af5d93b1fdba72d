use Rattle.std.proofs.Common.{◌≡◌, Some, take, get_or, sym, ◌∙◌, ap, subst, arith}
use Rattle.std.specs.Prelude.{option_map, IfSome}
use Rattle.std.specs.FinMap.{get}
use Rattle.numbers.specs.Abstraction.{subject_of}
use Rattle.model.proofs.KeyOrders.{wait_total, wait_exact}
use Rattle.settle.specs.Abstraction.{wait_key_of}
use Rattle.store.specs.Batch.{AreNew}
use Rattle.store.proofs.Maps.{set-same}
use Rattle.store.proofs.commit.put_next.Goals as goal

pub returns-in-Ok-Some-clause-refused : goal.returns-in-Ok-Some-clause-refused
returns-in-Ok-Some-clause-refused c =
    let all = c.args.downloads.now in
    let mid = c.put_run.new.self in
    let key = wait_key_of (get_or all 0 c.index-downloads-0.result).0 in
    let own = subject_of (get_or all 0 c.index-downloads-0-2.result).1 in
    let none : c.in_ok-count.count ≡ 0 = omega (arith, c.if-count-gt0.false) in
    let same : mid ≡ c.args.waits.now =
    subst (λ n. AreNew (take n all) c.args.waits.now mid) none
    c.in_ok-count.ensures.new in
    let there : get mid key ≡ Some own =
    sym c.in-Ok-Some.ensures.before ∙ ap (option_map subject_of) c.in-Ok-Some.field-0-is
    ∙ ap (λ s. Some s) (subst (λ o. IfSome o (λ was. subject_of was ≡ own))
    c.in-Ok-Some.field-0-is c.in-Ok-Some.ensures.same) in
    c.in-Ok-Some.ensures.ok ∙ set-same wait_total wait_exact mid key (Some own) there ∙ same
