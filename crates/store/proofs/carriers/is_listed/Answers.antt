use Rattle.store.proofs.CarrierLists.{all-looked-at, none-looked-at, one-looked-at}
use Rattle.store.proofs.carriers.is_listed.Goals as goal

pub loop-each-init : goal.loop-each-init
loop-each-init c = none-looked-at c.args.all.now c.args.number

pub loop-each-preserved : goal.loop-each-preserved
loop-each-preserved c =
    one-looked-at c.args.all.now c.args.number c.loop-each.each-index c.loop-each.is_listed
    c.each-item.result c.loop-each-test.true c.each-item.is c.loop-each.invariant

pub returns : goal.returns
returns c =
    all-looked-at c.args.all.now c.args.number c.loop-each.each-index c.loop-each.is_listed
    c.loop-each-test.false c.loop-each.invariant
