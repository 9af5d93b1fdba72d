use Rattle.std.proofs.Common.{◌≡◌, ◌∙◌, ◌+◌, ◌++◌, map, drop, sym, subst}
use Rattle.std.specs.Prelude.{All}
use Rattle.std.proofs.lemmas.List.Elements.{All-push}
use Rattle.settle.specs.Abstraction.{spid_of}
use Rattle.report.specs.Carriers.{DescribesCarrier}
use Rattle.report.proofs.Carrying.{carriers_on, name_of}
use Rattle.report.proofs.carriers.read_carriers.Goals as goal

pub loop-spid-preserved : goal.loop-spid-preserved
loop-spid-preserved g c = record {
  same = λ usable.
      let at = c.read_carrier.ensures.same usable in
      let was = c.loop-spid.invariant.same at.0 in
      (was.0, at.1 ∙ was.1);
  all = subst (λ fs. map name_of fs
      ++ map spid_of (drop (c.loop-spid.spid-index + 1) c.deref-spid-items.result.now)
      ≡ map spid_of c.deref-spid-items.result.now) (sym c.in-Ok.ensures.items)
      (carriers_on c.loop-spid.figures.items c.deref-spid-items.result.now c.loop-spid.spid-index
      c.in_ok-carrier.carrier c.spid-item.result c.loop-spid-test.true c.spid-item.is
      c.in_ok-carrier.ensures.spid c.loop-spid.invariant.all);
  each = λ usable.
      let at = c.read_carrier.ensures.same usable in
      let was = c.loop-spid.invariant.same at.0 in
      let one = subst (λ m. DescribesCarrier m c.in_ok-carrier.carrier) was.1
      (c.in_ok-carrier.ensures.value usable) in
      let describes = DescribesCarrier (g.S.StoreModel.content c.carriers.new.self) in
      subst (All describes) (sym c.in-Ok.ensures.items)
      (All-push describes c.loop-spid.figures.items c.in_ok-carrier.carrier
      (c.loop-spid.invariant.each at.0) one);
}
