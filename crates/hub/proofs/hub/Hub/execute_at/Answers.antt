use Rattle.std.proofs.Common.{◌≡◌, Some, ap, refl, subst, sym}
use Rattle.std.specs.Prelude.{IsSome, option_map}
use Rattle.std.proofs.Math.Nat.{le_refl}
use Rattle.slab.specs.Slab.{get, with_value}
use Rattle.slab.proofs.SlabLemmas.{Updates-with_value}
use Rattle.hub.specs.Connections.{kept_of}
use Rattle.hub.specs.Hub.{kept_connections}
use Rattle.hub.proofs.HubLemmas.{all_same, one_goes}
use Rattle.hub.proofs.hub.Hub.execute_at.Goals as goal

pub returns-in-Some-clause-goes_on : goal.returns-in-Some-clause-goes_on
returns-in-Some-clause-goes_on g c =
    let members = c.args.self.now.members in
    let was : get members c.args.key ≡ Some c.in-Some.member.now = sym c.in-Some.ensures.value in
    let updates = Updates-with_value members c.args.key c.execute_ahead.new.self
    (subst IsSome (sym was) refl) in
    one_goes g.S.StoreModel c.args.register.now.store c.execute_ahead.new.register.store
    (kept_connections members)
    (kept_connections (with_value members c.args.key c.execute_ahead.new.self)) c.args.key
    (kept_of c.in-Some.member.now.connection) (kept_of c.execute_ahead.new.self.connection)
    (ap (option_map (λ m. kept_of m.connection)) was)
    (ap (option_map (λ m. kept_of m.connection)) updates.changed)
    (λ place apart. ap (option_map (λ m. kept_of m.connection)) (updates.others place apart))
    c.execute_ahead.ensures.goes_on

pub returns-in_default-clause-goes_on : goal.returns-in_default-clause-goes_on
returns-in_default-clause-goes_on g c =
    let store = c.args.register.now.store in
    let members = kept_connections c.args.self.now.members in
    all_same g.S.StoreModel store store members members (le_refl (g.S.StoreModel.failed store))
    (λ usable. refl) (λ key. refl)
