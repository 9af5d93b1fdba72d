use Rattle.std.proofs.Common.{◌∙◌, refl}
use Rattle.std.proofs.Math.Nat.{le_refl}
use Rattle.std.proofs.lemmas.List.Elements.{Contains-get_or}
use Rattle.hub.specs.Hub.{connections_of, kept_connections}
use Rattle.hub.proofs.HubLemmas.{all_same, all_then}
use Rattle.hub.proofs.RowsLemmas.{rows_stay, rows_then}
use Rattle.hub.proofs.Settled.{but_turned, kept_same, settled_but}
use Rattle.hub.proofs.hub.Hub.execute_ahead.Goals as goal

pub loop-key-init : goal.loop-key-init
loop-key-init g c =
    let store = c.args.register.now.store in
    let members = c.args.self.now.members in
    record {
      goes_on = λ settled. all_same g.S.StoreModel store store (connections_of members)
          (kept_connections members) (le_refl (g.S.StoreModel.failed store)) (λ usable. refl)
          (kept_same members settled);
      stays = λ place. refl;
      ahead = λ settled. settled_but members c.args.keys.now settled;
      follows = rows_stay g.S.StoreModel store;
      begins = λ m inside. inside;
      ends = λ usable m inside. inside;
    }

pub loop-key-preserved : goal.loop-key-preserved
loop-key-preserved g c = record {
  goes_on = λ settled. all_then g.S.StoreModel c.args.register.now.store c.loop-key.register.store
      c.execute_at.new.register.store (connections_of c.args.self.now.members)
      (kept_connections c.loop-key.self.members)
      (kept_connections c.execute_at.new.self.members) c.execute_at.ensures.follows.usable
      (c.loop-key.invariant.goes_on settled) c.execute_at.ensures.goes_on;
  stays = λ place. c.execute_at.ensures.stays place ∙ c.loop-key.invariant.stays place;
  ahead = λ settled. but_turned c.loop-key.self.members c.execute_at.new.self.members _
      c.execute_at.ensures.others c.args.keys.now
      (Contains-get_or c.args.keys.now c.loop-key.key-index 0 c.loop-key-test.true)
      (c.loop-key.invariant.ahead settled);
  follows = rows_then g.S.StoreModel _ c.loop-key.register.store _ c.loop-key.invariant.follows
      c.execute_at.ensures.follows;
  begins = λ m inside. c.loop-key.invariant.begins m (c.execute_at.ensures.begins m inside);
  ends = λ usable m inside. c.execute_at.ensures.ends usable m
      (c.loop-key.invariant.ends (c.execute_at.ensures.follows.usable usable) m inside);
}
