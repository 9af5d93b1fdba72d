use Rattle.std.proofs.Common.{◌∙◌, Ok, ap, refl, subst}
use Rattle.std.proofs.Math.Nat.{le_refl}
use Rattle.settle.specs.StoreContract.{BeginsGroup, EndsGroup}
use Rattle.hub.specs.Hub.{connections_of, kept_connections}
use Rattle.hub.proofs.HubLemmas.{all_grouped, all_same, all_to, all_undone}
use Rattle.hub.proofs.RowsLemmas.{rows_grouped}
use Rattle.hub.proofs.Settled.{kept_same, settled_but}
use Rattle.hub.proofs.hub.Hub.execute_group.Goals as goal

pub returns-then-self-le1-clause-goes_on : goal.returns-then-self-le1-clause-goes_on
returns-then-self-le1-clause-goes_on g c = λ settled.
    let store = c.args.register.now.store in
    let members = c.args.self.now.members in
    all_same g.S.StoreModel store store (connections_of members) (kept_connections members)
    (le_refl (g.S.StoreModel.failed store)) (λ usable. refl)
    (kept_same members settled)

pub returns-in_default-clause-goes_on : goal.returns-in_default-clause-goes_on
returns-in_default-clause-goes_on g c = λ settled.
    let members = c.args.self.now.members in
    all_same g.S.StoreModel c.args.register.now.store c.begin_group.new.self.store
    (connections_of members) (kept_connections members) c.begin_group.ensures.rises
    (λ usable. (c.begin_group.ensures.same usable).1) (kept_same members settled)

pub returns-in_default-2-clause-goes_on : goal.returns-in_default-2-clause-goes_on
returns-in_default-2-clause-goes_on g c = λ settled.
    let members = c.args.self.now.members in
    all_same g.S.StoreModel c.args.register.now.store c.begin_group.new.self.store
    (connections_of members) (kept_connections members) c.begin_group.ensures.rises
    (λ usable. (c.begin_group.ensures.same usable).1) (kept_same members settled)

pub returns-in-Ok-clause-goes_on : goal.returns-in-Ok-clause-goes_on
returns-in-Ok-clause-goes_on g c = λ settled.
    let store = g.S.StoreModel in
    all_grouped store c.args.register.now.store c.begin_group.new.self.store
    c.execute_ahead.new.register.store c.end_group.new.self.store
    (connections_of c.args.self.now.members) (kept_connections c.execute_ahead.new.self.members)
    (subst (BeginsGroup store c.args.register.now.store c.begin_group.new.self.store)
    (c.in-Ok-true.is ∙ ap Ok c.in-Ok-true.field-0-test) c.begin_group.ensures)
    c.execute_ahead.ensures.follows _
    (subst (EndsGroup store c.execute_ahead.new.register.store c.end_group.new.self.store)
    c.in-Ok.is c.end_group.ensures) (c.execute_ahead.ensures.goes_on settled)

pub returns-in-Ok-clause-follows : goal.returns-in-Ok-clause-follows
returns-in-Ok-clause-follows g c =
    let store = g.S.StoreModel in
    rows_grouped store c.args.register.now.store c.begin_group.new.self.store
    c.execute_ahead.new.register.store c.end_group.new.self.store
    (subst (BeginsGroup store c.args.register.now.store c.begin_group.new.self.store)
    (c.in-Ok-true.is ∙ ap Ok c.in-Ok-true.field-0-test) c.begin_group.ensures)
    c.execute_ahead.ensures.follows c.execute_ahead.ensures.begins c.execute_ahead.ensures.ends
    c.end_group.result c.end_group.ensures

pub returns-in-Err-clause-goes_on : goal.returns-in-Err-clause-goes_on
returns-in-Err-clause-goes_on g c = λ settled.
    let store = g.S.StoreModel in
    let before = connections_of c.args.self.now.members in
    all_to store c.args.register.now.store c.end_group.new.self.store before before
    (kept_connections c.drop_ahead.new.self.members)
    (λ place. kept_same c.drop_ahead.new.self.members (c.drop_ahead.ensures.settled
    (c.execute_ahead.ensures.ahead settled)) place
    ∙ c.drop_ahead.ensures.dropped place ∙ c.execute_ahead.ensures.stays place)
    (all_undone store c.args.register.now.store c.begin_group.new.self.store
    c.execute_ahead.new.register.store c.end_group.new.self.store before before
    (subst (BeginsGroup store c.args.register.now.store c.begin_group.new.self.store)
    (c.in-Ok-true.is ∙ ap Ok c.in-Ok-true.field-0-test) c.begin_group.ensures)
    c.execute_ahead.ensures.follows _
    (subst (EndsGroup store c.execute_ahead.new.register.store c.end_group.new.self.store)
    c.in-Err.is c.end_group.ensures) c.execute_ahead.ensures.begins
    c.execute_ahead.ensures.ends)

pub returns-in-Err-clause-follows : goal.returns-in-Err-clause-follows
returns-in-Err-clause-follows g c =
    let store = g.S.StoreModel in
    rows_grouped store c.args.register.now.store c.begin_group.new.self.store
    c.execute_ahead.new.register.store c.end_group.new.self.store
    (subst (BeginsGroup store c.args.register.now.store c.begin_group.new.self.store)
    (c.in-Ok-true.is ∙ ap Ok c.in-Ok-true.field-0-test) c.begin_group.ensures)
    c.execute_ahead.ensures.follows c.execute_ahead.ensures.begins c.execute_ahead.ensures.ends
    c.end_group.result c.end_group.ensures

pub returns-in-Err-clause-ahead : goal.returns-in-Err-clause-ahead
returns-in-Err-clause-ahead g c = λ settled. settled_but c.drop_ahead.new.self.members
    c.args.keys.now (c.drop_ahead.ensures.settled (c.execute_ahead.ensures.ahead settled))

pub returns-in-Err-clause-undone : goal.returns-in-Err-clause-undone
returns-in-Err-clause-undone g c = λ undone settled.
    c.drop_ahead.ensures.settled (c.execute_ahead.ensures.ahead settled)
