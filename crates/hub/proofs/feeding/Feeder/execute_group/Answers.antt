use Rattle.std.proofs.Common.{◌∙◌, [], Ok, Some, ap, refl, subst, sym, true}
use Rattle.settle.specs.StoreContract.{BeginsGroup, EndsGroup}
use Rattle.hub.specs.Connections.{connection_of, kept_of}
use Rattle.hub.specs.Feeding.{GoesOn}
use Rattle.hub.proofs.Fed.{goes_grouped, goes_same, goes_undone}
use Rattle.hub.proofs.LeftFed.{left_grouped}
use Rattle.hub.proofs.RowsLemmas.{rows_grouped}
use Rattle.hub.proofs.feeding.Feeder.execute_group.Goals as goal

pub returns-in_default-clause-goes_on : goal.returns-in_default-clause-goes_on
returns-in_default-clause-goes_on g c =
    goes_same true (Some []) g.S.StoreModel c.args.register.now.store c.begin_group.new.self.store
    _ _ refl
    c.begin_group.ensures.rises (λ usable. (c.begin_group.ensures.same usable).1)

pub returns-in_default-2-clause-goes_on : goal.returns-in_default-2-clause-goes_on
returns-in_default-2-clause-goes_on g c =
    goes_same true (Some []) g.S.StoreModel c.args.register.now.store c.begin_group.new.self.store
    _ _ refl
    c.begin_group.ensures.rises (λ usable. (c.begin_group.ensures.same usable).1)

pub returns-in-Err-clause-goes_on : goal.returns-in-Err-clause-goes_on
returns-in-Err-clause-goes_on g c =
    let store = g.S.StoreModel in
    let before = connection_of c.args.self.now.connection in
    subst (GoesOn true (Some []) store c.args.register.now.store c.end_group.new.self.store before)
    (sym (c.drop_ahead.ensures.dropped ∙ c.execute_some.ensures.stays))
    (goes_undone true (Some []) store c.args.register.now.store c.begin_group.new.self.store
    c.execute_some.new.register.store c.end_group.new.self.store before before
    (subst (BeginsGroup store c.args.register.now.store c.begin_group.new.self.store)
    (c.in-Ok-true.is ∙ ap Ok c.in-Ok-true.field-0-test) c.begin_group.ensures)
    c.execute_some.ensures.follows _
    (subst (EndsGroup store c.execute_some.new.register.store c.end_group.new.self.store)
    c.in-Err.is c.end_group.ensures)
    c.execute_some.ensures.begins c.execute_some.ensures.ends)

pub returns-in-Err-clause-follows : goal.returns-in-Err-clause-follows
returns-in-Err-clause-follows g c =
    let store = g.S.StoreModel in
    rows_grouped store c.args.register.now.store c.begin_group.new.self.store
    c.execute_some.new.register.store c.end_group.new.self.store
    (subst (BeginsGroup store c.args.register.now.store c.begin_group.new.self.store)
    (c.in-Ok-true.is ∙ ap Ok c.in-Ok-true.field-0-test) c.begin_group.ensures)
    c.execute_some.ensures.follows c.execute_some.ensures.begins c.execute_some.ensures.ends
    c.end_group.result c.end_group.ensures

pub returns-in-Ok-clause-follows : goal.returns-in-Ok-clause-follows
returns-in-Ok-clause-follows g c =
    let store = g.S.StoreModel in
    rows_grouped store c.args.register.now.store c.begin_group.new.self.store
    c.execute_some.new.register.store c.end_group.new.self.store
    (subst (BeginsGroup store c.args.register.now.store c.begin_group.new.self.store)
    (c.in-Ok-true.is ∙ ap Ok c.in-Ok-true.field-0-test) c.begin_group.ensures)
    c.execute_some.ensures.follows c.execute_some.ensures.begins c.execute_some.ensures.ends
    c.end_group.result c.end_group.ensures

pub returns-in-Ok-clause-goes_on : goal.returns-in-Ok-clause-goes_on
returns-in-Ok-clause-goes_on g c =
    let store = g.S.StoreModel in
    goes_grouped true (Some []) store c.args.register.now.store c.begin_group.new.self.store
    c.execute_some.new.register.store c.end_group.new.self.store
    (connection_of c.args.self.now.connection) (connection_of c.keep_ahead.new.self)
    (subst (BeginsGroup store c.args.register.now.store c.begin_group.new.self.store)
    (c.in-Ok-true.is ∙ ap Ok c.in-Ok-true.field-0-test) c.begin_group.ensures)
    c.execute_some.ensures.follows _
    (subst (EndsGroup store c.execute_some.new.register.store c.end_group.new.self.store)
    c.in-Ok.is c.end_group.ensures)
    (subst (GoesOn true (Some []) store c.begin_group.new.self.store
    c.execute_some.new.register.store
    (connection_of c.args.self.now.connection)) (sym c.keep_ahead.ensures.kept)
    c.execute_some.ensures.goes_on)

pub returns-in-Err-clause-left : goal.returns-in-Err-clause-left
returns-in-Err-clause-left g c =
    let store = g.S.StoreModel in
    let before = connection_of c.args.self.now.connection in
    left_grouped store c.args.register.now.store c.begin_group.new.self.store
    c.execute_some.new.register.store c.end_group.new.self.store before
    (kept_of c.execute_some.new.connection) c.end_group.result
    (subst (BeginsGroup store c.args.register.now.store c.begin_group.new.self.store)
    (c.in-Ok-true.is ∙ ap Ok c.in-Ok-true.field-0-test) c.begin_group.ensures)
    c.execute_some.ensures.follows c.execute_some.ensures.goes_on c.execute_some.ensures.left
    c.end_group.ensures

pub returns-in-Ok-clause-left : goal.returns-in-Ok-clause-left
returns-in-Ok-clause-left g c =
    let store = g.S.StoreModel in
    let before = connection_of c.args.self.now.connection in
    left_grouped store c.args.register.now.store c.begin_group.new.self.store
    c.execute_some.new.register.store c.end_group.new.self.store before
    (kept_of c.execute_some.new.connection) c.end_group.result
    (subst (BeginsGroup store c.args.register.now.store c.begin_group.new.self.store)
    (c.in-Ok-true.is ∙ ap Ok c.in-Ok-true.field-0-test) c.begin_group.ensures)
    c.execute_some.ensures.follows c.execute_some.ensures.goes_on c.execute_some.ensures.left
    c.end_group.ensures
