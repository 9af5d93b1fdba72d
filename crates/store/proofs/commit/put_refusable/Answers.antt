use Rattle.std.proofs.Common.{Some, ap, sym, ◌∙◌}
use Rattle.std.specs.Prelude.{◌==◌, option_map}
use Rattle.std.specs.FinMap.{get}
use Rattle.settle.specs.Abstraction.{spid_of}
use Rattle.settle.specs.Changes.{put_row}
use Rattle.store.proofs.CarrierLists.{added-back, added-same}
use Rattle.store.proofs.Changed.{set_number}
use Rattle.store.proofs.commit.put_refusable.Goals as goal

pub returns-in-Ok-clause-carriers : goal.returns-in-Ok-clause-carriers
returns-in-Ok-clause-carriers c k =
    ap (λ m. get m k) c.in_ok-is_new.ensures.ok
    ∙ set_number c.args.carriers.now (spid_of c.in-Some.carrier) (Some tt) k
    ∙ ap (λ o. put_row ◌==◌ (option_map (λ s. (s, tt)) (option_map spid_of o)) k
    (get c.args.carriers.now k)) (sym c.in-Some.is)

pub returns-then-is_new-clause-refused_carriers : goal.returns-then-is_new-clause-refused_carriers
returns-then-is_new-clause-refused_carriers c =
    added-back c.args.carriers.now c.add.new.self c.remove.new.self (spid_of c.in-Some.carrier)
    (sym c.if-is_new.true ∙ c.in_ok-is_new.ensures.absent) c.in_ok-is_new.ensures.ok
    c.remove.ensures

pub returns-else-is_new-clause-refused_carriers : goal.returns-else-is_new-clause-refused_carriers
returns-else-is_new-clause-refused_carriers c =
    added-same c.args.carriers.now c.add.new.self (spid_of c.in-Some.carrier)
    (sym c.if-is_new.false ∙ c.in_ok-is_new.ensures.absent) c.in_ok-is_new.ensures.ok
