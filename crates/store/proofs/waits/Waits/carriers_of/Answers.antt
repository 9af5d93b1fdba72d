use Rattle.std.proofs.Common.{rules, ◌≡◌, Bool, true, false, cond, refl, Some, None, ap, sym, ◌∙◌}
use Rattle.std.specs.Prelude.{is_some, ◌==◌}
use Rattle.std.specs.List.{list_any}
use Rattle.std.specs.FinMap.{get}
use Rattle.numbers.specs.declared.spid.Spid.{Spid}
use Rattle.settle.specs.Abstraction.{wait_key_of}
use Rattle.store.specs.WaitRows.{download_of, wait_for, spids_of}
use Rattle.store.proofs.OneRow.{any-seen}
use Rattle.store.proofs.WaitsKept.{wait-at}
use Rattle.store.proofs.waits.Waits.carriers_of.Goals as goal

is_there : {X : Type 0} (b : Bool) (x : X) → is_some (cond b (Some x) None) ≡ b
is_there true x = refl
is_there false x = refl

pub returns-in-None : goal.returns-in-None
returns-in-None c = λ carrier.
    ap (λ m. is_some (get m (wait_for (download_of (wait_key_of c.args.key)) carrier)))
    (sym c.self.view_is)
    ∙ ap is_some (wait-at c.self.inside.rows.entries c.broadcast_of.result
    (wait_for (download_of (wait_key_of c.args.key)) carrier) None c.broadcast_of.ensures
    (search rules))

pub returns-in-Some : goal.returns-in-Some
returns-in-Some c = λ carrier.
    ap (λ m. is_some (get m (wait_for (download_of (wait_key_of c.args.key)) carrier)))
    (sym c.self.view_is)
    ∙ ap is_some (wait-at c.self.inside.rows.entries c.broadcast_of.result
    (wait_for (download_of (wait_key_of c.args.key)) carrier) (Some c.in-Some.row.now)
    c.broadcast_of.ensures (search rules))
    ∙ is_there _ _
    ∙ any-seen carrier (spids_of c.in-Some.row.now)
    ∙ sym (ap (list_any (λ (k : Spid). carrier == k.number)) c.carriers.ensures)
