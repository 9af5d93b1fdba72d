use Rattle.std.proofs.Common.{rules, ◌≡◌, Some, None, ap, sym, ◌∙◌, option_map}
use Rattle.numbers.specs.Abstraction.{subject_of}
use Rattle.std.specs.FinMap.{get}
use Rattle.settle.specs.Abstraction.{wait_key_of}
use Rattle.store.proofs.WaitsKept.{wait-at}
use Rattle.store.proofs.waits.Waits.get.Goals as goal

pub returns-in_err-get : goal.returns-in_err-get
returns-in_err-get c =
    let nothing : c.from_residual.result ≡ None = search rules in
    (λ i. option_map subject_of (nothing i))
    ∙ sym (wait-at c.self.inside.rows.entries c.broadcast_of.result (wait_key_of c.args.key) None
    c.broadcast_of.ensures (search rules)) ∙ ap (λ m. get m (wait_key_of c.args.key)) c.self.view_is

pub returns : goal.returns
returns c =
    c.subject_for.ensures ∙ sym (wait-at c.self.inside.rows.entries c.broadcast_of.result
    (wait_key_of c.args.key) (Some c.in_ok-get.field-0.now) c.broadcast_of.ensures (search rules))
    ∙ ap (λ m. get m (wait_key_of c.args.key)) c.self.view_is
