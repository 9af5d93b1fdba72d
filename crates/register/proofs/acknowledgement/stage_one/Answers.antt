use Rattle.std.proofs.Common.{false, [], ◌∷◌, ap, sym, ◌∙◌}
use Rattle.std.specs.Prelude.{if◌then◌else◌}
use Rattle.model.specs.Content.{broadcast_key}
use Rattle.settle.specs.Changes.{Changes, no_changes}
use Rattle.settle.specs.Abstraction.{broadcast_key_of, broadcast_row_of, wait_key_of}
use Rattle.register.specs.Acknowledging.{answered_row}
use Rattle.register.proofs.Downloads.Receipts.{answered_seen}
use Rattle.register.proofs.acknowledgement.stage_one.Goals as goal

pub returns-then-not-broadcast : goal.returns-then-not-broadcast
returns-then-not-broadcast c =
    let row = broadcast_row_of c.args.broadcast.now in
    let key = broadcast_key c.args.wait.id c.args.wait.attempt in
    ap (λ (n : Changes). let x : Changes = record n {
      broadcasts = (
        broadcast_key_of c.broadcast_of.result,
        broadcast_row_of c.acknowledged.result,
      ) ∷ [];
      deleted_waits = wait_key_of c.args.wait ∷ [];
    } in x) c.requires
    ∙ ap (λ rows. let x : Changes = record no_changes {
      broadcasts = rows;
      deleted_waits = wait_key_of c.args.wait ∷ [];
    } in x) (ap (λ k. (k, broadcast_row_of c.acknowledged.result) ∷ []) c.broadcast_of.ensures
    ∙ ap (λ r. (key, r) ∷ [])
    (answered_seen row (broadcast_row_of c.acknowledged.result) false c.acknowledged.ensures)
    ∙ ap (λ b. if b then [] else (key, answered_row false row) ∷ []) (sym c.if-not-broadcast.true))

pub returns-else-not-broadcast : goal.returns-else-not-broadcast
returns-else-not-broadcast c =
    let row = broadcast_row_of c.args.broadcast.now in
    let key = broadcast_key c.args.wait.id c.args.wait.attempt in
    ap (λ (n : Changes). let x : Changes = record n {
      deleted_waits = wait_key_of c.args.wait ∷ [];
    } in x) c.requires
    ∙ ap (λ rows. let x : Changes = record no_changes {
      broadcasts = rows;
      deleted_waits = wait_key_of c.args.wait ∷ [];
    } in x) (ap (λ b. if b then [] else (key, answered_row false row) ∷ [])
    (sym c.if-not-broadcast.false))
