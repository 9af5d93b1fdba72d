use Rattle.std.proofs.Common.{◌≡◌, ◌&&◌, Bool, true, false, [], ◌∷◌, ◌++◌, map, refl, ap, ◌∙◌}
use Rattle.std.specs.Prelude.{not, if◌then◌else◌}
use Rattle.numbers.specs.Abstraction.{subject_of}
use Rattle.model.specs.Content.{BroadcastKey, BroadcastRow, row_of, broadcast_key}
use Rattle.model.specs.Abstraction.{status_of}
use Rattle.version.specs.Abstraction.{model_with_windows, set_of, windows_of}
use Rattle.delivery.specs.declared.broadcast.Broadcast.{Broadcast}
use Rattle.settle.specs.Changes.{Changes, no_changes}
use Rattle.settle.specs.declared.rows.BroadcastKey.{BroadcastKey as BroadcastKeyImpl}
use Rattle.settle.specs.Lists.{items_of}
use Rattle.settle.specs.Abstraction.{broadcast_key_of, broadcast_row_of, wait_key_of}
use Rattle.settle.specs.Fired.{retired_rows}
use Rattle.version.specs.Acknowledging.{is_sending, completes}
use Rattle.register.specs.Acknowledging.{answered_row, own_rows, acknowledgement_changes}
use Rattle.register.proofs.Downloads.Receipts.{answered_seen}
use Rattle.register.proofs.acknowledgement.stage_last.Goals as goal

abbrev entry_model : BroadcastKeyImpl × Broadcast → BroadcastKey × BroadcastRow
entry_model e = (broadcast_key_of e.0, broadcast_row_of e.1)

-- The model of an optional row.
when-seen : {X Y : Type 0} (f : X → Y) (x : X) (b : Bool) → map f (if b then x ∷ [] else [])
    ≡ (if b then f x ∷ [] else [])
when-seen f x true = refl
when-seen f x false = refl

while-seen : {X Y : Type 0} (f : X → Y) (x : X) (b : Bool) → map f (if b then x ∷ [] else [])
    ≡ (if not b then [] else f x ∷ [])
while-seen f x true = refl
while-seen f x false = refl

pub returns : goal.returns
returns c =
    let versions : items_of c.versions_of.result ≡ retired_rows (set_of c.args.clock.now.present)
    c.args.clock.now.minute.number c.args.found.now.earlier
    ++ own_rows (completes c.args.version.now c.args.wait.attempt true) c.args.wait.id
    (row_of (subject_of c.args.after.now.subject)
    (model_with_windows (windows_of c.args.windows.now) c.args.after.now)) =
    c.versions_of.ensures
    ∙ ap (λ b. retired_rows (set_of c.args.clock.now.present) c.args.clock.now.minute.number
    c.args.found.now.earlier
    ++ own_rows b c.args.wait.id (row_of (subject_of c.args.after.now.subject)
    (model_with_windows (windows_of c.args.windows.now) c.args.after.now)))
    c.completes-completes.ensures
    in
    let broadcast : broadcast_row_of c.acknowledged-broadcast.result
    ≡ answered_row (completes c.args.version.now c.args.wait.attempt true && is_sending
    (status_of c.args.version.now.status)) (broadcast_row_of c.args.found.now.broadcast) =
    answered_seen (broadcast_row_of c.args.found.now.broadcast)
    (broadcast_row_of c.acknowledged-broadcast.result) c.closes.result
    c.acknowledged-broadcast.ensures
    ∙ ap (λ b. answered_row b (broadcast_row_of c.args.found.now.broadcast)) (c.closes.ensures ∙ ap
    (λ b. b && is_sending (status_of c.args.version.now.status)) c.completes-completes.ensures) in
    let kept : map entry_model (items_of c.only_if.result)
    ≡ (if not c.acknowledged-broadcast.result.is_open then [] else (
      broadcast_key c.args.wait.id c.args.wait.attempt,
      broadcast_row_of c.acknowledged-broadcast.result,
    ) ∷ []) =
    ap (map entry_model) c.only_if.ensures
    ∙ while-seen entry_model (c.broadcast_of-key.result, c.acknowledged-broadcast.result)
    c.acknowledged-broadcast.result.is_open
    ∙ ap (λ (k : BroadcastKey). if not c.acknowledged-broadcast.result.is_open then [] else
    (k, broadcast_row_of c.acknowledged-broadcast.result) ∷ []) c.broadcast_of-key.ensures in
    let gone : map broadcast_key_of (items_of c.only_if-2.result)
    ≡ (if not c.acknowledged-broadcast.result.is_open
    then broadcast_key c.args.wait.id c.args.wait.attempt ∷ [] else []) =
    ap (map broadcast_key_of) c.only_if-2.ensures
    ∙ when-seen broadcast_key_of c.broadcast_of-key.result
    (not c.acknowledged-broadcast.result.is_open)
    ∙ ap (λ (k : BroadcastKey). if not c.acknowledged-broadcast.result.is_open then k ∷ [] else [])
    c.broadcast_of-key.ensures in
    ap (λ (n : Changes). let x : Changes = record n {
      versions = items_of c.versions_of.result;
      broadcasts = map entry_model (items_of c.only_if.result);
      deleted_broadcasts = map broadcast_key_of (items_of c.only_if-2.result);
      deleted_waits = wait_key_of c.args.wait ∷ [];
    } in x) c.requires
    ∙ (λ i. record no_changes {
      versions = items_of c.versions_of.result;
      broadcasts = kept i;
      deleted_broadcasts = gone i;
      deleted_waits = wait_key_of c.args.wait ∷ [];
    })
    ∙ ap (λ row. acknowledgement_changes c.args.wait.carrier.number c.args.wait.minute.number
    c.args.wait.id
    c.args.wait.attempt true (items_of c.versions_of.result) row) broadcast
    ∙ ap (λ rows. acknowledgement_changes c.args.wait.carrier.number c.args.wait.minute.number
    c.args.wait.id
    c.args.wait.attempt true rows
    (answered_row (completes c.args.version.now c.args.wait.attempt true && is_sending
    (status_of c.args.version.now.status)) (broadcast_row_of c.args.found.now.broadcast))) versions
