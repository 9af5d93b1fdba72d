use Rattle.std.proofs.Common.{rules, ◌≡◌, Some, None, ap, sym, ◌∙◌, option_map}
use Rattle.std.specs.HashMap as hash
use Rattle.store.specs.BroadcastRows.{packed_row_of, same_id}
use Rattle.store.specs.QueueRows.{sent_of, sent_from}
use Rattle.store.specs.declared.keys.BroadcastId.{BroadcastId}
use Rattle.store.proofs.BroadcastRows.{get-broadcast}
use Rattle.store.proofs.waits.download_at.Goals as goal

pub returns-in_err-row : goal.returns-in_err-row
returns-in_err-row c =
    let key : BroadcastId = record { id = c.args.key.id; attempt = c.args.key.attempt } in
    let nothing : c.from_residual.result ≡ None = search rules in
    let none : hash.get same_id c.args.broadcasts.now key ≡ None = search rules in
    ap (option_map sent_of) nothing
    ∙ sym (ap (option_map (sent_from c.args.key)) (get-broadcast c.args.broadcasts.now key
    ∙ ap (option_map packed_row_of) none))

pub returns : goal.returns
returns c =
    let key : BroadcastId = record { id = c.args.key.id; attempt = c.args.key.attempt } in
    let there : hash.get same_id c.args.broadcasts.now key ≡ Some c.in_ok-row.row.now =
    search rules in
    ap (λ row. Some (sent_from c.args.key row)) c.unpacked-broadcast.ensures
    ∙ sym (ap (option_map (sent_from c.args.key)) (get-broadcast c.args.broadcasts.now key
    ∙ ap (option_map packed_row_of) there))
