use Rattle.std.proofs.Common.{◌≡◌, ◌∙◌, [], ◌∷◌, if◌then◌else◌, option_map, ap, sym, subst}
use Rattle.std.specs.Prelude.{is_some}
use Rattle.settle.specs.Abstraction.{broadcast_key_of, broadcast_row_of}
use Rattle.settle.specs.Reads.{AreWaiters}
use Rattle.report.specs.Life.{AddsSent, IsSent, key_if_kept}
use Rattle.report.specs.declared.life.Sent.{Sent}
use Rattle.report.proofs.Ranging.{sent_one}
use Rattle.report.proofs.life.add_attempt.Goals as goal

pub returns-clause-sent : goal.returns-clause-sent
returns-clause-sent g c = λ usable.
    let old = g.S.StoreModel.content c.args.store.now in
    let key = broadcast_key_of c.args.key in
    let looked = c.in_ok-pending.ensures.looks_up.read_only.same usable in
    let was = c.in_ok-broadcast.ensures.looks_up.read_only.same looked.0 in
    let one : Sent = record {
      key = c.args.key;
      broadcast = c.in-Some.broadcast;
      pending = c.in_ok-pending.pending;
    } in
    let row = sym (c.in_ok-broadcast.ensures.value looked.0)
    ∙ ap (option_map broadcast_row_of) c.in-Some.is in
    let is : IsSent old one = record {
      row = row;
      pending = subst (λ m. AreWaiters m c.in-Some.broadcast.minute.number c.args.key.id
          c.args.key.attempt c.in_ok-pending.pending.items) was.1
          (c.in_ok-pending.ensures.value usable);
    } in
    let kept : key_if_kept old key ≡ key ∷ [] =
    ap (λ o. if is_some o then key ∷ [] else []) row in
    subst (λ ks. AddsSent old ks c.args.sent.now.items c.push.new.sent.items) (sym kept)
    (subst (AddsSent old (key ∷ []) c.args.sent.now.items) (sym c.in_ok-push.ensures)
    (sent_one old c.args.sent.now.items one is))
