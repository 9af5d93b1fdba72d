use Rattle.std.proofs.Common.{◌≡◌, ◌∙◌, [], ap, inl, subst, sym}
use Rattle.model.specs.State.{State}
use Rattle.register.specs.Refinement.{Refines}
use Rattle.hub.specs.Crashes.{LeavesFirstMessages}
use Rattle.hub.specs.Rows.{RowsFollow}
use Rattle.hub.specs.Connections.{ConnectionModel, HasNothingAhead, connection_of}
use Rattle.hub.proofs.FedEnds.{Fed, at_break, at_end, fed_nothing, moved, not_begun, not_received, not_sent, received, sent, unsent_received, unsent_sent, went}
use Rattle.hub.proofs.LeftFed.{left_fed}
use Rattle.hub.proofs.RowsLemmas.{rows_last, rows_stay, rows_then}
use Rattle.hub.proofs.feeding.feed.Goals as goal
use Rattle.hub.proofs.feeding.feed.Goals.{then-wants_input+in-Ok-receive, in-Open-2+in-Ok-send}

pub returns-in_default-clause-feeds : goal.returns-in_default-clause-feeds
returns-in_default-clause-feeds g c = λ usable st refines.
    not_begun (g.S.StoreModel.failed c.args.register.now.store) st
    (g.S.StoreModel.content c.args.register.now.store) _ _ refines

pub loop-init : goal.loop-init
loop-init g c = record {
  follows = rows_stay g.S.StoreModel c.args.register.now.store;
  left = λ honest m may. inl may;
  ahead = c.in-Ok.ensures.ahead;
  sent = ap (λ (m : ConnectionModel). m.unsent) c.in-Ok.ensures.connection;
  fed = λ usable st refines. fed_nothing (g.S.StoreModel.failed c.args.register.now.store) st
      (g.W.Write.contents c.args.writer.now) (g.R.Read.remaining c.args.reader.now)
      (g.S.StoreModel.content c.args.register.now.store)
      (connection_of c.in-Ok.feeder.connection) c.in-Ok.ensures.connection refines;
}

pub returns-in-Ended-clause-feeds : goal.returns-in-Ended-clause-feeds
returns-in-Ended-clause-feeds g c = λ usable st refines.
    at_end (g.S.StoreModel.failed c.args.register.now.store)
    (g.S.StoreModel.failed c.loop.register.store) st
    (g.W.Write.contents c.args.writer.now) (g.R.Read.remaining c.args.reader.now)
    (g.S.StoreModel.content c.loop.register.store) (g.R.Read.remaining c.loop.reader)
    (g.W.Write.contents c.loop.writer) (connection_of c.loop.feeder.connection)
    (c.loop.invariant.fed usable st refines) _ (sym c.phase.ensures ∙ c.in-Ended.is)
    c.loop.invariant.sent

pub returns-clause-feeds : goal.returns-clause-feeds
returns-clause-feeds g c = λ usable st refines.
    at_break (g.S.StoreModel.failed c.args.register.now.store)
    (g.S.StoreModel.failed c.loop.register.store) st
    (g.W.Write.contents c.args.writer.now) (g.R.Read.remaining c.args.reader.now)
    (g.S.StoreModel.content c.loop.register.store) (g.R.Read.remaining c.loop.reader)
    (g.W.Write.contents c.loop.writer) (connection_of c.loop.feeder.connection)
    (c.loop.invariant.fed usable st refines) c.loop.invariant.sent

pub returns-in-Err-clause-feeds : goal.returns-in-Err-clause-feeds
returns-in-Err-clause-feeds g c = λ usable st refines.
    not_received (g.S.StoreModel.failed c.args.register.now.store)
    (g.S.StoreModel.failed c.loop.register.store) st
    (g.W.Write.contents c.args.writer.now) (g.R.Read.remaining c.args.reader.now)
    (g.S.StoreModel.content c.loop.register.store) (g.R.Read.remaining c.loop.reader)
    (g.R.Read.remaining c.receive.new.reader) (g.W.Write.contents c.loop.writer)
    (connection_of c.loop.feeder.connection) (connection_of c.receive.new.self.connection)
    c.receive.result _ c.in-Err.is c.receive.ensures.received
    (sym c.wants_input.ensures ∙ c.if-wants_input.true) c.loop.invariant.sent
    (c.loop.invariant.fed usable st refines)

pub returns-in-Err-send-clause-feeds : goal.returns-in-Err-send-clause-feeds
returns-in-Err-send-clause-feeds g c = λ usable st refines.
    not_sent (g.S.StoreModel.failed c.args.register.now.store)
    (g.S.StoreModel.failed c.execute.new.register.store) st
    (g.W.Write.contents c.args.writer.now) (g.R.Read.remaining c.args.reader.now)
    (g.S.StoreModel.content c.execute.new.register.store) (g.R.Read.remaining c.loop.reader)
    (g.W.Write.contents c.loop.writer) (connection_of c.execute.new.self.connection)
    (went g.S.StoreModel (g.S.StoreModel.failed c.args.register.now.store) st
    (g.W.Write.contents c.args.writer.now) (g.R.Read.remaining c.args.reader.now)
    c.loop.register.store c.execute.new.register.store (connection_of c.loop.feeder.connection)
    (connection_of c.execute.new.self.connection) (g.R.Read.remaining c.loop.reader)
    (g.W.Write.contents c.loop.writer) c.execute.ensures.follows c.execute.ensures.goes_on usable
    (λ up. c.loop.invariant.fed up st refines))
    (g.W.Write.contents c.send.new.writer) c.send.result _ c.in-Err-send.is c.send.ensures.part
    c.send.ensures.fault

pub returns-in-Err-send-clause-follows : goal.returns-in-Err-send-clause-follows
returns-in-Err-send-clause-follows g c =
    rows_then g.S.StoreModel c.args.register.now.store c.loop.register.store
    c.execute.new.register.store c.loop.invariant.follows c.execute.ensures.follows

pub loop-preserved : goal.loop-preserved
loop-preserved g c =
    let store = g.S.StoreModel in
    let start = c.args.register.now.store in
    let had = g.W.Write.contents c.args.writer.now in
    let all = g.R.Read.remaining c.args.reader.now in
    let before = connection_of c.loop.feeder.connection in
    let follows : RowsFollow store start c.if-wants_input.register.store =
    elim c.if-wants_input.branch [
      | then-wants_input+in-Ok-receive w ↦ subst (λ r. RowsFollow store start r.store)
          (sym w.register-is) c.loop.invariant.follows
      | in-Open-2+in-Ok-send w ↦ subst (λ r. RowsFollow store start r.store) (sym w.register-is)
          (rows_then store start c.loop.register.store w.execute.new.register.store
          c.loop.invariant.follows w.execute.ensures.follows)
    ] in
    let left : LeavesFirstMessages store start c.if-wants_input.register.store all =
    elim c.if-wants_input.branch [
      | then-wants_input+in-Ok-receive w ↦ subst (λ r. LeavesFirstMessages store start r.store all)
          (sym w.register-is) c.loop.invariant.left
      | in-Open-2+in-Ok-send w ↦ subst (λ r. LeavesFirstMessages store start r.store all)
          (sym w.register-is)
          (left_fed g.S.StoreModel c.args.register.now.store c.loop.register.store
          w.execute.new.register.store (g.W.Write.contents c.args.writer.now)
          (g.R.Read.remaining c.args.reader.now) (g.R.Read.remaining c.loop.reader)
          (g.W.Write.contents c.loop.writer) (connection_of c.loop.feeder.connection)
          w.execute.ensures.follows.honest c.loop.invariant.follows.usable c.loop.invariant.fed
          c.loop.invariant.left w.execute.ensures.left)
    ] in
    let ahead : HasNothingAhead c.if-wants_input.feeder.connection =
    elim c.if-wants_input.branch [
      | then-wants_input+in-Ok-receive w ↦ subst (λ f. HasNothingAhead f.connection)
          (sym w.feeder-is) (w.receive.ensures.ahead c.loop.invariant.ahead)
      | in-Open-2+in-Ok-send w ↦ subst (λ f. HasNothingAhead f.connection) (sym w.feeder-is)
          (w.send.ensures.ahead w.execute.ensures.ahead)
    ] in
    let sends : (connection_of c.if-wants_input.feeder.connection).unsent ≡ [] =
    elim c.if-wants_input.branch [
      | then-wants_input+in-Ok-receive w ↦
          subst (λ f. (connection_of f.connection).unsent ≡ []) (sym w.feeder-is)
          (unsent_received (g.R.Read.remaining c.loop.reader)
          (g.R.Read.remaining w.receive.new.reader) before
          (connection_of w.receive.new.self.connection) w.in-Ok-receive.ensures.received
          c.loop.invariant.sent)
      | in-Open-2+in-Ok-send w ↦
          subst (λ f. (connection_of f.connection).unsent ≡ []) (sym w.feeder-is)
          (unsent_sent (g.W.Write.contents c.loop.writer) (g.W.Write.contents w.send.new.writer)
          (connection_of w.execute.new.self.connection)
          (connection_of w.send.new.self.connection) w.in-Ok-send.ensures.sent)
    ] in
    let fed : store.IsUsable c.if-wants_input.register.store → (st : State)
    → Refines (store.content start) st
    → Fed (store.failed start) (store.failed c.if-wants_input.register.store) st had all
    (store.content c.if-wants_input.register.store)
    (g.R.Read.remaining c.if-wants_input.reader) (g.W.Write.contents c.if-wants_input.writer)
    (connection_of c.if-wants_input.feeder.connection) =
    elim c.if-wants_input.branch [
      | then-wants_input+in-Ok-receive w ↦
          moved (λ r reader writer f. store.IsUsable r.store → (st : State)
          → Refines (store.content start) st
          → Fed (store.failed start) (store.failed r.store) st had all (store.content r.store)
          (g.R.Read.remaining reader) (g.W.Write.contents writer) (connection_of f.connection))
          _ _ _ _ _ _ _ _ w.register-is w.reader-is w.writer-is w.feeder-is
          (λ usable st refines. received (store.failed start)
          (store.failed c.loop.register.store) st had all
          (store.content c.loop.register.store) (g.R.Read.remaining c.loop.reader)
          (g.W.Write.contents c.loop.writer) before
          (c.loop.invariant.fed usable st refines) (g.R.Read.remaining w.receive.new.reader)
          (connection_of w.receive.new.self.connection)
          (sym c.wants_input.ensures ∙ w.if-wants_input.true) w.in-Ok-receive.ensures.received)
      | in-Open-2+in-Ok-send w ↦
          moved (λ r reader writer f. store.IsUsable r.store → (st : State)
          → Refines (store.content start) st
          → Fed (store.failed start) (store.failed r.store) st had all (store.content r.store)
          (g.R.Read.remaining reader) (g.W.Write.contents writer) (connection_of f.connection))
          _ _ _ _ _ _ _ _ w.register-is w.reader-is w.writer-is w.feeder-is
          (λ usable st refines. sent (store.failed start)
          (store.failed w.execute.new.register.store) st had all
          (store.content w.execute.new.register.store) (g.R.Read.remaining c.loop.reader)
          (g.W.Write.contents c.loop.writer) (connection_of w.execute.new.self.connection)
          (went store (store.failed start) st had all c.loop.register.store
          w.execute.new.register.store before (connection_of w.execute.new.self.connection)
          (g.R.Read.remaining c.loop.reader) (g.W.Write.contents c.loop.writer)
          w.execute.ensures.follows w.execute.ensures.goes_on usable
          (λ up. c.loop.invariant.fed up st refines))
          (g.W.Write.contents w.send.new.writer) (connection_of w.send.new.self.connection)
          w.in-Ok-send.ensures.sent)
    ] in
    record { follows = follows; left = left; ahead = ahead; sent = sends; fed = fed }

pub returns-in_default-clause-left : goal.returns-in_default-clause-left
returns-in_default-clause-left g c = λ honest m may. inl may

pub returns-in-Err-send-clause-left : goal.returns-in-Err-send-clause-left
returns-in-Err-send-clause-left g c =
    left_fed g.S.StoreModel c.args.register.now.store c.loop.register.store
    c.execute.new.register.store (g.W.Write.contents c.args.writer.now)
    (g.R.Read.remaining c.args.reader.now) (g.R.Read.remaining c.loop.reader)
    (g.W.Write.contents c.loop.writer) (connection_of c.loop.feeder.connection)
    c.execute.ensures.follows.honest c.loop.invariant.follows.usable c.loop.invariant.fed
    c.loop.invariant.left c.execute.ensures.left

pub returns-in_default-clause-lasts : goal.returns-in_default-clause-lasts
returns-in_default-clause-lasts g c =
    rows_last g.S.StoreModel c.args.register.now.store c.args.register.now.store
    g.met.S.Store.leaves_content (rows_stay g.S.StoreModel c.args.register.now.store)

pub returns-in-Ended-clause-lasts : goal.returns-in-Ended-clause-lasts
returns-in-Ended-clause-lasts g c =
    rows_last g.S.StoreModel c.args.register.now.store c.loop.register.store
    g.met.S.Store.leaves_content c.loop.invariant.follows

pub returns-clause-lasts : goal.returns-clause-lasts
returns-clause-lasts g c =
    rows_last g.S.StoreModel c.args.register.now.store c.loop.register.store
    g.met.S.Store.leaves_content c.loop.invariant.follows

pub returns-in-Err-clause-lasts : goal.returns-in-Err-clause-lasts
returns-in-Err-clause-lasts g c =
    rows_last g.S.StoreModel c.args.register.now.store c.loop.register.store
    g.met.S.Store.leaves_content c.loop.invariant.follows

pub returns-in-Err-send-clause-lasts : goal.returns-in-Err-send-clause-lasts
returns-in-Err-send-clause-lasts g c =
    rows_last g.S.StoreModel c.args.register.now.store c.execute.new.register.store
    g.met.S.Store.leaves_content (rows_then g.S.StoreModel c.args.register.now.store
    c.loop.register.store
    c.execute.new.register.store c.loop.invariant.follows c.execute.ensures.follows)
