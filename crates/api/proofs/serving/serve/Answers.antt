use Rattle.std.proofs.Common.{◌≡◌, ◌∙◌, sym, ap, subst, ℕ, List, string_bytes, arith}
use Rattle.std.proofs.Math.Nat.{le_trans}
use Rattle.std.specs.Io.KnownBytes.{Appends}
use Rattle.http_messages.specs.ReadBuffer.{buffered_bytes, remaining_input}
use Rattle.http_messages.specs.Sending.{AppendsPrefix}
use Rattle.std.specs.Prelude.{IfSome}
use Rattle.model.specs.State.{State}
use Rattle.register.specs.Refinement.{Refines}
use Rattle.api.specs.Executing.{IsReady, body_of}
use Rattle.api.specs.Serving.{FailsAt, Responds}
use Rattle.api.specs.declared.serving.Fault.TheVariants.{Memory}
use Rattle.api.proofs.Going.{not_begun, ended, failed_read, no_memory, full, state_then, went_on, finished, partly}
use Rattle.api.proofs.NextLemmas.{came, left_short, next_comes, next_ended, next_read}
use Rattle.api.proofs.Withheld.{already, further, further_partly, still, stopped, stopped_partly, stops}
use Rattle.api.proofs.serving.serve.Goals as goal

pub returns-in_default-clause-serves : goal.returns-in_default-clause-serves
returns-in_default-clause-serves g c =
    λ usable. not_begun c.args.options.now.clock_route (g.S.StoreModel.failed
    c.args.register.now.store) (g.S.StoreModel.content c.args.register.now.store)
    (g.R.Read.remaining c.args.reader.now) (g.W.Write.contents c.args.writer.now)
    (g.T.Ticks.remaining c.args.ticks.now)

pub returns-in-Err-Read-clause-serves : goal.returns-in-Err-Read-clause-serves
returns-in-Err-Read-clause-serves g c =
    λ usable. failed_read _ _ _ _ _ _ _ _ _ _ _ _ (c.loop-count.invariant.6 usable)
    (g.R.Read.remaining c.next_message.new.reader) (rw c.in-Err-Read.field-0-is at
    c.in-Err-Read.ensures.read)

pub returns-in-Err-Memory-clause-serves : goal.returns-in-Err-Memory-clause-serves
returns-in-Err-Memory-clause-serves g c =
    λ usable. no_memory _ _ _ _ _ _ _ _ _ _ _ _ (c.loop-count.invariant.6 usable)
    (g.R.Read.remaining c.next_message.new.reader) (rw c.in-Err-Memory.field-0-is at
    c.in-Err-Memory.ensures.read)

pub returns-in-Err-Read-clause-until : goal.returns-in-Err-Read-clause-until
returns-in-Err-Read-clause-until g c =
    λ usable honest. already (c.loop-count.invariant.5 usable honest) (stops _ _ _ _ _ _ _)

pub returns-in-Err-Memory-clause-until : goal.returns-in-Err-Memory-clause-until
returns-in-Err-Memory-clause-until g c =
    λ usable honest. already (c.loop-count.invariant.5 usable honest) (stops _ _ _ _ _ _ _)

pub returns-in_default-next_of-clause-until : goal.returns-in_default-next_of-clause-until
returns-in_default-next_of-clause-until g c =
    λ usable honest. already (c.loop-count.invariant.5 usable honest) (stops _ _ _ _ _ _ _)

pub returns-clause-until : goal.returns-clause-until
returns-clause-until g c =
    λ usable honest. already (c.loop-count.invariant.5 usable honest) (stops _ _ _ _ _ _ _)

pub returns-in_default-next_of-clause-serves : goal.returns-in_default-next_of-clause-serves
returns-in_default-next_of-clause-serves g c =
    let end = next_ended (remaining_input c.loop-count.buffer (g.R.Read.remaining
    c.loop-count.reader)) (buffered_bytes c.next_message.new.buffer) (g.R.Read.remaining
    c.next_message.new.reader) c.next_message.new.arrived _ c.in_default-next_of.ensures
    c.in-Ok.ensures.input c.in-Ok.ensures.at_hand c.in-Ok.ensures.read in
    λ usable. ended _ _ _ _ _ _ _ _ _ _ _ _ (c.loop-count.invariant.6 usable) (g.R.Read.remaining
    c.next_message.new.reader) end.0 end.1

pub returns-in-Err-clause-until : goal.returns-in-Err-clause-until
returns-in-Err-clause-until g c =
    λ usable honest.
    let was = c.respond-end.ensures.honest honest in
    let sent = (subst (AppendsPrefix (g.W.Write.contents c.loop-count.writer) (g.W.Write.contents
    c.send_whole.new.writer)) (c.as_bytes.ensures.value ∙ ap (λ r. string_bytes r.text)
    c.arrived_in-following.ensures.response) c.in-Err.ensures.err) in
    still (c.loop-count.invariant.5 usable was)
    (λ still_usable. c.respond-end.ensures.stays still_usable honest)
    (λ still_usable withheld. stopped_partly _ _ _ _ _ _ _ _ _ _ _ _ (c.loop-count.invariant.6
    still_usable)
    (remaining_input c.discard.new.self (g.R.Read.remaining c.next_message.new.reader)) _ _ _
    c.in-Ok-next_of.next.message (came (remaining_input c.loop-count.buffer (g.R.Read.remaining
    c.loop-count.reader)) (buffered_bytes c.next_message.new.buffer) (buffered_bytes
    c.discard.new.self) (g.R.Read.remaining c.next_message.new.reader) c.in-Ok-next_of.next
    c.discard.ensures (next_comes (remaining_input c.loop-count.buffer (g.R.Read.remaining
    c.loop-count.reader)) (buffered_bytes c.next_message.new.buffer) (g.R.Read.remaining
    c.next_message.new.reader) c.next_message.new.arrived c.in-Ok-next_of.next c.in-Ok.ensures.input
    c.in-Ok.ensures.at_hand c.in-Ok-next_of.ensures)) sent withheld)
    (further_partly _ _ _ _ _ _ _ _ _ sent)

pub returns-in-Some-clause-until : goal.returns-in-Some-clause-until
returns-in-Some-clause-until g c =
    λ usable honest.
    let was = c.respond-end.ensures.honest honest in
    let sent = (subst (Appends (g.W.Write.contents c.loop-count.writer) (g.W.Write.contents
    c.send_whole.new.writer)) (c.as_bytes.ensures.value ∙ ap (λ r. string_bytes r.text)
    c.arrived_in-following.ensures.response) c.in-Ok-send_whole.ensures.ok) in
    still (c.loop-count.invariant.5 usable was)
    (λ still_usable. c.respond-end.ensures.stays still_usable honest)
    (λ still_usable withheld. stops _ _ _ _ _ _ _ (stopped _ _ _ _ _ _ _ _ _ _ _ _
    (c.loop-count.invariant.6 still_usable)
    (remaining_input c.discard.new.self (g.R.Read.remaining c.next_message.new.reader)) _ _ _
    c.in-Ok-next_of.next.message (came (remaining_input c.loop-count.buffer (g.R.Read.remaining
    c.loop-count.reader)) (buffered_bytes c.next_message.new.buffer) (buffered_bytes
    c.discard.new.self) (g.R.Read.remaining c.next_message.new.reader) c.in-Ok-next_of.next
    c.discard.ensures (next_comes (remaining_input c.loop-count.buffer (g.R.Read.remaining
    c.loop-count.reader)) (buffered_bytes c.next_message.new.buffer) (g.R.Read.remaining
    c.next_message.new.reader) c.next_message.new.arrived c.in-Ok-next_of.next c.in-Ok.ensures.input
    c.in-Ok.ensures.at_hand c.in-Ok-next_of.ensures)) sent withheld))
    (λ past. stops _ _ _ _ _ _ _ (further _ _ _ _ _ _ _ _ _ sent past))

pub returns-in-Err-clause-serves : goal.returns-in-Err-clause-serves
returns-in-Err-clause-serves g c =
    λ usable.
    let at = c.loop-count.invariant.6 (c.respond-end.ensures.usable usable) in
    partly _ _ _ _ _ _ _ _ _ _ _ _ at _ _ (remaining_input c.discard.new.self (g.R.Read.remaining
    c.next_message.new.reader)) _ _ _ _ (g.R.Read.remaining c.next_message.new.reader)
    c.in-Ok-next_of.next.message (came (remaining_input c.loop-count.buffer (g.R.Read.remaining
    c.loop-count.reader)) (buffered_bytes c.next_message.new.buffer) (buffered_bytes
    c.discard.new.self) (g.R.Read.remaining c.next_message.new.reader) c.in-Ok-next_of.next
    c.discard.ensures (next_comes (remaining_input c.loop-count.buffer (g.R.Read.remaining
    c.loop-count.reader)) (buffered_bytes c.next_message.new.buffer) (g.R.Read.remaining
    c.next_message.new.reader) c.next_message.new.arrived c.in-Ok-next_of.next c.in-Ok.ensures.input
    c.in-Ok.ensures.at_hand c.in-Ok-next_of.ensures)) (next_read (remaining_input
    c.loop-count.buffer (g.R.Read.remaining c.loop-count.reader)) (buffered_bytes
    c.next_message.new.buffer) (buffered_bytes c.discard.new.self) (g.R.Read.remaining
    c.next_message.new.reader) c.next_message.new.arrived c.in-Ok-next_of.next
    c.in-Ok-next_of.ensures
    c.in-Ok.ensures.ahead c.discard.ensures c.in-Ok.ensures.read) (subst (λ (b : List ℕ). Responds
    c.args.options.now.clock_route (g.T.Ticks.remaining c.loop-count.ticks) (g.T.Ticks.remaining
    c.respond-end.new.ticks) (g.S.StoreModel.failed c.loop-count.register.store)
    (g.S.StoreModel.failed c.respond-end.new.register.store) c.in-Ok-next_of.next.message (body_of
    c.in-Ok-next_of.next b) (string_bytes c.respond-end.new.self.response.text)
    (g.S.StoreModel.content c.loop-count.register.store) (g.S.StoreModel.content
    c.respond-end.new.register.store)) c.buffered.ensures (c.respond-end.ensures.responds usable))
    (subst (AppendsPrefix (g.W.Write.contents c.loop-count.writer) (g.W.Write.contents
    c.send_whole.new.writer)) (c.as_bytes.ensures.value ∙ ap (λ r. string_bytes r.text)
    c.arrived_in-following.ensures.response) c.in-Err.ensures.err)

pub returns-in-Err-clause-state : goal.returns-in-Err-clause-state
returns-in-Err-clause-state g c =
    λ usable.
    let at = c.loop-count.invariant.6 (c.respond-end.ensures.usable usable) in
    state_then _ _ _ _ _ _ _ _ _ _ _ _ at _ _ (remaining_input c.discard.new.self
    (g.R.Read.remaining c.next_message.new.reader)) _ _ _ c.in-Ok-next_of.next.message (subst (λ (b
    : List ℕ). Responds c.args.options.now.clock_route (g.T.Ticks.remaining c.loop-count.ticks)
    (g.T.Ticks.remaining c.respond-end.new.ticks) (g.S.StoreModel.failed
    c.loop-count.register.store) (g.S.StoreModel.failed c.respond-end.new.register.store)
    c.in-Ok-next_of.next.message (body_of c.in-Ok-next_of.next b) (string_bytes
    c.respond-end.new.self.response.text) (g.S.StoreModel.content c.loop-count.register.store)
    (g.S.StoreModel.content c.respond-end.new.register.store)) c.buffered.ensures
    (c.respond-end.ensures.responds usable))

pub returns-in-Some-clause-state : goal.returns-in-Some-clause-state
returns-in-Some-clause-state g c =
    λ usable.
    let at = c.loop-count.invariant.6 (c.respond-end.ensures.usable usable) in
    state_then _ _ _ _ _ _ _ _ _ _ _ _ at _ _ (remaining_input c.discard.new.self
    (g.R.Read.remaining c.next_message.new.reader)) _ _ _ c.in-Ok-next_of.next.message (subst (λ (b
    : List ℕ). Responds c.args.options.now.clock_route (g.T.Ticks.remaining c.loop-count.ticks)
    (g.T.Ticks.remaining c.respond-end.new.ticks) (g.S.StoreModel.failed
    c.loop-count.register.store) (g.S.StoreModel.failed c.respond-end.new.register.store)
    c.in-Ok-next_of.next.message (body_of c.in-Ok-next_of.next b) (string_bytes
    c.respond-end.new.self.response.text) (g.S.StoreModel.content c.loop-count.register.store)
    (g.S.StoreModel.content c.respond-end.new.register.store)) c.buffered.ensures
    (c.respond-end.ensures.responds usable))

pub returns-in-Some-clause-serves : goal.returns-in-Some-clause-serves
returns-in-Some-clause-serves g c =
    λ usable.
    let at = c.loop-count.invariant.6 (c.respond-end.ensures.usable usable) in
    finished _ _ _ _ _ _ _ _ _ _ _ _ at _ _ (remaining_input c.discard.new.self (g.R.Read.remaining
    c.next_message.new.reader)) _ _ _ _ (g.R.Read.remaining c.next_message.new.reader)
    c.in-Ok-next_of.next.message c.in-Some.end
    (sym c.respond-end.ensures.end ∙ c.in-Some.is) (came (remaining_input c.loop-count.buffer
    (g.R.Read.remaining c.loop-count.reader)) (buffered_bytes c.next_message.new.buffer)
    (buffered_bytes c.discard.new.self) (g.R.Read.remaining c.next_message.new.reader)
    c.in-Ok-next_of.next c.discard.ensures (next_comes (remaining_input c.loop-count.buffer
    (g.R.Read.remaining c.loop-count.reader)) (buffered_bytes c.next_message.new.buffer)
    (g.R.Read.remaining c.next_message.new.reader) c.next_message.new.arrived c.in-Ok-next_of.next
    c.in-Ok.ensures.input c.in-Ok.ensures.at_hand c.in-Ok-next_of.ensures)) (next_read
    (remaining_input c.loop-count.buffer (g.R.Read.remaining c.loop-count.reader)) (buffered_bytes
    c.next_message.new.buffer) (buffered_bytes c.discard.new.self) (g.R.Read.remaining
    c.next_message.new.reader) c.next_message.new.arrived c.in-Ok-next_of.next
    c.in-Ok-next_of.ensures
    c.in-Ok.ensures.ahead c.discard.ensures c.in-Ok.ensures.read) (subst (λ (b : List ℕ). Responds
    c.args.options.now.clock_route (g.T.Ticks.remaining c.loop-count.ticks) (g.T.Ticks.remaining
    c.respond-end.new.ticks) (g.S.StoreModel.failed c.loop-count.register.store)
    (g.S.StoreModel.failed c.respond-end.new.register.store) c.in-Ok-next_of.next.message (body_of
    c.in-Ok-next_of.next b) (string_bytes c.respond-end.new.self.response.text)
    (g.S.StoreModel.content c.loop-count.register.store) (g.S.StoreModel.content
    c.respond-end.new.register.store)) c.buffered.ensures (c.respond-end.ensures.responds usable))
    (subst (Appends (g.W.Write.contents c.loop-count.writer) (g.W.Write.contents
    c.send_whole.new.writer)) (c.as_bytes.ensures.value ∙ ap (λ r. string_bytes r.text)
    c.arrived_in-following.ensures.response) c.in-Ok-send_whole.ensures.ok)

pub loop-count-preserved : goal.loop-count-preserved
loop-count-preserved g c =
    let stays = sym c.respond-end.ensures.end ∙ c.in_default-end.is in (
      left_short (buffered_bytes c.next_message.new.buffer) (buffered_bytes c.discard.new.self)
          c.next_message.new.arrived c.in-Ok-next_of.next c.in-Ok-next_of.ensures
          c.in-Ok.ensures.ahead c.discard.ensures stays,
      subst (λ (b : List ℕ). IsReady b c.arrived_in-following.result)
          c.buffered-in-loop-count.ensures c.arrived_in-following.ensures.ready,
      λ usable. c.loop-count.invariant.2 (c.respond-end.ensures.usable usable),
      le_trans c.loop-count.invariant.3 c.respond-end.ensures.rises,
      λ honest. c.loop-count.invariant.4 (c.respond-end.ensures.honest honest),
      λ usable honest.
          let was = c.respond-end.ensures.honest honest in
          let sent = (subst (Appends (g.W.Write.contents c.loop-count.writer) (g.W.Write.contents
          c.send_whole.new.writer)) (c.as_bytes.ensures.value ∙ ap (λ r. string_bytes r.text)
          c.arrived_in-following.ensures.response) c.in-Ok-send_whole.ensures.ok) in
          still (c.loop-count.invariant.5 usable was)
          (λ still_usable. c.respond-end.ensures.stays still_usable honest)
          (λ still_usable withheld. stopped _ _ _ _ _ _ _ _ _ _ _ _ (c.loop-count.invariant.6
          still_usable) (remaining_input c.discard.new.self (g.R.Read.remaining
          c.next_message.new.reader))
          _ _ _ c.in-Ok-next_of.next.message (came (remaining_input c.loop-count.buffer
          (g.R.Read.remaining c.loop-count.reader)) (buffered_bytes c.next_message.new.buffer)
          (buffered_bytes c.discard.new.self) (g.R.Read.remaining c.next_message.new.reader)
          c.in-Ok-next_of.next c.discard.ensures (next_comes (remaining_input c.loop-count.buffer
          (g.R.Read.remaining c.loop-count.reader)) (buffered_bytes c.next_message.new.buffer)
          (g.R.Read.remaining c.next_message.new.reader) c.next_message.new.arrived
          c.in-Ok-next_of.next
          c.in-Ok.ensures.input c.in-Ok.ensures.at_hand c.in-Ok-next_of.ensures)) sent withheld)
          (further _ _ _ _ _ _ _ _ _ sent),
      λ usable.
          let at = c.loop-count.invariant.6 (c.respond-end.ensures.usable usable) in
          went_on _ _ _ _ _ _ _ _ _ _ _ _ at _ _ (remaining_input c.discard.new.self
          (g.R.Read.remaining c.next_message.new.reader)) _ _ _ _ (g.R.Read.remaining
          c.next_message.new.reader) c.in-Ok-next_of.next.message stays (came (remaining_input
          c.loop-count.buffer (g.R.Read.remaining c.loop-count.reader)) (buffered_bytes
          c.next_message.new.buffer) (buffered_bytes c.discard.new.self) (g.R.Read.remaining
          c.next_message.new.reader) c.in-Ok-next_of.next c.discard.ensures (next_comes
          (remaining_input c.loop-count.buffer (g.R.Read.remaining c.loop-count.reader))
          (buffered_bytes c.next_message.new.buffer) (g.R.Read.remaining c.next_message.new.reader)
          c.next_message.new.arrived c.in-Ok-next_of.next c.in-Ok.ensures.input
          c.in-Ok.ensures.at_hand
          c.in-Ok-next_of.ensures)) (subst (λ (b : List ℕ). Responds c.args.options.now.clock_route
          (g.T.Ticks.remaining c.loop-count.ticks) (g.T.Ticks.remaining c.respond-end.new.ticks)
          (g.S.StoreModel.failed c.loop-count.register.store) (g.S.StoreModel.failed
          c.respond-end.new.register.store) c.in-Ok-next_of.next.message (body_of
          c.in-Ok-next_of.next b) (string_bytes c.respond-end.new.self.response.text)
          (g.S.StoreModel.content c.loop-count.register.store) (g.S.StoreModel.content
          c.respond-end.new.register.store)) c.buffered.ensures (c.respond-end.ensures.responds
          usable)) (subst (Appends (g.W.Write.contents c.loop-count.writer) (g.W.Write.contents
          c.send_whole.new.writer)) (c.as_bytes.ensures.value ∙ ap (λ r. string_bytes r.text)
          c.arrived_in-following.ensures.response) c.in-Ok-send_whole.ensures.ok),
    )

pub returns-clause-serves : goal.returns-clause-serves
returns-clause-serves g c =
    λ usable.
    let at = c.loop-count.invariant.6 usable in
    let last : c.loop-count.count ≡ 18446744073709551615 =
    omega (arith, c.loop-count-test.false, c.loop-count.auto.count-end) in
    subst (λ (k : ℕ). (st : State) → Refines (g.S.StoreModel.content c.args.register.now.store) st
    → IfSome (g.R.Read.remaining c.args.reader.now) (λ input. FailsAt (Memory k)
    c.args.options.now.clock_route (g.S.StoreModel.failed c.args.register.now.store)
    (g.S.StoreModel.failed c.loop-count.register.store) st (g.S.StoreModel.content
    c.loop-count.register.store)
    (record {
      input = input;
      unread = (g.R.Read.remaining c.loop-count.reader);
      ticks_before = (g.T.Ticks.remaining c.args.ticks.now);
      ticks_after = (g.T.Ticks.remaining c.loop-count.ticks);
      written_before = (g.W.Write.contents c.args.writer.now);
      written_after = (g.W.Write.contents c.loop-count.writer);
    }))) last
    (full _ _ _ _ _ _ _ _ _ _ _ _ at (g.R.Read.remaining c.loop-count.reader) last)
