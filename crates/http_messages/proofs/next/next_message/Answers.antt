use Rattle.std.proofs.Common.{◌≡◌, List, ℕ, Bool, Ok, Err, ap, ◌∙◌, subst, rules}
use Rattle.std.proofs.KnownBytes.{Keeps-trans}
use Rattle.http_messages.specs.Arrived.{HasArrived}
use Rattle.http_messages.specs.ReadBuffer.{buffered_bytes}
use Rattle.http_messages.specs.declared.arrived.Arrived.{Arrived}
use Rattle.http_messages.specs.declared.arrived.Arrived.TheVariants.{Part}
use Rattle.http_messages.proofs.ReadLemmas.{failed_read, is_ahead, is_read, looks_smaller, no_excess, undecided}
use Rattle.http_messages.proofs.next.next_message.Goals as goal

begins : (buffered bytes : List ℕ) (has_ended : Bool) (arrived : Arrived) → buffered ≡ bytes
    → HasArrived buffered has_ended arrived → HasArrived bytes has_ended arrived
begins buffered bytes has_ended arrived e is =
    subst (λ (t : List ℕ). HasArrived t has_ended arrived) e is

pub returns-in_default : goal.returns-in_default
returns-in_default g c =
    let bytes : List ℕ = buffered_bytes c.looks.buffer in
    let is : HasArrived bytes c.looks.has_ended c.next_arrived-arrived.result =
    begins c.buffered.result.now bytes c.looks.has_ended c.next_arrived-arrived.result
    c.buffered.ensures c.next_arrived-arrived.ensures.arrived in
    record {
      room = c.next_arrived-arrived.ensures.room;
      input = c.looks.invariant.4;
      at_hand = (c.looks.has_ended, c.looks.invariant.2, is);
      unread = c.looks.invariant.3;
      ahead = is_ahead bytes c.looks.has_ended c.next_arrived-arrived.result c.looks.invariant.1 is;
      read = is_read _ _ bytes c.looks.invariant.4 c.looks.has_ended c.next_arrived-arrived.result
          c.looks.invariant.1 c.looks.invariant.2 is c.in_default.not-Part;
    }

pub returns-in_err-has_ended-clause-read : goal.returns-in_err-has_ended-clause-read
returns-in_err-has_ended-clause-read g c =
    let bytes : List ℕ = buffered_bytes c.looks.buffer in
    let part : HasArrived bytes c.looks.has_ended (Part c.in-Part.wanted) =
    begins c.buffered.result.now bytes c.looks.has_ended (Part c.in-Part.wanted)
    c.buffered.ensures c.in-Part.ensures.arrived in
    failed_read _ _ bytes (buffered_bytes c.read_until.new.self) c.looks.has_ended c.in-Part.wanted
    c.from_residual.result c.in_err-has_ended.field-0.0
    (Keeps-trans _ _ _ c.looks.invariant.4 c.read_until.ensures.input)
    c.looks.invariant.1 part c.read_until.ensures.grows
    (λ e. c.read_until.ensures.failed (c.in_err-has_ended.was ∙ ap Err e))
    (λ e. (c.read_until.ensures.unread (c.in_err-has_ended.was ∙ ap Err e)).0)
    (search rules)

pub returns-in_err-has_ended-clause-unread : goal.returns-in_err-has_ended-clause-unread
returns-in_err-has_ended-clause-unread g c =
    let bytes : List ℕ = buffered_bytes c.looks.buffer in
    let part : HasArrived bytes c.looks.has_ended (Part c.in-Part.wanted) =
    begins c.buffered.result.now bytes c.looks.has_ended (Part c.in-Part.wanted)
    c.buffered.ensures c.in-Part.ensures.arrived in
    λ decided. absurd (undecided (buffered_bytes c.args.buffer.now) bytes c.looks.has_ended
    c.in-Part.wanted _ part c.looks.invariant.3 decided)

pub looks-smaller : goal.looks-smaller
looks-smaller g c =
    let bytes : List ℕ = buffered_bytes c.looks.buffer in
    let part : HasArrived bytes c.looks.has_ended (Part c.in-Part.wanted) =
    begins c.buffered.result.now bytes c.looks.has_ended (Part c.in-Part.wanted)
    c.buffered.ensures c.in-Part.ensures.arrived in
    looks_smaller bytes c.looks.has_ended c.in-Part.wanted
    c.looks.invariant.1 part (buffered_bytes c.read_until.new.self)
    c.in_ok-has_ended.has_ended c.read_until.ensures.grows
    (λ e. c.read_until.ensures.enough (c.in_ok-has_ended.was ∙ ap Ok e))

pub looks-preserved : goal.looks-preserved
looks-preserved g c =
    let bytes : List ℕ = buffered_bytes c.looks.buffer in
    let part : HasArrived bytes c.looks.has_ended (Part c.in-Part.wanted) =
    begins c.buffered.result.now bytes c.looks.has_ended (Part c.in-Part.wanted)
    c.buffered.ensures c.in-Part.ensures.arrived in (
      c.next_arrived-arrived.ensures.room,
      no_excess bytes c.looks.has_ended c.in-Part.wanted
          c.looks.invariant.1 part (buffered_bytes c.read_until.new.self)
          c.in_ok-has_ended.has_ended c.read_until.ensures.grows
          (λ e. c.read_until.ensures.enough (c.in_ok-has_ended.was ∙ ap Ok e))
          c.read_until.ensures.most,
      λ e. c.read_until.ensures.ended (c.in_ok-has_ended.was ∙ ap Ok e),
      λ decided. absurd (undecided (buffered_bytes c.args.buffer.now) bytes c.looks.has_ended
          c.in-Part.wanted _ part c.looks.invariant.3 decided),
      Keeps-trans _ _ _ c.looks.invariant.4 c.read_until.ensures.input,
    )
