-- Worked examples, computed from the definitions.
use Rattle.std.specs.Prelude.{ℕ, zero, suc, ◌+◌, true, false, List, [], ◌∷◌, ◌++◌, map, Option, Some, None, ◌≡◌, refl, option_map, option_and_then, length, filter, ◌==◌, if◌then◌else◌}
use Rattle.numbers.specs.Subjects.{Number}
use Rattle.numbers.specs.Routings.{Routing}
use Rattle.model.specs.Commands.{Command, RegisterCarrier, RegisterRoutingNumber, OpenCode, OldProviderCreate, NewProviderCreate, OnVersion, Activate, PutInConflict, RemoveFromConflict, Cancel, OldProviderCancellationAcknowledge, NewProviderCancellationAcknowledge, Disconnect, ModifyRouting, Donate, Assign, Release}
use Rattle.model.specs.Statuses.{Create, Delete, Modify, Status, Pending, Conflict, CancelPending, Sending, Active, PartialFailure, Failed, DisconnectPending, Old, Canceled}
use Rattle.model.specs.declared.words.Outcome.{Outcome}
use Rattle.model.specs.declared.words.Outcome.TheVariants.{AllAcknowledged, SomeAcknowledged}
use Rattle.model.specs.declared.words.Action.{Action}
use Rattle.model.specs.declared.words.Action.TheVariants.{Modify as ModifyAction}
use Rattle.model.specs.declared.words.Side.TheVariants.{OldProvider}
use Rattle.model.specs.Windows.{Windows, first_set}
use Rattle.model.specs.Versions.{Broadcast, Version, Record, in_force}
use Rattle.model.specs.Judge.{judged_version, judge, judged_for, judged, caught_up}
use Rattle.model.specs.History.{CommandRequest, AcknowledgementRequest, effect, replay_step, replay_of, blank_version}
use Rattle.model.specs.State.{State, SubjectVersion, Download, first_state, record_now, queue, version_of_id, routing_of, copy_of, published, Phase, Initial, Final, Ended, phase_of, view_of}
use Rattle.model.specs.Refusals.{Input, ClockMoment, RequestFrom, refusal, npac, tests}
use Rattle.model.specs.Machine.{Donated, Registered, next, out, state_after}

abbrev pub w : Windows
w = record {
  initial_concurrence = 60;
  final_concurrence = 60;
  conflict_restriction = 30;
  conflict_resolution = 120;
  conflict_expiration = 1000;
  cancellation_initial = 60;
  cancellation_final = 60;
  pending_retention = 500;
  broadcast = 15;
}

-- The carriers AAAA, BBBB and CCCC.
abbrev pub a : ℕ
a = 0x41414141

abbrev pub b : ℕ
b = 0x42424242

abbrev pub c : ℕ
c = 0x43434343

abbrev pub n : ℕ
n = 2025331234

abbrev pub setup : List Input
setup =
    RequestFrom npac (CommandRequest (RegisterCarrier a)) ∷ RequestFrom npac
    (CommandRequest (RegisterCarrier b))
    ∷ RequestFrom npac (CommandRequest (RegisterCarrier c))
    ∷ RequestFrom a (CommandRequest (RegisterRoutingNumber 2025440000)) ∷ RequestFrom b
    (CommandRequest (RegisterRoutingNumber 2025330000)) ∷ RequestFrom c
    (CommandRequest (RegisterRoutingNumber 2025550000))
    ∷ RequestFrom npac (CommandRequest (OpenCode 202533 b)) ∷ []

abbrev pub both_creates : ℕ → List Input
both_creates due = RequestFrom a (CommandRequest (NewProviderCreate n b a due 2025440000 None))
    ∷ RequestFrom b
    (CommandRequest (OldProviderCreate n b a due true)) ∷ []

abbrev pub start : State
start = state_after (first_state w) setup

-- The status of a version, the minute when it entered it, and its attempt.
abbrev pub standing : State → ℕ → Option (Status × ℕ × ℕ)
standing st id = option_map (λ e. (e.version.status, e.version.since, e.version.attempt))
    (version_of_id st id)

setup_is_accepted : length start.history ≡ 7
unfolding next replay_of replay_step effect judge judged_for judged_version queue tests out
setup_is_accepted = refl

before_due_at_99 : refusal (state_after start (both_creates 100 ++ ClockMoment 99 ∷ []))
    (RequestFrom a (CommandRequest (OnVersion 1 Activate))) ≡ Some 17
unfolding next replay_of replay_step effect judge judged_for judged_version queue tests out
before_due_at_99 = refl

sending_at_100 : standing (state_after start (both_creates 100 ++ ClockMoment 100 ∷ RequestFrom a
    (CommandRequest (OnVersion 1 Activate)) ∷ [])) 1 ≡ Some (Sending Create, 100, 1)
unfolding next replay_of replay_step effect judge judged_for judged_version queue tests out
sending_at_100 = refl

abbrev pub does : ℕ → Command → Input
does caller command = RequestFrom caller (CommandRequest command)

abbrev pub refused_after : State → List Input → Input → Option ℕ
refused_after st inputs input = refusal (state_after st inputs) input

creator_alone_119 : refused_after start (does a (NewProviderCreate n b a 100 2025440000 None)
    ∷ ClockMoment 119 ∷ []) (does a (OnVersion 1 Activate)) ≡ Some 16
unfolding next replay_of replay_step effect judge judged_for judged_version queue tests out
creator_alone_119 = refl

creator_alone_120 : refused_after start (does a (NewProviderCreate n b a 100 2025440000 None)
    ∷ ClockMoment 120 ∷ []) (does a (OnVersion 1 Activate)) ≡ None
unfolding next replay_of replay_step effect judge judged_for judged_version queue tests out
creator_alone_120 = refl

-- One jump past the end of the windows: canceled at the minute of that end.
silent_new_provider : standing
    (state_after start (does b (OldProviderCreate n b a 300 true) ∷ ClockMoment 5 ∷ ClockMoment 900
    ∷ [])) 1
    ≡ Some (Canceled, 120, 0)
unfolding next replay_of replay_step effect judge judged_for judged_version queue tests out
silent_new_provider = refl

-- Sent at 200 and acknowledged by one carrier at 214; the window ends at 215.
abbrev pub sent_at_200 : List Input
sent_at_200 = both_creates 200 ++ ClockMoment 200 ∷ does a (OnVersion 1 Activate) ∷ []

abbrev pub part_at_215 : State
part_at_215 =
    state_after start (sent_at_200 ++ ClockMoment 214 ∷ RequestFrom c (AcknowledgementRequest 1 1)
    ∷ ClockMoment 215 ∷ [])

part_of_it : standing part_at_215 1 ≡ Some (PartialFailure, 215, 1)
unfolding next replay_of replay_step effect judge judged_for judged_version queue tests out
part_of_it = refl

part_is_routed : routing_of part_at_215 n ≡ Some (record { lrn = 2025440000; cic = None })
unfolding next replay_of replay_step effect judge judged_for judged_version queue tests out
part_is_routed = refl

one_more_is_still_part : standing
    (state_after part_at_215 (RequestFrom a (AcknowledgementRequest 1 1) ∷ [])) 1
    ≡ Some (PartialFailure, 215, 1)
unfolding next replay_of replay_step effect judge judged_for judged_version queue tests out
one_more_is_still_part = refl

the_last_makes_it_active : standing
    (state_after part_at_215 (RequestFrom a (AcknowledgementRequest 1 1) ∷ RequestFrom b
    (AcknowledgementRequest 1 1) ∷ [])) 1
    ≡ Some (Active, 215, 1)
unfolding next replay_of replay_step effect judge judged_for judged_version queue tests out
the_last_makes_it_active = refl

too_late_to_acknowledge : refused_after start (sent_at_200 ++ ClockMoment 215 ∷ [])
    (RequestFrom c (AcknowledgementRequest 1 1)) ≡ Some 25
unfolding next replay_of replay_step effect judge judged_for judged_version queue tests out
too_late_to_acknowledge = refl

nobody : standing (state_after start (sent_at_200 ++ ClockMoment 215 ∷ [])) 1
    ≡ Some (Failed, 215, 1)
unfolding next replay_of replay_step effect judge judged_for judged_version queue tests out
nobody = refl

abbrev pub active_at_201 : State
active_at_201 =
    state_after start (sent_at_200 ++ ClockMoment 201 ∷ RequestFrom a (AcknowledgementRequest 1 1)
    ∷ RequestFrom b
    (AcknowledgementRequest 1 1) ∷ RequestFrom c (AcknowledgementRequest 1 1) ∷ [])

-- A disconnect that nobody acknowledges.
abbrev pub kept : State
kept = state_after active_at_201 (ClockMoment 300 ∷ does a (OnVersion 1 (Disconnect (Some 400)))
    ∷ ClockMoment
    399 ∷ ClockMoment 1000 ∷ [])

kept_since : standing kept 1 ≡ Some (Active, 415, 2)
unfolding next replay_of replay_step effect judge judged_for judged_version queue tests out
kept_since = refl

kept_routing : routing_of kept n ≡ Some (record { lrn = 2025440000; cic = None })
unfolding next replay_of replay_step effect judge judged_for judged_version queue tests out
kept_routing = refl

kept_queues : length (queue kept a) + length (queue kept b) + length (queue kept c) ≡ 0
unfolding next replay_of replay_step effect judge judged_for judged_version queue tests out
kept_queues = refl

-- The new provider is silent: conflict at 130, canceled at 1130.
cancel_by_old : standing
    (state_after start (both_creates 5000 ++ ClockMoment 10 ∷ does b (OnVersion 1 Cancel)
    ∷ ClockMoment 2000
    ∷ [])) 1 ≡ Some (Canceled, 1130, 0)
unfolding next replay_of replay_step effect judge judged_for judged_version queue tests out
cancel_by_old = refl

abbrev pub donated : List Input
donated = does b (Donate 2025337 (2 ∷ 1 ∷ 2 ∷ []) 2025330000 None) ∷ []

abbrev pub one_failed : List Input
one_failed = donated ++ ClockMoment 5 ∷ RequestFrom a (AcknowledgementRequest 1 1) ∷ RequestFrom b
    (AcknowledgementRequest 1 1)
    ∷ RequestFrom c (AcknowledgementRequest 1 1) ∷ ClockMoment 20 ∷ []

abbrev pub assigned : List Input
assigned =
    one_failed ++ does b (OnVersion 2 Activate) ∷ ClockMoment 21 ∷ RequestFrom a
    (AcknowledgementRequest 2 2)
    ∷ RequestFrom b (AcknowledgementRequest 2 2) ∷ RequestFrom c (AcknowledgementRequest 2 2)
    ∷ ClockMoment 22 ∷ does npac (Assign 2025337 c 2025550000 None) ∷ ClockMoment 23 ∷ RequestFrom a
    (AcknowledgementRequest 3 1) ∷ RequestFrom b (AcknowledgementRequest 3 1) ∷ RequestFrom c
    (AcknowledgementRequest 3 1) ∷ []

donation : out start (does b (Donate 2025337 (2 ∷ 1 ∷ 2 ∷ []) 2025330000 None)) ≡ Donated 2025337
    (1 ∷ 2 ∷ [])
unfolding next replay_of replay_step effect judge judged_for judged_version queue tests out
donation = refl

open_port : refused_after start one_failed (does npac (Assign 2025337 c 2025550000 None)) ≡ Some 23
unfolding next replay_of replay_step effect judge judged_for judged_version queue tests out
open_port = refl

protective : refused_after start one_failed (does b (OnVersion 2 Cancel)) ≡ Some 21
unfolding next replay_of replay_step effect judge judged_for judged_version queue tests out
protective = refl

block_routes : map (routing_of (state_after start assigned)) (2025337001 ∷ 2025337003 ∷ [])
    ≡ Some (record { lrn = 2025330000; cic = None }) ∷ Some (record {
      lrn = 2025550000;
      cic =
          None;
    }) ∷ []
unfolding next replay_of replay_step effect judge judged_for judged_version queue tests out
block_routes = refl

abbrev pub acks : ℕ → ℕ → List ℕ → List Input
acks id attempt cs = map (λ k. RequestFrom k (AcknowledgementRequest id attempt)) cs

-- The id and the attempt of each download in a queue.
abbrev pub queued : State → ℕ → List (ℕ × ℕ)
queued st k = map (λ d. (d.id, d.attempt)) (queue st k)

-- ---- a second port, from AAAA to CCCC, that fails

abbrev pub second_port : State
second_port =
    state_after active_at_201 (does c (NewProviderCreate n a c 202 2025550000 None) ∷ does a
    (OldProviderCreate n a c 202 true) ∷ ClockMoment 202 ∷ does c (OnVersion 2 Activate)
    ∷ ClockMoment 217
    ∷ [])

second_fails : standing second_port 2 ≡ Some (Failed, 217, 1)
unfolding next replay_of replay_step effect judge judged_for judged_version queue tests out
    published
    copy_of
second_fails = refl

first_stays : standing second_port 1 ≡ Some (Active, 201, 1)
unfolding next replay_of replay_step effect judge judged_for judged_version queue tests out
    published
    copy_of
first_stays = refl

second_queues : queued second_port a ++ queued second_port b ++ queued second_port c ≡ []
unfolding next replay_of replay_step effect judge judged_for judged_version queue tests out
    published
    copy_of
second_queues = refl

still_routed : routing_of second_port n ≡ Some (record { lrn = 2025440000; cic = None })
unfolding next replay_of replay_step effect judge judged_for judged_version queue tests out
    published
    copy_of
still_routed = refl

activated_again : standing (state_after second_port (does c (OnVersion 2 Activate) ∷ [])) 2
    ≡ Some (Sending Create, 217, 2)
unfolding next replay_of replay_step effect judge judged_for judged_version queue tests out
    published
    copy_of
activated_again = refl

takes_over : map
    (standing (state_after second_port (does c (OnVersion 2 Activate) ∷ ClockMoment 220 ∷ acks 2 2
    (a ∷ b ∷ c ∷ [])))) (1 ∷ 2 ∷ []) ≡ Some (Old, 220, 1) ∷ Some (Active, 220, 2) ∷ []
unfolding next replay_of replay_step effect judge judged_for judged_version queue tests out
    published
    copy_of
takes_over = refl

-- ---- a newcomer while a broadcast is open, and after it

abbrev pub d : ℕ
d = 0x44444444

abbrev pub sent_at_400 : List Input
sent_at_400 = both_creates 400 ++ ClockMoment 400 ∷ does a (OnVersion 1 Activate) ∷ RequestFrom c
    (AcknowledgementRequest 1 1) ∷ []

newcomer_waits : queued
    (state_after start (sent_at_400 ++ ClockMoment 414 ∷ does npac (RegisterCarrier d) ∷ [])) d
    ≡ (1, 1) ∷ []
unfolding next replay_of replay_step effect judge judged_for judged_version queue tests out
    published
    copy_of
newcomer_waits = refl

newcomer_rows : out (state_after start (sent_at_400 ++ ClockMoment 414 ∷ []))
    (does npac (RegisterCarrier d)) ≡ Registered d []
unfolding next replay_of replay_step effect judge judged_for judged_version queue tests out
    published
    copy_of
newcomer_rows = refl

newcomer_late : queued (state_after start (sent_at_400 ++ ClockMoment 415 ∷ does npac
    (RegisterCarrier d)
    ∷ [])) d ≡ []
unfolding next replay_of replay_step effect judge judged_for judged_version queue tests out
    published
    copy_of
newcomer_late = refl

newcomer_late_rows : out (state_after start (sent_at_400 ++ ClockMoment 415 ∷ []))
    (does npac (RegisterCarrier d)) ≡ Registered d (record {
      subject = Number n;
      routing = Some (record { lrn = 2025440000; cic = None });
    } ∷ [])
unfolding next replay_of replay_step effect judge judged_for judged_version queue tests out
    published
    copy_of
newcomer_late_rows = refl

-- ---- conflicts

conflict_at_70 : refused_after start (both_creates 100 ++ ClockMoment 70 ∷ [])
    (does b (OnVersion 1 PutInConflict)) ≡ None
unfolding next replay_of replay_step effect judge judged_for judged_version queue tests out
    published
    copy_of
conflict_at_70 = refl

conflict_at_71 : refused_after start (both_creates 100 ++ ClockMoment 71 ∷ [])
    (does b (OnVersion 1 PutInConflict)) ≡ Some 19
unfolding next replay_of replay_step effect judge judged_for judged_version queue tests out
    published
    copy_of
conflict_at_71 = refl

conflict_twice : refused_after start (both_creates 100 ++ ClockMoment 70 ∷ does b
    (OnVersion 1 PutInConflict) ∷ ClockMoment 71 ∷ does b (OnVersion 1 RemoveFromConflict) ∷ [])
    (does b (OnVersion 1 PutInConflict)) ≡ Some 18
unfolding next replay_of replay_step effect judge judged_for judged_version queue tests out
    published
    copy_of
conflict_twice = refl

removal_at_169 : refused_after start (both_creates 100 ++ ClockMoment 50 ∷ does b
    (OnVersion 1 PutInConflict) ∷ ClockMoment 169 ∷ []) (does a (OnVersion 1 RemoveFromConflict))
    ≡ Some 20
unfolding next replay_of replay_step effect judge judged_for judged_version queue tests out
    published
    copy_of
removal_at_169 = refl

removal_at_170 : standing
    (state_after start (both_creates 100 ++ ClockMoment 50 ∷ does b (OnVersion 1 PutInConflict)
    ∷ ClockMoment
    170 ∷ does a (OnVersion 1 RemoveFromConflict) ∷ [])) 1 ≡ Some (Pending, 170, 0)
unfolding next replay_of replay_step effect judge judged_for judged_version queue tests out
    published
    copy_of
removal_at_170 = refl

removal_by_old : standing
    (state_after start (both_creates 100 ++ ClockMoment 50 ∷ does b (OnVersion 1 PutInConflict)
    ∷ ClockMoment
    51 ∷ does b (OnVersion 1 RemoveFromConflict) ∷ [])) 1 ≡ Some (Pending, 51, 0)
unfolding next replay_of replay_step effect judge judged_for judged_version queue tests out
    published
    copy_of
removal_by_old = refl

-- A create without authorization.
abbrev pub unauthorized : List Input
unauthorized = does b (OldProviderCreate n b a 100 false) ∷ ClockMoment 1 ∷ []

unauthorized_removal : refused_after start unauthorized (does b (OnVersion 1 RemoveFromConflict))
    ≡ Some 16
unfolding next replay_of replay_step effect judge judged_for judged_version queue tests out
    published
    copy_of
unauthorized_removal = refl

unauthorized_119 : refused_after start (unauthorized ++ ClockMoment 2 ∷ does a
    (NewProviderCreate n b a 100 2025440000 None) ∷ ClockMoment 119 ∷ [])
    (does a (OnVersion 1 RemoveFromConflict)) ≡ Some 20
unfolding next replay_of replay_step effect judge judged_for judged_version queue tests out
    published
    copy_of
unauthorized_119 = refl

unauthorized_120 : standing
    (state_after start (unauthorized ++ ClockMoment 2 ∷ does a
    (NewProviderCreate n b a 100 2025440000
    None) ∷ ClockMoment 120 ∷ does a (OnVersion 1 RemoveFromConflict) ∷ does a
    (OnVersion 1 Activate)
    ∷ [])) 1 ≡ Some (Sending Create, 120, 1)
unfolding next replay_of replay_step effect judge judged_for judged_version queue tests out
    published
    copy_of
unauthorized_120 = refl

-- ---- cancellations

conflict_at_130 : standing
    (state_after start (both_creates 5000 ++ ClockMoment 10 ∷ does b (OnVersion 1 Cancel)
    ∷ ClockMoment 1129
    ∷ [])) 1 ≡ Some (Conflict, 130, 0)
unfolding next replay_of replay_step effect judge judged_for judged_version queue tests out
    published
    copy_of
conflict_at_130 = refl

new_cancels : standing
    (state_after start (both_creates 5000 ++ ClockMoment 10 ∷ does a (OnVersion 1 Cancel)
    ∷ ClockMoment 130
    ∷ [])) 1 ≡ Some (Canceled, 130, 0)
unfolding next replay_of replay_step effect judge judged_for judged_version queue tests out
    published
    copy_of
new_cancels = refl

-- The provider that cancelled has no acknowledgement to make.
acknowledgements_after_old : map
    (refused_after start (both_creates 5000 ++ ClockMoment 10 ∷ does b (OnVersion 1 Cancel) ∷ []))
    (does b (OnVersion 1 OldProviderCancellationAcknowledge) ∷ does a
    (OnVersion 1 OldProviderCancellationAcknowledge) ∷ does b
    (OnVersion 1 NewProviderCancellationAcknowledge) ∷ does a
    (OnVersion 1 NewProviderCancellationAcknowledge) ∷ [])
    ≡ Some 11 ∷ Some 11 ∷ Some 11 ∷ None ∷ []
unfolding next replay_of replay_step effect judge judged_for judged_version queue tests out
    published
    copy_of
acknowledgements_after_old = refl

acknowledgements_after_new : map
    (refused_after start (both_creates 5000 ++ ClockMoment 10 ∷ does a (OnVersion 1 Cancel) ∷ []))
    (does b (OnVersion 1 OldProviderCancellationAcknowledge) ∷ does a
    (OnVersion 1 OldProviderCancellationAcknowledge) ∷ does b
    (OnVersion 1 NewProviderCancellationAcknowledge) ∷ does a
    (OnVersion 1 NewProviderCancellationAcknowledge) ∷ [])
    ≡ None ∷ Some 11 ∷ Some 11 ∷ Some 11 ∷ []
unfolding next replay_of replay_step effect judge judged_for judged_version queue tests out
    published
    copy_of
acknowledgements_after_new = refl

acknowledged_cancel : standing
    (state_after start (both_creates 5000 ++ ClockMoment 10 ∷ does b (OnVersion 1 Cancel)
    ∷ ClockMoment 20
    ∷ does a (OnVersion 1 NewProviderCancellationAcknowledge) ∷ [])) 1 ≡ Some (Canceled, 20, 0)
unfolding next replay_of replay_step effect judge judged_for judged_version queue tests out
    published
    copy_of
acknowledged_cancel = refl

waits_for_new_provider : standing
    (state_after start (both_creates 5000 ++ ClockMoment 10 ∷ does b (OnVersion 1 Cancel) ∷ [])) 1
    ≡ Some (CancelPending OldProvider, 10, 0)
unfolding next replay_of replay_step effect judge judged_for judged_version queue tests out
    published
    copy_of
waits_for_new_provider = refl

unspent : refused_after start (both_creates 5000 ++ ClockMoment 10 ∷ does b (OnVersion 1 Cancel)
    ∷ ClockMoment
    131 ∷ does b (OnVersion 1 RemoveFromConflict) ∷ ClockMoment 200 ∷ [])
    (does b (OnVersion 1 PutInConflict)) ≡ None
unfolding next replay_of replay_step effect judge judged_for judged_version queue tests out
    published
    copy_of
unspent = refl

retained_to_599 : standing (state_after start (both_creates 100 ++ ClockMoment 599 ∷ [])) 1
    ≡ Some (Pending, 0, 0)
unfolding next replay_of replay_step effect judge judged_for judged_version queue tests out
    published
    copy_of
retained_to_599 = refl

retained_to_600 : standing (state_after start (both_creates 100 ++ ClockMoment 600 ∷ [])) 1
    ≡ Some (Canceled, 600, 0)
unfolding next replay_of replay_step effect judge judged_for judged_version queue tests out
    published
    copy_of
retained_to_600 = refl

-- The old provider's create, at 300, does not count.
retained_from_due : map
    (λ m. standing (state_after start (does a (NewProviderCreate n b a 10 2025440000 None)
    ∷ ClockMoment
    300 ∷ does b (OldProviderCreate n b a 10 true) ∷ ClockMoment m ∷ [])) 1) (509 ∷ 510 ∷ [])
    ≡ Some (Pending, 0, 0) ∷ Some (Canceled, 510, 0) ∷ []
unfolding next replay_of replay_step effect judge judged_for judged_version queue tests out
    published
    copy_of
retained_from_due = refl

-- The new provider's create, at 100, does: it is later than the due minute and than the minute when
-- the version became pending.
retained_from_create : map
    (λ m. standing (state_after start (does b (OldProviderCreate n b a 10 true) ∷ ClockMoment 100
    ∷ does
    a (NewProviderCreate n b a 10 2025440000 None) ∷ ClockMoment m ∷ [])) 1) (599 ∷ 600 ∷ [])
    ≡ Some (Pending, 0, 0) ∷ Some (Canceled, 600, 0) ∷ []
unfolding next replay_of replay_step effect judge judged_for judged_version queue tests out
    published
    copy_of
retained_from_create = refl

-- So does the minute when it became pending: it was removed from conflict at 200.
retained_from_since : map
    (λ m. standing
    (state_after start (both_creates 100 ++ ClockMoment 50 ∷ does b (OnVersion 1 PutInConflict)
    ∷ ClockMoment
    200 ∷ does b (OnVersion 1 RemoveFromConflict) ∷ ClockMoment m ∷ [])) 1) (699 ∷ 700 ∷ [])
    ≡ Some (Pending, 200, 0) ∷ Some (Canceled, 700, 0) ∷ []
unfolding next replay_of replay_step effect judge judged_for judged_version queue tests out
    published
    copy_of
retained_from_since = refl

-- ---- disconnects

release_past : refused_after active_at_201 (ClockMoment 300 ∷ [])
    (does a (OnVersion 1 (Disconnect (Some 299)))) ≡ Some 14
unfolding next replay_of replay_step effect judge judged_for judged_version queue tests out
    published
    copy_of
release_past = refl

release_now : standing
    (state_after active_at_201 (ClockMoment 300 ∷ does a (OnVersion 1 (Disconnect (Some 300)))
    ∷ [])) 1
    ≡ Some (Sending Delete, 300, 2)
unfolding next replay_of replay_step effect judge judged_for judged_version queue tests out
    published
    copy_of
release_now = refl

release_planned : standing
    (state_after active_at_201 (ClockMoment 300 ∷ does a (OnVersion 1 (Disconnect (Some 400)))
    ∷ [])) 1
    ≡ Some (DisconnectPending 400, 300, 1)
unfolding next replay_of replay_step effect judge judged_for judged_version queue tests out
    published
    copy_of
release_planned = refl

-- The release minute, which is shown while the disconnect is pending.
abbrev pub release_shown : List Input → Option ℕ
release_shown inputs = elim (version_of_id (state_after active_at_201 inputs) 1) [
  | None ↦ None
  | Some e ↦ (view_of (state_after active_at_201 inputs) e).release
]

releases_shown : map release_shown ((ClockMoment 300 ∷ does a (OnVersion 1 (Disconnect (Some 400)))
    ∷ [])
    ∷ (ClockMoment 300 ∷ does a (OnVersion 1 (Disconnect (Some 400))) ∷ ClockMoment 400 ∷ [])
    ∷ (ClockMoment 300 ∷ does a (OnVersion 1 (Disconnect (Some 300))) ∷ []) ∷ []) ≡ Some 400 ∷ None
    ∷ None ∷ []
unfolding next replay_of replay_step effect judge judged_for judged_version queue tests out
    published
    copy_of
releases_shown = refl

release_cancelled : standing
    (state_after active_at_201 (ClockMoment 300 ∷ does a (OnVersion 1 (Disconnect (Some 400)))
    ∷ ClockMoment
    350 ∷ does a (OnVersion 1 Cancel) ∷ [])) 1 ≡ Some (Active, 350, 1)
unfolding next replay_of replay_step effect judge judged_for judged_version queue tests out
    published
    copy_of
release_cancelled = refl

-- ---- a modify: AAAA has a second routing number, and routes its active version to it at 300

abbrev pub to_first : Option Routing
to_first = Some (record { lrn = 2025440000; cic = None })

abbrev pub to_second : Option Routing
to_second = Some (record { lrn = 2025440001; cic = None })

abbrev pub routed_twice : State
routed_twice =
    state_after active_at_201 (does a (RegisterRoutingNumber 2025440001) ∷ ClockMoment 300 ∷ [])

abbrev pub modify_sent : List Input
modify_sent = does a (OnVersion 1 (ModifyRouting 2025440001 None)) ∷ []

abbrev pub modifying : State
modifying = state_after routed_twice modify_sent

-- The routing of the version, and that of a query.
abbrev pub routed : State → List (Option Routing)
routed st = option_and_then (λ (e : SubjectVersion). e.version.routing) (version_of_id st 1)
    ∷ routing_of st n ∷ []

-- Sent, and in force with its old routing.
modify_sends : standing modifying 1
    ≡ Some (Sending (Modify (record { lrn = 2025440001; cic = None })), 300, 2)
unfolding next replay_of replay_step effect judge judged_for judged_version queue tests out
    published
    copy_of
modify_sends = refl

modify_keeps : routed modifying ≡ to_first ∷ to_first ∷ []
unfolding next replay_of replay_step effect judge judged_for judged_version queue tests out
    published
    copy_of
modify_keeps = refl

modify_is_busy : map (refusal modifying) (does c (NewProviderCreate n a c 300 2025550000 None)
    ∷ does a (OnVersion 1 (Disconnect None)) ∷ does a (OnVersion 1 (ModifyRouting 2025440001 None))
    ∷ []) ≡ Some 12 ∷ Some 13 ∷ Some 13 ∷ []
unfolding next replay_of replay_step effect judge judged_for judged_version queue tests out
    published
    copy_of
modify_is_busy = refl

-- All carriers acknowledge.
abbrev pub modified_by_all : State
modified_by_all = state_after modifying (ClockMoment 301 ∷ acks 1 2 (a ∷ b ∷ c ∷ []))

all_modify : standing modified_by_all 1 ≡ Some (Active, 301, 2)
unfolding next replay_of replay_step effect judge judged_for judged_version queue tests out
    published
    copy_of
all_modify = refl

all_are_routed : routed modified_by_all ≡ to_second ∷ to_second ∷ []
unfolding next replay_of replay_step effect judge judged_for judged_version queue tests out
    published
    copy_of
all_are_routed = refl

-- One carrier acknowledges in time, and the others late.
abbrev pub modified_in_part : State
modified_in_part =
    state_after modifying (ClockMoment 301 ∷ acks 1 2 (c ∷ []) ++ ClockMoment 315 ∷ [])

part_modifies : standing modified_in_part 1 ≡ Some (PartialFailure, 315, 2)
unfolding next replay_of replay_step effect judge judged_for judged_version queue tests out
    published
    copy_of
part_modifies = refl

part_is_routed_anew : routed modified_in_part ≡ to_second ∷ to_second ∷ []
unfolding next replay_of replay_step effect judge judged_for judged_version queue tests out
    published
    copy_of
part_is_routed_anew = refl

part_still_waits : map (queued modified_in_part) (a ∷ b ∷ c ∷ []) ≡ ((1, 2) ∷ []) ∷ ((1, 2) ∷ [])
    ∷ [] ∷ []
unfolding next replay_of replay_step effect judge judged_for judged_version queue tests out
    published
    copy_of
part_still_waits = refl

part_becomes_whole : standing
    (state_after modified_in_part (ClockMoment 320 ∷ acks 1 2 (a ∷ b ∷ []))) 1
    ≡ Some (Active, 320, 2)
unfolding next replay_of replay_step effect judge judged_for judged_version queue tests out
    published
    copy_of
part_becomes_whole = refl

-- Nobody acknowledges, in one jump: the old routing stays.
abbrev pub modified_by_nobody : State
modified_by_nobody = state_after modifying (ClockMoment 900 ∷ [])

nobody_modifies : standing modified_by_nobody 1 ≡ Some (Active, 315, 2)
unfolding next replay_of replay_step effect judge judged_for judged_version queue tests out
    published
    copy_of
nobody_modifies = refl

nobody_is_routed_anew : routed modified_by_nobody ≡ to_first ∷ to_first ∷ []
unfolding next replay_of replay_step effect judge judged_for judged_version queue tests out
    published
    copy_of
nobody_is_routed_anew = refl

nobody_waits : map (queued modified_by_nobody) (a ∷ b ∷ c ∷ []) ≡ [] ∷ [] ∷ [] ∷ []
unfolding next replay_of replay_step effect judge judged_for judged_version queue tests out
    published
    copy_of
nobody_waits = refl

-- Another's routing number, another's version, both, and no such version.
modify_refused : map (refusal routed_twice) (does a (OnVersion 1 (ModifyRouting 2025330000 None))
    ∷ does b (OnVersion 1 (ModifyRouting 2025440001 None)) ∷ does b
    (OnVersion 1 (ModifyRouting 2025330000 None)) ∷ does a
    (OnVersion 2 (ModifyRouting 2025330000 None)) ∷ []) ≡ Some 7 ∷ Some 11 ∷ Some 7 ∷ Some 10 ∷ []
unfolding next replay_of replay_step effect judge judged_for judged_version queue tests out
    published
    copy_of
modify_refused = refl

block_not_modified : refused_after start assigned
    (does c (OnVersion 3 (ModifyRouting 2025330000 None))) ≡ Some 10
unfolding next replay_of replay_step effect judge judged_for judged_version queue tests out
    published
    copy_of
block_not_modified = refl

-- A newcomer at 310: its row has the old routing, and the modify is pending for it.
newcomer_to_modify : out (state_after modifying (ClockMoment 310 ∷ []))
    (does npac (RegisterCarrier d))
    ≡ Registered d (record { subject = Number n; routing = to_first } ∷ [])
unfolding next replay_of replay_step effect judge judged_for judged_version queue tests out
    published
    copy_of
newcomer_to_modify = refl

newcomer_has_modify : queued (state_after modifying (ClockMoment 310 ∷ does npac (RegisterCarrier d)
    ∷ [])) d ≡ (1, 2) ∷ []
unfolding next replay_of replay_step effect judge judged_for judged_version queue tests out
    published
    copy_of
newcomer_has_modify = refl

-- The actions and routings in a carrier's queue.
abbrev pub handed : State → ℕ → List (Action × Option Routing)
handed st k = map (λ (x : Download). (x.action, x.routing)) (queue st k)

modify_is_handed : handed modifying b ≡ (ModifyAction, to_second) ∷ []
unfolding next replay_of replay_step effect judge judged_for judged_version queue tests out
    published
    copy_of
modify_is_handed = refl

copies_of_modify : map (λ st. copy_of w b (Number n) st.history)
    (modifying ∷ modified_by_all ∷ modified_in_part ∷ modified_by_nobody ∷ [])
    ≡ to_first ∷ to_second ∷ to_first ∷ to_first ∷ []
unfolding next replay_of replay_step effect judge judged_for judged_version queue tests out
    published
    copy_of
copies_of_modify = refl

-- The routing is replaced as a whole, and may be replaced by the same one.
modified_whole : map
    (λ routing. routed
    (state_after routed_twice (does a (OnVersion 1 (ModifyRouting 2025440000 (Some 288))) ∷ acks 1 2
    (a ∷ b ∷ c ∷ []) ++ does a (OnVersion 1 (ModifyRouting 2025440000 routing)) ∷ acks 1 3
    (a ∷ b ∷ c ∷ [])))) (None ∷ Some 288 ∷ [])
    ≡ (to_first ∷ to_first ∷ []) ∷ (Some (record { lrn = 2025440000; cic = Some 288 }) ∷ Some
    (record { lrn = 2025440000; cic = Some 288 }) ∷ []) ∷ []
unfolding next replay_of replay_step effect judge judged_for judged_version queue tests out
    published
    copy_of
modified_whole = refl

-- A download that is pending while the number is ported again.
abbrev pub waiting_delete : State
waiting_delete =
    state_after active_at_201 (ClockMoment 210 ∷ does a (OnVersion 1 (Disconnect None))
    ∷ ClockMoment 211
    ∷ acks 1 2 (a ∷ c ∷ [])
    ++ ClockMoment 230 ∷ does a (NewProviderCreate n b a 230 2025440000 None) ∷ does b
    (OldProviderCreate n b a 230 true) ∷ does a (OnVersion 2 Activate) ∷ [])

old_at_225 : standing waiting_delete 1 ≡ Some (Old, 225, 2)
unfolding next replay_of replay_step effect judge judged_for judged_version queue tests out
    published
    copy_of
old_at_225 = refl

both_wait : queued waiting_delete b ≡ (1, 2) ∷ (2, 1) ∷ []
unfolding next replay_of replay_step effect judge judged_for judged_version queue tests out
    published
    copy_of
both_wait = refl

in_order_only : refused_after waiting_delete [] (RequestFrom b (AcknowledgementRequest 2 1))
    ≡ Some 26
unfolding next replay_of replay_step effect judge judged_for judged_version queue tests out
    published
    copy_of
in_order_only = refl

then_again : refused_after waiting_delete (acks 1 2 (b ∷ []) ++ acks 2 1 (b ∷ []))
    (RequestFrom b (AcknowledgementRequest 2 1)) ≡ Some 25
unfolding next replay_of replay_step effect judge judged_for judged_version queue tests out
    published
    copy_of
then_again = refl

copy_before : copy_of w b (Number n) waiting_delete.history ≡ Some (record {
  lrn = 2025440000;
  cic =
      None;
})
unfolding next replay_of replay_step effect judge judged_for judged_version queue tests out
    published
    copy_of
copy_before = refl

copy_between : copy_of w b (Number n) (state_after waiting_delete (acks 1 2 (b ∷ []))).history
    ≡ None
unfolding next replay_of replay_step effect judge judged_for judged_version queue tests out
    published
    copy_of
copy_between = refl

copy_after : copy_of w b (Number n)
    (state_after waiting_delete (acks 1 2 (b ∷ []) ++ acks 2 1 (b ∷ []))).history
    ≡ Some (record { lrn = 2025440000; cic = None })
unfolding next replay_of replay_step effect judge judged_for judged_version queue tests out
    published
    copy_of
copy_after = refl

published_is : published waiting_delete b (Number n) ≡ Some (record {
  lrn = 2025440000;
  cic =
      None;
})
unfolding next replay_of replay_step effect judge judged_for judged_version queue tests out
    published
    copy_of
published_is = refl

-- ---- blocks

-- The lines below k.
abbrev pub lines_below : ℕ → List ℕ
lines_below zero = []
lines_below (suc k) = k ∷ lines_below k

abbrev pub released : State
released = state_after start (assigned ++ ClockMoment 30 ∷ does c (Release 2025337) ∷ ClockMoment 50
    ∷ does c
    (Release 2025337) ∷ ClockMoment 51 ∷ acks 3 3 (a ∷ []) ++ ClockMoment 66 ∷ [])

nobody_released : standing (state_after start (assigned ++ ClockMoment 30 ∷ does c (Release 2025337)
    ∷ ClockMoment 45 ∷ [])) 3 ≡ Some (Active, 45, 2)
unfolding next replay_of replay_step effect judge judged_for judged_version queue tests out
    published
    copy_of
nobody_released = refl

released_at_65 : standing released 3 ≡ Some (Old, 65, 3)
unfolding next replay_of replay_step effect judge judged_for judged_version queue tests out
    published
    copy_of
released_at_65 = refl

released_waits : map (queued released) (a ∷ b ∷ c ∷ []) ≡ [] ∷ ((3, 3) ∷ []) ∷ ((3, 3) ∷ []) ∷ []
unfolding next replay_of replay_step effect judge judged_for judged_version queue tests out
    published
    copy_of
released_waits = refl

released_routing : map (routing_of released) (2025337001 ∷ 2025337003 ∷ []) ≡ Some (record {
  lrn =
      2025330000;
  cic = None;
}) ∷ None ∷ []
unfolding next replay_of replay_step effect judge judged_for judged_version queue tests out
    published
    copy_of
released_routing = refl

back_in_pool : refused_after released []
    (does a (NewProviderCreate 2025337003 c a 66 2025440000 None)) ≡ Some 8
unfolding next replay_of replay_step effect judge judged_for judged_version queue tests out
    published
    copy_of
back_in_pool = refl

busy_block : refused_after start (assigned ++ ClockMoment 30 ∷ does c (Release 2025337)
    ∷ ClockMoment 50
    ∷ does c (Release 2025337) ∷ ClockMoment 51 ∷ acks 3 3 (a ∷ []) ++ ClockMoment 55 ∷ [])
    (does a (NewProviderCreate 2025337003 c a 60 2025440000 None)) ≡ Some 12
unfolding next replay_of replay_step effect judge judged_for judged_version queue tests out
    published
    copy_of
busy_block = refl

release_with_ports : refused_after start (assigned ++ ClockMoment 24 ∷ does a
    (NewProviderCreate 2025337003 c a 60 2025440000 None) ∷ ClockMoment 25 ∷ [])
    (does c (Release 2025337)) ≡ Some 23
unfolding next replay_of replay_step effect judge judged_for judged_version queue tests out
    published
    copy_of
release_with_ports = refl

release_while_sending : refused_after start (one_failed ++ does b (OnVersion 2 Activate)
    ∷ ClockMoment 21
    ∷ acks 2 2 (a ∷ b ∷ c ∷ []) ++ ClockMoment 22 ∷ does npac (Assign 2025337 c 2025550000 None)
    ∷ [])
    (does c (Release 2025337)) ≡ Some 13
unfolding next replay_of replay_step effect judge judged_for judged_version queue tests out
    published
    copy_of
release_while_sending = refl

donated_by_another : map (refusal start) (does c (Donate 2025337 [] 2025550000 None) ∷ does c
    (Donate 2025337 [] 2025330000 None) ∷ does npac (Assign 2025337 c 2025550000 None) ∷ does npac
    (Release 2025337) ∷ []) ≡ Some 11 ∷ Some 7 ∷ Some 10 ∷ Some 10 ∷ []
unfolding next replay_of replay_step effect judge judged_for judged_version queue tests out
    published
    copy_of
donated_by_another = refl

hundred : map (λ k. refusal start (does b (Donate 2025337 (lines_below k) 2025330000 None)))
    (100 ∷ 101 ∷ []) ≡ None ∷ Some 22 ∷ []
unfolding next replay_of replay_step effect judge judged_for judged_version queue tests out
    published
    copy_of
hundred = refl

-- ---- a carrier's copy, in states with nothing pending for it

copy_is_in_force : map (λ k. copy_of w k (Number n) kept.history) (a ∷ b ∷ c ∷ [])
    ≡ Some (record { lrn = 2025440000; cic = None }) ∷ Some (record {
      lrn = 2025440000;
      cic =
          None;
    }) ∷ Some (record { lrn = 2025440000; cic = None }) ∷ []
unfolding next replay_of replay_step effect judge judged_for judged_version queue tests out copy_of
copy_is_in_force = refl

published_is_in_force : map (λ k. published kept k (Number n)) (a ∷ b ∷ c ∷ [])
    ≡ Some (record { lrn = 2025440000; cic = None }) ∷ Some (record {
      lrn = 2025440000;
      cic =
          None;
    }) ∷ Some (record { lrn = 2025440000; cic = None }) ∷ []
unfolding next replay_of replay_step effect judge judged_for judged_version queue tests out
    published
published_is_in_force = refl

-- ---- phases, and a block with a ported number

abbrev pub phase_at : State → ℕ → Option Phase
phase_at st id = elim (version_of_id st id) [
  | None ↦ None
  | Some e ↦ phase_of w st.now e.version.old_at e.version.new_at e.version.since e.version.status
]

abbrev pub phases : List Input → List ℕ → List (Option Phase)
phases before minutes = map (λ m. phase_at (state_after start (before ++ ClockMoment m ∷ [])) 1)
    minutes

pending_phases : phases (does a (NewProviderCreate n b a 100 2025440000 None) ∷ [])
    (59 ∷ 60 ∷ 119 ∷ 120 ∷ []) ≡ Some Initial ∷ Some Final ∷ Some Final ∷ Some Ended ∷ []
unfolding next replay_of replay_step effect judge judged_for judged_version queue tests out
pending_phases = refl

cancellation_phases : phases (both_creates 5000 ++ ClockMoment 10 ∷ does b (OnVersion 1 Cancel)
    ∷ [])
    (69 ∷ 70 ∷ 129 ∷ 130 ∷ []) ≡ Some Initial ∷ Some Final ∷ Some Final ∷ None ∷ []
unfolding next replay_of replay_step effect judge judged_for judged_version queue tests out
cancellation_phases = refl

-- A number of the block is ported to AAAA.
abbrev pub ported_in_block : List Input
ported_in_block =
    does a (NewProviderCreate 2025337500 b a 0 2025440000 None) ∷ does b
    (OldProviderCreate 2025337500 b a 0 true) ∷ does a (OnVersion 1 Activate) ∷ acks 1 1
    (a ∷ b ∷ c ∷ [])

contaminated_by_port : map (λ k. refused_after start ported_in_block
    (does b (Donate 2025337 (lines_below k) 2025330000 None))) (99 ∷ 100 ∷ []) ≡ None ∷ Some 22 ∷ []
unfolding next replay_of replay_step effect judge judged_for judged_version queue tests out
contaminated_by_port = refl

one_line_twice : refusal start (does b (Donate 2025337 (7 ∷ lines_below 100) 2025330000 None))
    ≡ None
unfolding next replay_of replay_step effect judge judged_for judged_version queue tests out
one_line_twice = refl

clock_goes_on : map (refusal (state_after start (ClockMoment 500 ∷ [])))
    (ClockMoment 499 ∷ ClockMoment 500 ∷ [])
    ≡ Some 27 ∷ None ∷ []
unfolding next replay_of replay_step effect judge judged_for judged_version queue tests out
clock_goes_on = refl

administrator_is_no_carrier : map (refusal start) (does npac (RegisterCarrier npac) ∷ does npac
    (RegisterCarrier a) ∷ does a (RegisterCarrier d) ∷ does npac (RegisterCarrier d) ∷ [])
    ≡ Some 4 ∷ Some 4 ∷ Some 2 ∷ None ∷ []
unfolding next replay_of replay_step effect judge judged_for judged_version queue tests out
administrator_is_no_carrier = refl

-- ---- a row whose release minute is 0: judging from minute 1 and judging from 0 differ

abbrev pub released_at_0 : Record
released_at_0 = record {
  carriers = a ∷ [];
  versions = record (blank_version (first_set w) 1 b a 0 0) {
    status = DisconnectPending 0;
    attempt = 1;
  } ∷ [];
}

abbrev pub entered_at : Record → List ℕ
entered_at r = map (λ (v : Version). v.since) r.versions

from_1_on : entered_at (judged (first_set w) 0 1 released_at_0) ≡ 1 ∷ []
unfolding judged_for judge judged_version
from_1_on = refl

from_0_on : entered_at (caught_up (first_set w) 1 released_at_0) ≡ 0 ∷ []
unfolding judged_for judge judged_version
from_0_on = refl

-- ---- rows with two versions in force that catch up to a reachable record: so an earlier record
-- must be sound

-- Version 1 is deleted at 25 with one acknowledgement, and version 2 is active at 30.
abbrev pub ported_again : State
ported_again = state_after start (
    both_creates 0 ++ does a (OnVersion 1 Activate) ∷ acks 1 1 (a ∷ b ∷ c ∷ []) ++ ClockMoment 10
    ∷ does
    a (OnVersion 1 (Disconnect None)) ∷ acks 1 2 (a ∷ [])
    ++ ClockMoment 30 ∷ both_creates 30 ++ does a (OnVersion 2 Activate) ∷ acks 1 2 (b ∷ c ∷ [])
    ++ acks
    2 1 (a ∷ b ∷ c ∷ []))

-- The same record, but with version 1 as it was at 10.
abbrev pub still_sending : Version → Version
still_sending v = if v.id == 1 then record v { status = Sending Delete; since = 10 } else v

abbrev pub two_in_force : Record
two_in_force = record (record_now ported_again (Number n)) {
  versions =
      map still_sending (record_now ported_again (Number n)).versions;
}

two_are_in_force : length (filter in_force two_in_force.versions) ≡ 2
unfolding next replay_of replay_step effect judge judged_for judged_version queue tests out
two_are_in_force = refl

-- The status and minute of each version, and the outcomes of its broadcasts.
abbrev pub closings : Record → List (ℕ × Status × ℕ × List Outcome)
closings r = map (λ (v : Version). (
  v.id,
  v.status,
  v.since,
  map (λ (x : Broadcast). x.outcome) v.broadcasts,
)) r.versions

and_catch_up : closings (caught_up (first_set w) 30 two_in_force)
    ≡ (2, Active, 30, AllAcknowledged ∷ []) ∷ (1, Old, 25, SomeAcknowledged ∷ AllAcknowledged ∷ [])
    ∷ []
unfolding next replay_of replay_step effect judge judged_for judged_version queue tests out
and_catch_up = refl

to_what_stands : closings (record_now ported_again (Number n))
    ≡ (2, Active, 30, AllAcknowledged ∷ []) ∷ (1, Old, 25, SomeAcknowledged ∷ AllAcknowledged ∷ [])
    ∷ []
unfolding next replay_of replay_step effect judge judged_for judged_version queue tests out
to_what_stands = refl
