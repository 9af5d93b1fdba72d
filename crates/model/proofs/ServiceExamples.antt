-- Worked examples of who serves a number and of the routing of calls, computed from the
-- definitions.
use Rattle.std.specs.Prelude.{true, [], ◌∷◌, ◌++◌, map, Some, None, ◌≡◌, refl}
use Rattle.numbers.specs.Subjects.{Number}
use Rattle.model.specs.Commands.{OldProviderCreate, NewProviderCreate, Activate, Donate, Assign, Release, RegisterCarrier, OnVersion}
use Rattle.model.specs.Statuses.{Sending, Active, Failed}
use Rattle.model.specs.Statuses.{Create}
use Rattle.model.specs.Judge.{judged_version, judge, judged_for}
use Rattle.model.specs.History.{effect, replay_step, replay_of}
use Rattle.model.specs.State.{State, ByVersion, ByBlock, InPool, ByCode, serving, queue, routing_of, copy_of}
use Rattle.model.specs.Refusals.{ClockMoment, QuestionFrom, Query, refusal, npac, tests}
use Rattle.model.specs.Machine.{Donated, Answered, Opened, Closed, next, out, state_after}
use Rattle.model.proofs.Examples.{w, a, b, c, d, n, start, both_creates, standing, does, refused_after, donated, one_failed, assigned, acks, active_at_201, released, sent_at_400}

-- ---- queries

-- A number without a version, and a code that is not opened.
no_version : map (out start) (QuestionFrom a (Query n) ∷ QuestionFrom npac (Query 2025351234) ∷ [])
    ≡ Answered (Opened None) ∷ Answered Closed ∷ []
unfolding next replay_of replay_step effect judge judged_for judged_version queue tests out
no_version = refl

-- A routing with a carrier identification code.
with_cic : out (state_after start (does a (NewProviderCreate n b a 0 2025440000 (Some 288)) ∷ does b
    (OldProviderCreate n b a 0 true) ∷ does a (OnVersion 1 Activate) ∷ acks 1 1 (a ∷ b ∷ c ∷ [])))
    (QuestionFrom a (Query n))
    ≡ Answered (Opened (Some (record { lrn = 2025440000; cic = Some 288 })))
unfolding next replay_of replay_step effect judge judged_for judged_version queue tests out
with_cic = refl

-- ---- who serves

-- Only its code's holder serves a number that is being ported, and its new provider once it is
-- ported.
served_by_code_or_version : map (λ st. serving st n) (start ∷ state_after start (both_creates 100)
    ∷ active_at_201 ∷ []) ≡ ByCode (Some b) ∷ ByCode (Some b) ∷ ByVersion a ∷ []
unfolding next replay_of replay_step effect judge judged_for judged_version queue tests out
served_by_code_or_version = refl

-- The donor of a block serves the used numbers while their versions are being sent and after that
-- failed. The other numbers are in the pool.
served_while_protected : map (serving (state_after start donated))
    (2025337001 ∷ 2025337002 ∷ 2025337003 ∷ []) ≡ ByVersion b ∷ ByVersion b ∷ InPool ∷ []
unfolding next replay_of replay_step effect judge judged_for judged_version queue tests out
served_while_protected = refl

served_where_failed : map (serving (state_after start one_failed))
    (2025337001 ∷ 2025337002 ∷ 2025337003 ∷ []) ≡ ByVersion b ∷ ByVersion b ∷ InPool ∷ []
unfolding next replay_of replay_step effect judge judged_for judged_version queue tests out
served_where_failed = refl

-- So a create of such a number is busy, and one from a provider other than the donor names the
-- wrong old provider. The rest of the block is in the pool.
creates_of_protected : map (refused_after start one_failed)
    (does a (NewProviderCreate 2025337002 b a 20 2025440000 None) ∷ does a
    (NewProviderCreate 2025337002 c a 20 2025440000 None) ∷ does a (NewProviderCreate 2025337003 b a
    20 2025440000 None) ∷ []) ≡ Some 12 ∷ Some 9 ∷ Some 8 ∷ []
unfolding next replay_of replay_step effect judge judged_for judged_version queue tests out
creates_of_protected = refl

-- The block's holder serves the other numbers once it is assigned, and nobody once it is released.
served_by_block : map (λ st. serving st 2025337003) (state_after start assigned ∷ released ∷ [])
    ≡ ByBlock c ∷ InPool ∷ []
unfolding next replay_of replay_step effect judge judged_for judged_version queue tests out
served_by_block = refl

-- ---- donations

-- The second port failed at 15 and is sent again; the block gets the next id.
port_failed : standing (state_after start one_failed) 2 ≡ Some (Failed, 15, 1)
unfolding next replay_of replay_step effect judge judged_for judged_version queue tests out
port_failed = refl

port_again : map
    (standing (state_after start (one_failed ++ does b (OnVersion 2 Activate) ∷ ClockMoment 21
    ∷ acks 2 2
    (a ∷ b ∷ c ∷ []) ++ ClockMoment 22 ∷ does npac (Assign 2025337 c 2025550000 None) ∷ [])))
    (2 ∷ 3 ∷ []) ≡ Some (Active, 21, 2) ∷ Some (Sending Create, 22, 1) ∷ []
unfolding next replay_of replay_step effect judge judged_for judged_version queue tests out
port_again = refl

-- Without a used number, the block is in the pool; not yet assigned, it cannot be released.
empty_donation : out start (does b (Donate 2025337 [] 2025330000 None)) ≡ Donated 2025337 []
unfolding next replay_of replay_step effect judge judged_for judged_version queue tests out
empty_donation = refl

abbrev pub pool : State
pool = state_after start (does b (Donate 2025337 [] 2025330000 None) ∷ [])

in_the_pool : map (refusal pool) (does a (NewProviderCreate 2025337005 b a 0 2025440000 None) ∷ does
    npac (Release 2025337) ∷ []) ≡ Some 8 ∷ Some 10 ∷ []
unfolding next replay_of replay_step effect judge judged_for judged_version queue tests out
in_the_pool = refl

pool_routes : routing_of pool 2025337005 ≡ None
unfolding next replay_of replay_step effect judge judged_for judged_version queue tests out
pool_routes = refl

-- ---- a carrier's copy

-- The newcomer at 415 has the number in its copy, from its starting rows.
newcomer_copy : copy_of w d (Number n)
    (state_after start (sent_at_400 ++ ClockMoment 415 ∷ does npac (RegisterCarrier d)
    ∷ [])).history
    ≡ Some (record { lrn = 2025440000; cic = None })
unfolding next replay_of replay_step effect judge judged_for judged_version queue tests out copy_of
newcomer_copy = refl
