-- The responses to refusals, by their numbers.
use Rattle.std.specs.Prelude.{ℕ, ◌==◌, List, [], Option, Some, None, if◌then◌else◌}
use Rattle.model.specs.declared.refusal.Refusal.{Refusal}
use Rattle.model.specs.declared.refusal.Refusal.TheVariants.{UnknownCarrier, NotAdmin, UnknownCode, CarrierTaken, CodeTaken, LrnTaken, BadLrn, InPool, WrongOld, NotFound, NotYours, Busy, WrongStatus, DuePast, DueMismatch, NotConcurred, BeforeDue, ConflictSpent, TooLate, TooEarly, Protected, Contaminated, OpenPorts, BlockTaken, NotQueued, OutOfOrder, ClockBack, Full, Storage, NoMemory}
use Rattle.json_api.specs.declared.fault.Failure.TheVariants.{Refused}
use Rattle.json_api.specs.Failures.{failure_text}

-- The refusal with a number.
abbrev pub refusal_of : ℕ → Option Refusal
refusal_of n =
    if n == 1 then Some UnknownCarrier
    else (if n == 2 then Some NotAdmin
    else (if n == 3 then Some UnknownCode
    else (if n == 4 then Some CarrierTaken
    else (if n == 5 then Some CodeTaken
    else (if n == 6 then Some LrnTaken
    else (if n == 7 then Some BadLrn
    else (if n == 8 then Some InPool
    else (if n == 9 then Some WrongOld
    else (if n == 10 then Some NotFound
    else (if n == 11 then Some NotYours
    else (if n == 12 then Some Busy
    else (if n == 13 then Some WrongStatus
    else (if n == 14 then Some DuePast
    else (if n == 15 then Some DueMismatch
    else (if n == 16 then Some NotConcurred
    else (if n == 17 then Some BeforeDue
    else (if n == 18 then Some ConflictSpent
    else (if n == 19 then Some TooLate
    else (if n == 20 then Some TooEarly
    else (if n == 21 then Some Protected
    else (if n == 22 then Some Contaminated
    else (if n == 23 then Some OpenPorts
    else (if n == 24 then Some BlockTaken
    else (if n == 25 then Some NotQueued
    else (if n == 26 then Some OutOfOrder
    else (if n == 27 then Some ClockBack
    else (if n == 28 then Some Full
    else (if n == 29 then Some Storage
    else (if n == 30 then Some NoMemory
    else None)))))))))))))))))))))))))))))

abbrev pub text_of_refusal : Option Refusal → List ℕ
text_of_refusal None = []
text_of_refusal (Some refusal) = failure_text (Refused refusal)

-- The whole response to the refusal with a number.
unfoldable pub refusal_text : ℕ → List ℕ
refusal_text number = text_of_refusal (refusal_of number)
