-- The numbers of refusals, which order them.
use Rattle.std.specs.Prelude.{ℕ}
use Rattle.model.specs.declared.refusal.Refusal.{Refusal}
use Rattle.model.specs.declared.refusal.Refusal.TheVariants.{UnknownCarrier, NotAdmin, UnknownCode, CarrierTaken, CodeTaken, LrnTaken, BadLrn, InPool, WrongOld, NotFound, NotYours, Busy, WrongStatus, DuePast, DueMismatch, NotConcurred, BeforeDue, ConflictSpent, TooLate, TooEarly, Protected, Contaminated, OpenPorts, BlockTaken, NotQueued, OutOfOrder, ClockBack, Full, Storage, NoMemory}

abbrev pub number_of : Refusal → ℕ
number_of UnknownCarrier = 1
number_of NotAdmin = 2
number_of UnknownCode = 3
number_of CarrierTaken = 4
number_of CodeTaken = 5
number_of LrnTaken = 6
number_of BadLrn = 7
number_of InPool = 8
number_of WrongOld = 9
number_of NotFound = 10
number_of NotYours = 11
number_of Busy = 12
number_of WrongStatus = 13
number_of DuePast = 14
number_of DueMismatch = 15
number_of NotConcurred = 16
number_of BeforeDue = 17
number_of ConflictSpent = 18
number_of TooLate = 19
number_of TooEarly = 20
number_of Protected = 21
number_of Contaminated = 22
number_of OpenPorts = 23
number_of BlockTaken = 24
number_of NotQueued = 25
number_of OutOfOrder = 26
number_of ClockBack = 27
number_of Full = 28
number_of Storage = 29
number_of NoMemory = 30
