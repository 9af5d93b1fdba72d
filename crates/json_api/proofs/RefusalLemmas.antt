-- Refusals and their numbers.
use Rattle.std.proofs.Common.{◌≡◌, refl}
use Rattle.model.specs.declared.refusal.Refusal.{Refusal}
use Rattle.model.specs.declared.refusal.Refusal.TheVariants.{UnknownCarrier, NotAdmin, UnknownCode, CarrierTaken, CodeTaken, LrnTaken, BadLrn, InPool, WrongOld, NotFound, NotYours, Busy, WrongStatus, DuePast, DueMismatch, NotConcurred, BeforeDue, ConflictSpent, TooLate, TooEarly, Protected, Contaminated, OpenPorts, BlockTaken, NotQueued, OutOfOrder, ClockBack, Full, Storage, NoMemory}
use Rattle.model.specs.RefusalNumbers.{number_of}
use Rattle.json_api.specs.declared.fault.Failure.TheVariants.{Refused}
use Rattle.json_api.specs.Failures.{failure_text}
use Rattle.json_api.specs.RefusalTexts.{refusal_text}

pub text_by_number : (r : Refusal) → failure_text (Refused r) ≡ refusal_text (number_of r)
unfolding refusal_text
text_by_number UnknownCarrier = refl
text_by_number NotAdmin = refl
text_by_number UnknownCode = refl
text_by_number CarrierTaken = refl
text_by_number CodeTaken = refl
text_by_number LrnTaken = refl
text_by_number BadLrn = refl
text_by_number InPool = refl
text_by_number WrongOld = refl
text_by_number NotFound = refl
text_by_number NotYours = refl
text_by_number Busy = refl
text_by_number WrongStatus = refl
text_by_number DuePast = refl
text_by_number DueMismatch = refl
text_by_number NotConcurred = refl
text_by_number BeforeDue = refl
text_by_number ConflictSpent = refl
text_by_number TooLate = refl
text_by_number TooEarly = refl
text_by_number Protected = refl
text_by_number Contaminated = refl
text_by_number OpenPorts = refl
text_by_number BlockTaken = refl
text_by_number NotQueued = refl
text_by_number OutOfOrder = refl
text_by_number ClockBack = refl
text_by_number Full = refl
text_by_number Storage = refl
text_by_number NoMemory = refl
