-- The failures that a response reports: their names, numbers, statuses and bytes.
use Rattle.std.specs.Prelude.{ℕ, List, codes}
use Rattle.model.specs.RefusalNumbers.{number_of}
use Rattle.model.specs.declared.refusal.Refusal.{Refusal}
use Rattle.model.specs.declared.refusal.Refusal.TheVariants.{UnknownCarrier, NotAdmin, UnknownCode, CarrierTaken, CodeTaken, LrnTaken, BadLrn, InPool, WrongOld, NotFound, NotYours, Busy, WrongStatus, DuePast, DueMismatch, NotConcurred, BeforeDue, ConflictSpent, TooLate, TooEarly, Protected, Contaminated, OpenPorts, BlockTaken, NotQueued, OutOfOrder, ClockBack, Full, Storage, NoMemory}
use Rattle.telnp.specs.declared.fault.TelFault.{TelFault}
use Rattle.telnp.specs.declared.fault.TelFault.TheVariants.{NotTel, BadNumber, BadParameter, ParameterTwice, LocalNumber, TooLong}
use Rattle.telnp.specs.Faults.{fault_name}
use Rattle.http_messages.specs.Faults.{message_name, message_number, message_status}
use Rattle.json_api.specs.Response.{response, refusal_body}
use Rattle.json_api.specs.declared.fault.Failure.{Failure}
use Rattle.json_api.specs.declared.fault.Failure.TheVariants.{Refused, Uri, Message}

abbrev pub refusal_name : Refusal → List ℕ
refusal_name UnknownCarrier = codes "unknown_carrier"
refusal_name NotAdmin = codes "not_admin"
refusal_name UnknownCode = codes "unknown_code"
refusal_name CarrierTaken = codes "carrier_taken"
refusal_name CodeTaken = codes "code_taken"
refusal_name LrnTaken = codes "lrn_taken"
refusal_name BadLrn = codes "bad_lrn"
refusal_name InPool = codes "in_pool"
refusal_name WrongOld = codes "wrong_old"
refusal_name NotFound = codes "not_found"
refusal_name NotYours = codes "not_yours"
refusal_name Busy = codes "busy"
refusal_name WrongStatus = codes "wrong_status"
refusal_name DuePast = codes "due_past"
refusal_name DueMismatch = codes "due_mismatch"
refusal_name NotConcurred = codes "not_concurred"
refusal_name BeforeDue = codes "before_due"
refusal_name ConflictSpent = codes "conflict_spent"
refusal_name TooLate = codes "too_late"
refusal_name TooEarly = codes "too_early"
refusal_name Protected = codes "protected"
refusal_name Contaminated = codes "contaminated"
refusal_name OpenPorts = codes "open_ports"
refusal_name BlockTaken = codes "block_taken"
refusal_name NotQueued = codes "not_queued"
refusal_name OutOfOrder = codes "out_of_order"
refusal_name ClockBack = codes "clock_back"
refusal_name Full = codes "full"
refusal_name Storage = codes "storage"
refusal_name NoMemory = codes "no_memory"

abbrev pub refusal_status : Refusal → ℕ
refusal_status UnknownCarrier = 403
refusal_status NotAdmin = 403
refusal_status UnknownCode = 404
refusal_status CarrierTaken = 409
refusal_status CodeTaken = 409
refusal_status LrnTaken = 409
refusal_status BadLrn = 409
refusal_status InPool = 409
refusal_status WrongOld = 409
refusal_status NotFound = 404
refusal_status NotYours = 403
refusal_status Busy = 409
refusal_status WrongStatus = 409
refusal_status DuePast = 409
refusal_status DueMismatch = 409
refusal_status NotConcurred = 409
refusal_status BeforeDue = 409
refusal_status ConflictSpent = 409
refusal_status TooLate = 409
refusal_status TooEarly = 409
refusal_status Protected = 409
refusal_status Contaminated = 409
refusal_status OpenPorts = 409
refusal_status BlockTaken = 409
refusal_status NotQueued = 404
refusal_status OutOfOrder = 409
refusal_status ClockBack = 409
refusal_status Full = 503
refusal_status Storage = 503
refusal_status NoMemory = 503

-- The numbers of the faults of a query's URI; `telnp` has their names.
abbrev pub fault_number : TelFault → ℕ
fault_number NotTel = 31
fault_number BadNumber = 32
fault_number BadParameter = 33
fault_number ParameterTwice = 34
fault_number LocalNumber = 35
fault_number TooLong = 36

abbrev pub failure_name : Failure → List ℕ
failure_name (Refused refusal) = refusal_name refusal
failure_name (Uri fault) = fault_name fault
failure_name (Message fault) = message_name fault

abbrev pub failure_number : Failure → ℕ
failure_number (Refused refusal) = number_of refusal
failure_number (Uri fault) = fault_number fault
failure_number (Message fault) = message_number fault

abbrev pub failure_status : Failure → ℕ
failure_status (Refused refusal) = refusal_status refusal
failure_status (Uri fault) = 400
failure_status (Message fault) = message_status fault

abbrev pub failure_body : Failure → List ℕ
failure_body failure = refusal_body (failure_name failure) (failure_number failure)

-- The whole response to a failure.
unfoldable pub failure_text : Failure → List ℕ
failure_text failure = response (failure_status failure) (failure_body failure)
