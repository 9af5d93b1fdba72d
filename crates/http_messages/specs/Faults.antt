-- The name, the number and the HTTP status of each fault of a message.
use Rattle.std.specs.Prelude.{ℕ, List, codes}
use Rattle.http_messages.specs.declared.fault.MessageFault.{MessageFault}
use Rattle.http_messages.specs.declared.fault.MessageFault.TheVariants.{BadRequest, NoPath, BadMethod, TooLarge, BadHead, CutBody}

abbrev pub message_name : MessageFault → List ℕ
message_name BadRequest = codes "bad_request"
message_name NoPath = codes "no_path"
message_name BadMethod = codes "bad_method"
message_name TooLarge = codes "too_large"
message_name BadHead = codes "bad_head"
message_name CutBody = codes "cut_body"

abbrev pub message_number : MessageFault → ℕ
message_number BadRequest = 41
message_number NoPath = 42
message_number BadMethod = 43
message_number TooLarge = 44
message_number BadHead = 45
message_number CutBody = 46

abbrev pub message_status : MessageFault → ℕ
message_status BadRequest = 400
message_status NoPath = 404
message_status BadMethod = 405
message_status TooLarge = 413
message_status BadHead = 400
message_status CutBody = 400
