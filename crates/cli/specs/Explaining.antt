-- The explanation of a fault.
use Rattle.std.specs.Prelude.{ℕ, List, [], ◌∷◌, ◌++◌, codes}
use Rattle.windows.specs.declared.window.WindowFault.{WindowFault}
use Rattle.windows.specs.declared.window.WindowFault.TheVariants as windows
use Rattle.http_messages.specs.declared.fault.MessageFault.{MessageFault}
use Rattle.http_messages.specs.declared.fault.MessageFault.TheVariants as message
use Rattle.bulk.specs.declared.fault.FaultKind.{FaultKind}
use Rattle.bulk.specs.declared.fault.FaultKind.TheVariants as kind

abbrev pub window_words : WindowFault → List ℕ
window_words windows.Syntax = codes "it is not TOML in UTF-8"
window_words windows.MissingKey = codes "one of the nine windows is missing"
window_words windows.UnknownKey = codes "it has a key that is none of the nine windows"
window_words windows.NotWhole = codes "a window is not a whole number"
window_words windows.OutOfRange = codes "a window is not from 1 to 525600 minutes"
window_words windows.NoMemory = codes "an allocation failed"

abbrev pub message_words : MessageFault → List ℕ
message_words message.BadHead = codes "the head of a message is not HTTP, or is too long"
message_words message.TooLarge = codes "the body of a message is too large"
message_words message.CutBody = codes "it ends within the body of a message"
message_words message.BadRequest = codes "the body of a message is not what its path asks"
message_words message.NoPath = codes "a message has no path of this program"
message_words message.BadMethod = codes "a message has another method than its path"

abbrev pub file_words : FaultKind → List ℕ
file_words kind.BadHeader = codes "its first row is not the header"
file_words kind.BadFile = codes "a row is not an export's, or its subject is there twice"
file_words kind.UnknownCarrier = codes "this carrier is not registered"
file_words kind.Storage = codes "the device failed"
file_words kind.NoMemory = codes "an allocation failed"
file_words kind.Read = codes "it cannot be read"
file_words kind.Write = codes "it cannot be written"

-- The line of an explanation: the program's name, the fault's, what the fault is about, and why it
-- came.
abbrev pub explanation_line : (name about words : List ℕ) → List ℕ
explanation_line name about words =
    codes "npacd: " ++ (name ++ (codes ": " ++ (about ++ (codes ": " ++ (words ++ 10 ∷ [])))))
