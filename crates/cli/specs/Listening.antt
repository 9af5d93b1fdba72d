-- What the program writes once its port is open.
use Rattle.std.specs.Prelude.{◌⊎◌, ℕ, List, [], ◌∷◌, ◌++◌, codes, decimal, ⊤, Option, Result, Ok, Err}
use Rattle.std.specs.Io.KnownBytes.{Appends, Keeps}
use Rattle.http_messages.specs.Sending.{AppendsPrefix}
use Rattle.register.specs.declared.register.OpenFault.TheVariants as opening
use Rattle.cli.specs.declared.fault.Fault.{Fault}
use Rattle.cli.specs.declared.fault.Fault.TheVariants as fault

-- The line for an open port.
abbrev pub listening_line : ℕ → List ℕ
listening_line port = codes "listening on 127.0.0.1:" ++ decimal port ++ 10 ∷ []

-- Holds for the faults that come before a connection is accepted.
abbrev pub IsBeforeServing : Fault → Type 0
IsBeforeServing fault.Listen = ⊤
IsBeforeServing fault.Write = ⊤
IsBeforeServing fault.NoMemory = ⊤
IsBeforeServing other = ⊥

-- Holds if the line was written; if the writer failed, a prefix of it; if the port could not be
-- opened, nothing. If an allocation failed, the line or nothing.
abbrev pub ReportsListening : (port : ℕ) → (had has : Option (List ℕ)) → Result (Unit {0}) Fault
    → Type 0
ReportsListening port had has (Ok done) = Appends had has (listening_line port)
ReportsListening port had has (Err fault.Write) = AppendsPrefix had has (listening_line port)
ReportsListening port had has (Err fault.Listen) = Keeps had has
ReportsListening port had has (Err fault.Read) = Appends had has (listening_line port)
ReportsListening port had has (Err (fault.Open opening.Storage)) =
    Appends had has (listening_line port)
ReportsListening port had has (Err fault.NoMemory) =
    Keeps had has ⊎ Appends had has (listening_line port)
ReportsListening port had has (Err other) = ⊥
