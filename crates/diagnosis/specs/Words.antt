-- The words for the causes of a refusal.
use Rattle.std.specs.Prelude.{List, ◌++◌, ℕ, codes, string_bytes}
use Rattle.diagnosis.specs.declared.cause.Cause.{Cause}
use Rattle.diagnosis.specs.declared.cause.Cause.TheVariants as cause
use Rattle.diagnosis.specs.declared.cause.Departure.{Departure}
use Rattle.diagnosis.specs.declared.cause.Departure.TheVariants as departure
use Rattle.diagnosis.specs.declared.cause.Part.{Part}
use Rattle.diagnosis.specs.declared.cause.Part.TheVariants as part
use Rattle.diagnosis.specs.declared.reason.Reason.{Reason}
use Rattle.diagnosis.specs.declared.reason.Reason.TheVariants as reason

abbrev pub reason_words : Reason → List ℕ
reason_words reason.Missing = codes "there is no such file or folder"
reason_words reason.NoPermission = codes "this user may not read and write it"
reason_words reason.NotAFile = codes "it is a folder or a device"
reason_words reason.SecondName = codes "it has a second name, a hard link"
reason_words reason.Journal = codes "a journal lies beside it: open it with sqlite3 first"
reason_words reason.InUse = codes "another program has it open"
reason_words reason.NoLog = codes "its log, with -wal after its name, cannot be opened or made"
reason_words reason.Empty = codes "it is empty, or has no tables"
reason_words reason.NotADatabase = codes "it is no SQLite database"
reason_words reason.Damaged =
    codes "it is damaged, or the log beside it is damaged or another file's"
reason_words reason.Unsound =
    codes "its schema cannot be read, or its rows break a rule of the schema"
reason_words reason.DeviceFailed = codes "the device failed"
reason_words reason.NoRoom = codes "the disk is full"
reason_words reason.NoMemory = codes "an allocation failed"
reason_words reason.Earlier =
    codes "it has an earlier format, which a command with --windows migrates"
reason_words reason.Moved = codes "its tables have other root pages, as after a VACUUM"
reason_words reason.NotBegun = codes "the table clock2 has no row"
reason_words reason.NoSet = codes "the table window_set has no row for the present set"
reason_words reason.Unknown = codes "no reason is found now"

abbrev pub part_words : Part → List ℕ
part_words part.Table = codes "table"
part_words part.Column = codes "column"
part_words part.Index = codes "index"
part_words part.Other = codes "view, trigger or table"

abbrev pub departure_words : Departure → List ℕ
departure_words departure.Missing = codes "is missing"
departure_words departure.Added = codes "is not a register's"
departure_words departure.Changed = codes "has another type or rule than a register's"

abbrev pub cause_words : Cause → List ℕ
cause_words (cause.Plain reason) = reason_words reason
cause_words (cause.Schema departure part name) =
    codes "the " ++ (part_words part ++ (codes " " ++ (string_bytes name
    ++ (codes " " ++ departure_words departure))))
cause_words (cause.Row table key) =
    codes "the row " ++ (string_bytes key ++ (codes " of the table " ++ (table.now
    ++ codes " cannot be read")))
cause_words (cause.OldRow table) =
    codes "the table " ++ (table.now ++ codes " of an earlier format has a row")
