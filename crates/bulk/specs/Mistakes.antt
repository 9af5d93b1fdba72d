-- The mistakes of rows: which field is not as its column wants.
use Rattle.std.specs.Prelude.{◌≡◌, ◌≢◌, ◌⊎◌, ◌==◌, ◌||◌, ℕ, Bool, List, [], Option, Some, None, codes, length}
use Rattle.numbers.specs.Abstraction.{subject_of}
use Rattle.numbers.specs.Texts.{spid_text, minute_text, lrn_text, subject_text}
use Rattle.numbers.specs.declared.cic.Cic.{Cic}
use Rattle.numbers.specs.declared.lrn.Lrn.{Lrn}
use Rattle.numbers.specs.declared.minute.Minute.{Minute}
use Rattle.numbers.specs.declared.ported.Subject.{Subject}
use Rattle.numbers.specs.declared.spid.Spid.{Spid}
use Rattle.bulk.specs.Fields.{all_fields}
use Rattle.bulk.specs.Requests.{Names, action_name, flag_text, optional_cic, optional_minute}
use Rattle.bulk.specs.Rows.{Row}
use Rattle.bulk.specs.declared.fields.Fields.{Fields}
use Rattle.bulk.specs.declared.mistake.Column.{Column}
use Rattle.bulk.specs.declared.mistake.Column.TheVariants as column
use Rattle.bulk.specs.declared.mistake.Expected.{Expected}
use Rattle.bulk.specs.declared.mistake.Expected.TheVariants as expected
use Rattle.bulk.specs.declared.mistake.RowMistake.{RowMistake}
use Rattle.bulk.specs.declared.mistake.RowMistake.TheVariants as mistake
use Rattle.bulk.specs.declared.range.Numbers.{Numbers}
use Rattle.bulk.specs.declared.request.ActionName.{ActionName}
use Rattle.bulk.specs.declared.request.ActionName.TheVariants.{OldProviderCreate, NewProviderCreate, Disconnect, ModifyRouting}

-- The name of a column in the header.
abbrev pub column_name : Column → List ℕ
column_name column.Caller = codes "caller"
column_name column.Action = codes "action"
column_name column.Subject = codes "subject"
column_name column.OldProvider = codes "old"
column_name column.NewProvider = codes "new"
column_name column.Due = codes "due"
column_name column.Lrn = codes "lrn"
column_name column.Cic = codes "cic"
column_name column.Flag = codes "flag"

-- The field of a row in a column.
abbrev pub field_in : Fields → Column → List ℕ
field_in f column.Caller = f.caller.now
field_in f column.Action = f.action.now
field_in f column.Subject = f.subject.now
field_in f column.OldProvider = f.old_provider.now
field_in f column.NewProvider = f.new_provider.now
field_in f column.Due = f.due.now
field_in f column.Lrn = f.lrn.now
field_in f column.Cic = f.cic.now
field_in f column.Flag = f.flag.now

-- Holds if a field of the column is as expected.
abbrev pub IsAs : Column → Expected → (field : List ℕ) → Type 0
IsAs at expected.Name field = field ≡ column_name at
IsAs at expected.Action field = (action : ActionName) × (field ≡ action_name action)
IsAs at expected.Carrier field = (spid : Spid) × (field ≡ spid_text spid.number)
IsAs at expected.Numbers field = (numbers : Numbers) × Names field numbers
IsAs at expected.Subject field =
    (subject : Subject) × (field ≡ subject_text (subject_of subject))
IsAs at expected.Minute field = (minute : Minute) × (field ≡ minute_text minute.number)
IsAs at expected.MinuteIfAny field =
    (minute : Option Minute) × (field ≡ optional_minute minute)
IsAs at expected.Lrn field = (lrn : Lrn) × (field ≡ lrn_text lrn.number)
IsAs at expected.CicIfAny field = (cic : Option Cic) × (field ≡ optional_cic cic)
IsAs at expected.Flag field = (flag : Bool) × (field ≡ flag_text flag)
IsAs at expected.Nothing field = field ≡ []

-- What an action wants of the columns old and new.
abbrev pub provider_wanted : ActionName → Expected
provider_wanted OldProviderCreate = expected.Carrier
provider_wanted NewProviderCreate = expected.Carrier
provider_wanted _ = expected.Nothing

abbrev pub due_wanted : ActionName → Expected
due_wanted OldProviderCreate = expected.Minute
due_wanted NewProviderCreate = expected.Minute
due_wanted Disconnect = expected.MinuteIfAny
due_wanted _ = expected.Nothing

abbrev pub lrn_wanted : ActionName → Expected
lrn_wanted NewProviderCreate = expected.Lrn
lrn_wanted ModifyRouting = expected.Lrn
lrn_wanted _ = expected.Nothing

abbrev pub cic_wanted : ActionName → Expected
cic_wanted NewProviderCreate = expected.CicIfAny
cic_wanted ModifyRouting = expected.CicIfAny
cic_wanted _ = expected.Nothing

abbrev pub flag_wanted : ActionName → Expected
flag_wanted OldProviderCreate = expected.Flag
flag_wanted _ = expected.Nothing

-- What a row of this action wants of a column.
abbrev pub wanted_by : ActionName → Column → Expected
wanted_by action column.Caller = expected.Carrier
wanted_by action column.Action = expected.Action
wanted_by action column.Subject = expected.Numbers
wanted_by action column.OldProvider = provider_wanted action
wanted_by action column.NewProvider = provider_wanted action
wanted_by action column.Due = due_wanted action
wanted_by action column.Lrn = lrn_wanted action
wanted_by action column.Cic = cic_wanted action
wanted_by action column.Flag = flag_wanted action

-- What a row of this action wants of a column; `None` is the header.
abbrev pub wanted : Option ActionName → Column → Expected
wanted None at = expected.Name
wanted (Some action) at = wanted_by action at

-- Holds if this is expected of a column: the name of an action of the column action, or what the
-- action that the fields name wants.
abbrev pub IsWantedIn : Fields → Column → Expected → Type 0
IsWantedIn fields at want = ((at ≡ column.Action) × (want ≡ expected.Action))
    ⊎ ((action : ActionName) × (fields.action.now ≡ action_name action)
    × (want ≡ wanted_by action at))

-- Holds if the row has this mistake as a request: it has not nine fields, or this field is not what
-- is expected of its column.
abbrev pub HasMistake : Row → RowMistake → Type 0
HasMistake row (mistake.FieldCount found want) =
    (found ≡ length row) × (want ≡ 9) × (length row ≢ 9)
HasMistake row (mistake.Field at field want) =
    (fields : Fields) × (row ≡ all_fields fields) × (field.now ≡ field_in fields at)
    × (¬ (IsAs at want field.now)) × IsWantedIn fields at want

-- Holds if the row has this mistake as a header.
abbrev pub HasHeaderMistake : Row → RowMistake → Type 0
HasHeaderMistake row (mistake.FieldCount found want) =
    (found ≡ length row) × (want ≡ 9) × (length row ≢ 9)
HasHeaderMistake row (mistake.Field at field want) =
    (fields : Fields) × (row ≡ all_fields fields) × (field.now ≡ field_in fields at)
    × (field.now ≢ column_name at) × (want ≡ expected.Name)

-- Whether a byte ends a line.
abbrev pub is_line_end : ℕ → Bool
is_line_end byte = (byte == 10) || (byte == 13)
