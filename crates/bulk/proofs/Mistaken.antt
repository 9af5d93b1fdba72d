-- A row encodes a request exactly if each of its fields is as its action wants.
use Rattle.std.proofs.Common.{◌≡◌, ◌≢◌, ◌∙◌, ℕ, Bool, false, List, [], ◌∷◌, Option, Some, None, IfSome, IfNone, is_some, length, ap, refl, subst, sym}
use Rattle.std.specs.Prelude.{IsTrue}
use Rattle.numbers.specs.Texts.{spid_text}
use Rattle.numbers.specs.declared.spid.Spid.{Spid}
use Rattle.version.specs.declared.create.Creator.TheVariants as creator
use Rattle.version.specs.declared.command.VersionCommand.{VersionCommand}
use Rattle.version.specs.declared.command.VersionCommand.TheVariants as command
use Rattle.bulk.specs.Fields.{all_fields, six_fields}
use Rattle.bulk.specs.Mistakes.{IsAs, cic_wanted, column_name, due_wanted, field_in, flag_wanted, lrn_wanted, provider_wanted, wanted, wanted_by}
use Rattle.bulk.specs.Rows.{Row}
use Rattle.bulk.specs.Requests.{EncodesRequest, Names, action_name, action_of, command_action, header, operation_fields}
use Rattle.bulk.specs.declared.fields.Fields.{Fields}
use Rattle.bulk.specs.declared.mistake.Column.{Column}
use Rattle.bulk.specs.declared.mistake.Column.TheVariants as column
use Rattle.bulk.specs.declared.mistake.Expected.{Expected}
use Rattle.bulk.specs.declared.mistake.Expected.TheVariants as expected
use Rattle.bulk.specs.declared.request.ActionName.{ActionName}
use Rattle.bulk.specs.declared.request.ActionName.TheVariants.{OldProviderCreate, NewProviderCreate, Activate, PutInConflict, RemoveFromConflict, Cancel, OldProviderCancellationAcknowledge, NewProviderCancellationAcknowledge, Disconnect, ModifyRouting}
use Rattle.bulk.specs.declared.request.BulkRequest.{BulkRequest}
use Rattle.bulk.specs.declared.range.Numbers.{Numbers}
use Rattle.bulk.specs.declared.request.Operation.{Operation}
use Rattle.bulk.specs.declared.request.Operation.TheVariants as operation
use Rattle.bulk.proofs.Names.{one_name}

-- ---- what was parsed

-- Something was parsed exactly if there is something to parse.
pub parsed : {X : Type 0} (P : X → Type 0) (o : Option X) → IfSome o P
    → IfNone o ((x : X) → ¬ (P x)) → (b : Bool) → b ≡ is_some o
    → (IsTrue b → (x : X) × P x) × ((x : X) × P x → IsTrue b)
parsed P (Some x) some none b e = (λ t. (x, some), λ found. subst IsTrue (sym e) refl)
parsed P None some none b e =
    (λ t. absurd (let no : b ≡ false = e in cc), λ found. absurd (none found.0 found.1))

-- What decides whether a field is as expected decides it for an equal expectation too.
pub as_expected : (at : Column) (want w : Expected) (field : List ℕ) (b : Bool) → want ≡ w
    → (IsTrue b → IsAs at w field) × (IsAs at w field → IsTrue b)
    → (IsTrue b → IsAs at want field) × (IsAs at want field → IsTrue b)
as_expected at want w field b e is =
    subst (λ (x : Expected). (IsTrue b → IsAs at x field) × (IsAs at x field → IsTrue b)) (sym e) is

-- ---- each column

pub in_each : (P : Column → Type 0) → P column.Caller → P column.Action → P column.Subject
    → P column.OldProvider → P column.NewProvider → P column.Due → P column.Lrn → P column.Cic
    → P column.Flag → (c : Column) → P c
in_each P caller action subject old new due lrn cic flag column.Caller = caller
in_each P caller action subject old new due lrn cic flag column.Action = action
in_each P caller action subject old new due lrn cic flag column.Subject = subject
in_each P caller action subject old new due lrn cic flag column.OldProvider = old
in_each P caller action subject old new due lrn cic flag column.NewProvider = new
in_each P caller action subject old new due lrn cic flag column.Due = due
in_each P caller action subject old new due lrn cic flag column.Lrn = lrn
in_each P caller action subject old new due lrn cic flag column.Cic = cic
in_each P caller action subject old new due lrn cic flag column.Flag = flag

-- Holds if the fields are as a row of this action wants, or for none the header.
abbrev pub Fit : Fields → Option ActionName → Type 0
Fit f action = (c : Column) → IsAs c (wanted action c) (field_in f c)

-- ---- fields that fit

six : {a b c d e g a' b' c' d' e' g' : List ℕ} → a ≡ a' → b ≡ b' → c ≡ c' → d ≡ d' → e ≡ e'
    → g ≡ g' → a ∷ b ∷ c ∷ d ∷ e ∷ g ∷ [] ≡ a' ∷ b' ∷ c' ∷ d' ∷ e' ∷ g' ∷ []
six p q r s t u = cc

encoded : (f : Fields) (caller : Spid) (numbers : Numbers) (w : Operation)
    → f.caller.now ≡ spid_text caller.number → f.action.now ≡ action_name (action_of w)
    → Names f.subject.now numbers → six_fields f ≡ operation_fields w
    → (r : BulkRequest) × EncodesRequest (all_fields f) r
encoded f caller numbers w c a n s = (
  record { caller = caller; numbers = numbers; operation = w },
  record { subject = f.subject.now; names = n; fields = cc },
)

-- A command on a version whose fields are all empty.
plainly : (f : Fields) (v : VersionCommand) → f.action.now ≡ action_name (command_action v)
    → IsAs column.Caller expected.Carrier f.caller.now
    → IsAs column.Subject expected.Numbers f.subject.now
    → [] ∷ [] ∷ [] ∷ [] ∷ [] ∷ [] ∷ [] ≡ operation_fields (operation.OnVersion v)
    → f.old_provider.now ≡ [] → f.new_provider.now ≡ [] → f.due.now ≡ [] → f.lrn.now ≡ []
    → f.cic.now ≡ [] → f.flag.now ≡ [] → (r : BulkRequest) × EncodesRequest (all_fields f) r
plainly f v e caller subject empty o n d l c g =
    encoded f caller.0 subject.0 (operation.OnVersion v) caller.1 e subject.1
    (six o n d l c g ∙ empty)

-- Fields that are as their action wants encode a request.
pub request_of : (f : Fields) (a : ActionName) → f.action.now ≡ action_name a → Fit f (Some a)
    → (r : BulkRequest) × EncodesRequest (all_fields f) r
request_of f OldProviderCreate e fits =
    let caller = fits column.Caller in
    let subject = fits column.Subject in
    let old = fits column.OldProvider in
    let new = fits column.NewProvider in
    let due = fits column.Due in
    let flag = fits column.Flag in
    encoded f caller.0 subject.0
    (operation.Create old.0 new.0 due.0 (creator.OldProvider flag.0)) caller.1 e subject.1
    (six old.1 new.1 due.1 (fits column.Lrn) (fits column.Cic) flag.1)
request_of f NewProviderCreate e fits =
    let caller = fits column.Caller in
    let subject = fits column.Subject in
    let old = fits column.OldProvider in
    let new = fits column.NewProvider in
    let due = fits column.Due in
    let lrn = fits column.Lrn in
    let cic = fits column.Cic in
    encoded f caller.0 subject.0
    (operation.Create old.0 new.0 due.0
    (creator.NewProvider (record { lrn = lrn.0; cic = cic.0 }))) caller.1 e subject.1
    (six old.1 new.1 due.1 lrn.1 cic.1 (fits column.Flag))
request_of f Disconnect e fits =
    let caller = fits column.Caller in
    let subject = fits column.Subject in
    let due = fits column.Due in
    encoded f caller.0 subject.0 (operation.OnVersion (command.Disconnect due.0)) caller.1 e
    subject.1
    (six (fits column.OldProvider) (fits column.NewProvider) due.1 (fits column.Lrn)
    (fits column.Cic) (fits column.Flag))
request_of f ModifyRouting e fits =
    let caller = fits column.Caller in
    let subject = fits column.Subject in
    let lrn = fits column.Lrn in
    let cic = fits column.Cic in
    encoded f caller.0 subject.0
    (operation.OnVersion (command.ModifyRouting (record { lrn = lrn.0; cic = cic.0 }))) caller.1 e
    subject.1
    (six (fits column.OldProvider) (fits column.NewProvider) (fits column.Due) lrn.1 cic.1
    (fits column.Flag))
request_of f Activate e fits =
    plainly f command.Activate e (fits column.Caller) (fits column.Subject) refl
    (fits column.OldProvider) (fits column.NewProvider) (fits column.Due) (fits column.Lrn)
    (fits column.Cic) (fits column.Flag)
request_of f PutInConflict e fits =
    plainly f command.PutInConflict e (fits column.Caller) (fits column.Subject) refl
    (fits column.OldProvider) (fits column.NewProvider) (fits column.Due) (fits column.Lrn)
    (fits column.Cic) (fits column.Flag)
request_of f RemoveFromConflict e fits =
    plainly f command.RemoveFromConflict e (fits column.Caller) (fits column.Subject) refl
    (fits column.OldProvider) (fits column.NewProvider) (fits column.Due) (fits column.Lrn)
    (fits column.Cic) (fits column.Flag)
request_of f Cancel e fits =
    plainly f command.Cancel e (fits column.Caller) (fits column.Subject) refl
    (fits column.OldProvider) (fits column.NewProvider) (fits column.Due) (fits column.Lrn)
    (fits column.Cic) (fits column.Flag)
request_of f OldProviderCancellationAcknowledge e fits =
    plainly f command.OldProviderCancellationAcknowledge e (fits column.Caller)
    (fits column.Subject) refl
    (fits column.OldProvider) (fits column.NewProvider) (fits column.Due) (fits column.Lrn)
    (fits column.Cic) (fits column.Flag)
request_of f NewProviderCancellationAcknowledge e fits =
    plainly f command.NewProviderCancellationAcknowledge e (fits column.Caller)
    (fits column.Subject) refl
    (fits column.OldProvider) (fits column.NewProvider) (fits column.Due) (fits column.Lrn)
    (fits column.Cic) (fits column.Flag)

-- ---- requests

-- Holds if the last six fields are as a row of this action wants.
abbrev pub FitSix : Fields → ActionName → Type 0
FitSix f a = IsAs column.OldProvider (provider_wanted a) f.old_provider.now
    × IsAs column.NewProvider (provider_wanted a) f.new_provider.now
    × IsAs column.Due (due_wanted a) f.due.now
    × IsAs column.Lrn (lrn_wanted a) f.lrn.now
    × IsAs column.Cic (cic_wanted a) f.cic.now
    × IsAs column.Flag (flag_wanted a) f.flag.now

fit_six : (w : Operation) (f : Fields) → six_fields f ≡ operation_fields w
    → FitSix f (action_of w)
fit_six (operation.Create o n d (creator.OldProvider x)) f e =
    ((o, cc), (n, cc), (d, cc), cc, cc, (x, cc))
fit_six (operation.Create o n d (creator.NewProvider r)) f e =
    ((o, cc), (n, cc), (d, cc), (r.lrn, cc), (r.cic, cc), cc)
fit_six (operation.OnVersion (command.Disconnect m)) f e = (cc, cc, (m, cc), cc, cc, cc)
fit_six (operation.OnVersion (command.ModifyRouting r)) f e =
    (cc, cc, cc, (r.lrn, cc), (r.cic, cc), cc)
fit_six (operation.OnVersion command.Activate) f e = (cc, cc, cc, cc, cc, cc)
fit_six (operation.OnVersion command.PutInConflict) f e = (cc, cc, cc, cc, cc, cc)
fit_six (operation.OnVersion command.RemoveFromConflict) f e = (cc, cc, cc, cc, cc, cc)
fit_six (operation.OnVersion command.Cancel) f e = (cc, cc, cc, cc, cc, cc)
fit_six (operation.OnVersion command.OldProviderCancellationAcknowledge) f e =
    (cc, cc, cc, cc, cc, cc)
fit_six (operation.OnVersion command.NewProviderCancellationAcknowledge) f e =
    (cc, cc, cc, cc, cc, cc)

-- The fields of a row that encodes a request are as its action wants.
fit : (f : Fields) (r : BulkRequest) → EncodesRequest (all_fields f) r
    → Fit f (Some (action_of r.operation))
fit f r says =
    let last : six_fields f ≡ operation_fields r.operation = let e = says.fields in cc in
    let others = fit_six r.operation f last in
    let subject : f.subject.now ≡ says.subject = let e = says.fields in cc in
    in_each (λ c. IsAs c (wanted_by (action_of r.operation) c) (field_in f c))
    (r.caller, let e = says.fields in cc) (action_of r.operation, let e = says.fields in cc)
    (r.numbers, subst (λ text. Names text r.numbers) (sym subject) says.names)
    others.0 others.1 others.2 others.3 others.4 others.5

-- A row with a field that is not as its action wants encodes no request.
pub misfit : (f : Fields) (a : ActionName) (c : Column) → f.action.now ≡ action_name a
    → ¬ (IsAs c (wanted_by a c) (field_in f c)) → (r : BulkRequest)
    → ¬ (EncodesRequest (all_fields f) r)
misfit f a c named wrong r says =
    let name : action_name (action_of r.operation) ≡ action_name a = let e = says.fields in cc in
    let same = one_name (action_of r.operation) a name in
    wrong (subst (λ b. IsAs c (wanted_by b c) (field_in f c)) same (fit f r says c))

-- ---- rows

pub row_encodes : (row : Row) (f : Fields) (a : ActionName) → row ≡ all_fields f
    → f.action.now ≡ action_name a → Fit f (Some a) → (r : BulkRequest) × EncodesRequest row r
row_encodes row f a is e fits =
    subst (λ (x : Row). (r : BulkRequest) × EncodesRequest x r) (sym is) (request_of f a e fits)

pub row_misfit : (row : Row) (f : Fields) (a : ActionName) (at : Column) (want : Expected)
    (field : List ℕ) → row ≡ all_fields f → f.action.now ≡ action_name a
    → ¬ (IsAs at (wanted_by a at) (field_in f at)) → want ≡ wanted_by a at
    → field ≡ field_in f at
    → (¬ (IsAs at want field)) × ((r : BulkRequest) → ¬ (EncodesRequest row r))
row_misfit row f a at want field is e wrong wanted text = (
  λ fits. wrong (subst (λ (x : Expected). IsAs at x (field_in f at)) wanted
      (subst (λ (x : List ℕ). IsAs at want x) text fits)),
  λ r says. misfit f a at e wrong r (subst (λ (x : Row). EncodesRequest x r) is says),
)

-- ---- the header

-- A row of another length is not the header.
pub not_nine : (row : Row) → length row ≢ 9 → row ≢ header
unfolding header
not_nine row other e = other (ap length e)

-- Fields that all have their columns' names are the header.
pub all_named : (f : Fields) → Fit f None → all_fields f ≡ header
unfolding header
all_named f fits =
    let caller = fits column.Caller in
    let action = fits column.Action in
    let subject = fits column.Subject in
    let old = fits column.OldProvider in
    let new = fits column.NewProvider in
    let due = fits column.Due in
    let lrn = fits column.Lrn in
    let cic = fits column.Cic in
    let flag = fits column.Flag in
    cc

-- The fields of the header have their columns' names.
named : (f : Fields) → all_fields f ≡ header → Fit f None
unfolding header
named f e = in_each (λ c. field_in f c ≡ column_name c) (cc) (cc) (cc) (cc) (cc)
    (cc) (cc) (cc) (cc)

-- Fields are not the header if one has another name than its column's.
pub misnamed : (f : Fields) (c : Column) → ¬ (IsAs c expected.Name (field_in f c))
    → all_fields f ≢ header
misnamed f c wrong e = wrong (named f e c)
