-- The machine's answers, and the meaning of refusals for a state.
use Rattle.std.proofs.Common.{◌≡◌, ◌≢◌, ◌⊎◌, ℕ, ◌<◌, ◌≤◌, List, length, take, min, Bool, Option, Some, None, Result, Ok, Err, OnOk, OnErr, IfErr, IsSomeAnd, true, false, inl, inr, refl, ap, sym, subst, ◌∙◌, arith}
use Rattle.std.proofs.lemmas.List.{length-take}
use Rattle.std.specs.Prelude.{nat_lt, if◌then◌else◌}
use Rattle.model.specs.declared.refusal.Refusal.{Refusal}
use Rattle.model.specs.declared.refusal.Refusal.TheVariants.{UnknownCarrier, NotAdmin, UnknownCode, CarrierTaken, CodeTaken, LrnTaken, BadLrn, InPool, WrongOld, NotFound, NotYours, Busy, WrongStatus, DuePast, DueMismatch, NotConcurred, BeforeDue, ConflictSpent, TooLate, TooEarly, Protected, Contaminated, OpenPorts, BlockTaken, NotQueued, OutOfOrder, ClockBack, Full, Storage, NoMemory}
use Rattle.model.specs.RefusalNumbers.{number_of}
use Rattle.model.specs.Commands.{Command, RegisterCarrier, RegisterRoutingNumber, OpenCode, OldProviderCreate, NewProviderCreate, OnVersion, Donate, Assign, Release, SetWindows}
use Rattle.model.specs.Content.{Content}
use Rattle.model.specs.History.{CommandRequest, AcknowledgementRequest}
use Rattle.model.specs.State.{State, InForce, Download, all_in_force, queue}
use Rattle.model.specs.Refusals.{Input, ClockMoment, QuestionFrom, Knows, Fetch, ShowVersion, Query, AllInForce, Waiting, Ids, refusal, tests}
use Rattle.model.specs.Machine.{Reply, Refused as MachineRefused, Moved, Registered, LrnAdded, CodeOpened, Shown, Donated, Known, Fetched, Answered, Rows, Awaited, Found, WindowsSet, Answer, out, next, refused_or, reply_of, answer_of, accepted}
use Rattle.model.proofs.DonatedIds.{donated_few}
use Rattle.settle.specs.StoreContract.{PreservesStore, ReportsStorage}
use Rattle.settle.specs.Reads.{HasDeviceFailed}
use Rattle.settle.specs.declared.store_model.StoreModel.{Ghosts}
use Rattle.register.specs.Refinement.{Refines, SimulatesStep}
use Rattle.requests.specs.Calls.{ModelCall, RequestCall, QuestionCall, MomentCall, input_of, refused_with, replied}
use Rattle.api.specs.declared.reply.ReplyBounds.{ReplyBounds}
use Rattle.api.specs.ReplyBounds.{AreReplyBounds}
use Rattle.json_api.specs.declared.fault.Failure.{Failure}
use Rattle.json_api.specs.declared.fault.Failure.TheVariants.{Refused, Uri, Message}
use Rattle.http_messages.specs.declared.fault.MessageFault.{MessageFault}
use Rattle.http_messages.specs.declared.fault.MessageFault.TheVariants.{BadRequest}
use Rattle.telnp.specs.declared.fault.TelFault.{TelFault}
use Rattle.telnp.specs.Answer.{Uri as TelUri}
use Rattle.telnp.specs.Faults.{fault_of}
use Rattle.json_api.specs.Failures.{failure_text}
use Rattle.json_api.specs.Forms.{ApiCall, RegisterCall, UriQuery, HasForm, json_of}
use Rattle.json_api.specs.RefusalTexts.{refusal_text}
use Rattle.api.specs.Step.{Step, Dispatches, DispatchesPath, DispatchesCall, RespondsTo, RespondsToAdmitted, RespondsToCall, IsCallerAdmitted, IsCallerRefused, IsTickUnavailable, ticked, BodyAsks, PathAsks, IsUnavailableRefusal, Outgrows, IsUnavailable, IsUri, AsksFor, IsReturnedAsIs, RespondsToQuery, IsPerformed, Performs, success, response_text, reply_text, routed_text}
use Rattle.json_api.specs.Texts.{looked_up, uri_text}
use Rattle.numbers.specs.declared.spid.Spid.{Spid}
use Rattle.serde_json.specs.Data.{Data}
use Rattle.http_messages.specs.declared.message.Request.{Request}
use Rattle.http_messages.specs.declared.paths.Method.{Method}
use Rattle.http_messages.specs.declared.paths.Route.{Route}
use Rattle.http_messages.specs.declared.paths.Route.TheVariants.{Carriers, Clock, RoutingNumbers, Codes, OldProviderCreate as OldProviderPath, NewProviderCreate as NewProviderPath, OnVersion as VersionPaths, OnBlock as BlockPaths, Acknowledge, Query as QueryPath, Windows as WindowsPath, Version, Number, Downloads}
use Rattle.http_messages.specs.Table.{allows_method, offered_route}
use Rattle.register.proofs.Asking.Unmoved.{stays, rows_of}
use Rattle.json_api.proofs.RefusalLemmas.{text_by_number}
use Rattle.std.proofs.Math.Nat.{le_trans}
use Rattle.settle.proofs.Risen.{risen-since}

-- ---- the rows in force

pub rows_counted : (old new : Content) (rows : List InForce)
    → SimulatesStep old new (QuestionFrom 0 AllInForce) (Some (Rows rows)) → (st : State)
    → Refines old st
    → length (all_in_force st) ≡ length rows
rows_counted old new rows h st s = ap length (sym (rows_of st rows (h st s).0))

pub never_refused : (st : State) (k : ℕ) → ¬ (MachineRefused k ≡ out st (QuestionFrom 0 AllInForce))
unfolding out tests
never_refused st k e = cc

-- Holds if a call answers `Storage` only if the count of the device's failures rose.
abbrev pub BlamesRightly : (from to : ℕ) → (old : Content) → Refusal → Type 0
BlamesRightly from to old r = (st : State) → Refines old st → r ≡ Storage → HasDeviceFailed from to

pub blamed : {S RespondsTo Says : Type 0} {store : Ghosts S} {before after : S} {old : Content}
    → PreservesStore store before after RespondsTo
    (ReportsStorage (store.IsUsable after) old Says)
    → store.IsUsable after
    → (st : State) → Refines old st → Says
    → HasDeviceFailed (store.failed before) (store.failed after)
blamed owed usable st refines says =
    owed.storage (record {
      usable = usable;
      st = st;
      represents = refines.represents;
      written = refines.written;
      says = says;
    })

pub blames_since : (from between to : ℕ) (old mid : Content) (r : Refusal) → from ≤ between
    → between ≤ to → ((st : State) → Refines old st → Refines mid st)
    → BlamesRightly between to mid r
    → BlamesRightly from to old r
blames_since from between to old mid r before behind same blames =
    λ st s e. risen-since from between to before behind (blames st (same st s) e)

-- ---- the meaning of a refusal

-- A refusal is `Storage`, `NoMemory` or one of the machine's.
kind : (r : Refusal) → (r ≡ Storage) ⊎ ((r ≡ NoMemory) ⊎ (nat_lt (number_of r) 29 ≡ true))
kind UnknownCarrier = inr (inr refl)
kind NotAdmin = inr (inr refl)
kind UnknownCode = inr (inr refl)
kind CarrierTaken = inr (inr refl)
kind CodeTaken = inr (inr refl)
kind LrnTaken = inr (inr refl)
kind BadLrn = inr (inr refl)
kind InPool = inr (inr refl)
kind WrongOld = inr (inr refl)
kind NotFound = inr (inr refl)
kind NotYours = inr (inr refl)
kind Busy = inr (inr refl)
kind WrongStatus = inr (inr refl)
kind DuePast = inr (inr refl)
kind DueMismatch = inr (inr refl)
kind NotConcurred = inr (inr refl)
kind BeforeDue = inr (inr refl)
kind ConflictSpent = inr (inr refl)
kind TooLate = inr (inr refl)
kind TooEarly = inr (inr refl)
kind Protected = inr (inr refl)
kind Contaminated = inr (inr refl)
kind OpenPorts = inr (inr refl)
kind BlockTaken = inr (inr refl)
kind NotQueued = inr (inr refl)
kind OutOfOrder = inr (inr refl)
kind ClockBack = inr (inr refl)
kind Full = inr (inr refl)
kind Storage = inl refl
kind NoMemory = inr (inl refl)

-- Holds if the device or an allocation failed and the state stays, or if the machine refuses too.
abbrev Judged : (from to : ℕ) → Refusal → State → Input → Content → Type 0
Judged from to r st input new = (IsUnavailableRefusal from to r × Refines new st)
    ⊎ ((out st input ≡ MachineRefused (number_of r)) × Refines new (next st input))

abbrev OfMachine : (old new : Content) → Input → ℕ → Bool → Type 0
OfMachine old new input k b = SimulatesStep old new input (if b then Some (MachineRefused k)
    else None)

judged : (r : Refusal) (from to : ℕ) (old new : Content) (input : Input)
    → SimulatesStep old new input (refused_with (number_of r)) → BlamesRightly from to old r
    → (st : State) → Refines old st → Judged from to r st input new
judged r from to old new input h blames st s = by_cases (kind r)
  where
    by_cases : (r ≡ Storage) ⊎ ((r ≡ NoMemory) ⊎ (nat_lt (number_of r) 29 ≡ true))
        → Judged from to r st input new
    by_cases (inl e) = inl (
      inl (e, blames st s e),
      subst (λ (t : Refusal). SimulatesStep old new input (refused_with (number_of t))) e h st s,
    )
    by_cases (inr (inl e)) = inl (
      inr e,
      subst (λ (t : Refusal). SimulatesStep old new input (refused_with (number_of t))) e h st s,
    )
    by_cases (inr (inr less)) = let x = subst (OfMachine old new input (number_of r)) less h st s in
        inr (sym x.0, x.1)

pub short_text : (r : Refusal) (from to : ℕ) → IsUnavailableRefusal from to r
    → ((failure_text (Refused r) ≡ refusal_text 29) × HasDeviceFailed from to)
    ⊎ (failure_text (Refused r) ≡ refusal_text 30)
short_text r from to (inl x) = inl (
  ap (λ (t : Refusal). failure_text (Refused t)) x.0 ∙ text_by_number Storage,
  x.1,
)
short_text r from to (inr e) =
    inr (ap (λ (t : Refusal). failure_text (Refused t)) e ∙ text_by_number NoMemory)

-- Holds if the response to the refusal is that of `Judged`.
abbrev Outcome : (from to : ℕ) → Refusal → State → Input → Content → Type 0
Outcome from to r st input new =
    ((((failure_text (Refused r) ≡ refusal_text 29) × HasDeviceFailed from to)
    ⊎ (failure_text (Refused r) ≡ refusal_text 30)) × Refines new st)
    ⊎ ((k : ℕ) × (out st input ≡ MachineRefused k) × (failure_text (Refused r) ≡ refusal_text k)
    × Refines new (next st input))

told_by : (r : Refusal) (from to : ℕ) (st : State) (input : Input) (new : Content)
    → Judged from to r st input new → Outcome from to r st input new
told_by r from to st input new (inl x) = inl (short_text r from to x.0, x.1)
told_by r from to st input new (inr x) = inr (number_of r, x.0, text_by_number r, x.1)

refusal_outcome : (r : Refusal) (from to : ℕ) (old new : Content) (input : Input)
    → SimulatesStep old new input (refused_with (number_of r)) → BlamesRightly from to old r
    → (st : State) → Refines old st → Outcome from to r st input new
refusal_outcome r from to old new input h blames st s =
    told_by r from to st input new (judged r from to old new input h blames st s)

-- ---- the rows in force

rows_fail : (r : Refusal) (from to : ℕ) (st : State) (new : Content)
    → Judged from to r st (QuestionFrom 0 AllInForce) new → IsUnavailableRefusal from to r
rows_fail r from to st new (inl x) = x.0
rows_fail r from to st new (inr x) = absurd (never_refused st (number_of r) (sym x.0))

pub rows_short : (r : Refusal) (from to : ℕ) (old new : Content)
    → SimulatesStep old new (QuestionFrom 0 AllInForce) (refused_with (number_of r))
    → BlamesRightly from to old r → (st : State) → Refines old st → IsUnavailableRefusal from to r
rows_short r from to old new h blames st s =
    rows_fail r from to st new (judged r from to old new (QuestionFrom 0 AllInForce) h blames st s)

-- ---- a registration

same_registration : (st : State) (r : Option ℕ) (new : State) (caller : ℕ) (c : Command) (spid : ℕ)
    (rows : List InForce) → Registered spid rows ≡ refused_or r (reply_of st new caller c)
    → (c ≡ RegisterCarrier spid) × (rows ≡ all_in_force st)
same_registration st (Some k) new caller c holder rows e = let x : ⊥ = cc in absurd x
same_registration st None new caller (RegisterCarrier spid) provider rows e = (cc, cc)
same_registration st None new caller (RegisterRoutingNumber lrn) provider rows e = let x : ⊥ = cc in
    absurd x
same_registration st None new caller (OpenCode code holder) provider rows e = let x : ⊥ = cc in
    absurd x
same_registration st None new caller (SetWindows windows) provider rows e = let x : ⊥ = cc in
    absurd x
same_registration st None new caller (OldProviderCreate tn old_provider new_provider due authorized)
    provider rows e = let x : ⊥ = cc in absurd x
same_registration st None new caller (NewProviderCreate tn old_provider new_provider due lrn cic)
    provider rows e = let x : ⊥ = cc in absurd x
same_registration st None new caller (OnVersion id command) provider rows e = let x : ⊥ = cc in
    absurd x
same_registration st None new caller (Donate block used lrn cic) provider rows e = let x : ⊥ = cc in
    absurd x
same_registration st None new caller (Assign block holder lrn cic) provider rows e = let x : ⊥ =
    cc in absurd x
same_registration st None new caller (Release block) provider rows e = let x : ⊥ = cc in absurd x

abbrev IsRegistration : State → ModelCall → (spid : ℕ) → List InForce → Type 0
IsRegistration st called spid rows = (called ≡ RequestCall (CommandRequest (RegisterCarrier spid)))
    × (rows ≡ all_in_force st)

registered_by : (st : State) (r : Option ℕ) (new : State) (caller : ℕ) (called : ModelCall)
    (spid : ℕ)
    (rows : List InForce)
    → Registered spid rows ≡ refused_or r (answer_of st new (input_of caller called))
    → IsRegistration st called spid rows
registered_by st (Some k) new caller called spid rows e = let x : ⊥ = cc in absurd x
registered_by st None new caller (RequestCall (CommandRequest c)) spid rows e =
    let found = same_registration st None new caller c spid rows e in
    (ap (λ (command : Command). RequestCall (CommandRequest command)) found.0, found.1)
registered_by st None new caller (RequestCall (AcknowledgementRequest id attempt)) spid rows e =
    let x : ⊥ = cc in
    absurd x
registered_by st None new caller (QuestionCall Knows) spid rows e = let x : ⊥ = cc in absurd x
registered_by st None new caller (QuestionCall (Fetch n)) spid rows e = let x : ⊥ = cc in absurd x
registered_by st None new caller (QuestionCall (ShowVersion id)) spid rows e = let x : ⊥ = cc in
    absurd x
registered_by st None new caller (QuestionCall (Query tn)) spid rows e = let x : ⊥ = cc in absurd x
registered_by st None new caller (QuestionCall AllInForce) spid rows e = let x : ⊥ = cc in absurd x
registered_by st None new caller (QuestionCall Waiting) spid rows e = let x : ⊥ = cc in absurd x
registered_by st None new caller (QuestionCall (Ids tn)) spid rows e = let x : ⊥ = cc in absurd x
registered_by st None new caller (MomentCall minute) spid rows e = let x : ⊥ = cc in absurd x

registered_of : (st : State) (caller : ℕ) (called : ModelCall) (spid : ℕ) (rows : List InForce)
    → Registered spid rows ≡ out st (input_of caller called) → IsRegistration st called spid rows
unfolding out
registered_of st caller called spid rows e =
    registered_by st (refusal st (input_of caller called)) (accepted st (input_of caller called))
    caller called spid rows e

-- ---- a carrier's first downloads

no_download : (st : State) (r : Option ℕ) (new : State) (caller : ℕ) (c : Command)
    (downloads : List Download) → ¬ (Fetched downloads ≡ refused_or r (reply_of st new caller c))
no_download st (Some k) new caller c downloads e = cc
no_download st None new caller (RegisterCarrier spid) downloads e = cc
no_download st None new caller (RegisterRoutingNumber lrn) downloads e = cc
no_download st None new caller (OpenCode code holder) downloads e = cc
no_download st None new caller (SetWindows windows) downloads e = cc
no_download st None new caller (OldProviderCreate tn old_provider new_provider due authorized)
    downloads e = cc
no_download st None new caller (NewProviderCreate tn old_provider new_provider due lrn cic)
    downloads e = cc
no_download st None new caller (OnVersion id command) downloads e = cc
no_download st None new caller (Donate block used lrn cic) downloads e = cc
no_download st None new caller (Assign block holder lrn cic) downloads e = cc
no_download st None new caller (Release block) downloads e = cc

-- Holds if a call is a fetch of at least as many downloads.
abbrev IsFetch : ModelCall → List Download → Type 0
IsFetch called downloads = (n : ℕ) × (called ≡ QuestionCall (Fetch n)) × (length downloads ≤ n)

taken_at_most : (n : ℕ) (queued downloads : List Download)
    → Fetched downloads ≡ Fetched (take n queued) → length downloads ≤ n
taken_at_most n queued downloads e =
    let same : downloads ≡ take n queued = cc in
    let long : length downloads ≡ min n (length queued) = ap length same ∙ length-take n queued in
    omega (arith, long)

fetched_by : (st : State) (r : Option ℕ) (new : State) (caller : ℕ) (called : ModelCall)
    (downloads : List Download)
    → Fetched downloads ≡ refused_or r (answer_of st new (input_of caller called))
    → IsFetch called downloads
fetched_by st (Some k) new caller called downloads e = let x : ⊥ = cc in absurd x
fetched_by st None new caller (RequestCall (CommandRequest c)) downloads e =
    absurd (no_download st None new caller c downloads e)
fetched_by st None new caller (RequestCall (AcknowledgementRequest id attempt)) downloads e =
    let x : ⊥ = cc in
    absurd x
fetched_by st None new caller (QuestionCall Knows) downloads e = let x : ⊥ = cc in absurd x
fetched_by st None new caller (QuestionCall (Fetch n)) downloads e =
    (n, refl, taken_at_most n (queue st caller) downloads e)
fetched_by st None new caller (QuestionCall (ShowVersion id)) downloads e = let x : ⊥ = cc in
    absurd x
fetched_by st None new caller (QuestionCall (Query tn)) downloads e = let x : ⊥ = cc in absurd x
fetched_by st None new caller (QuestionCall AllInForce) downloads e = let x : ⊥ = cc in absurd x
fetched_by st None new caller (QuestionCall Waiting) downloads e = let x : ⊥ = cc in absurd x
fetched_by st None new caller (QuestionCall (Ids tn)) downloads e = let x : ⊥ = cc in absurd x
fetched_by st None new caller (MomentCall minute) downloads e = let x : ⊥ = cc in absurd x

fetched_of : (st : State) (caller : ℕ) (called : ModelCall) (downloads : List Download)
    → Fetched downloads ≡ out st (input_of caller called) → IsFetch called downloads
unfolding out
fetched_of st caller called downloads e =
    fetched_by st (refusal st (input_of caller called)) (accepted st (input_of caller called))
    caller called downloads e

-- ---- a donation

-- Holds if a call is a donation.
abbrev IsDonation : ModelCall → Type 0
IsDonation called = (block : ℕ) × (used : List ℕ) × (lrn : ℕ) × (cic : Option ℕ)
    × (called ≡ RequestCall (CommandRequest (Donate block used lrn cic)))

same_donation : (st : State) (r : Option ℕ) (new : State) (caller : ℕ) (c : Command) (b : ℕ)
    (ids : List ℕ) → Donated b ids ≡ refused_or r (reply_of st new caller c)
    → IsDonation (RequestCall (CommandRequest c))
same_donation st (Some k) new caller c b ids e = let x : ⊥ = cc in absurd x
same_donation st None new caller (RegisterCarrier spid) b ids e = let x : ⊥ = cc in absurd x
same_donation st None new caller (RegisterRoutingNumber lrn) b ids e = let x : ⊥ = cc in absurd x
same_donation st None new caller (OpenCode code holder) b ids e = let x : ⊥ = cc in absurd x
same_donation st None new caller (SetWindows windows) b ids e = let x : ⊥ = cc in absurd x
same_donation st None new caller (OldProviderCreate tn old_provider new_provider due authorized) b
    ids e = let x : ⊥ = cc in absurd x
same_donation st None new caller (NewProviderCreate tn old_provider new_provider due lrn cic) b ids
    e = let x : ⊥ = cc in absurd x
same_donation st None new caller (OnVersion id command) b ids e = let x : ⊥ = cc in absurd x
same_donation st None new caller (Donate block used lrn cic) b ids e = (block, used, lrn, cic, refl)
same_donation st None new caller (Assign block holder lrn cic) b ids e = let x : ⊥ = cc in absurd x
same_donation st None new caller (Release block) b ids e = let x : ⊥ = cc in absurd x

donated_by : (st : State) (r : Option ℕ) (new : State) (caller : ℕ) (called : ModelCall) (b : ℕ)
    (ids : List ℕ) → Donated b ids ≡ refused_or r (answer_of st new (input_of caller called))
    → IsDonation called
donated_by st (Some k) new caller called b ids e = let x : ⊥ = cc in absurd x
donated_by st None new caller (RequestCall (CommandRequest c)) b ids e =
    same_donation st None new caller c b ids e
donated_by st None new caller (RequestCall (AcknowledgementRequest id attempt)) b ids e =
    let x : ⊥ = cc in absurd x
donated_by st None new caller (QuestionCall Knows) b ids e = let x : ⊥ = cc in absurd x
donated_by st None new caller (QuestionCall (Fetch n)) b ids e = let x : ⊥ = cc in absurd x
donated_by st None new caller (QuestionCall (ShowVersion id)) b ids e = let x : ⊥ = cc in absurd x
donated_by st None new caller (QuestionCall (Query tn)) b ids e = let x : ⊥ = cc in absurd x
donated_by st None new caller (QuestionCall AllInForce) b ids e = let x : ⊥ = cc in absurd x
donated_by st None new caller (QuestionCall Waiting) b ids e = let x : ⊥ = cc in absurd x
donated_by st None new caller (QuestionCall (Ids tn)) b ids e = let x : ⊥ = cc in absurd x
donated_by st None new caller (MomentCall minute) b ids e = let x : ⊥ = cc in absurd x

donated_of : (st : State) (caller : ℕ) (called : ModelCall) (b : ℕ) (ids : List ℕ)
    → Donated b ids ≡ out st (input_of caller called) → IsDonation called
unfolding out
donated_of st caller called b ids e =
    donated_by st (refusal st (input_of caller called)) (accepted st (input_of caller called))
    caller called b ids e

-- A donation makes at most a hundred ids.
few_donated : (st : State) (caller : ℕ) (called : ModelCall) (b : ℕ) (ids : List ℕ)
    → Donated b ids ≡ out st (input_of caller called) → IsDonation called → length ids ≤ 100
few_donated st caller called b ids e is =
    donated_few st caller is.0 is.1 is.2 is.3 b ids
    (e ∙ ap (λ (k : ModelCall). out st (input_of caller k)) is.4)

-- ---- the bounds of a reply

not_outgrown : (st : State) (caller : ℕ) (c : ModelCall) (reply : Reply) (bounds : ReplyBounds)
    → reply ≡ out st (input_of caller c) → AreReplyBounds st c bounds → ¬ (Outgrows bounds reply)
not_outgrown st caller c (Registered spid rows) bounds e is x =
    let found = registered_of st caller c spid rows e in
    let long : length rows ≡ length (all_in_force st) = ap length found.1 in
    let many : length (all_in_force st) ≡ bounds.rows = is.rows spid found.0 in
    let lt : bounds.rows < length rows = x in
    omega (arith, long, many, lt)
not_outgrown st caller c (Fetched downloads) bounds e is x =
    let found = fetched_of st caller c downloads e in
    let most : length downloads ≤ found.0 = found.2 in
    let many : found.0 ≡ bounds.downloads = is.downloads found.0 found.1 in
    let lt : bounds.downloads < length downloads = x in
    omega (arith, most, many, lt)
not_outgrown st caller c (Donated block ids) bounds e is x =
    let found = donated_of st caller c block ids e in
    let few : length ids ≤ 100 = few_donated st caller c block ids e found in
    let most : 100 ≤ bounds.ids = is.ids found.0 found.1 found.2 found.3 found.4 in
    let lt : bounds.ids < length ids = x in
    omega (arith, few, most, lt)
not_outgrown st caller c (MachineRefused number) bounds e is x = x
not_outgrown st caller c (Moved now) bounds e is x = x
not_outgrown st caller c (LrnAdded lrn spid) bounds e is x = x
not_outgrown st caller c (CodeOpened code spid) bounds e is x = x
not_outgrown st caller c (Shown view) bounds e is x = x
not_outgrown st caller c Known bounds e is x = x
not_outgrown st caller c (Answered answered) bounds e is x = x
not_outgrown st caller c (Rows rows) bounds e is x = x
not_outgrown st caller c (Awaited subjects) bounds e is x = x
not_outgrown st caller c (Found in_force opened) bounds e is x = x
not_outgrown st caller c (WindowsSet now number) bounds e is x = x

-- ---- calls

-- A call is refused for its caller.
pub away_carried : (r : Refusal) (from to : ℕ) (new : Content) (st : State) (caller : ℕ)
    (called : ModelCall) → Refines new st → IsCallerRefused from to st caller called r →
    IsPerformed from to new st caller (RegisterCall called) (failure_text (Refused r))
away_carried r from to new st caller called s (inl short) =
    (st, inl (short_text r from to short, refl), s)
away_carried r from to new st caller called s (inr e) = (
  st,
  inr (subst (λ (o : Option ℕ). RespondsToAdmitted st o (input_of caller called)
      (failure_text (Refused r)) st) (sym e) (text_by_number r, refl)),
  s,
)

-- The text of a refusal answers a call with this result.
pub refused_as : {A : Type 0} (from to : ℕ) (new : Content) (st : State) (caller : ℕ)
    (asked : ApiCall) (result : Result A Failure) (body : List ℕ) (r : Refusal)
    → result ≡ Err (Refused r) →
    IsPerformed from to new st caller asked (failure_text (Refused r))
    → IsPerformed from to new st caller asked (response_text result body)
refused_as from to new st caller asked result body r e x =
    subst (λ (o : Result _ Failure). IsPerformed from to new st caller asked (response_text o body))
    (sym e) x

module _ (from to : ℕ) (new : Content) (st : State) (caller : ℕ) (called : ModelCall) where
  -- There is no memory for the reply.
  pub short_carried : (r : Refusal) → Refines new st → IsUnavailableRefusal from to r
      → IsPerformed from to new st caller (RegisterCall called) (failure_text (Refused r))
  short_carried r s short = (st, inl (short_text r from to short, refl), s)

  module _ (admits : IsCallerAdmitted st caller called) where
    taken : (text : List ℕ) → text ≡ reply_text (out st (input_of caller called))
        → RespondsToCall st caller called text (next st (input_of caller called))
    taken text e =
        subst (λ (o : Option ℕ). RespondsToAdmitted st o (input_of caller called) text
        (next st (input_of caller called))) (sym admits) (e, refl)

    refused_by : (r : Refusal) → Outcome from to r st (input_of caller called) new
        → IsPerformed from to new st caller (RegisterCall called) (failure_text (Refused r))
    refused_by r (inl x) = (st, inl (x.0, refl), x.1)
    refused_by r (inr x) = (
      next st (input_of caller called),
      inr (taken (failure_text (Refused r)) (x.2 ∙ ap reply_text (sym x.1))),
      x.3,
    )

    -- The register refuses the call.
    pub refused_carried : (r : Refusal) (mid : Content)
        → SimulatesStep mid new (input_of caller called) (refused_with (number_of r))
        → BlamesRightly from to mid r → Refines mid st →
        IsPerformed from to new st caller (RegisterCall called) (failure_text (Refused r))
    refused_carried r mid h blames s =
        refused_by r (refusal_outcome r from to mid new (input_of caller called) h blames st s)

    -- The register replies to the call.
    pub reply_carried : {A : Type 0} (mid : Content) (reply : Reply) (bounds : ReplyBounds)
        (result : Result A Failure) (body : List ℕ) → Refines mid st
        → AreReplyBounds st called bounds →
        SimulatesStep mid new (input_of caller called) (Some reply)
        → OnOk result (success body ≡ reply_text reply) → OnErr result (Outgrows bounds reply) →
        IsPerformed from to new st caller (RegisterCall called) (response_text result body)
    reply_carried mid reply bounds (Ok done) body s is h text more = (
      next st (input_of caller called),
      inr (taken (success body) (text ∙ ap reply_text (h st s).0)),
      (h st s).1,
    )
    reply_carried mid reply bounds (Err failure) body s is h text more =
        absurd (not_outgrown st caller called reply bounds (h st s).0 is more)

-- ---- the callers that may ask for the ids of a number

known_by : (o : Option ℕ) → Known ≡ refused_or o Known → o ≡ None
known_by None e = refl
known_by (Some k) e = let x : ⊥ = cc in absurd x

refused_for : (o : Option ℕ) (k : ℕ) → refused_or o Known ≡ MachineRefused k → o ≡ Some k
refused_for None k e = let x : ⊥ = cc in absurd x
refused_for (Some n) k e = cc

pub known_admitted : (st : State) (caller : ℕ) → Known ≡ out st (QuestionFrom caller Knows)
    → refusal st (QuestionFrom caller Knows) ≡ None
unfolding out
known_admitted st caller e = known_by (refusal st (QuestionFrom caller Knows)) e

unknown_refused : (st : State) (caller k : ℕ) → out st (QuestionFrom caller Knows) ≡ MachineRefused
    k
    → refusal st (QuestionFrom caller Knows) ≡ Some k
unfolding out
unknown_refused st caller k e = refused_for (refusal st (QuestionFrom caller Knows)) k e

unknown_by : (r : Refusal) (from to : ℕ) (st : State) (caller tn : ℕ) (new : Content)
    → Judged from to r st (QuestionFrom caller Knows) new
    → IsCallerRefused from to st caller (QuestionCall (Ids tn)) r
unknown_by r from to st caller tn new (inl x) = inl x.0
unknown_by r from to st caller tn new (inr x) = inr (unknown_refused st caller (number_of r) x.0)

pub unknown_turned_away : (r : Refusal) (from to : ℕ) (old new : Content) (caller tn : ℕ)
    → SimulatesStep old new (QuestionFrom caller Knows) (refused_with (number_of r))
    → BlamesRightly from to old r →
    (st : State) → Refines old st → IsCallerRefused from to st caller (QuestionCall (Ids tn)) r
unknown_turned_away r from to old new caller tn h blames st s =
    unknown_by r from to st caller tn new (judged r from to old new (QuestionFrom caller Knows) h
    blames st
    s)

-- A caller that the register knows is admitted.
pub known_or_not : (U : Type 0) (result : Result Unit Refusal) (old new : Content) (caller tn : ℕ)
    → (U → SimulatesStep old new (QuestionFrom caller Knows) (replied (λ done. Known) result)) →
    OnOk result (U → (st : State) → Refines old st
    → IsCallerAdmitted st caller (QuestionCall (Ids tn)))
known_or_not U (Ok done) old new caller tn h = λ u st s. known_admitted st caller (h u st s).0
known_or_not U (Err r) old new caller tn h = tt

pub away_or_not : (U : Type 0) (result : Result Unit Refusal) (from to : ℕ) (old new : Content)
    (caller tn : ℕ)
    → (U → SimulatesStep old new (QuestionFrom caller Knows) (replied (λ done. Known) result)) →
    (U → (st : State) → Refines old st → result ≡ Err Storage → HasDeviceFailed from to)
    → IfErr result (λ r. U → (st : State) → Refines old st
    → IsCallerRefused from to st caller (QuestionCall (Ids tn)) r)
away_or_not U (Ok done) from to old new caller tn h blames = tt
away_or_not U (Err r) from to old new caller tn h blames =
    λ u st s. unknown_turned_away r from to old new caller tn (h u)
    (λ st s e. blames u st s (ap Err e)) st s

-- ---- the caller that may move the clock

abbrev only_if : Bool → Option ℕ
only_if b = if b then None else Some 2

-- ---- queries

query_known : (r : Refusal) (from to : ℕ) (st : State) (caller : ℕ) (uri : List ℕ) (new : Content)
    → Outcome from to r st (QuestionFrom caller Knows) new →
    (after : State) × (IsUnavailable from to st (failure_text (Refused r)) after
    ⊎ (RespondsToQuery st caller uri (failure_text (Refused r)) × (after ≡ st))) × Refines new after
query_known r from to st caller uri new (inl x) = (st, inl (x.0, refl), x.1)
query_known r from to st caller uri new (inr x) =
    (st, inr (inl (x.0, x.1, x.2), refl), stays new st caller Knows x.3)

pub unknown_carried : (r : Refusal) (from to : ℕ) (old new : Content) (caller : ℕ) (uri : List ℕ)
    → SimulatesStep old new (QuestionFrom caller Knows) (refused_with (number_of r))
    → BlamesRightly from to old r
    → Performs from to old new caller (UriQuery uri) (failure_text (Refused r))
unknown_carried r from to old new caller uri h blames =
    λ st s. query_known r from to st caller uri new
    (refusal_outcome r from to old new (QuestionFrom caller Knows) h
    blames st s)

pub faulty_carried : (fault : TelFault) (from to : ℕ) (old new : Content) (caller : ℕ)
    (uri : List ℕ) → SimulatesStep old new (QuestionFrom caller Knows) (Some Known)
    → fault_of uri ≡ Some fault
    → Performs from to old new caller (UriQuery uri) (failure_text (Uri fault))
faulty_carried fault from to old new caller uri h e = λ st s. (
  st,
  inr (inr (inl (sym (h st s).0, (fault, e, refl))), refl),
  stays new st caller Knows (h st s).1,
)

-- A query is refused as its caller is.
refused_alike : (o : Option ℕ) (a : Reply) (k : ℕ) → refused_or o a ≡ MachineRefused k
    → ((n : ℕ) → a ≡ MachineRefused n → ⊥) → refused_or o Known ≡ MachineRefused k
refused_alike None a k e never = absurd (never k e)
refused_alike (Some n) a k e never = e

query_refused : (st : State) (caller tn k : ℕ)
    → out st (QuestionFrom caller (Query tn)) ≡ MachineRefused k
    → out st (QuestionFrom caller Knows) ≡ MachineRefused k
unfolding out tests
query_refused st caller tn k e =
    refused_alike (refusal st (QuestionFrom caller Knows)) _ k e (λ n f. let x : ⊥ = cc in x)

known_alike : (o : Option ℕ) (a : Reply) (b : Answer) → refused_or o a ≡ Answered b
    → refused_or o Known ≡ Known
known_alike None a b e = refl
known_alike (Some n) a b e = let x : ⊥ = cc in absurd x

query_knows : (st : State) (caller tn : ℕ) (a : Answer)
    → out st (QuestionFrom caller (Query tn)) ≡ Answered a
    → out st (QuestionFrom caller Knows) ≡ Known
unfolding out tests
query_knows st caller tn a e = known_alike (refusal st (QuestionFrom caller Knows)) _ a e

query_asked : (r : Refusal) (from to : ℕ) (st : State) (caller : ℕ) (uri : List ℕ)
    (tn : ℕ) (new : Content) → Outcome from to r st (QuestionFrom caller (Query tn)) new →
    (after : State) × (IsUnavailable from to st (failure_text (Refused r)) after
    ⊎ (RespondsToQuery st caller uri (failure_text (Refused r)) × (after ≡ st))) × Refines new after
query_asked r from to st caller uri tn new (inl x) = (st, inl (x.0, refl), x.1)
query_asked r from to st caller uri tn new (inr x) = (
  st,
  inr (inl (x.0, query_refused st caller tn x.0 x.1, x.2), refl),
  stays new st caller (Query tn) x.3,
)

pub refused_query_carried : (r : Refusal) (from to : ℕ) (old new : Content) (caller : ℕ)
    (uri : List ℕ) (tn : ℕ)
    → SimulatesStep old new (QuestionFrom caller (Query tn)) (refused_with (number_of r))
    → BlamesRightly from to old r
    → Performs from to old new caller (UriQuery uri) (failure_text (Refused r))
refused_query_carried r from to old new caller uri tn h blames = λ st s.
    query_asked r from to st caller uri tn new
    (refusal_outcome r from to old new (QuestionFrom caller (Query tn)) h blames st s)

-- The body was written, or an allocation failed.
told_or_short : {A : Type 0} (result : Result A Failure) (body wanted : List ℕ)
    → OnOk result (body ≡ wanted) → IfErr result (λ failure. failure ≡ Refused NoMemory)
    → (response_text result body ≡ success wanted) ⊎ (response_text result body ≡ refusal_text 30)
told_or_short (Ok done) body wanted same short = inl (ap success same)
told_or_short (Err failure) body wanted same short =
    inr (ap failure_text short ∙ text_by_number NoMemory)

answered_or_short : (from to : ℕ) (st : State) (caller : ℕ) (uri text said : List ℕ) (new : Content)
    → RespondsToQuery st caller uri said → Refines new st → (text ≡ said) ⊎ (text ≡ refusal_text 30)
    →
    (after : State) × (IsUnavailable from to st text after ⊎ (RespondsToQuery st caller uri text
    × (after ≡ st))) × Refines new after
answered_or_short from to st caller uri text said new h s (inl e) = (
  st,
  inr (subst (λ (t : List ℕ). RespondsToQuery st caller uri t) (sym e) h, refl),
  s,
)
answered_or_short from to st caller uri text said new h s (inr e) = (st, inl (inr e, refl), s)

pub unasked_carried : {A : Type 0} (from to : ℕ) (old new : Content) (caller : ℕ) (uri : List ℕ)
    (read : TelUri) (result : Result A Failure) (body : List ℕ) → IsUri uri read
    → IsReturnedAsIs read
    → SimulatesStep old new (QuestionFrom caller Knows) (Some Known) →
    OnOk result (body ≡ uri_text uri) → IfErr result (λ failure. failure ≡ Refused NoMemory)
    → Performs from to old new caller (UriQuery uri) (response_text result body)
unasked_carried from to old new caller uri read result body parts back h same short = λ st s.
    answered_or_short from to st caller uri (response_text result body) (success (uri_text uri)) new
    (inr (inr (
      sym (h st s).0,
      (read, parts, inl (back, ap (λ (t : List ℕ). success (uri_text t)) (sym parts.same))),
    )))
    (stays new st caller Knows (h st s).1) (told_or_short result body (uri_text uri) same short)

pub query_carried : {A : Type 0} (from to : ℕ) (old new : Content) (caller : ℕ) (uri : List ℕ)
    (read : TelUri) (tn : ℕ) (a : Answer) (result : Result A Failure) (body : List ℕ)
    → IsUri uri read → AsksFor read tn
    → SimulatesStep old new (QuestionFrom caller (Query tn)) (Some (Answered a))
    → OnOk result (body ≡ uri_text (looked_up read a))
    → IfErr result (λ failure. failure ≡ Refused NoMemory)
    → Performs from to old new caller (UriQuery uri) (response_text result body)
query_carried from to old new caller uri read tn a result body parts asks h same short = λ st s.
    let is = h st s in
    answered_or_short from to st caller uri (response_text result body)
    (success (uri_text (looked_up read a))) new
    (inr (inr (
      query_knows st caller tn a (sym is.0),
      (read, parts, inr (tn, asks, ap (routed_text read) is.0)),
    )))
    (stays new st caller (Query tn) is.1) (told_or_short result body (uri_text (looked_up read a))
    same short)

-- ---- messages

pub calls_carried : (from to : ℕ) (new : Content) (st : State) (route : Route) (caller : ℕ)
    (body : List ℕ) (d : Data) (asked : ApiCall) (text : List ℕ) → Some d ≡ json_of body
    → HasForm route d asked →
    IsPerformed from to new st caller asked text → (after : State)
    × DispatchesCall from to st (BodyAsks route body) caller text after × Refines new after
calls_carried from to new st route caller body d asked text e form x =
    let asks : BodyAsks route body asked =
    subst (λ (o : Option Data). IsSomeAnd o (λ (given : Data). HasForm route given asked)) e form in
    (x.0, inr (inr (asked, asks, x.1)), x.2)

-- A path's request is dispatched.
pub asked_carried : (from to : ℕ) (new : Content) (st : State) (IsAsked : ApiCall
    → Type 0) (asked : ApiCall) (caller : ℕ) (text : List ℕ) → IsAsked asked
    → IsPerformed from to new st caller asked text →
    (after : State) × DispatchesCall from to st IsAsked caller text after × Refines new after
asked_carried from to new st IsAsked asked caller text asks x =
    (x.0, inr (inr (asked, asks, x.1)), x.2)

-- A message that asks nothing is refused.
pub unasked_refused : {A : Type 0} (from to : ℕ) (new : Content) (st : State) (IsAsked : ApiCall
    → Type 0) (caller : ℕ) (result : Result A Failure) (body : List ℕ) (fault : MessageFault)
    → result ≡ Err (Message fault) → fault ≡ BadRequest →
    ((asked : ApiCall) → ¬ (IsAsked asked)) → Refines new st → (after : State)
    × DispatchesCall from to st IsAsked caller (response_text result body) after × Refines new after
unasked_refused from to new st IsAsked caller result body fault e bad none s =
    let text : response_text result body ≡ failure_text (Message BadRequest) =
    ap (λ (o : Result _ Failure). response_text o body) e
    ∙ ap (λ (f : MessageFault). failure_text (Message f)) bad in
    (st, inr (inl (none, (text, refl))), s)

-- On a path without id, telephone number and count, the body makes the request.
pub path_carried : (from to : ℕ) (new : Content) (st : State) (route : Route) (caller : ℕ)
    (body text : List ℕ) → ((number : Option ℕ) → route ≢ Version number)
    → ((number : Option ℕ) → route ≢ Number number) → ((count : Option ℕ) → route ≢ Downloads count)
    →
    (after : State) × DispatchesCall from to st (BodyAsks route body) caller text after
    × Refines new after
    → (after : State) × DispatchesCall from to st (PathAsks route body) caller text after
    × Refines new after
path_carried from to new st Carriers caller body text other another third x = x
path_carried from to new st Clock caller body text other another third x = x
path_carried from to new st RoutingNumbers caller body text other another third x = x
path_carried from to new st Codes caller body text other another third x = x
path_carried from to new st OldProviderPath caller body text other another third x = x
path_carried from to new st NewProviderPath caller body text other another third x = x
path_carried from to new st (VersionPaths path) caller body text other another third x = x
path_carried from to new st (BlockPaths path) caller body text other another third x = x
path_carried from to new st Acknowledge caller body text other another third x = x
path_carried from to new st QueryPath caller body text other another third x = x
path_carried from to new st WindowsPath caller body text other another third x = x
path_carried from to new st (Version number) caller body text other another third x =
    absurd (other number refl)
path_carried from to new st (Number number) caller body text other another third x =
    absurd (another number refl)
path_carried from to new st (Downloads count) caller body text other another third x =
    absurd (third count refl)

pub calls_met : (offered : Bool) (from to : ℕ) (new : Content) (st : State) (request : Request)
    (route : Route) (caller : Spid) (body text : List ℕ) → from ≤ to
    → offered_route offered request.route ≡ Some route → allows_method route request.method ≡ true
    → request.caller ≡ Some caller →
    (after : State) × DispatchesCall from to st (PathAsks route body) caller.number text after
    × Refines new after → (after : State) × Step offered None from to st request body text after
    × Refines new after
calls_met offered from to new st request route caller body text rises e f g x =
    (x.0, record { rises = rises; outcome = inr (rw (e, f, g) x.1) }, x.2)

pub step_told : (offered : Bool) (from to : ℕ) (new : Content) (st : State) (request : Request)
    (body text said : List ℕ) → said ≡ text →
    (after : State) × Step offered None from to st request body text after × Refines new after
    → (after : State) × Step offered None from to st request body said after × Refines new after
step_told offered from to new st request body text said e x = (
  x.0,
  subst (λ (t : List ℕ). Step offered None from to st request body t x.0) (sym e) x.1,
  x.2,
)

-- ---- the supplied minute

-- A failure after the clock moved is one since the message began.
withheld_since : (from between to : ℕ) (st : State) (text : List ℕ) (after : State) → from ≤ between
    → between ≤ to → IsUnavailable between to st text after → IsUnavailable from to st text after
withheld_since from between to st text after before behind (inl x, e) =
    (inl (x.0, risen-since from between to before behind x.1), e)
withheld_since from between to st text after before behind (inr x, e) = (inr x, e)

or_since : {P : Type 0} (from between to : ℕ) (st : State) (text : List ℕ) (after : State)
    → from ≤ between → between ≤ to → IsUnavailable between to st text after ⊎ P
    → IsUnavailable from to st text after ⊎ P
or_since from between to st text after before behind (inl x) =
    inl (withheld_since from between to st text after before behind x)
or_since from between to st text after before behind (inr x) = inr x

answers_since : (from between to : ℕ) (st : State) (caller : ℕ) (asked : ApiCall) (text : List ℕ)
    (after : State) → from ≤ between → between ≤ to
    → RespondsTo between to st caller asked text after
    → RespondsTo from to st caller asked text after
answers_since from between to st caller (RegisterCall called) text after before behind x =
    or_since from between to st text after before behind x
answers_since from between to st caller (UriQuery uri) text after before behind x =
    or_since from between to st text after before behind x

pub carried_since : (from between to : ℕ) (new : Content) (st : State) (caller : ℕ)
    (asked : ApiCall)
    (text : List ℕ) → from ≤ between → between ≤ to
    → IsPerformed between to new st caller asked text
    → IsPerformed from to new st caller asked text
carried_since from between to new st caller asked text before behind x = (
  x.0,
  answers_since from between to st caller asked text x.0 before behind x.1,
  x.2,
)

calls_since : (from between to : ℕ) (st : State) (IsAsked : ApiCall → Type 0) (caller : ℕ)
    (text : List ℕ) (after : State) → from ≤ between → between ≤ to
    → DispatchesCall between to st IsAsked caller text after
    → DispatchesCall from to st IsAsked caller text after
calls_since from between to st IsAsked caller text after before behind (inl x) =
    inl (withheld_since from between to st text after before behind x)
calls_since from between to st IsAsked caller text after before behind (inr (inl x)) = inr (inl x)
calls_since from between to st IsAsked caller text after before behind (inr (inr x)) = inr (inr (
  x.0,
  x.1,
  answers_since from between to st caller x.0 text after before behind x.2,
))

path_since : (from between to : ℕ) (st : State) (route : Route) (has_method : Bool)
    (caller : Option Spid) (body text : List ℕ) (after : State) → from ≤ between → between ≤ to →
    DispatchesPath between to st route has_method caller body text after
    → DispatchesPath from to st route has_method caller body text after
path_since from between to st route false caller body text after before behind x = x
path_since from between to st route true None body text after before behind x = x
path_since from between to st route true (Some caller) body text after before behind x =
    calls_since from between to st (PathAsks route body) caller.number text after before behind x

meets_since : (from between to : ℕ) (st : State) (route : Option Route) (method : Method)
    (caller : Option Spid) (body text : List ℕ) (after : State) → from ≤ between → between ≤ to →
    Dispatches between to st route method caller body text after
    → Dispatches from to st route method caller body text after
meets_since from between to st None method caller body text after before behind x = x
meets_since from between to st (Some route) method caller body text after before behind x =
    path_since from between to st route (allows_method route method) caller body text after before
    behind x

pub met_since : (from between to : ℕ) (st : State) (tick : Option ℕ) (route : Option Route)
    (method : Method) (caller : Option Spid) (body text : List ℕ) (after : State) → from ≤ between
    → between ≤ to →
    ⊥ ⊎ Dispatches between to (ticked st tick) route method caller body text after
    → IsTickUnavailable from to st tick text after ⊎ Dispatches from to (ticked st tick) route
    method caller
    body text after
met_since from between to st tick route method caller body text after before behind (inl x) =
    absurd x
met_since from between to st tick route method caller body text after before behind (inr x) =
    inr (meets_since from between to (ticked st tick) route method caller body text after before
    behind x)

tick_since : (from between to : ℕ) (st : State) (tick : Option ℕ) (text : List ℕ) (after : State)
    → from ≤ between → between ≤ to → IsTickUnavailable between to st tick text after
    → IsTickUnavailable from to st tick text after
tick_since from between to st None text after before behind x = x
tick_since from between to st (Some minute) text after before behind x =
    withheld_since from between to st text after before behind x

outcome_since : (from between to : ℕ) (st : State) (tick : Option ℕ) (route : Option Route)
    (method : Method) (caller : Option Spid) (body text : List ℕ) (after : State) → from ≤ between
    → between ≤ to →
    IsTickUnavailable between to st tick text after
    ⊎ Dispatches between to (ticked st tick) route method caller body text after
    → IsTickUnavailable from to st tick text after
    ⊎ Dispatches from to (ticked st tick) route method caller body text after
outcome_since from between to st tick route method caller body text after before behind (inl x) =
    inl (tick_since from between to st tick text after before behind x)
outcome_since from between to st tick route method caller body text after before behind (inr x) =
    inr (meets_since from between to (ticked st tick) route method caller body text after before
    behind x)

-- A failure during a message is one since an earlier count.
pub step_since : (offered : Bool) (tick : Option ℕ) (from between to : ℕ) (st : State)
    (request : Request) (body text : List ℕ) (after : State) → from ≤ between
    → Step offered tick between to st request body text after
    → Step offered tick from to st request body text after
step_since offered tick from between to st request body text after before step = record {
  rises = le_trans before step.rises;
  outcome = outcome_since from between to st tick (offered_route offered request.route)
      request.method request.caller body text after before step.rises step.outcome;
}

-- The clock moved, and then the message was executed.
pub tick_then : (offered : Bool) (tick : Option ℕ) (from between to : ℕ) (old mid new : Content)
    (request : Request) (body text : List ℕ) → from ≤ between →
    ((st : State) → Refines old st → Refines mid (ticked st tick)) →
    ((st : State) → Refines mid st → (after : State) × Step offered None between to st request body
    text after × Refines new after) →
    (st : State) → Refines old st → (after : State) × Step offered tick from to st request body text
    after × Refines new after
tick_then offered tick from between to old mid new request body text before moved stepped st s =
    let x = stepped (ticked st tick) (moved st s) in (
      x.0,
      record {
        rises = le_trans before x.1.rises;
        outcome = met_since from between to st tick (offered_route offered request.route)
            request.method
            request.caller body text x.0 before x.1.rises x.1.outcome;
      },
      x.2,
    )

-- The clock's move failed.
pub tick_withheld : (offered : Bool) (tick : Option ℕ) (from to : ℕ) (old new : Content)
    (request : Request) (body text said : List ℕ) → from ≤ to → said ≡ text →
    ((st : State) → Refines old st → IsTickUnavailable from to st tick text st × Refines new st) →
    (st : State) → Refines old st → (after : State) × Step offered tick from to st request body said
    after × Refines new after
tick_withheld offered tick from to old new request body text said rises e short st s =
    let x = short st s in (
      st,
      record {
        rises = rises;
        outcome = inl (subst (λ (t : List ℕ). IsTickUnavailable from to st tick t st) (sym e) x.0);
      },
      x.1,
    )

-- ---- the moves of the clock

only_back : (back : Bool) (m k : ℕ) → MachineRefused k ≡ refused_or (if back then Some 27
    else None) (Moved m) → k ≡ 27
only_back true m k e = cc
only_back false m k e = let x : ⊥ = cc in absurd x

move_refused : (st : State) (m k : ℕ) → MachineRefused k ≡ out st (ClockMoment m) → k ≡ 27
unfolding out tests
move_refused st m k e = only_back (nat_lt m st.now) m k e

-- Holds if the device or an allocation failed, and the state stays.
abbrev WithholdsMove : (from to : ℕ) → Refusal → State → Content → Type 0
WithholdsMove from to r st new = IsUnavailable from to st (failure_text (Refused r)) st
    × Refines new st

pub move_withheld : (r : Refusal) (from to : ℕ) (old new : Content) (minute : ℕ) → r ≢ ClockBack
    → SimulatesStep old new (ClockMoment minute) (refused_with (number_of r))
    → BlamesRightly from to old r
    → (st : State) → Refines old st → WithholdsMove from to r st new
move_withheld UnknownCarrier from to old new minute other h blames st s = let e : 1 ≡ 27 =
    move_refused st minute 1 (h st s).0 in absurd (omega (arith, e))
move_withheld NotAdmin from to old new minute other h blames st s = let e : 2 ≡ 27 =
    move_refused st minute 2 (h st s).0 in absurd (omega (arith, e))
move_withheld UnknownCode from to old new minute other h blames st s = let e : 3 ≡ 27 =
    move_refused st minute 3 (h st s).0 in absurd (omega (arith, e))
move_withheld CarrierTaken from to old new minute other h blames st s = let e : 4 ≡ 27 =
    move_refused st minute 4 (h st s).0 in absurd (omega (arith, e))
move_withheld CodeTaken from to old new minute other h blames st s = let e : 5 ≡ 27 =
    move_refused st minute 5 (h st s).0 in absurd (omega (arith, e))
move_withheld LrnTaken from to old new minute other h blames st s = let e : 6 ≡ 27 =
    move_refused st minute 6 (h st s).0 in absurd (omega (arith, e))
move_withheld BadLrn from to old new minute other h blames st s = let e : 7 ≡ 27 =
    move_refused st minute 7 (h st s).0 in absurd (omega (arith, e))
move_withheld InPool from to old new minute other h blames st s = let e : 8 ≡ 27 =
    move_refused st minute 8 (h st s).0 in absurd (omega (arith, e))
move_withheld WrongOld from to old new minute other h blames st s = let e : 9 ≡ 27 =
    move_refused st minute 9 (h st s).0 in absurd (omega (arith, e))
move_withheld NotFound from to old new minute other h blames st s = let e : 10 ≡ 27 =
    move_refused st minute 10 (h st s).0 in absurd (omega (arith, e))
move_withheld NotYours from to old new minute other h blames st s = let e : 11 ≡ 27 =
    move_refused st minute 11 (h st s).0 in absurd (omega (arith, e))
move_withheld Busy from to old new minute other h blames st s = let e : 12 ≡ 27 =
    move_refused st minute 12 (h st s).0 in absurd (omega (arith, e))
move_withheld WrongStatus from to old new minute other h blames st s = let e : 13 ≡ 27 =
    move_refused st minute 13 (h st s).0 in absurd (omega (arith, e))
move_withheld DuePast from to old new minute other h blames st s = let e : 14 ≡ 27 =
    move_refused st minute 14 (h st s).0 in absurd (omega (arith, e))
move_withheld DueMismatch from to old new minute other h blames st s = let e : 15 ≡ 27 =
    move_refused st minute 15 (h st s).0 in absurd (omega (arith, e))
move_withheld NotConcurred from to old new minute other h blames st s = let e : 16 ≡ 27 =
    move_refused st minute 16 (h st s).0 in absurd (omega (arith, e))
move_withheld BeforeDue from to old new minute other h blames st s = let e : 17 ≡ 27 =
    move_refused st minute 17 (h st s).0 in absurd (omega (arith, e))
move_withheld ConflictSpent from to old new minute other h blames st s = let e : 18 ≡ 27 =
    move_refused st minute 18 (h st s).0 in absurd (omega (arith, e))
move_withheld TooLate from to old new minute other h blames st s = let e : 19 ≡ 27 =
    move_refused st minute 19 (h st s).0 in absurd (omega (arith, e))
move_withheld TooEarly from to old new minute other h blames st s = let e : 20 ≡ 27 =
    move_refused st minute 20 (h st s).0 in absurd (omega (arith, e))
move_withheld Protected from to old new minute other h blames st s = let e : 21 ≡ 27 =
    move_refused st minute 21 (h st s).0 in absurd (omega (arith, e))
move_withheld Contaminated from to old new minute other h blames st s = let e : 22 ≡ 27 =
    move_refused st minute 22 (h st s).0 in absurd (omega (arith, e))
move_withheld OpenPorts from to old new minute other h blames st s = let e : 23 ≡ 27 =
    move_refused st minute 23 (h st s).0 in absurd (omega (arith, e))
move_withheld BlockTaken from to old new minute other h blames st s = let e : 24 ≡ 27 =
    move_refused st minute 24 (h st s).0 in absurd (omega (arith, e))
move_withheld NotQueued from to old new minute other h blames st s = let e : 25 ≡ 27 =
    move_refused st minute 25 (h st s).0 in absurd (omega (arith, e))
move_withheld OutOfOrder from to old new minute other h blames st s = let e : 26 ≡ 27 =
    move_refused st minute 26 (h st s).0 in absurd (omega (arith, e))
move_withheld ClockBack from to old new minute other h blames st s = absurd (other refl)
move_withheld Full from to old new minute other h blames st s = let e : 28 ≡ 27 =
    move_refused st minute 28 (h st s).0 in absurd (omega (arith, e))
move_withheld Storage from to old new minute other h blames st s =
    ((inl (text_by_number Storage, blames st s refl), refl), h st s)
move_withheld NoMemory from to old new minute other h blames st s =
    ((inr (text_by_number NoMemory), refl), h st s)
