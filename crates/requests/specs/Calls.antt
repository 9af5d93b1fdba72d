-- The models of calls, replies and refusals.
use Rattle.std.specs.Prelude.{ℕ, nat_lt, map, Option, Some, None, option_map, if◌then◌else◌}
use Rattle.std.specs.Prelude.{Result, Ok, Err}
use Rattle.numbers.specs.Abstraction.{subject_of}
use Rattle.model.specs.declared.refusal.Refusal.{Refusal}
use Rattle.model.specs.RefusalNumbers.{number_of}
use Rattle.model.specs.Commands.{Command, RegisterCarrier, RegisterRoutingNumber, OpenCode, OnVersion, Donate, Release, SetWindows}
use Rattle.model.specs.Abstraction.{status_of}
use Rattle.model.specs.State.{View, release_of}
use Rattle.model.specs.History.{Request, CommandRequest, AcknowledgementRequest}
use Rattle.model.specs.Machine.{Reply, Refused, Moved, Registered, LrnAdded, CodeOpened, Shown, Donated, Found, Fetched, Answer, Closed, Opened, WindowsSet}
use Rattle.model.specs.Refusals.{Input, ClockMoment, RequestFrom, QuestionFrom, Question, ShowVersion, Fetch, Ids}
use Rattle.numbers.specs.declared.cic.Cic.{Cic}
use Rattle.pool.specs.Assignments.{command_of as assignment_of}
use Rattle.pool.specs.Donations.{lines_of}
use Rattle.version.specs.Commands.{command_model}
use Rattle.version.specs.Creates.{command_of as create_of}
use Rattle.version.specs.Abstraction.{routings_of, phase_model, windows_of}
pub use Rattle.delivery.specs.Mirrors.{in_force_of, download_of}
use Rattle.requests.specs.declared.call.Command.{Command as CommandImpl}
use Rattle.requests.specs.declared.call.Command.TheVariants.{RegisterCarrier as RegisterCarrierImpl, RegisterRoutingNumber as RegisterRoutingNumberImpl, OpenCode as OpenCodeImpl, Create as CreateImpl, OnVersion as OnVersionImpl, Donate as DonateImpl, Assign as AssignImpl, Release as ReleaseImpl, SetWindows as SetWindowsImpl}
use Rattle.requests.specs.declared.call.Call.{Call}
use Rattle.requests.specs.declared.call.Call.TheVariants.{Command as CommandCall, Acknowledge as AcknowledgeCall, Version as VersionCall, Number as NumberCall, Downloads as DownloadsCall, Clock as ClockCall}
use Rattle.requests.specs.declared.call.Reply.{Reply as ReplyImpl}
use Rattle.requests.specs.declared.call.Reply.TheVariants.{Registered as RegisteredImpl, RoutingNumberRegistered as RoutingNumberRegisteredImpl, CodeOpened as CodeOpenedImpl, Shown as ShownImpl, Donated as DonatedImpl, Found as FoundImpl, Fetched as FetchedImpl, Moved as MovedImpl, WindowsSet as WindowsSetImpl}
use Rattle.requests.specs.declared.view.VersionView.{VersionView}
use Rattle.requests.specs.declared.view.Answer.{Answer as AnswerImpl}
use Rattle.requests.specs.declared.view.Answer.TheVariants.{Closed as ClosedImpl, Open as OpenCodeAnswer}

-- The model of a command.
abbrev pub command_of : CommandImpl → Command
command_of (RegisterCarrierImpl spid) = RegisterCarrier spid.number
command_of (RegisterRoutingNumberImpl lrn) = RegisterRoutingNumber lrn.number
command_of (OpenCodeImpl code spid) = OpenCode code.number spid.number
command_of (CreateImpl create) = create_of create
command_of (OnVersionImpl id command) = OnVersion id (command_model command)
command_of (DonateImpl block used routing) =
    Donate block.number (lines_of used.items) routing.lrn.number (option_map (λ (c : Cic). c.number)
    routing.cic)
command_of (AssignImpl assignment) = assignment_of assignment
command_of (ReleaseImpl block) = Release block.number
command_of (SetWindowsImpl windows) = SetWindows (windows_of windows)

-- ---- calls without their callers

-- A call: a command or an acknowledgement, a question, or a minute that the clock moves to.
pub data ModelCall : Type 0 where
  RequestCall : (request : Request) → ModelCall
  QuestionCall : (question : Question) → ModelCall
  MomentCall : (minute : ℕ) → ModelCall

abbrev pub called_of : Call → ModelCall
called_of (CommandCall command) = RequestCall (CommandRequest (command_of command))
called_of (AcknowledgeCall id attempt) = RequestCall (AcknowledgementRequest id attempt)
called_of (VersionCall id) = QuestionCall (ShowVersion id)
called_of (NumberCall tn) = QuestionCall (Ids tn.number)
called_of (DownloadsCall count) = QuestionCall (Fetch count)
called_of (ClockCall minute) = MomentCall minute.number

-- The machine's input.
abbrev pub input_of : (caller : ℕ) → ModelCall → Input
input_of caller (RequestCall request) = RequestFrom caller request
input_of caller (QuestionCall question) = QuestionFrom caller question
input_of caller (MomentCall minute) = ClockMoment minute

-- ---- replies

-- The model of a view of a version.
abbrev pub view_of : VersionView → View
view_of v = record {
  id = v.id;
  subject = subject_of v.version.subject;
  old_provider = v.version.old_provider.number;
  new_provider = v.version.new_provider.number;
  due = v.version.due.number;
  routing = routings_of v.version.routing;
  status = status_of v.version.status;
  since = v.version.since.number;
  attempt = v.version.attempt;
  release = release_of (status_of v.version.status);
  phase = option_map phase_model v.phase;
}

abbrev pub answer_of : AnswerImpl → Answer
answer_of ClosedImpl = Closed
answer_of (OpenCodeAnswer routing) = Opened (routings_of routing)

-- The model of a reply.
abbrev pub reply_of : ReplyImpl → Reply
reply_of (RegisteredImpl spid rows) = Registered spid.number (map in_force_of rows.items)
reply_of (RoutingNumberRegisteredImpl lrn spid) = LrnAdded lrn.number spid.number
reply_of (CodeOpenedImpl code spid) = CodeOpened code.number spid.number
reply_of (ShownImpl view) = Shown (Some (view_of view))
reply_of (DonatedImpl block ids) = Donated block.number ids.items
reply_of (FoundImpl ids) = Found ids.in_force ids.opened
reply_of (FetchedImpl downloads) = Fetched (map download_of downloads.items)
reply_of (MovedImpl minute) = Moved minute.number
reply_of (WindowsSetImpl now number) = WindowsSet now.number number

-- The machine's reply with this refusal, if its number is below 29. The device's refusal (29) and
-- an allocation failure (30) are not the machine's.
abbrev pub refused_with : ℕ → Option Reply
refused_with k = if nat_lt k 29 then Some (Refused k) else None

-- The machine's reply, if the result is one.
abbrev pub replied : {A : Type 0} → (A → Reply) → Result A Refusal → Option Reply
replied seen (Ok value) = Some (seen value)
replied seen (Err refusal) = refused_with (number_of refusal)
