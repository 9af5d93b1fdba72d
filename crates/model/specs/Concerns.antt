-- Which subjects a request may change.
use Rattle.std.specs.Prelude.{ℕ, Bool, true, false, ◌||◌, ◌==◌, List}
use Rattle.std.specs.List.{list_any}
use Rattle.numbers.specs.Subjects.{subject_eq, Subject, Number, Block}
use Rattle.model.specs.Commands.{RegisterCarrier, RegisterRoutingNumber, OpenCode, OldProviderCreate, NewProviderCreate, OnVersion, Donate, Assign, Release, SetWindows}
use Rattle.model.specs.Versions.{Version}
use Rattle.model.specs.History.{Request, CommandRequest, AcknowledgementRequest, subjects_made_by}
use Rattle.model.specs.State.{State, record_now}

-- Whether one of the versions has this id.
abbrev pub has_id : ℕ → List Version → Bool
has_id id vs = list_any (λ v. v.id == id) vs

-- Whether the request may change a version of s, given its versions. It names s, or the id of one
-- of these versions, or it registers a carrier.
abbrev pub concerns : Request → Subject → List Version → Bool
concerns (CommandRequest (RegisterCarrier spid)) s vs = true
concerns (CommandRequest (RegisterRoutingNumber lrn)) s vs = false
concerns (CommandRequest (OpenCode code spid)) s vs = false
concerns (CommandRequest (OldProviderCreate tn old_provider new_provider due authorized)) s vs =
    subject_eq s (Number tn)
concerns (CommandRequest (NewProviderCreate tn old_provider new_provider due lrn cic)) s vs =
    subject_eq s (Number tn)
concerns (CommandRequest (OnVersion id c)) s vs = has_id id vs
concerns (CommandRequest (Donate block used lrn cic)) s vs = false
concerns (CommandRequest (Assign block holder lrn cic)) s vs = false
concerns (CommandRequest (SetWindows windows)) s vs = false
concerns (CommandRequest (Release block)) s vs = subject_eq s (Block block)
concerns (AcknowledgementRequest id attempt) s vs = has_id id vs

-- Whether the request may change a version of s, or makes one.
abbrev pub touches : State → Request → Subject → Bool
touches st request s = concerns request s (record_now st s).versions || list_any (subject_eq s)
    (subjects_made_by request (record_now st))
