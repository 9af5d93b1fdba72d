-- The sends and statuses of the model that the code's values mean.
use Rattle.model.specs.declared.words.Status.{Status as StatusImpl}
use Rattle.model.specs.declared.words.Status.TheVariants.{Pending as PendingImpl, Conflict as ConflictImpl, CancelPending as CancelPendingImpl, SendingCreate as SendingCreateImpl, SendingDelete as SendingDeleteImpl, SendingModify as SendingModifyImpl, Active as ActiveImpl, PartialFailure as PartialFailureImpl, Failed as FailedImpl, DisconnectPending as DisconnectPendingImpl, Old as OldImpl, Canceled as CanceledImpl}
use Rattle.model.specs.declared.words.Send.{Send as SendImpl}
use Rattle.model.specs.declared.words.Send.TheVariants.{Create as CreateImpl, Delete as DeleteImpl, Modify as ModifyImpl}
use Rattle.numbers.specs.Abstraction.{routing_of}
use Rattle.model.specs.Statuses.{Send, Create, Delete, Modify, Status, Pending, Conflict, CancelPending, Sending, Active, PartialFailure, Failed, DisconnectPending, Old, Canceled}

abbrev pub send_of : SendImpl → Send
send_of CreateImpl = Create
send_of DeleteImpl = Delete
send_of (ModifyImpl routing) = Modify (routing_of routing)

abbrev pub status_of : StatusImpl → Status
status_of PendingImpl = Pending
status_of ConflictImpl = Conflict
status_of (CancelPendingImpl side) = CancelPending side
status_of SendingCreateImpl = Sending Create
status_of SendingDeleteImpl = Sending Delete
status_of (SendingModifyImpl cic lrn) =
    Sending (Modify (routing_of (record { lrn = lrn; cic = cic })))
status_of ActiveImpl = Active
status_of PartialFailureImpl = PartialFailure
status_of FailedImpl = Failed
status_of (DisconnectPendingImpl release) = DisconnectPending release.number
status_of OldImpl = Old
status_of CanceledImpl = Canceled
