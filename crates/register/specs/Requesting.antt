-- The models of requests to a register.
use Rattle.model.specs.History.{Request as RequestModel, CommandRequest, AcknowledgementRequest}
use Rattle.requests.specs.Calls.{command_of}
use Rattle.register.specs.declared.request.Request.{Request}
use Rattle.register.specs.declared.request.Request.TheVariants.{Command, Acknowledge}

abbrev pub request_of : Request → RequestModel
request_of (Command command) = CommandRequest (command_of command.now)
request_of (Acknowledge id attempt) = AcknowledgementRequest id attempt
