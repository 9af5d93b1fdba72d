use Rattle.std.proofs.Common.{IfSome, IfNone, subst}
use Rattle.requests.specs.Calls.{command_of}
use Rattle.model.specs.Commands.{Command}
use Rattle.json_api.specs.Forms.{HasCommand}
use Rattle.json_api.proofs.FormLemmas.{no_values, values_of_command}
use Rattle.json_api.proofs.forms.values_of.Goals as goal

pub returns-in-Acknowledge-clause-none : goal.returns-in-Acknowledge-clause-none
returns-in-Acknowledge-clause-none g c = rw c.in-Acknowledge.is c.acknowledgement_of.ensures.none

pub returns-in-Query-clause-none : goal.returns-in-Query-clause-none
returns-in-Query-clause-none g c = rw c.in-Query.is c.query_of.ensures.none

pub returns-in-Clock-clause-none : goal.returns-in-Clock-clause-none
returns-in-Clock-clause-none g c = rw c.in-Clock.is c.clock_of.ensures.none

pub returns-in-Some : goal.returns-in-Some
returns-in-Some g c = record {
  some = values_of_command _ _ _ c.in_default.not-Acknowledge c.in_default.not-Query
      c.in_default.not-Clock
      (subst (λ read. IfSome read (λ k. HasCommand c.args.route (g.F.Fields.value c.args.fields.now)
      (command_of k))) c.in-Some.is c.in_ok-command-in_default.ensures.some);
  none = tt;
}

pub returns-in-None : goal.returns-in-None
returns-in-None g c = record {
  some = tt;
  none = no_values _ _ c.in_default.not-Acknowledge c.in_default.not-Query c.in_default.not-Clock
      (subst (λ read. IfNone read ((k : Command)
      → ¬ (HasCommand c.args.route (g.F.Fields.value c.args.fields.now) k))) c.in-None.is
      c.in_ok-command-in_default.ensures.none);
}
