-- The facts of other rows that a command on a version needs.
use Rattle.std.specs.Prelude.{◌≡◌, ⊤, ℕ, Option, is_some}
use Rattle.std.specs.FinMap.{get}
use Rattle.version.specs.declared.command.CommandFacts.{CommandFacts}
use Rattle.model.specs.Conditions.{is_the}
use Rattle.numbers.specs.Subjects.{Subject}
use Rattle.model.specs.Content.{Content}
use Rattle.model.specs.Commands.{VersionCommand, Activate, PutInConflict, RemoveFromConflict, Cancel, OldProviderCancellationAcknowledge, NewProviderCancellationAcknowledge, Disconnect, ModifyRouting}
use Rattle.settle.specs.Reads.{IsOpen}
use Rattle.settle.specs.declared.rows.NumberedRow.{NumberedRow}

-- Holds if the facts are those of the content. A disconnect and a modify need to know whether the
-- subject has an open version, a modify also whether the routing number is the provider's.
abbrev pub AreCommandFacts : Content → VersionCommand → Subject → (provider : ℕ) → CommandFacts
    → Type 0
AreCommandFacts c Activate s provider facts = ⊤
AreCommandFacts c PutInConflict s provider facts = ⊤
AreCommandFacts c RemoveFromConflict s provider facts = ⊤
AreCommandFacts c Cancel s provider facts = ⊤
AreCommandFacts c OldProviderCancellationAcknowledge s provider facts = ⊤
AreCommandFacts c NewProviderCancellationAcknowledge s provider facts = ⊤
AreCommandFacts c (Disconnect release) s provider facts = (o : Option NumberedRow) × IsOpen c s o
    × (facts.is_another_open ≡ is_some o)
AreCommandFacts c (ModifyRouting lrn cic) s provider facts =
    ((o : Option NumberedRow) × IsOpen c s o × (facts.is_another_open ≡ is_some o))
    × (facts.is_lrn_good ≡ is_the provider (get c.lrns lrn))
