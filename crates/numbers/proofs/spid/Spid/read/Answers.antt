use Rattle.std.proofs.Common.{◌∙◌, sym}
use Rattle.numbers.proofs.SpidLemmas.{spid_made}
use Rattle.numbers.proofs.spid.Spid.read.Goals as goal

-- The four characters passed the test.
pub invariant_of-result : goal.invariant_of-result
invariant_of-result c = record {
  valid = spid_made _ _ _ _ _ c.number_of.ensures
      (sym c.is_character.ensures ∙ c.if-is_character.true)
      (sym c.is_character-then-is_character.ensures ∙ c.if-is_character-2.true)
      (sym c.is_character-then-is_character-2.ensures ∙ c.if-is_character-3.true)
      (sym c.is_character-then-is_character-3.ensures ∙ c.if-is_character-4.true);
}
