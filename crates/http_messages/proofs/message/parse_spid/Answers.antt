use Rattle.std.proofs.Common.{◌∙◌, sym}
use Rattle.numbers.proofs.SpidLemmas.{spid_made}
use Rattle.http_messages.proofs.message.parse_spid.Goals as goal

-- The four bytes passed the test.
pub invariant_of-result : goal.invariant_of-result
invariant_of-result c = record {
  valid = spid_made _ _ _ _ _ c.from_be_bytes.ensures
      (sym c.is_spid_byte.ensures ∙ c.if-is_spid_byte.true)
      (sym c.is_spid_byte-then-is_spid_byte.ensures ∙ c.if-is_spid_byte-2.true)
      (sym c.is_spid_byte-then-is_spid_byte-2.ensures ∙ c.if-is_spid_byte-3.true)
      (sym c.is_spid_byte-then-is_spid_byte-3.ensures ∙ c.if-is_spid_byte-4.true);
}
