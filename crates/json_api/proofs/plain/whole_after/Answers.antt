use Rattle.json_api.proofs.plain.whole_after.Goals as goal

pub returns-then-number-lt-LIMIT-clause-value : goal.returns-then-number-lt-LIMIT-clause-value
returns-then-number-lt-LIMIT-clause-value g c = (
  c.in_ok-after.field-0.now,
  c.in_ok-after.ensures.some,
  c.in_ok-number.ensures,
)
