use Rattle.std.proofs.Common.{Some, ap, rules, sym, ◌∙◌}
use Rattle.sql_rows.specs.Statements.{replace_text}
use Rattle.sql_rows.proofs.statement.Table.replace_text.Goals as goal
use Rattle.sql_rows.proofs.statement.Table.replace_text.Goals.{in-Carrier, in-Lrn, in-NextRouting, in-Code, in-Block, in-Broadcast, in-Wait, in-WindowSet, in-Clock}

pub returns : goal.returns
returns c = elim c.match-self.branch [
  | in-Carrier w ↦ search rules
  | in-Lrn w ↦ search rules
  | in-NextRouting w ↦ search rules
  | in-Code w ↦ search rules
  | in-Block w ↦ search rules
  | in-Broadcast w ↦ search rules
  | in-Wait w ↦ search rules
  | in-WindowSet w ↦ ap (λ t. Some t.now) w.text-is ∙ ap replace_text (sym w.in-WindowSet.is)
  | in-Clock w ↦ search rules
]
