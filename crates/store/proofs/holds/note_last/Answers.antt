use Rattle.std.proofs.Common.{rules}
use Rattle.store.proofs.Held.{hint-noted, hints-stay}
use Rattle.store.proofs.holds.note_last.Goals as goal

pub returns-clause-noted : goal.returns-clause-noted
returns-clause-noted c =
    hint-noted c.args.last.now.entries c.insert.new.self.entries c.place_of-row.result.0
    c.place_of-row.result.1 c.hint_of.result c.unwrap_or-ids.result
    c.in_ok-insert.ensures.updates.0 (search rules) c.hint_of.ensures c.args.version.rank.number
    c.place_of-row.ensures.row c.place_of-row.ensures.place

pub returns-clause-keeps : goal.returns-clause-keeps
returns-clause-keeps c =
    hints-stay c.args.last.now.entries c.insert.new.self.entries c.place_of-row.result.0
    c.place_of-row.result.1 c.hint_of.result c.unwrap_or-ids.result
    c.in_ok-insert.ensures.updates.0 (search rules) c.hint_of.ensures (λ all is. search rules)
