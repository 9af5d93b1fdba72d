use Rattle.std.proofs.Common.{take}
use Rattle.serde_json.specs.View.{items_view}
use Rattle.pool.specs.Donations.{lines_of}
use Rattle.json_api.specs.Forms.{AreLineTexts}
use Rattle.json_api.proofs.used.lines_of.Given as goal

-- The values passed are the texts of the lines.
abbrev pub invariant-loop-value : goal.invariant-loop-value
invariant-loop-value l =
    AreLineTexts (items_view (take l.value-index l.values)) (lines_of l.lines.items)
