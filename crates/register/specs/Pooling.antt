-- The changes of commands on blocks.
use Rattle.std.specs.Prelude.{ℕ, Option, Some}
use Rattle.model.specs.Content.{BlockRow}
use Rattle.settle.specs.Changes.{Changes, ClockMove}

-- The changes, with a block's row and the clock's row added.
abbrev pub block_changes : Changes → Option (ℕ × BlockRow) → ClockMove → Changes
block_changes changes block clock = record changes { block = block; clock = Some clock }
