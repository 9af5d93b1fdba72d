use Rattle.std.proofs.Common.{◌≡◌, map, take}
use Rattle.sql_store.specs.Lists.{download_of}
use Rattle.sql_store.proofs.lists.downloads_of.Given as goal

-- The downloads passed are in the list.
abbrev pub invariant-loop-key : goal.invariant-loop-key
invariant-loop-key l = l.downloads.items ≡ map download_of (take l.key-index l.waits)
