use Rattle.std.proofs.Common.{◌≡◌, ◌↔◌, ◌≤◌, ◌-◌, drop, length}
use Rattle.http_messages.proofs.start.are_same.Given as goal

-- What is left of the two is as long, and the same if they are, and only then.
abbrev pub invariant-words : goal.invariant-words
invariant-words g l =
    let behind = length l.fn.text - length l.left in
    (length l.left ≡ length l.right) × (length l.left ≤ length l.fn.text)
    × (l.left ≡ drop behind l.fn.text) × (l.right ≡ drop behind l.fn.other)
    × ((l.fn.text ≡ l.fn.other) ↔ (l.left ≡ l.right))

abbrev pub decreases-words : goal.decreases-words
decreases-words g l = length l.left
