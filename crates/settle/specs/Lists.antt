-- The items of a `Few`, in order.
use Rattle.std.specs.Prelude.{List, []}
use Rattle.settle.specs.declared.few.Few.{Few}
use Rattle.settle.specs.declared.few.Few.TheVariants as few

abbrev pub items_of : {T : Type 0} → Few T → List T
items_of few.Empty = []
items_of (few.One items) = items
items_of (few.Two items) = items
items_of (few.Many items) = items.items
