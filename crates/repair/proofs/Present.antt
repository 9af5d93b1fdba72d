-- The sets of windows among the rows.
use Rattle.std.proofs.Common.{◌≡◌, ℕ, ap, refl}
use Rattle.model.specs.Windows.{Windows}
use Rattle.windows.specs.declared.window.WindowSet.{WindowSet as WindowSetImpl}
use Rattle.repair.specs.Entries.{Entry, WindowSet, entry_of}
use Rattle.repair.specs.declared.row.RegisterRow.{RegisterRow}
use Rattle.repair.specs.declared.row.RegisterRow.TheVariants as row

abbrev number_of : Entry → ℕ
number_of (WindowSet k w) = k
number_of e = 0

-- A row that is a set with this number, in the model's terms, is one in the code's.
pub is_set : (r : RegisterRow) (n : ℕ) (w : Windows) → entry_of r ≡ WindowSet n w
    → (set : WindowSetImpl) × (r ≡ row.WindowSet set) × (set.number ≡ n)
is_set (row.WindowSet set) n w e = (set, refl, ap number_of e)
is_set (row.Carrier spid) n w e = cc
is_set (row.Lrn lrn owner) n w e = cc
is_set (row.Code code holder) n w e = cc
is_set (row.Block block r) n w e = cc
is_set (row.Version v) n w e = cc
is_set (row.Broadcast key b) n w e = cc
is_set (row.Wait key subject) n w e = cc

abbrev number_in : RegisterRow → ℕ
number_in (row.WindowSet set) = set.number
number_in r = 0

pub same_number : (a b : WindowSetImpl) → row.WindowSet a ≡ row.WindowSet b → a.number ≡ b.number
same_number a b e = ap number_in e
