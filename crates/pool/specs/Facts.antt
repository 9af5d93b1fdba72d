-- Facts about the numbers of a block.
use Rattle.std.specs.Prelude.{ℕ, Bool, not, ◌&&◌, ◌==◌, List, map, filter, Option, option_map}
use Rattle.std.specs.List.{list_any}
use Rattle.numbers.specs.Subjects.{Subject, Number}
use Rattle.numbers.specs.declared.spid.Spid.{Spid}
use Rattle.version.specs.declared.in_use.NumberInUse.{NumberInUse}

abbrev pub spid_number : Spid → ℕ
spid_number s = s.number

abbrev pub carrier_number : Option Spid → Option ℕ
carrier_number = option_map spid_number

-- The numbers with a version in force.
abbrev pub in_force_numbers : List NumberInUse → List Subject
in_force_numbers numbers = map (λ n. Number n.tn.number) (filter (λ n. n.is_in_force) numbers)

-- Whether this is the number, with a version in force.
abbrev pub is_in_force : ℕ → NumberInUse → Bool
is_in_force tn n = n.is_in_force && (tn == n.tn.number)

-- Whether the number is being ported: it has an open version and none in force.
abbrev pub is_open_port : NumberInUse → Bool
is_open_port n = n.is_open && not n.is_in_force

abbrev pub has_open_port : List NumberInUse → Bool
has_open_port numbers = list_any is_open_port numbers
