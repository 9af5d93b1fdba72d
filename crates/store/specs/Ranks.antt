-- The subject at a place in the order of all subjects.
use Rattle.std.specs.Prelude.{ℕ, ◌*◌, ◌+◌, ◌-◌, ◌/◌, ◌%◌, ◌==◌, if◌then◌else◌}
use Rattle.numbers.specs.Subjects.{Subject, Number, Block, subject_key}
use Rattle.store.specs.declared.keys.Rank.{Rank}

-- The subject at place `n`: each block is followed by its thousand numbers.
abbrev pub ranked : ℕ → Subject
ranked n = if n % 1001 == 0 then Block (n / 1001) else Number (n / 1001 * 1000 + (n % 1001 - 1))

abbrev pub subject_at : Rank → Subject
subject_at r = ranked r.number

-- The number by which two places are compared.
abbrev pub rank_key : Rank → ℕ
rank_key r = subject_key (subject_at r)
