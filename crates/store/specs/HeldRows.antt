-- The versions of subjects, and the last version of each subject that came into force.
use Rattle.std.specs.Prelude.{ℕ, ◌≢◌, ◌==◌, ◌/◌, ◌%◌, List, [], slice_index_or}
use Rattle.std.specs.declared.cmp.Ordering.{Ordering}
use Rattle.std.specs.Map.{lookup}
use Rattle.std.specs.Option.{unwrap_or}
use Rattle.std.specs.Ordering.{nat_cmp, ordering_then, on}
use Rattle.std.specs.BTreeMap.{BTreeMap, ContainsKey}
use Rattle.numbers.specs.Subjects.{Subject, subject_key}
use Rattle.store.specs.Ranks.{subject_at}
use Rattle.store.specs.declared.keys.SubjectVersion.{SubjectVersion as SubjectVersionImpl}

-- A version by its subject.
pub record SubjectVersion : Type 0 where
  pub subject : Subject
  pub id : ℕ

abbrev pub subject_version_cmp : SubjectVersion → SubjectVersion → Ordering
subject_version_cmp a b = ordering_then (nat_cmp (subject_key a.subject) (subject_key b.subject))
    (nat_cmp a.id b.id)

abbrev pub subject_version_of : SubjectVersionImpl → SubjectVersion
subject_version_of k = record { subject = subject_at k.rank; id = k.id }

abbrev pub subject_version : ℕ → Subject → SubjectVersion
subject_version id s = record { subject = s; id = id }

-- The id noted for the last version of a rank, or 0. 16 ranks share a row.
abbrev pub hint_at : List (ℕ × List ℕ) → ℕ → ℕ
hint_at last rank =
    slice_index_or (unwrap_or (lookup (λ row. rank / 16 == row) last) []) (rank % 16) 0

-- Holds if each subject with a version in force has a last one.
abbrev pub HaveLast : BTreeMap SubjectVersionImpl (Unit {0}) → List (ℕ × List ℕ) → Type 0
HaveLast keys last = (k : SubjectVersionImpl)
    → ContainsKey (on subject_version_of subject_version_cmp) keys k
    → hint_at last k.rank.number ≢ 0
