-- The subjects of the versions that were read.
use Rattle.std.specs.Prelude.{◌≡◌, ◌<◌, ℕ, Bool, false, Option, Some, None}
use Rattle.std.specs.BTreeMap.{BTreeMap, get as get_in}
use Rattle.std.specs.Ordering.{nat_cmp, on}
use Rattle.numbers.specs.Subjects.{Subject, subject_eq}
use Rattle.numbers.specs.Abstraction.{key_of, subject_of}
use Rattle.numbers.specs.declared.ported.Subject.{Subject as SubjectImpl}
use Rattle.model.specs.Content.{Content, VersionRow}
use Rattle.invariants.specs.Sound.{HasIn, holds_in, opens_in}
use Rattle.invariants.specs.declared.seen.Seen.{Seen}

-- The version that has the subject.
abbrev pub holder_of : BTreeMap SubjectImpl ℕ → SubjectImpl → Option ℕ
holder_of ids s = get_in (on key_of nat_cmp) ids s

-- Whether the subject is this one, if there is one.
abbrev pub is_subject : Option SubjectImpl → SubjectImpl → Bool
is_subject None s = false
is_subject (Some t) s = subject_eq (subject_of t) (subject_of s)

-- Holds if these are the versions with ids below `n` that have a subject in the column, by subject.
pub record AreSeen (column : VersionRow → Option Subject) (c : Content) (n : ℕ)
    (ids : BTreeMap SubjectImpl ℕ) : Type 0 where
  pub each : (s : SubjectImpl) (id : ℕ) → id < n → HasIn column c id (subject_of s)
      → holder_of ids s ≡ Some id
  pub only : (s : SubjectImpl) (id : ℕ) → holder_of ids s ≡ Some id
      → (id < n) × HasIn column c id (subject_of s)
  -- Each subject of a row is a subject of the code.
  pub valid : (id : ℕ) (s : Subject) → id < n → HasIn column c id s
      → (t : SubjectImpl) × (subject_of t ≡ s)

-- Holds if these are the versions in force and the open ones, of those with ids below `n`.
pub record AreAllSeen (c : Content) (n : ℕ) (seen : Seen) : Type 0 where
  pub holds : AreSeen holds_in c n seen.holds
  pub opens : AreSeen opens_in c n seen.opens
