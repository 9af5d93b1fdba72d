-- An index of versions by their subjects: a hash table with the ids of each subject's versions, and
-- the lines of each block's numbers.
use Rattle.std.specs.Prelude.{◌≡◌, ◌≢◌, ◌==◌, ◌&&◌, ℕ, Bool, true, false, List, [], Option, Some, None, IfSome, cond, is_some}
use Rattle.std.specs.List.{list_any}
use Rattle.std.specs.Ordering.{nat_cmp}
use Rattle.std.specs.Map.{lookup}
use Rattle.std.specs.BTreeMap as tree
use Rattle.std.specs.Global.{Vec}
use Rattle.numbers.specs.Digits.{block_of, line_of}
use Rattle.numbers.specs.Subjects.{Number, subject_key}
use Rattle.numbers.specs.declared.line.Line.{Line}
use Rattle.store.specs.HeldRows.{SubjectVersion, subject_version, subject_version_of}
use Rattle.store.specs.declared.keys.SubjectVersion.{SubjectVersion as SubjectVersionImpl}
use Rattle.store.specs.declared.subject_index.Ids.{Ids}
use Rattle.store.specs.declared.subject_index.Ids.TheVariants.{One, More}

-- ---- ids

-- Whether the id is one of these.
abbrev pub has_id : Ids → ℕ → Bool
has_id (One own) id = own == id
has_id (More more) id = is_some (tree.get nat_cmp more.value id)

-- Whether a subject has ids, and this one is among them.
abbrev pub has_id_at : Option Ids → ℕ → Bool
has_id_at None id = false
has_id_at (Some ids) id = has_id ids id

abbrev pub ids_at : List (ℕ × Ids) → (subject : ℕ) → Option Ids
ids_at ids subject = lookup (λ r. subject == r) ids

-- Whether an index has a version under a subject.
abbrev pub Versions : Type 0
Versions = SubjectVersion → Bool

abbrev pub versions_of : List (ℕ × Ids) → Versions
versions_of ids k = has_id_at (ids_at ids (subject_key k.subject)) k.id

-- Holds if of a subject's ids only one is added, or deleted for `false`.
abbrev pub IsIdSet : (old new : ℕ → Bool) → ℕ → Bool → Type 0
IsIdSet old new id b = (q : ℕ) → new q ≡ cond (id == q) b (old q)

-- Whether both keys are of one version of one subject.
abbrev pub is_same_version : SubjectVersion → SubjectVersion → Bool
is_same_version k q = (subject_key k.subject == subject_key q.subject) && (k.id == q.id)

-- Holds if of all keys only one is added, or deleted for `false`.
abbrev pub IsKey : (old new : Versions) → SubjectVersion → Bool → Type 0
IsKey old new k b = (q : SubjectVersion) → new q ≡ cond (is_same_version k q) b (old q)

-- ---- an index

-- Holds if there is no key, or the index has it.
abbrev pub HasKey : Versions → Option SubjectVersionImpl → Type 0
HasKey index key = IfSome key (λ k. index (subject_version_of k) ≡ true)

-- Holds if there is no key, or the index lacks it.
abbrev pub LacksKey : Versions → Option SubjectVersionImpl → Type 0
LacksKey index key = IfSome key (λ k. index (subject_version_of k) ≡ false)

-- Holds if the new index has every key of the old one.
abbrev pub KeepsKeys : (old new : Versions) → Type 0
KeepsKeys old new = (q : SubjectVersion) → old q ≡ true → new q ≡ true

-- Holds if the new index has every key of the old one, except possibly `key`.
abbrev pub KeepsOtherKeys : (old new : Versions) → Option SubjectVersionImpl → Type 0
KeepsOtherKeys old new key = (q : SubjectVersion) → old q ≡ true
    → IfSome key (λ k. subject_version_of k ≢ q) → new q ≡ true

-- ---- lines

abbrev pub has_line : List Line → ℕ → Bool
has_line lines l = list_any (λ (x : Line). l == x.number) lines

abbrev pub items_or_none : Option (Vec Line) → List Line
items_or_none None = []
items_or_none (Some lines) = lines.items

-- The lines of a block.
abbrev pub lines_of : List (ℕ × Vec Line) → (block : ℕ) → List Line
lines_of lines block = items_or_none (lookup (λ b. block == b) lines)

abbrev pub is_lined : List (ℕ × Vec Line) → (block line : ℕ) → Bool
is_lined lines block line = has_line (lines_of lines block) line

-- Holds if the line of each number with a version is one of its block's.
abbrev pub AreLined : Versions → List (ℕ × Vec Line) → Type 0
AreLined index lines = (n id : ℕ) → index (subject_version id (Number n)) ≡ true
    → is_lined lines (block_of n) (line_of n) ≡ true
