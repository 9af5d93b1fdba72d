-- An index of versions by their deadlines: for each minute the ids of versions.
use Rattle.std.specs.Prelude.{◌≡◌, ◌≢◌, ◌==◌, ◌++◌, ◌∷◌, ◌≤◌, ℕ, Bool, true, false, List, [], Option, Some, None, IfSome, drop}
use Rattle.std.specs.declared.cmp.Ordering.{Ordering}
use Rattle.std.specs.List.{list_any}
use Rattle.std.specs.Ordering.{nat_cmp, ordering_then}
use Rattle.std.specs.BTreeMap as tree
use Rattle.std.specs.BTreeMap.{BTreeMap}
use Rattle.std.specs.Global.{Vec}
use Rattle.store.specs.declared.keys.DueVersion.{DueVersion as DueVersionImpl}

-- A version by its deadline.
pub record DueVersion : Type 0 where
  pub minute : ℕ
  pub id : ℕ

abbrev pub due_version_cmp : DueVersion → DueVersion → Ordering
due_version_cmp a b = ordering_then (nat_cmp a.minute b.minute) (nat_cmp a.id b.id)

abbrev pub due_version_of : DueVersionImpl → DueVersion
due_version_of k = record { minute = k.minute.number; id = k.id }

abbrev pub due_version : ℕ → (minute : ℕ) → DueVersion
due_version id minute = record { minute = minute; id = id }

-- ---- the ids of a minute

-- Whether the id is one of these.
abbrev pub has_number : List ℕ → ℕ → Bool
has_number ids id = list_any (λ n. id == n) ids

abbrev pub numbers_in : Option (Vec ℕ) → List ℕ
numbers_in None = []
numbers_in (Some ids) = ids.items

-- The ids of a minute, the earliest added first.
abbrev pub ids_due : BTreeMap ℕ (Vec ℕ) → (minute : ℕ) → List ℕ
ids_due m minute = numbers_in (tree.get nat_cmp m minute)

-- Holds if the new list has each id of the old one, except possibly this one.
abbrev pub KeepsOtherIds : (old new : List ℕ) → ℕ → Type 0
KeepsOtherIds old new id = (n : ℕ) → id ≢ n → has_number old n ≡ true → has_number new n ≡ true

-- Holds if the new list has each id of the old one.
abbrev pub KeepsIds : (old new : List ℕ) → Type 0
KeepsIds old new = (n : ℕ) → has_number old n ≡ true → has_number new n ≡ true

-- Holds if the id is taken from the list, if it is the last one.
abbrev pub TakesLast : (old new : List ℕ) → ℕ → Type 0
TakesLast old new id = (before : List ℕ) → old ≡ before ++ id ∷ [] → new ≡ before

-- ---- the index

-- Whether an index has a version under a minute.
abbrev pub Due : Type 0
Due = DueVersion → Bool

abbrev pub due_in : BTreeMap ℕ (Vec ℕ) → Due
due_in m k = has_number (ids_due m k.minute) k.id

-- Holds if there is no key, or the index has it.
abbrev pub HasDue : Due → Option DueVersionImpl → Type 0
HasDue index key = IfSome key (λ k. index (due_version_of k) ≡ true)

-- Holds if the new index has every key of the old one.
abbrev pub KeepsDue : (old new : Due) → Type 0
KeepsDue old new = (q : DueVersion) → old q ≡ true → new q ≡ true

-- Holds if the new index has every key of the old one, except possibly `key`.
abbrev pub KeepsOtherDue : (old new : Due) → Option DueVersionImpl → Type 0
KeepsOtherDue old new key = (q : DueVersion) → old q ≡ true
    → IfSome key (λ k. due_version_of k ≢ q) → new q ≡ true

-- Holds if there is no key, or it is taken from the index if it was added last to its minute.
abbrev pub TakesLastDue : (old new : BTreeMap ℕ (Vec ℕ)) → Option DueVersionImpl → Type 0
TakesLastDue old new key =
    IfSome key (λ k. TakesLast (ids_due old k.minute.number) (ids_due new k.minute.number) k.id)

-- Holds if no key of the index has an earlier minute.
abbrev pub IsLeastMinute : Due → (minute : ℕ) → Type 0
IsLeastMinute index minute = (q : DueVersion) → index q ≡ true → minute ≤ q.minute

-- Holds if the new index has every key of the old one, except possibly those of `minute` that come
-- after its first `count` ids.
abbrev pub KeepsFirst : (old new : BTreeMap ℕ (Vec ℕ)) → (minute count : ℕ) → Type 0
KeepsFirst old new minute count = (q : DueVersion) → due_in old q ≡ true
    → (q.minute ≡ minute → has_number (drop count (ids_due old minute)) q.id ≡ false)
    → due_in new q ≡ true
