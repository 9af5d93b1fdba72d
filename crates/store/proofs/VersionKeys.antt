-- The keys of versions' rows in the indexes.
use Rattle.std.proofs.Common.{◌≡◌, ◌<◌, ℕ, cond, Option, Some, None, refl, ap, sym, ◌∙◌, subst, inl, inr, ◌⊎◌}
use Rattle.std.specs.Prelude.{◌≢◌, option_map}
use Rattle.std.specs.declared.cmp.Ordering.{Ordering}
use Rattle.std.specs.declared.cmp.Ordering.TheVariants.{Less, Equal, Greater}
use Rattle.std.specs.Ordering.{nat_cmp, is_eq}
use Rattle.std.specs.Cmp.{nat_cmp_total, tied_itself}
use Rattle.std.specs.FinMap.{get, nat_cmp-IsAntisymmetric}
use Rattle.model.specs.Content.{Content, VersionRow}
use Rattle.store.specs.Tables.{content_of, with_version, SubjectVersion, DueVersion, subject_version, subject_version_of, due_version, due_version_of, AreIndexed, KeepIndexes, KeepOtherVersions, AreKeysOf, AreNoKeys, AreUnneeded, HaveKeys, HasRowKeys, IndexKey, id_of, HasIndexKey, IsKeyOf, IsOneOf}
use Rattle.store.specs.SubjectRows.{versions_of}
use Rattle.store.specs.DueRows.{due_in}
use Rattle.store.specs.Tables.IndexKey.{InForceKey, OpenKey, DeadlineKey}
use Rattle.store.specs.declared.keys.VersionKeys.{VersionKeys}
use Rattle.store.specs.declared.tables.Tables.{Tables}
use Rattle.store.proofs.IndexKeys.{stands-kept, stands-other, stands-has, rest-own, rest-other, rest-either}
use Rattle.store.proofs.SubjectIndexes.{key-other, key-there}
use Rattle.store.proofs.DueRows.{due-other, due-there}
use Rattle.store.proofs.Maps.{get-set}
use Rattle.store.proofs.Orders.{subject_version_total, subject_version_exact, due_version_total, due_version_exact}

-- ---- the keys of the indexes

pub stands-in : (old new : Tables) → KeepIndexes old new → (k : IndexKey) → HasIndexKey old k
    → HasIndexKey new k
stands-in old new keeps (InForceKey k) had =
    stands-kept subject_version_of subject_version_total subject_version_exact old.holds.keys
    new.holds.keys
    keeps.0 k had
stands-in old new keeps (OpenKey k) had = keeps.1 k had
stands-in old new keeps (DeadlineKey k) had = keeps.2 k had

-- All keys but these stay in the indexes.
pub stands-beside : (old new : Tables) (keys : VersionKeys) → KeepOtherVersions keys old new
    → (k : IndexKey) → (IsOneOf keys k → ⊥) → HasIndexKey old k → HasIndexKey new k
stands-beside old new keys keeps (InForceKey k) other had =
    stands-other subject_version_of subject_version_total subject_version_exact old.holds.keys
    new.holds.keys
    keys.in_force keeps.0 k (λ t is e. other (ap (option_map subject_version_of) is
    ∙ ap (λ l. Some l) e)) had
stands-beside old new keys keeps (OpenKey k) other had =
    keeps.1 k had (key-other keys.opened k other)
stands-beside old new keys keeps (DeadlineKey k) other had =
    keeps.2 k had (due-other keys.deadline k other)

pub all-kept : (t : Tables) → KeepIndexes t t
all-kept t = (λ k had. had, λ k had. had, λ k had. had)

pub kept-then : (a b c : Tables) → KeepIndexes a b → KeepIndexes b c → KeepIndexes a c
kept-then a b c p q = (
  λ k had. q.0 k (p.0 k had),
  λ k had. q.1 k (p.1 k had),
  λ k had. q.2 k (p.2 k had),
)

one-there : (t : Tables) (keys : VersionKeys) → HaveKeys keys t → (k : IndexKey) → IsOneOf keys k
    → HasIndexKey t k
one-there t keys have (InForceKey k) =
    stands-has subject_version_of subject_version_total subject_version_exact t.holds.keys
    keys.in_force k have.in_force
one-there t keys have (OpenKey k) =
    key-there (versions_of t.opens.ids.entries) keys.opened k have.opened
one-there t keys have (DeadlineKey k) =
    due-there (due_in t.deadlines.ids) keys.deadline k have.deadline

-- ---- the keys of a row

-- A key has its version's id.
pub key-number : {A L : Type 0} (make : A → L) (number : L → ℕ) (id : ℕ)
    → ((a : A) → number (make a) ≡ id) → (o : Option A) (k : L) → option_map make o ≡ Some k
    → number k ≡ id
key-number make number id has None k e = let no : None ≡ Some k = e in cc
key-number make number id has (Some a) k e =
    let same : make a ≡ k = (let f : Some (make a) ≡ Some k = e in cc) in
    ap number (sym same) ∙ has a

-- An optional key made from a part is the part made again.
pub made-of : {A L : Type 0} (make : A → L) (part : L → A) → ((a : A) → part (make a) ≡ a)
    → (o : Option A) (k : L) → option_map make o ≡ Some k → o ≡ Some (part k)
made-of make part back None k e = let no : None ≡ Some k = e in cc
made-of make part back (Some a) k e =
    let same : make a ≡ k = (let f : Some (make a) ≡ Some k = e in cc) in
    ap (λ b. Some b) (sym (back a) ∙ ap part same)

of-row : (id : ℕ) (row : VersionRow) (keys : VersionKeys) → AreKeysOf id row keys → (k : IndexKey)
    → IsOneOf keys k → IsKeyOf id row k
of-row id row keys of (InForceKey k) one = sym of.in_force ∙ one
of-row id row keys of (OpenKey k) one = sym of.opened ∙ one
of-row id row keys of (DeadlineKey k) one = sym of.deadline ∙ one

row-has : (id : ℕ) (row : VersionRow) (keys : VersionKeys) → AreKeysOf id row keys → (k : IndexKey)
    → IsKeyOf id row k → IsOneOf keys k
row-has id row keys of (InForceKey k) e = of.in_force ∙ e
row-has id row keys of (OpenKey k) e = of.opened ∙ e
row-has id row keys of (DeadlineKey k) e = of.deadline ∙ e

key-id : (id : ℕ) (row : VersionRow) (k : IndexKey) → IsKeyOf id row k → id_of k ≡ id
key-id id row (InForceKey k) =
    key-number (subject_version id) (λ (v : SubjectVersion). v.id) id (λ s. refl) row.holds k
key-id id row (OpenKey k) =
    key-number (subject_version id) (λ (v : SubjectVersion). v.id) id (λ s. refl) row.opens k
key-id id row (DeadlineKey k) =
    key-number (due_version id) (λ (v : DueVersion). v.id) id (λ s. refl) row.deadline k

no-key : (keys : VersionKeys) → AreNoKeys keys → (k : IndexKey) → IsOneOf keys k → ⊥
no-key keys none (InForceKey k) one =
    let no : None ≡ Some k = sym (ap (option_map subject_version_of) none.in_force) ∙ one in cc
no-key keys none (OpenKey k) one =
    let no : None ≡ Some k = sym (ap (option_map subject_version_of) none.opened) ∙ one in cc
no-key keys none (DeadlineKey k) one =
    let no : None ≡ Some k = sym (ap (option_map due_version_of) none.deadline) ∙ one in cc

-- ---- keys that are not needed

module _ (keys needed left : VersionKeys) (is : AreUnneeded keys needed left) where
  pub left-own : (k : IndexKey) → IsOneOf left k → IsOneOf keys k
  left-own (InForceKey k) =
      rest-own subject_version_of subject_version_total subject_version_exact keys.in_force
      needed.in_force
      left.in_force k is.in_force
  left-own (OpenKey k) =
      rest-own subject_version_of subject_version_total subject_version_exact keys.opened
      needed.opened left.opened k is.opened
  left-own (DeadlineKey k) =
      rest-own due_version_of due_version_total due_version_exact keys.deadline needed.deadline
      left.deadline k
      is.deadline

  pub left-other : (k : IndexKey) → IsOneOf left k → IsOneOf needed k → ⊥
  left-other (InForceKey k) =
      rest-other subject_version_of subject_version_total subject_version_exact keys.in_force
      needed.in_force left.in_force k is.in_force
  left-other (OpenKey k) =
      rest-other subject_version_of subject_version_total subject_version_exact keys.opened
      needed.opened left.opened k is.opened
  left-other (DeadlineKey k) =
      rest-other due_version_of due_version_total due_version_exact keys.deadline needed.deadline
      left.deadline k
      is.deadline

  left-either : (k : IndexKey) → IsOneOf keys k → IsOneOf left k ⊎ IsOneOf needed k
  left-either (InForceKey k) =
      rest-either subject_version_of subject_version_total subject_version_exact keys.in_force
      needed.in_force left.in_force k is.in_force
  left-either (OpenKey k) =
      rest-either subject_version_of subject_version_total subject_version_exact keys.opened
      needed.opened left.opened k is.opened
  left-either (DeadlineKey k) =
      rest-either due_version_of due_version_total due_version_exact keys.deadline needed.deadline
      left.deadline k is.deadline

-- The keys that the row of an id needs, if there is one.
module _ (c : Content) (id : ℕ) (keys : VersionKeys)
    (own : (row : VersionRow) → get c.versions id ≡ Some row → AreKeysOf id row keys)
    (without : get c.versions id ≡ None → AreNoKeys keys) where
  has-row : (k : IndexKey) → IsOneOf keys k → (row : VersionRow)
      × (get c.versions id ≡ Some row) × IsKeyOf id row k
  has-row k one = by_cases (get c.versions id) refl
    where
      by_cases : (w : Option VersionRow) → get c.versions id ≡ w → (row : VersionRow)
          × (get c.versions id ≡ Some row) × IsKeyOf id row k
      by_cases (Some row) there = (row, there, of-row id row keys (own row there) k one)
      by_cases None none = absurd (no-key keys (without none) k one)

-- ---- indexed tables

-- The indexes have the keys of each row.
has-keys : (t : Tables) → AreIndexed t → (id : ℕ) (row : VersionRow)
    → get (content_of t).versions id ≡ Some row → (k : IndexKey) → IsKeyOf id row k
    → (id < 18446744073709551616) × HasIndexKey t k
has-keys t indexed id row at (InForceKey k) has = indexed.0 id row k at has
has-keys t indexed id row at (OpenKey k) has = indexed.1 id row k at has
has-keys t indexed id row at (DeadlineKey k) has = indexed.2 id row k at has

indexed-from : (t : Tables) → ((id : ℕ) (row : VersionRow)
    → get (content_of t).versions id ≡ Some row → (k : IndexKey) → IsKeyOf id row k
    → (id < 18446744073709551616) × HasIndexKey t k) → AreIndexed t
indexed-from t each = (
  λ id row k at has. each id row at (InForceKey k) has,
  λ id row k at has. each id row at (OpenKey k) has,
  λ id row k at has. each id row at (DeadlineKey k) has,
)

-- Tables with the versions and the keys of indexed tables are indexed.
pub indexed-kept : (old new : Tables) → (content_of new).versions ≡ (content_of old).versions
    → KeepIndexes old new → AreIndexed old → AreIndexed new
indexed-kept old new same keeps indexed = indexed-from new (λ id row at k has.
    let was = has-keys old indexed id row (ap (λ m. get m id) (sym same) ∙ at) k has in
    (was.0, stands-in old new keeps k was.1))

-- The keys that are added and those of the row before are the keys of the row.
pub row-keys-there : (old new : Tables) (id : ℕ) (row : VersionRow) (own present left : VersionKeys)
    → AreIndexed old → AreKeysOf id row own
    → ((r : VersionRow) → get (content_of old).versions id ≡ Some r → AreKeysOf id r present)
    → (get (content_of old).versions id ≡ None → AreNoKeys present) → AreUnneeded own present left
    → KeepIndexes old new → HaveKeys left new → HasRowKeys id row new
row-keys-there old new id row own present left indexed of with without is keeps have k has =
    by_cases (left-either own present left is k (row-has id row own of k has))
  where
    by_cases : IsOneOf left k ⊎ IsOneOf present k → HasIndexKey new k
    by_cases (inl one) = one-there new left have k one
    by_cases (inr one) =
        let r = has-row (content_of old) id present with without k one in
        stands-in old new keeps k (has-keys old indexed id r.0 r.1 k r.2).1

-- ---- a row written

-- Holds if these keys are of the version, and its row does not need them.
abbrev pub AreSpare : ℕ → VersionRow → VersionKeys → Type 0
AreSpare id row keys = (k : IndexKey) → IsOneOf keys k → (id_of k ≡ id) × (IsKeyOf id row k → ⊥)

-- The keys of the row before that the row does not need.
pub spare-left : (c : Content) (id : ℕ) (row : VersionRow) (present own left : VersionKeys)
    → ((r : VersionRow) → get c.versions id ≡ Some r → AreKeysOf id r present)
    → (get c.versions id ≡ None → AreNoKeys present) → AreKeysOf id row own
    → AreUnneeded present own left → AreSpare id row left
spare-left c id row present own left with without of is k one =
    let r = has-row c id present with without k (left-own present own left is k one) in (
      key-id id r.0 k r.2,
      λ has. left-other present own left is k one (row-has id row own of k has),
    )

abbrev pub no_keys : VersionKeys
no_keys = record { in_force = None; opened = None; deadline = None }

pub none-spare : (id : ℕ) (row : VersionRow) → AreSpare id row no_keys
none-spare id row k one =
    absurd (no-key no_keys (record { in_force = refl; opened = refl; deadline = refl }) k one)

pub others-kept : (t : Tables) → KeepOtherVersions no_keys t t
others-kept t = (λ k had other. had, λ k had other. had, λ k had other. had)

module _ (old new : Tables) (id : ℕ) (row : VersionRow) (taken : VersionKeys)
    (spare : AreSpare id row taken) (keeps : KeepOtherVersions taken old new) where
  -- The keys of another version stay.
  pub row-keys-kept : (i : ℕ) (r : VersionRow) → i ≢ id → HasRowKeys i r old → HasRowKeys i r new
  row-keys-kept i r other was k has =
      stands-beside old new taken keeps k
      (λ one. other (sym (key-id i r k has) ∙ (spare k one).0)) (was k has)

  pub indexed-written : (content_of new).versions ≡ (with_version (content_of old) id (Some
      row)).versions → id < 18446744073709551616 → HasRowKeys id row old → AreIndexed old
      → AreIndexed new
  indexed-written put small there indexed = indexed-from new (λ i r at. by_cases i r (nat_cmp id i)
      refl (sym (ap (λ m. get m i) put ∙ get-set nat_cmp_total nat_cmp-IsAntisymmetric
      (content_of old).versions id (Some row) i) ∙ at))
    where
      mine : (i : ℕ) (r : VersionRow) → id ≡ i → row ≡ r → (k : IndexKey) → IsKeyOf i r k
          → (i < 18446744073709551616) × HasIndexKey new k
      mine i r number same k has =
          let own : IsKeyOf id row k =
          subst (λ j. IsKeyOf j row k) (sym number) (subst (λ x. IsKeyOf i x k) (sym same) has) in (
            subst (λ j. j < 18446744073709551616) number small,
            stands-beside old new taken keeps k (λ one. (spare k one).1 own) (there k own),
          )

      away : (i : ℕ) (r : VersionRow) → (id ≡ i → ⊥) → get (content_of old).versions i ≡ Some r
          → (k : IndexKey) → IsKeyOf i r k → (i < 18446744073709551616) × HasIndexKey new k
      away i r other it k has =
          let was = has-keys old indexed i r it k has in (
            was.0,
            stands-beside old new taken keeps k
                (λ one. other (sym (spare k one).0 ∙ key-id i r k has)) was.1,
          )

      differ : (i : ℕ) (o : Ordering) → nat_cmp id i ≡ o → (o ≡ Equal → ⊥) → id ≡ i → ⊥
      differ i o e other same =
          other (sym e ∙ ap (nat_cmp id) (sym same) ∙ tied_itself nat_cmp_total id)

      by_cases : (i : ℕ) (r : VersionRow) (o : Ordering) → nat_cmp id i ≡ o
          → cond (is_eq o) (Some row) (get (content_of old).versions i) ≡ Some r
          → (k : IndexKey) → IsKeyOf i r k → (i < 18446744073709551616) × HasIndexKey new k
      by_cases i r Equal e it =
          mine i r (nat_cmp-IsAntisymmetric id i e) (let g : Some row ≡ Some r = it in cc)
      by_cases i r Less e it = away i r (differ i Less e (λ f. let no : Less ≡ Equal = f in cc)) it
      by_cases i r Greater e it =
          away i r (differ i Greater e (λ f. let no : Greater ≡ Equal = f in cc)) it
