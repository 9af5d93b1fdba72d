-- The index of pending broadcasts by subject: a hash table with the keys of each subject's
-- broadcasts.
use Rattle.std.specs.Prelude.{◌≡◌, ◌==◌, ◌&&◌, ℕ, Bool, true, false, List, [], ◌∷◌, Option, Some, None, cond, is_some}
use Rattle.std.specs.Ordering.{eq_by_cmp}
use Rattle.std.specs.Map.{lookup}
use Rattle.std.specs.BTreeMap as tree
use Rattle.std.specs.FinMap.{get}
use Rattle.numbers.specs.Subjects.{Subject, subject_key}
use Rattle.delivery.specs.declared.download.DownloadKey.{DownloadKey as DownloadKeyImpl}
use Rattle.store.specs.WaitRows.{Download, download_cmp, Index}
use Rattle.store.specs.QueueRows.{queue_key_of, order_of, Order, KeepsKeys, KeepsOtherKeys}
use Rattle.store.specs.declared.about.Broadcasts.{Broadcasts}
use Rattle.store.specs.declared.about.Broadcasts.TheVariants.{One, More}
use Rattle.store.specs.declared.short.ShortMinute.{ShortMinute}
use Rattle.store.specs.ShortNumbers.{short_of}

-- The key of the broadcast with these fields.
abbrev pub key_in : ShortMinute → (id attempt : ℕ) → DownloadKeyImpl
key_in minute id attempt = record {
  minute = record { number = short_of minute.number; valid = minute.valid };
  id = id;
  attempt = attempt;
}

-- The keys of a subject's broadcasts, ascending.
abbrev pub keys_in : Broadcasts → List DownloadKeyImpl
keys_in (One minute id attempt) = key_in minute id attempt ∷ []
keys_in (More more) = tree.keys more.value

-- Whether the broadcast is one of a map's.
abbrev pub has_in : tree.BTreeMap DownloadKeyImpl (Unit {0}) → Download → Bool
has_in m d = is_some (get (order_of m) d)

-- Whether the broadcast is one of a subject's.
abbrev pub has : Broadcasts → Download → Bool
has (One minute id attempt) d =
    eq_by_cmp download_cmp (queue_key_of (key_in minute id attempt)) d
has (More more) d = has_in more.value d

-- Whether there are broadcasts of a subject, and this one is among them.
abbrev pub has_at : Option Broadcasts → Download → Bool
has_at None d = false
has_at (Some b) d = has b d

abbrev pub broadcasts_of : List (ℕ × Broadcasts) → (subject : ℕ) → Option Broadcasts
broadcasts_of about subject = lookup (λ r. subject == r) about

abbrev pub about_of : List (ℕ × Broadcasts) → Index
about_of about s d = has_at (broadcasts_of about (subject_key s)) d

-- Holds if of a subject's broadcasts only one is added, or deleted for `false`.
abbrev pub IsPresence : (old new : Download → Bool) → Download → Bool → Type 0
IsPresence old new d b = (q : Download) → new q ≡ cond (eq_by_cmp download_cmp d q) b (old q)

-- Holds if of all broadcasts only one is added, or deleted for `false`.
abbrev pub IsKey : (old new : Index) → Subject → Download → Bool → Type 0
IsKey old new s d b = (t : Subject) (q : Download)
    → new t q ≡ cond ((subject_key s == subject_key t) && eq_by_cmp download_cmp d q) b (old t q)

-- Holds if both indexes have the same broadcasts.
abbrev pub IsSameIndex : (old new : Index) → Type 0
IsSameIndex old new = (t : Subject) (q : Download) → new t q ≡ old t q

-- Holds if the index has only this broadcast of the subject, and the broadcast is the version's
-- with
-- this attempt.
pub record IsOnly (about : Index) (s : Subject) (version sent : ℕ)
    (key : DownloadKeyImpl) : Type 0 where
  pub id : key.id ≡ version
  pub attempt : key.attempt ≡ sent
  pub only : (q : Download) → about s q ≡ eq_by_cmp download_cmp (queue_key_of key) q

-- ---- a broadcast in both indexes

-- Holds if the broadcast is added to both indexes.
abbrev pub AreKeysAdded : Subject → Download → (about next : Index) → (order after : Order) → Type 0
AreKeysAdded s d about next order after =
    IsKey about next s d true × ((after d ≡ true) × KeepsKeys order after)

-- Holds if the broadcast is deleted from the index by subjects. It may stay in the order.
abbrev pub AreKeysRemoved : Subject → Download → (about next : Index) → (order after : Order)
    → Type 0
AreKeysRemoved s d about next order after =
    IsKey about next s d false × KeepsOtherKeys d order after

-- Holds if the indexes stay, except that the order may have the broadcast or not.
abbrev pub AreKeysKept : Download → (about next : Index) → (order after : Order) → Type 0
AreKeysKept d about next order after =
    IsSameIndex about next × KeepsOtherKeys d order after
