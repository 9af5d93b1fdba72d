-- The carriers for which each broadcast is pending, one row a broadcast, and the downloads that the
-- rows mean.
use Rattle.std.specs.Prelude.{◌≡◌, ℕ, Bool, true, List, [], ◌∷◌, ◌++◌, map, Option, Some, None, ◌==◌, ◌&&◌, not, is_some, cond, option_map, ◌⊎◌, refl}
use Rattle.std.specs.List.{list_any}
use Rattle.std.specs.declared.cmp.Ordering.{Ordering}
use Rattle.std.specs.Ordering.{nat_cmp, ordering_then, on}
use Rattle.std.specs.Map.{lookup}
use Rattle.std.specs.BTreeMap.{is_at}
use Rattle.std.specs.FinMap.{FinMap, from_entries, entries, get, code}
use mathlib.Core.Logic.{inl, inr}
use Rattle.std.specs.Coded.{Coded, code_by, coded×, coded⊎, coded_ℕ}
use Rattle.numbers.specs.Subjects.{Subject, Number, Block}
use Rattle.numbers.specs.Abstraction.{subject_of}
use Rattle.numbers.specs.declared.ported.Subject.{Subject as SubjectImpl}
use Rattle.numbers.specs.declared.spid.Spid.{Spid}
use Rattle.model.specs.Content.{WaitKey, wait_cmp, wait_key}
use Rattle.delivery.specs.declared.download.DownloadKey.{DownloadKey as DownloadKeyImpl}
use Rattle.settle.specs.Abstraction.{spid_of}
use Rattle.store.specs.Lists.{is_subject}
use Rattle.store.specs.Maps.{seen_entries}
use Rattle.store.specs.declared.keys.RowKey.{RowKey as RowKeyImpl}
use Rattle.store.specs.PackedRows.{subject_in}
use Rattle.store.specs.declared.waiting.Waiting.{Waiting as WaitingImpl}
use Rattle.store.specs.declared.waiting.Waiting.TheVariants as row

-- A download without its carrier.
pub record Download : Type 0 where
  pub minute : ℕ
  pub id : ℕ
  pub attempt : ℕ

abbrev pub download_cmp : Download → Download → Ordering
download_cmp a b =
    ordering_then (nat_cmp a.minute b.minute) (ordering_then (nat_cmp a.id b.id)
    (nat_cmp a.attempt b.attempt))

abbrev pub download_of : WaitKey → Download
download_of k = record { minute = k.minute; id = k.id; attempt = k.attempt }

abbrev pub wait_for : Download → (carrier : ℕ) → WaitKey
wait_for d carrier = wait_key carrier d.minute d.id d.attempt

-- A broadcast's subject, and the carriers for which the broadcast is pending.
abbrev pub Waiting : Type 0
Waiting = Subject × List ℕ

-- The downloads that a broadcast's row means.
abbrev pub waits_of_row : Download → Waiting → List (WaitKey × Subject)
waits_of_row d w = map {B = WaitKey × Subject} (λ c. (wait_for d c, w.0)) w.1

unfoldable pub waits_of_rows : List (Download × Waiting) → List (WaitKey × Subject)
waits_of_rows [] = []
waits_of_rows (e ∷ es) = waits_of_row e.0 e.1 ++ waits_of_rows es

unfoldable pub waits_of : FinMap download_cmp Waiting → FinMap wait_cmp Subject
waits_of m = from_entries (waits_of_rows (entries m))

-- The subject of the broadcast, if it is pending for the carrier.
abbrev pub awaited : Option Waiting → (carrier : ℕ) → Option Subject
awaited None carrier = None
awaited (Some w) carrier = cond (list_any (λ k. carrier == k) w.1) (Some w.0) None

-- ---- the rows of the code

abbrev pub row_key_of : RowKeyImpl → Download
row_key_of k = record { minute = k.minute; id = k.id; attempt = k.attempt }

-- The subject of a row.
abbrev pub subject_of_row : WaitingImpl → Subject
subject_of_row (row.Nobody line block) = subject_in block.number line
subject_of_row (row.One line block own) = subject_in block.number line
subject_of_row (row.Two line block own) = subject_in block.number line
subject_of_row (row.Many line block all) = subject_in block.number line

-- The carriers of a row in order.
abbrev pub spids_of : WaitingImpl → List Spid
spids_of (row.Nobody line block) = []
spids_of (row.One line block own) = own
spids_of (row.Two line block own) = own
spids_of (row.Many line block all) = all.value.items

abbrev pub waiting_of : WaitingImpl → Waiting
waiting_of w = (subject_of_row w, map spid_of (spids_of w))

abbrev pub rows_of : List (RowKeyImpl × WaitingImpl) → FinMap download_cmp Waiting
rows_of es = from_entries {R = download_cmp} (seen_entries row_key_of waiting_of es)

-- The row at a key.
abbrev pub row_in : List (RowKeyImpl × WaitingImpl) → RowKeyImpl → Option WaitingImpl
row_in es k = lookup (is_at (on row_key_of download_cmp k)) es

-- ---- the index by subjects

-- Whether the index has a broadcast under a subject.
abbrev pub Index : Type 0
Index = Subject → Download → Bool

-- Holds if each broadcast's row is in the index under its subject.
abbrev pub AreAbout : FinMap download_cmp Waiting → Index → Type 0
AreAbout rows about = (d : Download) (w : Waiting) → get rows d ≡ Some w → about w.0 d ≡ true

-- Holds if a row needs each key of the index.
abbrev pub AboutIsNeeded : FinMap download_cmp Waiting → Index → Type 0
AboutIsNeeded rows about = (s : Subject) (d : Download) → about s d ≡ true
    → option_map (λ (w : Waiting). w.0) (get rows d) ≡ Some s

-- ---- registered carriers

-- Whether the carrier is another one than `own`, and registered.
abbrev pub is_another : FinMap nat_cmp (Unit {0}) → (own carrier : Spid) → Bool
is_another registered own carrier =
    not (carrier.number == own.number)
    && is_some (get registered (spid_of carrier))

-- Whether the carrier is among these, and another registered one is too.
abbrev pub is_shared : FinMap nat_cmp (Unit {0}) → (own : Spid) → List Spid → Bool
is_shared registered own carriers =
    list_any (λ (k : Spid). own.number == k.number) carriers
    && list_any (is_another registered own) carriers

-- ---- one row changed

-- Holds if the row has this subject and this carrier only.
pub record IsFirst (carrier : ℕ) (s : Subject) (w : Waiting) : Type 0 where
  pub same : w.0 ≡ s
  pub each : (k : ℕ) → awaited (Some w) k ≡ cond (k == carrier) (Some s) None

-- Holds if the row has this carrier, and is otherwise the same.
pub record IsAdded (carrier : ℕ) (s : Subject) (old new : Waiting) : Type 0 where
  pub subject : old.0 ≡ s
  pub same : new.0 ≡ s
  pub each : (k : ℕ) → awaited (Some new) k ≡ cond (k == carrier) (Some s) (awaited (Some old) k)

-- Holds if the row does not have this carrier, and is otherwise the same.
pub record IsWithout (carrier : ℕ) (old new : Waiting) : Type 0 where
  pub same : new.0 ≡ old.0
  pub each : (k : ℕ) → awaited (Some new) k ≡ cond (k == carrier) None (awaited (Some old) k)

-- ---- codes

abbrev pub coded_wait_key : Coded WaitKey
coded_wait_key =
    code_by (ℕ × (ℕ × (ℕ × ℕ))) (coded× coded_ℕ (coded× coded_ℕ (coded× coded_ℕ coded_ℕ)))
    (λ k. (k.carrier, (k.minute, (k.id, k.attempt)))) (λ t. wait_key t.0 t.1.0 t.1.1.0 t.1.1.1)
    (λ k. refl)

pub subject_cases : Subject → ℕ ⊎ ℕ
subject_cases (Number n) = inl n
subject_cases (Block n) = inr n

pub subject_from : ℕ ⊎ ℕ → Subject
subject_from (inl n) = Number n
subject_from (inr n) = Block n

pub from-cases : (s : Subject) → subject_from (subject_cases s) ≡ s
unfolding subject_cases subject_from
from-cases (Number n) = refl
from-cases (Block n) = refl

abbrev pub coded_subject : Coded Subject
coded_subject = code_by (ℕ ⊎ ℕ) (coded⊎ coded_ℕ coded_ℕ) subject_cases subject_from from-cases

abbrev pub coded_waits : Coded (FinMap wait_cmp Subject)
coded_waits = code coded_wait_key coded_subject

-- ---- look-ups of rows

-- The key of the broadcast's row. `is_for` is whether the broadcast is of the subject and pending
-- for the carrier.
abbrev pub row_key_in : DownloadKeyImpl → RowKeyImpl
row_key_in b = record { minute = b.minute.number; id = b.id; attempt = b.attempt }

abbrev pub is_for : List (RowKeyImpl × WaitingImpl) → DownloadKeyImpl → Spid → SubjectImpl → Bool
is_for rows b carrier subject =
    is_subject (subject_of subject) (awaited (option_map waiting_of (row_in rows (row_key_in b)))
    carrier.number)
