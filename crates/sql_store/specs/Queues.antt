-- Definitions for the first downloads of a queue.
use Rattle.std.specs.Prelude.{◌≡◌, ◌⊎◌, ◌≤◌, ℕ, Bool, List, map, filter, take, length, Option, Some, None, true, is_some, All}
use Rattle.std.specs.declared.cmp.Ordering.{Ordering}
use Rattle.std.specs.declared.cmp.Ordering.TheVariants.{Less}
use Rattle.std.specs.Ordering.{nat_cmp, ordering_then}
use Rattle.std.specs.FinMap.{get}
use Rattle.std.specs.List.Sorted.{IsStrictlySortedBy}
use Rattle.sqlite_rules.specs.Lists.{Has}
use Rattle.delivery.specs.declared.download.Download.{Download}
use Rattle.delivery.specs.declared.download.DownloadKey.{DownloadKey}
use Rattle.numbers.specs.Subjects.{Subject}
use Rattle.numbers.specs.Abstraction.{subject_of}
use Rattle.settle.specs.Abstraction.{wait_key_of}
use Rattle.sql_rows.specs.Content.{keyed}
use Rattle.sql_store.specs.Lists.{WaitRow}
use Rattle.model.specs.Content.{Content, BroadcastRow, WaitKey, broadcast_key, wait_key}
use Rattle.settle.specs.Reads.{DescribesDownload, download_cmp}

abbrev pub key_in : Download → DownloadKey
key_in d = record { minute = d.minute; id = d.id; attempt = d.attempt }

-- Whether a pending download has a broadcast.
abbrev pub has_broadcast : Content → DownloadKey → Bool
has_broadcast c wait = is_some (get c.broadcasts (broadcast_key wait.id wait.attempt))

-- Holds if the download is as its broadcast's row describes it.
abbrev pub MatchesBroadcast : Content → Download → Type 0
MatchesBroadcast c d = (row : BroadcastRow) × (get c.broadcasts (broadcast_key d.id d.attempt)
    ≡ Some row) × DescribesDownload row d

-- Holds if this is the pending download, or none if it has no broadcast.
abbrev pub IsNext : Content → DownloadKey → Option Download → Type 0
IsNext c wait None = get c.broadcasts (broadcast_key wait.id wait.attempt) ≡ None
IsNext c wait (Some d) = (key_in d ≡ wait) × MatchesBroadcast c d

-- Holds if these are the pending downloads that have a broadcast, in order.
pub record HaveBroadcasts (c : Content) (waits : List DownloadKey)
    (downloads : List Download) : Type 0 where
  pub keys : map key_in downloads ≡ filter (has_broadcast c) waits
  pub told : All (MatchesBroadcast c) downloads

-- Holds if these are the first `many` of the pending downloads that have a broadcast, or all if
-- there are fewer.
pub record AreFirstWithBroadcasts (c : Content) (many : ℕ) (waits : List DownloadKey)
    (downloads : List Download) : Type 0 where
  pub passed : ℕ
  pub told : HaveBroadcasts c (take passed waits) downloads
  pub whole : (length waits ≤ passed) ⊎ (length downloads ≡ many)
  pub most : length downloads ≤ many

-- The order of a queue.
abbrev pub queue_order : DownloadKey → (minute id attempt : ℕ) → Ordering
queue_order d minute id attempt =
    ordering_then (nat_cmp d.minute.number minute) (ordering_then (nat_cmp d.id id)
    (nat_cmp d.attempt attempt))

-- Holds if these are downloads pending for the carrier, without duplicates, in the order of its
-- queue. They are all of them, unless `Left` holds; then the others come after these.
pub record AreQueued (c : Content) (carrier : ℕ) (Left : Type 0)
    (waits : List DownloadKey) : Type 0 where
  pub each : (minute id attempt : ℕ) → is_some (get c.waits (wait_key carrier minute id attempt))
      ≡ true
      → ((d : DownloadKey) × Has waits d × (d.minute.number ≡ minute) × (d.id ≡ id)
      × (d.attempt ≡ attempt))
      ⊎ (Left × ((d : DownloadKey) → Has waits d → queue_order d minute id attempt ≡ Less))
  pub only : (d : DownloadKey) → Has waits d
      → is_some (get c.waits (wait_key carrier d.minute.number d.id d.attempt)) ≡ true
  pub rises : IsStrictlySortedBy download_cmp waits

-- ---- rows of the table

-- The order of a queue, by keys.
abbrev pub wait_order : WaitKey → WaitKey → Ordering
wait_order a b =
    ordering_then (nat_cmp a.minute b.minute) (ordering_then (nat_cmp a.id b.id)
    (nat_cmp a.attempt b.attempt))

-- Holds if the items are pending for the carrier. All other downloads pending for it come after
-- them, and there are others only if there are at least `n` items.
pub record AreFront (c : Content) (spid n : ℕ) (items : List WaitRow) : Type 0 where
  pub only : (x : WaitRow) → Has items x → (get c.waits (wait_key_of x.0) ≡ Some (subject_of x.1))
      × ((wait_key_of x.0).carrier ≡ spid)
  pub each : (k : WaitKey) (v : Subject) → get c.waits k ≡ Some v → k.carrier ≡ spid
      → ((x : WaitRow) × Has items x × (keyed wait_key_of subject_of x ≡ (k, v)))
      ⊎ ((n ≤ length items) × ((x : WaitRow) → Has items x → wait_order (wait_key_of x.0) k ≡ Less))
