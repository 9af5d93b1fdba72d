-- The order of pending downloads, and the carriers' cursors in it.
use Rattle.std.specs.Prelude.{◌≡◌, ◌==◌, ◌||◌, ℕ, Bool, true, false, List, [], ◌∷◌, Option, Some, None, IfSome, cond, is_some, option_map, ⊤}
use Rattle.std.specs.Ordering.{nat_cmp, is_le, eq_by_cmp}
use Rattle.std.specs.List.{list_any}
use Rattle.std.specs.Map.{lookup}
use Rattle.std.specs.BTreeMap.{BTreeMap}
use Rattle.std.specs.FinMap.{FinMap, get}
use Rattle.numbers.specs.Subjects.{Subject, subject_key}
use Rattle.numbers.specs.Routings.{Routing}
use Rattle.numbers.specs.Abstraction.{key_of, routing_of, subject_of}
use Rattle.numbers.specs.declared.ported.Subject.{Subject as SubjectImpl}
use Rattle.model.specs.declared.words.Action.{Action}
use Rattle.model.specs.Content.{BroadcastRow, broadcast_cmp, broadcast_key, WaitKey, wait_cmp}
use Rattle.delivery.specs.declared.download.Download.{Download as DownloadImpl}
use Rattle.delivery.specs.declared.download.DownloadKey.{DownloadKey as DownloadKeyImpl}
use Rattle.settle.specs.Abstraction.{wait_key_of}
use Rattle.settle.specs.declared.rows.WaitKey.{WaitKey as WaitKeyImpl}
use Rattle.store.specs.Maps.{map_of, set}
use Rattle.store.specs.WaitRows.{Download, download_cmp, download_of, wait_for, Waiting}
use Rattle.store.specs.declared.queue_order.QueueOrder.{QueueOrder as QueueOrderImpl}

-- The key of a broadcast in queue order.
abbrev pub queue_key_of : DownloadKeyImpl → Download
queue_key_of k = record { minute = k.minute.number; id = k.id; attempt = k.attempt }

abbrev pub order_of : BTreeMap DownloadKeyImpl (Unit {0}) → FinMap download_cmp (Unit {0})
order_of m = map_of queue_key_of (λ u. u) m

-- Whether the broadcast is among these keys.
abbrev pub is_among : List DownloadKeyImpl → Download → Bool
is_among keys d = list_any (λ k. eq_by_cmp download_cmp (queue_key_of k) d) keys

-- Whether the order has the broadcast's key.
abbrev pub has_key : QueueOrderImpl → Download → Bool
has_key o d = is_some (get (order_of o.sorted) d) || is_among o.recent.items d

-- Whether an order has a broadcast's key.
abbrev pub Order : Type 0
Order = Download → Bool

-- Holds if the order has the key of each row.
abbrev pub HasKeysOf : FinMap download_cmp Waiting → Order → Type 0
HasKeysOf rows order = (d : Download) → is_some (get rows d) ≡ true → order d ≡ true

-- Holds if `new` has each key of `old`.
abbrev pub KeepsKeys : (old new : Order) → Type 0
KeepsKeys old new = (q : Download) → old q ≡ true → new q ≡ true

-- Holds if `new` has each key of `old` except this one, which it may have or not.
abbrev pub KeepsOtherKeys : Download → (old new : Order) → Type 0
KeepsOtherKeys d old new =
    (q : Download) → eq_by_cmp download_cmp d q ≡ false → old q ≡ true → new q ≡ true

-- ---- cursors

-- Holds if no download pending for the carrier is before `from`.
abbrev pub IsCursor : FinMap wait_cmp Subject → (carrier : ℕ) → (from : Download) → Type 0
IsCursor waits carrier from = (k : WaitKey) → k.carrier ≡ carrier → is_some (get waits k) ≡ true
    → is_le (download_cmp from (download_of k)) ≡ true

-- The carrier's cursor.
abbrev pub cursor_in : List (ℕ × DownloadKeyImpl) → (carrier : ℕ) → Option DownloadKeyImpl
cursor_in cursors carrier = lookup (λ c. carrier == c) cursors

-- Holds if no download is before the cursor of its carrier.
abbrev pub AreCursors : List (ℕ × DownloadKeyImpl) → FinMap wait_cmp Subject → Type 0
AreCursors cursors waits = (carrier : ℕ)
    → IfSome (cursor_in cursors carrier) (λ k. IsCursor waits carrier (queue_key_of k))

-- Holds if no cursor is after `latest`.
abbrev pub AreUpTo : List (ℕ × DownloadKeyImpl) → (latest : Download) → Type 0
AreUpTo cursors latest = (carrier : ℕ) → IfSome (cursor_in cursors carrier)
    (λ k. is_le (download_cmp (queue_key_of k) latest) ≡ true)

-- Holds if the downloads are all of this broadcast.
abbrev pub AreOf : Download → List (WaitKeyImpl × SubjectImpl) → Type 0
AreOf d [] = ⊤
AreOf d (e ∷ es) = (download_of (wait_key_of e.0) ≡ d) × AreOf d es

-- ---- a carrier's downloads

-- What a carrier is sent of a broadcast, with the broadcast's key.
pub record Sent : Type 0 where
  pub key : Download
  pub subject : Subject
  pub action : Action
  pub routing : Option Routing

abbrev pub sent_of : DownloadImpl → Sent
sent_of d = record {
  key = record { minute = d.minute.number; id = d.id; attempt = d.attempt };
  subject = subject_of d.subject;
  action = d.action;
  routing = option_map routing_of d.routing;
}

abbrev pub sent_from : DownloadKeyImpl → BroadcastRow → Sent
sent_from k b = record {
  key = queue_key_of k;
  subject = b.subject;
  action = b.action;
  routing = b.routing;
}

-- What the broadcast's row says of the download, if the row is there.
abbrev pub download_at : FinMap broadcast_cmp BroadcastRow → DownloadKeyImpl → Option Sent
download_at broadcasts k =
    option_map (sent_from k) (get broadcasts (broadcast_key k.id k.attempt))

-- The same, if the download is pending for the carrier.
abbrev pub pending_at : FinMap wait_cmp Subject → FinMap broadcast_cmp BroadcastRow → (carrier : ℕ)
    → DownloadKeyImpl → Option Sent
pending_at waits broadcasts carrier k =
    cond (is_some (get waits (wait_for (queue_key_of k) carrier))) (download_at broadcasts k) None

-- ---- subjects

-- The keys with the subject's key added, if there is a subject.
abbrev pub with_subject : Option Subject → FinMap nat_cmp (Unit {0}) → FinMap nat_cmp (Unit {0})
with_subject None m = m
with_subject (Some s) m = set m (subject_key s) (Some tt)

-- The keys with those of the subjects at these places added.
abbrev pub gathered : FinMap wait_cmp Subject → (carrier : ℕ) → List (DownloadKeyImpl × Unit {0})
    → FinMap nat_cmp (Unit {0}) → FinMap nat_cmp (Unit {0})
gathered waits carrier [] m = m
gathered waits carrier (e ∷ es) m =
    gathered waits carrier es (with_subject (get waits (wait_for (queue_key_of e.0) carrier)) m)

abbrev pub subjects_of : BTreeMap SubjectImpl (Unit {0}) → FinMap nat_cmp (Unit {0})
subjects_of m = map_of key_of (λ u. u) m
