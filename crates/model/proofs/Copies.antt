-- What a carrier's copy of a subject is, broadcast by broadcast.
pub mod Queue
pub mod Published
pub mod Followed
pub mod Dated
pub mod Served
pub mod Reaching
pub mod Steps
pub mod Joining
pub mod Starts
pub mod Order
pub mod Passing
pub mod Answering
pub mod Law
pub mod Told
pub mod Ended
pub mod LastWord
pub mod Registered
pub mod InForce
pub mod Handed
use Rattle.std.proofs.Common.{◌≡◌, ℕ, Bool, true, false, cond, not, ◌&&◌, List, [], ◌∷◌, ◌++◌, map, Option, Some, None, refl}
use Rattle.std.specs.Prelude.{⊤, filter, flat_map, if◌then◌else◌}
use Rattle.std.specs.List.{AllByRecursion}
use Rattle.numbers.specs.Subjects.{Subject}
use Rattle.numbers.specs.Routings.{Routing}
use Rattle.model.specs.declared.words.Action.{Action}
use Rattle.model.specs.Versions.{Broadcast, Version, is_among, is_withdrawn, is_open_broadcast}
use Rattle.model.specs.State.{Download, is_before}

-- ---- how broadcasts are looked at

-- A way to look at broadcasts: it selects some, and marks some of those. `Carrier` selects those
-- sent to a carrier and marks what it acknowledged. The others select all: `Nobody` marks none,
-- `Unsent` what was not sent to a carrier, `Closed` what is closed.
pub data Look : Type 0 where
  Carrier : (c : ℕ) → Look
  Nobody : Look
  Unsent : (c : ℕ) → Look
  Closed : Look

abbrev pub wants : Look → List ℕ → Bool
wants (Carrier c) recipients = is_among c recipients
wants _ recipients = true

abbrev pub is_marked : Look → Broadcast → Bool
is_marked (Carrier c) b = is_among c b.acknowledged
is_marked Nobody b = false
is_marked (Unsent c) b = not (is_among c b.recipients)
is_marked Closed b = not (is_open_broadcast b)

-- Whether the look selects the broadcast: it wants its recipients, and the broadcast is not
-- withdrawn.
abbrev pub stands_for : Look → Broadcast → Bool
stands_for o b = wants o b.recipients && not (is_withdrawn b)

-- ---- the selected broadcasts

-- What matters of a selected broadcast: its download, and whether it is marked.
pub record Placed : Type 0 where
  pub id : ℕ
  pub attempt : ℕ
  pub minute : ℕ
  pub action : Action
  pub routing : Option Routing
  pub marked : Bool

abbrev pub place : Look → ℕ → Broadcast → Placed
place o id b = record {
  id = id;
  attempt = b.attempt;
  minute = b.minute;
  action = b.action;
  routing = b.routing;
  marked = is_marked o b;
}

-- The selected broadcasts of one version, newest first.
abbrev pub own_of : Look → ℕ → List Broadcast → List Placed
own_of o id bs = map (place o id) (filter (stands_for o) bs)

abbrev pub own : Look → Version → List Placed
own o v = own_of o v.id v.broadcasts

-- The selected broadcasts of all versions, those of the newest version first.
abbrev pub placed : Look → List Version → List Placed
placed o vs = flat_map (own o) vs

abbrev pub download_of : Subject → Placed → Download
download_of s p = record {
  id = p.id;
  attempt = p.attempt;
  minute = p.minute;
  subject = s;
  action = p.action;
  routing = p.routing;
}

-- ---- properties of these lists

-- Holds if the list is in the order of the downloads, the latest first.
abbrev pub AreInOrder : Subject → List Placed → Type 0
AreInOrder s [] = ⊤
AreInOrder s (p ∷ ps) =
    AllByRecursion (λ (q : Placed). is_before (download_of s q) (download_of s p) ≡ true) ps
    × AreInOrder s ps

abbrev pub AllMarked : List Placed → Type 0
AllMarked ps = AllByRecursion (λ (p : Placed). p.marked ≡ true) ps

abbrev pub NoneMarked : List Placed → Type 0
NoneMarked ps = AllByRecursion (λ (p : Placed). p.marked ≡ false) ps

-- Holds if every one older than a marked one is marked.
abbrev pub AreMarkedInOrder : List Placed → Type 0
AreMarkedInOrder [] = ⊤
AreMarkedInOrder (p ∷ ps) = (p.marked ≡ true → AllMarked ps) × AreMarkedInOrder ps

-- The routing of the latest marked one, or else the starting row.
abbrev pub held : Option Routing → List Placed → Option Routing
held row [] = row
held row (p ∷ ps) = if p.marked then p.routing else held row ps

-- ---- properties of each selected broadcast

pub all_append : {A : Type 0} (P : A → Type 0) (xs ys : List A) → AllByRecursion P xs
    → AllByRecursion P ys → AllByRecursion P (xs ++ ys)
all_append P [] ys all more = more
all_append P (x ∷ xs) ys all more = (all.0, all_append P xs ys all.1 more)

-- A property of each selected broadcast of a version holds along its list.
pub each_own : (o : Look) (P : Placed → Type 0) (id : ℕ) (bs : List Broadcast)
    → AllByRecursion (λ b. stands_for o b ≡ true → P (place o id b)) bs
    → AllByRecursion P (own_of o id bs)
each_own o P id [] each = tt
each_own o P id (b ∷ bs) each = by_cases (stands_for o b) each.0 (each_own o P id bs each.1)
  where
    by_cases : (t : Bool) → (t ≡ true → P (place o id b)) → AllByRecursion P (own_of o id bs)
        → AllByRecursion P
        (map (place o id) (cond t (b ∷ filter (stands_for o) bs) (filter (stands_for o) bs)))
    by_cases true here later = (here refl, later)
    by_cases false here later = later

pub each_placed : (o : Look) (P : Placed → Type 0) (vs : List Version)
    → AllByRecursion (λ (v : Version). AllByRecursion (λ b. stands_for o b ≡ true
    → P (place o v.id b)) v.broadcasts) vs →
    AllByRecursion P (placed o vs)
each_placed o P [] each = tt
each_placed o P (v ∷ vs) each =
    all_append P (own o v) (placed o vs) (each_own o P v.id v.broadcasts each.0)
    (each_placed o P vs each.1)
