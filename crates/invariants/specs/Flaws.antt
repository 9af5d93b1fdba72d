-- Which flaws the rows have.
use Rattle.std.specs.Prelude.{◌≡◌, ◌⊎◌, ◌<◌, ◌≤◌, ℕ, Option, Some, None}
use Rattle.std.specs.FinMap.{get}
use Rattle.numbers.specs.Subjects.{Subject}
use Rattle.model.specs.Content.{ClockRow, Content, VersionRow}
use Rattle.settle.specs.Abstraction.{spid_of}
use Rattle.settle.specs.Reads.{IsWaiting}
use Rattle.invariants.specs.Sound.{AreRowsSound, HasBroadcast, HasDeadline, HasIn, HasRow, HasSending, HasSet, HoldsByStatus, IsGiven, IsUnderBlock, OpensByStatus, holds_in, opens_in}
use Rattle.invariants.specs.declared.flaw.Flaw.{Flaw}
use Rattle.invariants.specs.declared.flaw.Flaw.TheVariants as flaw

-- Holds if both rows have one subject in the column.
abbrev pub HaveBoth : (VersionRow → Option Subject) → Content → (id other : ℕ) → Type 0
HaveBoth column c id other = (other < id) × (s : Subject) × HasIn column c id s
    × HasIn column c other s

-- Holds if the rows have this flaw.
abbrev pub HasFlaw : Content → ClockRow → Flaw → Type 0
HasFlaw c clock (flaw.Gap id) = IsGiven clock id × (get c.versions id ≡ None)
HasFlaw c clock (flaw.Stranger id) = ((id ≡ 0) ⊎ (id ≡ clock.next_id))
    × (¬ (get c.versions id ≡ None))
HasFlaw c clock (flaw.Set id) = HasRow c id (λ row. ¬ HasSet c row)
HasFlaw c clock (flaw.Since id) = HasRow c id (λ row. ¬ (row.since ≤ clock.minute))
HasFlaw c clock (flaw.Deadline id) = HasRow c id (λ row. ¬ HasDeadline c row)
HasFlaw c clock (flaw.Holds id) = HasRow c id (λ row. ¬ HoldsByStatus row)
HasFlaw c clock (flaw.Opens id) = HasRow c id (λ row. ¬ OpensByStatus row)
HasFlaw c clock (flaw.Sending id) = HasRow c id (λ row. ¬ HasSending c id row)
HasFlaw c clock (flaw.Block id) = HasRow c id (λ row. ¬ IsUnderBlock c id row)
HasFlaw c clock (flaw.InForce id other) = HaveBoth holds_in c id other
HasFlaw c clock (flaw.Open id other) = HaveBoth opens_in c id other
HasFlaw c clock (flaw.Download spid id attempt) = (minute : ℕ) × (s : Subject)
    × IsWaiting c (spid_of spid) s minute id attempt × (¬ HasBroadcast c s minute id attempt)

-- Holds if no flaw is found and the property holds, or the rows have the flaw that is found.
abbrev pub Judges : Content → ClockRow → Type 0 → Option Flaw → Type 0
Judges c clock Sound None = Sound
Judges c clock Sound (Some found) = HasFlaw c clock found

-- Holds if no flaw is found and the rows keep the invariants, or the rows have the flaw that is
-- found.
abbrev pub JudgesRows : Content → Option Flaw → Type 0
JudgesRows c None = AreRowsSound c
JudgesRows c (Some found) = (clock : ClockRow) × (c.clock ≡ Some clock) × HasFlaw c clock found
