-- Downloads pending for a carrier, one at a time.
use Rattle.std.proofs.Common.{◌≡◌, ◌<◌, ℕ, List, length, get_or, subst, sym}
use Rattle.std.specs.Prelude.{All}
use Rattle.std.proofs.lemmas.List.Elements.{All-contains, All-get_or}
use Rattle.numbers.specs.Abstraction.{subject_of}
use Rattle.numbers.specs.Subjects.{Subject}
use Rattle.numbers.specs.declared.ported.Subject.{Subject as SubjectImpl}
use Rattle.numbers.specs.declared.spid.Spid.{Spid}
use Rattle.delivery.specs.declared.download.DownloadKey.{DownloadKey}
use Rattle.model.specs.Content.{Content}
use Rattle.settle.specs.Abstraction.{spid_of}
use Rattle.settle.specs.Reads.{AreWaitingSubjects, AreWaitsAbout, IsWaiting}
use Rattle.invariants.specs.Sound.{HasBroadcast, HaveBroadcastsAbout, HaveBroadcastsFor}

-- Holds if a download about the subject has its broadcast.
abbrev pub HasSent : Content → Subject → DownloadKey → Type 0
HasSent c s d = HasBroadcast c s d.minute.number d.id d.attempt

-- Holds if all downloads about the subject, for the carrier, have theirs.
abbrev pub HaveSentAbout : Content → (carrier : ℕ) → SubjectImpl → Type 0
HaveSentAbout c carrier x = HaveBroadcastsAbout c carrier (subject_of x)

abbrev pub HaveSentFor : Content → Spid → Type 0
HaveSentFor c x = HaveBroadcastsFor c (spid_of x)

-- All downloads of the list have their broadcasts.
pub all_sent : (c : Content) (carrier : ℕ) (s : Subject) (downloads : List DownloadKey)
    → AreWaitsAbout c carrier s downloads → All (HasSent c s) downloads
    → HaveBroadcastsAbout c carrier s
all_sent c carrier s downloads are all = λ minute id attempt waiting.
    let d = are.each minute id attempt waiting in
    let has = All-contains (HasSent c s) downloads d.0 all d.1 in
    subst (λ k. HasBroadcast c s minute id k) d.4
    (subst (λ k. HasBroadcast c s minute k d.0.attempt) d.3
    (subst (λ k. HasBroadcast c s k d.0.id d.0.attempt) d.2 has))

-- One of the list has not.
pub not_sent : (c : Content) (spid : Spid) (s : Subject) (downloads : List DownloadKey) (i : ℕ)
    (d : DownloadKey) → AreWaitsAbout c (spid_of spid) s downloads → i < length downloads
    → d ≡ get_or downloads i d → (HasSent c s d → ⊥)
    → (minute : ℕ) × (t : Subject) × IsWaiting c (spid_of spid) t minute d.id d.attempt
    × (¬ HasBroadcast c t minute d.id d.attempt)
not_sent c spid s downloads i d are inside is lacks =
    let Waits : DownloadKey → Type 0 = λ e.
    IsWaiting c (spid_of spid) s e.minute.number e.id e.attempt in
    let waits : Waits (get_or downloads i d) = All-get_or Waits downloads i d inside are.only in
    (d.minute.number, s, subst Waits (sym is) waits, lacks)

-- All subjects of the list have only downloads with their broadcasts.
pub all_about : (c : Content) (carrier : ℕ) (subjects : List SubjectImpl)
    → AreWaitingSubjects c carrier subjects
    → All (HaveSentAbout c carrier) subjects → HaveBroadcastsFor c carrier
all_about c carrier subjects are all = λ s minute id attempt waiting.
    let x = are.each s (minute, id, attempt, waiting) in
    let has = All-contains (HaveSentAbout c carrier) subjects x.0 all x.1 in
    subst (λ t. HasBroadcast c t minute id attempt) x.2
    (has minute id attempt (subst (λ t. IsWaiting c carrier t minute id attempt) (sym x.2)
    waiting))
