-- What the machine's laws say of a record that was judged at some minutes since.
use Rattle.std.proofs.Common.{◌≡◌, ℕ, ◌==◌, [], ◌∷◌, List, Some, refl, sym, subst}
use Rattle.std.specs.List.{AllByRecursion}
use Rattle.numbers.specs.Subjects.{Subject}
use Rattle.model.specs.Windows.{Windows, WindowSet}
use Rattle.model.specs.Versions.{Version, Record, version_with}
use Rattle.model.specs.Judge.{judge}
use Rattle.model.specs.History.{replay, subjects_made}
use Rattle.model.specs.Content.{IsReachableRecord, judged_at}
use Rattle.model.proofs.Ids.{AreGiven}
use Rattle.model.proofs.Sound.{replay-sound, judge-given}
use Rattle.model.proofs.Attempts.{IsCounted, counted_kept}
use Rattle.model.proofs.Moves.{MovesKeep}
use Rattle.model.proofs.Lists.{found_has}
use Rattle.model.proofs.KeptVersions.{judge_kept, versions_kept}
use Rattle.model.proofs.Tended.{IsTended, tended_kept}
use Rattle.model.proofs.Recipients.{IsKnown, known_kept}
use Rattle.model.proofs.Rooms.{HasRoom, room_kept}
use Rattle.model.proofs.Begun.{HasBegun, begun_kept}

-- What judging one minute keeps, judging all of them keeps.
each_minute : (P : Record → Type 0) (w : WindowSet) → ((j : ℕ) (r : Record) → P r → P (judge w j r))
    → (minutes : List ℕ) (r : Record) → P r → P (judged_at w minutes r)
each_minute P w step [] r is = is
each_minute P w step (j ∷ js) r is = step j (judged_at w js r) (each_minute P w step js r is)

pub reached_as : (P : Record → Type 0) (w : Windows) (present : WindowSet) (s : Subject)
    (r : Record) (reached : IsReachableRecord w present s r)
    → ((j : ℕ) (x : Record) → P x → P (judge present j x))
    → P (replay w s reached.entries reached.until) → P r
reached_as P w present s r reached step is =
    subst P (sym reached.is) (each_minute P present step reached.minutes
    (replay w s reached.entries reached.until) is)

pub judge-carriers : (w : WindowSet) (j : ℕ) (r : Record) → (judge w j r).carriers ≡ r.carriers
unfolding judge
judge-carriers w j r = refl

module _ (w : Windows) (present : WindowSet) (s : Subject) (r : Record)
    (reached : IsReachableRecord w present s r) where
  -- Each id was given only once.
  pub reached_given : AreGiven (subjects_made w reached.entries) s r.versions
  reached_given =
      reached_as (λ (x : Record). AreGiven (subjects_made w reached.entries) s x.versions) w
      present s r reached
      (λ j x given. judge-given (subjects_made w reached.entries) s present j x given)
      (replay-sound w s reached.entries reached.until reached.are_entries).1

  -- Every version has what each move keeps.
  version_has : (P : List ℕ → Version → Type 0) → ((x : WindowSet) → MovesKeep x (λ m. P))
      → (id : ℕ) (v : Version) → version_with id r ≡ Some v → P r.carriers v
  version_has P keeps id v found =
      found_has (P r.carriers) (λ (u : Version). u.id == id) r.versions v
      (reached_as (λ (x : Record). AllByRecursion (P x.carriers) x.versions) w present s r reached
      (λ j x all. judge_kept (keeps present) j x all)
      (versions_kept keeps w s reached.entries reached.until reached.are_entries)) found

  -- The same of one version.
  pub version_tended : (id : ℕ) (v : Version) → version_with id r ≡ Some v → IsTended r.carriers v
  version_tended = version_has IsTended tended_kept

  pub version_counted : (id : ℕ) (v : Version) → version_with id r ≡ Some v → IsCounted v
  version_counted = version_has (λ cs v. IsCounted v) counted_kept

  pub version_known : (id : ℕ) (v : Version) → version_with id r ≡ Some v → IsKnown r.carriers v
  version_known = version_has IsKnown known_kept

  pub version_begun : (id : ℕ) (v : Version) → version_with id r ≡ Some v → HasBegun v
  version_begun = version_has (λ cs v. HasBegun v) begun_kept

  pub version_room : (id : ℕ) (v : Version) → version_with id r ≡ Some v → HasRoom v
  version_room = version_has (λ cs v. HasRoom v) room_kept
