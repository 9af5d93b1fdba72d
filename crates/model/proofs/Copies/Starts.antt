-- A carrier that registers has acknowledged nothing yet.
use Rattle.std.proofs.Common.{◌≡◌, ℕ, Bool, true, false, List, ◌∷◌, map, refl, sym, ◌∙◌, subst}
use Rattle.std.specs.Prelude.{if◌then◌else◌}
use Rattle.std.specs.List.{AllByRecursion}
use Rattle.numbers.specs.Subjects.{Subject}
use Rattle.model.specs.Windows.{Windows, WindowSet}
use Rattle.model.specs.Versions.{Broadcast, Version, is_among, with_number, is_open_broadcast}
use Rattle.model.specs.Changes.{joined_broadcast, joined_by, changed_at}
use Rattle.model.specs.History.{Entry, carriers, replay, present_set}
use Rattle.model.specs.State.{registers}
use Rattle.model.specs.Machine.{IsHistory}
use Rattle.numbers.proofs.Small.{true-false}
use Rattle.model.proofs.Lists.{each, each_mapped}
use Rattle.model.proofs.Recipients.{AreKnown, IsKnown}
use Rattle.model.proofs.Kept.{record_after}
use Rattle.model.proofs.Copies.{Carrier, stands_for, placed, NoneMarked, each_placed}
use Rattle.model.proofs.Copies.Joining.{was_out, versions_joined, known_before_it}
use Rattle.model.proofs.Copies.Steps.{changed_placed}

-- A carrier that is not registered has acknowledged nothing.
module _ (w : WindowSet) (c : ℕ) (cs : List ℕ) (out : is_among c cs ≡ false) where
  joined_none : (b : Broadcast) → AreKnown cs b → is_among c (joined_broadcast c b).acknowledged
      ≡ false
  joined_none b known = same (is_open_broadcast b) ∙ never (is_among c b.acknowledged) refl
    where
      never : (x : Bool) → is_among c b.acknowledged ≡ x → x ≡ false
      never true e = true-false (is_among c cs) (known.acknowledged c e) out
      never false e = refl

      same : (t : Bool) → is_among c (if t then record b { recipients = with_number c b.recipients }
          else b).acknowledged ≡ is_among c b.acknowledged
      same true = refl
      same false = refl

  joined_all : (minute : ℕ) (vs : List Version) → AllByRecursion (IsKnown cs) vs
      → NoneMarked (placed (Carrier c) (changed_at w minute (joined_by c) vs))
  joined_all minute vs known =
      subst NoneMarked (sym (changed_placed w (Carrier c) minute (joined_by c) vs))
      (each_placed (Carrier c) (λ p. p.marked ≡ false) (map (joined_by c) vs)
      (each_mapped (joined_by c) (λ (v : Version). AllByRecursion (λ b. stands_for (Carrier c) b
      ≡ true → is_among c b.acknowledged ≡ false) v.broadcasts) vs
      (each (λ v all. each_mapped (joined_broadcast c) (λ b. stands_for (Carrier c) b ≡ true
      → is_among c b.acknowledged ≡ false) v.broadcasts (each (λ b is stands. joined_none b is)
      v.broadcasts all)) vs known)))

-- A registration of the carrier marks nothing.
pub starts_none : (w : Windows) (c : ℕ) (s : Subject) (h : List Entry) (e : Entry)
    → IsHistory w (e ∷ h) e.minute → registers c e.request ≡ true
    → NoneMarked (placed (Carrier c) (record_after w s h e).versions)
starts_none w c s h e is registered =
    subst (λ vs. NoneMarked (placed (Carrier c) vs)) (sym (versions_joined w c h e s registered))
    (joined_all (present_set w h) c (carriers h) (was_out w c h e is registered) e.minute
    (replay w s h e.minute).versions (known_before_it w s h e is))
