-- Of the selected broadcasts, those that were not sent to a carrier are older than those that were.
-- The latest of the former has the carrier's starting row.
use Rattle.std.proofs.Common.{◌≡◌, ℕ, suc, Bool, true, false, cond, not, ◌&&◌, ◌||◌, List, [], ◌∷◌, ◌++◌, map, Option, None, refl, ap, sym, ◌∙◌, subst}
use Rattle.std.specs.Prelude.{filter, if◌then◌else◌}
use Rattle.std.specs.List.{AllByRecursion}
use Rattle.numbers.specs.Subjects.{Subject}
use Rattle.numbers.specs.Routings.{Routing}
use Rattle.model.specs.Commands.{RegisterCarrier}
use Rattle.model.specs.Windows.{Windows}
use Rattle.model.specs.Versions.{Broadcast, Version, Record, is_among, with_number, is_withdrawn, is_open_broadcast}
use Rattle.model.specs.Changes.{joined_broadcast, joined_by}
use Rattle.model.specs.Judge.{judge}
use Rattle.model.specs.History.{Request, CommandRequest, Entry, carriers, carrier_named, carrier_added, replay, present_set}
use Rattle.model.specs.State.{registers, starting_row, routing_in_force}
use Rattle.model.specs.Machine.{IsHistory}
use Rattle.numbers.proofs.Small.{true-false}
use Rattle.model.proofs.Entered.{record-carriers}
use Rattle.model.proofs.Recipients.{AllKnown, IsKnown}
use Rattle.model.proofs.Rising.{among-with_number}
use Rattle.model.proofs.Kept.{record_after, kept}
use Rattle.model.proofs.Copies.{Unsent, Closed, Placed, stands_for, place, own_of, own, placed}
use Rattle.model.proofs.Copies.Joining.{was_out, versions_joined, known_before_it}
use Rattle.model.proofs.Copies.Followed.{IsNext, next_in_order, next_held}
use Rattle.model.proofs.Copies.Steps.{changed_placed, minute_next}
use Rattle.model.proofs.Copies.Passing.{entry_next}
use Rattle.numbers.proofs.Small.{same_number}
use Rattle.model.proofs.Copies.LastWord.{Say, force_says}

-- ---- a carrier that registers becomes a recipient of what is open

module _ (c : ℕ) (cs : List ℕ) (out : is_among c cs ≡ false) where
  joined_own : (id : ℕ) (bs : List Broadcast) → AllKnown cs bs
      → own_of (Unsent c) id (map (joined_broadcast c) bs) ≡ own_of Closed id bs
  joined_own id [] known = refl
  joined_own id (b ∷ bs) known =
      ap (λ t. map (place (Unsent c) id) (cond (true && not t) (joined_broadcast c b ∷ rest) rest))
      (withdrawn (is_open_broadcast b)) ∙ by_cases (is_withdrawn b) (joined_own id bs known.1)
    where
      rest : List Broadcast
      rest = filter (stands_for (Unsent c)) (map (joined_broadcast c) bs)

      withdrawn : (t : Bool) → is_withdrawn (if t then record b {
        recipients =
            with_number c b.recipients;
      } else b) ≡ is_withdrawn b
      withdrawn true = refl
      withdrawn false = refl

      never : (x : Bool) → is_among c b.recipients ≡ x → x ≡ false
      never true e = true-false (is_among c cs) (known.0.recipients c e) out
      never false e = refl

      first : (t : Bool) → place (Unsent c) id (if t then record b {
        recipients =
            with_number c b.recipients;
      } else b)
          ≡ (let p : Placed = record {
            id = id;
            attempt = b.attempt;
            minute = b.minute;
            action = b.action;
            routing = b.routing;
            marked = not t;
          } in p)
      first true = ap (λ x. let p : Placed = record {
        id = id;
        attempt = b.attempt;
        minute = b.minute;
        action = b.action;
        routing = b.routing;
        marked = not x;
      } in p)
          (among-with_number c c b.recipients ∙ ap (λ x. x || is_among c b.recipients)
          (same_number c))
      first false = ap (λ x. let p : Placed = record {
        id = id;
        attempt = b.attempt;
        minute = b.minute;
        action = b.action;
        routing = b.routing;
        marked = not x;
      } in p) (never (is_among c b.recipients) refl)

      by_cases : (t : Bool) → map (place (Unsent c) id) rest ≡ own_of Closed id bs →
          map (place (Unsent c) id) (cond (true && not t) (joined_broadcast c b ∷ rest) rest)
          ≡ map (place Closed id) (cond (true && not t) (b ∷ filter (stands_for Closed) bs)
          (filter (stands_for Closed) bs))
      by_cases true later = later
      by_cases false later =
          ap (λ p. p ∷ map (place (Unsent c) id) rest) (first (is_open_broadcast b))
          ∙ ap (λ ps. place Closed id b ∷ ps) later

  joined_placed : (vs : List Version) → AllByRecursion (IsKnown cs) vs
      → placed (Unsent c) (map (joined_by c) vs) ≡ placed Closed vs
  joined_placed [] known = refl
  joined_placed (v ∷ vs) known =
      ap (λ ps. ps ++ placed (Unsent c) (map (joined_by c) vs))
      (joined_own v.id v.broadcasts known.0) ∙ ap (λ ps. own Closed v ++ ps)
      (joined_placed vs known.1)

-- A carrier that does not register now was registered before.
known_before : (c : ℕ) (request : Request) (cs : List ℕ) → registers c request ≡ false
    → is_among c (carrier_added (carrier_named request) cs) ≡ true → is_among c cs ≡ true
known_before c (CommandRequest (RegisterCarrier spid)) cs other is =
    ap (λ b. b || is_among c cs) (sym other) ∙ sym (among-with_number c spid cs) ∙ is
known_before c _ cs other is = is

-- ---- every record

module _ (w : Windows) (c : ℕ) (s : Subject) where
  -- Holds once the carrier is registered.
  abbrev pub SaysStart : List Entry → ℕ → Record → Type 0
  SaysStart h m r = is_among c (carriers h) ≡ true
      → Say (starting_row w c s h) (placed (Unsent c) r.versions)

  next_says : (m : ℕ) (routing : Option Routing) (ps qs : List Placed) → IsNext m ps qs
      → Say routing ps → Say routing qs
  next_says m routing ps qs next says = (
    next_in_order m ps qs next says.0,
    sym (next_held m None ps qs next) ∙ says.1,
  )

  lasts : (h : List Entry) (m : ℕ) → is_among c (carriers h) ≡ true
      → is_among c (replay w s h m).carriers ≡ true
  lasts h m known = ap (is_among c) (record-carriers w h s m) ∙ known

  after_minute : (h : List Entry) (m : ℕ) → IsHistory w h m → SaysStart h m (replay w s h m)
      → SaysStart h (suc m) (judge (present_set w h) (suc m) (replay w s h m))
  after_minute h m is says known =
      next_says (suc m) (starting_row w c s h) (placed (Unsent c) (replay w s h m).versions)
      (placed (Unsent c) (judge (present_set w h) (suc m) (replay w s h m)).versions)
      (minute_next (Unsent c) w s h m is (lasts h m known)) (says known)

  -- A registration of the carrier.
  joins : (h : List Entry) (e : Entry) → IsHistory w (e ∷ h) e.minute → registers c e.request ≡ true
      → placed (Unsent c) (record_after w s h e).versions ≡ placed Closed
      (replay w s h e.minute).versions
  joins h e is registered =
      ap (placed (Unsent c)) (versions_joined w c h e s registered)
      ∙ changed_placed (present_set w h) (Unsent c) e.minute (joined_by c)
      (replay w s h e.minute).versions
      ∙ joined_placed c (carriers h) (was_out w c h e is registered)
      (replay w s h e.minute).versions (known_before_it w s h e is)

  after_entry : (h : List Entry) (e : Entry) → IsHistory w (e ∷ h) e.minute
      → SaysStart h e.minute (replay w s h e.minute)
      → SaysStart (e ∷ h) e.minute (record_after w s h e)
  after_entry h e is says known = by_cases (registers c e.request) refl
    where
      by_cases : (b : Bool) → registers c e.request ≡ b → Say (if registers c e.request
          then routing_in_force (replay w s h e.minute) else starting_row w c s h)
          (placed (Unsent c) (record_after w s h e).versions)
      by_cases true f =
          subst (λ b. Say (if b then routing_in_force (replay w s h e.minute)
          else starting_row w c s h) (placed (Unsent c) (record_after w s h e).versions)) (sym f)
          (subst (Say (routing_in_force (replay w s h e.minute))) (sym (joins h e is f))
          (force_says w s h e.minute is.3))
      by_cases false f =
          let before : is_among c (carriers h) ≡ true =
          known_before c e.request (carriers h) f known in
          subst (λ b. Say (if b then routing_in_force (replay w s h e.minute)
          else starting_row w c s h) (placed (Unsent c) (record_after w s h e).versions)) (sym f)
          (next_says e.minute (starting_row w c s h)
          (placed (Unsent c) (replay w s h e.minute).versions)
          (placed (Unsent c) (record_after w s h e).versions)
          (entry_next (Unsent c) w s h e is (lasts h e.minute before) (ap not f)) (says before))

  pub says_start : (h : List Entry) (m : ℕ) → IsHistory w h m → SaysStart h m (replay w s h m)
  says_start = kept w s SaysStart (record {
    first = λ m known. cc;
    minute = after_minute;
    entry = after_entry;
  })
