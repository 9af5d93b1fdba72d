-- If no download about a subject is pending for a carrier, its copy of the subject is what was last
-- published to it.
use Rattle.std.proofs.Common.{◌≡◌, ℕ, suc, ◌≤◌, Bool, true, false, ◌&&◌, List, [], ◌∷◌, ◌++◌, map, Some, None, refl, ap, sym, ◌∙◌, subst, arith}
use Rattle.std.specs.Prelude.{◌==◌, flat_map, if◌then◌else◌}
use Rattle.numbers.specs.Subjects.{Subject}
use Rattle.model.specs.Windows.{Windows}
use Rattle.model.specs.Judge.{judge}
use Rattle.model.specs.History.{Request, CommandRequest, AcknowledgementRequest, Entry, effect, replay, present_set}
use Rattle.model.specs.State.{SubjectVersion, Download, registers, downloads_of, downloads_acknowledged, first_of}
use Rattle.model.specs.Machine.{IsHistory}
use Rattle.model.specs.Laws.{CopyIsPublished}
use Rattle.numbers.proofs.Small.{true-false, denied, equal_number, negated}
use Rattle.model.proofs.Kept.{record_after, kept}
use Rattle.model.proofs.Copies.{Carrier, Nobody, placed, AreInOrder}
use Rattle.model.proofs.Copies.Published.{all_answered, held_is_published}
use Rattle.model.proofs.Copies.Followed.{IsNext, IsMarkedNow, FollowsCopies, acknowledged_now, followed}
use Rattle.model.proofs.Copies.Steps.{minute_next}
use Rattle.model.proofs.Copies.Starts.{starts_none}
use Rattle.model.proofs.Copies.Order.{MinutesFall, next_fall, placed_up, placed_lower, fall_for, in_order}
use Rattle.model.proofs.Copies.Passing.{is_others, entry_next}
use Rattle.model.proofs.Copies.Answering.{elsewhere_next, here_answers}

-- ---- the order

module _ (w : Windows) (s : Subject) where
  fall_minute : (h : List Entry) (m : ℕ) → IsHistory w h m
      → MinutesFall (placed Nobody (replay w s h m).versions)
      → MinutesFall (placed Nobody (judge (present_set w h) (suc m) (replay w s h m)).versions)
  fall_minute h m is fall =
      next_fall (suc m) (placed Nobody (replay w s h m).versions)
      (placed Nobody (judge (present_set w h) (suc m) (replay w s h m)).versions)
      (minute_next Nobody w s h m is tt)
      (placed_up Nobody w s h m (suc m) is (omega arith)) fall

  fall_entry : (h : List Entry) (e : Entry) → IsHistory w (e ∷ h) e.minute
      → MinutesFall (placed Nobody (replay w s h e.minute).versions)
      → MinutesFall (placed Nobody (record_after w s h e).versions)
  fall_entry h e is fall = next_fall e.minute (placed Nobody (replay w s h e.minute).versions)
      (placed Nobody (record_after w s h e).versions) (entry_next Nobody w s h e is tt refl)
      (placed_up Nobody w s h e.minute e.minute is.3 (let same : e.minute ≤ e.minute =
      omega arith in same)) fall

  minutes_fall : (h : List Entry) (m : ℕ) → IsHistory w h m
      → MinutesFall (placed Nobody (replay w s h m).versions)
  minutes_fall = kept w s (λ h m r. MinutesFall (placed Nobody r.versions)) (record {
    first = λ m. tt;
    minute = fall_minute;
    entry = fall_entry;
  })

  pub ordered : (c : ℕ) (h : List Entry) (m : ℕ) → IsHistory w h m
      → AreInOrder s (placed (Carrier c) (replay w s h m).versions)
  ordered c h m is =
      in_order s (placed (Carrier c) (replay w s h m).versions)
      (fall_for c (replay w s h m).versions (minutes_fall h m is)) (placed_lower (Carrier c) w h m
      is s)

-- ---- an entry

none_of : (f : SubjectVersion → List Download) → ((e : SubjectVersion) → f e ≡ [])
    → (es : List SubjectVersion) → first_of (flat_map f es) ≡ None
none_of f none [] = refl
none_of f none (e ∷ es) = ap (λ ds. first_of (ds ++ flat_map f es)) (none e) ∙ none_of f none es

-- Another's request acknowledges nothing for the carrier.
pub others_none : (c caller : ℕ) (request : Request) (es : List SubjectVersion)
    → is_others (Carrier c) caller request ≡ true
    → first_of (flat_map (downloads_acknowledged c caller request) es) ≡ None
others_none c caller (CommandRequest command) es other =
    none_of (downloads_acknowledged c caller (CommandRequest command)) (λ e. refl) es
others_none c caller (AcknowledgementRequest id attempt) es other =
    none_of (downloads_acknowledged c caller (AcknowledgementRequest id attempt))
    (λ e. ap (λ t. if t && (e.version.id == id) then downloads_of (λ b. b.attempt == attempt) e
    else []) (negated (caller == c) other)) es

-- A request that is not another's and not a registration is the carrier's acknowledgement.
pub its_own : (c caller : ℕ) (request : Request) → registers c request ≡ false
    → is_others (Carrier c) caller request ≡ false → (id : ℕ) × (attempt : ℕ)
    × (request ≡ AcknowledgementRequest id attempt) × (caller ≡ c)
its_own c caller (CommandRequest command) unregistered own =
    true-false (registers c (CommandRequest command)) (denied (registers c (CommandRequest command))
    own)
    unregistered
its_own c caller (AcknowledgementRequest id attempt) unregistered own =
    (id, attempt, refl, equal_number caller c (denied (caller == c) own))

module _ (w : Windows) (c : ℕ) (s : Subject) (h : List Entry) where
  abbrev acknowledging : (m id attempt : ℕ) → Entry
  acknowledging m id attempt = record {
    minute = m;
    caller = c;
    request = AcknowledgementRequest id attempt;
  }

  abbrev Passes : Entry → Type 0
  Passes e = IsHistory w (e ∷ h) e.minute → acknowledged_now w c s h e ≡ None
      → IsNext e.minute (placed (Carrier c) (replay w s h e.minute).versions)
      (placed (Carrier c) (record_after w s h e).versions)

  abbrev Answers : Download → Entry → Type 0
  Answers d e = IsHistory w (e ∷ h) e.minute → acknowledged_now w c s h e ≡ Some d
      → IsMarkedNow d.routing (placed (Carrier c) (replay w s h e.minute).versions)
      (placed (Carrier c) (record_after w s h e).versions)

  own_passes : (m id attempt : ℕ) → Passes (acknowledging m id attempt)
  unfolding effect
  own_passes m id attempt is none =
      elsewhere_next (record { windows = w; history = h; now = m }) is.3 s c id attempt is.2 none

  own_answers : (d : Download) (m id attempt : ℕ) → Answers d (acknowledging m id attempt)
  unfolding effect
  own_answers d m id attempt is some =
      here_answers (record { windows = w; history = h; now = m }) is.3 s c id attempt is.2 d some
      (ordered w s c h m is.3) (placed_lower (Carrier c) w h m is.3 s)

  -- A property of such an entry.
  of_own : (P : Entry → Type 0) → ((m id attempt : ℕ) → P (acknowledging m id attempt))
      → (e : Entry) → registers c e.request ≡ false → is_others (Carrier c) e.caller e.request
      ≡ false → P e
  of_own P each e unregistered own =
      let its = its_own c e.caller e.request unregistered own in
      subst P (ap (λ k. let x : Entry = record {
        minute = e.minute;
        caller = k;
        request = AcknowledgementRequest its.0 its.1;
      } in x) (sym its.3) ∙ ap (λ q. let x : Entry = record {
        minute = e.minute;
        caller = e.caller;
        request = q;
      } in x) (sym its.2))
      (each e.minute its.0 its.1)

  passes : (e : Entry) → registers c e.request ≡ false → Passes e
  passes e unregistered = by_cases (is_others (Carrier c) e.caller e.request) refl
    where
      by_cases : (b : Bool) → is_others (Carrier c) e.caller e.request ≡ b → Passes e
      by_cases true other = λ is none. entry_next (Carrier c) w s h e is tt other
      by_cases false own = of_own Passes own_passes e unregistered own

  answers : (d : Download) (e : Entry) → registers c e.request ≡ false → Answers d e
  answers d e unregistered = by_cases (is_others (Carrier c) e.caller e.request) refl
    where
      by_cases : (b : Bool) → is_others (Carrier c) e.caller e.request ≡ b → Answers d e
      by_cases true other = λ is some. let both : None ≡ Some d =
          sym (others_none c e.caller e.request (map (λ v. let x : SubjectVersion =
          record { subject = s; version = v } in x) (replay w s h e.minute).versions) other)
          ∙ some in cc
      by_cases false own = of_own (Answers d) (own_answers d) e unregistered own

-- ---- the law

pub follows : (w : Windows) (c : ℕ) (s : Subject) → FollowsCopies w c s
follows w c s = record {
  minute = λ h m is. minute_next (Carrier c) w s h m is tt;
  starts = starts_none w c s;
  passes = λ h e is unregistered none. passes w c s h e unregistered is none;
  answers = λ h e d is unregistered some. answers w c s h d e unregistered is some;
}

-- This holds in every reachable state.
pub copy_is_published : CopyIsPublished
copy_is_published st is c s carrier idle =
    (followed st.windows c s (follows st.windows c s) st.history st.now is.history).copy
    ∙ held_is_published st c s (ordered st.windows s c st.history st.now is.history)
    (all_answered st is.history c s idle)
