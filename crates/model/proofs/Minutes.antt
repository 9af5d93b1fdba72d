-- Judging minutes composes, and does nothing if no timer has expired.
use Rattle.std.proofs.Common.{◌≡◌, ℕ, zero, suc, ◌+◌, ◌-◌, ◌≤◌, Bool, true, false, cond, not, ◌&&◌, List, [], ◌∷◌, map, refl, ap, sym, ◌∙◌, arith, add-suc, add_assoc, is_some}
use Rattle.std.specs.Prelude.{nat_le}
use Rattle.std.proofs.lemmas.Bool.Decides.{nat_tests}
use Rattle.std.specs.List.{AllByRecursion}
use Rattle.model.specs.Statuses.{Status, Pending, Conflict, CancelPending, Sending, DisconnectPending}
use Rattle.model.specs.Windows.{has_age, WindowSet}
use Rattle.model.specs.Versions.{Version, Record, in_force}
use Rattle.model.specs.Changes.{changed_at, retired}
use Rattle.model.specs.Laws.{IsQuiet}
use Rattle.model.specs.Judge.{is_expired, retained_from, judged_version, judge, judged_for, judged}
use Rattle.numbers.proofs.Small.{no_takeover}

-- ---- changes that change nothing

pub retired-never : (w : WindowSet) (minute : ℕ) (vs : List Version)
    → map (retired w false minute) vs ≡ vs
retired-never w minute [] = refl
retired-never w minute (v ∷ vs) = ap (λ us. v ∷ us) (retired-never w minute vs)

-- Holds if a change leaves each version as it is.
abbrev pub LeavesEach : (Version → Version) → List Version → Type 0
LeavesEach change vs = AllByRecursion (λ v. change v ≡ v) vs

pub changed_at-same : (w : WindowSet) (minute : ℕ) (change : Version → Version) (vs : List Version)
    → LeavesEach change vs → changed_at w minute change vs ≡ vs
changed_at-same w minute change [] same = refl
changed_at-same w minute change (v ∷ vs) same =
    ap (λ u. u ∷ map (retired w (not (in_force v) && in_force u) minute)
    (changed_at w minute change vs)) same.0
    ∙ ap (λ b. v ∷ map (retired w b minute) (changed_at w minute change vs))
    (no_takeover (in_force v))
    ∙ ap (λ us. v ∷ us) (retired-never w minute (changed_at w minute change vs)
    ∙ changed_at-same w minute change vs same.1)

-- ---- minutes compose

pub judged_for-add : (w : WindowSet) (from m n : ℕ) (r : Record)
    → judged_for w (from + m) n (judged_for w from m r) ≡ judged_for w from (m + n) r
unfolding judged_for
judged_for-add w from m zero r = ap (λ k. judged_for w from k r) (omega arith)
judged_for-add w from m (suc n) r =
    ap (λ k. judge w (suc k) (judged_for w (from + m) n (judged_for w from m r)))
    (add_assoc from m n)
    ∙ ap (judge w (suc (from + (m + n)))) (judged_for-add w from m n r)
    ∙ sym (ap (λ k. judged_for w from k r) (add-suc m n))

-- Judging up to b and then up to c is judging up to c.
pub judged-trans : (w : WindowSet) (a b c : ℕ) (r : Record) → a ≤ b → b ≤ c
    → judged w b c (judged w a b r) ≡ judged w a c r
judged-trans w a b c r ab bc =
    ap (λ k. judged_for w k (c - b) (judged_for w a (b - a) r)) (let e : b ≡ a + (b - a) =
    omega arith in e)
    ∙ judged_for-add w a (b - a) (c - b) r
    ∙ ap (λ k. judged_for w a k r) (omega arith)

-- ---- no timer has expired

leaves_each_quiet : (w : WindowSet) (all_carriers : List ℕ) (j : ℕ) (vs : List Version)
    → IsQuiet j vs
    → LeavesEach (judged_version w all_carriers j) vs
unfolding judged_version
leaves_each_quiet w all_carriers j [] quiet = tt
leaves_each_quiet w all_carriers j (v ∷ vs) quiet =
    (rw quiet.0, leaves_each_quiet w all_carriers j vs quiet.1)

-- Judging a quiet minute does nothing.
pub judge-quiet : (w : WindowSet) (j : ℕ) (r : Record) → IsQuiet j r.versions → judge w j r ≡ r
unfolding judge
judge-quiet w j r quiet =
    ap (λ vs. record r { versions = vs }) (changed_at-same w j (judged_version w r.carriers j)
    r.versions (leaves_each_quiet w r.carriers j r.versions quiet))

-- An age that is not reached was not reached earlier.
has_age-before : (window since i j : ℕ) → i ≤ j → has_age window since j ≡ false
    → has_age window since i ≡ false
has_age-before window since i j before young = grind (arith, nat_tests)

not_come-before : (m i j : ℕ) → i ≤ j → nat_le m j ≡ false → nat_le m i ≡ false
not_come-before m i j before young = grind (arith, nat_tests)

both-before : (b c d : Bool) → (c ≡ false → d ≡ false) → (b && c) ≡ false → (b && d) ≡ false
both-before true c d step none = step none
both-before false c d step none = refl

either-before : (b c d e f : Bool) → (c ≡ false → d ≡ false) → (e ≡ false → f ≡ false)
    → cond b c e ≡ false → cond b d f ≡ false
either-before true c d e f first second none = first none
either-before false c d e f first second none = second none

pub is_expired-before : (i j : ℕ) (v : Version) (status : Status) → i ≤ j
    → is_expired j v status ≡ false
    → is_expired i v status ≡ false
is_expired-before i j v Pending before young =
    either-before (is_some v.new_at) (has_age v.held.windows.pending_retention
    (retained_from v.due v.since v.new_at) j) (has_age v.held.windows.pending_retention
    (retained_from v.due v.since v.new_at) i)
    (is_some v.old_at && has_age (v.held.windows.initial_concurrence
    + v.held.windows.final_concurrence) v.since j)
    (is_some v.old_at && has_age (v.held.windows.initial_concurrence
    + v.held.windows.final_concurrence) v.since i)
    (has_age-before v.held.windows.pending_retention (retained_from v.due v.since v.new_at) i j
    before)
    (both-before (is_some v.old_at) _ _
    (has_age-before (v.held.windows.initial_concurrence + v.held.windows.final_concurrence) v.since
    i j before))
    young
is_expired-before i j v Conflict before young =
    has_age-before v.held.windows.conflict_expiration v.since i j before young
is_expired-before i j v (CancelPending by) before young =
    has_age-before (v.held.windows.cancellation_initial + v.held.windows.cancellation_final) v.since
    i j before young
is_expired-before i j v (Sending action) before young =
    has_age-before v.held.windows.broadcast v.since i j before young
is_expired-before i j v (DisconnectPending release) before young =
    not_come-before release i j before young
is_expired-before i j v _ before young = refl

pub IsQuiet-before : (i j : ℕ) (vs : List Version) → i ≤ j → IsQuiet j vs → IsQuiet i vs
IsQuiet-before i j [] before quiet = tt
IsQuiet-before i j (v ∷ vs) before quiet = (
  is_expired-before i j v v.status before quiet.0,
  IsQuiet-before i j vs before quiet.1,
)

-- If no timer has expired at the last minute, the minutes up to it do nothing.
pub judged_for-quiet : (w : WindowSet) (from n : ℕ) (r : Record) → IsQuiet (from + n) r.versions
    → judged_for w from n r ≡ r
unfolding judged_for
judged_for-quiet w from zero r quiet = refl
judged_for-quiet w from (suc n) r quiet =
    ap (judge w (suc (from + n)))
    (judged_for-quiet w from n r (IsQuiet-before (from + n) (from + suc n) r.versions (omega arith)
    quiet))
    ∙ judge-quiet w (suc (from + n)) r (rw (sym (add-suc from n)) quiet)

pub judged-quiet : (w : WindowSet) (a b : ℕ) (r : Record) → a ≤ b → IsQuiet b r.versions
    → judged w a b r ≡ r
judged-quiet w a b r before quiet = judged_for-quiet w a (b - a) r (let e : a + (b - a) ≡ b =
    omega arith in rw e quiet)

-- Judging up to a minute with no expired timer before it is judging only that minute.
pub judged-at_end : (w : WindowSet) (a b : ℕ) (r : Record) → a ≤ b → IsQuiet b r.versions
    → judged w a (suc b) r ≡ judge w (suc b) r
unfolding judged_for
judged-at_end w a b r before quiet =
    ap (λ k. judged_for w a k r) (let e : suc b - a ≡ suc (b - a) = omega arith in e)
    ∙ ap (λ k. judge w (suc k) (judged w a b r)) (let e : a + (b - a) ≡ b = omega arith in e)
    ∙ ap (judge w (suc b)) (judged-quiet w a b r before quiet)
