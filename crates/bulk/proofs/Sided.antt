-- The sides of each subject, as rows are added.
use Rattle.std.proofs.Common.{◌≡◌, ℕ, ◌+◌, ◌<◌, Bool, true, false, List, [], ◌∷◌, length, drop, get_or, map, Option, Some, None, option_map, is_some, refl, ap, sym, ◌∙◌, subst}
use Rattle.std.specs.Prelude.{fold, unwrap_or, if◌then◌else◌, ◌||◌}
use Rattle.std.specs.List.{list_any}
use Rattle.std.specs.BTreeMap.{BTreeMap, get}
use Rattle.std.specs.Ordering.{nat_cmp}
use Rattle.numbers.specs.Subjects.{Subject as SubjectModel, subject_eq, subject_key}
use Rattle.numbers.specs.Abstraction.{key_of, routing_of, subject_of}
use Rattle.numbers.specs.declared.ported.Routing.{Routing}
use Rattle.numbers.specs.declared.ported.Subject.{Subject}
use Rattle.delivery.specs.Mirrors.{in_force_of}
use Rattle.delivery.specs.declared.mirror.RoutedRow.{RoutedRow}
use Rattle.model.proofs.Ids.{same_subject}
use Rattle.model.specs.Copies.{copy_of_rows}
use Rattle.model.specs.State.{InForce}
use Rattle.bulk.specs.Audits.{AreNew, AreDistinct, subjects_in}
use Rattle.bulk.specs.Sides.{no_sides, routed_after, sides_at, waiting_after}
use Rattle.bulk.specs.declared.sides.Sides.{Sides}
use Rattle.settle.proofs.Rest.{rest_at}

abbrev Map : Type 0
Map = BTreeMap Subject Sides

-- A map has the same sides for equal subjects.
same_sides : (all : Map) (s t : Subject) → subject_eq (subject_of t) (subject_of s) ≡ true
    → sides_at all t ≡ sides_at all s
same_sides all s t e =
    let key : key_of t ≡ key_of s =
    sym (ap subject_key (same_subject (subject_of t) (subject_of s) e)) in
    ap (λ (k : ℕ). unwrap_or (get (λ (x y : Subject). nat_cmp k (key_of y)) all t) no_sides) key

-- The sides set for a subject, as a change of the sides before.
set_here :
    (old new : Map) (s t : Subject) (f : Sides → Sides)
    → sides_at new s ≡ (if subject_eq (subject_of t) (subject_of s) then f (sides_at old t)
    else sides_at old s) →
    sides_at new s ≡ (if subject_eq (subject_of t) (subject_of s) then f (sides_at old s)
    else sides_at old s)
set_here old new s t f set = set ∙ by_cases (subject_eq (subject_of t) (subject_of s)) refl
  where
    by_cases : (b : Bool) → subject_eq (subject_of t) (subject_of s) ≡ b
        → (if b then f (sides_at old t)
        else sides_at old s) ≡ (if b then f (sides_at old s) else sides_at old s)
    by_cases true e = ap f (same_sides old s t e)
    by_cases false e = refl

-- ---- the versions in force

abbrev pub with_in_force : List RoutedRow → Subject → Sides → Sides
with_in_force rows s sides = record sides { in_force = routed_after rows s sides.in_force }

pub in_force_turn :
    (rows : List RoutedRow) (i : ℕ) (row : RoutedRow) → i < length rows → row ≡ get_or rows i row
    → (old new : Map) →
    ((s : Subject) → sides_at new s ≡ (if subject_eq (subject_of row.subject) (subject_of s)
    then (record (sides_at old row.subject) { in_force = Some row.routing }) else sides_at old s)) →
    (s : Subject) → with_in_force (drop (i + 1) rows) s (sides_at new s) ≡ with_in_force
    (drop i rows) s (sides_at old s)
in_force_turn rows i row within is old new set s =
    ap (with_in_force (drop (i + 1) rows) s) (set_here old new s row.subject
    (λ sides. record sides { in_force = Some row.routing }) (set s))
    ∙ by_cases (subject_eq (subject_of row.subject) (subject_of s))
    ∙ ap (λ (rs : List RoutedRow). with_in_force rs s (sides_at old s))
    (sym (rest_at rows i row within is))
  where
    by_cases : (b : Bool) → with_in_force (drop (i + 1) rows) s (if b
        then (record (sides_at old s) { in_force = Some row.routing }) else sides_at old s)
        ≡ record (sides_at old s) {
          in_force = routed_after (drop (i + 1) rows) s (if b then Some row.routing
              else (sides_at old s).in_force);
        }
    by_cases true = refl
    by_cases false = refl

-- ---- the pending downloads

abbrev pub with_waiting : List Subject → Subject → Sides → Sides
with_waiting subjects s sides = record sides {
  is_waiting = waiting_after subjects s
      sides.is_waiting;
}

pub waiting_turn :
    (subjects : List Subject) (i : ℕ) (t : Subject) → i < length subjects → t ≡ get_or subjects i t
    → (old new : Map) →
    ((s : Subject) → sides_at new s ≡ (if subject_eq (subject_of t) (subject_of s)
    then (record (sides_at old t) { is_waiting = true }) else sides_at old s)) →
    (s : Subject) → with_waiting (drop (i + 1) subjects) s (sides_at new s) ≡ with_waiting
    (drop i subjects) s (sides_at old s)
waiting_turn subjects i t within is old new set s =
    ap (with_waiting (drop (i + 1) subjects) s)
    (set_here old new s t (λ sides. record sides { is_waiting = true }) (set s))
    ∙ by_cases (subject_eq (subject_of t) (subject_of s))
    ∙ ap (λ (ts : List Subject). with_waiting ts s (sides_at old s))
    (sym (rest_at subjects i t within is))
  where
    by_cases : (b : Bool) → with_waiting (drop (i + 1) subjects) s (if b
        then (record (sides_at old s) { is_waiting = true }) else sides_at old s)
        ≡ record (sides_at old s) {
          is_waiting = waiting_after (drop (i + 1) subjects) s (if b then true
              else (sides_at old s).is_waiting);
        }
    by_cases true = refl
    by_cases false = refl

-- ---- the copy

abbrev pub with_copied : List RoutedRow → Subject → Sides → Sides
with_copied entries s sides = record sides { copied = routed_after entries s sides.copied }

pub copied_turn :
    (entries : List RoutedRow) (i : ℕ) (entry : RoutedRow) → i < length entries
    → entry ≡ get_or entries i entry → (old new : Map) →
    ((s : Subject) → sides_at new s ≡ (if subject_eq (subject_of entry.subject) (subject_of s)
    then (record (sides_at old entry.subject) { copied = Some entry.routing }) else sides_at old s))
    →
    (s : Subject) → with_copied (drop (i + 1) entries) s (sides_at new s) ≡ with_copied
    (drop i entries) s (sides_at old s)
copied_turn entries i entry within is old new set s =
    ap (with_copied (drop (i + 1) entries) s) (set_here old new s entry.subject
    (λ sides. record sides { copied = Some entry.routing }) (set s))
    ∙ by_cases (subject_eq (subject_of entry.subject) (subject_of s))
    ∙ ap (λ (es : List RoutedRow). with_copied es s (sides_at old s))
    (sym (rest_at entries i entry within is))
  where
    by_cases : (b : Bool) → with_copied (drop (i + 1) entries) s (if b
        then (record (sides_at old s) { copied = Some entry.routing }) else sides_at old s)
        ≡ record (sides_at old s) {
          copied = routed_after (drop (i + 1) entries) s (if b then Some entry.routing
              else (sides_at old s).copied);
        }
    by_cases true = refl
    by_cases false = refl

-- Holds if the entries added differ from those before them, and just the subjects in `before` are
-- copied.
pub record Taken (whole left : List RoutedRow) (all : Map) : Type 0 where
  pub before : List SubjectModel
  pub forth : AreDistinct (subjects_in whole) → AreNew before (subjects_in left)
  pub back : AreNew before (subjects_in left) → AreDistinct (subjects_in whole)
  pub copied : (s : Subject)
      → is_some (sides_at all s).copied ≡ list_any (λ t. subject_eq t (subject_of s)) before

pub entry_taken :
    (entries : List RoutedRow) (i : ℕ) (entry : RoutedRow) → i < length entries
    → entry ≡ get_or entries i entry → (old new : Map) → is_some (sides_at old entry.subject).copied
    ≡ false →
    ((s : Subject) → sides_at new s ≡ (if subject_eq (subject_of entry.subject) (subject_of s)
    then (record (sides_at old entry.subject) { copied = Some entry.routing }) else sides_at old s))
    →
    Taken entries (drop i entries) old → Taken entries (drop (i + 1) entries) new
entry_taken entries i entry within is old new not set before =
    let left = rest_at entries i entry within is in
    let fresh : list_any (λ t. subject_eq t (subject_of entry.subject)) before.before ≡ false =
    sym (before.copied entry.subject) ∙ not in
    record {
      before = subject_of entry.subject ∷ before.before;
      forth = λ distinct. (subst (λ (es : List RoutedRow). AreNew before.before (subjects_in es))
          left
          (before.forth distinct)).1;
      back = λ more. before.back
          (subst (λ (es : List RoutedRow). AreNew before.before (subjects_in es)) (sym left)
          (fresh, more));
      copied = λ s. ap (λ (sides : Sides). is_some sides.copied) (set s)
          ∙ by_cases s (subject_eq (subject_of entry.subject) (subject_of s));
    }
  where
    by_cases : (s : Subject) (b : Bool)
        → is_some (if b then (record (sides_at old entry.subject) { copied = Some entry.routing })
        else sides_at old s).copied
        ≡ (b || list_any (λ t. subject_eq t (subject_of s)) before.before)
    by_cases s true = refl
    by_cases s false = before.copied s

-- ---- the sides, by the definitions

routed_at : (r : RoutedRow) (before : Option Routing) (b : Bool)
    → option_map routing_of (if b then Some r.routing else before) ≡ (if b
    then Some (routing_of r.routing) else option_map routing_of before)
routed_at r before true = refl
routed_at r before false = refl

routed_before : (rows : List RoutedRow) (s : Subject) (before : Option Routing)
    → option_map routing_of (routed_after rows s before)
    ≡ fold (λ o (r : InForce). if subject_eq r.subject (subject_of s) then r.routing
    else o) (option_map routing_of before) (map in_force_of rows)
routed_before [] s before = refl
routed_before (r ∷ rs) s before =
    routed_before rs s (if subject_eq (subject_of r.subject) (subject_of s) then Some r.routing
    else before)
    ∙ ap (λ o. fold (λ b (q : InForce). if subject_eq q.subject (subject_of s) then q.routing
    else b) o (map in_force_of rs))
    (routed_at r before (subject_eq (subject_of r.subject) (subject_of s)))

pub routed_started : (rows : List RoutedRow) (s : Subject)
    → option_map routing_of (routed_after rows s None) ≡ copy_of_rows (map in_force_of rows)
    (subject_of s)
routed_started rows s = routed_before rows s None

always : (b : Bool) → (if b then true else true) ≡ true
always true = refl
always false = refl

still_waits : (subjects : List Subject) (s : Subject) → waiting_after subjects s true ≡ true
still_waits [] s = refl
still_waits (t ∷ ts) s = ap (waiting_after ts s) (always (subject_eq (subject_of t) (subject_of s)))
    ∙ still_waits ts s

waits_then : (ts : List Subject) (s : Subject)
    → waiting_after ts s false ≡ list_any (λ t. subject_eq t (subject_of s)) (map subject_of ts) →
    (b : Bool) → waiting_after ts s (if b then true else false)
    ≡ (b || list_any (λ t. subject_eq t (subject_of s)) (map subject_of ts))
waits_then ts s later true = still_waits ts s
waits_then ts s later false = later

pub waits_awaited : (subjects : List Subject) (s : Subject)
    → waiting_after subjects s false ≡ list_any (λ t. subject_eq t (subject_of s))
    (map subject_of subjects)
waits_awaited [] s = refl
waits_awaited (t ∷ ts) s =
    waits_then ts s (waits_awaited ts s) (subject_eq (subject_of t) (subject_of s))
