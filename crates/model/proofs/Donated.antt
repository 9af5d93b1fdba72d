-- A donation makes versions only of numbers of its block that have no version in force and none
-- open.
use Rattle.std.proofs.Common.{◌≡◌, ℕ, suc, ◌+◌, ◌*◌, ◌/◌, ◌<◌, Bool, true, false, cond, ◌&&◌, ◌||◌, List, [], ◌∷◌, map, Option, Some, None, refl, ap, sym, ◌∙◌, arith}
use Rattle.std.specs.Prelude.{if◌then◌else◌, find, filter, is_none, nat_lt, ◌==◌}
use Rattle.std.specs.List.{list_any, cons_option}
use Rattle.std.proofs.lemmas.Bool.Decides.{nat_tests}
use Rattle.numbers.specs.Digits.{block_of, number_in}
use Rattle.numbers.specs.Subjects.{subject_eq, Subject, Number, Block}
use Rattle.model.specs.Commands.{Donate}
use Rattle.model.specs.Versions.{Version, Record, with_number, is_open, version_in_force, version_with}
use Rattle.model.specs.History.{CommandRequest, subjects_made_by, id_among, subject_of_id, rising, AreLines}
use Rattle.model.specs.State.{State, SubjectVersion, record_now, versions_made, of_its_subject, made_now}
use Rattle.model.specs.Refusals.{is_in_block, has_open_port}
use Rattle.numbers.proofs.Small.{some_is, same_number, equal_number, is_none_there}
use Rattle.model.proofs.Accepted.{AcceptedCommand}
use Rattle.model.specs.Sound.{is_block, NoneOpen, AreSound}
use Rattle.model.proofs.Ids.{AreGiven, same_subject}
use Rattle.model.proofs.Made.{HasRoom, none_in_force-found, none-active, one_of_sound}

-- ---- lines

pub with_number-lines : (n : ℕ) (ns : List ℕ) → n < 1000 → AreLines ns → AreLines (with_number n ns)
with_number-lines n [] small lines = (small, tt)
with_number-lines n (m ∷ ms) small lines =
    by_cases (with_number-lines n ms small lines.1) (nat_lt n m) (n == m)
  where
    by_cases : AreLines (with_number n ms) → (b c : Bool) → AreLines (if b then n ∷ m ∷ ms
        else (if c then m ∷ ms else m ∷ with_number n ms))
    by_cases rest true c = (small, lines)
    by_cases rest false true = lines
    by_cases rest false false = (lines.0, rest)

pub rising-lines : (ns : List ℕ) → AreLines ns → AreLines (rising ns)
rising-lines [] lines = tt
rising-lines (n ∷ ns) lines = with_number-lines n (rising ns) lines.0 (rising-lines ns lines.1)

of_block : (block line : ℕ) → line < 1000 → (block_of (number_in block line) == block) ≡ true
of_block block line small =
    let same : (block * 1000 + line) / 1000 ≡ block = omega arith in
    grind (arith, nat_tests)

-- Holds if the subject passes the test and is a number of the block.
record IsMade (block : ℕ) (test : Subject → Bool) (s : Subject) : Type 0 where
  passes : test s ≡ true
  inside : is_in_block block s ≡ true

made_number : (block : ℕ) (test : Subject → Bool) (s : Subject) (first id : ℕ) (lines : List ℕ)
    → AreLines lines →
    id_among s first (filter test (map (λ line. Number (number_in block line)) lines)) ≡ Some id
    → IsMade block test s
made_number block test s first id [] ok made = cc
made_number block test s first id (line ∷ lines) ok made =
    by_cases (λ k. made_number block test s k id lines ok.1) (test (Number (number_in block line)))
    refl
    made
  where
    is_it : ((k : ℕ) → id_among s k (filter test (map (λ l. Number (number_in block l)) lines))
        ≡ Some id → IsMade block test s) →
        test (Number (number_in block line)) ≡ true → (b : Bool)
        → subject_eq s (Number (number_in block line)) ≡ b →
        (if b then Some first
        else id_among s (suc first) (filter test (map (λ l. Number (number_in block l)) lines)))
        ≡ Some id → IsMade block test s
    is_it later pass true e f =
        let same : Number (number_in block line) ≡ s =
        same_subject s (Number (number_in block line)) e in
        record {
          passes = ap test (sym same) ∙ pass;
          inside = ap (is_in_block block) (sym same) ∙ of_block block line ok.0;
        }
    is_it later pass false e f = later (suc first) f

    by_cases : ((k : ℕ) → id_among s k (filter test (map (λ l. Number (number_in block l)) lines))
        ≡ Some id → IsMade block test s) →
        (b : Bool) → test (Number (number_in block line)) ≡ b →
        id_among s first
        (cond b (Number (number_in block line) ∷ filter test (map (λ l. Number (number_in block l))
        lines)) (filter test (map (λ l. Number (number_in block l)) lines))) ≡ Some id
        → IsMade block test s
    by_cases later true e f = is_it later e (subject_eq s (Number (number_in block line))) refl f
    by_cases later false e f = later first f

-- A number that gets a version by a donation has none in force.
pub donate-unforced : (st : State) (s : Subject) (first id block : ℕ) (used : List ℕ) (lrn : ℕ)
    (cic : Option ℕ) → AreLines used →
    id_among s first (subjects_made_by (CommandRequest (Donate block used lrn cic)) (record_now st))
    ≡ Some id
    → version_in_force (record_now st s) ≡ None
donate-unforced st s first id block used lrn cic lines made =
    is_none_there (version_in_force (record_now st s))
    (made_number block (λ t. is_none (version_in_force (record_now st t))) s first id (rising used)
    (rising-lines used lines) made).passes

pub donate-inside : (st : State) (s : Subject) (first id block : ℕ) (used : List ℕ) (lrn : ℕ)
    (cic : Option ℕ) → AreLines used →
    id_among s first (subjects_made_by (CommandRequest (Donate block used lrn cic)) (record_now st))
    ≡ Some id
    → is_in_block block s ≡ true
donate-inside st s first id block used lrn cic lines made =
    (made_number block (λ t. is_none (version_in_force (record_now st t))) s first id (rising used)
    (rising-lines used lines) made).inside

-- ---- the version of an id is among all versions

none_behind : (test : SubjectVersion → Bool) (o : Option SubjectVersion) (es : List SubjectVersion)
    → list_any test (cons_option o es) ≡ false → list_any test es ≡ false
none_behind test None es none = none
none_behind test (Some e) es none = by_cases (test e) none
  where
    by_cases : (b : Bool) → (b || list_any test es) ≡ false → list_any test es ≡ false
    by_cases true some = cc
    by_cases false rest = rest

none_made : (test : SubjectVersion → Bool) (at : Subject → Record) (from id : ℕ)
    (made : List Subject) (s : Subject) (v : Version) → subject_of_id id from made ≡ Some s →
    version_with id (at s) ≡ Some v → list_any test (versions_made at from made) ≡ false
    → test (record { subject = s; version = v }) ≡ false
none_made test at from id [] s v given found none = cc
none_made test at from id (t ∷ ts) s v given found none =
    by_cases (λ rest. none_made test at (suc from) id ts s v rest found
    (none_behind test (of_its_subject t (version_with from (at t))) (versions_made at (suc from) ts)
    none)) (id == from) refl given
  where
    first_fails : (b : Bool) → (b || list_any test (versions_made at (suc from) ts)) ≡ false
        → b ≡ false
    first_fails true e = cc
    first_fails false e = refl

    by_cases : (subject_of_id id (suc from) ts ≡ Some s → test (record { subject = s; version = v })
        ≡ false) → (b : Bool) → (id == from) ≡ b →
        (if b then Some t else subject_of_id id (suc from) ts) ≡ Some s
        → test (record { subject = s; version = v }) ≡ false
    by_cases later true e f =
        let same : t ≡ s = some_is t s f in
        let number : from ≡ id = sym (equal_number id from e) in
        let found_at : version_with from (at t) ≡ Some v =
        ap (λ k. version_with k (at t)) number ∙ ap (λ u. version_with id (at u)) same ∙ found in
        let none_here : list_any test (cons_option (of_its_subject t (Some v))
        (versions_made at (suc from) ts)) ≡ false =
        sym (ap (λ o. list_any test (cons_option (of_its_subject t o)
        (versions_made at (suc from) ts))) found_at) ∙ none in
        ap (λ u. test (record { subject = u; version = v })) (sym same)
        ∙ first_fails (test (record { subject = t; version = v })) none_here
    by_cases later false e f = later f

-- In a block without an open port, a number's version is not open unless the number has one in
-- force.
pub open_port-none : (st : State) (block : ℕ) → has_open_port st block ≡ false
    → (s : Subject) (id : ℕ) (v : Version) → subject_of_id id 1 (made_now st)
    ≡ Some s →
    version_with id (record_now st s) ≡ Some v
    → (is_in_block block s && is_open s v && is_none (version_in_force (record_now st s))) ≡ false
open_port-none st block none s id v given found =
    none_made (λ (e : SubjectVersion). is_in_block block e.subject && is_open e.subject e.version
    && is_none (version_in_force (record_now st e.subject))) (record_now st) 1 id
    (made_now st) s v given found none

-- ---- room

three : (b c d : Bool) → b ≡ true → d ≡ true → (b && c && d) ≡ false → c ≡ false
three true true true e f none = cc
three true false d e f none = refl
three false c d e f none = cc
three true true false e f none = cc

not_block : (block : ℕ) (s : Subject) → is_in_block block s ≡ true → is_block s ≡ false
not_block block (Number n) e = refl
not_block block (Block b) e = cc

closed_head : (test : SubjectVersion → Bool) (s : Subject) (at : Subject
    → Record) (made : List Subject)
    → ((v : Version) → test (record { subject = s; version = v }) ≡ false → is_open s v ≡ false) →
    list_any test (versions_made at 1 made) ≡ false → (vs : List Version) → (at s).versions ≡ vs
    → AreGiven made s vs → AreSound s vs → NoneOpen s vs
closed_head test s at made fails none [] is given sound = tt
closed_head test s at made fails none (v ∷ vs) is given sound =
    let found : version_with v.id (at s) ≡ Some v =
    ap (find (λ u. u.id == v.id)) is ∙ ap (λ b. cond b (Some v) (find (λ u. u.id == v.id) vs))
    (same_number v.id) in
    (fails v (none_made test at 1 v.id made s v given.0 found none), sound.0)

pub donate-room : (st : State) (caller : ℕ) (s : Subject) (first id block : ℕ) (used : List ℕ)
    (lrn : ℕ) (cic : Option ℕ) → AreLines used
    → AcceptedCommand st caller (Donate block used lrn cic) →
    id_among s first (subjects_made_by (CommandRequest (Donate block used lrn cic)) (record_now st))
    ≡ Some id
    → AreGiven (made_now st) s (record_now st s).versions →
    AreSound s (record_now st s).versions → (is_block s ≡ false)
    × HasRoom s (record_now st s).versions
donate-room st caller s first id block used lrn cic lines accepted made given sound =
    let is : IsMade block (λ t. is_none (version_in_force (record_now st t))) s =
    made_number block (λ t. is_none (version_in_force (record_now st t))) s first id (rising used)
    (rising-lines used lines) made in
    let none_now : version_in_force (record_now st s) ≡ None =
    donate-unforced st s first id block used lrn cic lines made in (
      not_block block s is.inside,
      record {
        closed = closed_head (λ (e : SubjectVersion). is_in_block block e.subject && is_open
            e.subject e.version && is_none (version_in_force (record_now st e.subject))) s
            (record_now st)
            (made_now st) (λ v none. three (is_in_block block s) (is_open s v)
            (is_none (version_in_force (record_now st s))) is.inside is.passes none)
            (accepted 23) (record_now st s).versions refl given sound;
        one = one_of_sound s (record_now st s).versions sound;
        active = none-active (record_now st s).versions
            (none_in_force-found (record_now st s).versions none_now);
        block = λ b. let never : true ≡ false = sym b ∙ not_block block s is.inside in cc;
      },
    )
