-- If nothing is pending for a carrier and no broadcast is open, its copy is the routing of what is
-- in force.
use Rattle.std.proofs.Common.{◌≡◌, ℕ, Bool, true, false, cond, not, ◌&&◌, List, [], ◌∷◌, ◌++◌, map, Some, None, refl, ap, sym, ◌∙◌, subst, ◌⊎◌, inl, inr}
use Rattle.std.specs.Prelude.{⊤, filter, find, option_and_then, if◌then◌else◌}
use Rattle.std.specs.List.{list_any, AllByRecursion}
use Rattle.numbers.specs.Subjects.{Subject, subject_eq}
use Rattle.model.specs.Statuses.{Send}
use Rattle.model.specs.Statuses.{Status, Pending, Conflict, CancelPending, Sending, Active, PartialFailure, Failed, DisconnectPending, Old, Canceled}
use Rattle.model.specs.Versions.{Broadcast, Version, in_force, in_force_status, is_among, is_withdrawn, is_open_broadcast, is_open_outcome}
use Rattle.model.specs.State.{State, SubjectVersion, Download, record_now, all_versions, any_open}
use Rattle.model.specs.Machine.{HasHistory}
use Rattle.model.specs.Laws.{is_steady, CopyIsInForce}
use Rattle.numbers.proofs.Small.{true-false}
use Rattle.model.proofs.Lists.{Among, there_any, each_two, each_there}
use Rattle.model.proofs.Begun.{HasBegun, HasBegunAs, begun_kept}
use Rattle.model.proofs.KeptVersions.{versions_kept}
use Rattle.model.proofs.Copies.{Carrier, Unsent, Closed, Placed, stands_for, place, own_of, own, placed, AllMarked, AreMarkedInOrder, held}
use Rattle.model.proofs.Copies.Queue.{is_listed}
use Rattle.model.proofs.Copies.Published.{all_answered}
use Rattle.model.proofs.Copies.Followed.{followed}
use Rattle.model.proofs.Copies.Law.{follows}
use Rattle.model.proofs.Copies.Told.{AllClosed}
use Rattle.model.proofs.Copies.LastWord.{all_marked, force_says}
use Rattle.model.proofs.Copies.Registered.{says_start}

-- ---- what was sent to the carrier, and what was not

-- Holds if the first list has those of the second that are not marked.
abbrev IsSplit : List Placed → List Placed → List Placed → Type 0
IsSplit [] [] [] = ⊤
IsSplit (p ∷ ps) [] [] = ⊥
IsSplit ps [] (t ∷ ts) = ⊥
IsSplit ps (l ∷ ls) [] = ⊥
IsSplit [] (l ∷ ls) (t ∷ ts) = (l.marked ≡ true) × (l.routing ≡ t.routing) × IsSplit [] ls ts
IsSplit (p ∷ ps) (l ∷ ls) (t ∷ ts) =
    ((l.marked ≡ false) × (p.routing ≡ t.routing) × IsSplit ps ls ts)
    ⊎ ((l.marked ≡ true) × (l.routing ≡ t.routing) × IsSplit (p ∷ ps) ls ts)

marked_split : (ps ls ts : List Placed) (l t : Placed) → l.marked ≡ true → l.routing ≡ t.routing
    → IsSplit ps ls ts → IsSplit ps (l ∷ ls) (t ∷ ts)
marked_split [] ls ts l t e f is = (e, f, is)
marked_split (p ∷ ps) ls ts l t e f is = inr (e, f, is)

split_append : (ps ls ts xs ys zs : List Placed) → IsSplit ps ls ts → IsSplit xs ys zs
    → IsSplit (ps ++ xs) (ls ++ ys) (ts ++ zs)
split_append [] [] [] xs ys zs one two = two
split_append (p ∷ ps) [] [] xs ys zs one two = absurd one
split_append [] [] (t ∷ ts) xs ys zs one two = absurd one
split_append (p ∷ ps) [] (t ∷ ts) xs ys zs one two = absurd one
split_append [] (l ∷ ls) [] xs ys zs one two = absurd one
split_append (p ∷ ps) (l ∷ ls) [] xs ys zs one two = absurd one
split_append [] (l ∷ ls) (t ∷ ts) xs ys zs one two =
    marked_split xs (ls ++ ys) (ts ++ zs) l t one.0 one.1 (split_append [] ls ts xs ys zs one.2 two)
split_append (p ∷ ps) (l ∷ ls) (t ∷ ts) xs ys zs (inl one) two =
    inl (one.0, one.1, split_append ps ls ts xs ys zs one.2 two)
split_append (p ∷ ps) (l ∷ ls) (t ∷ ts) xs ys zs (inr one) two =
    inr (one.0, one.1, split_append (p ∷ ps) ls ts xs ys zs one.2 two)

own_split : (c id : ℕ) (bs : List Broadcast)
    → IsSplit (own_of (Carrier c) id bs) (own_of (Unsent c) id bs) (own_of Closed id bs)
own_split c id [] = tt
own_split c id (b ∷ bs) =
    by_cases (is_among c b.recipients) refl (is_withdrawn b) (own_split c id bs)
  where
    by_cases : (x : Bool) → is_among c b.recipients ≡ x → (y : Bool)
        → IsSplit (own_of (Carrier c) id bs) (own_of (Unsent c) id bs) (own_of Closed id bs) →
        IsSplit (map (place (Carrier c) id)
        (cond (x && not y) (b ∷ filter (stands_for (Carrier c)) bs) (filter (stands_for (Carrier c))
        bs)))
        (map (place (Unsent c) id) (cond (true && not y) (b ∷ filter (stands_for (Unsent c)) bs)
        (filter (stands_for (Unsent c)) bs)))
        (map (place Closed id) (cond (true && not y) (b ∷ filter (stands_for Closed) bs)
        (filter (stands_for Closed) bs)))
    by_cases true e false later = inl (ap not e, refl, later)
    by_cases false e false later =
        marked_split (own_of (Carrier c) id bs) (own_of (Unsent c) id bs) (own_of Closed id bs)
        (place (Unsent c) id b) (place Closed id b) (ap not e) refl later
    by_cases true e true later = later
    by_cases false e true later = later

placed_split : (c : ℕ) (vs : List Version) → IsSplit (placed (Carrier c) vs) (placed (Unsent c) vs)
    (placed Closed vs)
placed_split c [] = tt
placed_split c (v ∷ vs) =
    split_append (own (Carrier c) v) (own (Unsent c) v) (own Closed v) (placed (Carrier c) vs)
    (placed (Unsent c) vs) (placed Closed vs) (own_split c v.id v.broadcasts) (placed_split c vs)

-- None was sent to the carrier that is older than a marked one.
none_behind : (p : Placed) (ps ls ts : List Placed) → IsSplit (p ∷ ps) ls ts → AllMarked ls → ⊥
none_behind p ps [] [] is all = is
none_behind p ps [] (t ∷ ts) is all = is
none_behind p ps (l ∷ ls) [] is all = is
none_behind p ps (l ∷ ls) (t ∷ ts) (inl is) all = true-false l.marked all.0 is.0
none_behind p ps (l ∷ ls) (t ∷ ts) (inr is) all = none_behind p ps ls ts is.2 all.1

-- The latest that was sent to the carrier, or else its starting row, is the latest of all.
split_held : (ps ls ts : List Placed) → IsSplit ps ls ts → AllMarked ps → AllMarked ts
    → AreMarkedInOrder ls → held (held None ls) ps ≡ held None ts
split_held [] [] [] is all closed ordered = refl
split_held (p ∷ ps) [] [] is all closed ordered = absurd is
split_held [] [] (t ∷ ts) is all closed ordered = absurd is
split_held (p ∷ ps) [] (t ∷ ts) is all closed ordered = absurd is
split_held [] (l ∷ ls) [] is all closed ordered = absurd is
split_held (p ∷ ps) (l ∷ ls) [] is all closed ordered = absurd is
split_held [] (l ∷ ls) (t ∷ ts) is all closed ordered =
    ap (λ b. if b then l.routing else held None ls) is.0 ∙ is.1 ∙ sym (ap (λ b. if b then t.routing
    else held None ts) closed.0)
split_held (p ∷ ps) (l ∷ ls) (t ∷ ts) (inl is) all closed ordered =
    ap (λ b. if b then p.routing else held (held None (l ∷ ls)) ps) all.0 ∙ is.1
    ∙ sym (ap (λ b. if b then t.routing else held None ts) closed.0)
split_held (p ∷ ps) (l ∷ ls) (t ∷ ts) (inr is) all closed ordered =
    absurd (none_behind p ps ls ts is.2 (ordered.0 is.0))

-- ---- no broadcast is open

none_any : {A : Type 0} (test : A → Bool) (xs : List A) → list_any test xs ≡ false → (x : A)
    → Among x xs → test x ≡ false
none_any test xs none x there = by_cases (test x) refl
  where
    by_cases : (b : Bool) → test x ≡ b → b ≡ false
    by_cases true e = true-false (list_any test xs) (there_any test x xs there e) none
    by_cases false e = refl

all_closed : (st : State) → HasHistory st → any_open st ≡ false
    → (s : Subject) → AllByRecursion (λ (v : Version). AllClosed v.broadcasts)
    (record_now st s).versions
all_closed st is none s =
    each_there (λ (v : Version). AllClosed v.broadcasts) (record_now st s).versions
    (λ v there. each_there (λ b. is_open_broadcast b ≡ false) v.broadcasts
    (none_any is_open_broadcast v.broadcasts
    (none_any (λ (e : SubjectVersion). list_any is_open_broadcast e.version.broadcasts)
    (all_versions st) none (record { subject = s; version = v }) (is_listed st is s v there))))

-- No version sends, so what is in force is steady.
steady_is : (v : Version) → HasBegun v → AllClosed v.broadcasts → is_steady v.status ≡ in_force v
steady_is v begun closed = by_cases v.status refl
  where
    sends : (action : Send) → v.status ≡ Sending action → false ≡ in_force_status (Sending action)
    sends action e =
        let has : HasBegunAs (Sending action) v.broadcasts =
        subst (λ x. HasBegunAs x v.broadcasts) e begun in
        true-false (is_open_broadcast has.0) (ap is_open_outcome has.3)
        (subst AllClosed has.2 closed).0

    by_cases : (status : Status) → v.status ≡ status → is_steady status ≡ in_force_status status
    by_cases (Sending action) e = sends action e
    by_cases Pending e = refl
    by_cases Conflict e = refl
    by_cases (CancelPending by) e = refl
    by_cases Active e = refl
    by_cases PartialFailure e = refl
    by_cases Failed e = refl
    by_cases (DisconnectPending release) e = refl
    by_cases Old e = refl
    by_cases Canceled e = refl

find_same : (vs : List Version) → AllByRecursion (λ (v : Version). is_steady v.status ≡ in_force v)
    vs → find (λ (v : Version). is_steady v.status) vs ≡ find in_force vs
find_same [] same = refl
find_same (v ∷ vs) same = ap (λ b. cond b (Some v) (find (λ (u : Version). is_steady u.status) vs))
    same.0 ∙ ap (cond (in_force v) (Some v)) (find_same vs same.1)

-- ---- the law

pub copy_is_in_force : CopyIsInForce
copy_is_in_force st is c known idle none s =
    let closed : AllByRecursion (λ (v : Version). AllClosed v.broadcasts)
    (record_now st s).versions = all_closed st is.history none s in
    let start = says_start st.windows c s st.history st.now is.history known in
    (followed st.windows c s (follows st.windows c s) st.history st.now is.history).copy
    ∙ ap (λ row. held row (placed (Carrier c) (record_now st s).versions)) (sym start.1)
    ∙ split_held (placed (Carrier c) (record_now st s).versions)
    (placed (Unsent c) (record_now st s).versions) (placed Closed (record_now st s).versions)
    (placed_split c (record_now st s).versions)
    (all_answered st is.history c s (ap (list_any (λ (d : Download). subject_eq d.subject s)) idle))
    (all_marked (record_now st s).versions closed) start.0
    ∙ (force_says st.windows s st.history st.now is.history).1
    ∙ ap (option_and_then (λ (v : Version). v.routing))
    (sym (find_same (record_now st s).versions (each_two (λ v begun over. steady_is v begun over)
    (record_now st s).versions (versions_kept begun_kept st.windows s st.history st.now is.history)
    closed)))
