-- The subjects with downloads pending for a carrier, as a store lists them, are those of its queue.
use Rattle.std.proofs.Common.{◌≡◌, inl, inr, ℕ, Bool, true, false, List, [], ◌∷◌, map, Option, Some, None, refl, ap, sym, ◌∙◌, subst}
use Rattle.std.specs.Prelude.{Result, Ok, Err, IfOk, is_some, Contains, if◌then◌else◌}
use Rattle.std.specs.List.{list_any}
use Rattle.std.specs.FinMap.{get}
use Rattle.numbers.specs.Subjects.{Subject, subject_eq, subject_key}
use Rattle.numbers.specs.Abstraction.{subject_of, key_of}
use Rattle.numbers.specs.declared.ported.Subject.{Subject as SubjectImpl}
use Rattle.model.specs.declared.refusal.Refusal.{Refusal}
use Rattle.model.specs.Content.{Content}
use Rattle.model.specs.Laws.{IsReachable}
use Rattle.model.specs.Machine.{Awaited, Refused, distinct_subjects, out, refused_or}
use Rattle.model.specs.State.{State, Download, is_carrier, queue}
use Rattle.model.specs.Refusals.{QuestionFrom, Waiting, refusal, tests}
use Rattle.model.proofs.Ascending.{same_rising, sorted-rise, mapped-rise}
use Rattle.model.proofs.Listed.{each_is_once, subjects-ascend}
use Rattle.model.proofs.Lists.{Among, any_there, contained, contains-among}
use Rattle.model.proofs.Ids.{same_subject}
use Rattle.model.proofs.Copies.Law.{copy_is_published}
use Rattle.settle.specs.Reads.{AreWaitingSubjects, IsAwaitedBy}
use Rattle.settle.specs.Settling.{IsSettled}
use Rattle.settle.proofs.Among.{all-among}
use Rattle.requests.specs.Calls.{replied}
use Rattle.register.specs.Refinement.{Refines, SimulatesStep}
use Rattle.register.specs.Fetching.{CopyMatchesPublishedBut}
use Rattle.register.specs.Settling.{SimulatesSettledStep}
use Rattle.register.proofs.EveryCall.Composed.{answers_read}
use Rattle.register.proofs.Downloads.Fetched.{may_fetch, by_caller}
use Rattle.register.proofs.Downloads.Copied.{known_by}
use Rattle.register.proofs.Downloads.Queued.{waiting-awaited, awaited-waiting, awaited-queued, queued-awaited}

-- ---- lists

mapped-to : {A B : Type 0} (f : A → B) (a : A) (xs : List A) → Among a xs → Among (f a) (map f xs)
mapped-to f a [] is = absurd is
mapped-to f a (x ∷ xs) (inl e) = inl (ap f e)
mapped-to f a (x ∷ xs) (inr there) = inr (mapped-to f a xs there)

mapped-from : {A B : Type 0} (f : A → B) (b : B) (xs : List A) → Among b (map f xs)
    → (a : A) × Among a xs × (b ≡ f a)
mapped-from f b [] is = absurd is
mapped-from f b (x ∷ xs) (inl e) = (x, inl refl, e)
mapped-from f b (x ∷ xs) (inr there) = let m = mapped-from f b xs there in (m.0, inr m.1, m.2)

-- ---- the queue's subjects

module _ (st : State) (c : Content) (refines : Refines c st) (settled : (s : Subject)
    → IsSettled c st s) (carrier : ℕ) (subjects : List SubjectImpl)
    (are : AreWaitingSubjects c carrier subjects) where
  abbrev of_queue : List Subject
  of_queue = map (λ (d : Download). d.subject) (queue st carrier)

  once : (s : Subject) → (Contains (distinct_subjects of_queue) s → Contains of_queue s)
      × (Contains of_queue s → Contains (distinct_subjects of_queue) s)
  once = (each_is_once of_queue).1

  queued : (s : Subject) → IsAwaitedBy c carrier s → Among s of_queue
  queued s is =
      mapped-to (λ (d : Download). d.subject) _ (queue st carrier)
      (awaited-queued st c refines carrier s is.0 is.1 is.2 (waiting-awaited st c refines carrier s
      (settled s) is.0 is.1 is.2 is.3))

  forth : (s : Subject) → Among s (map subject_of subjects) → Among s (distinct_subjects of_queue)
  forth s there =
      let x = mapped-from subject_of s subjects there in
      subst (λ t. Among t (distinct_subjects of_queue)) (sym x.2)
      (contains-among (distinct_subjects of_queue) (subject_of x.0) ((once (subject_of x.0)).1
      (contained of_queue (subject_of x.0)
      (queued (subject_of x.0) (all-among (λ y. IsAwaitedBy c carrier (subject_of y)) subjects
      are.only x.0 x.1)))))

  back : (s : Subject) → Among s (distinct_subjects of_queue) → Among s (map subject_of subjects)
  back s there =
      let d = mapped-from (λ (x : Download). x.subject) s (queue st carrier)
      (contains-among of_queue s ((once s).0 (contained (distinct_subjects of_queue) s there))) in
      let is = queued-awaited st c refines carrier d.0 d.1 in
      let x = are.each d.0.subject (
        d.0.minute,
        d.0.id,
        d.0.attempt,
        awaited-waiting st c refines carrier d.0.subject (settled d.0.subject) d.0.minute d.0.id
            d.0.attempt is,
      ) in
      let same : subject_of x.0 ≡ s = x.2 ∙ sym d.2 in
      subst (λ t. Among t (map subject_of subjects)) same (mapped-to subject_of x.0 subjects
      (contains-among subjects x.0 x.1))

  -- The store's list is the list of the definitions.
  pub subjects_awaited : map subject_of subjects ≡ distinct_subjects of_queue
  subjects_awaited =
      same_rising subject_key (map subject_of subjects) (distinct_subjects of_queue)
      (mapped-rise subject_key subject_of subjects (sorted-rise key_of subjects are.rises))
      (subjects-ascend (distinct_subjects of_queue) (each_is_once of_queue).0) forth back

-- ---- who may ask

pub waiting_by : (st : State) (caller : ℕ)
    → refusal st (QuestionFrom caller Waiting) ≡ may_fetch (is_carrier st caller)
unfolding tests
waiting_by st caller = refl

pub waiting_refused : (old : Content) (caller : ℕ) (known : Bool)
    → is_some (get old.carriers caller) ≡ known → (st : State) → Refines old st
    → refusal st (QuestionFrom caller Waiting) ≡ (if known then None else Some 1)
waiting_refused old caller known is st refines =
    waiting_by st caller ∙ by_caller (is_carrier st caller) known
    (sym (refines.represents.carriers caller) ∙ is)

pub answers_awaited : (old new : Content) (caller : ℕ) (subjects : List SubjectImpl)
    → is_some (get old.carriers caller) ≡ true → new ≡ old → AreWaitingSubjects old caller subjects
    →
    SimulatesSettledStep old new (QuestionFrom caller Waiting)
    (Some (Awaited (map subject_of subjects)))
answers_awaited old new caller subjects known same are =
    answers_read old new (QuestionFrom caller Waiting) (Awaited (map subject_of subjects)) same
    (λ st. refl)
    (λ st refines settled. (
      waiting_refused old caller true known st refines,
      ap (λ xs. Awaited xs) (subjects_awaited st old refines (λ s. settled s refl) caller subjects
          are),
    ))

-- ---- the carrier's copy of every other subject

subjects_answered : (number : Option ℕ) (xs ys : List Subject)
    → Awaited xs ≡ refused_or number (Awaited ys)
    → (number ≡ None) × (ys ≡ xs)
subjects_answered None xs ys e = (refl, (let f : Awaited xs ≡ Awaited ys = e in cc))
subjects_answered (Some k) xs ys e = let f : Awaited xs ≡ Refused k = e in cc

nothing_waits : (s : Subject) (ds : List Download)
    → (Contains (distinct_subjects (map (λ (d : Download). d.subject) ds)) s → ⊥)
    → list_any (λ (d : Download). subject_eq d.subject s) ds ≡ false
nothing_waits s ds none = by_cases (list_any (λ (d : Download). subject_eq d.subject s) ds) refl
  where
    of_queue : List Subject
    of_queue = map (λ (d : Download). d.subject) ds

    by_cases : (b : Bool) → list_any (λ (d : Download). subject_eq d.subject s) ds ≡ b → b ≡ false
    by_cases false e = refl
    by_cases true e =
        let d = any_there (λ (x : Download). subject_eq x.subject s) ds e in
        let there : Among s of_queue =
        subst (λ t. Among t of_queue) (sym (same_subject d.0.subject s d.2))
        (mapped-to (λ (x : Download). x.subject) d.0 ds d.1) in
        absurd (none (((each_is_once of_queue).1 s).1 (contained of_queue s there)))

pub holds_all_but : (old new : Content) (caller : ℕ) (subjects : List Subject)
    → SimulatesStep old new (QuestionFrom caller Waiting) (Some (Awaited subjects)) → (st : State)
    → Refines old st → CopyMatchesPublishedBut st caller subjects
unfolding out
holds_all_but old new caller subjects answers st refines = λ s none.
    let is : IsReachable st = record {
      windows = refines.represents.windows;
      history = refines.represents.history;
    } in
    let reply =
    subjects_answered (refusal st (QuestionFrom caller Waiting)) subjects
    (distinct_subjects (map (λ (d : Download). d.subject) (queue st caller)))
    (answers st refines).0 in
    let known : is_carrier st caller ≡ true =
    known_by (is_carrier st caller) (sym (waiting_by st caller) ∙ reply.0) in
    copy_is_published st is caller s known (nothing_waits s (queue st caller)
    (λ there. none (subst (λ xs. Contains xs s) reply.1 there)))

pub if_all_but : {V : Type 0} (old new : Content) (caller : ℕ) (seen : V
    → List Subject) (r : Result V Refusal)
    → SimulatesStep old new (QuestionFrom caller Waiting) (replied (λ v. Awaited (seen v)) r) →
    (st : State) → Refines old st → IfOk r (λ v. CopyMatchesPublishedBut st caller (seen v))
if_all_but old new caller seen (Ok v) answers st refines =
    holds_all_but old new caller (seen v) answers st refines
if_all_but old new caller seen (Err refusal) answers st refines = tt
