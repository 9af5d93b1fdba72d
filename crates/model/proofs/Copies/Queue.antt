-- The downloads in a carrier's queue.
use Rattle.std.proofs.Common.{◌≡◌, ℕ, suc, inl, inr, Bool, true, false, List, [], ◌∷◌, Option, Some, None, refl, ap, sym, ◌∙◌, subst}
use Rattle.std.specs.Prelude.{◌==◌, flat_map, filter, if◌then◌else◌}
use Rattle.std.specs.List.{list_any, cons_option}
use Rattle.numbers.specs.Subjects.{Subject}
use Rattle.model.specs.Versions.{Broadcast, Version, Record, is_among, waiters, version_with}
use Rattle.model.specs.History.{subject_of_id}
use Rattle.model.specs.State.{State, SubjectVersion, Download, record_now, of_its_subject, versions_made, all_versions, download, downloads_of, is_before, inserted, sorted, queue, made_now}
use Rattle.model.specs.Machine.{HasHistory}
use Rattle.numbers.proofs.Small.{some_is, true-false, equal_number}
use Rattle.model.proofs.Lists.{Among, there_any, mapped-from, mapped-to, filtered-from, filtered-to, flat-from, flat-to, each-among}
use Rattle.model.proofs.Ids.{found_given, all_found, given_apart}
use Rattle.model.proofs.Entered.{given_now}

-- ---- a sorted list has the same downloads

inserted-from : (d : Download) (es : List Download) (x : Download) → Among x (inserted d es)
    → Among x (d ∷ es)
inserted-from d [] x is = is
inserted-from d (e ∷ es) x is = by_cases (λ there. inserted-from d es x there) (is_before d e) is
  where
    rest : Among x (d ∷ es) → Among x (d ∷ e ∷ es)
    rest (inl f) = inl f
    rest (inr there) = inr (inr there)

    by_cases : (Among x (inserted d es) → Among x (d ∷ es)) → (b : Bool)
        → Among x (if b then d ∷ e ∷ es
        else e ∷ inserted d es) → Among x (d ∷ e ∷ es)
    by_cases later true there = there
    by_cases later false (inl f) = inr (inl f)
    by_cases later false (inr there) = rest (later there)

inserted-to : (d : Download) (es : List Download) (x : Download) → Among x (d ∷ es)
    → Among x (inserted d es)
inserted-to d [] x is = is
inserted-to d (e ∷ es) x is = by_cases (λ there. inserted-to d es x there) (is_before d e) is
  where
    by_cases : (Among x (d ∷ es) → Among x (inserted d es)) → (b : Bool) → Among x (d ∷ e ∷ es)
        → Among x (if b then d ∷ e ∷ es else e ∷ inserted d es)
    by_cases later true there = there
    by_cases later false (inl f) = inr (later (inl f))
    by_cases later false (inr (inl f)) = inl f
    by_cases later false (inr (inr there)) = inr (later (inr there))

pub sorted-from : (ds : List Download) (x : Download) → Among x (sorted ds) → Among x ds
sorted-from [] x is = is
sorted-from (d ∷ ds) x is =
    by_cases (λ there. sorted-from ds x there) (inserted-from d (sorted ds) x is)
  where
    by_cases : (Among x (sorted ds) → Among x ds) → Among x (d ∷ sorted ds) → Among x (d ∷ ds)
    by_cases later (inl e) = inl e
    by_cases later (inr there) = inr (later there)

sorted-to : (ds : List Download) (x : Download) → Among x ds → Among x (sorted ds)
sorted-to [] x is = is
sorted-to (d ∷ ds) x (inl e) = inserted-to d (sorted ds) x (inl e)
sorted-to (d ∷ ds) x (inr is) = inserted-to d (sorted ds) x (inr (sorted-to ds x is))

-- ---- the versions of all subjects

pub listed-from : (at : Subject → Record) (from : ℕ) (ss : List Subject) (e : SubjectVersion)
    → Among e (versions_made at from ss)
    → (id : ℕ) × (version_with id (at e.subject) ≡ Some e.version)
listed-from at from [] e is = absurd is
listed-from at from (s ∷ ss) e is =
    by_cases (λ there. listed-from at (suc from) ss e there) (version_with from (at s)) refl is
  where
    by_cases : (Among e (versions_made at (suc from) ss)
        → (id : ℕ) × (version_with id (at e.subject) ≡ Some e.version)) → (o : Option Version)
        → version_with from (at s) ≡ o →
        Among e (cons_option (of_its_subject s o) (versions_made at (suc from) ss))
        → (id : ℕ) × (version_with id (at e.subject) ≡ Some e.version)
    by_cases later None found there = later there
    by_cases later (Some v) found (inl f) = (
      from,
      subst (λ (x : SubjectVersion). version_with from (at x.subject) ≡ Some x.version) (sym f)
          found,
    )
    by_cases later (Some v) found (inr there) = later there

listed-to : (at : Subject → Record) (from : ℕ) (ss : List Subject) (e : SubjectVersion) (id : ℕ)
    → subject_of_id id from ss ≡ Some e.subject → version_with id (at e.subject) ≡ Some e.version →
    Among e (versions_made at from ss)
listed-to at from [] e id given found = let no : None ≡ Some e.subject = given in cc
listed-to at from (s ∷ ss) e id given found =
    by_cases (λ g. listed-to at (suc from) ss e id g found) (id == from) refl given
  where
    here : s ≡ e.subject → id ≡ from
        → Among e (cons_option (of_its_subject s (version_with from (at s)))
        (versions_made at (suc from) ss))
    here same at_id =
        let there : version_with from (at s) ≡ Some e.version =
        ap (λ k. version_with k (at s)) (sym at_id) ∙ ap (λ t. version_with id (at t)) same
        ∙ found in
        subst (λ o. Among e (cons_option (of_its_subject s o) (versions_made at (suc from) ss)))
        (sym there)
        (inl (ap (λ t. let x : SubjectVersion = record { subject = t; version = e.version } in
        x) (sym same)))

    past : (o : Option Version) → Among e (versions_made at (suc from) ss)
        → Among e (cons_option (of_its_subject s o) (versions_made at (suc from) ss))
    past None there = there
    past (Some v) there = inr there

    by_cases : (subject_of_id id (suc from) ss ≡ Some e.subject
        → Among e (versions_made at (suc from) ss)) → (b : Bool) → (id == from) ≡ b →
        (if b then Some s else subject_of_id id (suc from) ss) ≡ Some e.subject
        → Among e (cons_option (of_its_subject s (version_with from (at s)))
        (versions_made at (suc from) ss))
    by_cases later true f g = here (some_is s e.subject g) (equal_number id from f)
    by_cases later false f g = past (version_with from (at s)) (later g)

-- ---- the queue

-- Holds if the download is made of a broadcast of a version of its subject.
pub record IsQueued (st : State) (c : ℕ) (d : Download) : Type 0 where
  pub at : SubjectVersion
  pub broadcast : Broadcast
  pub id : ℕ
  pub found : version_with id (record_now st at.subject) ≡ Some at.version
  pub sent : Among broadcast at.version.broadcasts
  pub waits : is_among c (waiters broadcast) ≡ true
  pub is : d ≡ download at broadcast

pub queued-from : (st : State) (c : ℕ) (d : Download) → Among d (queue st c) → IsQueued st c d
unfolding queue
queued-from st c d is =
    let listed = flat-from (downloads_of (λ b. is_among c (waiters b))) (all_versions st) d
    (sorted-from (flat_map (downloads_of (λ b. is_among c (waiters b))) (all_versions st)) d is) in
    let mapped =
    mapped-from (download listed.0) (filter (λ b. is_among c (waiters b))
    listed.0.version.broadcasts) d listed.2 in
    let sent = filtered-from (λ b. is_among c (waiters b)) listed.0.version.broadcasts mapped.0
    mapped.1 in
    let found = listed-from (record_now st) 1 (made_now st) listed.0 listed.1 in
    record {
      at = listed.0;
      broadcast = mapped.0;
      id = found.0;
      found = found.1;
      sent = sent.0;
      waits = sent.1;
      is = mapped.2;
    }

module _ (st : State) (is : HasHistory st) (s : Subject) where
  -- Each version of a record is found by its id.
  pub found_by_id : (v : Version) → Among v (record_now st s).versions
      → version_with v.id (record_now st s) ≡ Some v
  found_by_id v there =
      each-among (λ u. version_with u.id (record_now st s) ≡ Some u) (record_now st s).versions v
      (all_found (record_now st s).versions (given_apart (made_now st) s
      (record_now st s).versions (given_now st is s))) there

  -- Each version of a record is one of all versions.
  pub is_listed : (v : Version) → Among v (record_now st s).versions
      → Among (let e : SubjectVersion = record { subject = s; version = v } in e) (all_versions st)
  is_listed v there =
      let found : version_with v.id (record_now st s) ≡ Some v = found_by_id v there in
      listed-to (record_now st) 1 (made_now st) (record {
        subject = s;
        version =
            v;
      }) v.id (found_given (made_now st) s v.id (record_now st s).versions v
      (given_now st is s) found) found

  pub queued-to : (c : ℕ) (v : Version) (b : Broadcast) → Among v (record_now st s).versions
      → Among b v.broadcasts → is_among c (waiters b) ≡ true →
      Among (download (record { subject = s; version = v }) b) (queue st c)
  unfolding queue
  queued-to c v b there sent waits =
      let e : SubjectVersion = record { subject = s; version = v } in
      sorted-to (flat_map (downloads_of (λ x. is_among c (waiters x))) (all_versions st))
      (download e b)
      (flat-to (downloads_of (λ x. is_among c (waiters x))) (all_versions st) e (download e b)
      (is_listed v there)
      (mapped-to (download e) (filter (λ x. is_among c (waiters x)) v.broadcasts) b
      (filtered-to (λ x. is_among c (waiters x)) v.broadcasts b sent waits)))

  -- If no download in the queue passes a test, no broadcast that passes it is pending.
  pub unqueued : (c : ℕ) (test : Download → Bool) → list_any test (queue st c) ≡ false
      → (v : Version) (b : Broadcast) → Among v (record_now st s).versions → Among b v.broadcasts →
      test (download (record { subject = s; version = v }) b) ≡ true
      → is_among c (waiters b) ≡ false
  unqueued c test none v b there sent passes = by_cases (is_among c (waiters b)) refl
    where
      by_cases : (t : Bool) → is_among c (waiters b) ≡ t → t ≡ false
      by_cases false e = refl
      by_cases true e =
          true-false (list_any test (queue st c))
          (there_any test (download (record { subject = s; version = v }) b) (queue st c)
          (queued-to c v b there sent e) passes) none
