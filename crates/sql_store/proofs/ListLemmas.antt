-- Sorted lists, and the content that they show.
use Rattle.std.proofs.Common.{◌≡◌, ℕ, List, [], ◌∷◌, map, filter, Bool, true, Some, refl, sym, ap, subst, ◌∙◌, Less, Equal}
use Rattle.std.specs.Prelude.{All}
use Rattle.std.specs.declared.cmp.Ordering.{Ordering}
use Rattle.std.specs.Ordering.{nat_cmp, ordering_then, on}
use Rattle.std.specs.Cmp.{IsTotalOrder, nat_cmp_total}
use Rattle.std.specs.List.{AllByRecursion}
use Rattle.std.specs.List.Sorted.{IsStrictlySortedBy}
use Rattle.std.specs.FinMap.{FinMap, get, entries, IsAntisymmetric, nat_cmp-IsAntisymmetric}
use Rattle.std.proofs.lemmas.List.Elements.{All-from_recursion, recursion_from_All}
use Rattle.std.proofs.lemmas.List.Kept.{IsStrictlySortedBy-filter}
use Rattle.sqlite_rules.specs.Lists.{Has}
use Rattle.sqlite_rules.proofs.ListLemmas.{all_from, all_has, contains_had, has_filtered, has_kept}
use Rattle.numbers.specs.Abstraction.{key_of, subject_of}
use Rattle.numbers.specs.Subjects.{Subject}
use Rattle.numbers.specs.declared.spid.Spid.{Spid}
use Rattle.numbers.specs.declared.ported.Subject.{Subject as SubjectImpl}
use Rattle.numbers.proofs.SubjectKeys.{subject_key-exact}
use Rattle.delivery.specs.declared.download.DownloadKey.{DownloadKey}
use Rattle.model.specs.Content.{Content, WaitKey, wait_key}
use Rattle.settle.specs.Abstraction.{spid_of}
use Rattle.settle.specs.Reads.{AreWaitingSubjects, AreCarriers, AreWaitsAbout, IsAwaitedBy, IsWaiting, download_cmp}
use Rattle.sql_rows.proofs.Listed.{from_mapped, has_mapped}
use Rattle.model.proofs.KeyOrders.{both_equal}
use Rattle.sql_rows.proofs.Picked.{Picks}
use Rattle.sql_rows.proofs.QueriesListed.{carrier_seen, wait_seen}
use Rattle.sql_rows.proofs.QueryLemmas.{map_twice}
use Rattle.sql_rows.proofs.SortedLists.{by_key, entries_rise, entry_has, has_entry, never_both, same_sorted}
use Rattle.sql_store.specs.Lists.{WaitRow, download_of}

pub sorted_map : {X Y : Type 0} (f : X → Y) (D : Y → Y → Ordering) (xs : List X)
    → IsStrictlySortedBy (λ a b. D (f a) (f b)) xs → IsStrictlySortedBy D (map f xs)
unfolding IsStrictlySortedBy
sorted_map f D [] up = tt
sorted_map {X} f D (x ∷ xs) up = (above xs up.0, sorted_map f D xs up.1)
  where
    above : (ys : List X) → AllByRecursion (λ y. D (f x) (f y) ≡ Less) ys
        → AllByRecursion (λ z. D (f x) z ≡ Less) (map f ys)
    above [] all = tt
    above (y ∷ ys) all = (all.0, above ys all.1)

pub all_there : {X : Type 0} (P : X → Type 0) (xs : List X) → ((x : X) → Has xs x → P x) → All P xs
all_there P xs each = All-from_recursion P xs (all_from P xs each)

pub all_had : {X : Type 0} (P : X → Type 0) (xs : List X) → All P xs → (x : X) → Has xs x → P x
all_had P xs all x at = all_has P xs x (recursion_from_All P xs all) at

filter_true : {X : Type 0} (xs : List X) → filter (λ x. true) xs ≡ xs
filter_true [] = refl
filter_true (x ∷ xs) = ap (λ l. x ∷ l) (filter_true xs)

-- The items found, sorted, are the entries that pass the test.
module _ {T K V : Type 0} {R : K → K → Ordering} (o : IsTotalOrder R) (exact : IsAntisymmetric R)
    (seen : T → K × V) (m : FinMap R V) (P : K → V → Type 0) (test : K × V → Bool) where
  pub entries_are : ((k : K) (v : V) → (P k v → test (k, v) ≡ true) × (test (k, v) ≡ true → P k v))
      → (found items : List T) → Picks seen m P found
      → IsStrictlySortedBy (λ a b. R (seen a).0 (seen b).0) items
      → ((x : T) → Has items x → Has found x) → ((x : T) → Has found x → (y : T) × Has items y
      × (seen y ≡ seen x)) → map seen items ≡ filter test (entries m)
  entries_are says found items picks rises only each =
      same_sorted (by_key o exact) (never_both o exact) (map seen items) (filter test (entries m))
      (sorted_map seen (by_key o exact) items rises)
      (IsStrictlySortedBy-filter (by_key o exact) test (entries m) (entries_rise o exact m))
      (λ e at.
      let x = from_mapped seen items e at in
      let it = picks.only x.0 (only x.0 x.1) in
      subst (Has (filter test (entries m))) (sym x.2)
      (has_kept test (entries m) (seen x.0) (entry_has o exact m (seen x.0).0 (seen x.0).1 it.0)
      ((says (seen x.0).0 (seen x.0).1).0 it.1)))
      (λ e at.
      let f = has_filtered test (entries m) e at in
      let x = picks.each e.0 e.1 (has_entry o exact m e.0 e.1 f.0) ((says e.0 e.1).1 f.1) in
      let y = each x.0 x.1 in
      subst (Has (map seen items)) (y.2 ∙ x.2) (has_mapped seen items y.0 y.1))

-- ---- carriers

pub carriers_are : (c : Content) (found items : List Spid)
    → Picks carrier_seen c.carriers (λ k v. Unit {0}) found
    → IsStrictlySortedBy (on spid_of nat_cmp) items
    → ((x : Spid) → Has items x → Has found x)
    → ((x : Spid) → Has found x → (y : Spid) × Has items y × (on spid_of nat_cmp x y ≡ Equal))
    → AreCarriers c items
carriers_are c found items picks rises only each =
    let all = entries_are nat_cmp_total nat_cmp-IsAntisymmetric carrier_seen c.carriers
    (λ k v. Unit {0}) (λ e. true) (λ k v. (λ h. refl, λ h. tt)) found items picks rises only
    (λ x at. let y = each x at in (
      y.0,
      y.1,
      ap (λ k. (k, tt)) (sym (nat_cmp-IsAntisymmetric x.number y.0.number y.2)),
    ))
    in
    sym (map_twice (λ (e : ℕ × Unit {0}). e.0) carrier_seen items)
    ∙ ap (map (λ (e : ℕ × Unit {0}). e.0)) (all ∙ filter_true (entries c.carriers))

-- ---- downloads pending for a carrier

pub download_tie : (a b : DownloadKey) → download_cmp a b ≡ Equal
    → (a.minute.number ≡ b.minute.number) × (a.id ≡ b.id) × (a.attempt ≡ b.attempt)
download_tie a b e =
    let p = both_equal (nat_cmp a.minute.number b.minute.number) (ordering_then (nat_cmp a.id b.id)
    (nat_cmp a.attempt b.attempt)) e in
    let q = both_equal (nat_cmp a.id b.id) (nat_cmp a.attempt b.attempt) p.1 in (
      nat_cmp-IsAntisymmetric _ _ p.0,
      nat_cmp-IsAntisymmetric _ _ q.0,
      nat_cmp-IsAntisymmetric _ _ q.1,
    )

pub about_are : (c : Content) (spid : ℕ) (s : Subject) (found : List WaitRow)
    (items : List DownloadKey) → Picks wait_seen c.waits (λ k v. (k.carrier ≡ spid) × (v ≡ s)) found
    → IsStrictlySortedBy download_cmp items
    → ((x : DownloadKey) → Has items x → Has (map download_of found) x)
    → ((x : DownloadKey) → Has (map download_of found) x → (y : DownloadKey) × Has items y
    × (download_cmp x y ≡ Equal)) → AreWaitsAbout c spid s items
about_are c spid s found items picks rises only each = record {
  each = λ minute id attempt waits.
      let w = picks.each (wait_key spid minute id attempt) s waits (refl, refl) in
      let y = each (download_of w.0) (has_mapped download_of found w.0 w.1) in
      let t = download_tie (download_of w.0) y.0 y.2 in
      let key = ap (λ (e : WaitKey × Subject). e.0) w.2 in (
        y.0,
        contains_had items y.0 y.1,
        sym t.0 ∙ ap (λ (k : WaitKey). k.minute) key,
        sym t.1 ∙ ap (λ (k : WaitKey). k.id) key,
        sym t.2 ∙ ap (λ (k : WaitKey). k.attempt) key,
      );
  only = all_there (λ (d : DownloadKey). IsWaiting c spid s d.minute.number d.id d.attempt) items
      (λ d at.
      let w = from_mapped download_of found d (only d at) in
      let it = picks.only w.0 w.1 in
      subst (λ (d : DownloadKey). IsWaiting c spid s d.minute.number d.id d.attempt) (sym w.2)
      (ap (λ k. get c.waits (wait_key k w.0.0.minute.number w.0.0.id w.0.0.attempt))
      (sym it.1.0) ∙ it.0 ∙ ap Some it.1.1));
  rises = rises;
}

abbrev pub subject_in_wait : WaitRow → SubjectImpl
subject_in_wait w = w.1

pub awaited_are : (c : Content) (spid : ℕ) (found : List WaitRow) (items : List SubjectImpl)
    → Picks wait_seen c.waits (λ k v. k.carrier ≡ spid) found
    → IsStrictlySortedBy (on key_of nat_cmp) items
    → ((x : SubjectImpl) → Has items x → Has (map subject_in_wait found) x)
    → ((x : SubjectImpl) → Has (map subject_in_wait found) x → (y : SubjectImpl) × Has items y
    × (on key_of nat_cmp x y ≡ Equal)) → AreWaitingSubjects c spid items
awaited_are c spid found items picks rises only each = record {
  each = λ s awaited.
      let w = picks.each (wait_key spid awaited.0 awaited.1 awaited.2) s awaited.3 refl in
      let y = each w.0.1 (has_mapped subject_in_wait found w.0 w.1) in
      let same : subject_of w.0.1 ≡ subject_of y.0 =
      subject_key-exact (subject_of w.0.1) (subject_of y.0)
      (nat_cmp-IsAntisymmetric _ _ y.2) in
      (y.0, contains_had items y.0 y.1, sym same ∙ ap (λ (e : WaitKey × Subject). e.1) w.2);
  only = all_there (λ x. IsAwaitedBy c spid (subject_of x)) items (λ x at.
      let w = from_mapped subject_in_wait found x (only x at) in
      let it = picks.only w.0 w.1 in (
        w.0.0.minute.number,
        w.0.0.id,
        w.0.0.attempt,
        ap (λ k. get c.waits (wait_key k w.0.0.minute.number w.0.0.id w.0.0.attempt))
            (sym it.1)
            ∙ it.0 ∙ ap (λ s. Some (subject_of s)) (sym w.2),
      ));
  rises = rises;
}
