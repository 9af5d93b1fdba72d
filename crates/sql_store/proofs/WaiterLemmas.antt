-- The carriers for which a broadcast is pending.
use Rattle.std.proofs.Common.{◌≡◌, ◌≢◌, ℕ, List, [], ◌∷◌, filter, Bool, true, false, cond, ◌&&◌, ◌||◌, Option, Some, None, inl, inr, refl, sym, ap, ◌∙◌, true≢false, nat_lt}
use Rattle.std.specs.Prelude.{◌==◌, is_some}
use Rattle.std.specs.List.{list_all, list_any}
use Rattle.std.specs.FinMap.{get, keys}
use Rattle.sqlite.specs.Order.{column}
use Rattle.sqlite.specs.Tree.{Trees}
use Rattle.sqlite_rules.specs.Lists.{Has}
use Rattle.sqlite_rules.proofs.ListLemmas.{some_has}
use Rattle.numbers.specs.Subjects.{Subject}
use Rattle.numbers.specs.declared.spid.Spid.{Spid}
use Rattle.model.specs.Content.{Content, WaitKey, wait_cmp, wait_key}
use Rattle.model.specs.Versions.{is_among}
use Rattle.settle.specs.Abstraction.{spid_of}
use Rattle.settle.specs.Reads.{AreCarriers, AreWaiters, is_last_wait}
use Rattle.settle.proofs.Among.{among-filtered, among_keys}
use Rattle.sql_rows.specs.Content.{content_in, wait_in, wait_shown}
use Rattle.sql_rows.proofs.Inversions.{number_small, wait_reads}
use Rattle.sql_rows.proofs.Lookups.{entry_from}
use Rattle.sql_rows.proofs.Orders.{same_wait}
use Rattle.model.proofs.Lists.{filter-map, all-map}
use Rattle.model.proofs.KeyOrders.{wait_total}
use Rattle.sql_rows.proofs.Picked.{Picks}
use Rattle.sql_rows.proofs.QueriesListed.{wait_seen}
use Rattle.sql_store.specs.Lists.{WaitRow, is_waiting}
use Rattle.numbers.proofs.Small.{and_both, and_false, true_both, equal_number, some_there, number_equal, same_truth}

none_kept : {A : Type 0} (q : A → Bool) → ((x : A) → q x ≡ false) → (xs : List A) → filter q xs ≡ []
none_kept q none [] = refl
none_kept q none (x ∷ xs) = ap (λ b. cond b (x ∷ filter q xs) (filter q xs)) (none x)
    ∙ none_kept q none xs

pub has_any : {A : Type 0} (p : A → Bool) (xs : List A) (x : A) → Has xs x → p x ≡ true
    → list_any p xs ≡ true
has_any p [] x at is = absurd at
has_any p (y ∷ ys) x (inl same) is = ap (λ b. b || list_any p ys) (ap p (sym same) ∙ is)
has_any p (y ∷ ys) x (inr at) is = or_true (p y) (has_any p ys x at is)
  where
    or_true : (b : Bool) → list_any p ys ≡ true → (b || list_any p ys) ≡ true
    or_true true e = refl
    or_true false e = e

module _ (c : Content) (minute id attempt : ℕ) where
  abbrev waits_there : ℕ → Bool
  waits_there k = is_some (get c.waits (wait_key k minute id attempt))

  module _ (waits : List WaitRow) (picks : Picks wait_seen c.waits (λ k v. (k.id ≡ id)
      × (k.attempt ≡ attempt)) waits) where
    waiting_is : (carrier : Spid) → waits_there carrier.number ≡ is_waiting waits minute carrier
    waiting_is carrier = same_truth (waits_there carrier.number) (is_waiting waits minute carrier)
        (λ e.
        let s = some_there (get c.waits (wait_key carrier.number minute id attempt)) e in
        let w = picks.each (wait_key carrier.number minute id attempt) s.0 s.1 (refl, refl) in
        let key = ap (λ (e : WaitKey × Subject). e.0) w.2 in
        has_any (λ (w : WaitRow). (w.0.minute.number == minute)
        && (w.0.carrier.number == carrier.number)) waits w.0 w.1
        (true_both _ _ (number_equal w.0.0.minute.number minute (ap (λ (k : WaitKey). k.minute)
        key))
        (number_equal w.0.0.carrier.number carrier.number (ap (λ (k : WaitKey). k.carrier) key))))
        (λ e.
        let w = some_has (λ (w : WaitRow). (w.0.minute.number == minute)
        && (w.0.carrier.number == carrier.number)) waits e in
        let test = and_both _ _ w.2 in
        let it = picks.only w.0 w.1 in
        ap (λ k. is_some (get c.waits (wait_key k minute id attempt)))
        (sym (equal_number w.0.0.carrier.number carrier.number test.1))
        ∙ ap (λ k. is_some (get c.waits (wait_key w.0.0.carrier.number k id attempt)))
        (sym (equal_number w.0.0.minute.number minute test.0))
        ∙ ap (λ k. is_some (get c.waits (wait_key w.0.0.carrier.number w.0.0.minute.number k
        attempt))) (sym it.1.0)
        ∙ ap (λ k. is_some (get c.waits (wait_key w.0.0.carrier.number w.0.0.minute.number
        w.0.0.id k))) (sym it.1.1)
        ∙ ap is_some it.0)

    pub waiters_are : (carriers : List Spid) → AreCarriers c carriers
        → AreWaiters c minute id attempt (filter (is_waiting waits minute) carriers)
    waiters_are carriers are = filter-map spid_of (is_waiting waits minute) waits_there waiting_is
        carriers ∙ ap (filter waits_there) are

  pub no_waiters : ((k : ℕ) → get c.waits (wait_key k minute id attempt) ≡ None)
      → AreWaiters c minute id attempt []
  no_waiters none = sym (none_kept waits_there (λ k. ap is_some (none k)) (keys c.carriers))

pub last_is : (c : Content) (wait : WaitKey) (waiters : List Spid)
    → AreWaiters c wait.minute wait.id wait.attempt waiters
    → list_all (λ (k : Spid). k.number == wait.carrier) waiters ≡ is_last_wait c wait
last_is c wait waiters are = all-map spid_of (λ k. k == wait.carrier) waiters
    ∙ ap (list_all (λ k. k == wait.carrier)) are

-- ---- the last pending download

all_pass : (p q : ℕ → Bool) → ((k : ℕ) → q k ≡ true → p k ≡ true) → (ks : List ℕ)
    → list_all p (filter q ks) ≡ true
all_pass p q each [] = refl
all_pass p q each (k ∷ ks) = by_cases (q k) refl (all_pass p q each ks)
  where
    by_cases : (b : Bool) → q k ≡ b → list_all p (filter q ks) ≡ true
        → list_all p (cond b (k ∷ filter q ks) (filter q ks)) ≡ true
    by_cases true e more = true_both (p k) (list_all p (filter q ks)) (each k e) more
    by_cases false e more = more

one_fails : (p : ℕ → Bool) (ks : List ℕ) (k : ℕ) → is_among k ks ≡ true → p k ≡ false
    → list_all p ks ≡ false
one_fails p [] k at is = absurd (true≢false (sym at))
one_fails p (j ∷ ks) k at is = by_cases (j == k) refl at (λ there. one_fails p ks k there is)
  where
    by_cases : (b : Bool) → (j == k) ≡ b → (b || is_among k ks) ≡ true
        → (is_among k ks ≡ true → list_all p ks ≡ false) → (p j && list_all p ks) ≡ false
    by_cases true e there more = ap (λ b. b && list_all p ks) (ap p (equal_number j k e) ∙ is)
    by_cases false e there more = ap (λ b. p j && b) (more there) ∙ and_false (p j)

not_equal : (m n : ℕ) → m ≢ n → (m == n) ≡ false
not_equal m n other = by_cases (m == n) refl
  where
    by_cases : (b : Bool) → (m == n) ≡ b → b ≡ false
    by_cases true e = absurd (other (equal_number m n e))
    by_cases false e = refl

module _ (c : Content) (wait : WaitKey) where
  abbrev waiting : ℕ → Bool
  waiting k = is_some (get c.waits (wait_key k wait.minute wait.id wait.attempt))

  -- A download is the last if each of its broadcast is pending for its own carrier.
  pub last_if_own : ((k : ℕ) (v : Subject)
      → get c.waits (wait_key k wait.minute wait.id wait.attempt) ≡ Some v → k ≡ wait.carrier)
      → is_last_wait c wait ≡ true
  last_if_own own = all_pass (λ k. k == wait.carrier) waiting
      (λ k there. let s = some_there (get c.waits (wait_key k wait.minute wait.id wait.attempt))
      there in number_equal k wait.carrier (own k s.0 s.1)) (keys c.carriers)

  -- A download is not the last if one is pending for another registered carrier.
  pub not_last : (k : ℕ) (v : Subject) → k ≢ wait.carrier → is_some (get c.carriers k) ≡ true
      → get c.waits (wait_key k wait.minute wait.id wait.attempt) ≡ Some v
      → is_last_wait c wait ≡ false
  not_last k v other registered got =
      one_fails (λ k. k == wait.carrier) (filter waiting (keys c.carriers)) k
      (among-filtered waiting k (keys c.carriers)
      ∙ true_both _ _ (among_keys c.carriers k ∙ registered) (ap is_some got))
      (not_equal k wait.carrier other)

-- No pending download has so great a key.
pub no_great_wait : (db : Trees) (k : WaitKey)
    → (nat_lt k.id 9223372036854775808 && nat_lt k.attempt 9223372036854775808) ≡ false
    → get (content_in db).waits k ≡ None
no_great_wait db k great = by_cases (get (content_in db).waits k) refl
  where
    by_cases : (o : Option Subject) → get (content_in db).waits k ≡ o → o ≡ None
    by_cases None e = refl
    by_cases (Some s) e =
        let f = entry_from wait_cmp wait_total wait_in wait_shown same_wait (db 10) k s e in
        let r = wait_reads f.row (k, s) f.reads in
        absurd (true≢false
        (sym (true_both _ _ (number_small (column f.row 3) k.id r.id)
        (number_small (column f.row 4) k.attempt r.attempt)) ∙ great))
