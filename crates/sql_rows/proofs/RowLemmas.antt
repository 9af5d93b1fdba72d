-- The effect of finding, deleting and adding rows on the map that they read as.
use Rattle.std.proofs.Common.{◌≡◌, List, [], ◌∷◌, ◌++◌, filter, Bool, true, false, not, cond, Option, Some, None, refl, sym, ap, subst, ◌∙◌, true≢false, Ordering, Less, Equal, Greater, ◌||◌}
use Rattle.std.specs.Ordering.{eq_by_cmp, is_eq, match_ordering}
use Rattle.std.specs.Cmp.{IsTotalOrder, eq_by_cmp_equiv}
use Rattle.std.specs.List.{filter_map, cons_option}
use Rattle.std.specs.FinMap.{find, get, insert, remove, get-from_entries, get-insert, get-remove, same_map, IsAntisymmetric}
use Rattle.sqlite.specs.Order.{Row, value_cmp}
use Rattle.sqlite.specs.Tree.{put_row, rowid}
use Rattle.sqlite.specs.Edit.{is_taken}
use Rattle.sql_rows.specs.Content.{content_of}

pub same_first : {X : Type 0} {x y : X} {xs ys : List X} → x ∷ xs ≡ y ∷ ys → x ≡ y
same_first e = cc

pub same_rest : {X : Type 0} {x y : X} {xs ys : List X} → x ∷ xs ≡ y ∷ ys → xs ≡ ys
same_rest e = cc

module _ {K V : Type 0} (R : K → K → Ordering) (read : Row → Option (K × V)) (k : K) (p : Row
    → Bool) where
  -- Holds if each row that reads with the key passes the test.
  abbrev pub Catches : Type 0
  Catches = (r : Row) (e : K × V) → read r ≡ Some e → eq_by_cmp R k e.0 ≡ true → p r ≡ true

  -- Holds if exactly the rows that read with the key pass the test.
  abbrev pub Tests : Type 0
  Tests = (r : Row) (e : K × V) → read r ≡ Some e → p r ≡ eq_by_cmp R k e.0

  apart : Catches → (r : Row) (e : K × V) → read r ≡ Some e → p r ≡ false → (b : Bool)
      → eq_by_cmp R k e.0 ≡ b → b ≡ false
  apart catches r e is fails true t = absurd (true≢false (sym (catches r e is t) ∙ fails))
  apart catches r e is fails false t = refl

  pub find_none : Catches → (rows : List Row) → filter p rows ≡ []
      → find R k (filter_map read rows) ≡ None
  find_none catches [] h = refl
  find_none catches (r ∷ rows) h = by_cases (p r) refl (read r) refl h (find_none catches rows)
    where
      by_cases : (b : Bool) → p r ≡ b → (o : Option (K × V)) → read r ≡ o
          → cond b (r ∷ filter p rows) (filter p rows) ≡ []
          → (filter p rows ≡ [] → find R k (filter_map read rows) ≡ None)
          → find R k (cons_option o (filter_map read rows)) ≡ None
      by_cases true e o d h more = absurd cc
      by_cases false e None d h more = more h
      by_cases false e (Some x) d h more = rw (apart catches r x d e _ refl) (more h)

  pub find_one : Catches → (rows : List Row) (r0 : Row) (e0 : K × V) → read r0 ≡ Some e0
      → eq_by_cmp R k e0.0 ≡ true → filter p rows ≡ r0 ∷ []
      → find R k (filter_map read rows) ≡ Some e0.1
  find_one catches [] r0 e0 is tie h = absurd cc
  find_one catches (r ∷ rows) r0 e0 is tie h =
      by_cases (p r) refl (read r) refl h (find_one catches rows r0 e0 is tie)
    where
      by_cases : (b : Bool) → p r ≡ b → (o : Option (K × V)) → read r ≡ o
          → cond b (r ∷ filter p rows) (filter p rows) ≡ r0 ∷ []
          → (filter p rows ≡ r0 ∷ [] → find R k (filter_map read rows) ≡ Some e0.1)
          → find R k (cons_option o (filter_map read rows)) ≡ Some e0.1
      by_cases true e o d h more =
          let same : o ≡ Some e0 = sym d ∙ ap read (same_first h) ∙ is in
          subst (λ o. find R k (cons_option o (filter_map read rows)) ≡ Some e0.1) (sym same)
          (rw tie refl)
      by_cases false e None d h more = more h
      by_cases false e (Some x) d h more = rw (apart catches r x d e _ refl) (more h)

  module _ (o : IsTotalOrder R) (tests : Tests) where
    find_kept : (rows : List Row) (q : K)
        → find R q (filter_map read (filter (λ r. not (p r)) rows)) ≡ cond (eq_by_cmp R q k) None
        (find R q (filter_map read rows))
    find_kept [] q = elim (eq_by_cmp R q k) as (λ b. ◌≡◌ {A = Option V} None (cond b None None))
        [ true ↦ refl | false ↦ refl ]
    find_kept (r ∷ rows) q = by_cases (p r) refl (read r) refl (find_kept rows q)
      where
        none_here : (e : K × V) → p r ≡ true → read r ≡ Some e → (b c : Bool) → eq_by_cmp R q k ≡ b
            → eq_by_cmp R q e.0 ≡ c → (rest : Option V)
            → cond b None rest ≡ cond b None (cond c (Some e.1) rest)
        none_here e t d true c x y rest = refl
        none_here e t d false false x y rest = refl
        none_here e t d false true x y rest =
            let tie : eq_by_cmp R k e.0 ≡ true = sym (tests r e d) ∙ t in
            let eqv = eq_by_cmp_equiv o in
            absurd (true≢false (sym (eqv.symm q k ∙ eqv.congr k e.0 q tie ∙ eqv.symm e.0 q ∙ y)
            ∙ x))

        stays : (e : K × V) → p r ≡ false → read r ≡ Some e → (b c : Bool) → eq_by_cmp R q k ≡ b
            → eq_by_cmp R q e.0 ≡ c → (rest : Option V)
            → cond c (Some e.1) (cond b None rest) ≡ cond b None (cond c (Some e.1) rest)
        stays e t d true true x y rest =
            let eqv = eq_by_cmp_equiv o in
            let tie : eq_by_cmp R k e.0 ≡ true = sym (eqv.congr q k e.0 x) ∙ y in
            absurd (true≢false (sym tie ∙ sym (tests r e d) ∙ t))
        stays e t d true false x y rest = refl
        stays e t d false c x y rest = refl

        by_cases : (b : Bool) → p r ≡ b → (x : Option (K × V)) → read r ≡ x
            → find R q (filter_map read (filter (λ r. not (p r)) rows)) ≡ cond (eq_by_cmp R q k)
            None (find R q (filter_map read rows))
            → find R q (filter_map read (cond (not b) (r ∷ filter (λ r. not (p r)) rows)
            (filter (λ r. not (p r)) rows))) ≡ cond (eq_by_cmp R q k) None
            (find R q (cons_option x (filter_map read rows)))
        by_cases true t None d more = more
        by_cases true t (Some e) d more = more ∙ none_here e t d _ _ refl refl _
        by_cases false t None d more = rw d more
        by_cases false t (Some e) d more =
            rw d (ap (cond (eq_by_cmp R q e.0) (Some e.1)) more ∙ stays e t d _ _ refl refl _)

    -- Keeping the rows that fail the test removes the key.
    pub content_kept : IsAntisymmetric R → (rows : List Row)
        → content_of R read (filter (λ r. not (p r)) rows) ≡ remove (content_of R read rows) k
    content_kept same rows =
        same_map o same _ _ (λ q. get-from_entries o _ q ∙ find_kept rows q
        ∙ sym (get-remove o _ k q ∙ ap (cond (eq_by_cmp R q k) None) (get-from_entries o _ q)))

-- Holds if one more row is added, at some place.
pub record Adds (new : Row) (rows after : List Row) : Type 0 where
  pub front : List Row
  pub rest : List Row
  pub was : rows ≡ front ++ rest
  pub is : after ≡ front ++ new ∷ rest

pub put_adds : (new : Row) (rows : List Row) → is_taken rows new ≡ false
    → Adds new rows (put_row new rows)
put_adds new [] free = record { front = []; rest = []; was = refl; is = refl }
put_adds new (r ∷ rows) free =
    by_cases (value_cmp (rowid r) (rowid new)) refl free (put_adds new rows)
  where
    by_cases : (o : Ordering) → value_cmp (rowid r) (rowid new) ≡ o
        → (is_eq o || is_taken rows new) ≡ false
        → (is_taken rows new ≡ false → Adds new rows (put_row new rows))
        → Adds new (r ∷ rows) (match_ordering o (r ∷ put_row new rows) (new ∷ rows)
        (new ∷ r ∷ rows))
    by_cases Less e free more = let a = more free in record {
      front = r ∷ a.front;
      rest = a.rest;
      was = ap (λ l. r ∷ l) a.was;
      is = ap (λ l. r ∷ l) a.is;
    }
    by_cases Equal e free more = absurd (true≢false free)
    by_cases Greater e free more = record { front = []; rest = r ∷ rows; was = refl; is = refl }

module _ {K V : Type 0} {R : K → K → Ordering} (o : IsTotalOrder R) where
  find_among : (k : K) (v : V) (q : K) (xs ys : List (K × V)) → find R k (xs ++ ys) ≡ None
      → find R q (xs ++ (k, v) ∷ ys) ≡ cond (eq_by_cmp R q k) (Some v) (find R q (xs ++ ys))
  find_among k v q [] ys none = refl
  find_among k v q (a ∷ xs) ys none =
      by_cases (eq_by_cmp R k a.0) refl none (λ h. find_among k v q xs ys h)
    where
      turn : (b c : Bool) → eq_by_cmp R k a.0 ≡ false → eq_by_cmp R q k ≡ b → eq_by_cmp R q a.0 ≡ c
          → (rest : Option V) → cond c (Some a.1) (cond b (Some v) rest) ≡ cond b (Some v)
          (cond c (Some a.1) rest)
      turn true true f x y rest =
          absurd (true≢false (sym y ∙ (eq_by_cmp_equiv o).congr q k a.0 x ∙ f))
      turn true false f x y rest = refl
      turn false c f x y rest = refl

      by_cases : (b : Bool) → eq_by_cmp R k a.0 ≡ b → cond b (Some a.1) (find R k (xs ++ ys)) ≡ None
          → (find R k (xs ++ ys) ≡ None → find R q (xs ++ (k, v) ∷ ys) ≡ cond (eq_by_cmp R q k)
          (Some v) (find R q (xs ++ ys)))
          → cond (eq_by_cmp R q a.0) (Some a.1) (find R q (xs ++ (k, v) ∷ ys))
          ≡ cond (eq_by_cmp R q k) (Some v) (cond (eq_by_cmp R q a.0) (Some a.1)
          (find R q (xs ++ ys)))
      by_cases true e h more = absurd cc
      by_cases false e h more = ap (cond (eq_by_cmp R q a.0) (Some a.1)) (more h)
          ∙ turn _ _ e refl refl _

  filter_map_join : (read : Row → Option (K × V)) (xs ys : List Row)
      → filter_map read (xs ++ ys) ≡ filter_map read xs ++ filter_map read ys
  filter_map_join read [] ys = refl
  filter_map_join read (x ∷ xs) ys =
      elim (read x) as (λ e. cons_option e (filter_map read (xs ++ ys)) ≡ cons_option e
      (filter_map read xs) ++ filter_map read ys)
      [ None ↦ filter_map_join read xs ys | Some e ↦ ap (λ l. e ∷ l) (filter_map_join read xs ys) ]

  -- Adding a row with a new key inserts it.
  pub content_added : IsAntisymmetric R → (read : Row → Option (K × V)) (new : Row) (k : K) (v : V)
      (rows after : List Row) → read new ≡ Some (k, v) → get (content_of R read rows) k ≡ None
      → Adds new rows after
      → content_of R read after ≡ insert (content_of R read rows) k v
  content_added same read new k v rows after reads free a = same_map o same _ _ (λ q.
      get-from_entries o _ q ∙ parts q
      ∙ sym (get-insert o _ k v q ∙ ap (cond (eq_by_cmp R q k) (Some v)) (get-from_entries o _ q
      ∙ ap (λ l. find R q (filter_map read l)) a.was
      ∙ ap (find R q) (filter_map_join read a.front a.rest))))
    where
      none : find R k (filter_map read a.front ++ filter_map read a.rest) ≡ None
      none = ap (find R k) (sym (filter_map_join read a.front a.rest))
          ∙ ap (λ l. find R k (filter_map read l)) (sym a.was)
          ∙ sym (get-from_entries o (filter_map read rows) k) ∙ free

      whole : filter_map read after ≡ filter_map read a.front ++ (k, v) ∷ filter_map read a.rest
      whole = ap (filter_map read) a.is ∙ filter_map_join read a.front (new ∷ a.rest)
          ∙ ap (λ e. filter_map read a.front ++ cons_option e (filter_map read a.rest)) reads

      parts : (q : K) → find R q (filter_map read after) ≡ cond (eq_by_cmp R q k) (Some v)
          (find R q (filter_map read a.front ++ filter_map read a.rest))
      parts q = ap (find R q) whole ∙ find_among k v q _ _ none
