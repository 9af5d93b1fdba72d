-- A router whose rows have no parameter finds a path by its text.
use Rattle.std.proofs.Common.{◌≡◌, ℕ, zero, suc, ◌-◌, ◌<◌, List, [], ◌∷◌, length, map, Bool, true, false, ◌&&◌, cond, Option, Some, None, refl, sym, ap, ◌∙◌, subst, arith, ◌+◌, drop, get_or, Bor}
use Rattle.std.proofs.lemmas.List.{drop_more}
use Rattle.std.proofs.lemmas.Bool.Decides.{nat_tests}
use Rattle.std.proofs.lemmas.Slice.Eq.{bytes_eq-Decides}
use Rattle.std.proofs.lemmas.Str.{IsUtf8-from_is_utf8}
use Rattle.std.specs.Prelude.{option_and_then, option_map, ◌==◌, nat_lt, Result, Ok, Err, IfErr, OnOk}
use Rattle.std.specs.List.{list_all}
use Rattle.std.specs.Str.{bytes_eq, is_utf8, chars, IsUtf8}
use lib.Utf8.{encode}
use Rattle.matchit.specs.Rows.{RowsOf, param_token, catch_all_token}
use Rattle.matchit.specs.Router.{RouteOf, Refused, Inserted, InsertsRead, nearest, route_from}
use Rattle.matchit.specs.Route.{Scan, parse_route}
use Rattle.matchit.specs.declared.error.InsertError.{InsertError}
use Rattle.matchit.specs.declared.error.InsertError.TheVariants.{Conflict, OutOfMemory, InvalidParam, InvalidParamSegment, InvalidCatchAll}
use Rattle.matchit.specs.Seek.{first, seek, own, step, or_else, param_step, has_slash}
use Rattle.http_messages.specs.declared.paths.Route.{Route}
use Rattle.http_messages.specs.Table.{fixed_row, path_among, paths, table, all_placed, placed_if_read, placed_unless, texts_of}
use Rattle.numbers.proofs.Small.{and_both}

abbrev are_bytes : List ℕ → Bool
are_bytes [] = true
are_bytes (x ∷ t) = nat_lt x 256 && are_bytes t

-- Holds if all tokens of each row are bytes.
abbrev AreFixed : {K : Type 0} → RowsOf K → Type 0
AreFixed [] = Unit {0}
AreFixed (row ∷ rs) = (are_bytes row.0 ≡ true) × AreFixed rs

abbrev row_at : {K : Type 0} → RowsOf K → List ℕ → Option K
row_at [] p = None
row_at (row ∷ rs) p = cond (bytes_eq row.0 p) (Some row.1) (row_at rs p)

module _ {K : Type 0} where
  own_is : (rs : RowsOf K) → own rs ≡ row_at rs []
  own_is [] = refl
  own_is (([], key) ∷ rs) = refl
  own_is ((x ∷ t, key) ∷ rs) = own_is rs

  step_by : (b x : ℕ) (u : List ℕ) (key : K) (rs rest : RowsOf K) (p : List ℕ) (c : Bool)
      → (x == b) ≡ c → row_at rest p ≡ row_at rs (b ∷ p)
      → row_at (cond c ((u, key) ∷ rest) rest) p ≡ cond (c && bytes_eq u p) (Some key)
      (row_at rs (b ∷ p))
  step_by b x u key rs rest p true e ih = ap (cond (bytes_eq u p) (Some key)) ih
  step_by b x u key rs rest p false e ih = ih

  step_is : (b : ℕ) (rs : RowsOf K) (p : List ℕ) → row_at (step b rs) p ≡ row_at rs (b ∷ p)
  step_is b [] p = refl
  step_is b (([], key) ∷ rs) p = step_is b rs p
  step_is b ((x ∷ u, key) ∷ rs) p =
      step_by b x u key rs (step b rs) p (x == b) refl (step_is b rs p)

  fixed_by : (u : List ℕ) (key : K) (rest : RowsOf K) (c : Bool) → are_bytes u ≡ true
      → AreFixed rest → AreFixed (cond c ((u, key) ∷ rest) rest)
  fixed_by u key rest true h r = (h, r)
  fixed_by u key rest false h r = r

  step_fixed : (b : ℕ) (rs : RowsOf K) → AreFixed rs → AreFixed (step b rs)
  step_fixed b [] h = tt
  step_fixed b (([], key) ∷ rs) h = step_fixed b rs h.1
  step_fixed b ((x ∷ u, key) ∷ rs) h =
      fixed_by u key (step b rs) (x == b) (and_both _ _ h.0).1 (step_fixed b rs h.1)

  -- No row continues with a token that is no byte.
  no_token : (token : ℕ) (rs : RowsOf K) → 255 < token → AreFixed rs → step token rs ≡ []
  no_token token [] l h = refl
  no_token token (([], key) ∷ rs) l h = no_token token rs l h.1
  no_token token ((x ∷ u, key) ∷ rs) l h =
      let small = (and_both (nat_lt x 256) (are_bytes u) h.0).0 in
      let differs : (x == token) ≡ false = grind (arith, nat_tests, small, l) in
      rw differs (no_token token rs l h.1)

  or_else_none : (a : Option K) → or_else a None ≡ a
  or_else_none None = refl
  or_else_none (Some x) = refl

  both_none : (a b : Option K) → a ≡ None → b ≡ None → or_else a b ≡ None
  both_none None b e f = f
  both_none (Some x) b e f = e

  none_by : (c : Bool) (m : ℕ) (p : List ℕ) → ((n : ℕ) → seek {K = K} n [] p ≡ None)
      → seek {K = K} ((cond {A = ℕ × RowsOf K} c (0, []) (m, [])).0 - 1) (cond {A =
      ℕ × RowsOf K} c (0, []) (m, [])).1 p ≡ None
  none_by true m p h = h _
  none_by false m p h = h _

  -- A search among no rows finds nothing.
  seek_none : (n : ℕ) (p : List ℕ) → seek {K = K} n [] p ≡ None
  unfolding seek param_step
  seek_none n [] = refl
  seek_none zero (b ∷ p) =
      both_none _ _ (seek_none 0 p) (both_none _ _ (none_by (has_slash (b ∷ p)) (suc (length p)) p
      (λ n. seek_none n p)) refl)
  seek_none (suc n) (b ∷ p) = seek_none n p

  param_none : (b : ℕ) (p : List ℕ) → seek {K = K} ((param_step {K = K} [] (b ∷ p)).0 - 1)
      (param_step {K = K} [] (b ∷ p)).1 p ≡ None
  unfolding param_step
  param_none b p = none_by (has_slash (b ∷ p)) (suc (length p)) p (λ n. seek_none n p)

  pub seek_is : (rs : RowsOf K) (p : List ℕ) → AreFixed rs → seek 0 rs p ≡ row_at rs p
  unfolding seek
  seek_is rs [] h = own_is rs
  seek_is rs (b ∷ p) h =
      let first_none =
      subst (λ (t : RowsOf K). seek {K = K} ((param_step t (b ∷ p)).0 - 1) (param_step t (b ∷ p)).1
      p ≡ None) (sym (no_token param_token rs (omega arith) h)) (param_none b p) in
      let second_none = ap (own {K = K}) (no_token catch_all_token rs (omega arith) h) in
      ap (or_else (seek 0 (step b rs) p)) (both_none _ _ first_none second_none) ∙ or_else_none _
      ∙ seek_is (step b rs) p (step_fixed b rs h) ∙ step_is b rs p

among_by : (p : List ℕ × Route) (ps : List (List ℕ × Route)) (target : List ℕ) (c : Bool)
    → option_map (λ (r : RouteOf Route). r.value) (row_at (map fixed_row ps) target) ≡ path_among ps
    target
    → option_map (λ (r : RouteOf Route). r.value)
    (cond c (Some (fixed_row p).1) (row_at (map fixed_row ps) target)) ≡ cond c (Some p.1)
    (path_among ps target)
among_by p ps target true ih = refl
among_by p ps target false ih = ih

among_is : (ps : List (List ℕ × Route)) (target : List ℕ)
    → option_map (λ (r : RouteOf Route). r.value) (row_at (map fixed_row ps) target) ≡ path_among ps
    target
among_is [] target = refl
among_is (p ∷ ps) target = among_by p ps target (bytes_eq p.0 target) (among_is ps target)

are_fixed : {K : Type 0} (rs : RowsOf K) → list_all (λ row. are_bytes row.0) rs ≡ true → AreFixed rs
are_fixed [] all = tt
are_fixed (row ∷ rs) all =
    let both = and_both (are_bytes row.0) (list_all (λ r. are_bytes r.0) rs) all in
    (both.0, are_fixed rs both.1)

table_fixed : AreFixed table
table_fixed = are_fixed table refl

pub path_is : (target : List ℕ) → option_map (λ (r : RouteOf Route). r.value) (first table target)
    ≡ path_among paths target
path_is target = ap (option_map (λ (r : RouteOf Route). r.value)) (seek_is table target table_fixed)
    ∙ among_is paths target

pub found_path : (target : List ℕ) (r : RouteOf Route) → first table target ≡ Some r
    → Some r.value ≡ path_among paths target
found_path target r e = sym (ap (option_map (λ (r : RouteOf Route). r.value)) e) ∙ path_is target

pub no_path : (target : List ℕ) → first table target ≡ None → None ≡ path_among paths target
no_path target e = sym (ap (option_map (λ (r : RouteOf Route). r.value)) e) ∙ path_is target

-- What is not UTF-8 is no constant path.
not_among_by : (p : List ℕ × Route) (rest : Option Route) (target : List ℕ) (c : Bool)
    → bytes_eq p.0 target ≡ c → IsUtf8 p.0 → ¬ (IsUtf8 target) → None ≡ rest
    → None ≡ cond c (Some p.1) rest
not_among_by p rest target true e text n ih =
    absurd (n (subst IsUtf8 ((bytes_eq-Decides p.0 target).0 e) text))
not_among_by p rest target false e text n ih = ih

abbrev AreTexts : List (List ℕ × Route) → Type 0
AreTexts [] = Unit {0}
AreTexts (p ∷ ps) = (is_utf8 p.0 ≡ true) × AreTexts ps

not_among : (ps : List (List ℕ × Route)) (target : List ℕ) → AreTexts ps → ¬ (IsUtf8 target)
    → None ≡ path_among ps target
not_among [] target texts n = refl
not_among (p ∷ ps) target texts n =
    not_among_by p (path_among ps target) target (bytes_eq p.0 target) refl
    (IsUtf8-from_is_utf8 p.0 texts.0) n (not_among ps target texts.1 n)

all_texts : (ps : List (List ℕ × Route)) → list_all (λ p. is_utf8 p.0) ps ≡ true → AreTexts ps
all_texts [] all = tt
all_texts (p ∷ ps) all =
    let both = and_both (is_utf8 p.0) (list_all (λ q. is_utf8 q.0) ps) all in
    (both.0, all_texts ps both.1)

are_texts : AreTexts paths
unfolding is_utf8 chars encode
are_texts = all_texts paths refl

pub no_text : (target : List ℕ) → ¬ (IsUtf8 target) → None ≡ path_among paths target
no_text target n = not_among paths target are_texts n

-- If no row conflicts with the new one, only an allocation failure refuses it.
is_memory : {T : Type 0} (p : List ℕ) (rs : RowsOf (RouteOf T)) (e : InsertError)
    → nearest p rs ≡ None → Refused p rs e → e ≡ OutOfMemory
is_memory p rs (Conflict with) none h = cc
is_memory p rs OutOfMemory none h = refl
is_memory p rs InvalidParamSegment none h = elim h [ ]
is_memory p rs InvalidParam none h = elim h [ ]
is_memory p rs InvalidCatchAll none h = elim h [ ]

-- If the first path and all after it can be placed, those after it can once the first is.
module _ (old new rows : RowsOf (RouteOf Route)) (ps : List (List ℕ × Route)) where
  abbrev pub IsPlaced : Result (Unit {0}) InsertError → Type 0
  IsPlaced r = OnOk r (all_placed ps new ≡ Some rows) × IfErr r (λ e. e ≡ OutOfMemory)

  by_near : (route : RouteOf Route) (near : Option (RouteOf Route))
      → nearest route.pattern old ≡ near → (r : Result (Unit {0}) InsertError)
      → Inserted route old new r
      → option_and_then (all_placed ps) (placed_unless old route near) ≡ Some rows → IsPlaced r
  by_near route None none (Ok u) put all = (ap (all_placed ps) put.1 ∙ all, tt)
  by_near route None none (Err e) put all = (tt, is_memory route.pattern old e none put.1)
  by_near route (Some near) is r put all = cc

  by_read : (value : Route) (read : Result Scan InsertError) (r : Result (Unit {0}) InsertError)
      → InsertsRead read value old new r
      → option_and_then (all_placed ps) (placed_if_read old value read) ≡ Some rows → IsPlaced r
  by_read value (Ok read) r put all =
      by_near (route_from read value) (nearest (route_from read value).pattern old) refl r put all
  by_read value (Err e) r put all = cc

  pub placed_on : (p : List ℕ × Route) (r : Result (Unit {0}) InsertError)
      → InsertsRead (parse_route p.0) p.1 old new r → all_placed (p ∷ ps) old ≡ Some rows
      → IsPlaced r
  placed_on p r put all = by_read p.1 (parse_route p.0) r put all

-- The code's next path is placed.
pub placed_next : (all : List (Bor (List ℕ) × Route)) (i : ℕ) (default : Bor (List ℕ) × Route)
    (old new rows : RowsOf (RouteOf Route)) (r : Result (Unit {0}) InsertError) → i < length all
    → InsertsRead (parse_route (get_or all i default).0.now) (get_or all i default).1 old new r
    → all_placed (texts_of (drop i all)) old ≡ Some rows
    → IsPlaced old new rows (texts_of (drop (i + 1) all)) r
placed_next all i default old new rows r inside put all_of =
    placed_on old new rows (texts_of (drop (i + 1) all))
    ((get_or all i default).0.now, (get_or all i default).1) r put
    (ap (λ xs. all_placed (texts_of xs) old) (sym (drop_more all i default inside)) ∙ all_of)
