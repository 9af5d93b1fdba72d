-- The values of the fields with a name, field by field.
use Rattle.std.proofs.Common.{◌≡◌, ℕ, ◌+◌, ◌<◌, List, [], ◌∷◌, ◌++◌, length, take, get_or, map, Bool, true, false, ◌||◌, drop, cond, refl, ap, ◌∙◌, sym, subst, arith, ◌≤◌, length-append}
use Rattle.std.specs.Str.{bytes_eq}
use Rattle.std.proofs.lemmas.Slice.Eq.{bytes_eq-Decides}
use Rattle.std.proofs.lemmas.List.{take_more, map-append, take-append-drop}
use Rattle.std.proofs.lemmas.List.Folds.{list_any-append}
use Rattle.std.specs.List.{list_any}
use Rattle.httparse.specs.declared.spans.Span.{Span}
use Rattle.httparse.specs.declared.spans.HeaderSpan.{HeaderSpan}
use Rattle.httparse.specs.Spans.{header_bytes, span_bytes, IsWithin}
use Rattle.http_messages.specs.declared.head.Occurrence.{Occurrence}
use Rattle.http_messages.specs.declared.head.Occurrence.TheVariants.{Absent, Once, Twice}
use Rattle.http_messages.specs.Fields.{lower, values_in, IsFound, IsFoundWithin}
use Rattle.numbers.proofs.Small.{or_right, or_left}

cond-append : (b : Bool) (v : List ℕ) (xs ys : List (List ℕ))
    → cond b (v ∷ xs) xs ++ ys ≡ cond b (v ∷ (xs ++ ys)) (xs ++ ys)
cond-append true v xs ys = refl
cond-append false v xs ys = refl

pub values_in-append : (name : List ℕ) (ps qs : List (List ℕ × List ℕ))
    → values_in name (ps ++ qs) ≡ values_in name ps ++ values_in name qs
values_in-append name [] qs = refl
values_in-append name (p ∷ ps) qs =
    rw (values_in-append name ps qs)
    (sym (cond-append (bytes_eq (lower p.0) name) p.1 (values_in name ps) (values_in name qs)))

pub values_more : (name buf : List ℕ) (hs : List HeaderSpan) (i : ℕ) (d : HeaderSpan)
    → i < length hs →
    values_in name (map (header_bytes buf) (take (i + 1) hs)) ≡ values_in name
    (map (header_bytes buf) (take i hs)) ++ values_in name (header_bytes buf (get_or hs i d) ∷ [])
values_more name buf hs i d l = rw (
  take_more hs i d l,
  map-append (header_bytes buf),
  values_in-append name,
) refl

pub one_value : (name : List ℕ) (p : List ℕ × List ℕ) → lower p.0 ≡ name
    → values_in name (p ∷ []) ≡ p.1 ∷ []
one_value name p e = rw ((bytes_eq-Decides (lower p.0) name).1 e) refl

no_value_by : (name : List ℕ) (p : List ℕ × List ℕ) (b : Bool) → bytes_eq (lower p.0) name ≡ b
    → ¬ (lower p.0 ≡ name) → values_in name (p ∷ []) ≡ []
no_value_by name p true e n = absurd (n ((bytes_eq-Decides (lower p.0) name).0 e))
no_value_by name p false e n = rw e refl

pub no_value : (name : List ℕ) (p : List ℕ × List ℕ) → ¬ (lower p.0 ≡ name)
    → values_in name (p ∷ []) ≡ []
no_value name p n = no_value_by name p (bytes_eq (lower p.0) name) refl n

pub found_first : (buf : List ℕ) (f : Occurrence) (vs ws : List (List ℕ)) (s : Span) → f ≡ Absent
    → IsFound buf f vs → ws ≡ vs ++ span_bytes buf s ∷ [] → IsWithin (length buf) s
    → IsFound buf (Once s) ws
found_first buf f vs ws s e h w inside = (
  w ∙ ap (λ (t : List (List ℕ)). t ++ span_bytes buf s ∷ [])
      (subst (λ (g : Occurrence). IsFound buf g vs) e h),
  inside,
)

pub found_again : (buf : List ℕ) (f : Occurrence) (vs ws : List (List ℕ)) (v : List ℕ)
    → (f ≡ Absent → ⊥)
    → IsFound buf f vs → ws ≡ vs ++ v ∷ [] → 2 ≤ length ws
found_again buf Absent vs ws v n h w = absurd (n refl)
found_again buf (Once s) vs ws v n h w = rw (w, h.0) (omega arith)
found_again buf Twice vs ws v n h w = rw w (omega (arith, length-append vs (v ∷ [])))

-- Whether some value of the fields with this name passes the test.
abbrev pub any_value : (List ℕ → Bool) → List ℕ → List ℕ → List HeaderSpan → Bool
any_value P name buf hs = list_any P (values_in name (map (header_bytes buf) hs))

or_false : (a b : Bool) → a ≡ false → b ≡ false → (a || b) ≡ false
or_false a b e f = rw (e, f) refl

any_more : (P : List ℕ → Bool) (name buf : List ℕ) (hs : List HeaderSpan) (i : ℕ) (d : HeaderSpan)
    → i < length hs →
    any_value P name buf (take (i + 1) hs) ≡ (any_value P name buf (take i hs) || list_any P
    (values_in name (header_bytes buf (get_or hs i d) ∷ [])))
any_more P name buf hs i d l = ap (list_any P) (values_more name buf hs i d l)
    ∙ list_any-append P _ _

pub any_none : (P : List ℕ → Bool) (name buf : List ℕ) (hs : List HeaderSpan) (i : ℕ)
    (d : HeaderSpan) → i < length hs
    → any_value P name buf (take i hs) ≡ false
    → ¬ (lower (header_bytes buf (get_or hs i d)).0 ≡ name) → any_value P name buf (take (i + 1) hs)
    ≡ false
any_none P name buf hs i d l e n =
    any_more P name buf hs i d l
    ∙ or_false _ _ e (ap (list_any P) (no_value name (header_bytes buf (get_or hs i d)) n))

pub any_other : (P : List ℕ → Bool) (name buf : List ℕ) (hs : List HeaderSpan) (i : ℕ)
    (d : HeaderSpan) → i < length hs
    → any_value P name buf (take i hs) ≡ false → lower (header_bytes buf (get_or hs i d)).0 ≡ name
    → P (header_bytes buf (get_or hs i d)).1 ≡ false → any_value P name buf (take (i + 1) hs)
    ≡ false
any_other P name buf hs i d l e n p =
    any_more P name buf hs i d l
    ∙ or_false _ _ e (ap (list_any P) (one_value name (header_bytes buf (get_or hs i d)) n)
    ∙ or_false _ _ p refl)

pub any_found : (P : List ℕ → Bool) (name buf : List ℕ) (hs : List HeaderSpan) (i : ℕ)
    (d : HeaderSpan) → i < length hs
    → lower (header_bytes buf (get_or hs i d)).0 ≡ name → P (header_bytes buf (get_or hs i d)).1
    ≡ true → any_value P name buf hs ≡ true
any_found P name buf hs i d l n p =
    let here : any_value P name buf (take (i + 1) hs) ≡ true =
    any_more P name buf hs i d l
    ∙ or_right _ _ (ap (list_any P) (one_value name (header_bytes buf (get_or hs i d)) n)
    ∙ or_left _ false p) in
    let cut : take (i + 1) hs ++ drop (i + 1) hs ≡ hs = take-append-drop (i + 1) hs in
    ap (any_value P name buf) (sym cut)
    ∙ ap (list_any P) (ap (values_in name) (map-append (header_bytes buf) (take (i + 1) hs)
    (drop (i + 1) hs)) ∙ values_in-append name _ _) ∙ list_any-append P _ _ ∙ or_left _ _ here

eq_false_by : (xs ys : List ℕ) (b : Bool) → bytes_eq xs ys ≡ b → ¬ (xs ≡ ys)
    → bytes_eq xs ys ≡ false
eq_false_by xs ys true e n = absurd (n ((bytes_eq-Decides xs ys).0 e))
eq_false_by xs ys false e n = e

pub eq_false : (xs ys : List ℕ) → ¬ (xs ≡ ys) → bytes_eq xs ys ≡ false
eq_false xs ys n = eq_false_by xs ys _ refl n

pub found_within : (buf : List ℕ) (found : Occurrence) (values : List (List ℕ))
    → IsFound buf found values → IsFoundWithin (length buf) found
found_within buf Absent values is = tt
found_within buf (Once span) values is = is.1
found_within buf Twice values is = tt
