-- Heads that are written plainly.
use Rattle.std.proofs.Common.{◌≡◌, ℕ, ◌<◌, ◌≤◌, Bool, true, false, IsTrue, All, List, Option, [], ◌∷◌, ◌++◌, length, reverse, take, drop, ◌-◌, codes, Some, None, refl, sym, ap, ◌∙◌, subst, arith, length-append, append-nil, append_assoc}
use Rattle.httparse.specs.Grammar.{AllPass, Field, IsField, IsRequestHead, IsToken, crlf, RequestHead, is_ows, is_token_byte, is_uri_byte, is_value_byte, print_request, skip_ows, trim_ows}
use Rattle.httparse.proofs.TrimLemmas.{AllPass-reverse, skip_ows_no, trim_ows_space}
use Rattle.std.specs.List.{list_all}
use Rattle.std.proofs.lemmas.List.Elements.{All-cons}
use Rattle.std.proofs.lemmas.List.Sums.{AllPass-from_list_all}
use Rattle.std.proofs.lemmas.List.{take_all, length-drop}
use Rattle.std.specs.Char.{is_ascii_digit}
use Rattle.std.specs.Str.{all_ascii_digits}
use Rattle.std.proofs.Math.Seq.{drop-append_seam}
use Rattle.http_messages.specs.Plain.{IsCallerThen, IsHeadAt, IsLengthAndEnd, IsRouteThen, is_visible}
use Rattle.http_messages.specs.Parsing.{IsCaller, IsNamed, IsRequestOf}
use Rattle.http_messages.specs.declared.message.Request.{Request}
use Rattle.http_messages.specs.declared.paths.Method.TheVariants.{Post, Get}
use Rattle.http_messages.proofs.NumberLemmas.{none_number}
use Rattle.numbers.proofs.DigitLemmas.{utf8_small}
use Rattle.numbers.specs.Spids.{is_spid_character}
use Rattle.numbers.specs.Texts.{spid_text}
use Rattle.numbers.specs.declared.spid.Spid.{Spid}
use Rattle.std.proofs.lemmas.Bool.Decides.{nat_tests}
use Rattle.http_messages.specs.Fields.{body_length, values_of, number_of}

-- ---- the head that the bytes print

abbrev spid_field : List ℕ → Field
spid_field s = record { name = codes "x-spid"; raw = 32 ∷ s; end = crlf }

abbrev length_field : List ℕ → Field
length_field d = record { name = codes "content-length"; raw = 32 ∷ d; end = crlf }

-- A head with a caller and these further fields.
abbrev plain : (method target spid : List ℕ) → List Field → RequestHead
plain method target spid more = record {
  blank = [];
  method = method;
  target = target;
  minor = 1;
  line_end = crlf;
  fields = spid_field spid ∷ more;
  last = crlf;
}

abbrev E : List ℕ
E = codes "\r\n"

five : (a b c d e r : List ℕ)
    → ((((a ++ b) ++ c) ++ d) ++ e) ++ r ≡ a ++ (b ++ (c ++ (d ++ (e ++ r))))
five a b c d e r = simp append_assoc

ended : (s rest : List ℕ) → (((s ++ E) ++ []) ++ E) ++ rest ≡ s ++ (E ++ (E ++ rest))
ended s rest =
    ap (λ (t : List ℕ). (t ++ E) ++ rest) (append-nil (s ++ E)) ∙ append_assoc (s ++ E) E rest
    ∙ append_assoc s E (E ++ rest)

without_length : (m t s rest : List ℕ) → print_request (plain m t s []) ++ rest
    ≡ m ++ (32 ∷ (t ++ (codes " HTTP/1.1\r\nx-spid: " ++ (s ++ (codes "\r\n\r\n" ++ rest)))))
unfolding print_request
without_length m t s rest =
    five m (32 ∷ t) (codes " HTTP/1.1") E _ rest
    ∙ ap (λ (v : List ℕ). m ++ (32 ∷ (t ++ (codes " HTTP/1.1\r\nx-spid: " ++ v)))) (ended s rest)

followed : (s w rest : List ℕ) → (((s ++ E) ++ w) ++ E) ++ rest ≡ s ++ (E ++ (w ++ (E ++ rest)))
followed s w rest = simp append_assoc

with_length : (m t s d rest : List ℕ) → print_request (plain m t s (length_field d ∷ [])) ++ rest
    ≡ m ++ (32 ∷ (t ++ (codes " HTTP/1.1\r\nx-spid: " ++ (s ++ (codes "\r\ncontent-length: "
    ++ (d ++ (codes "\r\n\r\n" ++ rest)))))))
unfolding print_request
with_length m t s d rest =
    five m (32 ∷ t) (codes " HTTP/1.1") E _ rest
    ∙ ap (λ (v : List ℕ). m ++ (32 ∷ (t ++ (codes " HTTP/1.1\r\nx-spid: " ++ v))))
    (followed s _ rest
    ∙ ap (λ (v : List ℕ). s ++ (codes "\r\ncontent-length: " ++ v))
    (ap (λ (u : List ℕ). u ++ (E ++ rest)) (append-nil (d ++ E)) ∙ append_assoc d E (E ++ rest)))

-- ---- what the head asks

module _ (m t s : List ℕ) (trimmed : trim_ows (32 ∷ s) ≡ s) where
  caller_of_plain : values_of (codes "x-spid") (plain m t s []) ≡ s ∷ []
  caller_of_plain = ap (λ (v : List ℕ). v ∷ []) trimmed

  length_of_plain : body_length (plain m t s []) ≡ Some 0
  length_of_plain = refl

  module _ (d : List ℕ) (bare : trim_ows (32 ∷ d) ≡ d) where
    caller_with : values_of (codes "x-spid") (plain m t s (length_field d ∷ [])) ≡ s ∷ []
    caller_with = ap (λ (v : List ℕ). v ∷ []) trimmed

    length_with : body_length (plain m t s (length_field d ∷ [])) ≡ number_of d
    length_with = ap number_of bare

-- ---- visible bytes

weaken : (P Q : ℕ → Type 0) → ((b : ℕ) → P b → Q b) → (xs : List ℕ) → All P xs → All Q xs
weaken P Q f xs h = λ k d lt. f _ (h k d lt)

character_visible : (b : ℕ) → IsTrue (is_spid_character b) → IsTrue (is_visible b)
character_visible b h = grind (arith, nat_tests)

-- A provider is four visible bytes.
spid_visible : (caller : Spid) → AllPass is_visible (spid_text caller.number)
spid_visible caller =
    weaken _ _ character_visible (spid_text caller.number)
    (AllPass-from_list_all is_spid_character (spid_text caller.number) caller.valid)

visible_not_ows : (b : ℕ) → IsTrue (is_visible b) → false ≡ is_ows b
visible_not_ows b h = grind arith

visible_uri : (b : ℕ) → IsTrue (is_visible b) → IsTrue (is_uri_byte b)
visible_uri b h = grind arith

visible_value : (b : ℕ) → IsTrue (is_visible b) → IsTrue (is_value_byte b)
visible_value b h = grind arith

visible_ascii : (b : ℕ) → IsTrue (is_visible b) → b < 128
visible_ascii b h = grind arith

unskipped : (v : List ℕ) → AllPass is_visible v → skip_ows v ≡ v
unskipped [] pass = refl
unskipped (b ∷ bs) pass = skip_ows_no refl (visible_not_ows b (pass 0 0 (omega arith)))

trimmed : (v : List ℕ) → AllPass is_visible v → trim_ows (32 ∷ v) ≡ v
trimmed v pass =
    trim_ows_space v (unskipped v pass)
    (unskipped (reverse v) (AllPass-reverse is_visible v pass))

spaced_value : (v : List ℕ) → AllPass is_visible v → AllPass is_value_byte (32 ∷ v)
spaced_value v pass =
    All-cons (λ b. IsTrue (is_value_byte b)) 32 v refl (weaken _ _ visible_value v pass)

-- ---- the head is one of the grammar's

named : (name : List ℕ) → 0 < length name → list_all is_token_byte name ≡ true → IsToken name
named name some all = (some, AllPass-from_list_all is_token_byte name all)

spid_is_field : (s : List ℕ) → AllPass is_visible s → IsField (spid_field s)
unfolding is_token_byte
spid_is_field s pass = record {
  name = named (codes "x-spid") (omega arith) refl;
  raw = spaced_value s pass;
}

length_is_field : (d : List ℕ) → AllPass is_visible d → IsField (length_field d)
unfolding is_token_byte
length_is_field d pass = record {
  name = named (codes "content-length") (omega arith) refl;
  raw = spaced_value d pass;
}

named_post : IsToken (codes "POST")
unfolding is_token_byte
named_post = named (codes "POST") (omega arith) refl

named_get : IsToken (codes "GET")
unfolding is_token_byte
named_get = named (codes "GET") (omega arith) refl

none_left : All IsField []
none_left k d lt = absurd (omega (arith, lt))

plain_is_head : (m t s : List ℕ) (more : List Field) → IsToken m → 0 < length t
    → AllPass is_visible t → AllPass is_visible s → All IsField more
    → IsRequestHead (plain m t s more)
plain_is_head m t s more token some path spid fields = record {
  method = token;
  target = (some, weaken _ _ visible_uri t path);
  target_text = utf8_small t (weaken _ _ visible_ascii t path);
  minor = search arith;
  fields = All-cons IsField (spid_field s) more (spid_is_field s spid) fields;
}

-- ---- the bytes begin with the head

pub all_left : (n : ℕ) (xs : List ℕ) → take (length xs - n) (drop n xs) ≡ drop n xs
all_left n xs = take_all (length xs - n) (drop n xs) (omega (arith, length-drop n xs))

digit_visible : (b : ℕ) → IsTrue (is_ascii_digit b) → IsTrue (is_visible b)
digit_visible b h = grind arith

digits_visible : (d : List ℕ) (n : ℕ) → number_of d ≡ Some n → AllPass is_visible d
digits_visible d n number = by_test (all_ascii_digits d) refl
  where
    by_test : (t : Bool) → all_ascii_digits d ≡ t → AllPass is_visible d
    by_test true e = weaken _ _ digit_visible d (AllPass-from_list_all is_ascii_digit d e)
    by_test false e =
        let x : None ≡ Some n = none_number d e ∙ number in
        let y : ⊥ = cc in
        absurd y

head_at : (bytes body : List ℕ) (h : RequestHead) (request : Request) → IsRequestHead h
    → bytes ≡ print_request h ++ body → length h.fields ≤ 64 → IsRequestOf h request
    → request.length ≤ 1048576 → IsHeadAt bytes request (length bytes - length body)
head_at bytes body h request valid all few asks small =
    let len : length bytes - length body ≡ length (print_request h) =
    omega (arith, ap length all, length-append (print_request h) body)
    in
    let left : drop (length bytes - length body) bytes ≡ body =
    ap (drop (length bytes - length body)) all ∙ ap (λ n. drop n (print_request h ++ body)) len
    ∙ drop-append_seam (print_request h) body
    in
    record {
      head = h;
      reads = (valid, all ∙ ap (λ (t : List ℕ). print_request h ++ t) (sym left));
      len_is = len;
      few = few;
      asks = asks;
      small = small;
    }

named_by : (spid : Spid) (caller : Option Spid) → caller ≡ Some spid
    → IsNamed (spid_text spid.number) caller
named_by spid caller e = subst (IsNamed (spid_text spid.number)) (sym e) refl

pub post_at : (bytes after named more body : List ℕ) (spid : Spid) (size : ℕ) (request : Request)
    → bytes ≡ codes "POST " ++ after → IsRouteThen after request.route named
    → IsCallerThen named spid more → IsLengthAndEnd more size body → size ≤ 1048576
    → request.method ≡ Post → request.caller ≡ Some spid → request.length ≡ size
    → request.closes ≡ false → IsHeadAt bytes request (length bytes - length body)
post_at bytes after named more body spid size request all routed called ending small method caller
    length_is closes_is =
    let s = spid_text spid.number in
    let t = routed.0 in
    let d = ending.digits in
    let h = plain (codes "POST") t s (length_field d ∷ []) in
    let digits = digits_visible d size ending.number in
    let bare = trimmed d digits in
    let visible = spid_visible spid in
    let bare_spid = trimmed s visible in
    head_at bytes body h request
    (plain_is_head (codes "POST") t s (length_field d ∷ []) named_post routed.1.some
    routed.1.path_is visible
    (All-cons IsField (length_field d) [] (length_is_field d digits) none_left))
    (all
    ∙ ap (λ (u : List ℕ). codes "POST " ++ u)
    (routed.1.all
    ∙ ap (λ (u : List ℕ). t ++ (codes " HTTP/1.1\r\nx-spid: " ++ u))
    (called ∙ ap (λ (u : List ℕ). s ++ u) ending.all))
    ∙ sym (with_length (codes "POST") t s d body))
    (omega arith)
    (record {
      route = routed.2;
      method = method;
      caller = subst (λ (v : List (List ℕ)). IsCaller v request.caller)
          (sym (caller_with (codes "POST") t s bare_spid d bare)) (named_by spid request.caller caller);
      length = length_with (codes "POST") t s bare_spid d bare ∙ ending.number ∙ ap Some (sym length_is);
      closes = closes_is;
    })
    (omega (arith, length_is, small))

pub get_at : (bytes after named more body : List ℕ) (spid : Spid) (request : Request)
    → bytes ≡ codes "GET " ++ after → IsRouteThen after request.route named
    → IsCallerThen named spid more → more ≡ codes "\r\n\r\n" ++ body → request.method ≡ Get
    → request.caller ≡ Some spid → request.length ≡ 0 → request.closes ≡ false
    → IsHeadAt bytes request (length bytes - length body)
get_at bytes after named more body spid request all routed called ending method caller length_is
    closes_is =
    let s = spid_text spid.number in
    let t = routed.0 in
    let h = plain (codes "GET") t s [] in
    let visible = spid_visible spid in
    let bare_spid = trimmed s visible in
    head_at bytes body h request
    (plain_is_head (codes "GET") t s [] named_get routed.1.some routed.1.path_is visible
    none_left)
    (all
    ∙ ap (λ (u : List ℕ). codes "GET " ++ u)
    (routed.1.all
    ∙ ap (λ (u : List ℕ). t ++ (codes " HTTP/1.1\r\nx-spid: " ++ u))
    (called ∙ ap (λ (u : List ℕ). s ++ u) ending))
    ∙ sym (without_length (codes "GET") t s body))
    (omega arith)
    (record {
      route = routed.2;
      method = method;
      caller = subst (λ (v : List (List ℕ)). IsCaller v request.caller)
          (sym (caller_of_plain (codes "GET") t s bare_spid)) (named_by spid request.caller caller);
      length = length_of_plain (codes "GET") t s bare_spid ∙ ap Some (sym length_is);
      closes = closes_is;
    })
    (omega (arith, length_is))
