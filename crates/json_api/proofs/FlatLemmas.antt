-- The members read one after another.
use Rattle.std.proofs.Common.{◌≡◌, ℕ, ◌<◌, ◌≤◌, ◌+◌, ◌-◌, Bool, true, false, Option, None, List, [], ◌∷◌, ◌++◌, get_or, length, Some, refl, ap, sym, ◌∙◌, arith}
use Rattle.std.specs.Prelude.{take, option_map, option_and_then}
use Rattle.std.specs.Borrow.{Bor}
use Rattle.std.specs.Str.{IsUtf8, bytes_eq}
use Rattle.std.proofs.lemmas.Slice.Eq.{bytes_eq-Decides}
use Rattle.std.proofs.lemmas.List.{take_more}
use Rattle.json.specs.Token.{Token}
use Rattle.json.specs.Print.{quoted}
use Rattle.json.proofs.Printed.Utf8.{IsUtf8-quoted}
use Rattle.json.specs.Lex.{tokens}
use Rattle.json.specs.Json as json
use Rattle.json.specs.Json.{Parse, parse_map, members, read_key, value, if_last}
use Rattle.json.proofs.Grammar.{value_is, value-begin_object, members_end, members_more}
use Rattle.serde_json.specs.Data.{Data, Members, no_members, null, boolean, number, string, object, unsigned, put}
use Rattle.serde_json.specs.Read.{of_json, of_members, converted, number_of, read}
use Rattle.serde_json.specs.Find.{get_member, as_array}
use Rattle.serde_json.proofs.Views.{get_member-put, get_member-put_other}
use Rattle.json_api.specs.Flat.{scalar_data, flat_data, members_upon, read_object}
use Rattle.json_api.specs.Forms.{items}
use Rattle.json_api.specs.Scanned.{IsScalarThen}
use Rattle.json_api.specs.declared.flat.Scalar.{Scalar}
use Rattle.json_api.specs.declared.flat.Scalar.TheVariants.{Null, Flag, Whole, Text}
use Rattle.json_api.specs.declared.flat.Member.{Member}

pub members_upon-last : (found : Members) (ms : List Member) (m : Member)
    → members_upon found (ms ++ m ∷ []) ≡ put m.key.now (scalar_data m.value)
    (members_upon found ms)
members_upon-last found [] m = refl
members_upon-last found (n ∷ ms) m =
    members_upon-last (put n.key.now (scalar_data n.value) found) ms m

module _ (ms : List Member) (i : ℕ) (d : Member) (within : i < length ms) where
  abbrev here : Member
  here = get_or ms i d

  upon : members_upon no_members (take (i + 1) ms) ≡ put here.key.now (scalar_data here.value)
      (members_upon no_members (take i ms))
  upon = ap (members_upon no_members) (take_more ms i d within) ∙ members_upon-last no_members
      (take i ms) here

  pub found_here : (key : List ℕ) → here.key.now ≡ key
      → get_member key (members_upon no_members (take (i + 1) ms)) ≡ Some (scalar_data here.value)
  found_here key is =
      ap (get_member key) upon
      ∙ ap (λ k. get_member key (put k (scalar_data here.value)
      (members_upon no_members (take i ms)))) is ∙ get_member-put key (scalar_data here.value)
      (members_upon no_members (take i ms))

  pub found_before : (key : List ℕ) → (key ≡ here.key.now → ⊥)
      → get_member key (members_upon no_members (take (i + 1) ms)) ≡ get_member key
      (members_upon no_members (take i ms))
  found_before key other =
      ap (get_member key) upon ∙ get_member-put_other key here.key.now (scalar_data here.value)
      (members_upon no_members (take i ms)) other

-- The lookup passes the members from the last to the first.
module _ (ms seen : List Member) (same : seen ≡ ms) (left : ℕ) (d : Member) (some : 0 < left)
    (within : left ≤ length ms) where
  again : (left - 1) + 1 ≡ left
  again = omega arith

  pub found_at : (key : List ℕ) → (get_or seen (left - 1) d).key.now ≡ key
      → get_member key (members_upon no_members (take left ms))
      ≡ Some (scalar_data (get_or seen (left - 1) d).value)
  found_at key is =
      ap (λ n. get_member key (members_upon no_members (take n ms))) (sym again)
      ∙ found_here ms (left - 1) d (omega arith) key (ap (λ l. (get_or l (left - 1) d).key.now)
      (sym same) ∙ is)
      ∙ ap (λ l. Some (scalar_data (get_or l (left - 1) d).value)) (sym same)

  pub passed_at : (key : List ℕ) → (key ≡ (get_or seen (left - 1) d).key.now → ⊥)
      → get_member key (members_upon no_members (take (left - 1) ms)) ≡ get_member key
      (members_upon no_members (take left ms))
  passed_at key other =
      sym (found_before ms (left - 1) d (omega arith) key
      (λ e. other (e ∙ ap (λ l. (get_or l (left - 1) d).key.now) (sym same))))
      ∙ ap (λ n. get_member key (members_upon no_members (take n ms))) again

-- ---- scalars

pub of_string : (s : List ℕ) (depth : ℕ) (rest : List Token)
    → converted of_json (value depth (Token.string s ∷ rest)) ≡ Some (string s, rest)
of_string s depth rest = ap (converted of_json) (value_is depth (Token.string s ∷ rest))

-- A text in quotes is a plain value.
pub text_then : (bytes : List ℕ) (text : Bor (List ℕ)) (rest : List ℕ) → IsUtf8 text.now
    → bytes ≡ quoted text.now ++ rest → IsScalarThen bytes (Text text) rest
text_then bytes text rest utf8 is = (
  Token.string text.now,
  record {
    printable = tt;
    ended = refl;
    utf8 = IsUtf8-quoted text.now utf8;
    is = of_string text.now;
  },
  is,
)

pub of_flag : (b : Bool) (depth : ℕ) (rest : List Token)
    → converted of_json (value depth (Token.boolean b ∷ rest)) ≡ Some (boolean b, rest)
of_flag b depth rest = ap (converted of_json) (value_is depth (Token.boolean b ∷ rest))

pub of_null : (depth : ℕ) (rest : List Token) → converted of_json (value depth (Token.null ∷ rest))
    ≡ Some (null, rest)
of_null depth rest = ap (converted of_json) (value_is depth (Token.null ∷ rest))

pub of_number : (s : List ℕ) (n : ℕ) → number_of s ≡ Some (unsigned n)
    → (depth : ℕ) (rest : List Token) → converted of_json (value depth (Token.number s ∷ rest))
    ≡ Some (number (unsigned n), rest)
of_number s n is depth rest =
    ap (converted of_json) (value_is depth (Token.number s ∷ rest))
    ∙ ap (λ o. option_map {U = Data × List Token} (λ d. (d, rest)) (option_map number o)) is

-- ---- the grammar under the conversion to data, one member at a time

abbrev pick : {A : Type 0} → A → Option A → A
pick d None = d
pick d (Some a) = a

found : {B : Type 0} (r s : List Token) (x : Option B) (b : B) → option_map {U =
    B × List Token} (λ y. (y, r)) x ≡ Some (b, s) → (r ≡ s) × (x ≡ Some b)
found r s None b e = absurd (cc)
found r s (Some y) b e = let same = ap (pick (y, r)) e in
    (ap (λ p. p.1) same, ap (λ p. Some p.0) same)

converted_some : {A B : Type 0} (f : A → Option B) (o : Option (A × List Token)) (b : B)
    (r : List Token) → converted f o ≡ Some (b, r) → (a : A) × (o ≡ Some (a, r)) × (f a ≡ Some b)
converted_some f None b r e = absurd (cc)
converted_some f (Some p) b r e = let both = found p.1 r (f p.0) b e in
    (p.0, ap (λ s. Some (p.0, s)) both.0, both.1)

with_member : (k : List ℕ) (j : json.Json) (d : Data) (old : Members) → of_json j ≡ Some d
    → (o : Option (json.Members × List Token))
    → converted (λ ms. of_members ms old) (parse_map (json.member k j) o)
    ≡ converted (λ ms. of_members ms (put k d old)) o
with_member k j d old e None = refl
with_member k j d old e (Some p) = rw e

module _ (p : Parse json.Json) (old : Members) where
  pub member_read : (n : ℕ) (k : List ℕ) (ts s r : List Token) (d : Data) → 0 < n
      → read_key ts ≡ Some (Some k, s) → converted of_json (p s) ≡ Some (d, r)
      → converted (λ ms. of_members ms old) (members p n ts)
      ≡ converted (λ ms. of_members ms (put k d old)) (members p (n - 1) r)
  member_read n k ts s r d some key e =
      let j = converted_some of_json (p s) d r e in
      ap (converted (λ ms. of_members ms old)) (members_more p n k ts s r j.0 some key j.1)
      ∙ with_member k j.0 d old j.2 _

  pub members_over : (n : ℕ) (ts r : List Token) → length ts ≤ n → read_key ts ≡ Some (None, r)
      → converted (λ ms. of_members ms old) (members p n ts) ≡ Some (old, r)
  members_over n ts r enough e =
      ap (converted (λ ms. of_members ms old)) (members_end p n ts r enough e)

-- ---- the whole text

pub whole_object : (text : List ℕ) (ts : List Token) (ms : Members)
    → tokens text ≡ Token.begin_object ∷ ts → read_object ts ≡ Some (ms, [])
    → read text ≡ Some (object ms)
whole_object text ts ms begins found =
    let parts = converted_some (λ js. of_members js no_members) (members (value 126) (length ts) ts)
    ms [] found in
    ap (λ l. option_and_then of_json (option_and_then (λ p. if_last p.0 p.1) (value 127 l))) begins
    ∙ ap (λ o. option_and_then of_json (option_and_then (λ p. if_last p.0 p.1) o))
    (value-begin_object 127 ts (omega arith))
    ∙ ap (λ o. option_and_then of_json (option_and_then (λ p. if_last p.0 p.1)
    (parse_map json.object o))) parts.1
    ∙ ap (option_map object) parts.2

-- ---- no array is under a key

no_array : (s : Scalar) → as_array (scalar_data s) ≡ None
no_array Null = refl
no_array (Flag b) = refl
no_array (Whole n) = refl
no_array (Text t) = refl

no_array_put : (k l : List ℕ) (s : Scalar) (found : Members) (b : Bool) → bytes_eq k l ≡ b
    → option_and_then as_array (get_member k found) ≡ None
    → option_and_then as_array (get_member k (put l (scalar_data s) found)) ≡ None
no_array_put k l s found true e none =
    ap (λ (x : List ℕ). option_and_then as_array (get_member k (put x (scalar_data s) found)))
    (sym ((bytes_eq-Decides k l).0 e))
    ∙ ap (option_and_then as_array) (get_member-put k (scalar_data s) found) ∙ no_array s
no_array_put k l s found false e none =
    let other : k ≡ l → ⊥ = λ same. (let yes : bytes_eq k l ≡ true =
    (bytes_eq-Decides k l).1 same in cc) in
    ap (option_and_then as_array) (get_member-put_other k l (scalar_data s) found other) ∙ none

no_array_upon : (k : List ℕ) (found : Members) (ms : List Member)
    → option_and_then as_array (get_member k found) ≡ None
    → option_and_then as_array (get_member k (members_upon found ms)) ≡ None
no_array_upon k found [] none = none
no_array_upon k found (m ∷ ms) none =
    no_array_upon k (put m.key.now (scalar_data m.value) found) ms (no_array_put k m.key.now m.value
    found (bytes_eq k m.key.now) refl none)

pub no_items : (k : List ℕ) (ms : List Member) → None ≡ items k (flat_data ms)
unfolding items
no_items k ms = sym (no_array_upon k no_members ms refl)
