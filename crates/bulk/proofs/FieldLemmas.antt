-- The texts of fields.
use Rattle.std.proofs.Common.{◌≡◌, ℕ, zero, suc, ◌≤◌, [], ◌∷◌, ◌++◌, length, refl, ◌∙◌, List, Option, Some, None, IfNone, subst, sym, arith}
use Rattle.std.specs.Prelude.{IsUtf8}
use Rattle.std.proofs.lemmas.Fmt.{IsAscii-decimal}
use Rattle.std.proofs.lemmas.Str.{IsUtf8-from_ascii}
use Rattle.csv.specs.Records.{field_at}
use Rattle.numbers.specs.Digits.{IsMinute, IsTn}
use Rattle.numbers.specs.Spids.{IsSpid}
use Rattle.numbers.specs.Texts.{spid_text, tn_text, minute_text}
use Rattle.numbers.proofs.DigitLemmas.{length-digits_of, digits_of-injective}
use Rattle.bulk.specs.Numbers.{AreNumbers}
use Rattle.numbers.proofs.SpidLemmas.{utf8_spid}

pub is_text_spid : (field : List ℕ) (n : ℕ) → IsSpid n → field ≡ spid_text n → IsUtf8 field
is_text_spid field n valid e = subst IsUtf8 (sym e) (utf8_spid n valid)

pub is_text_minute : (field : List ℕ) (n : ℕ) → IsMinute n → field ≡ minute_text n → IsUtf8 field
is_text_minute field n valid e =
    subst IsUtf8 (sym e) (IsUtf8-from_ascii (minute_text n) (IsAscii-decimal n (omega arith)))

pub if_none : {X P : Type 0} (o : Option X) → P → IfNone o P
if_none None p = p
if_none (Some x) p = tt

pub missing_field : (fields : List (List ℕ)) (i : ℕ) → field_at fields i ≡ None → length fields ≤ i
unfolding field_at
missing_field [] i e = omega arith
missing_field (f ∷ fs) zero e = cc
missing_field (f ∷ fs) (suc i) e = let h = missing_field fs i e in omega arith

-- The fields of a row of nine fields.
pub nine_fields :
    (xs : List (List ℕ)) (a b c d e f g h i : List ℕ) → length xs ≡ 9 →
    Some a ≡ field_at xs 0 → Some b ≡ field_at xs 1 → Some c ≡ field_at xs 2
    → Some d ≡ field_at xs 3 → Some e ≡ field_at xs 4 →
    Some f ≡ field_at xs 5 → Some g ≡ field_at xs 6 → Some h ≡ field_at xs 7
    → Some i ≡ field_at xs 8 →
    xs ≡ a ∷ b ∷ c ∷ d ∷ e ∷ f ∷ g ∷ h ∷ i ∷ []
unfolding field_at
nine_fields (a0 ∷ b0 ∷ c0 ∷ d0 ∷ e0 ∷ f0 ∷ g0 ∷ h0 ∷ i0 ∷ []) a b c d e f g h i n pa pb pc pd pe pf
    pg ph pi = cc
nine_fields [] a b c d e f g h i n pa pb pc pd pe pf pg ph pi = absurd (omega (arith, n))
nine_fields (x0 ∷ []) a b c d e f g h i n pa pb pc pd pe pf pg ph pi = absurd (omega (arith, n))
nine_fields (x0 ∷ x1 ∷ []) a b c d e f g h i n pa pb pc pd pe pf pg ph pi =
    absurd (omega (arith, n))
nine_fields (x0 ∷ x1 ∷ x2 ∷ []) a b c d e f g h i n pa pb pc pd pe pf pg ph pi =
    absurd (omega (arith, n))
nine_fields (x0 ∷ x1 ∷ x2 ∷ x3 ∷ []) a b c d e f g h i n pa pb pc pd pe pf pg ph pi =
    absurd (omega (arith, n))
nine_fields (x0 ∷ x1 ∷ x2 ∷ x3 ∷ x4 ∷ []) a b c d e f g h i n pa pb pc pd pe pf pg ph pi =
    absurd (omega (arith, n))
nine_fields (x0 ∷ x1 ∷ x2 ∷ x3 ∷ x4 ∷ x5 ∷ []) a b c d e f g h i n pa pb pc pd pe pf pg ph pi =
    absurd (omega (arith, n))
nine_fields (x0 ∷ x1 ∷ x2 ∷ x3 ∷ x4 ∷ x5 ∷ x6 ∷ []) a b c d e f g h i n pa pb pc pd pe pf pg ph pi =
    absurd (omega (arith, n))
nine_fields (x0 ∷ x1 ∷ x2 ∷ x3 ∷ x4 ∷ x5 ∷ x6 ∷ x7 ∷ []) a b c d e f g h i n pa pb pc pd pe pf pg ph
    pi = absurd (omega (arith, n))
nine_fields (x0 ∷ x1 ∷ x2 ∷ x3 ∷ x4 ∷ x5 ∷ x6 ∷ x7 ∷ x8 ∷ x9 ∷ xs) a b c d e f g h i n pa pb pc pd
    pe pf pg ph pi = absurd (omega (arith, n))

-- Two texts with a hyphen at the same place have the same parts.
pub same_parts : (a a' b b' : List ℕ) → length a ≡ length a' → a ++ 45 ∷ b ≡ a' ++ 45 ∷ b'
    → (a ≡ a') × (b ≡ b')
same_parts [] [] b b' n e = (refl, cc)
same_parts (x ∷ a) (y ∷ a') b b' n e =
    let first : x ≡ y = cc in
    let others : a ++ 45 ∷ b ≡ a' ++ 45 ∷ b' = cc in
    let h = same_parts a a' b b' (omega (arith, n)) others in (cc, h.1)
same_parts [] (y ∷ a') b b' n e = absurd (omega (arith, n))
same_parts (x ∷ a) [] b b' n e = absurd (omega (arith, n))

-- The text of a range has ten characters before its hyphen.
pub same_range : (field a b : List ℕ) (m n : ℕ) → length a ≡ 10 → field ≡ a ++ 45 ∷ b
    → field ≡ tn_text m ++ 45 ∷ tn_text n → (a ≡ tn_text m) × (b ≡ tn_text n)
same_range field a b m n ten e h =
    same_parts a (tn_text m) b (tn_text n) (ten ∙ sym (length-digits_of 10 m)) (sym e ∙ h)

-- Telephone numbers of one text are the same.
pub same_tn : (text : List ℕ) (m n : ℕ) → IsTn m → IsTn n → text ≡ tn_text m → text ≡ tn_text n
    → m ≡ n
same_tn text m n valid other e h = digits_of-injective 10 m n valid.0 other.0 (sym e ∙ h)

pub if_none_of : {X P Q : Type 0} (o : Option X) → (P → Q) → IfNone o P → IfNone o Q
if_none_of None f p = f p
if_none_of (Some x) f p = tt

pub are_numbers : (a b m n : ℕ) → a ≡ m → b ≡ n → AreNumbers m n → AreNumbers a b
are_numbers a b m n first last h = rw (first, last) h
