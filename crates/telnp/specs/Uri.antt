-- A tel URI, as a relation of a text, its number part and its parameters.
use Rattle.std.specs.Prelude.{◌≡◌, ℕ, ◌≤◌, true, false, List, ◌∷◌, ◌++◌, length, codes}
use Rattle.std.specs.List.{list_all, flat_map}
use Rattle.telnp.specs.Grammar.{is_global, is_parameter, lower, has_repetition}

-- The text of parameters, each after a `;`.
abbrev pub written : List (List ℕ) → List ℕ
written = flat_map (λ part. 59 ∷ part)

-- Holds if the text is a tel URI with this number part and these parameters, each without its
-- leading `;`.
--
-- It is narrower than RFC 3966 in three ways. A text has at most 2,048 bytes; a number is a global
-- one; a value has only paramchars, even in `isub`, where RFC 3966 allows any `uric`. It is wider
-- in two. Parameters may come in any order, whereas RFC 3966 puts `ext` and `isub` first, then
-- `phone-context`, then the others by name. The value of a known parameter (`ext`, `isub`,
-- `phone-context`, and `rn`, `cic` and their contexts of RFC 4694) may be any, though the RFCs give
-- each its own form, and allow a context only with a local number.
pub record IsTelUri (text number : List ℕ) (parameters : List (List ℕ)) : Type 0 where
  pub scheme : List ℕ
  -- RFC 3966, telephone-uri = "tel:" telephone-subscriber, and global-number = global-number-digits
  -- *par
  pub whole : text ≡ scheme ++ 58 ∷ (number ++ written parameters)
  -- RFC 3986, section 3.1: a scheme's letters may be in either case.
  pub scheme_is : lower scheme ≡ codes "tel"
  -- A limit of this profile only.
  pub short : length text ≤ 2048
  -- RFC 3966, global-number-digits = "+" *phonedigit DIGIT *phonedigit
  pub number_is : is_global number ≡ true
  -- RFC 3966, par = parameter / extension / isdn-subaddress, where parameter = ";" pname ["="
  -- pvalue]; RFC 4694, section 4, par =/ rn / cic / npdi.
  pub parameters_are : list_all is_parameter parameters ≡ true
  -- RFC 3966, section 3: each parameter name must not appear more than once.
  pub once : has_repetition parameters ≡ false
