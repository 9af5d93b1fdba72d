-- The texts that a writer gets, one after another.
use Rattle.std.proofs.Common.{◌+◌, ℕ, List, ◌++◌, Option, length, take, subst, sym, arith}
use Rattle.std.proofs.KnownBytes.{Appends-trans}
use Rattle.std.proofs.lemmas.List.{length-append, take-append-le}
use Rattle.std.proofs.Math.Seq.{take-append-add}
use Rattle.std.specs.Prelude.{OnErr, Result, Ok, Err}
use Rattle.std.specs.Io.KnownBytes.{Appends}
use Rattle.http_messages.specs.Sending.{AppendsPrefix}

-- A prefix of the first text is a prefix of both.
pub front_of_first : (had has : Option (List ℕ)) (xs ys : List ℕ) → AppendsPrefix had has xs
    → AppendsPrefix had has (xs ++ ys)
front_of_first had has xs ys (n, fits, written) = (
  n,
  omega (arith, length-append xs ys, fits),
  subst (Appends had has) (sym (take-append-le n xs ys fits)) written,
)

-- The first text and a prefix of the second are a prefix of both.
pub front_behind : (had mid has : Option (List ℕ)) (xs ys : List ℕ) → Appends had mid xs
    → AppendsPrefix mid has ys → AppendsPrefix had has (xs ++ ys)
front_behind had mid has xs ys first (n, fits, written) = (
  length xs + n,
  omega (arith, length-append xs ys, fits),
  subst (Appends had has) (sym (take-append-add xs ys n)) (Appends-trans had mid has xs (take n ys)
      first written),
)

pub on_err : {T E : Type 0} (r : Result T E) (P : Type 0) → P → OnErr r P
on_err (Ok x) P p = tt
on_err (Err e) P p = p

pub on_err_too : {T E : Type 0} (r : Result T E) (P Q : Type 0) → (P → Q) → OnErr r P → OnErr r Q
on_err_too (Ok x) P Q f p = tt
on_err_too (Err e) P Q f p = f p
