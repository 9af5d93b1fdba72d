-- Protective versions with consecutive ids: one more of them.
use Rattle.std.proofs.Common.{◌≡◌, ℕ, suc, ◌+◌, ◌<◌, List, [], ◌∷◌, ◌++◌, length, get_or, take, map, ap, sym, ◌∙◌, subst, arith}
use Rattle.std.proofs.lemmas.List.{take_more, map-append, length-map, length-take-le}
use Rattle.numbers.specs.declared.tn.Tn.{Tn}
use Rattle.numbers.specs.Subjects.{Subject, Number}
use Rattle.version.specs.declared.version.Version.{Version as VersionImpl}
use Rattle.pool.specs.declared.donation.Donation.{Donation}
use Rattle.pool.specs.Donations.{tn_subject, AreProtective, IsProtective}
use Rattle.model.specs.Windows.{WindowSet}

pub one-more : (w : WindowSet) (caller minute : ℕ) (d : Donation) (from : ℕ) (ss : List Subject)
    (es : List (ℕ × VersionImpl)) (s : Subject) (id : ℕ) (v : VersionImpl) →
    AreProtective w caller minute d from ss es → id ≡ from + length ss
    → IsProtective w caller minute d s v → AreProtective w caller minute d from (ss ++ s ∷ [])
    (es ++ (id, v) ∷ [])
one-more w caller minute d from [] [] s id v are at is = (omega (arith, at), is, tt)
one-more w caller minute d from [] (e ∷ es) s id v are at is = absurd are
one-more w caller minute d from (t ∷ ts) [] s id v are at is = absurd are
one-more w caller minute d from (t ∷ ts) (e ∷ es) s id v are at is = (
  are.0,
  are.1,
  one-more w caller minute d (suc from) ts es s id v are.2 (omega (arith, at)) is,
)

-- The version of the next number extends the list.
pub next-made : (w : WindowSet) (caller minute : ℕ) (d : Donation) (from : ℕ) (ns : List Tn) (i : ℕ)
    (t : Tn) (id : ℕ) (v : VersionImpl) (old new : List (ℕ × VersionImpl)) →
    new ≡ old ++ (id, v) ∷ [] → i < length ns → t ≡ get_or ns i t → id ≡ from + i
    → AreProtective w caller minute d from (map tn_subject (take i ns)) old →
    IsProtective w caller minute d (Number t.number) v
    → AreProtective w caller minute d from (map tn_subject (take (i + 1) ns)) new
next-made w caller minute d from ns i t id v old new is within item at are protective =
    let short : length (take i ns) ≡ i = length-take-le i ns (omega (arith, within)) in
    let before : length (map tn_subject (take i ns)) ≡ i =
    length-map (take i ns) tn_subject ∙ short in
    let listed : map tn_subject (take i ns) ++ Number t.number ∷ [] ≡ map tn_subject
    (take (i + 1) ns) =
    sym (ap (map tn_subject) (take_more ns i t within) ∙ map-append tn_subject (take i ns)
    (get_or ns i t ∷ []) ∙ ap (λ (u : Tn). map tn_subject (take i ns) ++ tn_subject u ∷ [])
    (sym item)) in
    subst (λ es. AreProtective w caller minute d from (map tn_subject (take (i + 1) ns)) es)
    (sym is)
    (subst (λ ss. AreProtective w caller minute d from ss (old ++ (id, v) ∷ [])) listed
    (one-more w caller minute d from (map tn_subject (take i ns)) old (Number t.number) id v are
    (omega (arith, at, before)) protective))
