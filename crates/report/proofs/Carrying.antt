-- The figures of carriers, one carrier at a time.
use Rattle.std.proofs.Common.{◌≡◌, ◌∙◌, ℕ, ◌+◌, ◌<◌, List, [], ◌∷◌, ◌++◌, map, drop, length, get_or, ap, sym, append_assoc, add-one, drop-cons}
use Rattle.std.proofs.lemmas.List.{map-append}
use Rattle.numbers.specs.declared.spid.Spid.{Spid}
use Rattle.settle.specs.Abstraction.{spid_of}
use Rattle.report.specs.declared.carriers.CarrierFigures.{CarrierFigures}

abbrev pub name_of : CarrierFigures → ℕ
name_of f = f.spid.number

-- The next carrier is done.
pub carriers_on : (done : List CarrierFigures) (items : List Spid) (i : ℕ) (one : CarrierFigures)
    (spid : Spid) → i < length items → spid ≡ get_or items i spid → one.spid ≡ spid
    → map name_of done ++ map spid_of (drop i items) ≡ map spid_of items
    → map name_of (done ++ one ∷ []) ++ map spid_of (drop (i + 1) items) ≡ map spid_of items
carriers_on done items i one spid inside is same before =
    ap (λ xs. xs ++ map spid_of (drop (i + 1) items)) (map-append name_of done (one ∷ []))
    ∙ append_assoc (map name_of done) (name_of one ∷ []) (map spid_of (drop (i + 1) items))
    ∙ ap (λ xs. map name_of done ++ xs)
    (ap (λ n. n ∷ map spid_of (drop (i + 1) items)) (ap spid_of (same ∙ is))
    ∙ ap (λ k. spid_of (get_or items i spid) ∷ map spid_of (drop k items)) (add-one i)
    ∙ sym (ap (map spid_of) (drop-cons items i spid inside)))
    ∙ before
