-- Lines that are sent one after another.
use Rattle.std.proofs.Common.{◌≡◌, ℕ, suc, ◌+◌, ◌<◌, List, [], ◌∷◌, ◌++◌, length, take, drop, get_or, map, Option, ◌≤◌, Result, Ok, Err, IfOk, IfErr, inl, inr, refl, ap, sym, ◌∙◌, subst, arith, append-nil, add-one}
use Rattle.std.specs.List.{concat}
use Rattle.std.specs.Io.KnownBytes.{Appends}
use Rattle.std.proofs.KnownBytes.{Appends-trans}
use Rattle.std.proofs.Math.Seq.{take-suc, drop-cons}
use Rattle.std.proofs.lemmas.List.{take-append-drop, length-map, length-take-le, take_all, get_or-map}
use Rattle.std.proofs.lemmas.List.Folds.{concat-append}
use Rattle.http_messages.specs.Sending.{AppendsPrefix}
use Rattle.bulk.specs.Files.{AreSent, EndsWithin, IsSentPart, file_text}

-- The lines so far, and one more.
pub concat_next : (lines : List (List ℕ)) (i : ℕ) (text : List ℕ) → i < length lines
    → get_or lines i [] ≡ text → concat (take i lines) ++ text ≡ concat (take (i + 1) lines)
concat_next lines i text within is =
    let one : concat (text ∷ []) ≡ text = append-nil text in
    ap (λ (t : List ℕ). concat (take i lines) ++ t) (sym one)
    ∙ sym (concat-append (take i lines) (text ∷ []))
    ∙ ap (λ (t : List ℕ). concat (take i lines ++ t ∷ [])) (sym is)
    ∙ ap concat (sym (take-suc lines i [] within))
    ∙ ap (λ (n : ℕ). concat (take n lines)) (sym (add-one i))

pub sent_next :
    (had mid has : Option (List ℕ)) (lines : List (List ℕ)) (i : ℕ) (text : List ℕ)
    → i < length lines → get_or lines i [] ≡ text →
    AreSent had mid (take i lines) → Appends mid has text → AreSent had has (take (i + 1) lines)
sent_next had mid has lines i text within is before now =
    subst (Appends had has) (concat_next lines i text within is)
    (Appends-trans had mid has (concat (take i lines)) text before now)

pub sent_part :
    (had mid has : Option (List ℕ)) (lines : List (List ℕ)) (i : ℕ) (text : List ℕ)
    → i < length lines → get_or lines i [] ≡ text →
    AreSent had mid (take i lines) → AppendsPrefix mid has text → IsSentPart had has lines i
sent_part had mid has lines i text within is before now = record {
  before = take i lines;
  line = text;
  behind = drop (suc i) lines;
  all = sym (take-append-drop i lines) ∙ ap (λ (t : List (List ℕ)). take i lines ++ t)
      (drop-cons lines i [] within ∙ ap (λ (t : List ℕ). t ∷ drop (suc i) lines) is);
  count = length-take-le i lines (omega (arith, within));
  part = now.0;
  written = Appends-trans had mid has (concat (take i lines)) (take now.0 text) before now.2;
}

-- The line of an element.
pub line_at :
    {X : Type 0} (text : X → List ℕ) (xs : List X) (i : ℕ) (x : X) → i < length xs
    → x ≡ get_or xs i x →
    (i < length (map text xs)) × (get_or (map text xs) i [] ≡ text x)
line_at text xs i x within is = (
  omega (arith, length-map xs text, within),
  get_or-map text xs i x [] within ∙ ap text (sym is),
)

-- After the last element, all lines are sent.
pub all_sent :
    {X : Type 0} (text : X → List ℕ) (xs : List X) (i : ℕ) (had has : Option (List ℕ))
    → length xs ≤ i →
    AreSent had has (take i (map text xs)) → AreSent had has (map text xs)
all_sent text xs i had has far sent =
    let whole : take i (map text xs) ≡ map text xs =
    take_all i (map text xs) (omega (arith, length-map xs text, far)) in
    subst (AreSent had has) whole sent

-- The lines of elements, by their models.
pub lines_seen : {X Y : Type 0} (line : Y → List ℕ) (seen : X → Y) (xs : List X)
    → map (λ x. line (seen x)) xs ≡ map line (map seen xs)
lines_seen line seen [] = refl
lines_seen line seen (x ∷ xs) =
    ap (λ (ts : List (List ℕ)). line (seen x) ∷ ts) (lines_seen line seen xs)

-- The first line, and then the others.
pub all_behind :
    (had mid has : Option (List ℕ)) (first : List ℕ) (lines : List (List ℕ)) (n : ℕ)
    (r : Result ℕ ℕ) → Appends had mid first →
    IfOk r (λ count. (count ≡ n) × AreSent mid has lines)
    → IfOk r (λ count. (count ≡ n) × Appends had has (file_text first lines))
all_behind had mid has first lines n (Ok count) before h =
    (h.0, Appends-trans had mid has first (concat lines) before h.1)
all_behind had mid has first lines n (Err count) before h = tt

pub part_behind :
    (had mid has : Option (List ℕ)) (first : List ℕ) (lines : List (List ℕ)) (r : Result ℕ ℕ)
    → Appends had mid first →
    IfErr r (IsSentPart mid has lines) → IfErr r (EndsWithin had has first lines)
part_behind had mid has first lines (Ok count) before h = tt
part_behind had mid has first lines (Err count) before h = inr (mid, before, h)

pub part_of_first : (had has : Option (List ℕ)) (first : List ℕ) (lines : List (List ℕ))
    → AppendsPrefix had has first → EndsWithin had has first lines 0
part_of_first had has first lines h = inl (refl, (h.0, h.2))
