-- The keys of members read one after another.
use Rattle.std.proofs.Common.{◌≡◌, ℕ, Bool, true, false, ◌&&◌, List, [], ◌∷◌, map, Bor, refl, ap, sym, ◌∙◌}
use Rattle.std.specs.List.{list_any, list_all}
use Rattle.std.specs.Str.{bytes_eq}
use Rattle.std.specs.Ordering.{nat_cmp, match_ordering, is_eq}
use Rattle.std.specs.declared.cmp.Ordering.{Ordering}
use Rattle.std.specs.declared.cmp.Ordering.TheVariants.{Less, Equal, Greater}
use Rattle.std.specs.Cmp.Lexicographic.{slice_cmp}
use Rattle.std.proofs.lemmas.Map.Text.{is_eq-slice_cmp}
use Rattle.std.proofs.lemmas.Slice.Eq.{bytes_eq-Decides}
use Rattle.serde_json.specs.Data.{Data, Members, no_members, member, put}
use Rattle.json_api.specs.Flat.{scalar_data, members_upon}
use Rattle.json_api.specs.Forms.{only_members}
use Rattle.json_api.specs.declared.flat.Member.{Member}
use Rattle.numbers.proofs.Small.{and_true}

once : (b c : Bool) → (b && c) ≡ (b && (b && c))
once true c = refl
once false c = refl

turned : (a b c : Bool) → (a && (b && c)) ≡ (b && (a && c))
turned true b c = refl
turned false true c = refl
turned false false c = refl

-- A member added has one of these keys, and so have all others.
only_put_at : (ks : List (List ℕ)) (o : Ordering) (k l : List ℕ) (d e : Data) (ms : Members)
    → slice_cmp nat_cmp k l ≡ o
    → only_members ks (put k d ms) ≡ (list_any (bytes_eq k) ks && only_members ks ms)
    → only_members ks (match_ordering o (member k d (member l e ms)) (member l d ms)
    (member l e (put k d ms))) ≡ (list_any (bytes_eq k) ks && only_members ks (member l e ms))
only_put_at ks Less k l d e ms is later = refl
only_put_at ks Equal k l d e ms is later =
    let same : k ≡ l = (bytes_eq-Decides k l).0 (sym (is_eq-slice_cmp k l) ∙ ap is_eq is) in
    once (list_any (bytes_eq l) ks) (only_members ks ms)
    ∙ ap (λ x. list_any (bytes_eq x) ks && (list_any (bytes_eq l) ks && only_members ks ms))
    (sym same)
only_put_at ks Greater k l d e ms is later = ap (λ b. list_any (bytes_eq l) ks && b) later
    ∙ turned (list_any (bytes_eq l) ks) (list_any (bytes_eq k) ks) (only_members ks ms)

only_put : (ks : List (List ℕ)) (k : List ℕ) (d : Data) (ms : Members)
    → only_members ks (put k d ms) ≡ (list_any (bytes_eq k) ks && only_members ks ms)
only_put ks k d no_members = refl
only_put ks k d (member l e ms) = only_put_at ks _ k l d e ms refl (only_put ks k d ms)

abbrev is_one : List (List ℕ) → Member → Bool
is_one ks m = list_any (bytes_eq m.key.now) ks

only_upon : (ks : List (List ℕ)) (found : Members) (ms : List Member)
    → only_members ks (members_upon found ms) ≡ (list_all (is_one ks) ms && only_members ks found)
only_upon ks found [] = refl
only_upon ks found (m ∷ ms) =
    only_upon ks (put m.key.now (scalar_data m.value) found) ms
    ∙ ap (λ b. list_all (is_one ks) ms && b) (only_put ks m.key.now (scalar_data m.value) found)
    ∙ moved (list_all (is_one ks) ms) (is_one ks m) (only_members ks found)
  where
    moved : (a b c : Bool) → (a && (b && c)) ≡ ((b && a) && c)
    moved true true c = refl
    moved true false c = refl
    moved false true c = refl
    moved false false c = refl

any_seen : (k : List ℕ) (allowed : List (Bor (List ℕ)))
    → list_any (λ (s : Bor (List ℕ)). bytes_eq k s.now) allowed ≡ list_any (bytes_eq k)
    (map (λ (s : Bor (List ℕ)). s.now) allowed)
any_seen k [] = refl
any_seen k (s ∷ ss) = rw (any_seen k ss) refl

all_seen : (allowed : List (Bor (List ℕ))) (ms : List Member)
    → list_all (λ (m : Member). list_any (λ (s : Bor (List ℕ)). bytes_eq m.key.now s.now) allowed)
    ms ≡ list_all (is_one (map (λ (s : Bor (List ℕ)). s.now) allowed)) ms
all_seen allowed [] = refl
all_seen allowed (m ∷ ms) = rw (all_seen allowed ms, any_seen m.key.now allowed) refl

pub only_flat : (allowed : List (Bor (List ℕ))) (ms : List Member) →
    list_all (λ (m : Member). list_any (λ (s : Bor (List ℕ)). bytes_eq m.key.now s.now) allowed) ms
    ≡ only_members (map (λ (s : Bor (List ℕ)). s.now) allowed) (members_upon no_members ms)
only_flat allowed ms =
    all_seen allowed ms
    ∙ sym (and_true (list_all (is_one (map (λ (s : Bor (List ℕ)). s.now) allowed)) ms))
    ∙ sym (only_upon (map (λ (s : Bor (List ℕ)). s.now) allowed) no_members ms)
