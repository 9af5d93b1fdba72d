use Rattle.std.proofs.Common.{◌≡◌, ℕ, List, [], ◌∷◌, map, String, string_bytes, Bor, Global, Some, refl, ap}
use Rattle.std.specs.List.{list_all, list_any}
use Rattle.std.specs.Str.{bytes_eq}
use Rattle.std.specs.Map.{keys_of}
use Rattle.serde_json.specs.declared.value.Value.{Value}
use Rattle.serde_json.specs.Data.{Data, null, boolean, number, string, array, object, Members}
use Rattle.serde_json.specs.Find.{as_object}
use Rattle.serde_json.specs.View.{members_view}
use Rattle.json_api.specs.Forms.{only_members, only_keys}

pub any-map : (k : List ℕ) (allowed : List (Bor (List ℕ)))
    → list_any (bytes_eq k) (map (λ (s : Bor (List ℕ)). s.now) allowed)
    ≡ list_any (λ (s : Bor (List ℕ)). bytes_eq k s.now) allowed
any-map k [] = refl
any-map k (s ∷ ss) = rw (any-map k ss) refl

pub known : (allowed : List (Bor (List ℕ))) (es : List (String Global × Value)) →
    list_all (λ (k : String Global). list_any (λ (s : Bor (List ℕ)). bytes_eq (string_bytes k)
    s.now) allowed) (keys_of es)
    ≡ only_members (map (λ (s : Bor (List ℕ)). s.now) allowed) (members_view es)
known allowed [] = refl
known allowed (e ∷ es) = rw (known allowed es, any-map (string_bytes e.0) allowed) refl

pub of_object : (ks : List (List ℕ)) (d : Data) (ms : Members) → Some ms ≡ as_object d
    → only_members ks ms ≡ only_keys ks d
of_object ks null ms e = cc
of_object ks (boolean b) ms e = cc
of_object ks (number n) ms e = cc
of_object ks (string s) ms e = cc
of_object ks (array ds) ms e = cc
of_object ks (object ns) ms e = let h : ms ≡ ns = cc in ap (only_members ks) h
