-- Broadcasts and downloads of versions that begin to send do not depend on windows.
use Rattle.std.proofs.Common.{◌≡◌, ℕ, List, [], ◌∷◌, ◌++◌, map, refl, ap, ◌∙◌}
use Rattle.std.specs.Prelude.{flat_map}
use Rattle.model.specs.Windows.{Windows}
use Rattle.model.specs.Statuses.{Send, Create, Delete, Modify}
use Rattle.version.specs.Abstraction.{no_windows}
use Rattle.version.specs.declared.version.Version.{Version as VersionImpl}
use Rattle.settle.specs.Sending.{begun_of, begun_broadcast, begun_waits}

broadcast-any : (w : Windows) (minute : ℕ) (action : Send) (e : ℕ × VersionImpl)
    → begun_broadcast minute action (begun_of no_windows e) ≡ begun_broadcast minute action
    (begun_of w e)
broadcast-any w minute Create e = refl
broadcast-any w minute Delete e = refl
broadcast-any w minute (Modify routing) e = refl

pub broadcasts-any : (w : Windows) (minute : ℕ) (action : Send) (es : List (ℕ × VersionImpl)) →
    map (begun_broadcast minute action) (map (begun_of no_windows) es)
    ≡ map (begun_broadcast minute action) (map (begun_of w) es)
broadcasts-any w minute action [] = refl
broadcasts-any w minute action (e ∷ es) =
    ap (λ b. b ∷ map (begun_broadcast minute action) (map (begun_of no_windows) es))
    (broadcast-any w minute action e)
    ∙ ap (λ bs. begun_broadcast minute action (begun_of w e) ∷ bs) (broadcasts-any w minute action
    es)

pub waits-any : (w : Windows) (minute : ℕ) (all_carriers : List ℕ) (es : List (ℕ × VersionImpl)) →
    flat_map (begun_waits minute all_carriers) (map (begun_of no_windows) es)
    ≡ flat_map (begun_waits minute all_carriers) (map (begun_of w) es)
waits-any w minute all_carriers [] = refl
waits-any w minute all_carriers (e ∷ es) =
    ap (λ ws. begun_waits minute all_carriers (begun_of w e) ++ ws) (waits-any w minute all_carriers
    es)
