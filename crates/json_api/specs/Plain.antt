-- Bodies that are written plainly.
use Rattle.std.specs.Prelude.{◌≡◌, ℕ, List, ◌++◌, codes, Some}
use Rattle.std.specs.Borrow.{Bor}
use Rattle.numbers.specs.Digits.{IsTn}
use Rattle.numbers.specs.Spids.{IsSpid}
use Rattle.numbers.specs.Texts.{spid_text, tn_text}
use Rattle.serde_json.specs.Data.{Data}
use Rattle.http_messages.specs.declared.paths.Route.{Route}
use Rattle.json_api.specs.Forms.{ApiCall, HasForm, IsTextOf, json_of}
use Rattle.json_api.specs.Scanned.{IsScalarThen}
use Rattle.json_api.specs.declared.flat.Scalar.{Scalar}
use Rattle.json_api.specs.declared.flat.Scalar.TheVariants.{Text}

-- Holds if the body is JSON that asks this on the route.
pub record IsAsked (route : Route) (body : List ℕ) (asked : ApiCall) : Type 0 where
  pub value : Data
  pub json : json_of body ≡ Some value
  pub form : HasForm route value asked

-- Holds if the bytes are `key`, a plain value, then `rest`.
abbrev pub IsValueAfter : (bytes key : List ℕ) → Scalar → (rest : List ℕ) → Type 0
IsValueAfter bytes key value rest = (after : List ℕ) × (bytes ≡ key ++ after)
    × IsScalarThen after value rest

-- Holds if the bytes are these texts under `new`, `old` and `tn`, and end an object.
abbrev pub ArePortTexts : List ℕ → (new old tn : Bor (List ℕ)) → Type 0
ArePortTexts bytes new old tn = (r : List ℕ) × (s : List ℕ)
    × IsValueAfter bytes (codes ",\"new\":") (Text new) r
    × IsValueAfter r (codes ",\"old\":") (Text old) s
    × IsValueAfter s (codes ",\"tn\":") (Text tn) (codes "}")

-- Holds if the bytes are the providers and the number of a port, and end an object.
abbrev pub IsPort : List ℕ → (tn old_provider new_provider : ℕ) → Type 0
IsPort bytes tn old_provider new_provider =
    (new : Bor (List ℕ)) × (old : Bor (List ℕ)) × (number : Bor (List ℕ))
    × ArePortTexts bytes new old number
    × IsTextOf IsTn tn_text (Some number.now) tn
    × IsTextOf IsSpid spid_text (Some old.now) old_provider
    × IsTextOf IsSpid spid_text (Some new.now) new_provider
