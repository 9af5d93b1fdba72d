-- The paths of the interface, their methods, and the router's rows, ordered by text.
use Rattle.std.specs.Prelude.{ℕ, ◌^◌, List, [], ◌∷◌, length, take, drop, codes, map, Bool, true, false, not, ◌&&◌, ◌==◌, nat_lt, Option, Some, None, Result, Ok, Err, option_and_then, option_map, if◌then◌else◌}
use Rattle.std.specs.Borrow.{Bor}
use Rattle.std.specs.List.{list_all}
use Rattle.std.specs.Option.{option_or}
use Rattle.std.specs.Str.{bytes_eq}
use Rattle.matchit.specs.Rows.{RowsOf}
use Rattle.matchit.specs.Router.{RouteOf, nearest, route_from}
use Rattle.matchit.specs.Order.{placed}
use Rattle.matchit.specs.Route.{Scan, parse_route}
use Rattle.matchit.specs.declared.error.InsertError.{InsertError}
use Rattle.http_messages.specs.Fields.{number_of}
use Rattle.http_messages.specs.declared.paths.Method.{Method}
use Rattle.http_messages.specs.declared.paths.Method.TheVariants.{Get, Post, Other}
use Rattle.http_messages.specs.declared.paths.Route.{Route}
use Rattle.http_messages.specs.declared.paths.Route.TheVariants.{Carriers, Clock, RoutingNumbers, Codes, OldProviderCreate, NewProviderCreate, OnVersion, OnBlock, Acknowledge, Query, Windows, Version, Number, Downloads}
use Rattle.http_messages.specs.declared.paths.BlockPath.TheVariants.{Assign, Donate, Release}
use Rattle.http_messages.specs.declared.paths.VersionPath.TheVariants.{Activate, PutInConflict, RemoveFromConflict, Cancel, OldProviderCancellationAcknowledge, NewProviderCancellationAcknowledge, Disconnect, ModifyRouting}

-- ---- constant paths

abbrev pub paths : List (List ℕ × Route)
paths =
    (codes "/blocks/assign", OnBlock Assign)
    ∷ (codes "/blocks/donate", OnBlock Donate)
    ∷ (codes "/blocks/release", OnBlock Release)
    ∷ (codes "/carriers", Carriers)
    ∷ (codes "/clock", Clock)
    ∷ (codes "/codes", Codes)
    ∷ (codes "/downloads/acknowledge", Acknowledge)
    ∷ (codes "/lrns", RoutingNumbers)
    ∷ (codes "/query", Query)
    ∷ (codes "/subscriptionVersionActivate", OnVersion Activate)
    ∷ (codes "/subscriptionVersionCancel", OnVersion Cancel)
    ∷ (codes "/subscriptionVersionConflict", OnVersion PutInConflict)
    ∷ (codes "/subscriptionVersionDisconnect", OnVersion Disconnect)
    ∷ (codes "/subscriptionVersionModify", OnVersion ModifyRouting)
    ∷ (
      codes "/subscriptionVersionNewSP-CancellationAcknowledge",
      OnVersion NewProviderCancellationAcknowledge,
    )
    ∷ (codes "/subscriptionVersionNewSP-Create", NewProviderCreate)
    ∷ (
      codes "/subscriptionVersionOldSP-CancellationAcknowledge",
      OnVersion OldProviderCancellationAcknowledge,
    )
    ∷ (codes "/subscriptionVersionOldSP-Create", OldProviderCreate)
    ∷ (codes "/subscriptionVersionRemoveFromConflict", OnVersion RemoveFromConflict)
    ∷ (codes "/windows", Windows)
    ∷ []

-- The route of the first path whose text is the target, byte for byte.
abbrev pub path_among : List (List ℕ × Route) → List ℕ → Option Route
path_among [] target = None
path_among (p ∷ ps) target = if bytes_eq p.0 target then Some p.1 else path_among ps target

-- ---- paths that end in a number: `/versions/`, `/numbers/` or `/downloads/` and one part

-- Whether a part may have this byte: neither a slash (47) nor a question mark (63).
abbrev pub is_part_byte : ℕ → Bool
is_part_byte b = not (b == 47) && not (b == 63)

abbrev pub is_part : List ℕ → Bool
is_part part = nat_lt 0 (length part) && list_all is_part_byte part

-- Whether the part begins with a zero and continues.
abbrev pub has_leading_zero : List ℕ → Bool
has_leading_zero part = nat_lt 1 (length part) && bytes_eq (codes "0") (take 1 part)

abbrev pub below_limit : ℕ → Option ℕ
below_limit n = if nat_lt n (2 ^ 40) then Some n else None

-- The number below 2^40 that the part writes in digits, without leading zeros.
unfoldable pub number_in : List ℕ → Option ℕ
number_in part = if has_leading_zero part then None
    else option_and_then below_limit (number_of part)

-- What follows the prefix, if it is one part: its number, or `None` inside.
unfoldable pub number_after : (prefix : List ℕ) → List ℕ → Option (Option ℕ)
number_after prefix target =
    if bytes_eq (take (length prefix) target) prefix && is_part (drop (length prefix) target)
    then Some (number_in (drop (length prefix) target)) else None

-- The route of a version by its id, of a telephone number by its digits, or of a count of
-- downloads.
abbrev pub numbered_path : List ℕ → Option Route
numbered_path target =
    option_or (option_map (λ id. Version id) (number_after (codes "/versions/") target))
    (option_or (option_map (λ number. Number number) (number_after (codes "/numbers/") target))
    (option_map (λ count. Downloads count) (number_after (codes "/downloads/") target)))

-- ---- all paths

-- The route of a constant path, or else of one that ends in a number.
unfoldable pub path_of : List ℕ → Option Route
path_of target = option_or (path_among paths target) (numbered_path target)

-- ---- methods

abbrev pub method_of : List ℕ → Method
method_of name = if bytes_eq name (codes "POST") then Post else (if bytes_eq name (codes "GET")
    then Get else Other)

abbrev pub is_post : Method → Bool
is_post Post = true
is_post Get = false
is_post Other = false

abbrev pub is_get : Method → Bool
is_get Get = true
is_get Post = false
is_get Other = false

-- Whether the path has this method: GET for paths that end in a number, POST for all others.
abbrev pub allows_method : Route → Method → Bool
allows_method (Version number) method = is_get method
allows_method (Number number) method = is_get method
allows_method (Downloads count) method = is_get method
allows_method Carriers method = is_post method
allows_method Clock method = is_post method
allows_method Codes method = is_post method
allows_method Acknowledge method = is_post method
allows_method RoutingNumbers method = is_post method
allows_method Query method = is_post method
allows_method Windows method = is_post method
allows_method (OnVersion path) method = is_post method
allows_method (OnBlock path) method = is_post method
allows_method NewProviderCreate method = is_post method
allows_method OldProviderCreate method = is_post method

-- The route, except `Clock` if it is not offered.
abbrev pub offered_route : (offered : Bool) → Option Route → Option Route
offered_route true route = route
offered_route false (Some Clock) = None
offered_route false (Some Carriers) = Some Carriers
offered_route false (Some Codes) = Some Codes
offered_route false (Some Acknowledge) = Some Acknowledge
offered_route false (Some RoutingNumbers) = Some RoutingNumbers
offered_route false (Some Query) = Some Query
offered_route false (Some Windows) = Some Windows
offered_route false (Some (OnVersion path)) = Some (OnVersion path)
offered_route false (Some (OnBlock path)) = Some (OnBlock path)
offered_route false (Some NewProviderCreate) = Some NewProviderCreate
offered_route false (Some OldProviderCreate) = Some OldProviderCreate
offered_route false (Some (Version number)) = Some (Version number)
offered_route false (Some (Number number)) = Some (Number number)
offered_route false (Some (Downloads count)) = Some (Downloads count)
offered_route false None = None

-- ---- the router's rows

-- The row of a constant path.
abbrev pub fixed_row : List ℕ × Route → List ℕ × RouteOf Route
fixed_row p = (p.0, record { pattern = p.0; text = p.0; names = []; value = p.1 })

abbrev pub table : RowsOf (RouteOf Route)
table = map fixed_row paths

-- The rows with the route in its place, or `None` if it conflicts with one of them.
abbrev pub placed_unless : RowsOf (RouteOf Route) → RouteOf Route → Option (RouteOf Route)
    → Option (RowsOf (RouteOf Route))
placed_unless rows route None = Some (placed (route.pattern, route) rows)
placed_unless rows route (Some near) = None

-- The rows with the route in its place, or `None` if the path does not parse or conflicts with one.
abbrev pub placed_if_read : RowsOf (RouteOf Route) → Route → Result Scan InsertError
    → Option (RowsOf (RouteOf Route))
placed_if_read rows value (Err e) = None
placed_if_read rows value (Ok read) =
    placed_unless rows (route_from read value) (nearest (route_from read value).pattern rows)

-- The code's paths, by their bytes.
abbrev pub texts_of : List (Bor (List ℕ) × Route) → List (List ℕ × Route)
texts_of ps = map (λ p. (p.0.now, p.1)) ps

-- The rows with all of these paths, inserted in order.
abbrev pub all_placed : List (List ℕ × Route) → RowsOf (RouteOf Route)
    → Option (RowsOf (RouteOf Route))
all_placed [] rows = Some rows
all_placed (p ∷ ps) rows =
    option_and_then (all_placed ps) (placed_if_read rows p.1 (parse_route p.0))
