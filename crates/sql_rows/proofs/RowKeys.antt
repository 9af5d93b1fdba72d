-- The keys of the rows that statements insert.
use Rattle.std.proofs.Common.{◌≡◌, ℕ, pos, [], ◌∷◌, refl, sym, ap, ◌∙◌}
use Rattle.sqlite.specs.declared.types.Value.TheVariants.{Int}
use Rattle.sqlite.specs.Order.{Row}
use Rattle.sqlite.specs.Tree.{Trees}
use Rattle.numbers.specs.Subjects.{Subject}
use Rattle.numbers.specs.Routings.{Routing}
use Rattle.model.specs.Content.{BlockRow, BroadcastKey, BroadcastRow, VersionRow, WaitKey}
use Rattle.model.specs.Windows.{Windows}
use Rattle.sql_rows.specs.Clocks.{StoredClock}
use Rattle.sql_rows.specs.Content.{block_params, broadcast_key_params, broadcast_params, carrier_params, clock_params, next_params, owner_params, set_params, stored, wait_key_params, wait_params}
use Rattle.sql_rows.specs.Versions.{version_params, version_row}
use Rattle.sql_rows.specs.Written.{IsKeyOf, cast_rows, key_of}
use Rattle.sql_rows.specs.declared.statement.Table.{Table}
use Rattle.sql_rows.specs.declared.statement.Table.TheVariants.{Carrier, Lrn, Code, Block, Version, Broadcast, Wait, Clock, NextRouting, WindowSet}
use Rattle.sql_rows.proofs.Casts.{block_cast, broadcast_cast, carrier_cast, clock_cast, code_cast, lrn_cast, next_cast, next_in, set_cast, version_cast, wait_cast}
use Rattle.sql_rows.proofs.ReplaceLemmas.{same_first}

keyed : (t : Table) (key params : Row) (row : Trees → Row)
    → ((db : Trees) → cast_rows t params db ≡ row db ∷ [])
    → ((db : Trees) → key_of t (row db) ≡ key) → IsKeyOf t key params
keyed t key params row casts has db other news =
    ap (key_of t) (same_first other (row db) (sym news ∙ casts db)) ∙ has db

pub carrier_keyed : (n : ℕ) → IsKeyOf Carrier (carrier_params n) (carrier_params n)
carrier_keyed n = keyed Carrier (carrier_params n) (carrier_params n)
    (λ db. next_in db 0 ∷ carrier_params n) (λ db. carrier_cast db n) (λ db. refl)

pub lrn_keyed : (n v : ℕ) → IsKeyOf Lrn (Int (pos n) ∷ []) (owner_params n v)
lrn_keyed n v = keyed Lrn (Int (pos n) ∷ []) (owner_params n v) (λ db. stored (owner_params n v))
    (λ db. lrn_cast db n v) (λ db. refl)

pub code_keyed : (n v : ℕ) → IsKeyOf Code (Int (pos n) ∷ []) (owner_params n v)
code_keyed n v = keyed Code (Int (pos n) ∷ []) (owner_params n v) (λ db. stored (owner_params n v))
    (λ db. code_cast db n v) (λ db. refl)

pub block_keyed : (n : ℕ) (v : BlockRow) → IsKeyOf Block (Int (pos n) ∷ []) (block_params n v)
block_keyed n v = keyed Block (Int (pos n) ∷ []) (block_params n v)
    (λ db. stored (block_params n v)) (λ db. block_cast db n v) (λ db. refl)

pub next_keyed : (n : ℕ) (r : Routing) → IsKeyOf NextRouting (Int (pos n) ∷ []) (next_params n r)
next_keyed n r = keyed NextRouting (Int (pos n) ∷ []) (next_params n r)
    (λ db. stored (next_params n r)) (λ db. next_cast db n r) (λ db. refl)

pub set_keyed : (n : ℕ) (w : Windows) → IsKeyOf WindowSet (Int (pos n) ∷ []) (set_params n w)
set_keyed n w = keyed WindowSet (Int (pos n) ∷ []) (set_params n w) (λ db. stored (set_params n w))
    (λ db. set_cast db n w) (λ db. refl)

pub clock_keyed : (n : ℕ) (c : StoredClock) → IsKeyOf Clock (Int (pos n) ∷ []) (clock_params n c)
clock_keyed n c = keyed Clock (Int (pos n) ∷ []) (clock_params n c)
    (λ db. stored (clock_params n c)) (λ db. clock_cast db n c) (λ db. refl)

pub version_keyed : (n : ℕ) (v : VersionRow)
    → IsKeyOf Version (Int (pos n) ∷ []) (version_params n v)
version_keyed n v = keyed Version (Int (pos n) ∷ []) (version_params n v) (λ db. version_row n v)
    (λ db. version_cast db n v) (λ db. refl)

pub broadcast_keyed : (k : BroadcastKey) (b : BroadcastRow)
    → IsKeyOf Broadcast (broadcast_key_params k) (broadcast_params k b)
broadcast_keyed k b = keyed Broadcast (broadcast_key_params k) (broadcast_params k b)
    (λ db. next_in db 8 ∷ broadcast_params k b) (λ db. broadcast_cast db k b) (λ db. refl)

pub wait_keyed : (k : WaitKey) (s : Subject) → IsKeyOf Wait (wait_key_params k) (wait_params k s)
wait_keyed k s = keyed Wait (wait_key_params k) (wait_params k s)
    (λ db. next_in db 10 ∷ wait_params k s) (λ db. wait_cast db k s) (λ db. refl)
