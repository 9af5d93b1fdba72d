-- The options that a subcommand has to have.
use Rattle.std.proofs.Common.{◌≡◌, ℕ, List, Option, Result, Ok, Err, arith, ap, codes, slice_index}
use Rattle.std.specs.Borrow.{Bor}
use Rattle.std.specs.Prelude.{IfErr}
use Rattle.clap.specs.Words.{Row}
use Rattle.command_line.specs.CommandLine.{AreNoLimits, IsNoNumber, IsSubcommand}
use Rattle.command_line.specs.declared.parse.ServeLimits.{ServeLimits}
use Rattle.command_line.specs.declared.parse.Subcommand.{Subcommand}
use Rattle.command_line.specs.declared.parse.Subcommand.TheVariants as sub

first_same : {s t : List ℕ} → s ≡ t → slice_index s 0 ≡ slice_index t 0
first_same e = ap (λ (t : List ℕ). slice_index t 0) e

-- Only a `Serve` is the subcommand of the name `serve`.
serve_only : (rows : List Row)
    → ((port : ℕ) (connections : Option ℕ) (limits : ServeLimits) (log : Option (Bor (List ℕ)))
    → IsSubcommand (codes "serve") rows (sub.Serve port connections limits log) → ⊥)
    → (s : Subcommand) → IsSubcommand (codes "serve") rows s → ⊥
serve_only rows none sub.Feed h = let e : 115 ≡ 102 = first_same h in absurd (omega (arith, e))
serve_only rows none (sub.Bulk strict) h = let e : 115 ≡ 98 = first_same h.0 in
    absurd (omega (arith, e))
serve_only rows none sub.Export h = let e : 115 ≡ 101 = first_same h in absurd (omega (arith, e))
serve_only rows none (sub.Audit spid) h = let e : 115 ≡ 97 = first_same h.0 in
    absurd (omega (arith, e))
serve_only rows none (sub.Serve port connections limits log) h = none port connections limits log h

-- No subcommand over a register has the name `windows`.
pub no_windows : (rows : List Row) (s : Subcommand) → IsSubcommand (codes "windows") rows s → ⊥
no_windows rows sub.Feed h = let e : 119 ≡ 102 = first_same h in absurd (omega (arith, e))
no_windows rows (sub.Bulk strict) h = let e : 119 ≡ 98 = first_same h.0 in
    absurd (omega (arith, e))
no_windows rows sub.Export h = let e : 119 ≡ 101 = first_same h in absurd (omega (arith, e))
no_windows rows (sub.Audit spid) h = let e : 119 ≡ 97 = first_same h.0 in absurd (omega (arith, e))
no_windows rows (sub.Serve port connections limits log) h = let e : 119 ≡ 115 = first_same h.0 in
    absurd (omega (arith, e))

-- No subcommand over a register has the name `check`.
pub no_check : (rows : List Row) (s : Subcommand) → IsSubcommand (codes "check") rows s → ⊥
no_check rows sub.Feed h = let e : 99 ≡ 102 = first_same h in absurd (omega (arith, e))
no_check rows (sub.Bulk strict) h = let e : 99 ≡ 98 = first_same h.0 in absurd (omega (arith, e))
no_check rows sub.Export h = let e : 99 ≡ 101 = first_same h in absurd (omega (arith, e))
no_check rows (sub.Audit spid) h = let e : 99 ≡ 97 = first_same h.0 in absurd (omega (arith, e))
no_check rows (sub.Serve port connections limits log) h = let e : 99 ≡ 115 = first_same h.0 in
    absurd (omega (arith, e))

pub no_connections : (rows : List Row) → IsNoNumber (codes "connections") rows
    → (s : Subcommand) → IsSubcommand (codes "serve") rows s → ⊥
no_connections rows none =
    serve_only rows (λ port connections limits log h. none connections h.2)

pub no_limits : (rows : List Row) → AreNoLimits rows
    → (s : Subcommand) → IsSubcommand (codes "serve") rows s → ⊥
no_limits rows none = serve_only rows (λ port connections limits log h. none limits h.3)

pub if_err : {T E : Type 0} (r : Result T E) (P : Type 0) → P → IfErr r (λ _. P)
if_err (Ok x) P p = tt
if_err (Err e) P p = p
