-- The lines of rows are those of the versions in force.
use Rattle.std.proofs.Common.{◌≡◌, ℕ, List, length, map, Option, ap, sym, ◌∙◌, subst}
use Rattle.std.specs.Io.KnownBytes.{Appends}
use Rattle.std.proofs.lemmas.List.{length-map}
use Rattle.delivery.specs.Mirrors.{in_force_of}
use Rattle.delivery.specs.declared.mirror.RoutedRow.{RoutedRow}
use Rattle.model.specs.State.{InForce}
use Rattle.bulk.specs.Exports.{in_force_line}
use Rattle.bulk.specs.Files.{EndsWithin, file_text}
use Rattle.bulk.proofs.Sending.{lines_seen}

abbrev row_lines : List RoutedRow → List (List ℕ)
row_lines rows = map (λ (r : RoutedRow). in_force_line (in_force_of r)) rows

lines_are : (rows : List RoutedRow) (force : List InForce) → map in_force_of rows ≡ force
    → row_lines rows ≡ map in_force_line force
lines_are rows force e = lines_seen in_force_line in_force_of rows ∙ ap (map in_force_line) e

pub all_exported :
    (had has : Option (List ℕ)) (header : List ℕ) (rows : List RoutedRow) (force : List InForce)
    (k : ℕ) → map in_force_of rows ≡ force →
    (k ≡ length rows) × Appends had has (file_text header (row_lines rows)) → (k ≡ length force)
    × Appends had has (file_text header (map in_force_line force))
all_exported had has header rows force k e sent = (
  sent.0 ∙ sym (length-map rows in_force_of) ∙ ap length e,
  subst (λ (ls : List (List ℕ)). Appends had has (file_text header ls)) (lines_are rows force e)
      sent.1,
)

pub part_exported :
    (had has : Option (List ℕ)) (header : List ℕ) (rows : List RoutedRow) (force : List InForce)
    (k : ℕ) → map in_force_of rows ≡ force →
    EndsWithin had has header (row_lines rows) k
    → EndsWithin had has header (map in_force_line force) k
part_exported had has header rows force k e sent =
    subst (λ (ls : List (List ℕ)). EndsWithin had has header ls k) (lines_are rows force e) sent
