-- Rows that read with the same key are the same row.
use Rattle.std.proofs.Common.{◌≡◌, ℕ, pos, List, [], ◌∷◌, true, false, refl, sym, ap, ◌∙◌}
use Rattle.std.specs.List.{AllByRecursion}
use Rattle.std.specs.Cmp.{tied_itself}
use Rattle.sqlite.specs.declared.types.Value.{Value}
use Rattle.sqlite.specs.declared.types.Value.TheVariants.{Int, Text}
use Rattle.sqlite.specs.Order.{Row, column}
use Rattle.sqlite.specs.Ops.{binary, is_null}
use Rattle.sqlite.specs.Tree.{Trees}
use Rattle.sqlite.specs.View.{IsShaped}
use Rattle.sqlite_trees.specs.declared.store.Shape.TheVariants.{Table}
use Rattle.sqlite_value.specs.declared.keys.Order.{Order}
use Rattle.sqlite_value.specs.declared.keys.Collation.{Collation}
use Rattle.sqlite_value.specs.Keys.{plain, later}
use Rattle.sqlite_schema.specs.Rules.{Obeys, agree, equal}
use Rattle.sqlite_value.proofs.KeyLemmas.{collated_total}
use Rattle.numbers.specs.Texts.{spid_text}
use Rattle.sql_rows.specs.Tables.{the_schema}
use Rattle.sql_rows.specs.Shaped.{AreShaped}
use Rattle.sql_rows.specs.Content.{broadcast_entry, carrier_entry, wait_entry}
use Rattle.sql_rows.specs.Once.{AreKeysUnique, HasUniqueKeys}
use Rattle.sql_rows.specs.declared.statement.Table.TheVariants.{Broadcast, Carrier, Wait}
use Rattle.sql_rows.proofs.Inversions.{broadcast_reads, carrier_key, wait_reads, number_read, minute_read, spid_read}
use Rattle.sql_rows.proofs.OnceLemmas.{broadcast_once, carrier_once, wait_once}

equal_itself : (how : Collation) (v : Value) → is_null v ≡ false → equal how v v ≡ true
unfolding binary
equal_itself how v p = rw (p, tied_itself (collated_total how) v)

-- Columns that are equal and not NULL agree.
agree_from : (o : Order) (ps : List ℕ) (s r : Row) → AllByRecursion (λ p. (column s p ≡ column r p)
    × (is_null (column r p) ≡ false)) ps → agree o ps s ps r ≡ true
agree_from o [] s r all = refl
agree_from o (p ∷ ps) s r all =
    rw (all.0.0, equal_itself _ (column r p) all.0.1) (agree_from (later o) ps s r all.1)

pub broadcasts_once : (db : Trees) → Obeys the_schema db → IsShaped Table (db 8)
    → AreKeysUnique broadcast_entry (db 8)
broadcasts_once db obeys shaped = λ r s k a b at there is also.
    let one = broadcast_reads r (k, a) is in
    let two = broadcast_reads s (k, b) also in
    let id : column r 1 ≡ Int (pos k.id) = number_read (column r 1) k.id one.id in
    let attempt : column r 2 ≡ Int (pos k.attempt) =
    number_read (column r 2) k.attempt one.attempt in
    broadcast_once db obeys shaped r s at there (agree_from plain (1 ∷ 2 ∷ []) s r (
      (number_read (column s 1) k.id two.id ∙ sym id, ap is_null id),
      ((number_read (column s 2) k.attempt two.attempt ∙ sym attempt, ap is_null attempt), tt),
    ))

pub waits_once : (db : Trees) → Obeys the_schema db → IsShaped Table (db 10)
    → AreKeysUnique wait_entry (db 10)
waits_once db obeys shaped = λ r s k a b at there is also.
    let one = wait_reads r (k, a) is in
    let two = wait_reads s (k, b) also in
    let carrier : column r 1 ≡ Text (spid_text k.carrier) =
    spid_read (column r 1) k.carrier one.carrier in
    let minute : column r 2 ≡ Int (pos k.minute) = minute_read (column r 2) k.minute one.minute in
    let id : column r 3 ≡ Int (pos k.id) = number_read (column r 3) k.id one.id in
    let attempt : column r 4 ≡ Int (pos k.attempt) =
    number_read (column r 4) k.attempt one.attempt in
    wait_once db obeys shaped r s at there (agree_from plain (1 ∷ 2 ∷ 3 ∷ 4 ∷ []) s r (
      (spid_read (column s 1) k.carrier two.carrier ∙ sym carrier, ap is_null carrier),
      (
        (minute_read (column s 2) k.minute two.minute ∙ sym minute, ap is_null minute),
        (
          (number_read (column s 3) k.id two.id ∙ sym id, ap is_null id),
          ((number_read (column s 4) k.attempt two.attempt ∙ sym attempt, ap is_null attempt), tt),
        ),
      ),
    ))

pub carriers_once : (db : Trees) → Obeys the_schema db → IsShaped Table (db 0)
    → AreKeysUnique carrier_entry (db 0)
carriers_once db obeys shaped = λ r s k a b at there is also.
    let one : column r 1 ≡ Text (spid_text k) =
    spid_read (column r 1) k (carrier_key r (k, a) is) in
    let two : column s 1 ≡ Text (spid_text k) =
    spid_read (column s 1) k (carrier_key s (k, b) also) in
    carrier_once db obeys shaped r s at there
    (agree_from plain (1 ∷ []) s r ((two ∙ sym one, ap is_null one), tt))

-- A database that obeys its rules has unique keys.
pub keys_once : (db : Trees) → Obeys the_schema db → AreShaped db → HasUniqueKeys db
keys_once db obeys shaped = record {
  carriers = carriers_once db obeys (shaped Carrier);
  broadcasts = broadcasts_once db obeys (shaped Broadcast);
  waits = waits_once db obeys (shaped Wait);
}
