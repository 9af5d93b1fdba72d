-- The rows of a database that have all been read.
use Rattle.std.proofs.Common.{◌≡◌, ℕ, List, [], ◌∷◌, map, filter, Bool, true, false, Option, Some, None, inl, inr, refl, sym, ap, subst, ◌∙◌, true≢false}
use Rattle.std.specs.FinMap.{FinMap, empty, get, get-empty, same_map, nat_cmp-IsAntisymmetric}
use Rattle.std.specs.Cmp.{nat_cmp_total}
use Rattle.std.specs.List.{list_all}
use Rattle.std.specs.Ordering.{nat_cmp}
use Rattle.std.specs.List.Sorted.{IsPermutation}
use Rattle.sqlite.specs.Order.{Row}
use Rattle.sqlite.specs.Program.{overlay}
use Rattle.sqlite.specs.Query.{IsAnswer}
use Rattle.sqlite.specs.Tree.{Trees}
use Rattle.sqlite_rules.specs.Lists.{Has}
use Rattle.sqlite_rules.proofs.ListLemmas.{has_filtered, has_kept}
use Rattle.sqlite_rules.proofs.TableLemmas.{put_has}
use Rattle.sqlite.specs.Effect.{Database}
use Rattle.std.specs.Prelude.{option_map}
use Rattle.model.specs.Content.{ClockRow, VersionRow, empty_content}
use Rattle.numbers.specs.Routings.{Routing}
use Rattle.sql_rows.specs.Over.{over}
use Rattle.sql_rows.proofs.Over.{get-over}
use Rattle.sql_rows.specs.Clocks.{StoredClock, with_windows}
use Rattle.sql_rows.specs.Content.{block_row_in, block_shown, broadcast_entry, broadcast_in, broadcast_shown, carrier_in, carrier_shown, clock_in, clock_shown, next_entry, next_row_in, next_shown, set_in, set_shown, old_clock_in, old_clock_shown, nexts_in, content_in, lrn_row_in, code_row_in, owner_shown, wait_entry, wait_in, wait_shown, carrier_entry, lrn_entry, code_entry, block_entry, clock_entry, set_entry, old_clock_entry}
use Rattle.sql_rows.specs.Found.{AreRead, IsListAnswer}
use Rattle.sql_rows.specs.declared.statement.Query.TheVariants.{All}
use Rattle.sql_store.specs.Migration.{AreMovedRead}
use Rattle.sql_rows.specs.Statements.{query_of, shown_by, tree_of}
use Rattle.sql_rows.specs.Written.{Replaced, cast_rows}
use Rattle.sql_rows.specs.Versions.{rerouted, old_shown_of, old_version_entry, old_version_in, shown_of, version_entry, version_in}
use Rattle.sql_rows.specs.declared.statement.Table.{Table}
use Rattle.sql_rows.specs.declared.statement.Table.TheVariants.{Carrier, Lrn, Code, Block, Version, Broadcast, Wait, Clock, NextRouting, WindowSet, OldVersion, OldClock}
use Rattle.sql_rows.proofs.DueLemmas.{has_permuted}
use Rattle.sql_rows.proofs.Listed.{has_mapped}
use Rattle.sql_rows.proofs.QueryLemmas.{plain_answer}
use Rattle.sql_store.specs.Whole.{HasPresentSet, AreAddedBlank, AreRegistryRead, AreVersionsBlank, EachReads, IsMoved, IsRead, IsRegistryBlank, ReadsAdded, ReadsAll, ReadsRegistry, ReadsVersions}
use Rattle.sql_rows.proofs.RowLemmas.{same_first, same_rest}

-- ---- one table

none_there : {X : Type 0} (xs : List X) → ((x : X) → Has xs x → ⊥) → xs ≡ []
none_there [] none = refl
none_there (x ∷ xs) none = absurd (none x (inl refl))

module _ {X : Type 0} (read : Row → Option X) where
  read_each : (rows : List Row) (xs : List X) → AreRead read rows xs → (r : Row) → Has rows r
      → (e : X) × (read r ≡ Some e)
  read_each [] xs are r at = absurd at
  read_each (s ∷ rows) [] are r at = absurd cc
  read_each (s ∷ rows) (x ∷ xs) are r (inl same) = (x, ap read same ∙ same_first are)
  read_each (s ∷ rows) (x ∷ xs) are r (inr at) = read_each rows xs (same_rest are) r at

  read_none : (rows : List Row) (r : Row) → AreRead read rows [] → Has rows r → ⊥
  read_none [] r are at = at
  read_none (s ∷ rows) r are at = absurd cc

  module _ (shown : Row → Row) (rows found : List Row) (xs : List X)
      (same : IsPermutation (map shown (filter (λ r. true) rows)) found)
      (are : AreRead read found xs) where
    found_there : (r : Row) → Has rows r → Has found (shown r)
    found_there r at = has_permuted (map shown (filter (λ r. true) rows)) found (shown r) same
        (has_mapped shown (filter (λ r. true) rows) r (has_kept (λ r. true) rows r at refl))

    each_reads : EachReads (λ r. read (shown r)) rows
    each_reads r at = read_each found xs are (shown r) (found_there r at)

    is_blank : xs ≡ [] → rows ≡ []
    is_blank none =
        none_there rows (λ r at. read_none found (shown r) (subst (AreRead read found) none are)
        (found_there r at))

-- What is known of the rows of a table that was read.
pub record KnownRows {X : Type 0} (entry : Row → Option X) (rows : List Row)
    (blank : Bool) : Type 0 where
  pub each : EachReads entry rows
  pub none : blank ≡ true → rows ≡ []

known : {X : Type 0} (t : Table) (read : Row → Option X) (shown : Row → Row) (rows : List Row)
    (db : Trees) (blank : Bool)
    → ((found : List Row) → IsAnswer (query_of (All t)) (overlay db []) [] found
    → IsPermutation (map shown (filter (λ r. true) rows)) found) → IsRead t read db blank
    → KnownRows (λ r. read (shown r)) rows blank
known t read shown rows db blank shows it = record {
  each = each_reads read shown rows it.1.0 it.0 (shows it.1.0 it.1.1) it.1.2;
  none = λ all. is_blank read shown rows it.1.0 it.0 (shows it.1.0 it.1.1) it.1.2 (it.2 all);
}

-- ---- the tables

module _ (db : Trees) (blank : Bool) where
  carrier_rows : IsRead Carrier carrier_in db blank → KnownRows carrier_entry (db 0) blank
  carrier_rows =
      known Carrier carrier_in carrier_shown (db 0) db blank (plain_answer 0 [] (shown_by Carrier)
      (overlay db []) [])

  lrn_rows : IsRead Lrn lrn_row_in db blank → KnownRows lrn_entry (db 2) blank
  lrn_rows = known Lrn lrn_row_in owner_shown (db 2) db blank (plain_answer 2 [] (shown_by Lrn)
      (overlay db []) [])

  code_rows : IsRead Code code_row_in db blank → KnownRows code_entry (db 3) blank
  code_rows =
      known Code code_row_in owner_shown (db 3) db blank (plain_answer 3 [] (shown_by Code)
      (overlay db []) [])

  block_rows : IsRead Block block_row_in db blank → KnownRows block_entry (db 4) blank
  block_rows =
      known Block block_row_in block_shown (db 4) db blank (plain_answer 4 [] (shown_by Block)
      (overlay db []) [])

  version_rows : IsRead Version version_in db blank → KnownRows version_entry (db 18) blank
  version_rows =
      known Version version_in shown_of (db 18) db blank (plain_answer 18 [] (shown_by Version)
      (overlay db []) [])

  pub broadcast_rows : IsRead Broadcast broadcast_in db blank
      → KnownRows broadcast_entry (db 8) blank
  broadcast_rows =
      known Broadcast broadcast_in broadcast_shown (db 8) db blank
      (plain_answer 8 [] (shown_by Broadcast) (overlay db []) [])

  pub wait_rows : IsRead Wait wait_in db blank → KnownRows wait_entry (db 10) blank
  wait_rows =
      known Wait wait_in wait_shown (db 10) db blank (plain_answer 10 [] (shown_by Wait)
      (overlay db []) [])

  clock_rows : IsRead Clock clock_in db blank → KnownRows clock_entry (db 21) blank
  clock_rows =
      known Clock clock_in clock_shown (db 21) db blank (plain_answer 21 [] (shown_by Clock)
      (overlay db []) [])

  pub next_rows : IsRead NextRouting next_row_in db blank → KnownRows next_entry (db 16) blank
  next_rows =
      known NextRouting next_row_in next_shown (db 16) db blank
      (plain_answer 16 [] (shown_by NextRouting) (overlay db []) [])

  set_rows : IsRead WindowSet set_in db blank → KnownRows set_entry (db 17) blank
  set_rows = known WindowSet set_in set_shown (db 17) db blank
      (plain_answer 17 [] (shown_by WindowSet) (overlay db []) [])

  old_version_rows : IsRead OldVersion old_version_in db blank
      → KnownRows old_version_entry (db 5) blank
  old_version_rows =
      known OldVersion old_version_in old_shown_of (db 5) db blank
      (plain_answer 5 [] (shown_by OldVersion) (overlay db []) [])

  old_clock_rows : IsRead OldClock old_clock_in db blank → KnownRows old_clock_entry (db 12) blank
  old_clock_rows =
      known OldClock old_clock_in old_clock_shown (db 12) db blank
      (plain_answer 12 [] (shown_by OldClock) (overlay db []) [])

-- The tables of an earlier schema were read.
pub moved_read : (db : Trees) (versions : List (ℕ × VersionRow)) (clocks : List (ℕ × ClockRow))
    → IsListAnswer (All OldVersion) old_version_in db [] versions
    → IsListAnswer (All OldClock) old_clock_in db [] clocks → AreMovedRead db
moved_read db versions clocks at_versions at_clock = record {
  versions = (old_version_rows db false (
    versions,
    at_versions,
    λ e. absurd
        (true≢false (sym e)),
  )).each;
  clock = (old_clock_rows db false (clocks, at_clock, λ e. absurd (true≢false (sym e)))).each;
}

abbrev every : List Bool → Bool
every = list_all (λ b. b)

every_first : (b : Bool) (bs : List Bool) → every (b ∷ bs) ≡ true → (b ≡ true) × (every bs ≡ true)
every_first true bs e = (refl, e)
every_first false bs e = absurd (true≢false (sym e))

module _ (db : Trees) (a b c d : Bool) where
  module _ (carriers : IsRead Carrier carrier_in db a) (lrns : IsRead Lrn lrn_row_in db b)
      (coded : IsRead Code code_row_in db c) (blocks : IsRead Block block_row_in db d) where
    pub registry_read : AreRegistryRead db
    registry_read = record {
      carriers = (carrier_rows db a carriers).each;
      lrns = (lrn_rows db b lrns).each;
      codes = (code_rows db c coded).each;
      blocks = (block_rows db d blocks).each;
    }

    pub registry_told : ReadsRegistry db (every (a ∷ b ∷ c ∷ d ∷ []))
    registry_told = record {
      read = registry_read;
      none = λ all.
          let first = every_first a (b ∷ c ∷ d ∷ []) all in
          let second = every_first b (c ∷ d ∷ []) first.1 in
          let third = every_first c (d ∷ []) second.1 in
          record {
            carriers = (carrier_rows db a carriers).none first.0;
            lrns = (lrn_rows db b lrns).none second.0;
            codes = (code_rows db c coded).none third.0;
            blocks = (block_rows db d blocks).none (every_first d [] third.1).0;
          };
    }

  module _ (versions : IsRead Version version_in db a) (broadcasts : IsRead Broadcast broadcast_in
      db b) (waits : IsRead Wait wait_in db c) (clock : IsRead Clock clock_in db d) where
    pub versions_told : ReadsVersions db (every (a ∷ b ∷ c ∷ d ∷ []))
    versions_told = record {
      read = record {
        versions = (version_rows db a versions).each;
        broadcasts = (broadcast_rows db b broadcasts).each;
        waits = (wait_rows db c waits).each;
        clock = (clock_rows db d clock).each;
      };
      none = λ all.
          let first = every_first a (b ∷ c ∷ d ∷ []) all in
          let second = every_first b (c ∷ d ∷ []) first.1 in
          let third = every_first c (d ∷ []) second.1 in
          record {
            versions = (version_rows db a versions).none first.0;
            broadcasts = (broadcast_rows db b broadcasts).none second.0;
            waits = (wait_rows db c waits).none third.0;
            clock = (clock_rows db d clock).none (every_first d [] third.1).0;
          };
    }

module _ (db : Trees) (a b : Bool) where
  pub added_told : IsRead NextRouting next_row_in db a → IsRead WindowSet set_in db b
      → ReadsAdded db (every (a ∷ b ∷ []))
  added_told nexts sets = record {
    read = record { nexts = (next_rows db a nexts).each; sets = (set_rows db b sets).each };
    none = λ all. let first = every_first a (b ∷ []) all in record {
      nexts = (next_rows db a nexts).none first.0;
      sets = (set_rows db b sets).none (every_first b [] first.1).0;
    };
  }

  pub moved_told : IsRead OldVersion old_version_in db a → IsRead OldClock old_clock_in db b
      → every (a ∷ b ∷ []) ≡ true → IsMoved db
  moved_told versions clock all = let first = every_first a (b ∷ []) all in record {
    versions = (old_version_rows db a versions).none first.0;
    clock = (old_clock_rows db b clock).none (every_first b [] first.1).0;
  }

none_over : (more : FinMap nat_cmp Routing) → over rerouted (empty {X = VersionRow} {R = nat_cmp})
    more ≡ empty
none_over more =
    same_map nat_cmp_total nat_cmp-IsAntisymmetric _ _ (λ k. get-over rerouted (empty {X =
    VersionRow} {R = nat_cmp}) more k ∙ ap (option_map (rerouted (get more k))) (get-empty {X =
    VersionRow} nat_cmp k) ∙ sym (get-empty {X = VersionRow} nat_cmp k))

-- Tables without rows have no content.
blank_is_empty : (db : Trees) → IsRegistryBlank db → AreVersionsBlank db → AreAddedBlank db
    → content_in db ≡ empty_content
blank_is_empty db registry versions added =
    rw (
      registry.carriers,
      registry.lrns,
      registry.codes,
      registry.blocks,
      versions.versions,
      versions.broadcasts,
      versions.waits,
      versions.clock,
      added.nexts,
      added.sets,
    )
    (ap (λ m. record empty_content {
      versions = m;
      clock = option_map (with_windows empty) (get (empty {X = StoredClock} {R = nat_cmp}) 0);
    }) (none_over (nexts_in []))
    ∙ ap (λ o. record empty_content { clock = option_map (with_windows empty) o })
    (get-empty {X = StoredClock} nat_cmp 0))

pub all_told : (db : Trees) (a b c : Bool) → ReadsRegistry db a → ReadsVersions db b
    → ReadsAdded db c → IsMoved db → HasPresentSet db
    → ((content_in db).clock ≡ None → every (a ∷ b ∷ c ∷ []) ≡ true)
    → ReadsAll db (every (a ∷ b ∷ c ∷ []))
all_told db a b c registry versions added moved present unbegun = record {
  whole = record {
    registry = registry.read;
    versions = versions.read;
    added = added.read;
    moved = moved;
    present = present;
  };
  begun = λ none. empty (unbegun none);
  none = empty;
}
  where
    empty : every (a ∷ b ∷ c ∷ []) ≡ true → content_in db ≡ empty_content
    empty all =
        let first = every_first a (b ∷ c ∷ []) all in
        let second = every_first b (c ∷ []) first.1 in
        blank_is_empty db (registry.none first.0) (versions.none second.0)
        (added.none (every_first c [] second.1).0)

-- A row that was put is readable, and so are the rows that were there.
pub reads_replaced : {X : Type 0} (t : Table) (entry : Row → Option X) (key params row : Row)
    (x : X) → entry row ≡ Some x → (old new : Database)
    → ((mid : Trees) → cast_rows t params mid ≡ row ∷ []) → Replaced t key params old new
    → EachReads entry (old.trees (tree_of t)) → EachReads entry (new.trees (tree_of t))
reads_replaced t entry key params row x reads old new news r each q at =
    let a = r.added.adds row (news r.added.base) in
    elim (put_has row (r.mid.trees (tree_of t)) q (subst (λ rows. Has rows q) a.rows at)) [
      | inl same ↦ (x, ap entry same ∙ reads)
      | inr was ↦ each q (has_filtered _ (old.trees (tree_of t)) q (subst (λ rows. Has rows q)
          r.removed.rows was)).0
    ]
