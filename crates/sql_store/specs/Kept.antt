-- What a store keeps beside its connection.
use Rattle.std.specs.Prelude.{◌≡◌, ℕ, Option, Some, None, IsTrue, false, option_map, refl}
use Rattle.std.specs.Coded.{Coded, code_by, coded×, coded_ℕ, coded_option, coded_list}
use Rattle.std.specs.FinMap.{get}
use Rattle.std.specs.Global.{Vec}
use Rattle.std.specs.List.{list_any}
use Rattle.std.proofs.Math.Bool.{Bool-set}
use base.Stored.{Coded-set}
use mathlib.Core.HLevel.{Π_prop}
use Rattle.sqlite.specs.State.{State, HasCleanDisk}
use Rattle.numbers.specs.declared.minute.Minute.{Minute}
use Rattle.numbers.specs.declared.spid.Spid.{Spid}
use Rattle.model.specs.Content.{ClockRow, Content, VersionRow}
use Rattle.model.specs.Windows.{Windows}
use Rattle.settle.specs.Abstraction.{clock_row_of}
use Rattle.settle.specs.Changes.{Changes, clock_after}
use Rattle.settle.specs.Reads.{AreCarriers}
use Rattle.settle.specs.Settling.{has_come}
use Rattle.settle.specs.declared.rows.ClockRow.{ClockRow as ClockRowImpl}
use Rattle.sql_store.specs.declared.kept.Kept.{Kept}
use Rattle.sql_store.specs.Store.{content_at}

abbrev pub coded_windows : Coded Windows
coded_windows =
    code_by (ℕ × (ℕ × (ℕ × (ℕ × (ℕ × (ℕ × (ℕ × (ℕ × ℕ))))))))
    (coded× coded_ℕ (coded× coded_ℕ (coded× coded_ℕ (coded× coded_ℕ (coded× coded_ℕ
    (coded× coded_ℕ (coded× coded_ℕ (coded× coded_ℕ coded_ℕ))))))))
    (λ w. (
      w.initial_concurrence,
      (
        w.final_concurrence,
        (
          w.conflict_restriction,
          (
            w.conflict_resolution,
            (
              w.conflict_expiration,
              (
                w.cancellation_initial,
                (w.cancellation_final, (w.pending_retention, w.broadcast)),
              ),
            ),
          ),
        ),
      ),
    ))
    (λ t. record {
      initial_concurrence = t.0;
      final_concurrence = t.1.0;
      conflict_restriction = t.1.1.0;
      conflict_resolution = t.1.1.1.0;
      conflict_expiration = t.1.1.1.1.0;
      cancellation_initial = t.1.1.1.1.1.0;
      cancellation_final = t.1.1.1.1.1.1.0;
      pending_retention = t.1.1.1.1.1.1.1.0;
      broadcast = t.1.1.1.1.1.1.1.1;
    })
    (λ w. refl)

abbrev pub coded_clock : Coded ClockRow
coded_clock =
    code_by (ℕ × (ℕ × (ℕ × Windows)))
    (coded× coded_ℕ (coded× coded_ℕ (coded× coded_ℕ coded_windows)))
    (λ r. (r.minute, (r.next_id, (r.present.number, r.present.windows))))
    (λ t. record {
      minute = t.0;
      next_id = t.1.0;
      present = record { number = t.1.1.0; windows = t.1.1.1 };
    })
    (λ r. refl)

-- Holds if the fact is true of the content, and the connection is open unless its disk has failed.
-- A shut connection over a clean disk answers no look-up, so nothing is kept then.
pub record IsKept (s : State) (IsFact : Content → Type 0) : Type 0 where
  pub answers : HasCleanDisk s → IsTrue s.is_open
  pub is : IsTrue s.is_open → IsFact (content_at s)

-- Holds if a kept value is the content's.
abbrev pub IsKeptIfSome : {A : Type 0} → (A → Content → Type 0) → State → Option A → Type 0
IsKeptIfSome Is s kept = (value : _) → kept ≡ Some value → IsKept s (Is value)

-- Holds if the content has this clock's row.
abbrev pub IsClock : ClockRowImpl → Content → Type 0
IsClock row c = c.clock ≡ Some (clock_row_of row)

-- Holds if the list has all registered carriers, ascending.
abbrev pub AreAllCarriers : Vec Spid → Content → Type 0
AreAllCarriers all c = AreCarriers c all.items

-- Holds if no deadline has come at this minute.
abbrev pub IsQuietAt : Minute → Content → Type 0
IsQuietAt minute c = (id : ℕ) (row : VersionRow) → get c.versions id ≡ Some row
    → has_come row.deadline minute.number ≡ false

-- Holds if all that is kept is the content's.
pub record AreKept (s : State) (kept : Kept) : Type 0 where
  pub clock : IsKeptIfSome IsClock s kept.clock
  pub carriers : IsKeptIfSome AreAllCarriers s kept.carriers
  pub quiet : IsKeptIfSome IsQuietAt s kept.quiet

-- Holds if `kept` is what is known after the changes of what was known before. `row` is the clock's
-- row before the changes.
pub record IsKnownAfter (changes : Changes) (row : Option ClockRowImpl) (before : Kept)
    (kept : Kept) : Type 0 where
  pub clock : option_map clock_row_of kept.clock
      ≡ clock_after changes.clock changes.set (option_map clock_row_of row)
  pub carriers : (all : Vec Spid) → kept.carriers ≡ Some all → (before.carriers ≡ Some all)
      × (changes.carrier ≡ None)
  pub quiet : (minute : Minute) → kept.quiet ≡ Some minute → (before.quiet ≡ Some minute)
      × (list_any (λ p. has_come p.1.deadline minute.number) changes.versions ≡ false)

-- Nothing.
abbrev pub nothing : Kept
nothing = record { clock = None; carriers = None; quiet = None }

IsKept-prop : (s : State) (IsFact : Content → Type 0) → ((c : Content) → IsProp (IsFact c))
    → IsProp (IsKept s IsFact)
IsKept-prop s IsFact prop a b i = record {
  answers = Π_prop (λ _. Bool-set _ _) a.answers b.answers i;
  is = Π_prop (λ _. prop _) a.is b.is i;
}

kept_if_some : {A : Type 0} (Is : A → Content → Type 0)
    → ((value : A) (c : Content) → IsProp (Is value c)) → (s : State) (kept : Option A)
    → IsProp (IsKeptIfSome Is s kept)
kept_if_some Is prop s kept = Π_prop (λ value. Π_prop (λ _. IsKept-prop s (Is value) (prop value)))

-- The type of a ghost field must be a proposition.
pub are_kept : (s : State) (kept : Kept) → IsProp (AreKept s kept)
are_kept s kept a b i = record {
  clock = kept_if_some IsClock (λ _ _. Coded-set (coded_option coded_clock) _ _) s kept.clock
      a.clock b.clock i;
  carriers = kept_if_some AreAllCarriers (λ _ _. Coded-set (coded_list coded_ℕ) _ _) s kept.carriers
      a.carriers b.carriers i;
  quiet = kept_if_some IsQuietAt (λ _ _. Π_prop (λ _. Π_prop (λ _. Π_prop (λ _. Bool-set _ _)))) s
      kept.quiet a.quiet b.quiet i;
}
