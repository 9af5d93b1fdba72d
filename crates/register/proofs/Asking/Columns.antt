-- A version found by a column of its row is the one of its record.
use Rattle.std.proofs.Common.{◌≡◌, ℕ, Bool, Option, Some, None, refl, ap, sym, ◌∙◌}
use Rattle.std.specs.Prelude.{find}
use Rattle.numbers.specs.Subjects.{Subject}
use Rattle.numbers.specs.Abstraction.{subject_of}
use Rattle.model.specs.Versions.{Version, in_force, is_open, version_with}
use Rattle.model.specs.State.{State, record_now}
use Rattle.model.specs.Content.{Content, VersionRow, row_of, subject_if}
use Rattle.model.proofs.Entered.{sound_now}
use Rattle.version.specs.declared.version.Version.{Version as VersionImpl}
use Rattle.version.specs.Abstraction.{version_of, HasModel}
use Rattle.settle.specs.Settling.{IsSettled}
use Rattle.settle.specs.Abstraction.{version_row_of}
use Rattle.register.specs.Refinement.{Refines}
use Rattle.register.specs.Serving.{IsIn, IsOpened, IsVersionInForce}
use Rattle.settle.proofs.Passing.{OnePasses, sound_open}
use Rattle.register.proofs.OnVersions.RowVersion.{row_version, row_subject}
use Rattle.register.proofs.Asking.Alone.{row_is_held, none_held, one_in_force}

-- Holds if the version found is the one of the record that passes the test.
abbrev pub IsFound : State → Subject → (Version → Bool) → Option (ℕ × VersionImpl) → Type 0
IsFound st s f None = find f (record_now st s).versions ≡ None
IsFound st s f (Some e) =
    (v : Version) × (find f (record_now st s).versions ≡ Some v)
    × (version_with e.0 (record_now st s) ≡ Some v) × HasModel e.1 v × (subject_of e.1.subject ≡ s)

module _ (test : Subject → Version → Bool) (column : VersionRow
    → Option Subject) (is_column : (s : Subject) (v : Version)
    → column (row_of s v) ≡ subject_if (test s v) s)
    (st : State) (c : Content) (s : Subject) (refines : Refines c st) (due : IsSettled c st s)
    (one : OnePasses (test s) (record_now st s).versions) where
  one_there : (e : ℕ × VersionImpl) → IsIn column c s (Some e) → IsFound st s (test s) (Some e)
  one_there e is =
      let held = row_is_held st c refines s due test column is_column one e.0 (version_row_of is.0)
      is.1 is.2 in (
        held.0,
        held.1,
        held.2,
        ap (λ (u : VersionImpl). version_of held.0.id held.0.broadcasts held.0.held.windows u)
            (sym is.3) ∙ row_version s held.0 is.0 held.3,
        ap (λ (u : VersionImpl). subject_of u.subject) (sym is.3) ∙ row_subject s held.0 is.0
            held.3,
      )

  by_column : (o : Option (ℕ × VersionImpl)) → IsIn column c s o → IsFound st s (test s) o
  by_column None is = none_held st c refines s due test column is_column one is
  by_column (Some e) is = one_there e is

pub opened_is : (st : State) (c : Content) (s : Subject) (o : Option (ℕ × VersionImpl))
    → Refines c st → IsSettled c st s → IsOpened c s o → IsFound st s (is_open s) o
opened_is st c s o refines due is =
    by_column (λ t v. is_open t v) (λ (row : VersionRow). row.opens) (λ t v. refl) st c s refines
    due
    (sound_open s (record_now st s).versions (sound_now st refines.represents.history s)) o is

pub held_is : (st : State) (c : Content) (s : Subject) (o : Option VersionImpl) → Refines c st
    → IsSettled c st s → (held : IsVersionInForce c s o) → IsFound st s in_force held.0
held_is st c s o refines due held =
    by_column (λ t v. in_force v) (λ (row : VersionRow). row.holds) (λ t v. refl) st c s refines due
    (one_in_force st c refines s) held.0 held.1
