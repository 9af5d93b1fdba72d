-- What lagging rows say of a state.
use Rattle.std.proofs.Common.{◌≡◌, ℕ, zero, suc, ◌+◌, ◌-◌, Bool, true, false, cond, ◌||◌, List, [], ◌∷◌, Option, Some, None, refl, ap, sym, ◌∙◌}
use Rattle.std.specs.Prelude.{◌==◌, find, option_map, option_and_then}
use Rattle.std.specs.FinMap.{get}
use Rattle.numbers.specs.Subjects.{Subject}
use Rattle.model.specs.Windows.{Windows, WindowSet}
use Rattle.model.specs.Versions.{Version, Record, version_with}
use Rattle.model.specs.Judge.{judged_version, judge, judged_for, caught_up}
use Rattle.model.specs.Concerns.{has_id}
use Rattle.model.specs.History.{subject_of_id}
use Rattle.model.specs.State.{State, record_now, version_of_id, of_its_subject, set_now, made_now}
use Rattle.model.specs.Content.{Content, VersionRow, RowsMatch, RowsCatchUp, Represents, row_of, of_subject, subject_if, stored_wait, wait_key}
use Rattle.model.proofs.Lists.{everywhere}
use Rattle.model.proofs.Ids.{changed-has_id}
use Rattle.model.proofs.Sound.{judged_version-id}
use Rattle.model.proofs.Entered.{none_with}
use Rattle.model.proofs.Shown.{own, some_is, none_mapped}

-- ---- ids

judged_for-has_id : (w : WindowSet) (from n id : ℕ) (r : Record)
    → has_id id (judged_for w from n r).versions ≡ has_id id r.versions
unfolding judged_for judge
judged_for-has_id w from zero id r = refl
judged_for-has_id w from (suc n) id r =
    changed-has_id w (suc (from + n)) id (judged_version w (judged_for w from n r).carriers
    (suc (from + n))) (judged_for w from n r).versions
    (everywhere (judged_version-id w (judged_for w from n r).carriers (suc (from + n)))
    (judged_for w from n r).versions)
    ∙ judged_for-has_id w from n id r

-- Catching up makes no version and removes none.
pub caught_up-has_id : (w : WindowSet) (now id : ℕ) (r : Record)
    → has_id id (caught_up w now r).versions ≡ has_id id r.versions
unfolding judge
caught_up-has_id w now id r =
    judged_for-has_id w 0 (now - 0) id (judge w 0 r)
    ∙ changed-has_id w 0 id (judged_version w r.carriers 0) r.versions
    (everywhere (judged_version-id w r.carriers 0) r.versions)

pub found_has_id : (id : ℕ) (vs : List Version) (v : Version) → find (λ u. u.id == id) vs ≡ Some v
    → has_id id vs ≡ true
found_has_id id [] v found = cc
found_has_id id (u ∷ us) v found = by_cases (λ later. found_has_id id us v later) (u.id == id) found
  where
    by_cases : (find (λ x. x.id == id) us ≡ Some v → has_id id us ≡ true) → (b : Bool)
        → cond b (Some u) (find (λ x. x.id == id) us) ≡ Some v → (b || has_id id us) ≡ true
    by_cases later true e = refl
    by_cases later false e = later e

pub without_id : (id : ℕ) (vs : List Version) → has_id id vs ≡ false
    → find (λ u. u.id == id) vs ≡ None
without_id id [] none = refl
without_id id (u ∷ us) none = by_cases (λ later. without_id id us later) (u.id == id) none
  where
    by_cases : (has_id id us ≡ false → find (λ x. x.id == id) us ≡ None) → (b : Bool)
        → (b || has_id id us) ≡ false → cond b (Some u) (find (λ x. x.id == id) us) ≡ None
    by_cases later true e = cc
    by_cases later false e = later e

-- ---- a record's rows

-- A row of the subject is that of a version.
pub row_shown : (c : Content) (r : Record) (id : ℕ) (row : VersionRow) → RowsMatch c row.subject r
    → get c.versions id ≡ Some row →
    (v : Version) × (version_with id r ≡ Some v) × (row ≡ row_of row.subject v)
row_shown c r id row shows found = by_cases (version_with id r) refl
  where
    shown : Some row ≡ option_map (row_of row.subject) (version_with id r)
    shown = sym (own row.subject (λ (x : VersionRow). x.subject) row refl)
        ∙ ap (of_subject row.subject (λ (x : VersionRow). x.subject)) (sym found)
        ∙ shows.versions id

    by_cases : (o : Option Version) → version_with id r ≡ o → (v : Version)
        × (version_with id r ≡ Some v)
        × (row ≡ row_of row.subject v)
    by_cases None e = let no : Some row ≡ None = shown ∙ ap (option_map (row_of row.subject)) e in
        cc
    by_cases (Some v) e = (
      v,
      e,
      some_is row (row_of row.subject v) (shown ∙ ap (option_map (row_of row.subject)) e),
    )

-- If the record has no version with the id, no row with the id is the subject's.
module _ (c : Content) (t : Subject) (r : Record) (shows : RowsMatch c t r) (id : ℕ)
    (free : version_with id r ≡ None) where
  pub no_version : of_subject t (λ (x : VersionRow). x.subject) (get c.versions id) ≡ None
  no_version = shows.versions id ∙ ap (option_map (row_of t)) free

  pub no_wait : (carrier minute attempt : ℕ)
      → of_subject t (λ u. u) (get c.waits (wait_key carrier minute id attempt)) ≡ None
  no_wait carrier minute attempt = shows.waits carrier minute id attempt
      ∙ ap (λ o. option_and_then (stored_wait t carrier minute)
      (option_and_then (λ (u : Version). find (λ x. x.attempt == attempt) u.broadcasts) o)) free

-- ---- a record that lags

-- It has the ids of the record as it is now.
pub kept_has_id : (w : Windows) (present : WindowSet) (c : Content) (now : ℕ) (s : Subject)
    (r : Record) → (lags : RowsCatchUp w present c now s r) → (id : ℕ)
    → has_id id lags.kept.versions ≡ has_id id r.versions
kept_has_id w present c now s r lags id = sym (caught_up-has_id present now id lags.kept)
    ∙ ap (λ (x : Record). has_id id x.versions) lags.catches_up

pub kept_free : (w : Windows) (present : WindowSet) (c : Content) (now : ℕ) (s : Subject)
    (r : Record) → (lags : RowsCatchUp w present c now s r) → (id : ℕ) → version_with id r ≡ None
    → version_with id lags.kept ≡ None
kept_free w present c now s r lags id free =
    without_id id lags.kept.versions (kept_has_id w present c now s r lags id
    ∙ none_with id r.versions free)

module _ (st : State) (c : Content) (represents : Represents c st) where
  -- A row is that of a version of its subject.
  kept_row : (id : ℕ) (row : VersionRow) → get c.versions id ≡ Some row →
      (v : Version) × (version_with id (represents.subjects row.subject).kept ≡ Some v)
      × (row ≡ row_of row.subject v)
  kept_row id row found =
      row_shown c (represents.subjects row.subject).kept id row
      (represents.subjects row.subject).rows_match found

  -- The row's subject has a version with its id now.
  pub row_has_id : (id : ℕ) (row : VersionRow) → get c.versions id ≡ Some row
      → has_id id (record_now st row.subject).versions ≡ true
  row_has_id id row found =
      sym (kept_has_id st.windows (set_now st) c st.now row.subject (record_now st row.subject)
      (represents.subjects row.subject) id)
      ∙ found_has_id id (represents.subjects row.subject).kept.versions (kept_row id row found).0
      (kept_row id row found).1

  -- A row that has the subject in a column is of the subject.
  pub column_subject : (test : Subject → Version → Bool) (column : VersionRow → Option Subject) →
      ((t : Subject) (v : Version) → column (row_of t v) ≡ subject_if (test t v) t) →
      (id : ℕ) (row : VersionRow) (s : Subject) → get c.versions id ≡ Some row → column row ≡ Some s
      → row.subject ≡ s
  column_subject test column is_column id row s found has =
      let shown = kept_row id row found in
      held (test row.subject shown.0) (sym (is_column row.subject shown.0) ∙ sym (ap column shown.2)
      ∙ has)
    where
      held : (b : Bool) → subject_if b row.subject ≡ Some s → row.subject ≡ s
      held true e = some_is row.subject s e
      held false e = cc

  -- If no row has the id, no version has it.
  pub no_row_at : (id : ℕ) → get c.versions id ≡ None → (s : Subject)
      → has_id id (record_now st s).versions ≡ false
  no_row_at id none s =
      sym (kept_has_id st.windows (set_now st) c st.now s (record_now st s) (represents.subjects s)
      id)
      ∙ none_with id (represents.subjects s).kept.versions
      (none_mapped (row_of s) (version_with id (represents.subjects s).kept)
      (sym ((represents.subjects s).rows_match.versions id)
      ∙ ap (of_subject s (λ (x : VersionRow). x.subject)) none))

  pub no_row_now : (id : ℕ) → get c.versions id ≡ None → version_of_id st id ≡ None
  no_row_now id none = by_cases (subject_of_id id 1 (made_now st))
    where
      by_cases : (o : Option Subject)
          → option_and_then (λ s. of_its_subject s (version_with id (record_now st s))) o ≡ None
      by_cases None = refl
      by_cases (Some s) =
          ap (of_its_subject s) (without_id id (record_now st s).versions (no_row_at id none s))

  -- The subject of a pending download has a version with its id.
  pub wait_has_id : (carrier minute id attempt : ℕ) (s : Subject)
      → get c.waits (wait_key carrier minute id attempt) ≡ Some s →
      has_id id (record_now st s).versions ≡ true
  wait_has_id carrier minute id attempt s found =
      by_cases (has_id id (record_now st s).versions) refl
    where
      by_cases : (b : Bool) → has_id id (record_now st s).versions ≡ b → b ≡ true
      by_cases true e = refl
      by_cases false e =
          let none : of_subject s (λ u. u) (get c.waits (wait_key carrier minute id attempt))
          ≡ None =
          no_wait c s (represents.subjects s).kept (represents.subjects s).rows_match id
          (kept_free st.windows (set_now st) c st.now s (record_now st s) (represents.subjects s) id
          (without_id id (record_now st s).versions e)) carrier minute attempt in
          let never : Some s ≡ None =
          sym (own s (λ u. u) s refl) ∙ ap (of_subject s (λ u. u)) (sym found) ∙ none in cc
