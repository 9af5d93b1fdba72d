-- The view of a version, over contents.
use Rattle.std.proofs.Common.{◌≡◌, ℕ, Bool, true, false, not, ◌&&◌, ◌||◌, List, [], ◌∷◌, Some, None, refl, ap, sym, ◌∙◌}
use Rattle.std.specs.Prelude.{◌==◌, is_none, is_some}
use Rattle.std.specs.FinMap.{get}
use Rattle.model.specs.Content.{ClockRow, Content, VersionRow, row_of}
use Rattle.model.specs.Machine.{Shown, accepted, answer_of}
use Rattle.model.specs.State.{State, View, is_carrier, record_now, view_of}
use Rattle.model.specs.Refusals.{QuestionFrom, ShowVersion, first_refusal, no_version, npac, refusal, tests}
use Rattle.model.specs.Versions.{Version, version_with}
use Rattle.model.specs.Windows.{Windows}
use Rattle.model.proofs.Entered.{found_is}
use Rattle.model.proofs.Lagging.{no_row_now}
use Rattle.model.proofs.Shown.{id_found}
use Rattle.settle.specs.Abstraction.{version_row_of}
use Rattle.settle.specs.declared.rows.VersionRow.TheInside.{Inside}
use Rattle.version.specs.Abstraction.{version_of}
use Rattle.register.specs.Refinement.{Refines}
use Rattle.requests.specs.Calls.{refused_with}
use Rattle.register.specs.Settling.{SimulatesSettledStep, AreSettled}
use Rattle.register.proofs.OnVersions.RowVersion.{row_subject, row_version}
use Rattle.register.specs.Looking.{AreHeld}
use Rattle.register.proofs.EveryCall.Composed.{Views, answers_read, answers_refused_same}
use Rattle.register.proofs.EveryCall.HeldSets.{row_held}
use Rattle.register.proofs.OnVersions.OnVersion.{clock_is_of, clock_of, shown_is}
use Rattle.register.proofs.EveryCall.Settled.{row_now}

-- ---- who may ask for which version

abbrev show_table : (known is_admin none : Bool) → List (ℕ × Bool)
show_table known is_admin none =
    (1, not known && not is_admin) ∷ (10, none) ∷ []

by_table : (st : State) (caller id : ℕ) → refusal st (QuestionFrom caller (ShowVersion id))
    ≡ first_refusal (show_table (is_carrier st caller) (caller == npac) (no_version st id))
unfolding tests
by_table st caller id = refl

refused_first : (known is_admin none : Bool) → (is_admin || known) ≡ false
    → first_refusal (show_table known is_admin none) ≡ Some 1
refused_first false false none is = refl
refused_first true false none is = cc
refused_first false true none is = cc
refused_first true true none is = cc

refused_next : (known is_admin : Bool) → (is_admin || known) ≡ true
    → first_refusal (show_table known is_admin true) ≡ Some 10
refused_next true true is = refl
refused_next true false is = refl
refused_next false true is = refl
refused_next false false is = cc

passes : (known is_admin : Bool) → (is_admin || known) ≡ true
    → first_refusal (show_table known is_admin false) ≡ None
passes true true is = refl
passes true false is = refl
passes false true is = refl
passes false false is = cc

module _ (old new : Content) (caller id : ℕ) where
  may_ask : (known : Bool) → (caller == npac || is_some (get old.carriers caller)) ≡ known
      → (st : State) → Refines old st → (caller == npac || is_carrier st caller) ≡ known
  may_ask known is st refines =
      ap (λ b. caller == npac || b) (sym (refines.represents.carriers caller)) ∙ is

  pub show_unknown : (caller == npac || is_some (get old.carriers caller)) ≡ false → new ≡ old
      → SimulatesSettledStep old new (QuestionFrom caller (ShowVersion id)) (refused_with 1)
  show_unknown unknown same = answers_refused_same old new (QuestionFrom caller (ShowVersion id)) 1
      same
      (λ st refines settled.
      by_table st caller id ∙ refused_first (is_carrier st caller) (caller == npac)
      (no_version st id) (may_ask false unknown st refines))

  module _ (known : (caller == npac || is_some (get old.carriers caller)) ≡ true)
      (same : new ≡ old) where
    pub show_missing : get old.versions id ≡ None
        → SimulatesSettledStep old new (QuestionFrom caller (ShowVersion id)) (refused_with 10)
    show_missing none = answers_refused_same old new (QuestionFrom caller (ShowVersion id)) 10 same
        (λ st refines settled.
        by_table st caller id
        ∙ ap (λ o. first_refusal (show_table (is_carrier st caller) (caller == npac)
        (is_none o))) (no_row_now st old refines.represents id none)
        ∙ refused_next (is_carrier st caller) (caller == npac) (may_ask true known st refines))

    pub show_found : (clock : ClockRow) (row : VersionRow) (held : Windows) (u : Inside)
        (view : View) → old.clock ≡ Some clock →
        get old.versions id ≡ Some row → AreHeld old clock row.held held → version_row_of u ≡ row →
        Views held clock id u.version view →
        SimulatesSettledStep old new (QuestionFrom caller (ShowVersion id))
        (Some (Shown (Some view)))
    show_found clock row held u view clock_is there are_held is views =
        answers_read old new (QuestionFrom caller (ShowVersion id)) (Shown (Some view)) same
        (λ st. refl)
        each
      where
        each : (st : State) → Refines old st
            → AreSettled old st (QuestionFrom caller (ShowVersion id)) →
            (refusal st (QuestionFrom caller (ShowVersion id)) ≡ None)
            × (Shown (Some view) ≡ answer_of st (accepted st (QuestionFrom caller (ShowVersion id)))
            (QuestionFrom caller (ShowVersion id)))
        each st refines settled =
            let found : (v : Version) × (version_with id (record_now st row.subject) ≡ Some v)
            × (row ≡ row_of row.subject v) =
            row_now st old id row refines.represents settled there in
            let same_clock : clock ≡ clock_of st =
            clock_is_of old st clock refines.represents clock_is in
            let held_is : held ≡ found.0.held.windows =
            row_held st old clock refines.represents clock_is row.subject id found.0 found.1 row
            found.2 held are_held in
            let version_is : version_of id found.0.broadcasts held u.version ≡ found.0 =
            ap (λ k. version_of k found.0.broadcasts held u.version)
            (sym (id_found id (record_now st row.subject).versions found.0 found.1))
            ∙ ap (λ w. version_of found.0.id found.0.broadcasts w u.version) held_is
            ∙ row_version row.subject found.0 u (is ∙ found.2) in
            let view_is : view ≡ view_of st (record { subject = row.subject; version = found.0 }) =
            views st found.0.broadcasts (ap (λ (c : ClockRow). c.minute) (sym same_clock))
            ∙ ap (λ s. view_of st (record {
              subject = s;
              version =
                  version_of id found.0.broadcasts held u.version;
            }))
            (row_subject row.subject found.0 u (is ∙ found.2))
            ∙ ap (λ (v : Version). view_of st (record { subject = row.subject; version = v }))
            version_is in (
              by_table st caller id
                  ∙ ap (λ o. first_refusal (show_table (is_carrier st caller) (caller == npac)
                  (is_none o))) (found_is st refines.represents.history row.subject id found.0
                  found.1)
                  ∙ passes (is_carrier st caller) (caller == npac) (may_ask true known st refines),
              ap (λ x. Shown (Some x)) view_is
                  ∙ sym (shown_is st row.subject id found.0 refines.represents.history found.1),
            )
