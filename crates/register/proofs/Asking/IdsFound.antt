-- The ids of a number's versions, over contents.
use Rattle.std.proofs.Common.{◌≡◌, ℕ, Option, Some, None, refl, ap, sym, ◌∙◌}
use Rattle.std.specs.Prelude.{option_map}
use Rattle.numbers.specs.Subjects.{Subject, Number}
use Rattle.model.specs.Content.{Content, VersionRow}
use Rattle.model.specs.Machine.{Found}
use Rattle.model.specs.State.{State, record_now}
use Rattle.model.specs.Refusals.{QuestionFrom, Ids, refusal, tests}
use Rattle.model.specs.Versions.{Version, in_force, is_open, open_version, version_in_force}
use Rattle.model.proofs.Entered.{sound_now}
use Rattle.model.proofs.Shown.{id_found}
use Rattle.settle.specs.Reads.{IsInForce, IsOpen}
use Rattle.settle.specs.Settling.{IsSettled}
use Rattle.settle.specs.declared.rows.NumberedRow.{NumberedRow}
use Rattle.settle.proofs.Passing.{sound_open}
use Rattle.register.specs.Refinement.{Refines}
use Rattle.register.specs.Settling.{SimulatesSettledStep}
use Rattle.register.proofs.Asking.Alone.{none_held, one_in_force, row_is_held}
use Rattle.register.proofs.EveryCall.Composed.{answers_read}
use Rattle.register.proofs.EveryCall.Settled.{number_of_number}

abbrev its_id : Version → ℕ
its_id v = v.id

abbrev id_in : NumberedRow → ℕ
id_in row = row.id

module _ (st : State) (c : Content) (refines : Refines c st) (s : Subject)
    (due : IsSettled c st s) where
  in_force_id : (o : Option NumberedRow) → IsInForce c s o
      → option_map id_in o ≡ option_map its_id (version_in_force (record_now st s))
  in_force_id None absent =
      sym (ap (option_map its_id) (none_held st c refines s due (λ t v. in_force v)
      (λ (x : VersionRow). x.holds) (λ t v. refl) (one_in_force st c refines s) absent))
  in_force_id (Some row) is =
      let held = row_is_held st c refines s due (λ t v. in_force v) (λ (x : VersionRow). x.holds)
      (λ t v. refl) (one_in_force st c refines s) row.id row.row is.0 is.1 in
      sym (ap (option_map its_id) held.1
      ∙ ap (λ x. Some x) (id_found row.id (record_now st s).versions held.0 held.2))

  opened_id : (o : Option NumberedRow) → IsOpen c s o
      → option_map id_in o ≡ option_map its_id (open_version s (record_now st s))
  opened_id None absent =
      sym (ap (option_map its_id)
      (none_held st c refines s due (λ t v. is_open t v) (λ (x : VersionRow). x.opens) (λ t v. refl)
      (sound_open s (record_now st s).versions (sound_now st refines.represents.history s)) absent))
  opened_id (Some row) is =
      let held = row_is_held st c refines s due (λ t v. is_open t v) (λ (x : VersionRow). x.opens)
      (λ t v. refl)
      (sound_open s (record_now st s).versions (sound_now st refines.represents.history s)) row.id
      row.row is.0 is.1 in
      sym (ap (option_map its_id) held.1
      ∙ ap (λ x. Some x) (id_found row.id (record_now st s).versions held.0 held.2))

-- No caller is refused.
never_refused : (st : State) (caller tn : ℕ) → refusal st (QuestionFrom caller (Ids tn)) ≡ None
unfolding tests
never_refused st caller tn = refl

pub answers_ids : (old new : Content) (caller tn : ℕ) (held opened : Option NumberedRow)
    (first second : Option ℕ) →
    first ≡ option_map id_in held → second ≡ option_map id_in opened → new ≡ old
    → IsInForce old (Number tn) held → IsOpen old (Number tn) opened →
    SimulatesSettledStep old new (QuestionFrom caller (Ids tn)) (Some (Found first second))
answers_ids old new caller tn held opened first second e f same is_held is_opened =
    answers_read old new (QuestionFrom caller (Ids tn)) (Found first second) same (λ st. refl)
    (λ st refines settled.
    let due = settled (Number tn) (number_of_number st tn) in (
      never_refused st caller tn,
      ap (λ o. Found o second) (e ∙ in_force_id st old refines (Number tn) due held is_held)
          ∙ ap (Found (option_map its_id (version_in_force (record_now st (Number tn)))))
          (f ∙ opened_id st old refines (Number tn) due opened is_opened),
    ))
