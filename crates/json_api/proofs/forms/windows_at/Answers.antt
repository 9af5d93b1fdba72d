use Rattle.std.proofs.Common.{sym}
use Rattle.model.specs.Windows.{Windows}
use Rattle.json_api.specs.Forms.{HasWindows}
use Rattle.json_api.proofs.FormLemmas.{on_none, no_window}
use Rattle.json_api.proofs.forms.windows_at.Goals as goal

pub returns-in_err-window_at-7-clause-none : goal.returns-in_err-window_at-7-clause-none
returns-in_err-window_at-7-clause-none g c =
    let none : (w : Windows) → ¬ (HasWindows (g.F.Fields.value c.args.fields.now) w) =
    λ w h. no_window _ _ c.in_err-window_at-7.ensures h.cancellation_final in
    on_none _ none

pub returns-in_err-window_at-8-clause-none : goal.returns-in_err-window_at-8-clause-none
returns-in_err-window_at-8-clause-none g c =
    let none : (w : Windows) → ¬ (HasWindows (g.F.Fields.value c.args.fields.now) w) =
    λ w h. no_window _ _ c.in_err-window_at-8.ensures h.pending_retention in
    on_none _ none

pub returns-clause-some : goal.returns-clause-some
returns-clause-some g c = record {
  initial_concurrence = sym c.in_ok-window_at.ensures;
  final_concurrence = sym c.in_ok-window_at-2.ensures;
  conflict_restriction = sym c.in_ok-window_at-3.ensures;
  conflict_resolution = sym c.in_ok-window_at-4.ensures;
  conflict_expiration = sym c.in_ok-window_at-5.ensures;
  cancellation_initial = sym c.in_ok-window_at-6.ensures;
  cancellation_final = sym c.in_ok-window_at-7.ensures;
  pending_retention = sym c.in_ok-window_at-8.ensures;
  broadcast = sym c.in_ok-window_at-9.ensures;
}
