use Rattle.std.proofs.Common.{◌≡◌, ap, ◌∙◌, [], ◌∷◌}
use Rattle.std.specs.Prelude.{option_map}
use Rattle.numbers.specs.Abstraction.{subject_of}
use Rattle.version.specs.Abstraction.{model_with_windows, windows_of}
use Rattle.model.specs.Content.{row_of}
use Rattle.settle.specs.Changes.{Changes, no_changes, clock_move_of}
use Rattle.register.proofs.create.stage_version.Goals as goal

pub returns : goal.returns
returns c =
    let versions : (c.args.id, c.of.result) ∷ []
    ≡ (
      c.args.id,
      row_of (subject_of c.args.version.now.subject)
          (model_with_windows (windows_of c.args.windows.now) c.args.version.now),
    ) ∷ [] =
    ap (λ row. (c.args.id, row) ∷ []) (c.of.ensures 0 []) in
    ap (λ (n : Changes). let x : Changes = record n {
      clock = option_map clock_move_of c.args.next;
      versions = (c.args.id, c.of.result) ∷ [];
    } in x) c.requires
    ∙ ap (λ rows. let x : Changes = record no_changes {
      clock = option_map clock_move_of
          c.args.next;
      versions = rows;
    } in x) versions
