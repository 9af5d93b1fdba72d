use Rattle.std.proofs.Common.{rules, ◌≡◌, ◌∙◌, sym, ap, Some}
use Rattle.std.specs.FinMap.{get}
use Rattle.model.specs.Content.{VersionRow}
use Rattle.store.proofs.Found.{subject-is}
use Rattle.store.specs.VersionRows.{rows_of}
use Rattle.store.proofs.reads.hinted.Goals as goal

pub returns-then-is_subject : goal.returns-then-is_subject
returns-then-is_subject c =
    let at : get (rows_of c.args.tables.now.versions) c.args.id ≡ Some c.in_ok-row.row.now =
    search rules in (
      at ∙ ap (λ (r : VersionRow). Some r) (sym c.copied.ensures),
      ap (λ (r : VersionRow). r.holds) c.copied.ensures ∙ sym c.holds.ensures
          ∙ subject-is c.holds.result c.args.subject (sym c.is_subject.ensures
          ∙ c.if-is_subject.true),
    )
