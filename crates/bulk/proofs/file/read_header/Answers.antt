use Rattle.std.proofs.Common.{◌≡◌, ◌∷◌, inl, refl, ap, rules, ◌∙◌}
use Rattle.csv.specs.Records.{fields_of}
use Rattle.bulk.specs.Requests.{header}
use Rattle.bulk.specs.Rows.{HasRows}
use Rattle.bulk.proofs.Filed.{other_first, no_first_read}
use Rattle.bulk.proofs.file.read_header.Goals as goal

pub returns-in_err-row-clause-other : goal.returns-in_err-row-clause-other
returns-in_err-row-clause-other g c =
    let none = no_first_read (HasRows g.R.Read.remaining c.args.reader.now)
    c.in_err-row.ensures.none in
    search rules

pub returns-then-is_header-clause-header : goal.returns-then-is_header-clause-header
returns-then-is_header-clause-header g c = λ rows has.
    let first = c.in_ok-row.ensures.first rows has in
    let named : fields_of c.in_ok-row.row ≡ header = c.is_header.ensures.0 c.if-is_header.true in
    (first.0, first.1 ∙ ap (λ r. r ∷ first.0) named, first.2)

pub returns-clause-other : goal.returns-clause-other
returns-clause-other g c =
    inl (
      refl,
      λ rows has.
          let first = c.in_ok-row.ensures.first rows has in
          other_first rows first.0 (fields_of c.in_ok-row.row) first.1 (λ e. let h =
          c.is_header.ensures.1 e in cc),
    )
