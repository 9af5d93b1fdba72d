use Rattle.csv.specs.Records.{fields_of}
use Rattle.bulk.proofs.CopyMistaken.{copy_named, header_mistaken, if_some_of}
use Rattle.bulk.proofs.FieldLemmas.{if_none_of}
use Rattle.bulk.proofs.copy_mistake.copy_header_mistake_in.Goals as goal

pub returns-clause-some : goal.returns-clause-some
returns-clause-some c =
    if_some_of c.mistake_of.result (header_mistaken (fields_of c.args.row.now))
    c.mistake_of.ensures.some

pub returns-clause-none : goal.returns-clause-none
returns-clause-none c =
    if_none_of c.mistake_of.result (copy_named (fields_of c.args.row.now)) c.mistake_of.ensures.none
