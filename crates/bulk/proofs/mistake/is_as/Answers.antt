use Rattle.std.proofs.Common.{◌≡◌}
use Rattle.numbers.specs.Abstraction.{subject_of}
use Rattle.numbers.specs.Texts.{lrn_text, minute_text, spid_text, subject_text}
use Rattle.numbers.specs.declared.lrn.Lrn.{Lrn}
use Rattle.numbers.specs.declared.minute.Minute.{Minute}
use Rattle.numbers.specs.declared.ported.Subject.{Subject}
use Rattle.numbers.specs.declared.spid.Spid.{Spid}
use Rattle.bulk.specs.Requests.{Names}
use Rattle.bulk.specs.declared.mistake.Expected.TheVariants as expected
use Rattle.bulk.proofs.FieldLemmas.{if_none_of}
use Rattle.bulk.proofs.Mistaken.{as_expected, parsed}
use Rattle.bulk.proofs.mistake.is_as.Goals as goal

pub returns-in-Carrier : goal.returns-in-Carrier
returns-in-Carrier c =
    as_expected c.args.column c.args.expected expected.Carrier c.args.field.now _ c.in-Carrier.is
    (parsed (λ (spid : Spid). c.args.field.now ≡ spid_text spid.number) c.spid_in.result
    c.spid_in.ensures.some
    (if_none_of c.spid_in.result (λ none spid. none spid.number spid.valid)
    c.spid_in.ensures.none) c.is_some-in-Carrier.result c.is_some-in-Carrier.ensures)

pub returns-in-Numbers : goal.returns-in-Numbers
returns-in-Numbers c =
    as_expected c.args.column c.args.expected expected.Numbers c.args.field.now _ c.in-Numbers.is
    (parsed (Names c.args.field.now) c.numbers_in.result c.numbers_in.ensures.some
    c.numbers_in.ensures.none c.is_some-in-Numbers.result c.is_some-in-Numbers.ensures)

pub returns-in-Subject : goal.returns-in-Subject
returns-in-Subject c =
    as_expected c.args.column c.args.expected expected.Subject c.args.field.now _ c.in-Subject.is
    (parsed (λ (subject : Subject). c.args.field.now ≡ subject_text (subject_of subject))
    c.subject_in.result c.subject_in.ensures.some c.subject_in.ensures.none
    c.is_some-in-Subject.result c.is_some-in-Subject.ensures)

pub returns-in-Minute : goal.returns-in-Minute
returns-in-Minute c =
    as_expected c.args.column c.args.expected expected.Minute c.args.field.now _ c.in-Minute.is
    (parsed (λ (minute : Minute). c.args.field.now ≡ minute_text minute.number)
    c.minute_in.result c.minute_in.ensures.some
    (if_none_of c.minute_in.result (λ none minute. none minute.number minute.valid)
    c.minute_in.ensures.none) c.is_some-in-Minute.result c.is_some-in-Minute.ensures)

pub returns-in-Lrn : goal.returns-in-Lrn
returns-in-Lrn c =
    as_expected c.args.column c.args.expected expected.Lrn c.args.field.now _ c.in-Lrn.is
    (parsed (λ (lrn : Lrn). c.args.field.now ≡ lrn_text lrn.number) c.lrn_in.result
    c.lrn_in.ensures.some
    (if_none_of c.lrn_in.result (λ none lrn. none lrn.number lrn.valid) c.lrn_in.ensures.none)
    c.is_some-in-Lrn.result c.is_some-in-Lrn.ensures)
