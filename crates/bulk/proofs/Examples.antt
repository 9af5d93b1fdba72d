-- Worked bulk files, computed from the definitions.
use Rattle.std.specs.Prelude.{◌≡◌, true, [], ◌∷◌, codes, decimal, Some, None, refl}
use Rattle.std.proofs.Common.{inl, lit<, lit≤}
use Rattle.model.specs.History.{replay_of, replay_step, effect}
use Rattle.model.specs.Judge.{judge, judged_for, judged_version}
use Rattle.model.specs.Machine.{next, out}
use Rattle.model.specs.State.{queue}
use Rattle.model.specs.Refusals.{tests}
use Rattle.numbers.specs.Texts.{digits_of}
use Rattle.model.proofs.Examples.{a, b, c, n, start}
use Rattle.numbers.specs.declared.spid.Spid.{Spid}
use Rattle.numbers.specs.declared.tn.Tn.{Tn}
use Rattle.numbers.specs.declared.lrn.Lrn.{Lrn}
use Rattle.numbers.specs.declared.minute.Minute.{Minute}
use Rattle.version.specs.declared.create.Creator.TheVariants as creator
use Rattle.bulk.specs.Requests.{EncodesRequest, action_name}
use Rattle.bulk.specs.Report.{lines_of, report_line, tasks_from}
use Rattle.bulk.specs.declared.request.BulkRequest.{BulkRequest}
use Rattle.bulk.specs.declared.request.Operation.TheVariants as operation
use Rattle.bulk.specs.declared.range.Numbers.{Numbers}

-- AAAA, BBBB and CCCC, the number, and minute 100.
abbrev aaaa : Spid
aaaa = record { number = a; valid = refl }

abbrev bbbb : Spid
bbbb = record { number = b; valid = refl }

abbrev cccc : Spid
cccc = record { number = c; valid = refl }

abbrev tn : Tn
tn = record { number = n; valid = (lit< tt, lit≤ tt, lit≤ tt) }

abbrev single : Numbers
single = record {
  first = tn;
  last = tn;
  valid = record { one_code = refl; rise = lit≤ tt; few = lit< tt };
}

abbrev due : Minute
due = record { number = 100; valid = lit< tt }

abbrev new_create : Spid → Lrn → BulkRequest
new_create spid lrn = record {
  caller = spid;
  numbers = single;
  operation =
      operation.Create bbbb spid due (creator.NewProvider (record { lrn = lrn; cic = None }));
}

abbrev first : BulkRequest
first = new_create aaaa (record { number = 2025440000; valid = lit< tt })

abbrev second : BulkRequest
second = new_create cccc (record { number = 2025550000; valid = lit< tt })

abbrev third : BulkRequest
third = record {
  caller = bbbb;
  numbers = single;
  operation = operation.Create bbbb aaaa due (creator.OldProvider true);
}

-- The row of a new provider's create encodes it.
first_encodes_request :
    EncodesRequest (codes "AAAA" ∷ codes "subscriptionVersionNewSP-Create" ∷ codes "2025331234" ∷ codes "BBBB"
    ∷ codes "AAAA" ∷ decimal 100 ∷ codes "2025440000" ∷ [] ∷ [] ∷ []) first
unfolding digits_of action_name
first_encodes_request = record {
  subject = codes "2025331234";
  names = inl (refl, refl);
  fields =
      refl;
}

-- A create, another one for the same number, and the old provider's create: the second is refused.
file_is_reported :
    lines_of start (tasks_from 1 (Some first ∷ Some second ∷ Some third ∷ [])) ≡
    report_line 1 (codes "2025331234") (codes "ok") (decimal 1) ∷ report_line 2 (codes "2025331234")
    (codes "busy") [] ∷ report_line 3 (codes "2025331234") (codes "ok") (decimal 1) ∷ []
unfolding next replay_of replay_step effect judge judged_for judged_version queue tests out
    digits_of
file_is_reported = refl

-- A bad row is reported, and the rows after it are run.
bad_row_is_reported :
    lines_of start (tasks_from 1 (None ∷ Some third ∷ [])) ≡ report_line 1 [] (codes "bad_row") []
    ∷ report_line 2 (codes "2025331234") (codes "ok") (decimal 1) ∷ []
unfolding next replay_of replay_step effect judge judged_for judged_version queue tests out
    digits_of
bad_row_is_reported = refl
