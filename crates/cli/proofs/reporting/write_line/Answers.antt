use Rattle.std.proofs.Common.{◌∷◌, [], ◌++◌, codes, subst}
use Rattle.std.specs.Io.KnownBytes.{Appends}
use Rattle.http_messages.specs.Sending.{AppendsPrefix}
use Rattle.cli.proofs.Fronts.{front_behind, front_of_first, on_err, on_err_too}
use Rattle.cli.proofs.reporting.write_line.Goals as goal

pub returns-in_err-send_all-clause-err : goal.returns-in_err-send_all-clause-err
returns-in_err-send_all-clause-err g c =
    let had = g.E.Write.contents c.args.errors.now in
    let first = g.E.Write.contents c.send_all.new.writer in
    let front =
    subst (AppendsPrefix had first) c.as_bytes.ensures.value c.in_err-send_all.ensures.err in
    on_err _ _ (front_of_first had first (codes "npacd: ") (c.args.name.now ++ 10 ∷ []) front)

pub returns-in_err-send_all-2-clause-err : goal.returns-in_err-send_all-2-clause-err
returns-in_err-send_all-2-clause-err g c =
    let had = g.E.Write.contents c.args.errors.now in
    let first = g.E.Write.contents c.send_all.new.writer in
    let second = g.E.Write.contents c.send_all-2.new.writer in
    let name = c.args.name.now in
    let begun = subst (Appends had first) c.as_bytes.ensures.value c.in_ok-send_all.ensures.ok in
    let front =
    subst (AppendsPrefix first second) c.as_bytes-2.ensures.value c.in_err-send_all-2.ensures.err in
    on_err _ _ (front_behind had first second (codes "npacd: ") (name ++ 10 ∷ []) begun
    (front_of_first first second name (10 ∷ []) front))

pub returns-clause-err : goal.returns-clause-err
returns-clause-err g c =
    let had = g.E.Write.contents c.args.errors.now in
    let first = g.E.Write.contents c.send_all.new.writer in
    let second = g.E.Write.contents c.send_all-2.new.writer in
    let third = g.E.Write.contents c.send_all-3.new.writer in
    let name = c.args.name.now in
    let begun = subst (Appends had first) c.as_bytes.ensures.value c.in_ok-send_all.ensures.ok in
    let named =
    subst (Appends first second) c.as_bytes-2.ensures.value c.in_ok-send_all-2.ensures.ok in
    on_err_too c.send_all-3.result _ _
    (λ (x : AppendsPrefix second third c.as_bytes-3.result.now). front_behind had first third
    (codes "npacd: ") (name ++ 10 ∷ []) begun
    (front_behind first second third name (10 ∷ []) named (subst (AppendsPrefix second third)
    c.as_bytes-3.ensures.value x)))
    c.send_all-3.ensures.err
